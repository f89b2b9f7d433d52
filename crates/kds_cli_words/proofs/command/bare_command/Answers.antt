use Rattle.std.proofs.Common.{rules, true, ap, ◌∙◌}
use Rattle.clap.specs.Simple.{app_of_fields}
use Rattle.clap.specs.Words.{App}
use Rattle.kds_cli_words.proofs.command.bare_command.Goals as goal

pub returns : goal.returns
returns c = record {
  app = ap app_of_fields c.disable_help_subcommand-bare.ensures
      ∙ ap (λ f. app_of_fields (record f { disable_help_subcommand = true })) c.disable_help_flag.ensures
      ∙ ap (λ f. app_of_fields (record f { disable_help_flag = true; disable_help_subcommand = true }))
      c.no_binary_name.ensures
      ∙ ap (λ (a : App). record a {
        top = record a.top {
          no_binary_name = true;
          disable_help_flag = true;
          disable_help_subcommand = true;
        };
      }) c.new.ensures.app;
  local = search rules;
}
