-- Adding a subcommand to a command adds it to its description.
use Rattle.std.proofs.Common.{Bool, ap, ap₂, ◌∙◌}
use Rattle.std.specs.Prelude.{◌||◌}
use Rattle.clap.specs.Words.{App, AddsSubcommand, with_subcommand}
use Rattle.clap.specs.declared.builder.command.Command.{Command}
use Rattle.kds_cli_words.specs.Apps.{HasApp}

pub added : (old sub new : Command) (a b : App) → AddsSubcommand old sub new → HasApp old a → HasApp sub b
    → HasApp new (with_subcommand a b.top)
added old sub new a b h is sub_is =
    record {
      app = h.shape sub_is.local ∙ ap₂ with_subcommand is.app (ap (λ (x : App). x.top) sub_is.app);
      local = h.globals ∙ ap₂ (λ (x y : Bool). x || y) is.local sub_is.local;
    }
