use Rattle.std.proofs.Common.{rules, ◌≡◌, [], sym, ap, ap₂, ◌∙◌}
use Rattle.std.specs.Prelude.{map, string_bytes}
use Rattle.clap.specs.Words.{fault_of, is_simple, is_simple_and_free, subcommand_of}
use Rattle.kds_cli_words.specs.Apps.{kds_app}
use Rattle.kds_cli_words.specs.Words.{texts_of}
use Rattle.kds_cli_words.specs.Parsed.{task_in}
use Rattle.kds_cli_words.proofs.Exact.{free, simple}
use Rattle.kds_cli_words.proofs.Reading.{read_words, refused}
use Rattle.kds_cli_words.proofs.words.parse_task.Goals as goal

pub returns-in-Ok-clause-task : goal.returns-in-Ok-clause-task
returns-in-Ok-clause-task c =
    let words = c.args.words.now.items in
    let app = c.in_ok-command.ensures.app in
    let texts : map string_bytes c.as_slice.result.now ≡ texts_of words = search rules in
    let fine : fault_of kds_app (texts_of words) ≡ [] =
    sym (ap₂ fault_of app texts) ∙ c.in-Ok.ensures.kinds (ap is_simple_and_free app ∙ free) in
    c.task_in.ensures.task
    ∙ ap task_in ((c.in-Ok.ensures.matches (ap is_simple app ∙ simple)).1 ∙ ap₂ subcommand_of app texts)
    ∙ read_words words c.requires.words c.requires.few fine

pub returns-clause-task : goal.returns-clause-task
returns-clause-task c =
    let words = c.args.words.now.items in
    let app = c.in_ok-command.ensures.app in
    let texts : map string_bytes c.as_slice.result.now ≡ texts_of words = search rules in
    refused words _ c.kind.result _ c.requires.words c.requires.few (ap₂ fault_of app texts) c.kind.ensures
    (search rules)
    (c.in-Err.ensures.kinds (ap is_simple_and_free app ∙ free))
