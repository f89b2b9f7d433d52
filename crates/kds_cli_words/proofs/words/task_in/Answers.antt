use Rattle.std.proofs.Common.{◌∙◌}
use Rattle.clap.specs.Words.{found_of}
use Rattle.kds_cli_words.proofs.Reading.{told_read}
use Rattle.kds_cli_words.proofs.words.task_in.Goals as goal

pub returns-clause-task : goal.returns-clause-task
returns-clause-task c =
    c.told_with.ensures.task
    ∙ told_read c.args.matches.now c.in_ok-name.name.now (found_of c.in_ok-name.found.now) c.in_ok-name.ensures.name
    c.in_ok-name.ensures.rows
