use Rattle.std.proofs.Common.{rules}
use Rattle.kds_reply_texts.proofs.refusals.refusal_name.Goals as goal

pub returns-in-NoStream : goal.returns-in-NoStream
returns-in-NoStream c = search rules
