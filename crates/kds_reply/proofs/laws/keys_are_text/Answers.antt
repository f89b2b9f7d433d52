use Rattle.kds_reply.proofs.KeyLemmas.{answers_text}
use Rattle.kds_reply.proofs.laws.keys_are_text.Goals as goal

pub returns : goal.returns
returns c = answers_text
