-- What it means that the partition keys in answers are printed unchanged.
use Rattle.std.specs.Prelude.{◌≡◌, List, [], Result, Ok, Err}
use Rattle.std.specs.List.{AllByRecursion}
use Rattle.std.specs.Str.Lossy.{utf8_lossy}
use Rattle.kds_defs.specs.declared.reply.Refusal.{Refusal}
use Rattle.kds_defs.specs.declared.reply.Reply.{Reply}
use Rattle.kds_defs.specs.declared.reply.Reply.TheVariants.{Records, Read}
use Rattle.kds_defs.specs.declared.reply.Stored.{Stored}

-- The records in a reply to GetRecords or of a tenure's read.
abbrev pub records_in : (reply : Reply) → List Stored
records_in (Records batch next behind children) = batch
records_in (Read batch reach ended) = batch
records_in _ = []

-- The records in an answer; a refusal has none.
abbrev pub records_of : (result : Result Reply Refusal) → List Stored
records_of (Ok reply) = records_in reply
records_of (Err refusal) = []

-- The record's partition key is valid UTF-8, so that no byte is replaced.
abbrev pub IsPrintedWhole : (r : Stored) → Type 0
IsPrintedWhole r = utf8_lossy r.key ≡ r.key

-- All partition keys in the answer are printed unchanged.
abbrev pub ArePrintedWhole : (answer : Result Reply Refusal) → Type 0
ArePrintedWhole answer = AllByRecursion IsPrintedWhole (records_of answer)
