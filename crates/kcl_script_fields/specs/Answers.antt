-- The texts of answers to lease commands.
use Rattle.std.specs.Prelude.{ℕ, List, [], ◌∷◌, ◌++◌, length, flat_map, codes, decimal, Bool, if◌then◌else◌, Option}
use Rattle.std.specs.Prelude.{Some, None, Result, Ok, Err}
use Rattle.std.specs.List.{join_by}
use Rattle.kds_base.specs.declared.lease_key.Checkpoint.{Checkpoint}
use Rattle.kds_base.specs.declared.lease_key.Checkpoint.TheVariants as checkpoint
use Rattle.kds_defs.specs.declared.reply.Refusal.{Refusal}
use Rattle.kds_defs.specs.declared.reply.Refusal.TheVariants as refusal
use Rattle.kds_defs.specs.declared.reply.Reply.{Reply}
use Rattle.kds_defs.specs.declared.reply.Reply.TheVariants as reply
use Rattle.kds_defs.specs.declared.reply.Stored.{Stored}
use Rattle.kds_defs.specs.Values.{RowValue}
use Rattle.kcl_script_fields.specs.Fields.{worker_text, key_text}

-- ---- Replies to accepted commands

-- The text TRIM_HORIZON, a sequence number, or SHARD_END.
abbrev pub checkpoint_text : (checkpoint : Checkpoint) → List ℕ
checkpoint_text checkpoint.TrimHorizon = codes "TRIM_HORIZON"
checkpoint_text (checkpoint.At q) = decimal q
checkpoint_text checkpoint.ShardEnd = codes "SHARD_END"

-- The text of a row's owner, `-` without one.
abbrev pub owner_text : (n : Option ℕ) → List ℕ
owner_text None = codes "-"
owner_text (Some n) = worker_text n

-- A space and `KEY OWNER COUNTER CHECKPOINT SWITCHES`.
abbrev pub row_text : (r : RowValue) → List ℕ
row_text r = 32 ∷ (key_text r.key
    ++ 32 ∷ (owner_text r.owner
    ++ 32 ∷ (decimal r.counter ++ 32 ∷ (checkpoint_text r.checkpoint ++ 32 ∷ decimal r.switches))))

-- The texts of the rows, separated by `;`.
abbrev pub rows_text : (rows : List RowValue) → List ℕ
rows_text rows = join_by row_text (codes ";") rows

-- A space and the record's sequence number.
abbrev pub number_text : (s : Stored) → List ℕ
number_text s = 32 ∷ decimal s.seq

-- A space and `end` if the read ended the shard, or else `more`.
abbrev pub end_text : (ended : Bool) → List ℕ
end_text ended = if ended then codes " end" else codes " more"

-- `ok N` and each of the N rows if `long`, or else `ok SHARDS ROWS` with counts of listed shards and rows.
abbrev pub survey_text : (long : Bool) (shards : ℕ) (rows : List RowValue) → List ℕ
survey_text long shards rows =
    if long then codes "ok " ++ (decimal (length rows) ++ rows_text rows) else codes "ok "
    ++ (decimal shards ++ 32 ∷ decimal (length rows))

-- The text of a lease command's reply, with each row if `long`; empty for other replies.
abbrev pub reply_text : (long : Bool) (reply : Reply) → List ℕ
reply_text long reply.Done = codes "ok"
reply_text long (reply.Leased origin) = codes "ok"
reply_text long (reply.Survey shards rows) = survey_text long (length shards) rows
reply_text long (reply.Taken tenure counter start) =
    codes "ok tenure " ++ (decimal tenure
    ++ (codes " counter " ++ (decimal counter ++ (codes " start " ++ checkpoint_text start))))
reply_text long (reply.Counter counter) = codes "ok counter " ++ decimal counter
reply_text long (reply.Read batch reach ended) =
    codes "ok reach " ++ (decimal reach ++ (end_text ended ++ flat_map number_text batch))
reply_text long (reply.Given delivered) = codes "ok delivered " ++ decimal delivered
reply_text long _ = []

-- ---- Refusals of commands

-- The name of a refusal in an answer's text.
abbrev pub refusal_name : (refusal : Refusal) → List ℕ
refusal_name refusal.NoStream = codes "NoStream"
refusal_name refusal.StreamThere = codes "StreamThere"
refusal_name refusal.NoShard = codes "NoShard"
refusal_name refusal.ShardClosed = codes "ShardClosed"
refusal_name refusal.NotAdjacent = codes "NotAdjacent"
refusal_name refusal.BadSplit = codes "BadSplit"
refusal_name refusal.BadNumber = codes "BadNumber"
refusal_name refusal.BadRetention = codes "BadRetention"
refusal_name refusal.Expired = codes "Expired"
refusal_name refusal.PageExpired = codes "PageExpired"
refusal_name refusal.Full = codes "Full"
refusal_name refusal.Spent = codes "Spent"
refusal_name (refusal.Throttled sh) = codes "Throttled"
refusal_name refusal.NoLease = codes "NoLease"
refusal_name refusal.NoTenure = codes "NoTenure"
refusal_name refusal.NotYours = codes "NotYours"
refusal_name (refusal.Lost tenure) = codes "Lost"
refusal_name (refusal.Moved counter) = codes "Moved"
refusal_name refusal.Ended = codes "Ended"
refusal_name (refusal.Beyond delivered) = codes "Beyond"
refusal_name (refusal.Below least) = codes "Below"
refusal_name refusal.NotAtEnd = codes "NotAtEnd"
refusal_name (refusal.ParentsOpen key) = codes "ParentsOpen"
refusal_name refusal.NotOpened = codes "NotOpened"
refusal_name refusal.OpenedBefore = codes "OpenedBefore"
refusal_name refusal.NothingPending = codes "NothingPending"
refusal_name refusal.TooManyPending = codes "TooManyPending"
refusal_name (refusal.OutOfPlace reach) = codes "OutOfPlace"
refusal_name refusal.ShardGone = codes "ShardGone"
refusal_name refusal.LeaseThere = codes "LeaseThere"
refusal_name refusal.ShardListed = codes "ShardListed"

-- A space and the refusal's value, or nothing if it has none.
abbrev pub refusal_value : (refusal : Refusal) → List ℕ
refusal_value (refusal.Throttled sh) = 32 ∷ decimal sh
refusal_value (refusal.Lost tenure) = 32 ∷ decimal tenure
refusal_value (refusal.Moved counter) = 32 ∷ decimal counter
refusal_value (refusal.Beyond delivered) = 32 ∷ decimal delivered
refusal_value (refusal.Below least) = 32 ∷ decimal least
refusal_value (refusal.ParentsOpen key) = 32 ∷ key_text key
refusal_value (refusal.OutOfPlace reach) = 32 ∷ decimal reach
refusal_value _ = []

-- The word `refused`, the refusal's name, and its value if any.
abbrev pub refusal_text : (r : Refusal) → List ℕ
refusal_text r = codes "refused " ++ (refusal_name r ++ refusal_value r)

-- The text of an answer; `long` says whether a survey's text has each row.
abbrev pub answer_text : (long : Bool) (result : Result Reply Refusal) → List ℕ
answer_text long (Ok r) = reply_text long r
answer_text long (Err r) = refusal_text r
