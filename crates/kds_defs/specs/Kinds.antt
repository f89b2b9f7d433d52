-- Which commands are for the stream service and which for leases, and which answers each kind may get.
use Rattle.std.specs.Prelude.{Bool, true, false, ◌&&◌, not, Result, Ok, Err}
use Rattle.kds_defs.specs.declared.command.Command.{Command}
use Rattle.kds_defs.specs.declared.command.Command.TheVariants as command
use Rattle.kds_defs.specs.declared.reply.Refusal.{Refusal}
use Rattle.kds_defs.specs.declared.reply.Refusal.TheVariants as refusal
use Rattle.kds_defs.specs.declared.reply.Reply.{Reply}
use Rattle.kds_defs.specs.declared.reply.Reply.TheVariants as reply

-- Whether a command is for streams, shards or records, and not for leases.
abbrev pub is_service : (command : Command) → Bool
is_service command.Survey = false
is_service (command.MakeLease key origin) = false
is_service (command.Take key counter owner) = false
is_service (command.Renew tenure counter) = false
is_service (command.Free tenure counter) = false
is_service (command.OpenShard tenure) = false
is_service (command.Read tenure position limit) = false
is_service (command.Give tenure) = false
is_service (command.Mark tenure counter target) = false
is_service (command.CutLease key counter) = false
is_service _ = true

-- Whether a command of this kind changes streams, shards or records unless it is refused.
abbrev pub is_change : (command : Command) → Bool
is_change (command.Create name count) = true
is_change (command.Delete name) = true
is_change (command.Put name item) = true
is_change (command.PutMany name items) = true
is_change (command.Split name sh hash) = true
is_change (command.Merge name sh other) = true
is_change (command.Keep name hours raise) = true
is_change (command.Scale name target) = true
is_change (command.Enforce name is_on) = true
is_change _ = false

-- Whether a command only reads streams, shards or records.
abbrev pub is_query : (asked : Command) → Bool
is_query asked = is_service asked && not (is_change asked)

-- Whether a command names a tenure together with its row's counter or its reading position.
abbrev pub is_counted : (command : Command) → Bool
is_counted (command.Renew tenure counter) = true
is_counted (command.Free tenure counter) = true
is_counted (command.Read tenure position limit) = true
is_counted (command.Mark tenure counter target) = true
is_counted _ = false

-- Whether a command for the stream service may get this reply.
abbrev pub is_service_reply : (reply : Reply) → Bool
is_service_reply (reply.Survey shards rows) = false
is_service_reply (reply.Leased origin) = false
is_service_reply (reply.Taken tenure counter start) = false
is_service_reply (reply.Counter counter) = false
is_service_reply (reply.Read batch reach ended) = false
is_service_reply (reply.Given delivered) = false
is_service_reply _ = true

-- Whether a command for the stream service may get this refusal.
abbrev pub is_service_refusal : (refusal : Refusal) → Bool
is_service_refusal refusal.NoStream = true
is_service_refusal refusal.StreamThere = true
is_service_refusal refusal.NoShard = true
is_service_refusal refusal.ShardClosed = true
is_service_refusal refusal.NotAdjacent = true
is_service_refusal refusal.BadSplit = true
is_service_refusal refusal.BadNumber = true
is_service_refusal refusal.Expired = true
is_service_refusal refusal.PageExpired = true
is_service_refusal refusal.BadRetention = true
is_service_refusal refusal.Full = true
is_service_refusal refusal.Spent = true
is_service_refusal (refusal.Throttled sh) = true
is_service_refusal _ = false

-- Whether a command for the stream service may get this answer.
abbrev pub is_service_answer : (result : Result Reply Refusal) → Bool
is_service_answer (Ok r) = is_service_reply r
is_service_answer (Err r) = is_service_refusal r

-- Whether a command for leases may get this reply; only `Done` is shared with the stream service.
abbrev pub is_lease_reply : (reply : Reply) → Bool
is_lease_reply reply.Done = true
is_lease_reply (reply.Survey shards rows) = true
is_lease_reply (reply.Leased origin) = true
is_lease_reply (reply.Taken tenure counter start) = true
is_lease_reply (reply.Counter counter) = true
is_lease_reply (reply.Read batch reach ended) = true
is_lease_reply (reply.Given delivered) = true
is_lease_reply _ = false

-- Whether a command for leases may get this refusal; only `Spent` is shared with the stream service.
abbrev pub is_lease_refusal : (refusal : Refusal) → Bool
is_lease_refusal refusal.NoLease = true
is_lease_refusal refusal.NoTenure = true
is_lease_refusal refusal.NotYours = true
is_lease_refusal (refusal.Lost tenure) = true
is_lease_refusal (refusal.Moved counter) = true
is_lease_refusal refusal.Ended = true
is_lease_refusal (refusal.Beyond delivered) = true
is_lease_refusal (refusal.Below least) = true
is_lease_refusal refusal.NotAtEnd = true
is_lease_refusal (refusal.ParentsOpen key) = true
is_lease_refusal refusal.NotOpened = true
is_lease_refusal refusal.OpenedBefore = true
is_lease_refusal refusal.NothingPending = true
is_lease_refusal refusal.TooManyPending = true
is_lease_refusal (refusal.OutOfPlace reach) = true
is_lease_refusal refusal.ShardGone = true
is_lease_refusal refusal.LeaseThere = true
is_lease_refusal refusal.ShardListed = true
is_lease_refusal refusal.Spent = true
is_lease_refusal _ = false

-- Whether a command for leases may get this answer.
abbrev pub is_lease_answer : (result : Result Reply Refusal) → Bool
is_lease_answer (Ok r) = is_lease_reply r
is_lease_answer (Err r) = is_lease_refusal r
