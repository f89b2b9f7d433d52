-- The judge's verdict on one entry: good, or the rule that it breaks.
use Rattle.std.specs.Prelude.{ℕ, ◌+◌, ◌^◌, ◌<◌, ◌≤◌, Bool, true, false, ◌==◌, ◌&&◌, nat_eq, nat_lt, if◌then◌else◌, List}
use Rattle.std.specs.Prelude.{[], ◌∷◌, Result, Ok, Err}
use Rattle.std.specs.Cmp.Lexicographic.{pointwise}
use Rattle.kds_defs.specs.declared.command.Origin.{Origin}
use Rattle.kds_defs.specs.declared.command.Origin.TheVariants as origin
use Rattle.kds_defs.specs.declared.command.Target.{Target}
use Rattle.kds_defs.specs.declared.command.Target.TheVariants as target
use Rattle.kds_defs.specs.declared.entry.Entry.{Entry}
use Rattle.kds_defs.specs.declared.entry.Entry.TheVariants as entry
use Rattle.kds_defs.specs.declared.limits.TheConstants.{RECORD_BYTES}
use Rattle.kds_defs.specs.Decision.{Decision, Refused, Accepted}
use Rattle.kds_defs.specs.Journal.{Line, Journal}
use Rattle.kds_defs.specs.Keys.{same_key}
use Rattle.kds_defs.specs.Lawful.{IsRetention, IsShardCount}
use Rattle.kds_defs.specs.Legal.{last_clock, told}
use Rattle.kcl_audit_streams.specs.declared.rule.Rule.{Rule}
use Rattle.kcl_audit_streams.specs.declared.rule.Rule.TheVariants as rule

-- Ok for a good entry, or the rule that it breaks.
abbrev pub Verdict : Type 0
Verdict = Result (Unit {0}) Rule

-- Whether two lists of numbers, or texts, are equal.
abbrev pub same_list : (a b : List ℕ) → Bool
same_list a b = pointwise nat_eq a b

-- Whether two flags are equal.
abbrev pub same_flag : (a b : Bool) → Bool
same_flag true b = b
same_flag false true = false
same_flag false false = true

-- Whether two targets are equal.
abbrev pub same_target : (a b : Target) → Bool
same_target target.End target.End = true
same_target (target.At q) (target.At p) = q == p
same_target _ _ = false

-- Whether two origins are equal.
abbrev pub same_origin : (a b : Origin) → Bool
same_origin origin.TrimHorizon origin.TrimHorizon = true
same_origin origin.Latest origin.Latest = true
same_origin (origin.Time m) (origin.Time n) = m == n
same_origin _ _ = false

-- Whether two entries are equal, in kind and values.
abbrev pub same_entry : (a b : Entry) → Bool
same_entry (entry.Made s name count) (entry.Made s' name' count') =
    (s == s') && (same_list name name' && (count == count'))
same_entry (entry.Gone s) (entry.Gone s') = s == s'
same_entry (entry.Put s sh number hash bytes key_bytes) (entry.Put s' sh' number' hash' bytes' key_bytes') =
    (s == s') && ((sh == sh')
    && ((number == number') && ((hash == hash') && ((bytes == bytes') && (key_bytes == key_bytes')))))
same_entry (entry.Split s sh key_hash number low high) (entry.Split s' sh' key_hash' number' low' high') =
    (s == s') && ((sh == sh')
    && ((key_hash == key_hash') && ((number == number') && ((low == low') && (high == high')))))
same_entry (entry.Merged s sh other number child) (entry.Merged s' sh' other' number' child') =
    (s == s') && ((sh == sh') && ((other == other') && ((number == number') && (child == child'))))
same_entry (entry.Kept s hours) (entry.Kept s' hours') = (s == s') && (hours == hours')
same_entry (entry.Enforced s is_on) (entry.Enforced s' is_on') = (s == s') && same_flag is_on is_on'
same_entry (entry.LeaseMade key beginning) (entry.LeaseMade key' beginning') =
    same_key key key' && same_origin beginning beginning'
same_entry (entry.Taken key t counter owner) (entry.Taken key' t' counter' owner') =
    same_key key key' && ((t == t') && ((counter == counter') && (owner == owner')))
same_entry (entry.Renewed t counter) (entry.Renewed t' counter') = (t == t') && (counter == counter')
same_entry (entry.Freed t counter) (entry.Freed t' counter') = (t == t') && (counter == counter')
same_entry (entry.Opened t) (entry.Opened t') = t == t'
same_entry (entry.Read t limit ended numbers) (entry.Read t' limit' ended' numbers') =
    (t == t') && ((limit == limit') && (same_flag ended ended' && same_list numbers numbers'))
same_entry (entry.Given t) (entry.Given t') = t == t'
same_entry (entry.Marked t counter goal) (entry.Marked t' counter' goal') =
    (t == t') && ((counter == counter') && same_target goal goal')
same_entry (entry.LeaseCut key counter) (entry.LeaseCut key' counter') = same_key key key' && (counter == counter')
same_entry _ _ = false

-- Whether there is exactly one line, with this entry.
abbrev pub gives : (line : List Line) (change : Entry) → Bool
gives (line ∷ []) change = same_entry line.what change
gives _ change = false

-- The verdict by the decision on the entry's command: it must give this entry alone.
abbrev pub judged : (decision : Decision) (change : Entry) → Verdict
judged (Refused r) change = Err (rule.By r)
judged (Accepted lines reply) change = if gives lines change then Ok tt else Err rule.Entry

-- The verdict on a line: its clock mustn't fall, and its command must give its entry alone.
abbrev pub verdict : (log : Journal) (line : Line) → Verdict
verdict log line = if nat_lt line.clock (last_clock log) then Err rule.Clock else judged (told log line line.what)
    line.what

-- The verdict on the last line `end CLOCK`: the clock mustn't fall.
abbrev pub end_verdict : (log : Journal) (clock : ℕ) → Verdict
end_verdict log clock = if nat_lt clock (last_clock log) then Err rule.Clock else Ok tt

-- The entry's numbers are in the ranges on which the judge relies.
abbrev pub IsFit : (entry : Entry) → Type 0
IsFit (entry.Made s name count) = IsShardCount count
IsFit (entry.Put s sh number hash bytes key_bytes) = (hash < 2 ^ 128) × (bytes + key_bytes ≤ RECORD_BYTES)
IsFit (entry.Kept s hours) = IsRetention hours
IsFit (entry.Taken key t counter owner) = 1 ≤ counter
IsFit (entry.Renewed t counter) = 1 ≤ counter
IsFit (entry.Freed t counter) = 1 ≤ counter
IsFit (entry.Marked t counter goal) = 1 ≤ counter
IsFit _ = Unit {0}
