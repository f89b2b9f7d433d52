-- Each row in the journal of a drill was made with the origin TRIM_HORIZON.
use Rattle.std.proofs.Common.{◌≡◌, ◌⊎◌, inl, inr, ℕ, Bool, true, false, List, [], ◌∷◌, Option, Some, None, refl, ap}
use Rattle.std.specs.Prelude.{if◌then◌else◌}
use Rattle.std.specs.List.{AllByRecursion}
use Rattle.std.proofs.lemmas.Bool.{cond_both}
use Rattle.kds_base.specs.declared.lease_key.ShardRef.{ShardRef}
use Rattle.kds_defs.specs.declared.command.Command.{Command}
use Rattle.kds_defs.specs.declared.command.Origin.{Origin}
use Rattle.kds_defs.specs.declared.command.Origin.TheVariants as origin
use Rattle.kds_defs.specs.declared.command.Turn.{Turn}
use Rattle.kds_defs.specs.declared.entry.Entry.{Entry}
use Rattle.kds_defs.specs.declared.entry.Entry.TheVariants as entry
use Rattle.kds_defs.specs.declared.reply.Row.{Row}
use Rattle.kds_defs.specs.Histories.{journal}
use Rattle.kds_defs.specs.Journal.{Line, Journal}
use Rattle.kds_defs.specs.Keys.{same_key}
use Rattle.kds_defs.specs.LeaseCommands.{counting_origin, follows_parent}
use Rattle.kds_defs.specs.Leases.{origin_after, origin_of, row}
use Rattle.kds_defs.proofs.Walk as walks
use Rattle.kds_defs.proofs.Walk.{IsAdded, Alone, each_journal}
use Rattle.kcl_laws.specs.RowLines.{IsToldRow, Making, last_bound, making}
use Rattle.kcl_drill_laws.specs.Closed.{AreDrillTurns, AreFromHorizon, IsDrillCommand}

-- If the entry makes a row, the row has the origin TRIM_HORIZON.
abbrev IsSoMade : Entry → Type 0
IsSoMade (entry.LeaseMade key beginning) = beginning ≡ origin.TrimHorizon
IsSoMade _ = Unit {0}

-- Each line that makes a row gives it the origin TRIM_HORIZON.
abbrev AreSoMade : List Line → Type 0
AreSoMade ls = AllByRecursion (λ line. IsSoMade line.what) ls

-- ---- The lines that a command adds

-- A new row asked to have the origin TRIM_HORIZON gets it, also after a parent.
pub counts_so : (log : Journal) (key : ShardRef) (beginning : Origin) → beginning ≡ origin.TrimHorizon
    → counting_origin log key beginning ≡ origin.TrimHorizon
counts_so log key beginning is =
    cond_both (follows_parent log key) origin.TrimHorizon beginning (λ o. o ≡ origin.TrimHorizon) (λ follows. refl)
    (λ new. is)

command_adds : (log : Journal) (c actor : ℕ) (command : Command) (line : Line) → IsAdded log c actor command line
    → IsDrillCommand command → IsSoMade line.what
command_adds log c actor _ _ (Alone _ _ _ (walks.Makes key beginning)) is = counts_so log key beginning is
command_adds log c actor _ _ _ is = tt

-- ---- All lines of the journal

journal_so : (h : List Turn) → AreDrillTurns h → AreSoMade (journal h)
journal_so h are =
    each_journal (λ line. IsSoMade line.what) (λ turn. IsDrillCommand turn.what)
    (λ log c turn is line added. command_adds log c turn.by turn.what line added is)
    h are

IsNoneOrSo : Option Origin → Type 0
IsNoneOrSo o = (o ≡ None) ⊎ (o ≡ Some origin.TrimHorizon)

either_so : (b : Bool) (x y : Option Origin) → IsNoneOrSo x → IsNoneOrSo y → IsNoneOrSo (if b then x else y)
either_so true x y is other = is
either_so false x y is other = other

after_so : (e : Entry) (key : ShardRef) (o : Option Origin) → IsSoMade e → IsNoneOrSo o
    → IsNoneOrSo (origin_after e key o)
unfolding IsNoneOrSo
after_so (entry.LeaseMade k beginning) key o is is_before =
    either_so (same_key k key) (Some beginning) o (inr (ap Some is)) is_before
after_so (entry.LeaseCut k counter) key o is is_before = either_so (same_key k key) None o (inl refl) is_before
after_so _ key o is is_before = is_before

origin_so : (log : Journal) (key : ShardRef) → AreSoMade log → IsNoneOrSo (origin_of log key)
unfolding IsNoneOrSo
origin_so [] key are = inl refl
origin_so (line ∷ log) key are = after_so line.what key (origin_of log key) are.0 (origin_so log key are.1)

-- The law, taken as given, that a key whose row wasn't made, or was removed, has no row.
abbrev pub Removes : Type 0
Removes = (log : Journal) (key : ShardRef) → making (last_bound log key) ≡ None → row log key ≡ None

-- The law, taken as given, that a row that was made is as the lines about it determine.
abbrev pub Makes : Type 0
Makes = (log : Journal) (key : ShardRef) (m : Making) → making (last_bound log key) ≡ Some m → IsToldRow log key m

by_making : (log : Journal) (key : ShardRef) (r : Row) → Removes → Makes → IsNoneOrSo (origin_of log key)
    → row log key ≡ Some r → (m : Option Making)
    → making (last_bound log key) ≡ m → origin_of log key ≡ Some origin.TrimHorizon
unfolding IsNoneOrSo
by_making log key r removes makes (inr is) there m e = is
by_making log key r removes makes (inl none) there None e = let gone = removes log key e in absurd cc
by_making log key r removes makes (inl none) there (Some m) e = let is_told = (makes log key m e).origin in absurd cc

pub from_horizon : Removes → Makes → (h : List Turn) → AreDrillTurns h → AreFromHorizon (journal h)
from_horizon removes makes h are key r there =
    by_making (journal h) key r removes makes (origin_so (journal h) key (journal_so h are)) there
    (making (last_bound (journal h) key)) refl
