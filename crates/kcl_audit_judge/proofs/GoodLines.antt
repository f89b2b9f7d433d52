-- A good line's verdict is Ok, and conversely for an entry's line with numbers in the judge's ranges.
use Rattle.std.proofs.Common.{◌≡◌, ℕ, ◌-◌, ◌≤◌, Bool, true, false, List, [], ◌∷◌, refl, ap, ◌∙◌, arith}
use Rattle.std.specs.Prelude.{nat_lt, if◌then◌else◌, Ok, Err}
use Rattle.std.specs.List.{AllByRecursion}
use Rattle.std.proofs.lemmas.Bool.Decides.{nat_tests}
use Rattle.kds_defs.specs.declared.command.Command.{Command}
use Rattle.kds_defs.specs.declared.command.Command.TheVariants as command
use Rattle.kds_defs.specs.declared.entry.Entry.{Entry}
use Rattle.kds_defs.specs.declared.entry.Entry.TheVariants as entry
use Rattle.kds_defs.specs.declared.reply.Reply.{Reply}
use Rattle.kds_defs.specs.Decision.{Decision, Refused, Accepted}
use Rattle.kcl_laws.proofs.Added.{not_past}
use Rattle.kcl_laws.specs.ShownLines.{entry_line}
use Rattle.kds_defs.specs.Histories.{decide, lines_of}
use Rattle.kds_defs.specs.Journal.{Journal, Line}
use Rattle.kds_defs.specs.Kinds.{is_service}
use Rattle.kds_defs.specs.Leases.{tenure}
use Rattle.kds_defs.specs.Legal.{IsGood, IsInRange, last_clock, reach_in, told}
use Rattle.kds_defs.proofs.Walk.{Alone, IsAdded, Puts, Stored_one, each_line}
use Rattle.kcl_audit_streams.specs.declared.rule.Rule.TheVariants as rule
use Rattle.kcl_audit_streams.specs.Verdict.{IsFit, Verdict, gives, judged, same_entry, verdict}
use Rattle.kcl_audit_streams.proofs.SameEntries.{same_refl, same_so}
use Rattle.kcl_audit_streams.proofs.StreamTold.{AreTold, past, stream_lines}

-- ---- The lines of a command are those of entries

added_is : (log : Journal) (c actor : ℕ) (cmd : Command) (line : Line) → IsAdded log c actor cmd line
    → is_service cmd ≡ false
    → line ≡ entry_line c actor line.what
added_is log c actor _ _ (Alone _ _ _ (Puts name item s named fits)) lease = absurd cc
added_is log c actor _ _ (Stored_one name items old s number item among) lease = absurd cc
added_is log c actor _ _ _ lease = refl

of_lines : (c actor : ℕ) (d : Decision) → AllByRecursion (λ (l : Line). l ≡ entry_line c actor l.what) (lines_of d)
    → AreTold c actor d
of_lines c actor (Refused r) h = tt
of_lines c actor (Accepted lines reply) h = h

of_lease : (log : Journal) (c actor : ℕ) (cmd : Command) → is_service cmd ≡ false
    → AreTold c actor (decide log c actor cmd)
of_lease log c actor cmd lease =
    of_lines c actor (decide log c actor cmd)
    (each_line (λ (l : Line). l ≡ entry_line c actor l.what) log c actor cmd
    (λ line added. added_is log c actor cmd line added lease))

pub tells : (log : Journal) (c actor : ℕ) (change : Entry)
    → AreTold c actor (told log (entry_line c actor change) change)
tells log c actor (entry.Made s name count) = past _ _ _ _ _ (past _ _ _ _ _ (past _ _ _ _ _ (refl, tt)))
tells log c actor (entry.LeaseMade key origin) = of_lease log c actor (command.MakeLease key origin) refl
tells log c actor (entry.Taken key t counter owner) = of_lease log c actor (command.Take key (counter - 1) owner) refl
tells log c actor (entry.Renewed t counter) = of_lease log c actor (command.Renew t (counter - 1)) refl
tells log c actor (entry.Freed t counter) = of_lease log c actor (command.Free t (counter - 1)) refl
tells log c actor (entry.Opened t) = of_lease log c actor (command.OpenShard t) refl
tells log c actor (entry.Read t limit ended numbers) =
    of_lease log c actor (command.Read t (reach_in (tenure log t)) limit) refl
tells log c actor (entry.Given t) = of_lease log c actor (command.Give t) refl
tells log c actor (entry.Marked t counter target) = of_lease log c actor (command.Mark t (counter - 1) target) refl
tells log c actor (entry.LeaseCut key counter) = of_lease log c actor (command.CutLease key counter) refl
tells log c actor change = stream_lines log c actor change tt (λ e. cc)

-- ---- If the verdict is Ok, the line is good

in_range : (change : Entry) → IsFit change → IsInRange change
in_range (entry.Made s name count) h = h
in_range (entry.Put s sh n hash bytes key_bytes) h = h.0
in_range (entry.Kept s hours) h = h
in_range _ h = tt

one_line : (line : Line) (c actor : ℕ) (change : Entry) → line ≡ entry_line c actor line.what
    → same_entry line.what change ≡ true
    → line ≡ entry_line c actor change
one_line line c actor change is same = is ∙ ap (entry_line c actor) (same_so line.what change same)

-- Ok for an accepted command that leads to just this entry; otherwise the entry breaks the rule `Entry`.
abbrev meets : Bool → Verdict
meets b = if b then Ok tt else Err rule.Entry

by_test : (b : Bool) → meets b ≡ Ok tt → b ≡ true
by_test b h = grind arith

by_lines : (c actor : ℕ) (change : Entry) (lines : List Line) (reply : Reply)
    → AllByRecursion (λ (l : Line). l ≡ entry_line c actor l.what) lines → gives lines change ≡ true
    → Accepted lines reply ≡ Accepted (entry_line c actor change ∷ []) reply
by_lines c actor change [] reply h is = absurd cc
by_lines c actor change (line ∷ []) reply h is = ap (λ l. Accepted (l ∷ []) reply) (one_line line c actor change h.0 is)
by_lines c actor change (line ∷ next ∷ lines) reply h is = absurd cc

allowed_so : (c actor : ℕ) (change : Entry) (d : Decision) → AreTold c actor d → judged d change ≡ Ok tt
    → (reply : Reply)
    × (d ≡ Accepted (entry_line c actor change ∷ []) reply)
allowed_so c actor change (Refused r) h is = absurd cc
allowed_so c actor change (Accepted lines reply) h is =
    (reply, by_lines c actor change lines reply h (by_test (gives lines change) is))

good_by : (log : Journal) (c actor : ℕ) (change : Entry) (b : Bool) → nat_lt c (last_clock log) ≡ b → IsFit change
    → (if b then Err rule.Clock else judged (told log (entry_line c actor change) change) change) ≡ Ok tt
    → IsGood log (entry_line c actor change)
good_by log c actor change true is range h = absurd cc
good_by log c actor change false is range h =
    let so = allowed_so c actor change (told log (entry_line c actor change) change) (tells log c actor change) h in
    record { in_order = not_past (last_clock log) c is; in_range = in_range change range; reply = so.0; allowed = so.1 }

pub ok_good : (log : Journal) (c actor : ℕ) (change : Entry) → IsFit change
    → verdict log (entry_line c actor change) ≡ Ok tt
    → IsGood log (entry_line c actor change)
ok_good log c actor change range h = good_by log c actor change (nat_lt c (last_clock log)) refl range h

-- ---- If the line is good, the verdict is Ok

pub not_below : (a b : ℕ) → a ≤ b → nat_lt b a ≡ false
not_below a b h = grind (arith, nat_tests)

pub good_ok : (log : Journal) (line : Line) → IsGood log line → verdict log line ≡ Ok tt
good_ok log line g =
    rw (not_below (last_clock log) line.clock g.in_order) (ap (λ d. judged d line.what) g.allowed
    ∙ rw (same_refl line.what) refl)
