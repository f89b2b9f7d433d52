-- A tenure's state is the one that the lines about the tenure determine.
use Rattle.std.proofs.Common.{◌≡◌, ℕ, ◌+◌, Bool, true, false, List, [], ◌∷◌, ◌++◌, length, Option, Some, None, refl, ap}
use Rattle.std.proofs.Common.{◌∙◌, arith}
use Rattle.std.specs.Prelude.{◌==◌, ◌||◌, cond, if◌then◌else◌}
use Rattle.std.specs.Option.{option_map}
use Rattle.std.specs.List.{find}
use Rattle.kds_base.specs.declared.lease_key.ShardRef.{ShardRef}
use Rattle.kds_defs.specs.declared.entry.Entry.{Entry}
use Rattle.kds_defs.specs.declared.entry.Entry.TheVariants as entry
use Rattle.kds_defs.specs.Journal.{Line, Journal}
use Rattle.kds_defs.specs.Leases.{TenureState, checkpoint_in, new_tenure, row, taken_count, tenure, tenure_after}
use Rattle.kds_defs.specs.Leases.{with_given, with_opened, with_read}
use Rattle.kcl_laws.specs.TenureLines.{Told, all_told, begins, givings, newer_than, reads_told, since_taking, taken_key}
use Rattle.kcl_laws.specs.TenureLines.{taking, was_opened, IsToldTenure}

-- The state of tenure `t` that `begun` began and the lines `ls` since then changed.
abbrev told_by : ℕ → List Told → Told → TenureState
told_by t ls begun =
    record {
      by = begun.by;
      key = taken_key begun.what;
      start = checkpoint_in (row begun.before (taken_key begun.what));
      opened = was_opened t ls;
      reads = reads_told t ls;
      given = length (givings t ls);
    }

-- The state of tenure `t` that the lines determine, or `None` if none of them begins it.
abbrev told : ℕ → List Told → Option TenureState
told t ls = option_map (told_by t (newer_than t ls)) (find (begins t) ls)

-- The line with this entry and actor, after the lines of `log`.
abbrev here : ℕ → Journal → Entry → Told
here actor log e = record { by = actor; what = e; before = log }

-- ---- One more line, which is the tenure's or isn't

began : (t actor : ℕ) (log : Journal) (k : ShardRef) (n c owner : ℕ) (ls : List Told) (b : Bool)
    (old : Option TenureState) → old ≡ told t ls
    → (if b then Some (new_tenure actor k (checkpoint_in (row log k))) else old)
    ≡ option_map (told_by t (if b then [] else here actor log (entry.Taken k n c owner) ∷ newer_than t ls))
    (cond b (Some (here actor log (entry.Taken k n c owner))) (find (begins t) ls))
began t actor log k n c owner ls true old is = refl
began t actor log k n c owner ls false old is = is

opened : (t : ℕ) (ls : List Told) (b : Bool) (o : Option Told)
    → (if b then option_map with_opened (option_map (told_by t ls) o) else option_map (told_by t ls) o)
    ≡ option_map (λ x. record (told_by t ls x) { opened = b || was_opened t ls }) o
opened t ls true None = refl
opened t ls false None = refl
opened t ls true (Some x) = refl
opened t ls false (Some x) = refl

read : (t : ℕ) (ls : List Told) (numbers : List ℕ) (ended : Bool) (b : Bool) (o : Option Told)
    → (if b then option_map (with_read numbers ended) (option_map (told_by t ls) o) else option_map (told_by t ls) o)
    ≡ option_map (λ x. record (told_by t ls x) {
      reads = if b then reads_told t ls
          ++ (record { numbers = numbers; ended = ended } ∷ []) else reads_told t ls;
    }) o
read t ls numbers ended true None = refl
read t ls numbers ended false None = refl
read t ls numbers ended true (Some x) = refl
read t ls numbers ended false (Some x) = refl

gave : (t : ℕ) (ls : List Told) (l : Told) (b : Bool) (o : Option Told)
    → (if b then option_map with_given (option_map (told_by t ls) o) else option_map (told_by t ls) o)
    ≡ option_map (λ x. record (told_by t ls x) { given = length (cond b (l ∷ givings t ls) (givings t ls)) }) o
gave t ls l true None = refl
gave t ls l false None = refl
gave t ls l true (Some x) =
    let one : length (givings t ls) + 1 ≡ length (l ∷ givings t ls) = omega arith in
    ap (λ n. Some (record (told_by t ls x) { given = n })) one
gave t ls l false (Some x) = refl

told_line : (t actor : ℕ) (log : Journal) (line : Line) (e : Entry) (ls : List Told) → line.by ≡ actor
    → tenure log t ≡ told t ls → tenure_after log line e t (tenure log t) ≡ told t (here actor log e ∷ ls)
told_line t actor log line (entry.Taken k n c owner) ls same is =
    ap (λ w. if t == taken_count log + 1 then Some (new_tenure w k (checkpoint_in (row log k))) else tenure log t) same
    ∙ began t actor log k n c owner ls (t == taken_count log + 1) (tenure log t) is
told_line t actor log line (entry.Opened u) ls same is =
    ap (λ o. if u == t then option_map with_opened o else o) is
    ∙ opened t (newer_than t ls) (u == t) (find (begins t) ls)
told_line t actor log line (entry.Read u limit ended numbers) ls same is =
    ap (λ o. if u == t then option_map (with_read numbers ended) o else o) is
    ∙ read t (newer_than t ls) numbers ended (u == t) (find (begins t) ls)
told_line t actor log line (entry.Given u) ls same is =
    ap (λ o. if u == t then option_map with_given o else o) is
    ∙ gave t (newer_than t ls) (here actor log (entry.Given u)) (u == t) (find (begins t) ls)
told_line t actor log line _ ls same is = is

-- ---- All lines

all : (log : Journal) (t : ℕ) → tenure log t ≡ told t (all_told log)
all [] t = refl
all (line ∷ log) t = told_line t line.by log line line.what (all_told log) refl (all log t)

pub never : (log : Journal) (t : ℕ) → taking log t ≡ None → tenure log t ≡ None
never log t is = all log t ∙ ap (λ o. option_map (told_by t (since_taking log t)) o) is

-- The take and the lines since then determine the tenure.
pub begun : (log : Journal) (t : ℕ) (l : Told) → taking log t ≡ Some l → IsToldTenure log t l
begun log t l is =
    record {
      told = told_by t (since_taking log t) l;
      there = all log t ∙ ap (λ o. option_map (told_by t (since_taking log t)) o) is;
      by = refl;
      key = refl;
      start = refl;
      opened = refl;
      reads = refl;
      given = refl;
    }
