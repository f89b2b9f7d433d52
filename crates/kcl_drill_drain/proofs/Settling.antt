-- If no record is left from a position on, the checkpoint is at the shard's last record.
use Rattle.std.proofs.Common.{◌≡◌, ℕ, zero, suc, ◌+◌, ◌-◌, ◌<◌, ◌≤◌, max, Bool, true, false, List, [], ◌∷◌, ◌++◌}
use Rattle.std.proofs.Common.{length, map, Option, Some, refl, sym, ap, subst, ◌∙◌, arith, inl, inr}
use Rattle.std.specs.Prelude.{nat_le, cond, slice_get}
use Rattle.std.specs.Option.{option_map}
use Rattle.std.proofs.lemmas.List.{append-nil, length-append}
use Rattle.std.proofs.lemmas.Bool.{cond_both}
use Rattle.kds_base.specs.declared.lease_key.Checkpoint.TheVariants.{TrimHorizon, At}
use Rattle.kds_base.proofs.Facts.{le_so, above_so}
use Rattle.kds_defs.specs.Records.{Logged, beginning, numbers_of, position_after, stored}
use Rattle.kds_defs.specs.declared.reply.Stored.{Stored}
use Rattle.kds_defs.proofs.Counted.{length_stored}
use Rattle.kcl_defs.specs.Consumers.{last_number_in}
use Rattle.kcl_drill.specs.Summed.{last_checkpoint}
use Rattle.kcl_laws.specs.Recorded.{HasFrom}
use Rattle.kcl_drill_summary.proofs.BatchLemmas.{IsUp, from, all_from, up_weaker, up_from, up_kept, parts, position_up}
use Rattle.kcl_drill_summary.proofs.BatchLemmas.{from_twice}

-- ---- When the drain of a row begins

none_first : (p : ℕ) (r : Logged) (rs : List Logged) (b : Bool) → nat_le p r.seq ≡ b
    → cond b (r ∷ from p rs) (from p rs) ≡ [] → (r.seq < p) × (from p rs ≡ [])
none_first p r rs true is none = absurd cc
none_first p r rs false is none = (above_so p r.seq is, none)

-- If no record is above `q` and some record is at or above it, the checkpoint at `q` is the last.
pub settled_at : (q p : ℕ) (rs : List Logged) → IsUp p rs → HasFrom q rs → from (q + 1) rs ≡ []
    → At q ≡ last_checkpoint rs
settled_at q p [] up has none = absurd has
settled_at q p (r ∷ []) up (inl le) none =
    let below = (none_first (q + 1) r [] (nat_le (q + 1) r.seq) refl none).0 in
    ap At (equal q r.seq le below)
  where
    equal : (a b : ℕ) → a ≤ b → b < a + 1 → a ≡ b
    equal a b le below = omega arith
settled_at q p (r ∷ []) up (inr has) none = absurd has
settled_at q p (r ∷ s ∷ rs) up (inl le) none =
    let rest = (none_first (q + 1) r (s ∷ rs) (nat_le (q + 1) r.seq) refl none).1 in
    absurd (omega (arith, le, up.1.0, (none_first (q + 1) s rs (nat_le (q + 1) s.seq) refl rest).0))
settled_at q p (r ∷ s ∷ rs) up (inr has) none =
    settled_at q (r.seq + 1) (s ∷ rs) up.1 has (none_first (q + 1) r (s ∷ rs) (nat_le (q + 1) r.seq) refl none).1

pub settled_horizon : (p : ℕ) (rs : List Logged) → IsUp p rs → from 0 rs ≡ [] → TrimHorizon ≡ last_checkpoint rs
settled_horizon p rs up none = ap last_checkpoint (sym none ∙ all_from 0 rs (up_weaker 0 p rs (omega arith) up))

-- ---- After the mark at the last record of a batch

from_head : (p : ℕ) (r : Logged) (rs : List Logged) (x : Logged) (xs : List Logged) (b : Bool) → nat_le p r.seq ≡ b
    → IsUp (r.seq + 1) rs → (from p rs ≡ x ∷ xs → last_checkpoint rs ≡ last_checkpoint (x ∷ xs))
    → (rs ≡ [] → from p rs ≡ [])
    → cond b (r ∷ from p rs) (from p rs) ≡ x ∷ xs → last_checkpoint (r ∷ rs) ≡ last_checkpoint (x ∷ xs)
from_head p r rs x xs true is up so none are =
    ap last_checkpoint (sym
    (ap (λ ys. r ∷ ys) (all_from p rs (up_weaker p (r.seq + 1) rs (omega (arith, le_so p r.seq is)) up))) ∙ are)
from_head p r [] x xs false is up so none are = absurd cc
from_head p r (s ∷ rs) x xs false is up so none are = so are

last_from : (p m : ℕ) (rs : List Logged) (x : Logged) (xs : List Logged) → IsUp m rs → from p rs ≡ x ∷ xs
    → last_checkpoint rs ≡ last_checkpoint (x ∷ xs)
last_from p m [] x xs up are = absurd cc
last_from p m (r ∷ rs) x xs up are =
    from_head p r rs x xs (nat_le p r.seq) refl up.1 (λ so. last_from p (r.seq + 1) rs x xs up.1 so)
    (λ none. ap (from p) none) are

settled_batch : (limit room position m : ℕ) (rs : List Logged) (x : Logged) (xs : List Logged) → IsUp m rs
    → beginning limit room (from position rs) ≡ x ∷ xs
    → from (position_after position (numbers_of (beginning limit room (from position rs)))) rs ≡ []
    → last_checkpoint (beginning limit room (from position rs)) ≡ last_checkpoint rs
settled_batch limit room position m rs x xs up is none =
    let ls = from position rs in
    let bs = beginning limit room ls in
    let next = position_after position (numbers_of bs) in
    let up' = up_from position m rs up in
    let rest : from next ls ≡ [] = from_twice position next rs (position_up limit room position ls up') ∙ none in
    let all : ls ≡ bs = parts limit room position ls up' ∙ ap (λ ys. bs ++ ys) rest ∙ append-nil bs in
    ap last_checkpoint is ∙ sym (last_from position m rs x xs up (all ∙ is))

-- ---- The last record of a batch that isn't empty

pub last_seq : Logged → List Logged → ℕ
last_seq x [] = x.seq
last_seq x (y ∷ ys) = last_seq y ys

-- The sequence number of the record at the index `i`, if any.
abbrev seq_at : List Logged → ℕ → Option ℕ
seq_at xs i = option_map (λ (r : Stored). r.seq) (slice_get (map stored xs) i)

last_of : (x : Logged) (xs : List Logged) → seq_at (x ∷ xs) (length xs) ≡ Some (last_seq x xs)
unfolding last_seq
last_of x [] = refl
last_of x (y ∷ ys) = last_of y ys

number_is : (x : Logged) (xs : List Logged) → last_number_in (map stored (x ∷ xs)) ≡ Some (last_seq x xs)
number_is x xs =
    let e : length (map stored (x ∷ xs)) - 1 ≡ length xs =
    less (length (map stored xs)) (length xs) (length_stored xs) in
    ap (seq_at (x ∷ xs)) e ∙ last_of x xs
  where
    less : (n m : ℕ) → n ≡ m → suc n - 1 ≡ m
    less n m is = omega arith

checkpoint_is : (x : Logged) (xs : List Logged) → last_checkpoint (x ∷ xs) ≡ At (last_seq x xs)
unfolding last_seq
checkpoint_is x [] = refl
checkpoint_is x (y ∷ ys) = checkpoint_is y ys

reach_is : (p : ℕ) (x : Logged) (xs : List Logged) → position_after p (numbers_of (x ∷ xs)) ≡ last_seq x xs + 1
unfolding last_seq
reach_is p x [] = refl
reach_is p x (y ∷ ys) = reach_is (x.seq + 1) y ys

above_is : (p : ℕ) (x : Logged) (xs : List Logged) → IsUp p (x ∷ xs) → p ≤ last_seq x xs
unfolding last_seq
above_is p x [] up = up.0
above_is p x (y ∷ ys) up = let n = above_is (x.seq + 1) y ys up.1 in omega (arith, n, up.0)

up_beginning : (limit room p : ℕ) (rs : List Logged) → IsUp p rs → IsUp p (beginning limit room rs)
up_beginning zero room p rs up = tt
up_beginning (suc limit) room p [] up = tt
up_beginning (suc limit) room p (r ∷ rs) up =
    let rest = up_beginning limit (room - r.bytes) (r.seq + 1) rs up.1 in
    cond_both (nat_le r.bytes room) (r ∷ beginning limit (room - r.bytes) rs) [] (IsUp p) (λ fits. (up.0, rest))
    (λ full. tt)

-- `bs`, a batch of `rs` from `position` on, moves the position to `q` + 1, and if nothing is left, `q` is the last.
pub record IsBatchTo (start position : ℕ) (rs bs : List Logged) (q : ℕ) : Type 0 where
  pub number : last_number_in (map stored bs) ≡ Some q
  pub reach : position_after position (numbers_of bs) ≡ q + 1
  pub above : max position start ≤ q
  pub settled : from (q + 1) rs ≡ [] → At q ≡ last_checkpoint rs
  pub fewer : length (from (q + 1) rs) + 1 ≤ length (from position rs)

fewer_by : (ls bs rest : List Logged) (x : Logged) (xs : List Logged) → ls ≡ bs ++ rest → bs ≡ x ∷ xs
    → length rest + 1 ≤ length ls
fewer_by ls bs rest x xs are is =
    let n : length ls ≡ length bs + length rest = ap length are ∙ length-append bs rest in
    let m : length bs ≡ suc (length xs) = ap length is in
    omega arith

both_above : (position start q : ℕ) → position ≤ q → start ≤ q → max position start ≤ q
both_above position start q le le' = omega arith

-- For a batch that isn't empty, `IsBatchTo` holds with its last record's number.
pub batched : (limit room start position : ℕ) (rs : List Logged) (x : Logged) (xs : List Logged) → IsUp start rs
    → beginning limit room (from position rs) ≡ x ∷ xs
    → IsBatchTo start position rs (beginning limit room (from position rs)) (last_seq x xs)
batched limit room start position rs x xs up is =
    let ls = from position rs in
    let bs = beginning limit room ls in
    let q = last_seq x xs in
    let up' = up_from position start rs up in
    let reach : position_after position (numbers_of bs) ≡ q + 1 =
    ap (λ ys. position_after position (numbers_of ys)) is ∙ reach_is position x xs in
    let first = subst (IsUp position) is (up_beginning limit room position ls up') in
    let later = subst (IsUp start) is (up_beginning limit room start ls (up_kept position start rs up)) in
    let rest : from (position_after position (numbers_of bs)) ls ≡ from (q + 1) rs =
    from_twice position (position_after position (numbers_of bs)) rs (position_up limit room position ls up')
    ∙ ap (λ p. from p rs) reach in
    record {
      number = ap (λ ys. last_number_in (map stored ys)) is ∙ number_is x xs;
      reach = reach;
      above = both_above position start q (above_is position x xs first) (above_is start x xs later);
      settled = λ none. sym (ap last_checkpoint is ∙ checkpoint_is x xs)
          ∙ settled_batch limit room position start rs x xs up is (ap (λ p. from p rs) reach ∙ none);
      fewer = fewer_by ls bs (from (q + 1) rs) x xs (parts limit room position ls up' ∙ ap (λ ys. bs ++ ys) rest) is;
    }

pub fewer_from : (p : ℕ) (rs : List Logged) → length (from p rs) ≤ length rs
fewer_from p [] = omega arith
fewer_from p (r ∷ rs) =
    let le = fewer_from p rs in
    cond_both (nat_le p r.seq) (r ∷ from p rs) (from p rs) (λ xs. length xs ≤ suc (length rs)) (λ is. omega arith)
    (λ not. omega arith)
