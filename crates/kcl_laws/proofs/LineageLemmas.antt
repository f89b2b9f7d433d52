-- In a legal journal, a tenure is opened after the shard's parents were processed or expired, and read after that.
use Rattle.std.proofs.Common.{◌≡◌, ℕ, zero, suc, ◌+◌, ◌<◌, ◌≤◌, Bool, true, false, List, [], ◌∷◌, ◌++◌, length, Option}
use Rattle.std.proofs.Common.{Some, None, refl, sym, ap, subst, ◌∙◌, arith, inl, inr, length-append}
use Rattle.std.specs.Prelude.{◌==◌, ◌&&◌, ◌⊎◌, not, slice_get, if◌then◌else◌}
use Rattle.std.specs.List.{AllByRecursion}
use Rattle.std.proofs.lemmas.Bool.{and_parts}
use Rattle.kds_base.specs.Span.{Span}
use Rattle.kds_defs.specs.declared.entry.Entry.{Entry}
use Rattle.kds_defs.specs.declared.entry.Entry.TheVariants as entry
use Rattle.kds_defs.specs.declared.reply.Reply.{Reply}
use Rattle.kds_defs.specs.Decision.{Accepted}
use Rattle.kds_defs.specs.Journal.{Line, Journal}
use Rattle.kds_defs.specs.Leases.{row, is_marked_to_end, tenure, TenureState}
use Rattle.kds_defs.specs.Legal.{told, IsLegal}
use Rattle.kds_defs.specs.Records.{next_number}
use Rattle.kds_defs.specs.Safe.{IsPast, IsExpiredState, ArePastState, AreParentsPast, IsOpening, WasOpened, IsInLine}
use Rattle.kds_defs.specs.Safe.{AreInLine}
use Rattle.kds_defs.specs.Shards.{ShardState, Closing, shards, shards_after, first_shards, new_shard, with_closed}
use Rattle.kds_defs.specs.Shards.{shard_at, is_expired, is_listed_state}
use Rattle.kds_base.specs.Span.{uniform}
use Rattle.kds_base.proofs.Facts.{apart, equal_so}
use Rattle.kds_defs.specs.StreamCommands.{is_open_at}
use Rattle.kds_defs.specs.Keys.{ref}
use Rattle.kds_defs.proofs.Decisions.{passes, holds_so}
use Rattle.kcl_laws.proofs.FenceLemmas.{held}
use Rattle.kcl_laws.proofs.LegalLemmas.{owned, past_the_parents, AreParentsRead, IsParentRead}
use Rattle.kds_defs.proofs.Numbers.{length-closed}
use Rattle.kcl_laws.proofs.Steps.{TenureStep, Begun, Same, Opening, Reading, Giving, tenure_step, tenure_key}

-- ---- The parents of a shard are shards of its stream

-- The number, if there is one, is below `n`.
abbrev pub IsBelow : Option ℕ → ℕ → Type 0
IsBelow None n = Unit {0}
IsBelow (Some p) n = p < n

-- The numbers of the shard's parents are below `n`.
abbrev pub HasParents : ℕ → ShardState → Type 0
HasParents n x = IsBelow x.parent n × IsBelow x.adjacent n

-- The numbers of all parents of these shards are below `n`.
abbrev pub HaveParents : ℕ → List ShardState → Type 0
HaveParents n xs = AllByRecursion (HasParents n) xs

below_more : (o : Option ℕ) (n m : ℕ) → n ≤ m → IsBelow o n → IsBelow o m
below_more None n m le h = tt
below_more (Some p) n m le h = omega arith

parents_more : (xs : List ShardState) (n m : ℕ) → n ≤ m → HaveParents n xs → HaveParents m xs
parents_more [] n m le h = tt
parents_more (x ∷ xs) n m le h =
    ((below_more x.parent n m le h.0.0, below_more x.adjacent n m le h.0.1), parents_more xs n m le h.1)

parents-append : (xs ys : List ShardState) (n : ℕ) → HaveParents n xs → HaveParents n ys → HaveParents n (xs ++ ys)
parents-append [] ys n h g = g
parents-append (x ∷ xs) ys n h g = (h.0, parents-append xs ys n h.1 g)

parents-closed : (sh : ℕ) (closing : Closing) (xs : List ShardState) (n : ℕ) → HaveParents n xs
    → HaveParents n (with_closed sh closing xs)
parents-closed sh closing [] n h = tt
parents-closed zero closing (x ∷ xs) n h = (h.0, h.1)
parents-closed (suc sh) closing (x ∷ xs) n h = (h.0, parents-closed sh closing xs n h.1)

parents-first : (i start n : ℕ) (ranges : List Span) → HaveParents n (first_shards i start ranges)
parents-first i start n [] = tt
parents-first i start n (r ∷ rs) = ((tt, tt), parents-first (i + 1) start n rs)

pub open_within : (xs : List ShardState) (sh : ℕ) → is_open_at (slice_get xs sh) ≡ true → sh < length xs
open_within [] sh h = absurd cc
open_within (x ∷ xs) zero h = omega arith
open_within (x ∷ xs) (suc sh) h = omega (arith, open_within xs sh h)

pub there_is : (xs : List ShardState) (sh : ℕ) → sh < length xs → (x : ShardState) × (slice_get xs sh ≡ Some x)
there_is [] sh h = absurd (omega arith)
there_is (x ∷ xs) zero h = (x, refl)
there_is (x ∷ xs) (suc sh) h = there_is xs sh (omega arith)

parents_two : (xs : List ShardState) (sh n m start : ℕ) (closing : Closing) (r q : Span) → sh < length xs
    → HaveParents (length xs) xs
    → HaveParents (length (with_closed sh closing xs
    ++ (new_shard n r (Some sh) None start ∷ new_shard m q (Some sh) None start ∷ [])))
    (with_closed sh closing xs ++ (new_shard n r (Some sh) None start ∷ new_shard m q (Some sh) None start ∷ []))
parents_two xs sh n m start closing r q there h =
    let ys = new_shard n r (Some sh) None start ∷ new_shard m q (Some sh) None start ∷ [] in
    let len : length (with_closed sh closing xs ++ ys) ≡ length xs + 2 =
    length-append (with_closed sh closing xs) ys ∙ ap (λ n. n + 2) (length-closed sh closing xs) in
    let old = parents_more (with_closed sh closing xs) (length xs) (length (with_closed sh closing xs ++ ys))
    (omega arith) (parents-closed sh closing xs (length xs) h) in
    parents-append (with_closed sh closing xs) ys (length (with_closed sh closing xs ++ ys)) old
    ((omega arith, tt), ((omega arith, tt), tt))

parents_one : (xs : List ShardState) (sh other n start : ℕ) (closing : Closing) (r : Span) → sh < length xs
    → other < length xs → HaveParents (length xs) xs
    → HaveParents (length (with_closed other closing (with_closed sh closing xs)
    ++ (new_shard n r (Some sh) (Some other) start ∷ [])))
    (with_closed other closing (with_closed sh closing xs) ++ (new_shard n r (Some sh) (Some other) start ∷ []))
parents_one xs sh other n start closing r there there' h =
    let zs = with_closed other closing (with_closed sh closing xs) in
    let ys = new_shard n r (Some sh) (Some other) start ∷ [] in
    let len : length (zs ++ ys) ≡ length xs + 1 =
    length-append zs ys ∙ ap (λ n. n + 1) (length-closed other closing (with_closed sh closing xs)
    ∙ length-closed sh closing xs) in
    let old = parents_more zs (length xs) (length (zs ++ ys)) (omega arith)
    (parents-closed other closing (with_closed sh closing xs) (length xs)
    (parents-closed sh closing xs (length xs) h)) in
    parents-append zs ys (length (zs ++ ys)) old ((omega arith, omega arith), tt)

parents_choice : (b : Bool) (xs ys : List ShardState) → (b ≡ true → HaveParents (length xs) xs)
    → HaveParents (length ys) ys → HaveParents (length (if b then xs else ys)) (if b then xs else ys)
parents_choice true xs ys h g = h refl
parents_choice false xs ys h g = g

parents_after : (log : Journal) (line : Line) (e : Entry) (reply : Reply) → told log line e ≡ Accepted (line ∷ []) reply
    → (s start : ℕ) → HaveParents (length (shards log s)) (shards log s)
    → HaveParents (length (shards_after line e s start (shards log s))) (shards_after line e s start (shards log s))
parents_after log line (entry.Made stream name count) reply h s start is_before =
    parents_choice (stream == s) _ _ (λ same. parents-first 0 start _ (uniform count)) is_before
parents_after log line (entry.Split stream sh hash number low high) reply h s start is_before =
    let a = passes _ _ _ _ reply h in
    let b = passes _ _ _ _ reply a.1 in
    let d = passes _ _ _ _ reply b.1 in
    parents_choice (stream == s) _ _
    (λ same.
    parents_two (shards log s) sh _ _ start _ _ _
    (open_within (shards log s) sh
    (subst (λ k. is_open_at (shard_at log k sh) ≡ true) (equal_so stream s same) (holds_so _ d.0))) is_before)
    is_before
parents_after log line (entry.Merged stream sh other number child) reply h s start is_before =
    let a = passes _ _ _ _ reply h in
    let b = passes _ _ _ _ reply a.1 in
    let d = passes _ _ _ _ reply b.1 in
    let opens = and_parts _ _ (holds_so _ d.0) in
    parents_choice (stream == s) _ _
    (λ same.
    let target = equal_so stream s same in
    parents_one (shards log s) sh other _ start _ _
    (open_within (shards log s) sh (subst (λ k. is_open_at (shard_at log k sh) ≡ true) target opens.0))
    (open_within (shards log s) other (subst (λ k. is_open_at (shard_at log k other) ≡ true) target opens.1)) is_before)
    is_before
parents_after log line _ reply h s start is_before = is_before

pub parents : (log : Journal) → IsLegal log → (s : ℕ) → HaveParents (length (shards log s)) (shards log s)
parents [] legal s = tt
parents (line ∷ log) legal s =
    parents_after log line line.what legal.0.reply legal.0.allowed s (next_number (line ∷ log) s)
    (parents log legal.1 s)

parents_at : (xs : List ShardState) (n sh : ℕ) (x : ShardState) → HaveParents n xs → slice_get xs sh ≡ Some x
    → HasParents n x
parents_at [] n sh x h is = absurd cc
parents_at (y ∷ ys) n zero x h is = let e : y ≡ x = cc in subst (HasParents n) e h.0
parents_at (y ∷ ys) n (suc sh) x h is = parents_at ys n sh x h.1 is

-- ---- A parent that passes the test of OpenShard is expired or was read to its end

past_by : (log : Journal) (c s : ℕ) (p : ℕ) (x : ShardState) (b : Bool) → is_marked_to_end (row log (ref s p)) ≡ b
    → shard_at log s p ≡ Some x → (is_listed_state log c s (shard_at log s p) && not b) ≡ false
    → (is_marked_to_end (row log (ref s p)) ≡ true) ⊎ IsExpiredState log c s (shard_at log s p)
past_by log c s p x true is is_at h = inl is
past_by log c s p x false is is_at h =
    let g : not (is_expired log c s x) ≡ false = ap (λ o. is_listed_state log c s o) (sym is_at) ∙ and_true _ h in
    inr (subst (IsExpiredState log c s) (sym is_at) (holds_so _ g))
  where
    and_true : (b : Bool) → (b && true) ≡ false → b ≡ false
    and_true true h = h
    and_true false h = h

past : (log : Journal) (c s n : ℕ) (o : Option ℕ) → n ≡ length (shards log s) → IsBelow o n → IsParentRead log c s o
    → IsPast log c s o
past log c s n None len below read = tt
past log c s n (Some p) len below read =
    let x = there_is (shards log s) p (omega arith) in
    past_by log c s p x.0 (is_marked_to_end (row log (ref s p))) refl x.1 read

past_state : (log : Journal) → IsLegal log → (c s sh : ℕ) (o : Option ShardState) → shard_at log s sh ≡ o
    → is_listed_state log c s o ≡ true → AreParentsRead log c s o → ArePastState log c s o
past_state log legal c s sh None is_at listed read = absurd cc
past_state log legal c s sh (Some x) is_at listed read =
    let h = parents_at (shards log s) _ sh x (parents log legal s) is_at in
    (past log c s _ x.parent refl h.0 read.0, past log c s _ x.adjacent refl h.1 read.1)

-- ---- An opened tenure was opened

opened_by : (log : Journal) (line : Line) (t : ℕ) (T : TenureState) → TenureStep log line t T
    → ((S : TenureState) → tenure log t ≡ Some S → S.opened ≡ true → WasOpened log t) → T.opened ≡ true
    → WasOpened (line ∷ log) t
opened_by log line t T (Begun key number counter owner is new state) is_before h =
    let e = sym h ∙ ap (λ (S : TenureState). S.opened) state in absurd (apart true refl e)
opened_by log line t T (Same is) is_before h = inr (is_before T is h)
opened_by log line t T (Opening S change is new) is_before h = inl (subst (λ e. IsOpening e t) (sym change) refl)
opened_by log line t T (Reading S limit ended numbers change is new) is_before h =
    inr (is_before S is (ap (λ (U : TenureState). U.opened) (sym new) ∙ h))
opened_by log line t T (Giving S change is new) is_before h =
    inr (is_before S is (ap (λ (U : TenureState). U.opened) (sym new) ∙ h))

pub was_opened : (log : Journal) (t : ℕ) (T : TenureState) → tenure log t ≡ Some T → T.opened ≡ true → WasOpened log t
was_opened [] t T is h = absurd cc
was_opened (line ∷ log) t T is h =
    opened_by log line t T (tenure_step log line t T is) (λ S is_at o. was_opened log t S is_at o) h

-- ---- Lineage

in_line : (log : Journal) (line : Line) (e : Entry) (reply : Reply) → IsLegal log
    → told log line e ≡ Accepted (line ∷ []) reply → IsInLine log line.clock e
in_line log line (entry.Opened t) reply legal h =
    let a = held log line.by t _ _ reply h in
    let b = passes _ _ _ _ reply a.rest in
    let d = passes _ _ _ _ reply b.1 in
    let T = a.holds.state in
    let e = past_the_parents log line.clock T.key.stream (shard_at log T.key.stream T.key.shard) _ _ reply d.1 in
    subst (AreParentsPast log line.clock) (sym (tenure_key log t T a.holds.begun))
    (past_state log legal line.clock T.key.stream T.key.shard (shard_at log T.key.stream T.key.shard) refl
    (holds_so _ d.0) e.0)
in_line log line (entry.Read t limit ended numbers) reply legal h =
    let f = owned log line.by t _ _ reply h in
    let a = passes _ _ _ _ reply f.rest in
    was_opened log t f.state f.begun (holds_so _ a.0)
in_line log line _ reply legal h = tt

pub all_in_line : (log : Journal) → IsLegal log → AreInLine log
all_in_line [] legal = tt
all_in_line (line ∷ log) legal =
    (in_line log line line.what legal.0.reply legal.1 legal.0.allowed, all_in_line log legal.1)
