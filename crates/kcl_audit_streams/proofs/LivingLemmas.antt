-- The live streams' numbers answer the judge's questions about all streams, and how entries change them.
use Rattle.std.proofs.Common.{◌≡◌, ℕ, zero, suc, ◌+◌, ◌<◌, Bool, true, false, List, [], ◌∷◌, ◌++◌, length, slice_get}
use Rattle.std.proofs.Common.{Option, Some, None, refl, sym, ap, ◌∙◌, arith}
use Rattle.std.specs.Prelude.{◌==◌, ◌&&◌, ◌||◌, not, if◌then◌else◌}
use Rattle.std.specs.List.{filter}
use Rattle.std.proofs.lemmas.Bool.Decides.{nat_tests}
use Rattle.kds_base.proofs.Facts.{is_itself}
use Rattle.kds_defs.specs.declared.entry.Entry.{Entry}
use Rattle.kds_defs.specs.declared.entry.Entry.TheVariants as entry
use Rattle.kds_defs.specs.Shards.{is_open}
use Rattle.kds_defs.specs.Streams.{same_name}
use Rattle.kcl_audit_streams.specs.Judging.{changed_at, is_named, live_count, open_in, with_entry, with_gone}
use Rattle.kcl_audit_streams.specs.Living.{has_name, is_deletion, is_named_among, live_numbers, open_among, open_of}
use Rattle.kcl_audit_streams.specs.Standing.{StreamValue, if_live, live_at, stream_at}
use Rattle.kcl_laws.proofs.ScalingLemmas.{apart_from}

-- ---- The streams with the numbers from n on

At : List StreamValue → ℕ → List StreamValue → Type 0
At us n vs = (i : ℕ) → stream_at us (n + i) ≡ slice_get vs i

at_head : (us : List StreamValue) (n : ℕ) (v : StreamValue) (vs : List StreamValue) → At us n (v ∷ vs)
    → stream_at us n ≡ Some v
unfolding At
at_head us n v vs h = let e : n ≡ n + 0 = omega arith in ap (stream_at us) e ∙ h 0

at_tail : (us : List StreamValue) (n : ℕ) (v : StreamValue) (vs : List StreamValue) → At us n (v ∷ vs)
    → At us (n + 1) vs
unfolding At
at_tail us n v vs h = λ i. let e : n + 1 + i ≡ n + suc i = omega arith in ap (stream_at us) e ∙ h (suc i)

at_all : (vs : List StreamValue) → At vs 1 vs
unfolding At
at_all vs = λ i. let e : 1 + i ≡ suc i = omega arith in ap (stream_at vs) e

live_here : (us : List StreamValue) (n : ℕ) (v : StreamValue) (vs : List StreamValue) → At us n (v ∷ vs) → v.live ≡ true
    → live_at us n ≡ Some v
live_here us n v vs h e = ap if_live (at_head us n v vs h) ∙ (λ i. if e i then Some v else None)

-- ---- The names

named_by : (us : List StreamValue) (n : ℕ) (v : StreamValue) (vs : List StreamValue) (name : List ℕ) (b : Bool)
    → v.live ≡ b → At us n (v ∷ vs)
    → is_named_among us name (live_numbers (n + 1) vs) ≡ is_named vs name
    → is_named_among us name (if b then n ∷ live_numbers (n + 1) vs else live_numbers (n + 1) vs)
    ≡ ((b && same_name v.name name) || is_named vs name)
named_by us n v vs name true e h rest =
    ap (λ (o : Option StreamValue). has_name o name || is_named_among us name (live_numbers (n + 1) vs))
    (live_here us n v vs h e)
    ∙ ap (λ (b : Bool). same_name v.name name || b) rest
named_by us n v vs name false e h rest = rest

named_from : (us : List StreamValue) (n : ℕ) (vs : List StreamValue) (name : List ℕ) → At us n vs
    → is_named_among us name (live_numbers n vs) ≡ is_named vs name
named_from us n [] name h = refl
named_from us n (v ∷ vs) name h =
    named_by us n v vs name v.live refl h (named_from us (n + 1) vs name (at_tail us n v vs h))

pub named_live : (vs : List StreamValue) (name : List ℕ) → is_named_among vs name (live_numbers 1 vs) ≡ is_named vs name
named_live vs name = named_from vs 1 vs name (at_all vs)

-- ---- The open shards

none_more : (n : ℕ) → n ≡ 0 + n
none_more n = omega arith

open_by : (us : List StreamValue) (n : ℕ) (v : StreamValue) (vs : List StreamValue) (b : Bool) → v.live ≡ b
    → At us n (v ∷ vs)
    → open_among us (live_numbers (n + 1) vs) ≡ open_in vs
    → open_among us (if b then n ∷ live_numbers (n + 1) vs else live_numbers (n + 1) vs)
    ≡ (if b then length (filter is_open v.tree) else 0) + open_in vs
open_by us n v vs true e h rest =
    ap (λ (o : Option StreamValue). open_of o + open_among us (live_numbers (n + 1) vs)) (live_here us n v vs h e)
    ∙ ap (λ (m : ℕ). length (filter is_open v.tree) + m) rest
open_by us n v vs false e h rest = rest ∙ none_more (open_in vs)

open_from : (us : List StreamValue) (n : ℕ) (vs : List StreamValue) → At us n vs
    → open_among us (live_numbers n vs) ≡ open_in vs
open_from us n [] h = refl
open_from us n (v ∷ vs) h = open_by us n v vs v.live refl h (open_from us (n + 1) vs (at_tail us n v vs h))

pub open_live : (vs : List StreamValue) → open_among vs (live_numbers 1 vs) ≡ open_in vs
open_live vs = open_from vs 1 vs (at_all vs)

-- ---- The number of live streams

count_by : (n : ℕ) (vs : List StreamValue) (b : Bool) → length (live_numbers (n + 1) vs) ≡ live_count vs
    → length (if b then n ∷ live_numbers (n + 1) vs else live_numbers (n + 1) vs) ≡ (if b then 1 else 0) + live_count vs
count_by n vs true rest = omega arith
count_by n vs false rest = rest ∙ none_more (live_count vs)

pub count_live : (n : ℕ) (vs : List StreamValue) → length (live_numbers n vs) ≡ live_count vs
count_live n [] = refl
count_live n (v ∷ vs) = count_by n vs v.live (count_live (n + 1) vs)

-- ---- One more stream

made_by : (n : ℕ) (us : List StreamValue) (b : Bool) (xs ys : List ℕ) (m k : ℕ) → m ≡ k → ys ≡ xs ++ m ∷ []
    → (if b then n ∷ ys else ys) ≡ (if b then n ∷ xs else xs) ++ k ∷ []
made_by n us true xs ys m k e h = ap (λ (zs : List ℕ). n ∷ zs) h ∙ ap (λ (q : ℕ). n ∷ (xs ++ q ∷ [])) e
made_by n us false xs ys m k e h = h ∙ ap (λ (q : ℕ). xs ++ q ∷ []) e

pub made_live : (n : ℕ) (us : List StreamValue) (v : StreamValue) → v.live ≡ true
    → live_numbers n (us ++ v ∷ []) ≡ live_numbers n us ++ (n + length us) ∷ []
made_live n [] v e = (let z : n ≡ n + 0 = omega arith in (λ i. if e i then n ∷ [] else []) ∙ ap (λ (m : ℕ). m ∷ []) z)
made_live n (u ∷ us) v e =
    let is_at : n + 1 + length us ≡ n + suc (length us) = omega arith in
    made_by n us u.live (live_numbers (n + 1) us) (live_numbers (n + 1) (us ++ v ∷ []))
    _ _ is_at (made_live (n + 1) us v e)

-- ---- One stream changes

pub same_live : (n p : ℕ) (g : StreamValue → StreamValue) (vs : List StreamValue)
    → ((v : StreamValue) → (g v).live ≡ v.live) → live_numbers n (changed_at p g vs) ≡ live_numbers n vs
same_live n p g [] h = refl
same_live n zero g (v ∷ vs) h = λ i. if h v i then n ∷ live_numbers (n + 1) vs else live_numbers (n + 1) vs
same_live n (suc p) g (v ∷ vs) h = ap (λ (xs : List ℕ). if v.live then n ∷ xs else xs) (same_live (n + 1) p g vs h)

-- The numbers without `q`.
abbrev but : ℕ → List ℕ → List ℕ
but q ns = filter (λ n. not (n == q)) ns

other_below : (n q : ℕ) → n < q → not (n == q) ≡ true
other_below n q lt = grind (arith, nat_tests)

but_head : (n q : ℕ) (ns : List ℕ) (b : Bool) → not (n == q) ≡ b
    → but q (n ∷ ns) ≡ (if b then n ∷ but q ns else but q ns)
but_head n q ns b e = rw e refl

kept_by : (n q : ℕ) (ns : List ℕ) (b : Bool) → not (n == q) ≡ true → but q ns ≡ ns
    → but q (if b then n ∷ ns else ns) ≡ (if b then n ∷ ns else ns)
kept_by n q ns true e h = but_head n q ns true e ∙ ap (λ (ms : List ℕ). n ∷ ms) h
kept_by n q ns false e h = h

but_above : (q n : ℕ) (vs : List StreamValue) → q < n → but q (live_numbers n vs) ≡ live_numbers n vs
but_above q n [] lt = refl
but_above q n (v ∷ vs) lt =
    kept_by n q (live_numbers (n + 1) vs) v.live (apart_from n q lt) (but_above q (n + 1) vs (omega arith))

gone_by : (n q : ℕ) (ns : List ℕ) (b : Bool) → q ≡ n → but q ns ≡ ns → ns ≡ but q (if b then n ∷ ns else ns)
gone_by n q ns true e h = sym (but_head n q ns false (ap (λ (m : ℕ). not (n == m)) e ∙ ap not (is_itself n)) ∙ h)
gone_by n q ns false e h = sym h

past_by : (n q : ℕ) (ns ms : List ℕ) (b : Bool) → not (n == q) ≡ true → ms ≡ but q ns
    → (if b then n ∷ ms else ms) ≡ but q (if b then n ∷ ns else ns)
past_by n q ns ms true e h = ap (λ (ks : List ℕ). n ∷ ks) h ∙ sym (but_head n q ns true e)
past_by n q ns ms false e h = h

pub gone_live : (n p q : ℕ) (vs : List StreamValue) → q ≡ n + p
    → live_numbers n (changed_at p with_gone vs) ≡ but q (live_numbers n vs)
gone_live n p q [] e = refl
gone_live n zero q (v ∷ vs) e =
    gone_by n q (live_numbers (n + 1) vs) v.live (omega arith) (but_above q (n + 1) vs (omega arith))
gone_live n (suc p) q (v ∷ vs) e =
    past_by n q (live_numbers (n + 1) vs) (live_numbers (n + 1) (changed_at p with_gone vs)) v.live
    (other_below n q (omega arith))
    (gone_live (n + 1) p q vs (omega arith))

-- ---- An entry

stays : (clock : ℕ) (change : Entry) → is_deletion change ≡ false → (v : StreamValue)
    → (with_entry clock change v).live ≡ v.live
stays clock (entry.Gone s) h v = absurd cc
stays clock (entry.Put s sh number hash bytes key_bytes) h v = refl
stays clock (entry.Split s sh key_hash number low high) h v = refl
stays clock (entry.Merged s sh other number child) h v = refl
stays clock (entry.Kept s hours) h v = refl
stays clock (entry.Enforced s is_on) h v = refl
stays clock _ h v = refl

pub later_live : (clock p : ℕ) (change : Entry) (vs : List StreamValue) → is_deletion change ≡ false
    → live_numbers 1 (changed_at p (with_entry clock change) vs) ≡ live_numbers 1 vs
later_live clock p change vs h = same_live 1 p (with_entry clock change) vs (stays clock change h)

pub deleted_live : (clock p q : ℕ) (change : Entry) (vs : List StreamValue) → is_deletion change ≡ true → q ≡ 1 + p
    → live_numbers 1 (changed_at p (with_entry clock change) vs) ≡ filter (λ n. not (n == q)) (live_numbers 1 vs)
deleted_live clock p q (entry.Gone s) vs h e = gone_live 1 p q vs e
deleted_live clock p q _ vs h e = absurd cc
