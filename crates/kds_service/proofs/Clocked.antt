-- After an advance, a retreat or a settling, the streams show the same journals at one clock.
use Rattle.std.proofs.Common.{◌≡◌, ℕ, zero, suc, ◌<◌, ◌≤◌, List, [], ◌∷◌, length, map, slice_get, slice_set, Some, refl}
use Rattle.std.proofs.Common.{sym, ap, subst, ◌∙◌, arith}
use Rattle.kds_defs.specs.Journal.{Journal}
use Rattle.kds_stream.specs.Value.{StreamValue, settled}
use Rattle.kds_service.specs.Clocks.{advanced, retreated, settled_in}
use Rattle.kds_service.specs.Shown.{AreAt, AreShown, IsRising, ServiceValue, ShowsAll, is_among, numbers_of, service}

-- ---- The clocks of the streams

pub advanced_at : (clock : ℕ) (vs : List StreamValue) → AreAt clock (map (advanced clock) vs)
advanced_at clock [] = tt
advanced_at clock (v ∷ vs) = (refl, advanced_at clock vs)

pub settled_at : (c i : ℕ) (vs : List StreamValue) → AreAt c vs → AreAt c (settled_in i vs)
settled_at c i [] is_at = tt
settled_at c zero (v ∷ vs) is_at = is_at
settled_at c (suc i) (v ∷ vs) is_at = (is_at.0, settled_at c i vs is_at.1)

-- What settling one stream keeps, it keeps in the list.
pub kept_in : {Y : Type 0} (g : StreamValue → Y) → ((v : StreamValue) → g (settled v) ≡ g v)
    → (i : ℕ) (vs : List StreamValue) → map g (settled_in i vs) ≡ map g vs
kept_in g same i [] = refl
kept_in g same zero (v ∷ vs) = ap (λ y. y ∷ map g vs) (same v)
kept_in g same (suc i) (v ∷ vs) = ap (λ ys. g v ∷ ys) (kept_in g same i vs)

-- ---- The service

pub same_service : (c b n t u : ℕ) (vs us : List StreamValue) → vs ≡ us → t ≡ u
    → record (service c b n vs) { next_to_settle = t } ≡ record (service c b n us) { next_to_settle = u }
same_service c b n t u vs us are is = ap (λ xs. record (service c b n xs) { next_to_settle = t }) are
    ∙ ap (λ k. record (service c b n us) { next_to_settle = k }) is

-- ---- The stream at an index

pub settled_here : (i : ℕ) (vs : List StreamValue) (x v : StreamValue) → slice_get vs i ≡ Some x → v ≡ settled x
    → slice_set vs i v ≡ settled_in i vs
settled_here i [] x v here is = refl
settled_here zero (y ∷ vs) x v here is =
    let e : y ≡ x = cc in
    ap (λ u. u ∷ vs) (is ∙ ap settled (sym e))
settled_here (suc i) (y ∷ vs) x v here is = ap (λ us. y ∷ us) (settled_here i vs x v here is)

pub settled_beyond : (i : ℕ) (vs : List StreamValue) → length vs ≤ i → vs ≡ settled_in i vs
settled_beyond i [] beyond = refl
settled_beyond zero (v ∷ vs) beyond = absurd (omega arith)
settled_beyond (suc i) (v ∷ vs) beyond = ap (λ us. v ∷ us) (settled_beyond i vs (omega arith))

pub retreated_at : (c clock : ℕ) (vs : List StreamValue) → AreAt c vs
    → AreAt c (map retreated (map (advanced clock) vs))
retreated_at c clock [] is_at = tt
retreated_at c clock (v ∷ vs) is_at = (is_at.0, retreated_at c clock vs is_at.1)

pub kept_of : {Y : Type 0} (g : StreamValue → Y) (f : StreamValue → StreamValue) → ((v : StreamValue) → g (f v) ≡ g v)
    → (vs : List StreamValue) → map g (map f vs) ≡ map g vs
kept_of g f same [] = refl
kept_of g f same (v ∷ vs) = ap (λ y. y ∷ map g (map f vs)) (same v) ∙ ap (λ ys. g v ∷ ys) (kept_of g f same vs)

-- ---- The journals that they show

-- A service with other streams of the same numbers, which show the journal at its clock, shows it too.
pub shows_along : (w u : ServiceValue) (log : Journal) → u.made_count ≡ w.made_count
    → numbers_of u.streams ≡ numbers_of w.streams
    → AreAt u.clock u.streams → AreShown log u.streams → ShowsAll w log → ShowsAll u log
shows_along w u log made numbers is_at shown all = record {
  made = all.made ∙ sym made;
  at = is_at;
  rising = subst (IsRising 0) (sym numbers) all.rising;
  shown = shown;
  others = λ s out. all.others s (ap (λ ns. is_among ns s) (sym numbers) ∙ out);
  unmade = λ s later. all.unmade s (subst (λ n. n < s) made later);
}

pub retreated_shown : (clock : ℕ) (vs : List StreamValue) (log : Journal) → AreShown log vs
    → AreShown log (map retreated (map (advanced clock) vs))
retreated_shown clock [] log shown = tt
retreated_shown clock (v ∷ vs) log shown =
    (record { stored = shown.0.stored; rates = shown.0.rates }, retreated_shown clock vs log shown.1)
