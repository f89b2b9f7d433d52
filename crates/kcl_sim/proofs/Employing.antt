-- The workers of a run stand for its traces, index by index; an actor's number determines the index.
use Rattle.std.proofs.Common.{◌≡◌, ℕ, zero, suc, ◌<◌, ◌≤◌, Bool, true, false, List, [], ◌∷◌, ◌++◌, length, Some, None}
use Rattle.std.proofs.Common.{refl, sym, ap, subst, ◌∙◌, arith}
use Rattle.std.specs.Prelude.{IfSome, get_or, nat_le, nat_lt, if◌then◌else◌, slice_get, slice_set}
use Rattle.std.specs.List.{AllByRecursion}
use Rattle.std.proofs.lemmas.Bool.Decides.{nat_tests}
use Rattle.std.proofs.lemmas.List.{set-set}
use Rattle.std.proofs.lemmas.Option.{slice_get-get_or, slice_get_past}
use Rattle.kds_defs.specs.declared.limits.TheConstants.{MOST_ACTOR}
use Rattle.kcl_sim.specs.Standing.{EmployAll, Employs, IsFree, SimValue, Stepped, index_among}
use Rattle.kcl_sim.specs.Workers.{Employed, employed_by, index_of}

pub employ_length : (ws : List Stepped) (es : List Employed) → EmployAll ws es → length ws ≡ length es
employ_length [] [] s = refl
employ_length [] (e ∷ es) s = absurd s
employ_length (w ∷ ws) [] s = absurd s
employ_length (w ∷ ws) (e ∷ es) s = ap suc (employ_length ws es s.1)

pub employ_more : (ws : List Stepped) (es : List Employed) (w : Stepped) (e : Employed) → EmployAll ws es → Employs w e
    → EmployAll (ws ++ w ∷ []) (es ++ e ∷ [])
employ_more [] [] w e s h = (h, tt)
employ_more [] (d ∷ es) w e s h = absurd s
employ_more (v ∷ ws) [] w e s h = absurd s
employ_more (v ∷ ws) (d ∷ es) w e s h = (s.0, employ_more ws es w e s.1 h)

pub employ_at : (ws : List Stepped) (es : List Employed) (index : ℕ) (w : Stepped) → EmployAll ws es
    → slice_get ws index ≡ Some w → (e : Employed) × (slice_get es index ≡ Some e) × Employs w e
employ_at [] [] index w s is = absurd cc
employ_at [] (e ∷ es) index w s is = absurd s
employ_at (v ∷ ws) [] index w s is = absurd s
employ_at (v ∷ ws) (e ∷ es) zero w s is = let same : v ≡ w = cc in
    (e, refl, subst (λ (u : Stepped). Employs u e) same s.0)
employ_at (v ∷ ws) (e ∷ es) (suc index) w s is = employ_at ws es index w s.1 is

-- Replacing a worker and its trace at the same index keeps the rest standing.
pub employ_set : (ws : List Stepped) (es : List Employed) (index : ℕ) (w : Stepped) (e : Employed) → EmployAll ws es
    → Employs w e → EmployAll (slice_set ws index w) (slice_set es index e)
employ_set [] [] index w e s h = tt
employ_set [] (d ∷ es) index w e s h = absurd s
employ_set (v ∷ ws) [] index w e s h = absurd s
employ_set (v ∷ ws) (d ∷ es) zero w e s h = (h, s.1)
employ_set (v ∷ ws) (d ∷ es) (suc index) w e s h = (s.0, employ_set ws es index w e s.1 h)

-- ---- The index of an actor's worker

nobody_by : (low within : Bool) (actor count : ℕ) (es : List Employed) → count ≡ length es
    → nat_le actor MOST_ACTOR ≡ low
    → nat_lt (index_of actor) count ≡ within
    → (if low then None else (if within then Some (index_of actor) else None)) ≡ None
    → (if low then None else slice_get es (index_of actor)) ≡ None
nobody_by true within actor count es same l w h = refl
nobody_by false true actor count es same l w h = absurd cc
nobody_by false false actor count es same l w h =
    let past : count ≤ index_of actor = grind (arith, nat_tests) in
    slice_get_past es (index_of actor) (subst (λ n. n ≤ index_of actor) same past)

-- An actor without an index among all workers has no worker.
pub nobody : (actor count : ℕ) (es : List Employed) → count ≡ length es → index_among actor count ≡ None
    → employed_by actor es ≡ None
nobody actor count es same h =
    nobody_by (nat_le actor MOST_ACTOR) (nat_lt (index_of actor) count) actor count es same refl refl h

placed_by : (low within : Bool) (actor count index : ℕ) → nat_le actor MOST_ACTOR ≡ low
    → nat_lt (index_of actor) count ≡ within
    → (if low then None else (if within then Some (index_of actor) else None)) ≡ Some index
    → (low ≡ false) × (index_of actor ≡ index) × (index < count)
placed_by true within actor count index l w h = absurd cc
placed_by false false actor count index l w h = absurd cc
placed_by false true actor count index l w h =
    let same : index_of actor ≡ index = cc in
    let lt : index_of actor < count = grind (arith, nat_tests) in
    (refl, same, subst (λ n. n < count) same lt)

placed : (actor count index : ℕ) → index_among actor count ≡ Some index → (nat_le actor MOST_ACTOR ≡ false)
    × (index_of actor ≡ index) × (index < count)
placed actor count index h =
    placed_by (nat_le actor MOST_ACTOR) (nat_lt (index_of actor) count) actor count index refl refl h

-- An actor with an index has the worker there.
pub somebody : (actor count index : ℕ) (es : List Employed) → index_among actor count ≡ Some index
    → (index_of actor ≡ index)
    × (employed_by actor es ≡ slice_get es index)
somebody actor count index es h =
    let p = placed actor count index h in
    (p.1, ap (λ b. if b then None else slice_get es (index_of actor)) p.0 ∙ ap (slice_get es) p.1)

pub got_there : (ws : List Stepped) (index : ℕ) (d w : Stepped) → index < length ws → w ≡ get_or ws index d
    → slice_get ws index ≡ Some w
got_there ws index d w lt is = slice_get-get_or ws index d lt ∙ ap Some (sym is)

-- The worker read at the actor's index in the inner run is the one that callers see there.
pub shown_there : (inside shown : SimValue) (actor index : ℕ) (d w : Stepped) → inside ≡ shown
    → index_among actor (length shown.workers) ≡ Some index
    → w ≡ get_or inside.workers index d → slice_get shown.workers index ≡ Some w
shown_there inside shown actor index d w is there got =
    let lt = subst (λ (v : SimValue). index < length v.workers) (sym is)
    (placed actor (length shown.workers) index there).2 in
    ap (λ (v : SimValue). slice_get v.workers index) (sym is) ∙ got_there inside.workers index d w lt got

pub free_at : (ws : List Stepped) (index : ℕ) → AllByRecursion IsFree ws → IfSome (slice_get ws index) IsFree
free_at [] index h = tt
free_at (v ∷ ws) zero h = h.0
free_at (v ∷ ws) (suc index) h = free_at ws index h.1

pub got_set : (ws : List Stepped) (index : ℕ) (w : Stepped) → index < length ws
    → slice_get (slice_set ws index w) index ≡ Some w
got_set [] index w lt = absurd (omega arith)
got_set (v ∷ ws) zero w lt = refl
got_set (v ∷ ws) (suc index) w lt = got_set ws index w (omega arith)

pub set_again : (ws : List Stepped) (index : ℕ) (w v : Stepped)
    → slice_set (slice_set ws index w) index v ≡ slice_set ws index v
set_again ws index w v = set-set ws index w v

pub lent_again : (ws : List Stepped) (index : ℕ) (d w u : Stepped) → index < length ws
    → u ≡ get_or (slice_set ws index w) index d → u ≡ w
lent_again [] index d w u lt is = absurd (omega arith)
lent_again (v ∷ ws) zero d w u lt is = is
lent_again (v ∷ ws) (suc index) d w u lt is = lent_again ws index d w u (omega arith) is
