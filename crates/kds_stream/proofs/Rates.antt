-- The windows still fit the puts when unused ones are added and when the clock moves on.
use Rattle.std.proofs.Common.{◌≡◌, ℕ, ◌+◌, ◌≤◌, List, [], ◌∷◌, ◌++◌, length, sym, ap, subst, ◌∙◌, arith, length-append}
use Rattle.std.specs.List.{AllByRecursion}
use Rattle.std.proofs.lemmas.List.{append_assoc}
use Rattle.kds_base.proofs.Facts.{all_weaker, all_append}
use Rattle.kds_defs.specs.Rates.{SizedPut}
use Rattle.kds_rate.specs.Windows.{StandsFor, WindowValue}
use Rattle.kds_stream_logs.specs.Rating.{IsCounted, IsUnused, StandFor}
use Rattle.kds_stream.specs.Rating.{AreRated}

-- ---- Unused windows

pub stand_unused : (f : ℕ → List SizedPut) (n : ℕ) (ws : List WindowValue) → AllByRecursion IsUnused ws
    → ((sh : ℕ) → n ≤ sh → f sh ≡ []) → StandFor f n ws
stand_unused f n [] unused none = tt
stand_unused f n (w ∷ ws) unused none = (
  subst (StandsFor w) (sym (none n (omega arith))) unused.0.none,
  stand_unused f (n + 1) ws unused.1 (λ sh beyond. none sh (omega arith)),
)

pub stand_more : (f : ℕ → List SizedPut) (n : ℕ) (ws new : List WindowValue) → AllByRecursion IsUnused new
    → ((sh : ℕ) → n + length ws ≤ sh → f sh ≡ []) → StandFor f n ws → StandFor f n (ws ++ new)
stand_more f n [] new unused none h = stand_unused f n new unused (λ sh beyond. none sh (omega arith))
stand_more f n (w ∷ ws) new unused none h =
    (h.0, stand_more f (n + 1) ws new unused (λ sh beyond. none sh (omega arith)) h.1)

pub counted_unused : (moment : ℕ) (ws : List WindowValue) → AllByRecursion IsUnused ws
    → AllByRecursion (IsCounted moment) ws
counted_unused moment ws h = all_weaker IsUnused (IsCounted moment) (λ w u. omega (arith, u.never)) ws h

pub one_window : (new reserved old : List WindowValue) (a : WindowValue) → new ≡ reserved ++ a ∷ []
    → reserved ≡ old → new ≡ old ++ (a ∷ [])
one_window new reserved old a more same = more ∙ ap (λ (us : List WindowValue). us ++ a ∷ []) same

pub two_windows : (new one reserved old : List WindowValue) (a b : WindowValue) → new ≡ one ++ b ∷ []
    → one ≡ reserved ++ a ∷ [] → reserved ≡ old → new ≡ old ++ (a ∷ b ∷ [])
two_windows new one reserved old a b more first same =
    more ∙ ap (λ (us : List WindowValue). us ++ b ∷ []) (one_window one reserved old a first same)
    ∙ append_assoc old (a ∷ []) (b ∷ [])

-- ---- Windows and a later time

pub counted_later : (moment later : ℕ) (ws : List WindowValue) → moment ≤ later → AllByRecursion (IsCounted moment) ws
    → AllByRecursion (IsCounted later) ws
counted_later moment later ws le h = all_weaker (IsCounted moment) (IsCounted later) (λ w c. omega arith) ws h

pub rated_later : (moment later count : ℕ) (ws : List WindowValue) → moment ≤ later → AreRated moment count ws
    → AreRated later count ws
rated_later moment later count ws le h =
    record { as_many = h.as_many; counted = counted_later moment later ws le h.counted }

pub rated_more : (moment later count more : ℕ) (ws new : List WindowValue) → moment ≤ later → more ≡ count + length new
    → AllByRecursion IsUnused new → AreRated moment count ws → AreRated later more (ws ++ new)
rated_more moment later count more ws new le grown unused h =
    record {
      as_many = omega (arith, length-append ws new, h.as_many, grown);
      counted = all_append (IsCounted later) ws new (counted_later moment later ws le h.counted)
          (counted_unused later new unused);
    }
