-- How a line and a later clock change the trim floor of a stream, one above its cut.
use Rattle.std.proofs.Common.{◌≡◌, ℕ, ◌+◌, ◌-◌, ◌*◌, max, ◌≤◌, Bool, true, false, ◌∷◌, Option, Some, None, refl, sym}
use Rattle.std.proofs.Common.{ap, ◌∙◌, arith}
use Rattle.std.specs.Prelude.{nat_lt, if◌then◌else◌}
use Rattle.std.proofs.lemmas.Bool.Decides.{nat_tests}
use Rattle.kds_defs.specs.declared.limits.TheConstants.{HOUR}
use Rattle.kds_defs.specs.Journal.{Line, Journal}
use Rattle.kds_defs.specs.Streams.{floor_after, floor_at, floor_of, floor_of_lines, hours, retention, trim_floor}
use Rattle.kds_defs.specs.Streams.{was_made}
use Rattle.kds_defs.specs.Lawful.{IsRetention}
use Rattle.kds_stream.specs.Value.{cut_at, later_cut}

-- ---- What a line adds to the trim floor of a stream

pub added : Bool → Bool → ℕ → ℕ → ℕ
added made old floor floor_before = if made then max floor (if old then floor_before else 0) else 0

floor_added : (log : Journal) (line : Line) (s : ℕ)
    → floor_after log line s
    ≡ added (was_made (line ∷ log) s) (was_made log s) (floor_at line.clock (retention (line ∷ log) s))
    (floor_at line.clock (retention log s))
unfolding added
floor_added log line s = refl

-- ---- The trim floor right after a stream was made

max_first : (made old : Bool) (a b n : ℕ) → made ≡ true → old ≡ false → n ≡ 0
    → max a (max (added made old a b) n) ≡ a
unfolding added
max_first true false a b n h g is = omega arith
max_first true true a b n h g is = absurd cc
max_first false old a b n h g is = absurd cc

-- A new stream's trim floor comes from its line's clock and its retention.
pub first_floor : (log : Journal) (line : Line) (s : ℕ) → was_made (line ∷ log) s ≡ true → was_made log s ≡ false
    → floor_of_lines log s ≡ 0
    → trim_floor (line ∷ log) line.clock s ≡ floor_at line.clock (retention (line ∷ log) s)
first_floor log line s made unmade none =
    ap (λ n. max (floor_at line.clock (retention (line ∷ log) s)) (max n (floor_of_lines log s)))
    (floor_added log line s)
    ∙ max_first (was_made (line ∷ log) s) (was_made log s) (floor_at line.clock (retention (line ∷ log) s))
    (floor_at line.clock (retention log s))
    (floor_of_lines log s) made unmade none

-- ---- The trim floor right after a line of a stream that was made before

max_changed : (made old : Bool) (a b n : ℕ) → made ≡ true → old ≡ true
    → max a (max (added made old a b) n) ≡ max (max b n) a
unfolding added
max_changed true true a b n h g = omega arith
max_changed true false a b n h g = absurd cc
max_changed false old a b n h g = absurd cc

-- After a line about an existing stream, the floor is the greater of the one before and the one by the retention.
pub changed_floor : (log : Journal) (line : Line) (s : ℕ) → was_made (line ∷ log) s ≡ true → was_made log s ≡ true
    → trim_floor (line ∷ log) line.clock s
    ≡ max (trim_floor log line.clock s) (floor_at line.clock (retention (line ∷ log) s))
changed_floor log line s made is_before =
    ap (λ n. max (floor_at line.clock (retention (line ∷ log) s)) (max n (floor_of_lines log s)))
    (floor_added log line s)
    ∙ max_changed (was_made (line ∷ log) s) (was_made log s) (floor_at line.clock (retention (line ∷ log) s))
    (floor_at line.clock (retention log s))
    (floor_of_lines log s) made is_before

-- ---- The trim floor at a later clock

cut_floor_by : (clock r : ℕ) (b : Bool) → nat_lt clock r ≡ b → floor_of (if b then None else Some (clock - r))
    ≡ clock + 1 - r
cut_floor_by clock r true h = grind (arith, nat_tests)
cut_floor_by clock r false h = grind (arith, nat_tests)

pub cut_floor : (clock hours : ℕ) → floor_of (cut_at clock hours) ≡ floor_at clock (hours * HOUR)
cut_floor clock hours = cut_floor_by clock (hours * HOUR) (nat_lt clock (hours * HOUR)) refl

pub later_floor : (a b : Option ℕ) → floor_of (later_cut a b) ≡ max (floor_of a) (floor_of b)
later_floor None b = omega arith
later_floor (Some a) None = omega arith
later_floor (Some a) (Some b) = omega arith

max_later : (c d r f : ℕ) → c ≤ d → max (d + 1 - r) f ≡ max (max (c + 1 - r) f) (d + 1 - r)
max_later c d r f h = omega arith

-- The trim floor moves on with the clock as the cut does.
pub advanced_floor : (log : Journal) (c d s h : ℕ) (cut : Option ℕ) → c ≤ d → hours log s ≡ h
    → trim_floor log c s ≡ floor_of cut
    → trim_floor log d s ≡ floor_of (later_cut cut (cut_at d h))
advanced_floor log c d s h cut later lasts is =
    max_later c d (retention log s) (floor_of_lines log s) later
    ∙ ap (λ n. max n (floor_at d (retention log s))) is
    ∙ ap (λ m. max (floor_of cut) (floor_at d (m * HOUR))) lasts
    ∙ ap (λ n. max (floor_of cut) n) (sym (cut_floor d h))
    ∙ sym (later_floor cut (cut_at d h))

pub trims_at : (d hours : ℕ) → IsRetention hours → floor_of (cut_at d hours) ≤ d
trims_at d hours lasting = omega (arith, cut_floor d hours, lasting.0)

pub trims_later : (c d hours : ℕ) (cut : Option ℕ) → IsRetention hours → c ≤ d → floor_of cut ≤ c
    → floor_of (later_cut cut (cut_at d hours)) ≤ d
trims_later c d hours cut lasting later h = omega (arith, later_floor cut (cut_at d hours), trims_at d hours lasting)
