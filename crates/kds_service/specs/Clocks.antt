-- The streams of a service after an advance of the clock, a retreat and a settling.
use Rattle.std.specs.Prelude.{ℕ, zero, suc, nat_lt, if◌then◌else◌, List, [], ◌∷◌, length, map}
use Rattle.kds_base.specs.Circle.{next_of}
use Rattle.kds_stream.specs.Value.{StreamValue, cut_at, later_cut, settled}
use Rattle.kds_service.specs.Shown.{AreAt, ServiceValue}

-- The stream after its clock advances to `c`: the cut never falls, and the old clock and cut are remembered.
abbrev pub advanced : (c : ℕ) (v : StreamValue) → StreamValue
advanced c v = record v {
  clock = c;
  cut = later_cut v.cut (cut_at c v.hours);
  clock_before = v.clock;
  cut_before = v.cut;
}

-- The stream back at the clock and the cut that it remembers.
abbrev pub retreated : (v : StreamValue) → StreamValue
retreated v = record v { clock = v.clock_before; cut = v.cut_before }

-- The streams with the one at the index `n` settled; unchanged if there is no such index.
abbrev pub settled_in : (n : ℕ) (vs : List StreamValue) → List StreamValue
settled_in n [] = []
settled_in zero (v ∷ vs) = settled v ∷ vs
settled_in (suc n) (v ∷ vs) = v ∷ settled_in n vs

-- The service, and each of its streams, back at the clock that it remembers.
abbrev pub retreated_service : (w : ServiceValue) → ServiceValue
retreated_service w = record w { clock = w.clock_before; streams = map retreated w.streams }

-- Each stream remembers the service's clock before the last advance.
abbrev pub CanRetreat : (w : ServiceValue) → Type 0
CanRetreat w = AreAt w.clock_before (map retreated w.streams)

-- The index that comes next in a rotation; 0 if `n` is no index.
abbrev pub in_rotation : (count n : ℕ) → ℕ
in_rotation count n = if nat_lt n count then n else 0

-- The index after the next one in a rotation.
abbrev pub next_in_rotation : (count n : ℕ) → ℕ
next_in_rotation count n = next_of count (in_rotation count n)

-- The service after its next stream was settled; a retreat then leads to this clock.
abbrev pub settled_next : (w : ServiceValue) → ServiceValue
settled_next w =
    let count = length w.streams in
    record w {
      clock_before = w.clock;
      streams = settled_in (in_rotation count w.next_to_settle) w.streams;
      next_to_settle = next_in_rotation count w.next_to_settle;
    }
