-- A stream's total number of records is below its next sequence number, so it fits into 64 bits.
use Rattle.std.proofs.Common.{◌≡◌, ℕ, ◌+◌, ◌*◌, ◌<◌, ◌≤◌, ◌^◌, Bool, true, false, List, [], ◌∷◌, ◌++◌, length, refl, ap}
use Rattle.std.proofs.Common.{arith}
use Rattle.std.specs.Prelude.{◌==◌, ◌&&◌, if◌then◌else◌}
use Rattle.std.proofs.lemmas.Bool.Decides.{nat_tests}
use Rattle.std.proofs.lemmas.List.{length-append}
use Rattle.kds_defs.specs.declared.entry.Entry.{Entry}
use Rattle.kds_defs.specs.declared.entry.Entry.TheVariants as entry
use Rattle.kds_defs.specs.Journal.{Line, Journal}
use Rattle.kds_defs.specs.Records.{Logged, draws, next_number, records, records_after}
use Rattle.kds_defs.specs.Scaling.{RiseFrom}
use Rattle.kds_defs.specs.StreamCommands.{last_number}
use Rattle.kcl_drill.specs.Summed.{bytes_of}
use Rattle.kcl_drill_summary.proofs.BatchLemmas.{AreSized}
use Rattle.kcl_drill_summary.proofs.CountLemmas.{bytes_few}

-- The total number of records in these shards of the stream `s`.
abbrev pub records_in : Journal → ℕ → List ℕ → ℕ
records_in log s [] = 0
records_in log s (sh ∷ shs) = length (records log s sh) + records_in log s shs

-- The total number of payload bytes in these shards of the stream `s`.
abbrev pub bytes_in : Journal → ℕ → List ℕ → ℕ
bytes_in log s [] = 0
bytes_in log s (sh ∷ shs) = bytes_of (records log s sh) + bytes_in log s shs

-- ---- After one more line

-- The sum of `f` over a list of numbers.
abbrev sums : (ℕ → ℕ) → List ℕ → ℕ
sums f [] = 0
sums f (x ∷ xs) = f x + sums f xs

-- The number 1 for true, and 0 for false.
abbrev bit : Bool → ℕ
bit b = if b then 1 else 0

-- The number 1 if `n` is the shard `sh`, and 0 otherwise.
abbrev one_at : ℕ → ℕ → ℕ
one_at sh n = bit (sh == n)

none_above : (f g : ℕ → ℕ) (sh m : ℕ) (xs : List ℕ) → sh < m → RiseFrom m xs → ((n : ℕ) → g n ≡ f n + one_at sh n)
    → sums g xs ≡ sums f xs
none_above f g sh m [] below rise is = refl
none_above f g sh m (x ∷ xs) below rise is =
    let rest = none_above f g sh (x + 1) xs (omega (arith, below, rise.0)) rise.1 is in
    let zero : one_at sh x ≡ 0 = apart (omega (arith, below, rise.0)) in
    omega (arith, rest, is x, zero)
  where
    other : sh < x → (sh == x) ≡ false
    other h = grind (arith, nat_tests)

    apart : sh < x → one_at sh x ≡ 0
    apart h = ap bit (other h)

one_more : (f g : ℕ → ℕ) (sh m : ℕ) (xs : List ℕ) → RiseFrom m xs → ((n : ℕ) → g n ≡ f n + one_at sh n)
    → sums g xs ≤ sums f xs + 1
one_more f g sh m [] rise is = omega arith
one_more f g sh m (x ∷ xs) rise is = either (sh == x) refl (one_more f g sh (x + 1) xs rise.1 is)
  where
    equal : (sh == x) ≡ true → sh < x + 1
    equal h = grind (arith, nat_tests)

    either : (b : Bool) → (sh == x) ≡ b → sums g xs ≤ sums f xs + 1 → g x + sums g xs ≤ f x + sums f xs + 1
    either true same later =
        let one : one_at sh x ≡ 1 = ap bit same in
        let rest = none_above f g sh (x + 1) xs (equal same) rise.1 is in
        omega (arith, is x, one, rest)
    either false other later =
        let none : one_at sh x ≡ 0 = ap bit other in
        omega (arith, is x, none, later)

lengths_if : (b : Bool) (old : List Logged) (r : Logged) → length (if b then old ++ (r ∷ []) else old)
    ≡ length old + bit b
lengths_if true old r = length-append old (r ∷ [])
lengths_if false old r = omega arith

more_by : (line : Line) (log : Journal) (e : Entry) (s m : ℕ) (shs : List ℕ) → RiseFrom m shs
    → sums (λ sh. length (records_after line e s sh (records log s sh))) shs ≤ draws e s
    + sums (λ sh. length (records log s sh)) shs
more_by line log (entry.Put stream shard number hash bytes key_bytes) s m shs rise = either (stream == s) refl
  where
    r : Logged
    r = record { seq = number; arrival = line.clock; bytes = bytes + key_bytes; key = line.key; payload = line.payload }

    either : (b : Bool) → (stream == s) ≡ b
        → sums (λ sh. length (if b && (shard == sh) then records log s sh ++ (r ∷ []) else records log s sh)) shs
        ≤ bit b + sums (λ sh. length (records log s sh)) shs
    either true same =
        let n = one_more (λ sh. length (records log s sh))
        (λ sh. length (if shard == sh then records log s sh ++ (r ∷ []) else records log s sh)) shard m shs rise
        (λ n. lengths_if (shard == n) (records log s n) r) in
        omega arith
    either false other = omega arith
more_by line log (entry.Split stream shard key_hash number low high) s m shs rise = omega arith
more_by line log (entry.Merged stream shard other number child) s m shs rise = omega arith
more_by line log _ s m shs rise = omega arith

in_sums : (log : Journal) (s : ℕ) (shs : List ℕ) → records_in log s shs ≡ sums (λ sh. length (records log s sh)) shs
in_sums log s [] = refl
in_sums log s (sh ∷ shs) = ap (λ n. length (records log s sh) + n) (in_sums log s shs)

none_yet : (s : ℕ) (shs : List ℕ) → sums (λ sh. length (records [] s sh)) shs ≡ 0
none_yet s [] = refl
none_yet s (sh ∷ shs) = let rest = none_yet s shs in omega arith

below_next : (log : Journal) (s m : ℕ) (shs : List ℕ) → RiseFrom m shs
    → sums (λ sh. length (records log s sh)) shs < next_number log s
below_next [] s m shs rise = omega (arith, none_yet s shs)
below_next (line ∷ log) s m shs rise =
    omega (arith, more_by line log line.what s m shs rise, below_next log s m shs rise)

pub few_in : (log : Journal) (s m : ℕ) (shs : List ℕ) → next_number log s ≤ last_number → RiseFrom m shs
    → records_in log s shs < 2 ^ 64
few_in log s m shs fits rise = omega (arith, in_sums log s shs, below_next log s m shs rise, fits)

-- ---- Payload bytes

pub few_bytes_in : (log : Journal) (s : ℕ) (shs : List ℕ) → ((sh : ℕ) → AreSized (records log s sh))
    → bytes_in log s shs ≤ 10485760 * records_in log s shs
few_bytes_in log s [] sized = omega arith
few_bytes_in log s (sh ∷ shs) sized =
    let rest = few_bytes_in log s shs sized in
    let one = bytes_few (records log s sh) (sized sh) in
    omega arith
