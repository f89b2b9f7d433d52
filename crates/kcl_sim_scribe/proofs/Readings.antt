-- If lines make no stream, changing the known streams by their entries agrees with the journal.
use Rattle.std.proofs.Common.{◌≡◌, ℕ, ◌+◌, ◌<◌, ◌≤◌, List, [], ◌∷◌, length, map, Bool, true, false, refl, sym, ap, ◌∙◌}
use Rattle.std.proofs.Common.{arith, inl, inr, subst}
use Rattle.std.proofs.lemmas.Bool.{cases_Bool, eqb-true, ne_eqb}
use Rattle.std.specs.List.{AllByRecursion, filter, find}
use Rattle.std.specs.Prelude.{◌==◌, ◌&&◌, not, option_map, if◌then◌else◌}
use Rattle.kds_base.proofs.Facts.{all_filter}
use Rattle.kds_defs.specs.declared.entry.Entry.{Entry}
use Rattle.kds_defs.specs.declared.entry.Entry.TheVariants as entry
use Rattle.kds_defs.specs.Journal.{Journal, Line, with_lines}
use Rattle.kds_defs.specs.Records.{draws, next_number}
use Rattle.kds_defs.specs.Shards.{closing_of, shards, shards_after}
use Rattle.kds_defs.specs.StreamCommands.{last_number}
use Rattle.kds_defs.specs.Streams.{is_live, is_live_after, live_streams, made_count, made_count_after, name_of}
use Rattle.kds_defs.specs.Streams.{name_of_after, numbers_from}
use Rattle.kds_defs.specs.Streams.{same_name, stream_named}
use Rattle.kds_defs.proofs.Counted.{length_split, length_merged}
use Rattle.kcl_sim_scribe.specs.Known.{IsKnown, Known, Knows, changed, changed_by, is_gone, known_as, renumbered}
use Rattle.kcl_sim_scribe.proofs.Lists.{all_kept, both_tests, mapped, same_kept, up_to}

-- The stream's number.
abbrev pub no_of : Known → ℕ
no_of v = v.no

-- ---- The stream with a name

named_among : (log : Journal) (name : List ℕ) (vs : List Known) → AllByRecursion (IsKnown log) vs
    → find (λ s. same_name (name_of log s) name) (map no_of vs) ≡ option_map no_of (known_as name vs)
named_among log name [] all = refl
named_among log name (v ∷ vs) all = grind (arith, all.0.named, named_among log name vs all.1)

-- The scribe finds by a name the stream that the journal has under it.
pub named_is : (log : Journal) (made : ℕ) (vs : List Known) (name : List ℕ) → Knows log made vs
    → stream_named log name ≡ option_map no_of (known_as name vs)
named_is log made vs name k = ap (find (λ s. same_name (name_of log s) name)) k.live ∙ named_among log name vs k.known

pub live_below : (log : Journal) → AllByRecursion (λ s. s ≤ made_count log) (live_streams log)
live_below log = all_filter (λ s. s ≤ made_count log) (is_live log) (numbers_from 1 (made_count log))
    (up_to 1 (made_count log) (made_count log) (omega arith))

-- ---- Lines that make no stream

-- The entry makes no stream, and a put, split or merge takes the next numbers of a stream that was made.
abbrev pub Fits : Journal → Entry → Type 0
Fits log (entry.Made s name count) = ⊥
Fits log (entry.Put s sh number hash bytes key_bytes) =
    (s ≤ made_count log) × ((number ≡ next_number log s) × (number < last_number))
Fits log (entry.Split s sh key_hash number low high) =
    (s ≤ made_count log) × (((number ≡ next_number log s) × (number < last_number))
    × (high ≡ length (shards log s) + 1))
Fits log (entry.Merged s sh other number child) =
    (s ≤ made_count log) × (((number ≡ next_number log s) × (number < last_number)) × (child ≡ length (shards log s)))
Fits log _ = Unit {0}

-- Each line fits the journal with the lines before it.
abbrev pub FitAll : Journal → List Line → Type 0
FitAll log [] = Unit {0}
FitAll log (line ∷ lines) = Fits log line.what × FitAll (line ∷ log) lines

made_same : (log : Journal) (e : Entry) (n : ℕ) → Fits log e → made_count_after e n ≡ n
made_same log (entry.Made s name count) n f = absurd f
made_same log _ n f = refl

name_same : (log : Journal) (e : Entry) (n : ℕ) (name : List ℕ) → Fits log e → name_of_after e n name ≡ name
name_same log (entry.Made s name' count) n name f = absurd f
name_same log _ n name f = refl

lives : (log : Journal) (e : Entry) (n : ℕ) (b : Bool) → Fits log e → is_live_after e n b ≡ (not (is_gone e n) && b)
lives log (entry.Made s name' count) n b f = absurd f
lives log _ n b f = refl

-- ---- The sequence numbers that a line takes

other_stream : (s n m : ℕ) → s ≤ m → m < n → (s == n) ≡ false
other_stream s n m a b = ne_eqb s n (λ e. absurd (omega arith))

none_drawn : (log : Journal) (e : Entry) (n : ℕ) → Fits log e → made_count log < n → draws e n ≡ 0
none_drawn log (entry.Put s sh q hash bytes key_bytes) n f h = rw (other_stream s n (made_count log) f.0 h) refl
none_drawn log (entry.Split s sh key_hash q low high) n f h = rw (other_stream s n (made_count log) f.0 h) refl
none_drawn log (entry.Merged s sh other q child) n f h = rw (other_stream s n (made_count log) f.0 h) refl
none_drawn log _ n f h = refl

-- ---- A stream that the scribe knows

-- `w` is what the scribe should know after the entry of the stream that it knew as `v`.
record Kept (log : Journal) (line : Line) (e : Entry) (v w : Known) : Type 0 where
  same : w.no ≡ v.no
  name : w.name ≡ v.name
  next : draws e v.no + next_number log v.no ≡ w.drawn + 1
  many : (start : ℕ) → length (shards_after line e v.no start (shards log v.no)) ≡ w.shard + 1
  left : w.drawn < last_number

as_before : (log : Journal) (line : Line) (e : Entry) (v : Known) → IsKnown log v → draws e v.no ≡ 0
    → ((start : ℕ) → shards_after line e v.no start (shards log v.no) ≡ shards log v.no) → Kept log line e v v
as_before log line e v k none shards_same = record {
  same = refl;
  name = refl;
  next = omega (arith, none, k.next);
  many = λ start. ap length (shards_same start) ∙ k.many;
  left = k.left;
}

drawn_kept : (log : Journal) (line : Line) (e : Entry) (s q last : ℕ) (v : Known) → IsKnown log v
    → q ≡ next_number log s → q < last_number
    → draws e v.no ≡ (if s == v.no then 1 else 0)
    → (s ≡ v.no → (s == v.no) ≡ true → (start : ℕ) → length (shards_after line e v.no start (shards log v.no))
    ≡ last + 1)
    → ((s == v.no) ≡ false → (start : ℕ) → shards_after line e v.no start (shards log v.no) ≡ shards log v.no)
    → Kept log line e v (if s == v.no then record v { drawn = q; shard = last } else v)
drawn_kept log line e s q last v k drawn left draws_is its_shards same_shards = elim (cases_Bool (s == v.no)) [
  | inl here ↦
      let is : s ≡ v.no = eqb-true s v.no here in
      let one : draws e v.no ≡ 1 = draws_is ∙ rw here refl in
      let is_from : q ≡ next_number log v.no = drawn ∙ ap (next_number log) is in
      let next : draws e v.no + next_number log v.no ≡ q + 1 = omega arith in
      rw here (record { same = refl; name = refl; next = next; many = its_shards is here; left = left })
  | inr other ↦ rw other (as_before log line e v k (draws_is ∙ rw other refl) (same_shards other))
]

entry_kept : (log : Journal) (line : Line) (e : Entry) (v : Known) → Fits log e → IsKnown log v
    → Kept log line e v (renumbered e v)
entry_kept log line (entry.Made s name count) v f k = absurd f
entry_kept log line (entry.Put s sh q hash bytes key_bytes) v f k =
    drawn_kept log line (entry.Put s sh q hash bytes key_bytes) s q v.shard v k f.1.0 f.1.1 refl (λ is here start.
    k.many) (λ other start. refl)
entry_kept log line (entry.Split s sh key_hash q low high) v f k =
    drawn_kept log line (entry.Split s sh key_hash q low high) s q high v k f.1.0.0 f.1.0.1 refl
    (λ is here start.
    let last : high ≡ length (shards log v.no) + 1 = f.1.1 ∙ ap (λ n. length (shards log n) + 1) is in
    rw here (length_split sh key_hash start (closing_of line q) (shards log v.no) ∙ omega arith))
    (λ other start. rw other refl)
entry_kept log line (entry.Merged s sh other_sh q child) v f k =
    drawn_kept log line (entry.Merged s sh other_sh q child) s q child v k f.1.0.0 f.1.0.1 refl
    (λ is here start.
    let last : child ≡ length (shards log v.no) = f.1.1 ∙ ap (λ n. length (shards log n)) is in
    rw here (length_merged sh other_sh start (closing_of line q) (shards log v.no) ∙ omega arith))
    (λ other start. rw other refl)
entry_kept log line e v f k = as_before log line e v k refl (λ start. refl)

known_after : (log : Journal) (line : Line) (v : Known) → Fits log line.what → IsKnown log v
    → IsKnown (line ∷ log) (renumbered line.what v)
known_after log line v f k =
    let w = renumbered line.what v in
    let n = entry_kept log line line.what v f k in
    let here : IsKnown (line ∷ log) (record w { no = v.no }) = record {
      named = name_same log line.what v.no (name_of log v.no) f ∙ k.named ∙ sym n.name;
      next = n.next;
      many = n.many (next_number (line ∷ log) v.no);
      left = n.left;
    } in
    subst (λ (m : ℕ). IsKnown (line ∷ log) (record w { no = m })) (sym n.same) here

-- ---- The live streams

same_no : (log : Journal) (line : Line) (e : Entry) (v : Known) → Fits log e → IsKnown log v
    → (renumbered e v).no ≡ v.no
same_no log line e v f k = (entry_kept log line e v f k).same

gone_among : (log : Journal) (line : Line) (e : Entry) (vs : List Known) → Fits log e → AllByRecursion (IsKnown log) vs
    → filter (λ s. not (is_gone e s)) (map no_of vs) ≡ map no_of (changed e vs)
gone_among log line e [] f all = refl
gone_among log line e (v ∷ vs) f all = grind (arith, same_no log line e v f all.0, gone_among log line e vs f all.1)

agree : (log : Journal) (e : Entry) (ns : List ℕ) → Fits log e
    → AllByRecursion (λ s. is_live_after e s (is_live log s) ≡ (not (is_gone e s) && is_live log s)) ns
agree log e [] f = tt
agree log e (n ∷ ns) f = (lives log e n (is_live log n) f, agree log e ns f)

live_after : (log : Journal) (line : Line) (made : ℕ) (vs : List Known) → Fits log line.what → Knows log made vs
    → live_streams (line ∷ log) ≡ map no_of (changed line.what vs)
live_after log line made vs f k =
    let ns = numbers_from 1 (made_count log) in
    let count = made_same log line.what (made_count log) f in
    ap (λ n. filter (is_live (line ∷ log)) (numbers_from 1 n)) count
    ∙ same_kept (is_live (line ∷ log)) (λ s. not (is_gone line.what s) && is_live log s) ns (agree log line.what ns f)
    ∙ both_tests (is_live log) (λ s. not (is_gone line.what s)) ns
    ∙ ap (filter (λ s. not (is_gone line.what s))) k.live
    ∙ gone_among log line line.what vs f k.known

-- ---- Several lines, one after another

pub knows_after : (log : Journal) (line : Line) (made : ℕ) (vs : List Known) → Fits log line.what → Knows log made vs
    → Knows (line ∷ log) made (changed line.what vs)
knows_after log line made vs f k = record {
  made_is = made_same log line.what (made_count log) f ∙ k.made_is;
  live = live_after log line made vs f k;
  known = all_filter (IsKnown (line ∷ log)) (λ (v : Known). not (is_gone line.what v.no))
      (map (renumbered line.what) vs)
      (mapped (IsKnown log) (IsKnown (line ∷ log)) (renumbered line.what) vs (λ v known. known_after log line v f known)
      k.known);
  unmade = λ s above.
      let none = none_drawn log line.what s f (subst (λ (n : ℕ). n < s) (sym k.made_is) above) in
      omega (arith, none, k.unmade s above);
}

-- Lines that fit keep the scribe's knowledge correct.
pub knows_all : (log : Journal) (lines : List Line) (made : ℕ) (vs : List Known) → FitAll log lines → Knows log made vs
    → Knows (with_lines lines log) made (changed_by (map (λ (l : Line). l.what) lines) vs)
knows_all log [] made vs f k = k
knows_all log (line ∷ lines) made vs f k =
    knows_all (line ∷ log) lines made (changed line.what vs) f.1 (knows_after log line made vs f.0 k)

pub stay : (e : Entry) → ((s : ℕ) → e ≡ entry.Gone s → ⊥) → (vs : List Known)
    → filter (λ v. not (is_gone e v.no)) vs ≡ vs
stay (entry.Gone s) h vs = absurd (h s refl)
stay e h vs = all_kept vs
