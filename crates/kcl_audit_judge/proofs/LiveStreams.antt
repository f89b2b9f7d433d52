-- The judge's list of streams has the journal's live streams, open shards and names.
use Rattle.std.proofs.Common.{◌≡◌, ℕ, ◌+◌, Bool, List, [], ◌∷◌, length, refl, sym, ap, ◌∙◌, arith}
use Rattle.std.specs.Prelude.{◌==◌, is_some, nat_le, nat_lt}
use Rattle.std.specs.List.{filter, find}
use Rattle.std.proofs.lemmas.Bool.Decides.{nat_tests}
use Rattle.kds_base.proofs.Facts.{is_itself, swapped}
use Rattle.kds_defs.specs.declared.entry.Entry.TheVariants as entry
use Rattle.kds_defs.specs.declared.limits.TheConstants.{OPEN_SHARDS}
use Rattle.kcl_laws.specs.ShownLines.{entry_line}
use Rattle.kds_defs.specs.Journal.{Journal}
use Rattle.kds_defs.specs.Legal.{told}
use Rattle.kds_defs.specs.Shards.{open_count, open_in as open_of}
use Rattle.kds_defs.specs.Streams.{is_live, live_streams, name_of, numbers_from, same_name, stream_named}
use Rattle.kcl_audit_streams.specs.Judging.{is_named, exceeds_open_limit, live_count, made_verdict, open_in}
use Rattle.kcl_audit_streams.specs.Standing.{AreStreams, ShowsAll, StreamValue}
use Rattle.kcl_audit_streams.specs.Verdict.{judged, same_entry}
use Rattle.kcl_audit_streams.proofs.SameEntries.{list}
use Rattle.kcl_audit_streams.proofs.StreamTold.{then_refuse}

-- The live streams among the `count` numbers from `n` on.
abbrev live_from : Journal → ℕ → ℕ → List ℕ
live_from log n count = filter (is_live log) (numbers_from n count)

open_from : (log : Journal) (n : ℕ) (vs : List StreamValue) → AreStreams log n vs
    → open_of log (live_from log n (length vs)) ≡ open_in vs
open_from log n [] h = refl
open_from log n (v ∷ vs) h = grind (arith, h.0.lives, h.0.shards_are, open_from log (n + 1) vs h.1)

count_from : (log : Journal) (n : ℕ) (vs : List StreamValue) → AreStreams log n vs
    → length (live_from log n (length vs)) ≡ live_count vs
count_from log n [] h = refl
count_from log n (v ∷ vs) h = grind (arith, h.0.lives, count_from log (n + 1) vs h.1)

-- Whether one of these streams has the name.
abbrev named_in : Journal → List ℕ → List ℕ → Bool
named_in log name ss = is_some (find (λ s. same_name (name_of log s) name) ss)

named_from : (log : Journal) (name : List ℕ) (n : ℕ) (vs : List StreamValue) → AreStreams log n vs
    → named_in log name (live_from log n (length vs)) ≡ is_named vs name
named_from log name n [] h = refl
named_from log name n (v ∷ vs) h = grind (arith, h.0.lives, h.0.named, named_from log name (n + 1) vs h.1)

-- `vs` are all streams of the journal `log`.
module _ (log : Journal) (vs : List StreamValue) (sh : ShowsAll vs log) where
  pub open_are : open_count log ≡ open_in vs
  open_are = ap (λ count. open_of log (live_from log 1 count)) sh.made ∙ open_from log 1 vs sh.streams

  pub lives_are : length (live_streams log) ≡ live_count vs
  lives_are = ap (λ count. length (live_from log 1 count)) sh.made ∙ count_from log 1 vs sh.streams

  pub named_are : (name : List ℕ) → is_some (stream_named log name) ≡ is_named vs name
  named_are name = ap (λ count. named_in log name (live_from log 1 count)) sh.made ∙ named_from log name 1 vs sh.streams

  -- One more open shard would exceed the limit exactly if the journal has at least `OPEN_SHARDS`.
  pub full_is : exceeds_open_limit vs 1 ≡ nat_le OPEN_SHARDS (open_count log)
  full_is = above (open_in vs) ∙ ap (nat_le OPEN_SHARDS) (sym open_are)
    where
      above : (n : ℕ) → nat_lt OPEN_SHARDS (n + 1) ≡ nat_le OPEN_SHARDS n
      above n = grind (arith, nat_tests)

  same_made : (n s count : ℕ) (name : List ℕ) → same_entry (entry.Made n name count) (entry.Made s name count)
      ≡ (s == n)
  same_made n s count name = rw (list name, is_itself count, swapped n s) (grind arith)

  pub made_told : (clock actor s count : ℕ) (name : List ℕ)
      → judged (told log (entry_line clock actor (entry.Made s name count)) (entry.Made s name count))
      (entry.Made s name count) ≡ made_verdict vs s name count
  made_told clock actor s count name =
      then_refuse _ _ _ _ _ (then_refuse _ _ _ _ _ (then_refuse _ _ _ _ _ refl))
      ∙ rw (named_are name, lives_are, open_are, sh.made, same_made (length vs + 1) s count name) (grind arith)
