-- After CreateStream the scribe knows the streams of the journal, with the new one at the end.
use Rattle.std.proofs.Common.{◌≡◌, ℕ, suc, ◌+◌, ◌^◌, ◌/◌, ◌≤◌, List, [], ◌∷◌, ◌++◌, length, Bool, false, refl, sym, ap}
use Rattle.std.proofs.Common.{◌∙◌, arith, subst}
use Rattle.std.proofs.lemmas.Bool.Decides.{nat_tests}
use Rattle.std.proofs.lemmas.List.{map_push}
use Rattle.std.proofs.lemmas.List.Elements.{filter-append}
use Rattle.std.specs.List.{AllByRecursion, filter}
use Rattle.std.specs.Prelude.{◌==◌, ◌||◌}
use Rattle.kds_base.specs.Span.{uniform}
use Rattle.kds_base.proofs.Facts.{all_append, all_both, is_itself}
use Rattle.kds_defs.specs.declared.entry.Entry.TheVariants as entry
use Rattle.kds_defs.specs.Journal.{Journal, Line, plain_line}
use Rattle.kds_defs.specs.Records.{next_number}
use Rattle.kds_defs.specs.Shards.{made_shards}
use Rattle.kds_defs.specs.Streams.{is_live, live_streams, made_count, numbers_from}
use Rattle.kds_defs.proofs.Counted.{length_first, length_uniform}
use Rattle.kcl_sim_scribe.specs.Known.{IsKnown, Known, Knows, new_known}
use Rattle.kcl_sim_scribe.proofs.Lists.{one_more, same_kept, unmapped, up_to}
use Rattle.kcl_sim_scribe.proofs.Readings.{live_below, no_of}

pub length_made : (count start : ℕ) → length (made_shards count start) ≡ count
length_made count start = length_first 0 start (uniform count) ∙ length_uniform (2 ^ 128 / count) 0 count

above : (m n : ℕ) → n ≤ m → (m + 1 == n) ≡ false
above m n below = grind (arith, nat_tests, below)

module _ (log : Journal) (c actor count : ℕ) (name : List ℕ) where
  -- The line of CreateStream, which gives the stream the next number.
  abbrev line : Line
  line = plain_line c actor (entry.Made (made_count log + 1) name count)

  old_tests : (m : ℕ) (ns : List ℕ) → AllByRecursion (λ s. s ≤ m) ns
      → AllByRecursion (λ s. ((m + 1 == s) || is_live log s) ≡ is_live log s) ns
  old_tests m [] all = tt
  old_tests m (n ∷ ns) all = (rw (above m n all.0) refl, old_tests m ns all.1)

  live_made : live_streams (line ∷ log) ≡ live_streams log ++ (made_count log + 1) ∷ []
  live_made =
      let m = made_count log in
      let p : ℕ → Bool = λ s. (m + 1 == s) || is_live log s in
      let next : m + 1 ≡ suc m = omega arith in
      let last : 1 + m ≡ m + 1 = omega arith in
      let new : filter p ((m + 1) ∷ []) ≡ (m + 1) ∷ [] = rw (is_itself (m + 1)) refl in
      ap (λ n. filter p (numbers_from 1 n)) next
      ∙ ap (filter p) (one_more 1 m ∙ ap (λ n. numbers_from 1 m ++ n ∷ []) last)
      ∙ filter-append p (numbers_from 1 m) ((m + 1) ∷ [])
      ∙ (λ i. same_kept p (is_live log) (numbers_from 1 m) (old_tests m (numbers_from 1 m) (up_to 1 m m (omega arith)))
      i ++ new i)

  old_known : (v : Known) → v.no ≤ made_count log → IsKnown log v → IsKnown (line ∷ log) v
  old_known v below k =
      let other = above (made_count log) v.no below in
      record { named = rw other k.named; next = omega (arith, k.next); many = rw other k.many; left = k.left }

  pub knows_made : (vs : List Known) → 1 ≤ count → Knows log (made_count log) vs
      → Knows (line ∷ log) (made_count log + 1) (vs ++ new_known (made_count log + 1) name count ∷ [])
  knows_made vs some k =
      let m = made_count log in
      let below = unmapped (λ s. s ≤ m) no_of vs
      (subst (λ ns. AllByRecursion (λ s. s ≤ m) ns) k.live (live_below log)) in
      let old = all_both (λ (v : Known). v.no ≤ m) (IsKnown log) (IsKnown (line ∷ log)) old_known vs below k.known in
      let fresh : next_number log (m + 1) ≡ 1 = k.unmade (m + 1) (omega arith) in
      let is_new : IsKnown (line ∷ log) (new_known (m + 1) name count) = record {
        named = rw (is_itself (m + 1)) refl;
        next = omega arith;
        many = rw (is_itself (m + 1)) (length_made count _ ∙ omega arith);
        left = omega arith;
      } in
      record {
        made_is = refl;
        live = live_made ∙ ap (λ ns. ns ++ (m + 1) ∷ []) k.live
            ∙ sym (map_push no_of vs (new_known (m + 1) name count));
        known = all_append (IsKnown (line ∷ log)) vs (new_known (m + 1) name count ∷ []) old (is_new, tt);
        unmade = λ s above. let earlier = k.unmade s (omega (arith, above)) in omega arith;
      }
