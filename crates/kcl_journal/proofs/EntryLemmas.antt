-- Each line of a journal has exactly one text, and makes a round trip.
use Rattle.std.proofs.Common.{◌≡◌, ℕ, ◌<◌, ◌^◌, List, ◌∷◌, ◌++◌, true, Option, Some, None, refl, sym, ap, ◌∙◌, arith}
use Rattle.std.proofs.Common.{codes, decimal, subst}
use Rattle.std.specs.Prelude.{option_map}
use Rattle.std.proofs.lemmas.Slice.Eq.{bytes_eq-Decides}
use Rattle.std.specs.Str.{bytes_eq}
use Rattle.kds_defs.specs.declared.entry.Entry.{Entry}
use Rattle.kds_defs.specs.declared.entry.Entry.TheVariants as entry
use Rattle.kds_base.specs.Moments.{moment_of}
use Rattle.kcl_script_fields.specs.Fields.{◌>>=◌, field, greatest32}
use Rattle.kcl_script_fields.proofs.Parts.{parted_at, parted_spells, bind_some, map_some}
use Rattle.kcl_script_fields.proofs.Forms.{IsForm, IsWorker, number_form, moment_form, decimal_lacks}
use Rattle.kcl_script_fields.proofs.RawLemmas.{choose, row_form}
use Rattle.kcl_journal.specs.declared.line.EntryLine.{EntryLine}
use Rattle.kcl_journal.specs.Entries.{within_of, lease_by, entry_by, entry_text, entry_of, entry_spelling, end_of}
use Rattle.kcl_journal.specs.Entries.{end_spelling, heading}
use Rattle.kcl_journal.specs.Ranges.{IsCounter, IsEntryLine, IsTellable, IsWorkerNo}
use Rattle.kcl_journal.proofs.TextForms.{IsWithin, IsCounted, within_form}
use Rattle.kcl_journal.proofs.EntryForms.{made_form, put_form, split_form, merged_form, kept_form, enforced_form}
use Rattle.kcl_journal.proofs.EntryForms.{taken_form, written_form, read_form, marked_form, cut_form}

counter_is : (n : ℕ) → IsCounted n → IsCounter n
counter_is n v = (v.0, omega (arith, v.1))

is_counter : (n : ℕ) → IsCounter n → IsCounted n
is_counter n v = (v.0, omega (arith, v.1))

worker_is : (n : ℕ) → IsWorker n → IsWorkerNo n
worker_is n v = (v.0, omega (arith, v.1))

is_worker : (n : ℕ) → IsWorkerNo n → IsWorker n
is_worker n v = (v.0, omega (arith, v.1))

-- ---- The first word of an entry, and what follows it

-- A possible entry in this version, whose text is `word`, a space and `text`.
abbrev Spells : ℕ → List ℕ → List ℕ → Entry → Type 0
Spells version word text e = IsTellable version e × (word ++ 32 ∷ text ≡ entry_text version e)

spelled : {A : Type 0} {V : A → Type 0} {f : List ℕ → Option A} {s : A → List ℕ} → (version : ℕ) (w word : List ℕ)
    → IsForm V f s → (entry_of_value : A → Entry)
    → ((a : A) → V a → Spells version w (s a) (entry_of_value a)) → (text : List ℕ) (e : Entry) → bytes_eq word w ≡ true
    → option_map entry_of_value (f text) ≡ Some e → Spells version word text e
spelled {A} {V} {f} {s} version w word form entry_of_value each text e same h =
    let m = map_some entry_of_value (f text) e h in
    let d = form.spells text m.0 m.1 in
    let k = each m.0 d.0 in
    let at_w : Spells version w text (entry_of_value m.0) = (k.0, ap (λ z. w ++ 32 ∷ z) d.1 ∙ k.1) in
    let at_word : Spells version word text (entry_of_value m.0) =
    subst (λ (z : List ℕ). Spells version z text (entry_of_value m.0)) (sym ((bytes_eq-Decides word w).0 same)) at_w in
    subst (λ (z : Entry). Spells version word text z) m.2 at_word

lease_spells : (v : ℕ) (word text : List ℕ) (e : Entry) → lease_by word text ≡ Some e → Spells v word text e
lease_spells v word text e h =
    choose (bytes_eq word (codes "lease")) _ _ e h (spelled v (codes "lease") word row_form _ (λ a v. (v, refl)) text e)
    (λ h. choose (bytes_eq word (codes "taken")) _ _ e h
    (spelled v (codes "taken") word taken_form _
    (λ a v. ((v.0, (v.1.0, (counter_is _ v.1.1.0, worker_is _ v.1.1.1))), refl)) text e)
    (λ h. choose (bytes_eq word (codes "renewed")) _ _ e h
    (spelled v (codes "renewed") word written_form _ (λ a v. ((v.0, counter_is _ v.1), refl)) text e)
    (λ h. choose (bytes_eq word (codes "freed")) _ _ e h
    (spelled v (codes "freed") word written_form _ (λ a v. ((v.0, counter_is _ v.1), refl)) text e)
    (λ h. choose (bytes_eq word (codes "opened")) _ _ e h
    (spelled v (codes "opened") word number_form _ (λ a v. (v, refl)) text e)
    (λ h. choose (bytes_eq word (codes "read")) _ _ e h
    (spelled v (codes "read") word read_form _ (λ a v. (v, refl)) text e)
    (λ h. choose (bytes_eq word (codes "given")) _ _ e h
    (spelled v (codes "given") word number_form _ (λ a v. (v, refl)) text e)
    (λ h. choose (bytes_eq word (codes "marked")) _ _ e h
    (spelled v (codes "marked") word marked_form _ (λ a v. ((v.0, (counter_is _ v.1.0, v.1.1)), refl)) text e)
    (λ h. choose (bytes_eq word (codes "cut")) _ _ e h
    (spelled v (codes "cut") word cut_form _ (λ a v. (v, refl)) text e)
    (λ h. absurd (cc))))))))))

by_spells : (v : ℕ) (word text : List ℕ) (e : Entry) → entry_by v word text ≡ Some e → Spells v word text e
by_spells v word text e h =
    choose (bytes_eq word (codes "made")) _ _ e h (spelled v (codes "made") word made_form _ (λ a v. (v, refl)) text e)
    (λ h. choose (bytes_eq word (codes "gone")) _ _ e h
    (spelled v (codes "gone") word number_form _ (λ a v. (v, refl)) text e)
    (λ h. choose (bytes_eq word (codes "put")) _ _ e h
    (spelled v (codes "put") word (put_form v) _ (λ a v. (v, refl)) text e)
    (λ h. choose (bytes_eq word (codes "split")) _ _ e h
    (spelled v (codes "split") word split_form _ (λ a v. (v, refl)) text e)
    (λ h. choose (bytes_eq word (codes "merged")) _ _ e h
    (spelled v (codes "merged") word merged_form _ (λ a v. (v, refl)) text e)
    (λ h. choose (bytes_eq word (codes "kept")) _ _ e h
    (spelled v (codes "kept") word kept_form _ (λ a v. (v, refl)) text e)
    (λ h. choose (bytes_eq word (codes "enforced")) _ _ e h
    (spelled v (codes "enforced") word enforced_form _ (λ a v. (v.0, refl)) text e)
    (lease_spells v word text e)))))))

-- The entry in a text without clock and actor.
abbrev reading : ℕ → List ℕ → Option Entry
reading v text = field text >>= λ p. entry_by v p.0 p.1

what_again : (v : ℕ) (e : Entry) → IsTellable v e → reading v (entry_text v e) ≡ Some e
what_again v (entry.Made s name count) t =
    ap (λ o. option_map (λ a. entry.Made a.0 a.1.0 a.1.1) o) (made_form.again (s, (name, count)) t)
what_again v (entry.Gone s) t = ap (λ o. option_map (λ n. entry.Gone n) o) (number_form.again s t)
what_again v (entry.Put s sh number hash bytes key_bytes) t =
    ap (λ o. option_map (λ a. entry.Put a.0 a.1.0 a.1.1.0 a.1.1.1.0 a.1.1.1.1.0 a.1.1.1.1.1) o)
    ((put_form v).again (s, (sh, (number, (hash, (bytes, key_bytes))))) t)
what_again v (entry.Split s sh key_hash number low high) t =
    ap (λ o. option_map (λ a. entry.Split a.0 a.1.0 a.1.1.0 a.1.1.1.0 a.1.1.1.1.0 a.1.1.1.1.1) o)
    (split_form.again (s, (sh, (key_hash, (number, (low, high))))) t)
what_again v (entry.Merged s sh other number child) t =
    ap (λ o. option_map (λ a. entry.Merged a.0 a.1.0 a.1.1.0 a.1.1.1.0 a.1.1.1.1) o)
    (merged_form.again (s, (sh, (other, (number, child)))) t)
what_again v (entry.Kept s hours) t = ap (λ o. option_map (λ a. entry.Kept a.0 a.1) o) (kept_form.again (s, hours) t)
what_again v (entry.Enforced s is_on) t =
    ap (λ o. option_map (λ a. entry.Enforced a.0 a.1) o) (enforced_form.again (s, is_on) (t, tt))
what_again v (entry.LeaseMade key origin) t =
    ap (λ o. option_map (λ a. entry.LeaseMade a.0 a.1) o) (row_form.again (key, origin) t)
what_again v (entry.Taken key n counter owner) t =
    ap (λ o. option_map (λ a. entry.Taken a.0 a.1.0 a.1.1.0 a.1.1.1) o)
    (taken_form.again (key, (n, (counter, owner))) (t.0, (t.1.0, (is_counter _ t.1.1.0, is_worker _ t.1.1.1))))
what_again v (entry.Renewed n counter) t =
    ap (λ o. option_map (λ a. entry.Renewed a.0 a.1) o) (written_form.again (n, counter) (t.0, is_counter _ t.1))
what_again v (entry.Freed n counter) t =
    ap (λ o. option_map (λ a. entry.Freed a.0 a.1) o) (written_form.again (n, counter) (t.0, is_counter _ t.1))
what_again v (entry.Opened n) t = ap (λ o. option_map (λ n. entry.Opened n) o) (number_form.again n t)
what_again v (entry.Read n limit ended numbers) t =
    ap (λ o. option_map (λ a. entry.Read a.0 a.1.0 a.1.1.0 a.1.1.1) o)
    (read_form.again (n, (limit, (ended, numbers))) t)
what_again v (entry.Given n) t = ap (λ o. option_map (λ n. entry.Given n) o) (number_form.again n t)
what_again v (entry.Marked n counter target) t =
    ap (λ o. option_map (λ a. entry.Marked a.0 a.1.0 a.1.1) o)
    (marked_form.again (n, (counter, target)) (t.0, (is_counter _ t.1.0, t.1.1)))
what_again v (entry.LeaseCut key counter) t =
    ap (λ o. option_map (λ a. entry.LeaseCut a.0 a.1) o) (cut_form.again (key, counter) t)

-- ---- Lines with an entry

abbrev actor_form : IsForm (IsWithin 0 greatest32) (within_of 0 greatest32) decimal
actor_form = within_form 0 greatest32 (omega arith)

pub entry_spells : (v : ℕ) (text : List ℕ) (line : EntryLine) → entry_of v text ≡ Some line → IsEntryLine v line
    × (text ≡ entry_spelling v line)
unfolding entry_of
entry_spells v text line h =
    let a = bind_some (field text) _ line h in
    let b = bind_some (moment_of a.0.0) _ line a.2 in
    let c = bind_some (field a.0.1) _ line b.2 in
    let d = bind_some (within_of 0 greatest32 c.0.0) _ line c.2 in
    let f = bind_some (field c.0.1) _ line d.2 in
    let g = bind_some (entry_by v f.0.0 f.0.1) _ line f.2 in
    let m = moment_form.spells a.0.0 b.0 b.1 in
    let w = actor_form.spells c.0.0 d.0 d.1 in
    let k = by_spells v f.0.0 f.0.1 g.0 g.1 in
    let fa = parted_spells 32 text a.0 a.1 in
    let fc = parted_spells 32 a.0.1 c.0 c.1 in
    let ff = parted_spells 32 c.0.1 f.0 f.1 in
    let read : EntryLine = record { clock = b.0; by = d.0; what = g.0 } in
    let same : read ≡ line = cc (g.2) in
    let valid : IsEntryLine v read = record { clock = m.0; by = omega (arith, w.0.1); what = k.0 } in
    let spelt : text ≡ entry_spelling v read =
    fa.0 ∙ ap (λ z. z ++ 32 ∷ a.0.1) m.1
    ∙ ap (λ z. decimal b.0 ++ 32 ∷ z) (fc.0 ∙ ap (λ z. z ++ 32 ∷ c.0.1) w.1
    ∙ ap (λ z. decimal d.0 ++ 32 ∷ z) (ff.0 ∙ k.1)) in
    subst (λ (z : EntryLine). IsEntryLine v z × (text ≡ entry_spelling v z)) same (valid, spelt)

bound_again : {A B C : Type 0} (o : Option A) (f : A → Option B) (g : B → C) (y : B) → (o >>= f) ≡ Some y
    → (o >>= λ x. f x >>= λ z. Some (g z)) ≡ Some (g y)
bound_again None f g y h = absurd (cc)
bound_again (Some x) f g y h = ap (λ (w : _). w >>= λ z. Some (g z)) h

pub entry_again : (v : ℕ) (line : EntryLine) → IsEntryLine v line → entry_of v (entry_spelling v line) ≡ Some line
unfolding entry_of
entry_again v line t =
    let make : Entry → EntryLine = λ e. record { clock = line.clock; by = line.by; what = e } in
    rw (
      parted_at 32 (decimal line.clock) (decimal line.by ++ 32 ∷ entry_text v line.what)
          (decimal_lacks 32 line.clock refl (omega (arith, t.clock))) refl,
      moment_form.again line.clock t.clock,
      parted_at 32 (decimal line.by) (entry_text v line.what) (decimal_lacks 32 line.by refl (omega (arith, t.by)))
          refl,
      actor_form.again line.by (omega arith, omega (arith, t.by)),
    ) (bound_again (field (entry_text v line.what)) (λ p. entry_by v p.0 p.1) make line.what
    (what_again v line.what t.what))

-- ---- The last line of a text

pub end_spells : (text : List ℕ) (clock : ℕ) → end_of text ≡ Some clock → (clock < 2 ^ 62) × (text ≡ end_spelling clock)
unfolding end_of
end_spells text clock h =
    let a = bind_some (field text) _ clock h in
    choose (bytes_eq a.0.0 (codes "end")) _ _ clock a.2
    (λ same e.
    let m = moment_form.spells a.0.1 clock e in
    let p = parted_spells 32 text a.0 a.1 in (
      m.0,
      p.0 ∙ ap (λ z. z ++ 32 ∷ a.0.1) ((bytes_eq-Decides a.0.0 (codes "end")).0 same)
          ∙ ap (λ z. codes "end " ++ z) m.1,
    ))
    (λ h. absurd (cc))

pub end_again : (clock : ℕ) → clock < 2 ^ 62 → end_of (end_spelling clock) ≡ Some clock
unfolding end_of
end_again clock small = moment_form.again clock small

pub end_apart : (v : ℕ) (text : List ℕ) (clock : ℕ) → end_of text ≡ Some clock → entry_of v text ≡ None
unfolding entry_of
end_apart v text clock h = ap (entry_of v) (end_spells text clock h).1

-- ---- The first line of a text

pub heading_apart : (v : ℕ) → (entry_of v heading ≡ None) × (end_of heading ≡ None)
unfolding entry_of end_of
heading_apart v = (refl, refl)
