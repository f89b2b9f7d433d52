-- A raw line's command makes a round trip.
use Rattle.std.proofs.Common.{◌≡◌, ℕ, ◌<◌, ◌^◌, List, ◌∷◌, ◌++◌, Bool, true, false, Option, Some, refl, sym, ap, ◌∙◌}
use Rattle.std.proofs.Common.{arith, codes, decimal, inl, inr, subst}
use Rattle.std.proofs.lemmas.Bool.{cases_Bool}
use Rattle.std.specs.Prelude.{if◌then◌else◌, option_map}
use Rattle.std.specs.List.{list_all}
use Rattle.std.proofs.lemmas.Fmt.{digits_decimal}
use Rattle.std.proofs.lemmas.Slice.Eq.{bytes_eq-Decides}
use Rattle.std.specs.Char.{is_ascii_digit}
use Rattle.std.specs.Str.{bytes_eq}
use Rattle.kds_base.specs.declared.lease_key.ShardRef.{ShardRef}
use Rattle.kds_base.proofs.NumberLemmas.{own}
use Rattle.kds_defs.specs.declared.command.Command.{Command}
use Rattle.kds_defs.specs.declared.command.Command.TheVariants as command
use Rattle.kds_defs.specs.declared.command.Origin.{Origin}
use Rattle.kds_defs.specs.declared.command.Target.{Target}
use Rattle.kds_defs.specs.declared.command.Target.TheVariants as target
use Rattle.kds_defs.specs.declared.limits.TheConstants.{MOST}
use Rattle.kds_defs.specs.Kinds.{is_service}
use Rattle.kds_defs.specs.Lawful.{IsLawfulCommand}
use Rattle.kcl_script_fields.specs.Fields.{field, Lacks, two, number, count_of, worker_of, worker_text, key_of}
use Rattle.kcl_script_fields.specs.Fields.{key_text}
use Rattle.kcl_script_fields.specs.Commands.{target_of, target_text, row_of, words_of, longer_of, command_of}
use Rattle.kcl_script_fields.specs.Commands.{command_text, raw_text, IsKey, IsTarget, AreNumbers, IsAsked, IsRaw}
use Rattle.kcl_script_fields.specs.Origins.{IsOrigin, origin_text}
use Rattle.kcl_script_fields.proofs.OriginLemmas.{with_origin_form}
use Rattle.kcl_script_fields.proofs.Parts.{parted_spells, bind_some, map_some}
use Rattle.kcl_script_fields.proofs.Forms.{IsForm, Is64, number_form, IsCount, count_form, IsWorker, worker_form}
use Rattle.kcl_script_fields.proofs.Forms.{two_form, key_form, key_lacks, decimal_lacks}

-- ---- The target of a checkpoint

target_is : (c : Bool) (text : List ℕ) (goal : Target) → bytes_eq text (codes "end") ≡ c
    → (if c then Some target.End else option_map (λ q. target.At q) (number text)) ≡ Some goal
    → IsTarget goal × (text ≡ target_text goal)
target_is true text goal c h =
    let same : target.End ≡ goal = cc in
    subst (λ (z : Target). IsTarget z × (text ≡ target_text z)) same (tt, (bytes_eq-Decides text (codes "end")).0 c)
target_is false text goal c h =
    let m = map_some (λ q. target.At q) (number text) goal h in
    let d = number_form.spells text m.0 m.1 in
    subst (λ (z : Target). IsTarget z × (text ≡ target_text z)) m.2 d

number_not_end : (q : ℕ) → q < 2 ^ 64 → bytes_eq (decimal q) (codes "end") ≡ false
number_not_end q small = elim (cases_Bool (bytes_eq (decimal q) (codes "end"))) [
  | inl same ↦ let bad : list_all is_ascii_digit (codes "end") ≡ true =
      subst (λ (z : List ℕ). list_all is_ascii_digit z ≡ true)
      ((bytes_eq-Decides (decimal q) (codes "end")).0 same) (digits_decimal own q small) in absurd (cc bad)
  | inr other ↦ other
]

target_again : (goal : Target) → IsTarget goal → target_of (target_text goal) ≡ Some goal
target_again target.End v = refl
target_again (target.At q) v = rw (number_not_end q v) (ap (option_map (λ n. target.At n)) (number_form.again q v))

pub target_form : IsForm IsTarget target_of target_text
target_form = record {
  spells = λ text goal h. target_is (bytes_eq text (codes "end")) text goal refl h;
  again = target_again;
}

-- ---- A key and its origin

pub row_form : IsForm (λ (a : ShardRef × Origin). IsKey a.0 × IsOrigin a.1) row_of (λ (a : ShardRef × Origin).
    key_text a.0 ++ origin_text a.1)
row_form = with_origin_form key_lacks key_form

-- ---- What follows the first word of a command

number_lacks : (n : ℕ) → Is64 n → Lacks 32 (decimal n)
number_lacks n v = decimal_lacks 32 n refl v

take_form : IsForm (λ (a : ShardRef × (ℕ × ℕ)). IsKey a.0 × (Is64 a.1.0 × IsWorker a.1.1))
    (two 32 key_of (two 32 number worker_of))
    (λ (a : ShardRef × (ℕ × ℕ)). key_text a.0 ++ 32 ∷ (decimal a.1.0 ++ 32 ∷ worker_text a.1.1))
take_form = two_form 32 refl key_lacks key_form (two_form 32 refl number_lacks number_form worker_form)

read_form : IsForm (λ (a : ℕ × (ℕ × ℕ)). Is64 a.0 × (Is64 a.1.0 × IsCount MOST a.1.1))
    (two 32 number (two 32 number (count_of MOST)))
    (λ (a : ℕ × (ℕ × ℕ)). decimal a.0 ++ 32 ∷ (decimal a.1.0 ++ 32 ∷ decimal a.1.1))
read_form = two_form 32 refl number_lacks number_form
    (two_form 32 refl number_lacks number_form (count_form MOST (omega arith)))

mark_form : IsForm (λ (a : ℕ × (ℕ × Target)). Is64 a.0 × (Is64 a.1.0 × IsTarget a.1.1))
    (two 32 number (two 32 number target_of))
    (λ (a : ℕ × (ℕ × Target)). decimal a.0 ++ 32 ∷ (decimal a.1.0 ++ 32 ∷ target_text a.1.1))
mark_form = two_form 32 refl number_lacks number_form (two_form 32 refl number_lacks number_form target_form)

cut_form : IsForm (λ (a : ShardRef × ℕ). IsKey a.0 × Is64 a.1) (two 32 key_of number) (λ (a : ShardRef × ℕ).
    key_text a.0 ++ 32 ∷ decimal a.1)
cut_form = two_form 32 refl key_lacks key_form number_form

numbers_form : IsForm (λ (a : ℕ × ℕ). Is64 a.0 × Is64 a.1) (two 32 number number) (λ (a : ℕ × ℕ). decimal a.0
    ++ 32 ∷ decimal a.1)
numbers_form = two_form 32 refl number_lacks number_form number_form

-- ---- The first word of a command, and what follows it

-- A command of a raw line, whose text is `word`, a space and `text`.
abbrev Spells : List ℕ → List ℕ → Command → Type 0
Spells word text c = IsRaw c × (word ++ 32 ∷ text ≡ command_text c)

spelled : {A : Type 0} {V : A → Type 0} {f : List ℕ → Option A} {s : A → List ℕ} → (w word : List ℕ) → IsForm V f s
    → (command_of_value : A → Command)
    → ((a : A) → V a → Spells w (s a) (command_of_value a)) → (text : List ℕ) (c : Command) → bytes_eq word w ≡ true
    → option_map command_of_value (f text) ≡ Some c → Spells word text c
spelled {A} {V} {f} {s} w word form command_of_value each text c same h =
    let m = map_some command_of_value (f text) c h in
    let d = form.spells text m.0 m.1 in
    let e = each m.0 d.0 in
    let at_w : Spells w text (command_of_value m.0) = (e.0, ap (λ z. w ++ 32 ∷ z) d.1 ∙ e.1) in
    let at_word : Spells word text (command_of_value m.0) =
    subst (λ (z : List ℕ). Spells z text (command_of_value m.0)) (sym ((bytes_eq-Decides word w).0 same)) at_w in
    subst (λ (z : Command). Spells word text z) m.2 at_word

pub choose : {A P : Type 0} (c : Bool) (x y : Option A) (l : A) → (if c then x else y) ≡ Some l
    → (c ≡ true → x ≡ Some l → P) → (y ≡ Some l → P) → P
choose true x y l h f g = f refl h
choose false x y l h f g = g h

raw_is : (asked : Command) → is_service asked ≡ false → IsLawfulCommand asked → AreNumbers asked → IsRaw asked
raw_is asked e l n = record { lease = e; lawful = l; numbers = n }

words_spell : (word text : List ℕ) (c : Command) → words_of word text ≡ Some c → Spells word text c
words_spell word text c h =
    choose (bytes_eq word (codes "make")) _ _ c h
    (spelled (codes "make") word row_form _ (λ a v. (raw_is _ refl tt v, refl)) text c)
    (λ h. choose (bytes_eq word (codes "take")) _ _ c h
    (spelled (codes "take") word take_form _ (λ a v. (
      raw_is _ refl v.1.1.0 (v.0, (v.1.0, omega (arith, v.1.1.1))),
      refl,
    )) text c)
    (λ h. choose (bytes_eq word (codes "renew")) _ _ c h
    (spelled (codes "renew") word numbers_form _ (λ a v. (raw_is _ refl tt v, refl)) text c)
    (λ h. choose (bytes_eq word (codes "free")) _ _ c h
    (spelled (codes "free") word numbers_form _ (λ a v. (raw_is _ refl tt v, refl)) text c)
    (λ h. choose (bytes_eq word (codes "open")) _ _ c h
    (spelled (codes "open") word number_form _ (λ n v. (raw_is _ refl tt v, refl)) text c)
    (λ h. choose (bytes_eq word (codes "read")) _ _ c h
    (spelled (codes "read") word read_form _ (λ a v. (raw_is _ refl v.1.1 (v.0, v.1.0), refl)) text c)
    (λ h. choose (bytes_eq word (codes "give")) _ _ c h
    (spelled (codes "give") word number_form _ (λ n v. (raw_is _ refl tt v, refl)) text c)
    (λ h. choose (bytes_eq word (codes "mark")) _ _ c h
    (spelled (codes "mark") word mark_form _ (λ a v. (raw_is _ refl tt v, refl)) text c)
    (λ h. choose (bytes_eq word (codes "cut")) _ _ c h
    (spelled (codes "cut") word cut_form _ (λ a v. (raw_is _ refl tt v, refl)) text c)
    (λ h. absurd (cc))))))))))

longer_spells : (text : List ℕ) (c : Command) → longer_of text ≡ Some c → IsRaw c × (text ≡ command_text c)
longer_spells text c h =
    let p = bind_some (field text) _ c h in
    let w = words_spell p.0.0 p.0.1 c p.2 in
    (w.0, (parted_spells 32 text p.0 p.1).0 ∙ w.1)

-- ---- All commands of raw lines

-- A command of a raw line with this text; `r.1` says whether its answer has each row.
abbrev SpellsRaw : List ℕ → Command × Bool → Type 0
SpellsRaw text r = IsAsked r.0 r.1 × (text ≡ raw_text r.0 r.1)

survey_spells : (word text : List ℕ) (long : Bool) (r : Command × Bool) → word ≡ raw_text command.Survey long
    → bytes_eq text word ≡ true
    → Some (command.Survey, long) ≡ Some r → SpellsRaw text r
survey_spells word text long r is same h =
    let e : (command.Survey, long) ≡ r = cc in
    subst (λ (z : Command × Bool). SpellsRaw text z) e (
      (raw_is _ refl tt tt, λ l. refl),
      (bytes_eq-Decides text word).0 same ∙ is,
    )

more_spells : (text : List ℕ) (r : Command × Bool) → option_map (λ (c : Command). (c, false)) (longer_of text) ≡ Some r
    → SpellsRaw text r
more_spells text r h =
    let m = map_some (λ (c : Command). (c, false)) (longer_of text) r h in
    let d = longer_spells text m.0 m.1 in
    subst (λ (z : Command × Bool). SpellsRaw text z) m.2 ((d.0, λ l. absurd (cc l)), d.1)

pub command_spells : (text : List ℕ) (r : Command × Bool) → command_of text ≡ Some r → SpellsRaw text r
command_spells text r h =
    choose (bytes_eq text (codes "survey")) _ _ r h (survey_spells (codes "survey") text false r refl)
    (λ h. choose (bytes_eq text (codes "rows")) _ _ r h (survey_spells (codes "rows") text true r refl)
    (more_spells text r))

short_again : (asked : Command) → IsRaw asked → command_of (command_text asked) ≡ Some (asked, false)
short_again command.Survey v = refl
short_again (command.MakeLease key origin) v =
    ap (λ o. option_map (λ c. (c, false)) (option_map (λ a. command.MakeLease a.0 a.1) o))
    (row_form.again (key, origin) v.numbers)
short_again (command.Take key counter owner) v =
    ap (λ o. option_map (λ c. (c, false)) (option_map (λ a. command.Take a.0 a.1.0 a.1.1) o))
    (take_form.again (key, (counter, owner)) (v.numbers.0, (v.numbers.1.0, (v.lawful, omega (arith, v.numbers.1.1)))))
short_again (command.Renew tenure counter) v =
    ap (λ o. option_map (λ c. (c, false)) (option_map (λ a. command.Renew a.0 a.1) o))
    (numbers_form.again (tenure, counter) v.numbers)
short_again (command.Free tenure counter) v =
    ap (λ o. option_map (λ c. (c, false)) (option_map (λ a. command.Free a.0 a.1) o))
    (numbers_form.again (tenure, counter) v.numbers)
short_again (command.OpenShard tenure) v =
    ap (λ o. option_map (λ c. (c, false)) (option_map (λ n. command.OpenShard n) o))
    (number_form.again tenure v.numbers)
short_again (command.Read tenure position limit) v =
    ap (λ o. option_map (λ c. (c, false)) (option_map (λ a. command.Read a.0 a.1.0 a.1.1) o))
    (read_form.again (tenure, (position, limit)) (v.numbers.0, (v.numbers.1, v.lawful)))
short_again (command.Give tenure) v =
    ap (λ o. option_map (λ c. (c, false)) (option_map (λ n. command.Give n) o)) (number_form.again tenure v.numbers)
short_again (command.Mark tenure counter goal) v =
    ap (λ o. option_map (λ c. (c, false)) (option_map (λ a. command.Mark a.0 a.1.0 a.1.1) o))
    (mark_form.again (tenure, (counter, goal)) v.numbers)
short_again (command.CutLease key counter) v =
    ap (λ o. option_map (λ c. (c, false)) (option_map (λ a. command.CutLease a.0 a.1) o))
    (cut_form.again (key, counter) v.numbers)
short_again _ v = absurd (cc v.lease)

pub command_again : (asked : Command) (long : Bool) → IsAsked asked long
    → command_of (raw_text asked long) ≡ Some (asked, long)
command_again asked false a = short_again asked a.0
command_again asked true a = ap (λ (c : Command). Some (c, true)) (sym (a.1 refl))
