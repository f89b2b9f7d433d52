-- `clap` reads from all words the task that the definitions give.
use Rattle.std.proofs.Common.{◌≡◌, ◌≤◌, ◌⊎◌, inl, inr, Bool, true, false, List, [], ◌∷◌, length, Option, Some, None}
use Rattle.std.proofs.Common.{codes, refl, sym, subst, ◌∙◌, arith}
use Rattle.std.specs.Prelude.{ℕ, map, option_and_then}
use Rattle.std.specs.Str.{bytes_eq}
use Rattle.std.proofs.lemmas.Bool.{false_from_ne_true, true≢false}
use Rattle.std.proofs.lemmas.Slice.Eq.{bytes_eq-Decides}
use Rattle.clap.specs.Words.{Kinds, Text, fault_of, is_simple, is_simple_and_free, subcommand_of}
use Rattle.clap.proofs.OnLiterals.{clap_on_literals}
use Rattle.kds_base.specs.NumberText.{number_of}
use Rattle.kds_cli_words.specs.Apps.{kds_app}
use Rattle.kds_cli_words.specs.Words.{drill_of, members_of, port_of, serve_of, task_of}
use Rattle.kds_cli_words.specs.declared.task.Task.{Task}
use Rattle.kds_cli_words.specs.Parsed.{task_in}
use Rattle.kds_cli_words.proofs.Seen.{IsValue, Seen, flag, value, text}

pub free : is_simple_and_free kds_app ≡ true
unfolding clap_on_literals
free = refl

pub simple : is_simple kds_app ≡ true
unfolding clap_on_literals
simple = refl

-- The task, if there are no faults.
abbrev pub read : Kinds → Option Task → Option Task
read [] task = task
read (k ∷ ks) task = None

-- The task that `clap` reads, if it finds no fault.
abbrev pub read_of : List Text → Option Task
read_of words = read (fault_of kds_app words) (task_in (subcommand_of kds_app words))

-- `clap` reads what `task_of` gives.
abbrev pub Exact : List Text → Type 0
Exact words = read_of words ≡ task_of words

-- ---- Words that ask for no task

-- Two different texts, by both tests of their bytes.
abbrev pub Differ : Text → Text → Type 0
Differ a b = (bytes_eq a b ≡ false) × (bytes_eq b a ≡ false)

pub differ : (a b : Text) → (a ≡ b → ⊥) → Differ a b
differ a b other = (
  false_from_ne_true _ (λ same. other ((bytes_eq-Decides a b).0 same)),
  false_from_ne_true _ (λ same. other (sym ((bytes_eq-Decides b a).0 same))),
)

-- The word isn't a subcommand's name.
pub record IsOther (w : Text) : Type 0 where
  pub replay : Differ w (codes "replay")
  pub answer : Differ w (codes "answer")
  pub audit : Differ w (codes "audit")
  pub serve : Differ w (codes "serve")
  pub drill : Differ w (codes "drill")

pub nameless : (w : Text) (more : List Text) → IsOther w → None ≡ task_of (w ∷ more)
nameless w [] o = rw (o.replay.0, o.answer.0, o.audit.0) refl
nameless w (a ∷ []) o = rw o.replay.0 refl
nameless w (a ∷ b ∷ []) o = rw o.serve.0 refl
nameless w (a ∷ b ∷ c ∷ []) o = rw o.drill.0 refl
nameless w (a ∷ b ∷ c ∷ d ∷ more) o = refl

-- At least one word isn't a decimal number below 2^64.
abbrev pub HasNoNumber : List Text → Type 0
HasNoNumber [] = ⊥
HasNoNumber (w ∷ words) = (number_of 64 w ≡ None) ⊎ HasNoNumber words

nothing : (a b : Option ℕ) → ◌≡◌ {A = Option Task} None (option_and_then (λ x. option_and_then (λ y. None) b) a)
nothing None b = refl
nothing (Some x) None = refl
nothing (Some x) (Some y) = refl

pub serves_nothing : (a b : Text) → HasNoNumber (a ∷ b ∷ []) → None ≡ serve_of a b
serves_nothing a b (inl none) = rw none refl
serves_nothing a b (inr (inl none)) = rw none (nothing (port_of a) None)
serves_nothing a b (inr (inr never)) = absurd never

pub drills_nothing : (a b c : Text) → HasNoNumber (a ∷ b ∷ c ∷ []) → None ≡ drill_of a b c
drills_nothing a b c (inl none) = rw none refl
drills_nothing a b c (inr (inl none)) = rw none (nothing (number_of 64 a) None)
drills_nothing a b c (inr (inr (inl none))) = rw none (nothing (number_of 64 a) (members_of b))
drills_nothing a b c (inr (inr (inr never))) = absurd never

-- ---- Each subcommand, with the words after it

replay_words : (more : List Seen) → length more ≤ 3 → Exact (codes "replay" ∷ map text more)
unfolding clap_on_literals
replay_words [] few = refl
replay_words (flag ∷ []) few = refl
replay_words (flag ∷ flag ∷ []) few = refl
replay_words (flag ∷ flag ∷ c ∷ []) few = refl
replay_words (flag ∷ value b j ∷ []) few = rw (j.not_end, j.not_long, j.not_short) refl
replay_words (flag ∷ value b j ∷ c ∷ []) few = rw (j.not_end, j.not_long, j.not_short) refl
replay_words (value a i ∷ []) few = rw (i.not_journal, i.not_end, i.not_long, i.not_short) refl
replay_words (value a i ∷ b ∷ []) few = rw (i.not_end, i.not_long, i.not_short) refl
replay_words (value a i ∷ b ∷ c ∷ []) few = rw (i.not_end, i.not_long, i.not_short) refl
replay_words (a ∷ b ∷ c ∷ d ∷ more) few = absurd (omega arith)

bare_words : (more : List Seen) → length more ≤ 3 → Exact (codes "answer" ∷ map text more)
    × Exact (codes "audit" ∷ map text more)
unfolding clap_on_literals
bare_words [] few = (refl, refl)
bare_words (flag ∷ []) few = (refl, refl)
bare_words (flag ∷ b ∷ []) few = (refl, refl)
bare_words (flag ∷ b ∷ c ∷ []) few = (refl, refl)
bare_words (value a i ∷ []) few =
    (rw (i.not_end, i.not_long, i.not_short) refl, rw (i.not_end, i.not_long, i.not_short) refl)
bare_words (value a i ∷ b ∷ []) few =
    (rw (i.not_end, i.not_long, i.not_short) refl, rw (i.not_end, i.not_long, i.not_short) refl)
bare_words (value a i ∷ b ∷ c ∷ []) few =
    (rw (i.not_end, i.not_long, i.not_short) refl, rw (i.not_end, i.not_long, i.not_short) refl)
bare_words (a ∷ b ∷ c ∷ d ∷ more) few = absurd (omega arith)

serve_words : (more : List Seen) → length more ≤ 3 → Exact (codes "serve" ∷ map text more)
unfolding clap_on_literals
serve_words [] few = refl
serve_words (flag ∷ []) few = refl
serve_words (flag ∷ b ∷ []) few = refl
serve_words (flag ∷ b ∷ c ∷ []) few = refl
serve_words (value a i ∷ []) few = rw (i.not_end, i.not_long, i.not_short) refl
serve_words (value a i ∷ flag ∷ []) few =
    rw (i.not_end, i.not_long, i.not_short) (serves_nothing a (codes "--journal") (inr (inl refl)))
serve_words (value a i ∷ flag ∷ c ∷ []) few = rw (i.not_end, i.not_long, i.not_short) refl
serve_words (value a i ∷ value b j ∷ []) few =
    rw (i.not_end, i.not_long, i.not_short, j.not_end, j.not_long, j.not_short) refl
serve_words (value a i ∷ value b j ∷ flag ∷ []) few =
    rw (i.not_end, i.not_long, i.not_short, j.not_end, j.not_long, j.not_short) refl
serve_words (value a i ∷ value b j ∷ value c k ∷ []) few =
    rw (i.not_end, i.not_long, i.not_short, j.not_end, j.not_long, j.not_short, k.not_end, k.not_long, k.not_short) refl
serve_words (a ∷ b ∷ c ∷ d ∷ more) few = absurd (omega arith)

drill_words : (more : List Seen) → length more ≤ 3 → Exact (codes "drill" ∷ map text more)
unfolding clap_on_literals
drill_words [] few = refl
drill_words (flag ∷ []) few = refl
drill_words (flag ∷ b ∷ []) few = refl
drill_words (flag ∷ b ∷ c ∷ []) few = refl
drill_words (value a i ∷ []) few = rw (i.not_end, i.not_long, i.not_short) refl
drill_words (value a i ∷ flag ∷ []) few = rw (i.not_end, i.not_long, i.not_short) refl
drill_words (value a i ∷ flag ∷ c ∷ []) few =
    rw (i.not_end, i.not_long, i.not_short) (drills_nothing a (codes "--journal") (text c) (inr (inl refl)))
drill_words (value a i ∷ value b j ∷ []) few =
    rw (i.not_end, i.not_long, i.not_short, j.not_end, j.not_long, j.not_short) refl
drill_words (value a i ∷ value b j ∷ flag ∷ []) few =
    rw (
      i.not_end,
      i.not_long,
      i.not_short,
      j.not_end,
      j.not_long,
      j.not_short,
    ) (drills_nothing a b (codes "--journal") (inr (inr (inl refl))))
drill_words (value a i ∷ value b j ∷ value c k ∷ []) few =
    rw (i.not_end, i.not_long, i.not_short, j.not_end, j.not_long, j.not_short, k.not_end, k.not_long, k.not_short) refl
drill_words (a ∷ b ∷ c ∷ d ∷ more) few = absurd (omega arith)

-- ---- All words

other_words : (w : Text) (more : List Text) → IsValue w → IsOther w → Exact (w ∷ more)
unfolding clap_on_literals
other_words w more i o =
    rw (o.replay.1, o.answer.1, o.audit.1, o.serve.1, o.drill.1, i.not_end, i.not_long, i.not_short) (nameless w more o)

named : (name w : Text) (more : List Text) → Exact (name ∷ more) → (Differ w name → Exact (w ∷ more)) → Exact (w ∷ more)
named name w more this other = cases (bytes_eq w name) refl
  where
    cases : (b : Bool) → bytes_eq w name ≡ b → Exact (w ∷ more)
    cases true is = subst (λ x. Exact (x ∷ more)) (sym ((bytes_eq-Decides w name).0 is)) this
    cases false is = other (differ w name (λ same. true≢false (sym ((bytes_eq-Decides w name).1 same) ∙ is)))

pub exact : (words : List Seen) → length words ≤ 4 → Exact (map text words)
unfolding clap_on_literals
exact [] few = refl
exact (flag ∷ more) few =
    nameless (codes "--journal") (map text more)
    (record {
      replay = (refl, refl);
      answer = (refl, refl);
      audit = (refl, refl);
      serve = (refl, refl);
      drill = (refl, refl);
    })
exact (value w i ∷ more) few =
    let fewer : length more ≤ 3 = omega arith in
    let bare = bare_words more fewer in
    named (codes "replay") w (map text more) (replay_words more fewer) λ a.
    named (codes "answer") w (map text more) bare.0 λ b.
    named (codes "audit") w (map text more) bare.1 λ c.
    named (codes "serve") w (map text more) (serve_words more fewer) λ d.
    named (codes "drill") w (map text more) (drill_words more fewer) λ e.
    other_words w (map text more) i (record { replay = a; answer = b; audit = c; serve = d; drill = e })
