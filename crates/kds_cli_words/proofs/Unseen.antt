-- Words that `clap` isn't given, for a hyphen or as more than four, ask for no task.
use Rattle.std.proofs.Common.{◌≡◌, ◌<◌, inl, inr, ⊎_elim, Bool, true, false, List, [], ◌∷◌, length, Option, Some, None}
use Rattle.std.proofs.Common.{codes, refl, sym, ap, subst, ◌∙◌, arith}
use Rattle.std.specs.Prelude.{◌==◌, ◌^◌, ◌&&◌, ◌||◌, not, nat_lt, String, string_bytes, if◌then◌else◌}
use Rattle.std.specs.declared.alloc.Global.{Global}
use Rattle.std.specs.Char.{is_ascii_digit}
use Rattle.std.specs.Str.Parse.{digits_value}
use Rattle.std.specs.List.{list_all}
use Rattle.std.specs.Str.{bytes_eq}
use Rattle.std.proofs.lemmas.Bool.{and_cases, and_right}
use Rattle.clap.specs.Words.{Text}
use Rattle.kds_base.specs.NumberText.{number_of}
use Rattle.kds_base.proofs.Facts.{apart, equal_unless, neither_right}
use Rattle.kds_cli_words.specs.Words.{drill_of, serve_of, task_of, texts_of}
use Rattle.kds_cli_words.specs.declared.task.Task.{Task}
use Rattle.kds_cli_words.specs.declared.task.Task.TheVariants.{Replay}
use Rattle.kds_cli_words.specs.Parsed.{is_word}
use Rattle.kds_cli_words.proofs.Exact.{Differ, HasNoNumber, differ, drills_nothing, nameless, serves_nothing}

-- ---- A word that fails the test is no name and no number

no_name : (w name : Text) → is_word w ≡ false → is_word name ≡ true → Differ w name
no_name w name bad good = differ w name (λ same. apart (is_word w) (ap is_word same ∙ good) bad)

hyphen_first : (w : Text) → number_of 64 (45 ∷ w) ≡ None
hyphen_first w =
    ap (λ b. if b && nat_lt (digits_value 10 (45 ∷ w)) (2 ^ 64) then Some (digits_value 10 (45 ∷ w)) else None)
    (and_right (nat_lt 0 (length (45 ∷ w)) && (length (45 ∷ w) == 1 || not (45 == 48)))
    (list_all is_ascii_digit (45 ∷ w)) refl)

no_number : (w : Text) → is_word w ≡ false → number_of 64 w ≡ None
no_number [] bad = absurd cc
no_number (d ∷ w) bad =
    let hyphen = equal_unless d 45 (neither_right (bytes_eq (d ∷ w) (codes "--journal")) (not (d == 45)) bad) in
    subst (λ x. number_of 64 (x ∷ w) ≡ None) (sym hyphen) (hyphen_first w)

no_numbers : (words : List Text) → list_all is_word words ≡ false → HasNoNumber words
no_numbers [] bad = absurd cc
no_numbers (w ∷ words) bad =
    ⊎_elim (λ this. inl (no_number w this)) (λ rest. inr (no_numbers words rest))
    (and_cases (is_word w) (list_all is_word words) bad)

-- ---- Words of which one fails the test

unless : (b : Bool) (task : Option Task) → None ≡ task → None ≡ (if b then task else None)
unless true task none = none
unless false task none = refl

no_flag : (b c : Bool) → c ≡ false → None ≡ (if b && c then Some (Replay true) else None)
no_flag true c none = rw none refl
no_flag false c none = refl

after_first : (w : Text) (more : List Text) → list_all is_word more ≡ false → None ≡ task_of (w ∷ more)
after_first w [] bad = absurd cc
after_first w (a ∷ []) bad =
    ⊎_elim (λ this. no_flag (bytes_eq w (codes "replay")) (bytes_eq a (codes "--journal"))
    (no_name a (codes "--journal") this refl).0)
    (λ (none : true ≡ false). absurd cc) (and_cases (is_word a) true bad)
after_first w (a ∷ b ∷ []) bad =
    unless (bytes_eq w (codes "serve")) (serve_of a b) (serves_nothing a b (no_numbers (a ∷ b ∷ []) bad))
after_first w (a ∷ b ∷ c ∷ []) bad =
    unless (bytes_eq w (codes "drill")) (drill_of a b c) (drills_nothing a b c (no_numbers (a ∷ b ∷ c ∷ []) bad))
after_first w (a ∷ b ∷ c ∷ d ∷ more) bad = refl

no_task : (words : List Text) → list_all is_word words ≡ false → None ≡ task_of words
no_task [] bad = absurd cc
no_task (w ∷ more) bad =
    ⊎_elim (λ this. nameless w more (record {
      replay = no_name w (codes "replay") this refl;
      answer = no_name w (codes "answer") this refl;
      audit = no_name w (codes "audit") this refl;
      serve = no_name w (codes "serve") this refl;
      drill = no_name w (codes "drill") this refl;
    }))
    (λ rest. after_first w more rest) (and_cases (is_word w) (list_all is_word more) bad)

all_texts : (words : List (String Global)) → list_all (λ w. is_word (string_bytes w)) words
    ≡ list_all is_word (texts_of words)
all_texts [] = refl
all_texts (w ∷ words) = ap (λ b. is_word (string_bytes w) && b) (all_texts words)

pub unseen : (words : List (String Global)) → list_all (λ w. is_word (string_bytes w)) words ≡ false
    → None ≡ task_of (texts_of words)
unseen words bad = no_task (texts_of words) (sym (all_texts words) ∙ bad)

pub too_many : (words : List (String Global)) → 4 < length words → None ≡ task_of (texts_of words)
too_many [] h = absurd (omega arith)
too_many (a ∷ []) h = absurd (omega arith)
too_many (a ∷ b ∷ []) h = absurd (omega arith)
too_many (a ∷ b ∷ c ∷ []) h = absurd (omega arith)
too_many (a ∷ b ∷ c ∷ d ∷ []) h = absurd (omega arith)
too_many (a ∷ b ∷ c ∷ d ∷ e ∷ more) h = refl
