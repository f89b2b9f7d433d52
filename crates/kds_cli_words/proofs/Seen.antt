-- Each word that `clap` may be given is `--journal` or no flag.
use Rattle.std.proofs.Common.{◌≡◌, suc, Bool, true, false, List, [], ◌∷◌, length, Some, None, codes, refl, sym, ap, ap₂}
use Rattle.std.specs.Prelude.{◌&&◌, ◌||◌, not, map, String, string_bytes, if◌then◌else◌, option_and_then}
use Rattle.std.specs.declared.alloc.Global.{Global}
use Rattle.std.specs.List.{list_all}
use Rattle.std.specs.Str.{bytes_eq}
use Rattle.std.proofs.lemmas.Slice.Eq.{bytes_eq-Decides}
use Rattle.clap.specs.Lexer.{long_of, long_of_rest, short_of, short_of_rest, strip_byte}
use Rattle.clap.specs.Words.{Text}
use Rattle.kds_base.proofs.Facts.{both_left, both_right}
use Rattle.kds_cli_words.specs.Words.{texts_of}
use Rattle.kds_cli_words.specs.Parsed.{has_hyphen, is_word}

-- For `clap`, the word is a value: not `--journal`, not `--`, and neither a long flag nor short flags.
pub record IsValue (w : Text) : Type 0 where
  pub not_journal : bytes_eq w (codes "--journal") ≡ false
  pub not_end : bytes_eq w (45 ∷ 45 ∷ []) ≡ false
  pub not_long : long_of w ≡ None
  pub not_short : short_of w ≡ None

-- A word that `clap` may be given: `--journal`, or a value.
pub data Seen : Type 0 where
  flag : Seen
  value : (w : Text) → IsValue w → Seen

-- The text of a word that `clap` may be given.
abbrev pub text : Seen → Text
text flag = codes "--journal"
text (value w i) = w

is_value : (w : Text) → bytes_eq w (codes "--journal") ≡ false → has_hyphen w ≡ false → IsValue w
is_value [] other none = record { not_journal = refl; not_end = refl; not_long = refl; not_short = refl }
is_value (d ∷ w) other none = record {
  not_journal = other;
  not_end = ap (λ b. b && bytes_eq w (45 ∷ [])) none;
  not_long = ap (λ b. option_and_then long_of_rest (option_and_then (strip_byte 45) (if b then Some w else None))) none;
  not_short = ap (λ b. option_and_then short_of_rest (if b then Some w else None)) none;
}

seen_word : (w : Text) (b d : Bool) → bytes_eq w (codes "--journal") ≡ b → has_hyphen w ≡ d → (b || not d) ≡ true
    → (s : Seen) × (text s ≡ w)
seen_word w true d is has h = (flag, sym ((bytes_eq-Decides w (codes "--journal")).0 is))
seen_word w false true is has h = absurd cc
seen_word w false false is has h = (value w (is_value w is has), refl)

pub seen : (words : List (String Global)) → list_all (λ w. is_word (string_bytes w)) words ≡ true
    → (seens : List Seen) × (length seens ≡ length words) × (map text seens ≡ texts_of words)
seen [] h = ([], refl, refl)
seen (w ∷ words) h =
    let t = string_bytes w in
    let each = λ (w : String Global). is_word (string_bytes w) in
    let one = seen_word t (bytes_eq t (codes "--journal")) (has_hyphen t) refl refl
    (both_left (is_word t) (list_all each words) h) in
    let more = seen words (both_right (is_word t) (list_all each words) h) in
    (one.0 ∷ more.0, ap suc more.1, ap₂ (λ (x : Text) (xs : List Text). x ∷ xs) one.1 more.2)
