-- What stood in an output before stays in front.
use Rattle.std.proofs.Common.{◌≡◌, ℕ, ◌≤◌, List, ◌++◌, length, take, ap, sym, ◌∙◌, arith}
use Rattle.std.proofs.lemmas.List.{length-append, length-take, length-take-le, take-append-le, take-take, take_at}

front_fits : {A : Type 0} (m : ℕ) (s t : List A) → length s ≡ m → take m t ≡ s → m ≤ length t
front_fits m s t size front = omega (arith, length-take m t, ap length front)

pub front_twice : {A : Type 0} (m n : ℕ) (s t u : List A) → length s ≡ m → length t ≡ n → take m t ≡ s → take n u ≡ t
    → take m u ≡ s
front_twice {A = A} m n s t u size more first second =
    let less : m ≤ n = omega (arith, front_fits m s t size first) in
    sym (take-take m n u less) ∙ ap (λ (x : List A). take m x) second ∙ first

pub front_thrice : {A : Type 0} (m n k : ℕ) (s t u v : List A) → length s ≡ m → length t ≡ n → length u ≡ k
    → take m t ≡ s → take n u ≡ t → take k v ≡ u → take m v ≡ s
front_thrice m n k s t u v size more most first second third =
    front_twice m k s u v size most (front_twice m n s t u size more first second) third

-- Of `t` only the bytes up to `index` stay in `u`.
pub front_up_to : {A : Type 0} (m index : ℕ) (s t u : List A) → m ≤ index → take m t ≡ s → take index u ≡ take index t
    → take m u ≡ s
front_up_to {A = A} m index s t u less first second =
    sym (take-take m index u less) ∙ ap (λ (x : List A). take m x) second ∙ take-take m index t less ∙ first

-- `t` is cut at `index` before the second step.
pub front_cut : {A : Type 0} (m index n : ℕ) (s t cut u : List A) → length s ≡ m → length cut ≡ n → m ≤ index
    → take m t ≡ s → cut ≡ take index t → take n u ≡ cut → take m u ≡ s
front_cut {A = A} m index n s t cut u size more less first is second =
    front_twice m n s cut u size more (ap (λ (x : List A). take m x) is ∙ take-take m index t less ∙ first) second

pub end_after : {A : Type 0} (hash end : ℕ) (s t a : List A) → hash ≤ length s → take end t ≡ take hash s ++ a
    → hash ≤ end
end_after hash end s t a fits text =
    omega (arith, ap length text, length-take end t, length-append (take hash s) a, length-take-le hash s fits)

pub front_under : {A : Type 0} (index end : ℕ) (s t a : List A) → index ≤ length s → take end t ≡ take index s ++ a
    → take index t ≡ take index s
front_under {A = A} index end s t a fits text =
    sym (take-take index end t (end_after index end s t a fits text)) ∙ ap (λ (x : List A). take index x) text
    ∙ take_at (take index s) a index (length-take-le index s fits)

pub front_within : {A : Type 0} (index size : ℕ) (s rest : List A) → index ≤ size → index ≤ length s
    → take index (take size (s ++ rest)) ≡ take index s
front_within index size s rest less fits = take-take index size (s ++ rest) less ∙ take-append-le index s rest fits
