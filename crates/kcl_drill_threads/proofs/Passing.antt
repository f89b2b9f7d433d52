-- A pass that makes commands one after another: what it has seen, and which of the commands it has made.
use Rattle.std.proofs.Common.{◌≡◌, ℕ, ◌+◌, List, [], ◌∷◌, ◌++◌, length, map, refl, sym, ap, ◌∙◌, arith, length-append}
use Rattle.std.specs.Prelude.{cond, take}
use Rattle.std.proofs.lemmas.List.{reverse-append}
use Rattle.std.proofs.lemmas.List.Elements.{filter-append}
use Rattle.std.proofs.Math.Seq.{take-append_seam}
use Rattle.kds_base.proofs.Facts.{is_equal}
use Rattle.kds_defs.specs.declared.command.Command.{Command}
use Rattle.kds_defs.specs.declared.command.Turn.{Turn}
use Rattle.kds_turn.specs.Known.{Continues, is_by, turns_by}
use Rattle.kds_turn.specs.Passes.{PassValue}
use Rattle.kds_turn.proofs.Turns.{continues_all, no_length}
use Rattle.kcl_drill_threads.specs.Asking.{HasAsked, HasBegun, IsKept, turn_of, turns_of}

-- ---- Turns of an actor in a history and in a longer one

pub none_before : (n : ℕ) (h seen : List Turn) → Continues h seen → turns_by n h ≡ [] → turns_by n seen ≡ []
none_before n h seen c none =
    let cut : turns_by n h ≡ turns_by n c.0 ++ turns_by n seen =
    ap (turns_by n) c.1 ∙ filter-append (is_by n) c.0 seen in
    let total : length (turns_by n c.0 ++ turns_by n seen) ≡ 0 = ap length (sym cut ∙ none) in
    no_length (turns_by n seen) (omega (arith, total, length-append (turns_by n c.0) (turns_by n seen)))

pub none_before_one : (n : ℕ) (turn : Turn) (older : List Turn) → turn.by ≡ n → turns_by n (turn ∷ older) ≡ turn ∷ []
    → turns_by n older ≡ []
none_before_one n turn older is_own one =
    let two : turn ∷ turns_by n older ≡ turn ∷ [] =
    sym (ap (λ b. cond b (turn ∷ turns_by n older) (turns_by n older)) (is_equal turn.by n is_own)) ∙ one in
    let count = ap length two in
    no_length (turns_by n older) (omega arith)

-- ---- A pass later

pub kept_same : (p : PassValue) → IsKept p p
kept_same p = record { hall = refl; by = refl; joined = refl; seen = ([], refl) }

pub kept_all : (a b c : PassValue) → IsKept a b → IsKept b c → IsKept a c
kept_all a b c p q =
    record {
      hall = q.hall ∙ p.hall;
      by = q.by ∙ p.by;
      joined = q.joined ∙ p.joined;
      seen = continues_all c.seen b.seen a.seen q.seen p.seen;
    }

-- ---- The commands that a pass has made

pub asked_more : (made : List Command) (command : Command) (a b : PassValue) → b.by ≡ a.by → HasAsked made a
    → b.own ≡ turn_of a.by command ∷ a.own → HasAsked (made ++ command ∷ []) b
asked_more made command a b is_own has own =
    own
    ∙ ap (λ ts. turn_of a.by command ∷ ts) has
    ∙ ap (map (turn_of a.by)) (sym (reverse-append made (command ∷ [])))
    ∙ ap (λ n. turns_of n (made ++ command ∷ [])) (sym is_own)

pub asked_same : (made : List Command) (a b : PassValue) → b.by ≡ a.by → b.own ≡ a.own → HasAsked made a
    → HasAsked made b
asked_same made a b is_own own has = own ∙ has ∙ ap (λ n. turns_of n made) (sym is_own)

pub begun_by : (made left all : List Command) (p : PassValue) → all ≡ made ++ left → HasAsked made p → HasBegun all p
begun_by made left all p e has =
    (length made, has ∙ ap (turns_of p.by) (sym (ap (take (length made)) e ∙ take-append_seam made left)))
