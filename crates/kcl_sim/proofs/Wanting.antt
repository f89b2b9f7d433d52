-- The texts that a run adds to its output: whole if answers are wanted, otherwise nothing.
use Rattle.std.proofs.Common.{◌≡◌, ℕ, Bool, true, false, List, [], ◌++◌, refl, sym, ap, ◌∙◌}
use Rattle.std.specs.Prelude.{Result, Ok, Err}
use Rattle.std.proofs.lemmas.List.{append-nil}
use Rattle.kcl_sim.specs.Keeping.{if_wanted}
use Rattle.kcl_sim.specs.Output.{AddsWhole}
use Rattle.kcl_sim.proofs.Running.{on_ok_so}

pub joined : (wanted : Bool) (xs ys : List ℕ) → if_wanted wanted xs ++ if_wanted wanted ys ≡ if_wanted wanted (xs ++ ys)
joined true xs ys = refl
joined false xs ys = refl

pub none_wanted : (wanted : Bool) → [] ≡ if_wanted wanted []
none_wanted true = refl
none_wanted false = refl

pub said : (wanted : Bool) (text old new : List ℕ) → true ≡ wanted → new ≡ old ++ text
    → new ≡ old ++ if_wanted wanted text
said wanted text old new is wrote = wrote ∙ ap (λ w. old ++ if_wanted w text) is

pub unsaid : (wanted : Bool) (text old : List ℕ) → false ≡ wanted → old ≡ old ++ if_wanted wanted text
unsaid wanted text old is = sym (append-nil old) ∙ ap (λ w. old ++ if_wanted w text) is

pub said_whole : {A E : Type 0} (wanted : Bool) (result : Result A E) (old new text : List ℕ) → true ≡ wanted
    → AddsWhole result old new text → AddsWhole result old new (if_wanted wanted text)
said_whole wanted result old new text is added = record {
  ok = on_ok_so result added.ok (λ wrote. said wanted text old new is wrote);
  err = added.err;
}

pub unsaid_whole : {A E : Type 0} (wanted : Bool) (result : Result A E) (text old : List ℕ) → false ≡ wanted
    → AddsWhole result old old (if_wanted wanted text)
unsaid_whole wanted (Ok x) text old is = record { ok = unsaid wanted text old is; err = tt }
unsaid_whole wanted (Err e) text old is = record { ok = tt; err = refl }
