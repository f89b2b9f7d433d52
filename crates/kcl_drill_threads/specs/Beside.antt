-- The function `f` that a drill calls while another thread gives the generator's commands; `g` is its contract.
use Rattle.std.specs.Prelude.{◌≡◌, List}
use denote.Ref.{MutBor}
use denote.Param.Members.{Shared}

module _ {F T : Type 0} (g : Shared F (MutBor (List T) × Unit {0}) (Unit {0} × (MutBor (List T) × Unit {0})))
    (f : F) where
  -- Each reference to the list `xs` meets the precondition of `f`.
  abbrev pub Accepts : (xs : List T) → Type 0
  Accepts xs = (p : MutBor (List T)) → p.now ≡ xs → g.pre f (p, tt)

  -- A call of `f` with the list `xs` may leave the list `ys`, as its contract says.
  pub record Leaves (xs ys : List T) : Type 0 where
    pub argument : MutBor (List T)
    pub argument_is : argument.now ≡ xs
    pub after_call : MutBor (List T)
    pub call : g.post f (argument, tt) (tt, (after_call, tt))
    pub left : after_call.now ≡ ys
