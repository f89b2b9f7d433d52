-- Steps that give a value or a request's first fault, and functions that are right for them.
use Rattle.std.specs.Prelude.{◌≡◌, ℕ, List, Option, Some, None, Result, Ok, Err}
use Rattle.kds_json_members.specs.declared.problem.FaultKind.{FaultKind}
use Rattle.kds_json_members.specs.declared.problem.Fault.{Fault}
use Rattle.kds_json_members.specs.declared.problem.Stop.{Stop}
use Rattle.kds_json_members.specs.declared.problem.Stop.TheVariants as stop

infixl 10 ◌>>=◌
-- The next step with the value of a step; a fault stays.
abbrev pub ◌>>=◌ : {A B : Type 0} → (result : Result A Fault) (next : A → Result B Fault) → Result B Fault
(Ok x) >>= f = f x
(Err e) >>= f = Err e

-- The fault of the kind `kind` at the member.
abbrev pub fault_of : (kind : FaultKind) (member : List ℕ) → Fault
fault_of kind member = record { kind = kind; member = member }

-- The value of an option, or the fault if there is none.
abbrev pub some_or : {A : Type 0} → (kind : FaultKind) (member : List ℕ) (x : Option A) → Result A Fault
some_or kind member (Some x) = Ok x
some_or kind member None = Err (fault_of kind member)

-- A function stopped with this fault, or because memory ran out.
abbrev pub IsStop : (stop : Stop) (fault : Fault) → Type 0
IsStop stop.Memory fault = Unit {0}
IsStop (stop.Fault f) fault = f ≡ fault

-- A function stopped with the fault of the step, or because memory ran out.
abbrev pub Fails : {A : Type 0} → (stop : Stop) (step : Result A Fault) → Type 0
Fails stop.Memory step = Unit {0}
Fails (stop.Fault f) step = step ≡ Err f

-- A function gave the step's value, as `view` shows it, or its fault, or memory ran out.
abbrev pub Gives : {X A : Type 0} → (view : X → A) (result : Result X Stop) (step : Result A Fault) → Type 0
Gives view (Ok x) step = step ≡ Ok (view x)
Gives view (Err e) step = Fails e step
