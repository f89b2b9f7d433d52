-- Reading one member keeps results right: allowed commands, or faults that name a member in valid UTF-8.
use Rattle.std.proofs.Common.{ℕ, List, Option, Result, IfSome, codes, refl}
use Rattle.std.specs.Prelude.{⊤}
use Rattle.serde_json.specs.Data.{Data}
use Rattle.kds_base.specs.Names.{IsName}
use Rattle.kds_defs.specs.declared.command.Command.{Command}
use Rattle.kds_defs.specs.declared.limits.TheConstants.{MOST}
use Rattle.kds_defs.specs.Lawful.{IsLimit}
use Rattle.kds_json.specs.Asked.{IsRequest}
use Rattle.kds_json_members.specs.declared.problem.Fault.{Fault}
use Rattle.kds_json_members.specs.Kinds.{name_in, number_in}
use Rattle.kds_json_members.specs.Member.{absent_at, required_at, optional_at, token_at}
use Rattle.kds_json_members.specs.Results.{◌>>=◌}
use Rattle.kds_json_members.proofs.Members.{Anything, IsPlain, Reads, absent_reads, anything, name_is, number_is}
use Rattle.kds_json_members.proofs.Members.{optional_reads, required_reads, then_reads, token_reads}

pub asks : {A : Type 0} (P : A → Type 0) (reads : Data → Option A) (name : List ℕ) (d : Data)
    (f : A → Result Command Fault) → IsPlain name
    → ((x : Data) → IfSome (reads x) P) → ((x : A) → P x → Reads IsRequest (f x))
    → Reads IsRequest (required_at reads name d >>= f)
asks P reads name d f plain h k =
    then_reads P IsRequest (required_at reads name d) f (required_reads P reads name d plain h) k

pub takes : {A : Type 0} (reads : Data → Option A) (name : List ℕ) (d : Data) (f : A → Result Command Fault)
    → IsPlain name
    → ((x : A) → Reads IsRequest (f x)) → Reads IsRequest (required_at reads name d >>= f)
takes {A} reads name d f plain k = asks (Anything A) reads name d f plain (λ x. anything (reads x)) (λ x _. k x)

pub names : (d : Data) (f : List ℕ → Result Command Fault) → ((x : List ℕ) → IsName x → Reads IsRequest (f x))
    → Reads IsRequest (required_at name_in (codes "StreamName") d >>= f)
names d f k = asks IsName name_in (codes "StreamName") d f refl name_is k

pub may_take : {A : Type 0} (default : A) (reads : Data → Option A) (name : List ℕ) (d : Data)
    (f : A → Result Command Fault) → IsPlain name
    → ((x : A) → Reads IsRequest (f x)) → Reads IsRequest (optional_at default reads name d >>= f)
may_take {A} default reads name d f plain k =
    then_reads (Anything A) IsRequest (optional_at default reads name d) f
    (optional_reads (Anything A) default reads name d plain tt (λ x. anything (reads x))) (λ x _. k x)

pub limits : (default : ℕ) (name : List ℕ) (d : Data) (f : ℕ → Result Command Fault) → IsPlain name → IsLimit default
    → ((n : ℕ) → IsLimit n → Reads IsRequest (f n))
    → Reads IsRequest (optional_at default (number_in 1 MOST) name d >>= f)
limits default name d f plain is k =
    then_reads IsLimit IsRequest (optional_at default (number_in 1 MOST) name d) f
    (optional_reads IsLimit default (number_in 1 MOST) name d plain is (number_is 1 MOST)) k

pub lacks : (name : List ℕ) (d : Data) (f : ⊤ → Result Command Fault) → IsPlain name → ((x : ⊤) → Reads IsRequest (f x))
    → Reads IsRequest (absent_at name d >>= f)
lacks name d f plain k = then_reads (Anything ⊤) IsRequest (absent_at name d) f (absent_reads name d plain) (λ x _. k x)

pub takes_token : {A : Type 0} (stands_for : List ℕ → Option A) (name : List ℕ) (d : Data)
    (f : A → Result Command Fault) → IsPlain name
    → ((x : A) → Reads IsRequest (f x)) → Reads IsRequest (token_at stands_for name d >>= f)
takes_token {A} stands_for name d f plain k =
    then_reads (Anything A) IsRequest (token_at stands_for name d) f (token_reads stands_for name d plain) (λ x _. k x)
