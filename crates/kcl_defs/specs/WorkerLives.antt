-- When a worker's trace fits a history: same commands, and processors called for the given reads.
use Rattle.std.specs.Prelude.{ℕ, ◌≡◌, List, [], ◌∷◌, Some, None, map}
use Rattle.std.specs.List.{AllByRecursion}
use Rattle.kds_defs.specs.declared.command.Turn.{Turn}
use Rattle.kcl_defs.specs.declared.consumer.Tenancy.{Tenancy}
use Rattle.kcl_defs.specs.declared.consumer.WorkerMade.{WorkerMade}
use Rattle.kcl_defs.specs.Consumers.{calls_after}
use Rattle.kcl_defs.specs.declared.consumer.Fetched.{Fetched}
use Rattle.kds_defs.specs.Histories.{journal}
use Rattle.kds_defs.specs.Leases.{TenureState, ReadDone, tenure}
use Rattle.kcl_defs.specs.Lives.{reads_in, gives_in, deals_of, IsLifeIn, IsWholeLifeIn}
use Rattle.kcl_defs.specs.Workers.{Known, WorkerState, WorkerEvent, Made_call, Gave_command, Got_answer, Stopped}
use Rattle.kcl_defs.specs.Workers.{Released, WorkerPast, worker_after, deals_after}

-- The event may happen in this state: while a command waits, only its answer may come.
abbrev pub MayHappen : (made : WorkerMade) (worker_event : WorkerEvent) (w : WorkerState) → Type 0
MayHappen made (Made_call asked) w = w.waiting ≡ None
MayHappen made (Gave_command now) w = w.waiting ≡ None
MayHappen made (Got_answer now answer) w = Unit {0}
MayHappen made Stopped w = w.waiting ≡ None
MayHappen made (Released key) w = w.waiting ≡ None

-- Each event of the trace may happen after the older ones.
abbrev pub IsOrderly : (made : WorkerMade) (past : WorkerPast) → Type 0
IsOrderly made [] = Unit {0}
IsOrderly made (event ∷ past) = MayHappen made event (worker_after made past) × IsOrderly made past

-- The actor's turns, with their answers, are the answered commands of the trace.
abbrev pub IsToldIn : (actor : ℕ) (h : List Turn) (made : WorkerMade) (past : WorkerPast) → Type 0
IsToldIn actor h made past = deals_of actor h ≡ deals_after made past

-- The consumer's tenure is in the journal, is the actor's, and has its key and starting checkpoint.
pub record IsOfTenure (actor : ℕ) (h : List Turn) (made : Tenancy) : Type 0 where
  pub state : TenureState
  pub begun : tenure (journal h) made.tenure ≡ Some state
  pub own : state.by ≡ actor
  pub key : state.key ≡ made.key
  pub start : state.start ≡ made.start

-- The consumer belongs to a tenure, and its processor was called for the tenure's given reads, in order.
abbrev pub IsServed : (actor : ℕ) (h : List Turn) (k : Known) → Type 0
IsServed actor h k = IsOfTenure actor h k.made × IsLifeIn actor h k.made (calls_after k.made k.past)

-- The consumer is served as in `IsServed`, and each batch that its processor was handed is given.
abbrev pub IsServedWhole : (actor : ℕ) (h : List Turn) (k : Known) → Type 0
IsServedWhole actor h k = IsOfTenure actor h k.made × IsWholeLifeIn actor h k.made (calls_after k.made k.past)

-- Each consumer of a worker is served (`IsServed`), and each retired one completely.
pub record AreServed (actor : ℕ) (h : List Turn) (made : WorkerMade) (past : WorkerPast) : Type 0 where
  pub consumers : AllByRecursion (IsServed actor h) (worker_after made past).consumers
  pub retired : AllByRecursion (IsServedWhole actor h) (worker_after made past).retired

-- ---- The reads among an actor's turns, and those of the journal

-- A read as its tenure keeps it.
abbrev pub read_done : (f : Fetched) → ReadDone
read_done f = record { numbers = map (λ r. r.seq) f.batch; ended = f.ended }

-- The accepted reads and Gives of the actor's tenure `t` match its state `T` in the journal.
pub record AreOfTenure (actor : ℕ) (h : List Turn) (t : ℕ) (T : TenureState) : Type 0 where
  pub reads : map read_done (reads_in t (deals_of actor h)) ≡ T.reads
  pub gives : gives_in t (deals_of actor h) ≡ T.given
