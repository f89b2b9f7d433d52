-- A stream command adds only lines about streams, which change no row and no tenure.
use Rattle.std.proofs.Common.{◌≡◌, ℕ, true, List, [], ◌∷◌, refl}
use Rattle.std.specs.List.{AllByRecursion}
use Rattle.std.specs.Prelude.{is_some, Result, Ok, Err, IfOk}
use Rattle.kds_defs.proofs.Elsewhere.{of_some}
use Rattle.kds_defs.proofs.Walk.{IsAdded, Alone, Creates, each_line}
use Rattle.kds_defs.specs.declared.command.Command.{Command}
use Rattle.kds_defs.specs.declared.reply.Refusal.{Refusal}
use Rattle.kds_defs.specs.declared.reply.Reply.{Reply}
use Rattle.kds_defs.specs.declared.reply.Row.{Row}
use Rattle.kds_defs.specs.Histories.{decide, lines_of}
use Rattle.kds_defs.specs.Journal.{Journal, Line, with_lines}
use Rattle.kds_defs.specs.Kinds.{is_service}
use Rattle.kds_defs.specs.Subjects.{stream_of}
use Rattle.kcl_leases.specs.Standing.{Facing, facing}
use Rattle.kds_service.specs.Shown.{ServiceValue, ShowsAll}
use Rattle.kds_service.specs.Shown as service
use Rattle.kcl_book.specs.Tenures.{TenureValue}
use Rattle.kcl_leases.proofs.LeaseSteps.{HasRows, HasTenures, rows_of, stands_of, tenures_of}
use Rattle.kcl_leases.proofs.StreamLines.{rows_beside, tenures_beside}
use Rattle.kcl_world.specs.Standing.{Leads, world}

-- The service's shards as lease commands see them, at its clock.
abbrev pub seen : ServiceValue → Facing
seen s = facing s.clock (ShowsAll s)

-- Each line is about a stream, not a lease.
abbrev AreOfStreams : List Line → Type 0
AreOfStreams lines = AllByRecursion (λ line. is_some (stream_of line.what) ≡ true) lines

service_line : (log : Journal) (c actor : ℕ) (command : Command) (line : Line) → IsAdded log c actor command line
    → is_service command ≡ true
    → is_some (stream_of line.what) ≡ true
service_line log c actor _ _ (Alone _ _ _ (Creates name count fits)) h = refl
service_line log c actor _ _ _ h = h

service_lines : (log : Journal) (c actor : ℕ) (command : Command) → is_service command ≡ true
    → AreOfStreams (lines_of (decide log c actor command))
service_lines log c actor command h =
    each_line (λ line. is_some (stream_of line.what) ≡ true) log c actor command
    (λ line added. service_line log c actor command line added h)

-- ---- Lines about streams change no row and no tenure

rows_along : (rs : List Row) (lines : List Line) (log : Journal) → AreOfStreams lines → HasRows log rs
    → HasRows (with_lines lines log) rs
rows_along rs [] log is_of has = has
rows_along rs (line ∷ lines) log is_of has =
    rows_along rs lines (line ∷ log) is_of.1 (rows_beside log line rs (of_some (stream_of line.what) is_of.0) has)

tenures_along : (ts : List TenureValue) (lines : List Line) (log : Journal) → AreOfStreams lines → HasTenures log ts
    → HasTenures (with_lines lines log) ts
tenures_along ts [] log is_of has = has
tenures_along ts (line ∷ lines) log is_of has =
    tenures_along ts lines (line ∷ log) is_of.1 (tenures_beside log line ts (of_some (stream_of line.what) is_of.0) has)

pub service_leads : {E : Type 0} (r : Result (Result Reply Refusal) E) (s s' : ServiceValue) (rs : List Row)
    (ts : List TenureValue) (actor : ℕ) (command : Command)
    → is_service command ≡ true → IfOk r (service.Leads s s' command)
    → IfOk r (Leads (world s rs ts) (world s' rs ts) actor command)
service_leads (Err e) s s' rs ts actor command own led = tt
service_leads (Ok gives) s s' rs ts actor command own led = λ log st.
    let l = led log actor st.shows in
    let is_of = service_lines log s.clock actor command own in
    let lines = lines_of (decide log s.clock actor command) in
    let rows = rows_along rs lines log is_of (rows_of (seen s) rs ts log st) in (
      l.0,
      stands_of (seen s') rs ts (with_lines lines log) l.1 rows
          (tenures_along ts lines log is_of (tenures_of (seen s) rs ts log st)),
    )
