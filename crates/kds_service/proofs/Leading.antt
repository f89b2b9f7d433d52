-- The service answers a command for one stream as this stream does, and shows the new journal.
use Rattle.std.proofs.Common.{◌≡◌, ℕ, List, slice_get, slice_set, Some, sym, subst, ◌∙◌}
use Rattle.std.specs.Prelude.{◌-◌, true, IfOk, Result, Ok, Err}
use Rattle.kds_defs.specs.declared.command.Command.{Command}
use Rattle.kds_defs.specs.declared.limits.TheConstants.{OPEN_SHARDS}
use Rattle.kds_defs.specs.declared.reply.Refusal.{Refusal}
use Rattle.kds_defs.specs.declared.reply.Reply.{Reply}
use Rattle.kds_defs.specs.Decision.{Refused}
use Rattle.kds_defs.specs.Histories.{answer_of, decide, lines_of}
use Rattle.kds_defs.specs.Journal.{Journal, Line, with_lines}
use Rattle.kds_defs.proofs.Decisions.{after_refused}
use Rattle.kds_stream.specs.Serving.{Serves, needs_open_limit, is_of_stream}
use Rattle.kds_stream.specs.Showing.{Shows}
use Rattle.kds_stream.specs.Value.{StreamValue}
use Rattle.kds_service.proofs.Lists.{all_get}
use Rattle.kds_service.proofs.Lives.{own_lines}
use Rattle.kds_service.proofs.Lookups.{told_so}
use Rattle.kds_service.specs.Lines.{AreOf}
use Rattle.kds_service.specs.Indexes.{open_beside, index_for}
use Rattle.kds_service.specs.Shown.{AreAt, Leads, LeadsTo, ServiceValue, ShowsAll, service}

pub refused_leads : (w : ServiceValue) (command : Command) (r : Refusal)
    → ((log : Journal) (actor : ℕ) → ShowsAll w log → decide log w.clock actor command ≡ Refused r)
    → Leads w w command (Err r)
refused_leads w command r is =
    λ log actor all. after_refused (decide log w.clock actor command) r log (ShowsAll w) (is log actor all) all

-- A service shows the change of a stream that shows its lines; a premise here, proved in `Lives`.
abbrev pub Changes : Type 0
Changes = (c b n i : ℕ) (vs : List StreamValue) (x v : StreamValue) (log : Journal) (lines : List Line)
    → ShowsAll (service c b n vs) log → slice_get vs i ≡ Some x → v.no ≡ x.no → v.clock ≡ c → AreOf x.no c lines
    → Shows v (with_lines lines log) → ShowsAll (service c b n (slice_set vs i v)) (with_lines lines log)

-- A command that a stream serves leads from the service to the one with the changed stream.
pub stream_leads : {E : Type 0} (c i : ℕ) (vs ws : List StreamValue) (x v : StreamValue) (command : Command)
    (open_limit : ℕ)
    (r : Result (Result Reply Refusal) E)
    → Changes → AreAt c vs → slice_get vs i ≡ Some x → index_for vs command ≡ Some i → ws ≡ slice_set vs i v
    → is_of_stream command ≡ true
    → (needs_open_limit command ≡ true → open_limit ≡ OPEN_SHARDS - open_beside vs x.no) → v.no ≡ x.no
    → v.clock ≡ x.clock
    → IfOk r (λ a. Serves command open_limit x v a) → IfOk r (LeadsTo c vs ws command)
stream_leads c i vs ws x v command open_limit (Err e) change is_at here found set own asked no_is clock_is served = tt
stream_leads c i vs ws x v command open_limit (Ok gives) change is_at here found set own asked no_is clock_is served =
    λ b n log actor all.
    let now = all_get (λ u. u.clock ≡ c) i vs x is_at here in
    let is_told = told_so (service c b n vs) log i x command open_limit all here found asked in
    let led = subst (λ m. (gives ≡ answer_of (decide log m actor command))
    × Shows v (with_lines (lines_of (decide log m actor command)) log)) now (served log actor is_told) in
    let lines = lines_of (decide log c actor command) in
    let is_of = own_lines log c actor x.no command own (λ name is. (is_told.named name is).1) in (
      led.0,
      subst (λ us. ShowsAll (service c b n us) (with_lines lines log)) (sym set)
          (change c b n i vs x v log lines all here no_is (clock_is ∙ now) is_of led.1),
    )

pub serve_leads : {E : Type 0} (r : Result (Result Reply Refusal) E) (c b n : ℕ) (vs ws : List StreamValue)
    (command command' : Command) → IfOk r (LeadsTo c vs ws command') → command ≡ command'
    → IfOk r (Leads (service c b n vs) (service c b n ws) command)
serve_leads (Err e) c b n vs ws command command' led is = tt
serve_leads (Ok gives) c b n vs ws command command' led is =
    subst (λ x. Leads (service c b n vs) (service c b n ws) x gives) (sym is) (led b n)
