-- A consumer's Read never gets TooManyPending, because it reads only below `PENDING_READS` waiting batches.
use Rattle.std.proofs.Common.{◌≡◌, ℕ, ◌+◌, ◌-◌, ◌<◌, ◌≤◌, Bool, true, false, List, [], ◌∷◌, ◌++◌, length, Option}
use Rattle.std.proofs.Common.{Some, None, Ok, Err, refl, sym, ap}
use Rattle.std.proofs.Common.{subst, ◌∙◌, arith, length-append}
use Rattle.std.specs.Prelude.{◌==◌, ◌||◌, nat_le, nat_lt, if◌then◌else◌, not, Result}
use Rattle.std.proofs.lemmas.Bool.{not-false}
use Rattle.kds_base.proofs.Facts.{above_so, le_so}
use Rattle.kds_defs.proofs.Leads.{Leads, if_none, if_refused, leads_so}
use Rattle.kds_defs.specs.declared.command.Command.TheVariants as command
use Rattle.kds_defs.specs.declared.command.Target.{Target}
use Rattle.kds_defs.specs.declared.command.Turn.{Turn}
use Rattle.kds_defs.specs.declared.limits.TheConstants.{PENDING_READS}
use Rattle.kds_defs.specs.declared.reply.Refusal.{Refusal}
use Rattle.kds_defs.specs.declared.reply.Refusal.TheVariants as refusal
use Rattle.kds_defs.specs.declared.reply.Reply.{Reply}
use Rattle.kds_defs.specs.declared.reply.Reply.TheVariants as reply
use Rattle.kds_defs.specs.Decision.{Decision, refuse◌if◌else◌}
use Rattle.kds_defs.specs.Histories.{answer, clock as clock_of, journal}
use Rattle.kds_defs.specs.Journal.{Journal, Line}
use Rattle.kds_defs.specs.Keys.{is_listed_key}
use Rattle.kds_defs.specs.LeaseCommands.{read}
use Rattle.kds_defs.specs.Leases.{pending, reach, tenure}
use Rattle.kcl_defs.specs.declared.consumer.Ask.{Ask}
use Rattle.kcl_defs.specs.declared.consumer.Fetched.{Fetched}
use Rattle.kcl_defs.specs.declared.consumer.Tenancy.{Tenancy}
use Rattle.kcl_defs.specs.declared.consumer.Why.TheVariants as why
use Rattle.kcl_defs.specs.Consumers.{Answered, Called, Ending, Event, Filling, Giving, Holding, Leaving, Losing}
use Rattle.kcl_defs.specs.Consumers.{Marking, MarkingEnd, Opening, Over, Past}
use Rattle.kcl_defs.specs.Consumers.{Stage, Starting, after_answer, after_call, after_event, after_loss, after_open}
use Rattle.kcl_defs.specs.Consumers.{after_read, calls_after, front}
use Rattle.kcl_defs.specs.Consumers.{given, is_empty, stops_filling, is_loss, next_command, onward, stage_after}
use Rattle.kcl_defs.specs.Consumers.{first_has_records}
use Rattle.kcl_defs.specs.Lives.{Deal, deals_of, gives_after, gives_in, reads_after, reads_in}
use Rattle.kcl_defs.proofs.DealLemmas.{AgreeWith, AllAgree, agree}
use Rattle.kcl_defs.proofs.LifeLemmas.{Holds, holds}
use Rattle.kcl_defs.proofs.GiveLemmas.{length_map}
use Rattle.kcl_consumer.specs.Standing.{IsNeverFull}

-- ---- In the record of the consumer

-- In `Filling`, fewer than `PENDING_READS` batches wait.
abbrev HasFewWaiting : Stage → Type 0
HasFewWaiting (Filling reach waiting) = length waiting < PENDING_READS
HasFewWaiting _ = Unit {0}

none_wait : 0 < PENDING_READS
none_wait = omega arith

first_few : (b : Bool) (reach : ℕ) (ws : List Fetched)
    → HasFewWaiting (if b then Giving reach ws None false else Holding reach ws)
first_few true reach ws = tt
first_few false reach ws = tt

front_few : (reach : ℕ) (ws : List Fetched) → HasFewWaiting (front reach ws)
front_few reach [] = none_wait
front_few reach (f ∷ ws) = first_few (is_empty f.batch) reach (f ∷ ws)

first_false : (x y z : Bool) → (x || y || z) ≡ false → x ≡ false
first_false true y z e = e
first_false false y z e = refl

fetched_few : (limit reach : ℕ) (ws : List Fetched) (f : Fetched) (b : Bool) → stops_filling limit (length ws + 1) f ≡ b
    → HasFewWaiting (if b then front reach (ws ++ f ∷ []) else Filling reach (ws ++ f ∷ []))
fetched_few limit reach ws f true e = front_few reach (ws ++ f ∷ [])
fetched_few limit reach ws f false e =
    subst (λ n. n < PENDING_READS) (sym (length-append ws (f ∷ [])))
    (above_so PENDING_READS (length ws + 1)
    (first_false (nat_le PENDING_READS (length ws + 1)) f.ended (nat_lt (length f.batch) limit) e))

ended_few : (b : Bool) (reach : ℕ) (ws : List Fetched) (asked : Option Target)
    → HasFewWaiting (if b then Ending else onward reach ws asked)
ended_few true reach ws asked = tt
ended_few false reach ws None = front_few reach ws
ended_few false reach ws (Some target) = tt

given_few : (reach : ℕ) (ws : List Fetched) (asked : Option Target) (lost : Bool)
    → HasFewWaiting (given reach ws asked lost)
given_few reach [] asked lost = tt
given_few reach (f ∷ ws) asked true = tt
given_few reach (f ∷ ws) asked false = ended_few f.ended reach ws asked

read_few : (limit reach : ℕ) (ws : List Fetched) (a : Result Reply Refusal) → length ws < PENDING_READS
    → HasFewWaiting (after_read limit reach ws a)
read_few limit reach ws (Ok (reply.Read batch next ended)) fewer =
    fetched_few limit next ws (record { batch = batch; ended = ended }) _ refl
read_few limit reach ws (Ok _) fewer = fewer
read_few limit reach ws (Err refusal.ShardGone) fewer = tt
read_few limit reach ws (Err _) fewer = tt

marked_few : (b : Bool) (reach : ℕ) (ws : List Fetched) → HasFewWaiting (if b then Leaving why.Lost else front reach ws)
marked_few true reach ws = tt
marked_few false reach ws = front_few reach ws

open_few : (a : Result Reply Refusal) → HasFewWaiting (after_open a)
open_few (Ok r) = tt
open_few (Err (refusal.ParentsOpen parent)) = tt
open_few (Err _) = tt

answer_few : (made : Tenancy) (a : Result Reply Refusal) (stage : Stage) → HasFewWaiting stage
    → HasFewWaiting (after_answer made a stage)
answer_few made a Opening fewer = open_few a
answer_few made a Starting fewer = tt
answer_few made a (Filling reach ws) fewer = read_few made.limit reach ws a fewer
answer_few made a (Holding reach ws) fewer = tt
answer_few made (Ok r) (Giving reach ws asked lost) fewer = given_few reach ws asked lost
answer_few made (Err r) (Giving reach ws asked lost) fewer = tt
answer_few made (Ok r) (Marking reach ws target) fewer = front_few reach ws
answer_few made (Err r) (Marking reach ws target) fewer = marked_few (is_loss r) reach ws
answer_few made a Ending fewer = tt
answer_few made (Ok r) MarkingEnd fewer = tt
answer_few made (Err r) MarkingEnd fewer = tt
answer_few made a (Leaving why) fewer = tt
answer_few made a (Over why) fewer = tt

call_few : (made : Tenancy) (asked : Ask) (stage : Stage) → HasFewWaiting stage
    → HasFewWaiting (after_call made asked stage)
call_few made asked Opening fewer = tt
call_few made asked Starting fewer = none_wait
call_few made asked (Filling reach ws) fewer = fewer
call_few made asked (Holding reach ws) fewer = tt
call_few made asked (Giving reach ws a lost) fewer = tt
call_few made asked (Marking reach ws target) fewer = tt
call_few made asked Ending fewer = tt
call_few made asked MarkingEnd fewer = tt
call_few made asked (Leaving why) fewer = tt
call_few made asked (Over why) fewer = tt

handed_few : (b : Bool) (reach : ℕ) (ws : List Fetched) (asked : Option Target)
    → HasFewWaiting (if b then Giving reach ws asked true else Leaving why.Lost)
handed_few true reach ws asked = tt
handed_few false reach ws asked = tt

loss_few : (stage : Stage) → HasFewWaiting (after_loss stage)
loss_few Opening = tt
loss_few Starting = tt
loss_few (Filling reach ws) = tt
loss_few (Holding reach ws) = tt
loss_few (Giving reach ws asked lost) = handed_few (first_has_records ws) reach ws asked
loss_few (Marking reach ws target) = tt
loss_few Ending = tt
loss_few MarkingEnd = tt
loss_few (Leaving why) = tt
loss_few (Over why) = tt

event_few : (made : Tenancy) (event : Event) (stage : Stage) → HasFewWaiting stage
    → HasFewWaiting (after_event made event stage)
event_few made (Called asked) stage fewer = call_few made asked stage fewer
event_few made (Answered a) stage fewer = answer_few made a stage fewer
event_few made Losing stage fewer = loss_few stage

room_after : (made : Tenancy) (past : Past) → HasFewWaiting (stage_after made past)
room_after made [] = tt
room_after made (event ∷ past) = event_few made event (stage_after made past) (room_after made past)

reads_filling : (made : Tenancy) (stage : Stage) (counter t position limit : ℕ)
    → next_command made stage counter ≡ Some (command.Read t position limit)
    → (end : ℕ) × (waiting : List Fetched) × (stage ≡ Filling end waiting) × (made.tenure ≡ t)
reads_filling made Opening counter t position limit e = cc
reads_filling made Starting counter t position limit e = cc
reads_filling made (Filling moment ws) counter t position limit e = (moment, ws, refl, cc)
reads_filling made (Holding moment ws) counter t position limit e = cc
reads_filling made (Giving moment ws asked lost) counter t position limit e = cc
reads_filling made (Marking moment ws target) counter t position limit e = cc
reads_filling made Ending counter t position limit e = cc
reads_filling made MarkingEnd counter t position limit e = cc
reads_filling made (Leaving why) counter t position limit e = cc
reads_filling made (Over why) counter t position limit e = cc

-- ---- In the history

-- If the answer is TooManyPending, at least `PENDING_READS` reads of the tenure aren't given.
abbrev IsManyIfRefused : ℕ → List Deal → List Line → Result Reply Refusal → Type 0
IsManyIfRefused t deals lines a = a ≡ Err refusal.TooManyPending
    → PENDING_READS + gives_in t deals ≤ length (reads_in t deals)

if_tested : (P : List Line → Result Reply Refusal → Type 0) (r : Refusal) (b : Bool) (d : Decision)
    → (b ≡ true → P [] (Err r)) → (b ≡ false → Leads P d) → Leads P (refuse r if b else d)
unfolding refuse◌if◌else◌
if_tested P r true d h g = h refl
if_tested P r false d h g = g refl

as_many : (most a b g n : ℕ) → 1 ≤ most → a ≡ b → g ≡ n → most ≤ b - n → most + g ≤ a
as_many most a b g n some reads gives many = omega arith

read_told : (actor c t position limit : ℕ) (deals : List Deal) (log : Journal) → AllAgree actor deals log
    → Leads (IsManyIfRefused t deals) (read log c actor t position limit)
read_told actor c t position limit deals log all =
    let P = IsManyIfRefused t deals in
    if_none P refusal.NoTenure (tenure log t) _ (λ e. cc)
    (λ T is.
    let a : AgreeWith actor t deals (Some T) = subst (λ o. AgreeWith actor t deals o) is (all t) in
    if_refused P refusal.NotYours (not (T.by == actor)) _ (λ e. cc)
    (λ own.
    let m = a.0 (not-false (T.by == actor) own) in
    if_refused P refusal.NotOpened (not T.opened) _ (λ e. cc)
    (λ opened. if_refused P refusal.ShardGone (not (is_listed_key log c T.key)) _ (λ e. cc)
    (λ listed. if_tested P refusal.TooManyPending (nat_le PENDING_READS (pending T)) _
    (λ many e.
    as_many PENDING_READS (length (reads_in t deals)) (length T.reads) (gives_in t deals) T.given (omega arith)
    (sym (length_map (reads_in t deals)) ∙ ap length m.0) m.1 (le_so PENDING_READS (pending T) many))
    (λ few. if_refused P (refusal.OutOfPlace (reach T)) (not (position == reach T)) _ (λ e. cc) (λ in_place e. cc))))))

too_many : (most n g r : ℕ) → n < most → r ≡ g + n → most + g ≤ r → ⊥
too_many most n g r few all many = omega arith

pub never_full : IsNeverFull
never_full actor moment counter t position limit h made past step next is_told =
    let r = reads_filling made (stage_after made past) counter t position limit next in
    let ws = r.1 in
    let fewer : length ws < PENDING_READS = subst HasFewWaiting r.2 (room_after made past) in
    let stands =
    subst (λ stage. Holds made stage (reads_after made past) (gives_after made past) (calls_after made past)) r.2
    (holds made past) in
    let deals = deals_of actor h in
    let turn : Turn = record { by = actor; at = moment; what = command.Read t position limit } in
    let c = clock_of (turn ∷ h) in
    let many : answer h turn ≡ Err refusal.TooManyPending → PENDING_READS + gives_in t deals ≤ length (reads_in t deals)
    = leads_so (IsManyIfRefused t deals) (read (journal h) c actor t position limit)
    (read_told actor c t position limit deals (journal h) (agree actor h)) in
    let reads : length (reads_in t deals) ≡ length stands.done + length ws
    = ap (λ n. length (reads_in n deals)) (sym r.3) ∙ ap length step.reads ∙ ap length stands.all
    ∙ length-append stands.done ws in
    let gives : gives_in t deals ≡ length stands.done = ap (λ n. gives_in n deals) (sym r.3) ∙ step.gives
    ∙ sym stands.count in
    too_many PENDING_READS (length ws) (gives_in t deals) _ fewer (reads ∙ ap (λ n. n + length ws) (sym gives))
    (many is_told)
