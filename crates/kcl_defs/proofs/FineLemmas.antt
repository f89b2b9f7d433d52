-- Each tenure has at most one consumer, whose trace has the tenure's reads and Gives; each event keeps this so.
use Rattle.std.proofs.Common.{◌≡◌, ℕ, ◌+◌, ◌≤◌, Bool, true, false, List, [], ◌∷◌, ◌++◌, Option, Some, None, Ok, Err}
use Rattle.std.proofs.Common.{refl, sym, ap, subst, ◌∙◌, arith}
use Rattle.std.specs.Prelude.{◌==◌, ◌&&◌, ◌||◌, not, cond, if◌then◌else◌, Result}
use Rattle.std.specs.List.{AllByRecursion, filter, find}
use Rattle.std.proofs.lemmas.Bool.Decides.{nat_tests}
use Rattle.std.proofs.lemmas.Bool.{and_right, or_parts}
use Rattle.kds_base.proofs.Facts.{both_right, equal_so, is_itself, all_append, all_filter}
use Rattle.kds_defs.specs.declared.command.Command.{Command}
use Rattle.kds_defs.specs.declared.command.Command.TheVariants as command
use Rattle.kcl_defs.specs.declared.consumer.Tenancy.{Tenancy}
use Rattle.kcl_defs.specs.declared.consumer.WorkerMade.{WorkerMade}
use Rattle.kcl_defs.specs.declared.plans.Held.{Held}
use Rattle.kcl_defs.specs.declared.plans.TenancyId.{TenancyId}
use Rattle.kcl_defs.specs.declared.plans.SyncStep.{SyncStep}
use Rattle.kcl_defs.specs.declared.plans.SyncStep.TheVariants.{Make, Cut}
use Rattle.kcl_defs.specs.declared.plans.TakeStep.{TakeStep}
use Rattle.kds_defs.specs.declared.reply.Refusal.{Refusal}
use Rattle.kds_defs.specs.declared.reply.Reply.{Reply}
use Rattle.kds_defs.specs.declared.reply.Reply.TheVariants as reply
use Rattle.kcl_defs.specs.Consumers.{Event, Answered, Losing, Stage, Giving}
use Rattle.kcl_defs.specs.Consumers.{next_command}
use Rattle.kcl_defs.specs.Lives.{Deal, reads_in, gives_in, IsInStep}
use Rattle.kcl_defs.specs.Workers.{Known, Pending, Chore, Surveying, Syncing, Taking, Renewing, Consuming, Finishing}
use Rattle.kcl_defs.specs.Workers.{Freeing, WorkerState}
use Rattle.kcl_defs.specs.Workers.{id_of, same_id, with_event, happens_to, happens_to_first}
use Rattle.kcl_defs.specs.Workers.{is_over, with_known, known_of, consumer_command}
use Rattle.kcl_defs.specs.Workers.{stage_of_known, counter_of, is_giving, is_giving_stage, Round, AtSurvey, AtSync}
use Rattle.kcl_defs.specs.Workers.{AtTakes, AtRenewals, AtConsumers, AtStopping, consumer_chore, renewal_chore}
use Rattle.kcl_defs.specs.Workers.{from_takes, from_sync, freeing_chore, stopping_chore, chore_from, is_past}
use Rattle.kcl_defs.specs.Workers.{id_of_held, pending_of, pending_chore}
use Rattle.kcl_defs.specs.Workers.{consumed}
use Rattle.kcl_defs.specs.Plans.{is_due}
use Rattle.kcl_defs.proofs.StepLemmas.{others_keep, lost_keeps}
use Rattle.kcl_defs.proofs.KnownLemmas.{InStep, IsAbout, IsQuiet, all_event, all_first}
use Rattle.kcl_defs.proofs.KnownLemmas.{all_with_known, found_times, others, own, quiet, times, times-append}
use Rattle.kcl_defs.proofs.KnownLemmas.{times-event, times-first, times-parted, times-with_known}

-- ---- The consumers of a worker and its commands

-- Whether the answer began tenure `t`.
abbrev pub begins : ℕ → Result Reply Refusal → Bool
begins t (Ok (reply.Taken tenure counter start)) = tenure == t
begins t (Ok _) = false
begins t (Err r) = false

-- Whether one of the answers began tenure `t`.
abbrev pub was_taken : ℕ → List Deal → Bool
was_taken t [] = false
was_taken t (deal ∷ deals) = begins t deal.answer || was_taken t deals

-- No earlier command began, read or gave the tenure that the answer begins, if any.
abbrev pub IsNewTenure : Result Reply Refusal → List Deal → Type 0
IsNewTenure (Ok (reply.Taken tenure counter start)) deals = (was_taken tenure deals ≡ false)
    × (reads_in tenure deals ≡ []) × (gives_in tenure deals ≡ 0)
IsNewTenure (Ok _) deals = Unit {0}
IsNewTenure (Err r) deals = Unit {0}

-- Each tenure that an answer begins is new to the commands before.
abbrev pub AreNewTenures : List Deal → Type 0
AreNewTenures [] = Unit {0}
AreNewTenures (deal ∷ deals) = IsNewTenure deal.answer deals × AreNewTenures deals

-- Each tenure has at most one consumer, none if no command began it, and each trace agrees with the commands.
pub record AreGood (deals : List Deal) (consumers retired : List Known) : Type 0 where
  pub apart : (t : ℕ) → times t consumers + times t retired ≤ 1
  pub begun : (t : ℕ) → was_taken t deals ≡ false → times t consumers + times t retired ≡ 0
  pub live : AllByRecursion (InStep deals) consumers
  pub over : AllByRecursion (InStep deals) retired

pub settle_good : (deals : List Deal) (consumers retired : List Known) → AreGood deals consumers retired
    → AreGood deals (filter (λ k. not (is_over k)) consumers) (retired ++ filter is_over consumers)
settle_good deals consumers retired g = record {
  apart = λ t. counted_le t (g.apart t);
  begun = λ t n. counted_none t (g.begun t n);
  live = all_filter (InStep deals) (λ k. not (is_over k)) consumers g.live;
  over = all_append (InStep deals) retired (filter is_over consumers) g.over
      (all_filter (InStep deals) is_over consumers g.live);
}
  where
    sum_le : (a b c d e : ℕ) → a + b ≡ c → e ≡ d + b → c + d ≤ 1 → a + e ≤ 1
    sum_le a b c d e h g o = omega arith

    sum_none : (a b c d e : ℕ) → a + b ≡ c → e ≡ d + b → c + d ≡ 0 → a + e ≡ 0
    sum_none a b c d e h g o = omega arith

    counted_le : (t : ℕ) → times t consumers + times t retired ≤ 1
        → times t (filter (λ k. not (is_over k)) consumers) + times t (retired ++ filter is_over consumers) ≤ 1
    counted_le t o = sum_le (times t (filter (λ k. not (is_over k)) consumers)) (times t (filter is_over consumers))
        (times t consumers) (times t retired) (times t (retired ++ filter is_over consumers))
        (times-parted t is_over consumers) (times-append t retired (filter is_over consumers)) o

    counted_none : (t : ℕ) → times t consumers + times t retired ≡ 0
        → times t (filter (λ k. not (is_over k)) consumers) + times t (retired ++ filter is_over consumers) ≡ 0
    counted_none t o = sum_none (times t (filter (λ k. not (is_over k)) consumers)) (times t (filter is_over consumers))
        (times t consumers) (times t retired) (times t (retired ++ filter is_over consumers))
        (times-parted t is_over consumers) (times-append t retired (filter is_over consumers)) o

event_good : (deals : List Deal) (test : Known → Bool) (e : Event) (consumers retired : List Known)
    → ((k : Known) → InStep deals k → InStep deals (with_event e k)) → AreGood deals consumers retired
    → AreGood deals (happens_to test e consumers) retired
event_good deals test e consumers retired f g = record {
  apart = λ t. subst (λ n. n + times t retired ≤ 1) (sym (times-event t test e consumers)) (g.apart t);
  begun = λ t n. ap (λ n. n + times t retired) (times-event t test e consumers) ∙ g.begun t n;
  live = all_event (InStep deals) test e consumers f g.live;
  over = g.over;
}

pub first_good : (deals : List Deal) (test : Known → Bool) (e : Event) (consumers retired : List Known)
    → ((k : Known) → InStep deals k → InStep deals (with_event e k)) → AreGood deals consumers retired
    → AreGood deals (happens_to_first test e consumers) retired
first_good deals test e consumers retired f g = record {
  apart = λ t. subst (λ n. n + times t retired ≤ 1) (sym (times-first t test e consumers)) (g.apart t);
  begun = λ t n. ap (λ n. n + times t retired) (times-first t test e consumers) ∙ g.begun t n;
  live = all_first (InStep deals) test e consumers f g.live;
  over = g.over;
}

pub lost_good : (deals : List Deal) (test : Known → Bool) (consumers retired : List Known)
    → AreGood deals consumers retired
    → AreGood deals (happens_to test Losing consumers) retired
lost_good deals test consumers retired g =
    event_good deals test Losing consumers retired (λ k s. lost_keeps deals k.made k.past s) g

pub quiet_good : (deal : Deal) (deals : List Deal) (consumers retired : List Known) → IsQuiet deal.what
    → AreGood deals consumers retired → AreGood (deal ∷ deals) consumers retired
quiet_good deal deals consumers retired is g = record {
  apart = g.apart;
  begun = λ t n. g.begun t (or_parts (begins t deal.answer) (was_taken t deals) n).1;
  live = quiet deal deals consumers is g.live;
  over = quiet deal deals retired is g.over;
}

pub taken_good : (deal : Deal) (deals : List Deal) (k : Known) (consumers retired : List Known) → IsQuiet deal.what
    → k.past ≡ [] → ((t : ℕ) → begins t deal.answer ≡ (k.made.tenure == t)) → was_taken k.made.tenure deals ≡ false
    → reads_in k.made.tenure deals ≡ [] → gives_in k.made.tenure deals ≡ 0 → AreGood deals consumers retired
    → AreGood (deal ∷ deals) (with_known k consumers) retired
taken_good deal deals k consumers retired is no_past begun_by new no_read no_give g = record {
  apart = λ t. apart_at t (k.made.tenure == t) refl;
  begun = λ t n. begun_at t (or_parts (begins t deal.answer) (was_taken t deals) n);
  live = all_with_known (InStep (deal ∷ deals)) k consumers first (quiet deal deals consumers is g.live);
  over = quiet deal deals retired is g.over;
}
  where
    start : InStep deals k
    start = subst (λ past. IsInStep deals k.made past) (sym no_past) (record { reads = no_read; gives = no_give })

    first : InStep (deal ∷ deals) k
    first = let q = is k.made.tenure deal.answer in others_keep deal deals k.made k.past q.0 q.1 start

    one_at : (a b c : ℕ) → a ≡ 1 + b → b + c ≡ 0 → a + c ≤ 1
    one_at a b c h n = omega arith

    none_at : (a b c : ℕ) → a ≡ 0 + b → b + c ≤ 1 → a + c ≤ 1
    none_at a b c h n = omega arith

    nothing_at : (a b c : ℕ) → a ≡ 0 + b → b + c ≡ 0 → a + c ≡ 0
    nothing_at a b c h n = omega arith

    apart_at : (t : ℕ) (b : Bool) → (k.made.tenure == t) ≡ b → times t (with_known k consumers) + times t retired ≤ 1
    apart_at t true e =
        one_at (times t (with_known k consumers)) (times t consumers) (times t retired)
        (times-with_known t k consumers ∙ ap (λ b. (if b then 1 else 0) + times t consumers) e)
        (subst (λ u. times u consumers + times u retired ≡ 0) (equal_so k.made.tenure t e) (g.begun k.made.tenure new))
    apart_at t false e =
        none_at (times t (with_known k consumers)) (times t consumers) (times t retired)
        (times-with_known t k consumers ∙ ap (λ b. (if b then 1 else 0) + times t consumers) e) (g.apart t)

    begun_at : (t : ℕ) → (begins t deal.answer ≡ false) × (was_taken t deals ≡ false)
        → times t (with_known k consumers) + times t retired ≡ 0
    begun_at t n =
        nothing_at (times t (with_known k consumers)) (times t consumers) (times t retired)
        (times-with_known t k consumers ∙ ap (λ b. (if b then 1 else 0) + times t consumers) (sym (begun_by t) ∙ n.0))
        (g.begun t n.1)

pub own_good : (id : TenancyId) (deal : Deal) (deals : List Deal) (k : Known) (counter : ℕ)
    (consumers retired : List Known)
    → next_command k.made (stage_of_known k) counter ≡ Some deal.what → IsAbout id.tenure deal.what
    → known_of id consumers ≡ Some k → AreGood deals consumers retired
    → AreGood (deal ∷ deals) (consumed id deal.answer consumers) retired
own_good id deal deals k counter consumers retired next is found g = record {
  apart = λ t. subst (λ n. n + times t retired ≤ 1)
      (sym (times-first t (λ k. same_id (id_of k) id) (Answered deal.answer) consumers)) (g.apart t);
  begun = λ t n. ap (λ n. n + times t retired)
      (times-first t (λ k. same_id (id_of k) id) (Answered deal.answer) consumers)
      ∙ g.begun t (or_parts (begins t deal.answer) (was_taken t deals) n).1;
  live = own id deal deals k counter consumers next is
      (first_le (times id.tenure consumers) (times id.tenure retired) (g.apart id.tenure)) found g.live;
  over = others id.tenure deal deals retired is
      (second_none (times id.tenure consumers) (times id.tenure retired) (found_times id k consumers found)
      (g.apart id.tenure)) g.over;
}
  where
    first_le : (a b : ℕ) → a + b ≤ 1 → a ≤ 1
    first_le a b h = omega arith

    second_none : (a b : ℕ) → 1 ≤ a → a + b ≤ 1 → b ≡ 0
    second_none a b h g = omega arith

-- ---- The command that waits

-- A consumer's chore has this consumer's next command, and any other chore no read and no give.
abbrev pub IsOwnCommand : Chore → Command → WorkerState → Type 0
IsOwnCommand (Consuming id) asked w = consumer_command w (known_of id w.consumers) ≡ Some asked
IsOwnCommand (Finishing id) asked w = consumer_command w (known_of id w.consumers) ≡ Some asked
IsOwnCommand _ asked w = IsQuiet asked

-- A command that waits is its consumer's next one, or no read and no give.
abbrev pub IsWaitingOk : Option Pending → WorkerState → Type 0
IsWaitingOk None w = Unit {0}
IsWaitingOk (Some p) w = IsOwnCommand p.chore p.what w

-- For a Give after a stop, the consumer's next command is this Give.
abbrev pub IsFinishOk : Option Chore → WorkerState → Type 0
IsFinishOk (Some (Finishing id)) w = consumer_command w (known_of id w.consumers) ≡ Some (command.Give id.tenure)
IsFinishOk _ w = Unit {0}

pub own_id : (a b t : ℕ) → ((a == a) && (b == b) && (t == t)) ≡ true
own_id a b t = grind (arith, nat_tests)

same_own_id : (k : Known) → same_id (id_of k) (id_of k) ≡ true
same_own_id k = own_id k.made.key.stream k.made.key.shard k.made.tenure

finds : (p : Known → Bool) (k : Known) (xs : List Known) → times k.made.tenure xs ≤ 1 → find p xs ≡ Some k
    → (known_of (id_of k) xs ≡ Some k) × (p k ≡ true) × (1 ≤ times k.made.tenure xs)
finds p k [] once h = absurd cc
finds p k (x ∷ xs) once h = head (p x) refl h (λ o g. finds p k xs o g)
  where
    same_known : (x k : Known) → Some x ≡ Some k → k ≡ x
    same_known x k e = cc

    counted : (b : Bool) (m : ℕ) → b ≡ true → 1 ≤ (if b then 1 else 0) + m
    counted true m h = omega arith
    counted false m h = absurd cc

    other_tenure : (b : Bool) (m : ℕ) → (if b then 1 else 0) + m ≤ 1 → 1 ≤ m → b ≡ false
    other_tenure true m o g = absurd (omega arith)
    other_tenure false m o g = refl

    rest_le : (a b : ℕ) → a + b ≤ 1 → b ≤ 1
    rest_le a b o = omega arith

    more : (a b : ℕ) → 1 ≤ b → 1 ≤ a + b
    more a b o = omega arith

    head : (b : Bool) → p x ≡ b → cond b (Some x) (find p xs) ≡ Some k
        → (times k.made.tenure xs ≤ 1 → find p xs ≡ Some k → (known_of (id_of k) xs ≡ Some k) × (p k ≡ true)
        × (1 ≤ times k.made.tenure xs)) → (known_of (id_of k) (x ∷ xs) ≡ Some k) × (p k ≡ true)
        × (1 ≤ times k.made.tenure (x ∷ xs))
    head true e g rest =
        let P : Known → Type 0 = λ j. (known_of (id_of j) (x ∷ xs) ≡ Some j) × (p j ≡ true)
        × (1 ≤ times j.made.tenure (x ∷ xs)) in
        subst P (sym (same_known x k g)) (
          ap (λ b. cond b (Some x) (known_of (id_of x) xs)) (same_own_id x),
          e,
          counted (x.made.tenure == x.made.tenure) (times x.made.tenure xs) (is_itself x.made.tenure),
        )
    head false e g rest =
        let r = rest (rest_le (if x.made.tenure == k.made.tenure then 1 else 0) (times k.made.tenure xs) once) g in
        let n = other_tenure (x.made.tenure == k.made.tenure) (times k.made.tenure xs) once r.2 in (
          ap (λ b. cond b (Some x) (known_of (id_of k) xs)) (and_right _ (x.made.tenure == k.made.tenure) n) ∙ r.0,
          r.1,
          more (if x.made.tenure == k.made.tenure then 1 else 0) (times k.made.tenure xs) r.2,
        )

gives_next : (made : Tenancy) (stage : Stage) (counter : ℕ) → is_giving_stage stage ≡ true
    → next_command made stage counter ≡ Some (command.Give made.tenure)
gives_next made (Giving reach waiting asked lost) counter h = refl
gives_next made _ counter h = absurd cc

pub found_tenure : (id : TenancyId) (k : Known) (xs : List Known) → known_of id xs ≡ Some k → k.made.tenure ≡ id.tenure
found_tenure id k [] h = absurd cc
found_tenure id k (x ∷ xs) h = head (same_id (id_of x) id) refl h (λ g. found_tenure id k xs g)
  where
    same_known : (x k : Known) → Some x ≡ Some k → x ≡ k
    same_known x k e = cc

    head : (b : Bool) → same_id (id_of x) id ≡ b → cond b (Some x) (known_of id xs) ≡ Some k
        → (known_of id xs ≡ Some k → k.made.tenure ≡ id.tenure) → k.made.tenure ≡ id.tenure
    head true e g rest = ap (λ j. j.made.tenure) (sym (same_known x k g))
        ∙ equal_so x.made.tenure id.tenure (both_right _ (x.made.tenure == id.tenure) e)
    head false e g rest = rest g

-- ---- Along the record

-- Consumers agree with the commands, and a command that waits is its consumer's next one or no read and no give.
pub record IsFine (deals : List Deal) (w : WorkerState) : Type 0 where
  pub good : AreGood deals w.consumers w.retired
  pub waits : IsWaitingOk w.waiting w

apart_consumers : (deals : List Deal) (w : WorkerState) → AreGood deals w.consumers w.retired → (t : ℕ)
    → times t w.consumers ≤ 1
apart_consumers deals w g t = first_le (times t w.consumers) (times t w.retired) (g.apart t)
  where
    first_le : (a b : ℕ) → a + b ≤ 1 → a ≤ 1
    first_le a b h = omega arith

finish_consumers : (w : WorkerState) (o : Option Known) → IsFinishOk (Some (consumer_chore o)) w
finish_consumers w None = tt
finish_consumers w (Some k) = tt

finish_renewals : (w : WorkerState) (o : Option Held) → IsFinishOk (Some (renewal_chore w o)) w
finish_renewals w None = finish_consumers w (find (λ k. is_past None (id_of k)) w.consumers)
finish_renewals w (Some h) = tt

finish_takes : (failover now : ℕ) (takes : List TakeStep) (w : WorkerState)
    → IsFinishOk (Some (from_takes failover now takes w)) w
finish_takes failover now [] w =
    finish_renewals w (find (λ h. is_past None (id_of_held h) && is_due h now failover) w.held)
finish_takes failover now (step ∷ takes) w = tt

finish_sync : (failover now : ℕ) (syncs : List SyncStep) (takes : List TakeStep) (w : WorkerState)
    → IsFinishOk (Some (from_sync failover now syncs takes w)) w
finish_sync failover now [] takes w = finish_takes failover now takes w
finish_sync failover now (step ∷ syncs) takes w = tt

finish_freeing : (w : WorkerState) (held : List Held) → IsFinishOk (freeing_chore held) w
finish_freeing w [] = tt
finish_freeing w (h ∷ held) = tt

finish_stopping : (deals : List Deal) (w : WorkerState) (o : Option Known) → find is_giving w.consumers ≡ o
    → AreGood deals w.consumers w.retired → IsFinishOk (stopping_chore w o) w
finish_stopping deals w None e g = finish_freeing w w.held
finish_stopping deals w (Some k) e g =
    let f = finds is_giving k w.consumers (apart_consumers deals w g k.made.tenure) e in
    ap (λ o. consumer_command w o) f.0 ∙ gives_next k.made (stage_of_known k) (counter_of (id_of k) w.held) f.1

pub finish_chore : (deals : List Deal) (failover now : ℕ) (w : WorkerState) (round : Round)
    → AreGood deals w.consumers w.retired → IsFinishOk (chore_from failover now w round) w
finish_chore deals failover now w AtSurvey g = tt
finish_chore deals failover now w (AtSync syncs takes) g = finish_sync failover now syncs takes w
finish_chore deals failover now w (AtTakes takes) g = finish_takes failover now takes w
finish_chore deals failover now w (AtRenewals last) g =
    finish_renewals w (find (λ h. is_past last (id_of_held h) && is_due h now failover) w.held)
finish_chore deals failover now w (AtConsumers last) g =
    finish_consumers w (find (λ k. is_past last (id_of k)) w.consumers)
finish_chore deals failover now w AtStopping g = finish_stopping deals w (find is_giving w.consumers) refl g

pending_consumer : (w : WorkerState) (id : TenancyId) (o : Option Command)
    → consumer_command w (known_of id w.consumers) ≡ o → IsWaitingOk (pending_of (Consuming id) o) w
pending_consumer w id None e = tt
pending_consumer w id (Some asked) e = e

pub pending_ok : (made : WorkerMade) (w : WorkerState) (o : Option Chore) → IsFinishOk o w
    → IsWaitingOk (pending_chore made w o) w
pending_ok made w None f = tt
pending_ok made w (Some Surveying) f = λ u a. (refl, refl)
pending_ok made w (Some (Syncing (Make key origin) syncs takes)) f = λ u a. (refl, refl)
pending_ok made w (Some (Syncing (Cut key counter) syncs takes)) f = λ u a. (refl, refl)
pending_ok made w (Some (Taking step takes)) f = λ u a. (refl, refl)
pending_ok made w (Some (Renewing h)) f = λ u a. (refl, refl)
pending_ok made w (Some (Consuming id)) f = pending_consumer w id (consumer_command w (known_of id w.consumers)) refl
pending_ok made w (Some (Finishing id)) f = f
pending_ok made w (Some (Freeing h)) f = λ u a. (refl, refl)
