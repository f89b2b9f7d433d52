-- After a freeing, all that was given is at or below the checkpoint and isn't read again.
use Rattle.std.proofs.Common.{◌≡◌, ℕ, ◌+◌, ◌≤◌, true, List, [], ◌∷◌, ◌++◌, take, drop, Option, Some, None, refl, sym}
use Rattle.std.proofs.Common.{ap, subst, ◌∙◌, arith, inl, inr}
use Rattle.std.proofs.Common.{append_assoc}
use Rattle.std.specs.Prelude.{◌==◌, map}
use Rattle.std.specs.List.{AllByRecursion}
use Rattle.std.proofs.lemmas.List.{map-append, take-append-drop, take-map}
use Rattle.std.proofs.lemmas.Option.{same_Some}
use Rattle.kds_base.specs.declared.lease_key.Checkpoint.{Checkpoint}
use Rattle.kds_base.specs.declared.lease_key.Checkpoint.TheVariants.{TrimHorizon, At, ShardEnd}
use Rattle.kds_base.proofs.Facts.{is_equal}
use Rattle.kds_defs.specs.declared.command.Turn.{Turn}
use Rattle.kds_defs.specs.declared.reply.Row.{Row}
use Rattle.kds_defs.specs.declared.reply.Stored.{Stored}
use Rattle.kds_defs.specs.Histories.{clock, journal}
use Rattle.kds_defs.specs.Lawful.{IsHistory}
use Rattle.kds_defs.specs.Leases.{ReadDone, TenureState, checkpoint_in, given_reads, row, tenure}
use Rattle.kds_defs.specs.Safe.{IsAmong, RiseFrom, all_numbers}
use Rattle.kcl_laws.proofs.CoverageLemmas.{all_covered}
use Rattle.kcl_laws.proofs.LegalLemmas.{journals}
use Rattle.kcl_defs.specs.declared.consumer.Fetched.{Fetched}
use Rattle.kcl_defs.specs.declared.consumer.Tenancy.{Tenancy}
use Rattle.kcl_defs.specs.declared.consumer.WorkerMade.{WorkerMade}
use Rattle.kcl_defs.specs.Lives.{deals_of, gives_after, gives_in, last_given, reads_after, reads_in, records_in}
use Rattle.kcl_defs.specs.WorkerLives.{AreOfTenure, IsOfTenure, read_done}
use Rattle.kcl_defs.specs.Workers.{stage_of_known}
use Rattle.kcl_defs.proofs.DealLemmas.{new_tenures, of_tenure}
use Rattle.kcl_defs.proofs.GiveLemmas.{AreGivesTaken, gives_taken}
use Rattle.kcl_defs.proofs.GivenLemmas.{last_is, last_of}
use Rattle.kcl_defs.proofs.KnownLemmas.{InStep}
use Rattle.kcl_defs.proofs.FineLemmas.{AreNewTenures}
use Rattle.kcl_hand.specs.Joints.{AreOrderly, AreToldIn, HandOff, IsHandServed, JointPast, hands_after, joint_deals}
use Rattle.kcl_hand.specs.Joints.{known_in, state_of, worker_in}
use Rattle.kcl_hand.specs.Standing.{IsGoing}
use Rattle.kcl_hand.specs.Twice.{IsHandedOffIfFreed, IsMarked, IsNeverReadAgain, IsUpTo}
use Rattle.kcl_hand.proofs.HandLemmas.{IsHandOk, IsMarkedAt, MarkOf, all_ok}
use Rattle.kcl_hand.proofs.Jointly.{all_left}
use Rattle.kcl_hand.proofs.MarkLemmas.{HasMarked, marked_in}
use Rattle.kcl_hand.proofs.ReadLemmas.{read_among, read_once}
use Rattle.kcl_hand.proofs.Serving.{all_served, joint_ok}

-- ---- The greatest of rising numbers is the last one

-- The sequence numbers of the data records.
abbrev numbers : List Stored → List ℕ
numbers rs = map (λ r. r.seq) rs

rise_left : (p : ℕ) (ns ms : List ℕ) → RiseFrom p (ns ++ ms) → RiseFrom p ns
rise_left p [] ms h = tt
rise_left p (n ∷ ns) ms h = (h.0, rise_left (n + 1) ns ms h.1)

up_to_last : (n p q : ℕ) (rs : List Stored) → last_of rs ≡ Some q → RiseFrom p (numbers rs) → IsAmong n (numbers rs)
    → n ≤ q
up_to_last n p q [] is rise among = absurd among
up_to_last n p q (r ∷ []) is rise (inl e) = let s = same_Some r.seq q is in omega arith
up_to_last n p q (r ∷ []) is rise (inr none) = absurd none
up_to_last n p q (r ∷ s ∷ rs) is rise (inl e) =
    omega (arith, e, rise.1.0, up_to_last s.seq (r.seq + 1) q (s ∷ rs) is rise.1 (inl refl))
up_to_last n p q (r ∷ s ∷ rs) is rise (inr among) = up_to_last n (r.seq + 1) q (s ∷ rs) is rise.1 among

no_last : (s : Stored) (rs : List Stored) → last_of (s ∷ rs) ≡ None → ⊥
no_last s [] is = cc
no_last s (t ∷ rs) is = no_last t rs is

none_last : (n : ℕ) (rs : List Stored) → last_of rs ≡ None → IsAmong n (numbers rs) → ⊥
none_last n [] is among = among
none_last n (r ∷ rs) is among = no_last r rs is

-- ---- The given reads of a tenure, in terms of the record of its consumer

numbers-append : (rs ss : List ReadDone) → all_numbers (rs ++ ss) ≡ all_numbers rs ++ all_numbers ss
numbers-append [] ss = refl
numbers-append (r ∷ rs) ss = ap (λ ns. r.numbers ++ ns) (numbers-append rs ss)
    ∙ sym (append_assoc r.numbers (all_numbers rs) (all_numbers ss))

numbers_done : (fs : List Fetched) → all_numbers (map read_done fs) ≡ numbers (records_in fs)
numbers_done [] = refl
numbers_done (f ∷ fs) = ap (λ ns. numbers f.batch ++ ns) (numbers_done fs)
    ∙ sym (map-append (λ r. r.seq) f.batch (records_in fs))

rise_given : (T : TenureState) → RiseFrom 0 (all_numbers T.reads) → RiseFrom 0 (all_numbers (given_reads T))
rise_given T rise =
    rise_left 0 (all_numbers (given_reads T)) (all_numbers (drop T.given T.reads))
    (subst (RiseFrom 0) (ap all_numbers (sym (take-append-drop T.given T.reads))
    ∙ numbers-append (given_reads T) (drop T.given T.reads)) rise)

-- ---- What was given is marked

less_up : (n q : ℕ) (c : Checkpoint) → n ≤ q → IsUpTo q c → IsUpTo n c
less_up n q TrimHorizon le up = up
less_up n q (At k) le up = omega arith
less_up n q ShardEnd le up = tt

by_last : (actor : ℕ) (h : List Turn) → IsHistory h
    → (x : HandOff) (T : TenureState) (r : Row) (rs : List Stored) (n : ℕ) (last : Option ℕ) → last_of rs ≡ last
    → x.held.tenure ≡ x.made.tenure → tenure (journal h) x.made.tenure ≡ Some T → row (journal h) T.key ≡ Some r
    → IsMarkedAt x (deals_of actor h) last → RiseFrom 0 (numbers rs) → IsAmong n (numbers rs) → IsUpTo n r.checkpoint
by_last actor h lawful x T r rs n None is lease begun there marked rise among = absurd (none_last n rs is among)
by_last actor h lawful x T r rs n (Some q) is lease begun there marked rise among =
    let m : HasMarked (journal h) x.held.tenure q = marked_in actor h lawful x.held.tenure x.held.counter q marked in
    let same : m.state ≡ T = same_Some m.state T (sym m.begun ∙ ap (tenure (journal h)) lease ∙ begun) in
    less_up n q r.checkpoint (up_to_last n 0 q rs is rise among)
    (m.up r (ap (λ (S : TenureState). row (journal h) S.key) same ∙ there))

one_marked : (actor : ℕ) (h : List Turn) → IsHistory h → (x : HandOff) → InStep (deals_of actor h) (known_in x)
    → x.held.tenure ≡ x.made.tenure → IsMarkedAt x (deals_of actor h) (last_given x.made (state_of x).past)
    → (T : TenureState) (r : Row) → tenure (journal h) x.made.tenure ≡ Some T → (T.by == actor) ≡ true
    → row (journal h) T.key ≡ Some r → IsMarked T r.checkpoint
one_marked actor h lawful x step lease marked T r begun own there = λ n is_given.
    let t = x.made.tenure in
    let past = (state_of x).past in
    let fs = take (gives_after x.made past) (reads_after x.made past) in
    let o : AreOfTenure actor h t T = of_tenure actor h t T begun own in
    let reads : given_reads T ≡ map read_done fs =
    (λ i. take (sym o.gives i) (sym o.reads i))
    ∙ take-map read_done (gives_in t (deals_of actor h)) (reads_in t (deals_of actor h))
    ∙ (λ i. map read_done (take (step.gives i) (step.reads i))) in
    let done : all_numbers (given_reads T) ≡ numbers (records_in fs) = ap all_numbers reads ∙ numbers_done fs in
    let j = journals h lawful in
    let rise = rise_given T ((all_covered (journal h) j.legal (clock h) j.order).reads_rise t T begun) in
    by_last actor h lawful x T r (records_in fs) n (last_given x.made past) (sym (last_is (records_in fs)))
    lease begun there marked
    (subst (RiseFrom 0) done rise) (subst (IsAmong n) done (read_among n (given_reads T) is_given))

own_tenure : (actor : ℕ) (h : List Turn) (made : Tenancy) (T : TenureState) → tenure (journal h) made.tenure ≡ Some T
    → IsOfTenure actor h made → (T.by == actor) ≡ true
own_tenure actor h made T begun is_of =
    is_equal T.by actor (ap (λ (S : TenureState). S.by) (same_Some T is_of.state (sym begun ∙ is_of.begun)) ∙ is_of.own)

one_handed : (actor : ℕ) (h : List Turn) → IsHistory h → (x : HandOff) → IsHandOk (deals_of actor h) x
    → InStep (deals_of actor h) (known_in x) → IsHandServed actor h x → IsHandedOffIfFreed actor h x
one_handed actor h lawful x ok step served = λ counter ended. record {
  whole = served.whole (subst (λ s. IsGoing s (stage_of_known (known_in x))) ended ok.going);
  marked = λ T r begun there.
      one_marked actor h lawful x step ok.lease
      (subst (MarkOf x (deals_of actor h) (last_given x.made (state_of x).past)) ended ok.mark)
      T r begun (own_tenure actor h x.made T begun served.calls.0) there;
}

each_handed : (actor : ℕ) (h : List Turn) → IsHistory h → (xs : List HandOff)
    → AllByRecursion (IsHandOk (deals_of actor h)) xs → AllByRecursion (InStep (deals_of actor h)) (map known_in xs)
    → AllByRecursion (IsHandServed actor h) xs → AllByRecursion (IsHandedOffIfFreed actor h) xs
each_handed actor h lawful [] ok steps served = tt
each_handed actor h lawful (x ∷ xs) ok steps served =
    (one_handed actor h lawful x ok.0 steps.0 served.0, each_handed actor h lawful xs ok.1 steps.1 served.1)

pub all_handed : (actor : ℕ) (h : List Turn) (made : WorkerMade) (past : JointPast) → IsHistory h → AreOrderly made past
    → AreToldIn actor h made past → AllByRecursion (IsHandedOffIfFreed actor h) (hands_after made past)
all_handed actor h made past lawful orderly is_told =
    let ok = joint_ok made past orderly (subst AreNewTenures is_told (new_tenures actor h))
    (subst AreGivesTaken is_told (gives_taken actor h)) in
    let steps = all_left (InStep (joint_deals made past)) (map known_in (hands_after made past))
    (worker_in made past).retired ok.fine.good.over in
    each_handed actor h lawful (hands_after made past)
    (subst (λ deals. AllByRecursion (IsHandOk deals) (hands_after made past)) (sym is_told) (all_ok made past orderly))
    (subst (λ deals. AllByRecursion (InStep deals) (map known_in (hands_after made past))) (sym is_told) steps)
    (all_served actor h made past orderly is_told).handed

-- ---- A later tenure

one_again : (actor : ℕ) (h old : List Turn) → IsHistory h → (x : HandOff) → IsHandedOffIfFreed actor old x
    → IsNeverReadAgain actor h old x
one_again actor h old lawful x handed = λ counter ended u T U begun later same.
    let off = handed counter ended in
    let here : row (journal old) T.key ≡ Some later.taken = ap (row (journal old)) same ∙ later.there in
    let marked = off.marked T later.taken begun here in
    let P : Checkpoint → Type 0 = λ c. IsMarked T c in
    read_once h lawful x.made.tenure u T U (record {
      begun = later.begun;
      began = later.began;
      before = ap (λ log. tenure log x.made.tenure) later.lines ∙ begun;
      after = later.after;
      of_key = same;
      marked = subst P (sym (ap (λ log. checkpoint_in (row log T.key)) later.lines ∙ ap checkpoint_in here)) marked;
    })

each_again : (actor : ℕ) (h old : List Turn) → IsHistory h → (xs : List HandOff)
    → AllByRecursion (IsHandedOffIfFreed actor old) xs → AllByRecursion (IsNeverReadAgain actor h old) xs
each_again actor h old lawful [] all = tt
each_again actor h old lawful (x ∷ xs) all =
    (one_again actor h old lawful x all.0, each_again actor h old lawful xs all.1)

pub all_again : (actor : ℕ) (h old : List Turn) (made : WorkerMade) (past : JointPast) → IsHistory h → IsHistory old
    → AreOrderly made past → AreToldIn actor old made past
    → AllByRecursion (IsNeverReadAgain actor h old) (hands_after made past)
all_again actor h old made past lawful first orderly is_told =
    each_again actor h old lawful (hands_after made past) (all_handed actor old made past first orderly is_told)
