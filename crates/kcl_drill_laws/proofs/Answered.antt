-- The answers to the commands of a tenure that has come as far as `x` says and holds its row (`Holds`).
use Rattle.std.proofs.Common.{◌≡◌, ℕ, ◌+◌, ◌-◌, ◌<◌, true, false, List, [], ◌∷◌, length, suc, Some, refl, sym, ap, ◌∙◌}
use Rattle.std.proofs.Common.{arith}
use Rattle.std.specs.Prelude.{◌==◌, ◌||◌, not, nat_le, nat_lt}
use Rattle.std.proofs.lemmas.Bool.Decides.{nat_tests}
use Rattle.std.proofs.lemmas.Bool.{or_from}
use Rattle.std.proofs.lemmas.List.{length-drop}
use Rattle.kds_base.specs.declared.lease_key.ShardRef.{ShardRef}
use Rattle.kds_defs.specs.declared.command.Target.{Target}
use Rattle.kds_defs.specs.declared.command.Target.TheVariants as target
use Rattle.kds_defs.specs.declared.limits.TheConstants.{PENDING_READS}
use Rattle.kds_defs.specs.declared.reply.Refusal.TheVariants as refusal
use Rattle.kds_defs.specs.declared.reply.Reply.TheVariants as reply
use Rattle.kds_defs.specs.declared.reply.Row.{Row}
use Rattle.kds_defs.specs.Decision.{Decision, Accepted}
use Rattle.kds_defs.specs.Journal.{Journal}
use Rattle.kds_defs.specs.Keys.{is_listed_key}
use Rattle.kds_defs.specs.LeaseCommands.{with_tenure, with_held, take_lease, open_shard, read, read_reply, give, mark}
use Rattle.kds_defs.specs.RowWrites.{least}
use Rattle.kds_defs.specs.Leases.{TenureState, ReadDone, row, tenure, tenure_in, counter_in, checkpoint_in, floor_in}
use Rattle.kds_defs.specs.Leases.{is_marked_to_end, reach, delivered, pending, given_reads, last_ended, is_end}
use Rattle.kds_defs.specs.Leases.{taken_count}
use Rattle.kds_defs.specs.Records.{batch, numbers_of, position_after}
use Rattle.kds_defs.specs.StreamCommands.{last_number}
use Rattle.kds_defs.proofs.Decisions.{passed_if, with_some}
use Rattle.kcl_drill_laws.specs.Holding.{ArePast, HasCome, HasRow, Holding, Holds, MayMark, MayTake, given_line}
use Rattle.kcl_drill_laws.specs.Holding.{marked_line, opened_line, read_here, taken_line}
use Rattle.kcl_drill_laws.proofs.Come.{begun_row, begun_tenure, given_position}
use Rattle.kcl_laws.proofs.FenceLemmas.{same_test}

-- ---- Tests in the decisions

few_wait : (n : ℕ) → n < 8 → nat_le 8 n ≡ false
few_wait n below = grind (arith, nat_tests)

some_wait : (n m : ℕ) → n ≡ suc m → (n == 0) ≡ false
some_wait n m is = grind (arith, nat_tests)

waiting_is : (log : Journal) (x : Holding) → (has : HasCome log x) → pending has.state ≡ length x.waiting
waiting_is log x has = sym (length-drop has.state.given has.state.reads) ∙ ap length has.waits

-- ---- The tests whether the tenure is the actor's, and whether the row names it

own_tenure : (log : Journal) (x : Holding) (next : TenureState → Decision) → (has : HasCome log x)
    → with_tenure log x.by x.tenure next ≡ next has.state
own_tenure log x next has = with_some (tenure log x.tenure) refusal.NoTenure _ has.state has.begun
    ∙ passed_if refusal.NotYours _ (next has.state) (same_test has.state.by x.by has.own)

row_of : (log : Journal) (x : Holding) → (held : HasRow log x) (T : TenureState) → T.key ≡ x.key
    → row log T.key ≡ Some held.now
row_of log x held T is = ap (row log) is ∙ held.there

own_held : (log : Journal) (x : Holding) (next : TenureState → Decision) → (has : HasCome log x) → HasRow log x
    → with_held log x.by x.tenure next ≡ next has.state
own_held log x next has held =
    own_tenure log x _ has
    ∙ passed_if (refusal.Lost (tenure_in (row log has.state.key))) _ (next has.state)
    (same_test (tenure_in (row log has.state.key)) x.tenure (ap tenure_in (row_of log x held has.state has.of_key)
    ∙ held.of_tenure))

-- ---- A Read, a Give and a Mark

pub read_answered : (log : Journal) (c limit : ℕ) (x : Holding) → Holds log x → length x.waiting < PENDING_READS
    → is_listed_key log c x.key ≡ true → read log c x.by x.tenure x.position limit ≡ read_here log c x limit
read_answered log c limit x holds few listed =
    let has = holds.tenure in
    let T = has.state in
    own_tenure log x _ has
    ∙ passed_if refusal.NotOpened (not T.opened) _ (ap not has.opened)
    ∙ passed_if refusal.ShardGone (not (is_listed_key log c T.key)) _ (ap (λ k. not (is_listed_key log c k)) has.of_key
    ∙ ap not listed)
    ∙ passed_if refusal.TooManyPending (nat_le 8 (pending T)) _ (ap (nat_le 8) (waiting_is log x has)
    ∙ few_wait (length x.waiting) few)
    ∙ passed_if (refusal.OutOfPlace (reach T)) (not (x.position == reach T)) _
    (same_test x.position (reach T) (sym has.up_to))
    ∙ ap (λ p. read_reply log c x.by x.tenure limit T.key (batch log c T.key.stream T.key.shard p limit)
    (position_after p (numbers_of (batch log c T.key.stream T.key.shard p limit)))) has.up_to
    ∙ ap (λ k. read_reply log c x.by x.tenure limit k (batch log c k.stream k.shard x.position limit)
    (position_after x.position (numbers_of (batch log c k.stream k.shard x.position limit)))) has.of_key

pub give_answered : (log : Journal) (c : ℕ) (x : Holding) (r : ReadDone) (rest : List ReadDone) → Holds log x
    → x.waiting ≡ r ∷ rest
    → give log c x.by x.tenure ≡ Accepted (given_line c x ∷ []) (reply.Given (position_after x.done r.numbers))
give_answered log c x r rest holds first =
    let has = holds.tenure in
    own_tenure log x _ has
    ∙ passed_if refusal.NothingPending (pending has.state == 0) _
    (some_wait (pending has.state) (length rest) (waiting_is log x has ∙ ap length first))
    ∙ ap (λ p. Accepted (given_line c x ∷ []) (reply.Given p)) (given_position has.state r rest (has.waits ∙ first)
    ∙ ap (λ p. position_after p r.numbers) has.given_to)

pub mark_answered : (log : Journal) (c : ℕ) (x : Holding) (goal : Target) → Holds log x → MayMark x goal
    → (x.counter == last_number) ≡ false
    → mark log c x.by x.tenure x.counter goal ≡ Accepted (marked_line c x goal ∷ []) (reply.Counter (x.counter + 1))
mark_answered log c x (target.At q) holds may rest =
    let has = holds.tenure in
    let held = holds.row in
    let T = has.state in
    let is_at = row_of log x held T has.of_key in
    let n : counter_in (row log T.key) ≡ x.counter = ap counter_in is_at ∙ held.counted in
    let k : checkpoint_in (row log T.key) ≡ x.checkpoint = ap checkpoint_in is_at ∙ held.checkpoint in
    let f : floor_in (row log T.key) ≡ x.floor = ap floor_in is_at ∙ held.floor in
    own_held log x _ has held
    ∙ passed_if (refusal.Moved (counter_in (row log T.key))) (not (counter_in (row log T.key) == x.counter)) _
    (same_test (counter_in (row log T.key)) x.counter n)
    ∙ passed_if refusal.Ended (is_marked_to_end (row log T.key)) _ (ap is_marked_to_end is_at
    ∙ ap is_end held.checkpoint
    ∙ may.0)
    ∙ passed_if (refusal.Beyond (delivered T)) (nat_le (delivered T) q) _ (ap (λ p. nat_le p q) has.given_to ∙ may.1)
    ∙ passed_if (refusal.Below (least (checkpoint_in (row log T.key)) (floor_in (row log T.key))))
    (nat_lt q (least (checkpoint_in (row log T.key)) (floor_in (row log T.key)))) _
    (ap (λ a. nat_lt q (least a (floor_in (row log T.key)))) k ∙ ap (λ b. nat_lt q (least x.checkpoint b)) f ∙ may.2)
    ∙ passed_if refusal.Spent (counter_in (row log T.key) == last_number) _ (ap (λ m. m == last_number) n ∙ rest)
mark_answered log c x target.End holds may rest =
    let has = holds.tenure in
    let held = holds.row in
    let T = has.state in
    let n : counter_in (row log T.key) ≡ x.counter = ap counter_in (row_of log x held T has.of_key) ∙ held.counted in
    own_held log x _ has held
    ∙ passed_if (refusal.Moved (counter_in (row log T.key))) (not (counter_in (row log T.key) == x.counter)) _
    (same_test (counter_in (row log T.key)) x.counter n)
    ∙ passed_if refusal.NotAtEnd (not (last_ended (given_reads T))) _ (ap not (has.last ∙ may))
    ∙ passed_if refusal.Spent (counter_in (row log T.key) == last_number) _ (ap (λ m. m == last_number) n ∙ rest)

-- ---- A Take, and the OpenShard after it

pub take_answered : (log : Journal) (c actor owner : ℕ) (key : ShardRef) (r : Row) → row log key ≡ Some r
    → MayTake log r
    → take_lease log c actor key r.counter owner
    ≡ Accepted (taken_line log c actor key r owner ∷ [])
    (reply.Taken (taken_count log + 1) (r.counter + 1) r.checkpoint)
take_answered log c actor owner key r there may =
    with_some (row log key) refusal.NoLease _ r there
    ∙ passed_if (refusal.Moved r.counter) (not (r.counter == r.counter)) _ (same_test r.counter r.counter refl)
    ∙ passed_if refusal.Ended (is_end r.checkpoint) _ may.0
    ∙ passed_if refusal.Spent (r.counter == last_number || taken_count log == last_number) _
    (or_from (r.counter == last_number) (taken_count log == last_number) may.1 may.2)

pub open_answered : (log : Journal) (c d actor owner : ℕ) (key : ShardRef) (r : Row) → row log key ≡ Some r
    → is_listed_key (taken_line log d actor key r owner ∷ log) c key ≡ true
    → ArePast (taken_line log d actor key r owner ∷ log) c key
    → open_shard (taken_line log d actor key r owner ∷ log) c actor (taken_count log + 1)
    ≡ Accepted (opened_line log c actor ∷ []) reply.Done
open_answered log c d actor owner key r there listed past =
    let now = taken_line log d actor key r owner ∷ log in
    let t = taken_count log + 1 in
    with_some (tenure now t) refusal.NoTenure _ _ (begun_tenure log d actor owner key r there)
    ∙ passed_if refusal.NotYours (not (actor == actor)) _ (same_test actor actor refl)
    ∙ passed_if (refusal.Lost (tenure_in (row now key))) (not (tenure_in (row now key) == t)) _
    (same_test (tenure_in (row now key)) t (ap tenure_in (begun_row log d actor owner key r there)))
    ∙ passed_if refusal.OpenedBefore false _ refl
    ∙ passed_if refusal.ShardGone (not (is_listed_key now c key)) _ (ap not listed)
    ∙ past _
