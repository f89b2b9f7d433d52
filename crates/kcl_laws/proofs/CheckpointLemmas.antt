-- A checkpoint of a row with the origin trim horizon is at most the sequence number of some record of the shard.
use Rattle.std.proofs.Common.{◌≡◌, ℕ, zero, suc, ◌+◌, ◌-◌, ◌≤◌, Bool, true, false, List, [], ◌∷◌, ◌++◌, length, take}
use Rattle.std.proofs.Common.{Option, Some, None, refl, sym, ap, subst, ◌∙◌, arith, inl, inr}
use Rattle.std.specs.Prelude.{◌⊎◌, nat_le, if◌then◌else◌}
use Rattle.std.specs.List.{AllByRecursion}
use Rattle.std.proofs.lemmas.Option.{same_Some}
use Rattle.kds_base.specs.declared.lease_key.Checkpoint.{Checkpoint}
use Rattle.kds_base.specs.declared.lease_key.Checkpoint.TheVariants.{TrimHorizon, At}
use Rattle.kds_base.specs.declared.lease_key.ShardRef.{ShardRef}
use Rattle.kds_base.proofs.Facts.{all_weaker, all_filter}
use Rattle.kds_defs.specs.declared.command.Origin.TheVariants as origin
use Rattle.kds_defs.specs.declared.command.Target.{Target}
use Rattle.kds_defs.specs.declared.command.Target.TheVariants as target
use Rattle.kds_defs.specs.declared.reply.Row.{Row}
use Rattle.kds_defs.specs.Decision.{Accepted}
use Rattle.kds_defs.specs.Journal.{Line, Journal}
use Rattle.kds_defs.specs.Leases.{TenureState, ReadDone, tenure, row, origin_of, origin_after, checkpoint_in}
use Rattle.kds_defs.specs.Leases.{start_position}
use Rattle.kds_defs.specs.Leases.{position_after_reads, reach, delivered, checkpoint_at, new_tenure, with_opened}
use Rattle.kds_defs.specs.Leases.{with_read, with_given}
use Rattle.kds_defs.specs.Legal.{IsLegal, told}
use Rattle.kds_defs.specs.Origins.{floor_from, start_from}
use Rattle.kds_defs.specs.Shards.{shard_at, start_of}
use Rattle.kds_defs.specs.Records.{Logged, records, numbers_of, position_after, batch, beginning, is_left, left_among}
use Rattle.kds_defs.specs.Records.{left_from}
use Rattle.kds_defs.specs.Streams.{is_live, trim_floor}
use Rattle.kds_defs.specs.declared.limits.TheConstants.{BATCH_BYTES}
use Rattle.kcl_laws.specs.Recorded.{HasFrom}
use Rattle.kcl_laws.proofs.Batches.{RecordsStep, SameRecords, NewRecord, records_step}
use Rattle.kcl_laws.proofs.CoverageLemmas.{TargetOk, read_told, mark_told, take_told}
use Rattle.kcl_laws.proofs.DeliveryLemmas.{row_made, same_self, tenure_made}
use Rattle.kcl_laws.proofs.StartLemmas.{origin_before, begins_shard}
use Rattle.kcl_laws.proofs.Steps.{TenureStep, Begun, Same, Opening, Reading, Giving, tenure_step, tenure_key, RowStep}
use Rattle.kcl_laws.proofs.Steps.{NewRow, SameCheckpoint, MarkedRow, row_step}

-- ---- Positions that aren't beyond the records of a shard

-- The position isn't beyond all records: it is 0, or at most one above the sequence number of one of them.
abbrev pub IsReached : ℕ → List Logged → Type 0
IsReached position [] = position ≡ 0
IsReached position (r ∷ rs) = (position ≤ r.seq + 1) ⊎ IsReached position rs

reached_none : (rs : List Logged) → IsReached 0 rs
reached_none [] = refl
reached_none (r ∷ rs) = inl (omega arith)

reached_more : (position : ℕ) (rs : List Logged) (r : Logged) → IsReached position rs
    → IsReached position (rs ++ r ∷ [])
reached_more position [] r is = inl (omega arith)
reached_more position (x ∷ rs) r (inl is) = inl is
reached_more position (x ∷ rs) r (inr is) = inr (reached_more position rs r is)

reached_below : (position less : ℕ) (rs : List Logged) → less ≤ position → IsReached position rs → IsReached less rs
reached_below position less [] le is = omega arith
reached_below position less (r ∷ rs) le (inl is) = inl (omega arith)
reached_below position less (r ∷ rs) le (inr is) = inr (reached_below position less rs le is)

-- ---- Positions stay reached as records come

stays_by : (log : Journal) (line : Line) (s sh position : ℕ) → RecordsStep log line s sh
    → IsReached position (records log s sh) → IsReached position (records (line ∷ log) s sh)
stays_by log line s sh position (SameRecords is) h = subst (IsReached position) (sym is) h
stays_by log line s sh position (NewRecord r x is seq next there open_now) h =
    subst (IsReached position) (sym is) (reached_more position (records log s sh) r h)

reached_stays : (log : Journal) (line : Line) → IsLegal (line ∷ log) → (s sh position : ℕ)
    → IsReached position (records log s sh) → IsReached position (records (line ∷ log) s sh)
reached_stays log line legal s sh position h = stays_by log line s sh position (records_step log line legal s sh) h

-- ---- A batch reaches no further than its records

all_begun : (limit room : ℕ) (P : Logged → Type 0) (rs : List Logged) → AllByRecursion P rs
    → AllByRecursion P (beginning limit room rs)
all_begun zero room P rs are = tt
all_begun (suc limit) room P [] are = tt
all_begun (suc limit) room P (r ∷ rs) are = either (nat_le r.bytes room) (all_begun limit (room - r.bytes) P rs are.1)
  where
    either : (b : Bool) → AllByRecursion P (beginning limit (room - r.bytes) rs)
        → AllByRecursion P (if b then r ∷ beginning limit (room - r.bytes) rs else [])
    either true rest = (are.0, rest)
    either false rest = tt

all_reached : (rs : List Logged) → AllByRecursion (λ (r : Logged). IsReached (r.seq + 1) rs) rs
all_reached [] = tt
all_reached (r ∷ rs) = (
  inl (omega arith),
  all_weaker (λ (x : Logged). IsReached (x.seq + 1) rs) (λ (x : Logged).
      IsReached (x.seq + 1) (r ∷ rs)) (λ x is. inr is) rs (all_reached rs),
)

left_reached : (log : Journal) (c s sh position : ℕ)
    → AllByRecursion (λ (r : Logged). IsReached (r.seq + 1) (records log s sh)) (left_from log c s sh position)
left_reached log c s sh position = either (is_live log s)
  where
    either : (b : Bool) → AllByRecursion (λ (r : Logged). IsReached (r.seq + 1) (records log s sh))
        (if b then left_among (trim_floor log c s) position (records log s sh) else [])
    either true = all_filter (λ (r : Logged).
        IsReached (r.seq + 1) (records log s sh)) (is_left (trim_floor log c s) position) (records log s sh)
        (all_reached (records log s sh))
    either false = tt

position_reached : (position : ℕ) (all bs : List Logged) → IsReached position all
    → AllByRecursion (λ (r : Logged). IsReached (r.seq + 1) all) bs
    → IsReached (position_after position (numbers_of bs)) all
position_reached position all [] is_at are = is_at
position_reached position all (r ∷ bs) is_at are = position_reached (r.seq + 1) all bs are.0 are.1

batch_reached : (log : Journal) (c s sh position limit : ℕ) → IsReached position (records log s sh)
    → IsReached (position_after position (numbers_of (batch log c s sh position limit))) (records log s sh)
batch_reached log c s sh position limit is_at =
    position_reached position (records log s sh) (batch log c s sh position limit) is_at
    (all_begun limit BATCH_BYTES (λ (r : Logged). IsReached (r.seq + 1) (records log s sh))
    (left_from log c s sh position)
    (left_reached log c s sh position))

-- ---- Tenures and rows

AreReached : Journal → TenureState → Type 0
AreReached log T = (i : ℕ)
    → IsReached (position_after_reads (start_position T.start) (take i T.reads)) (records log T.key.stream T.key.shard)

pub positions_append : (p : ℕ) (rs : List ReadDone) (r : ReadDone)
    → position_after_reads p (rs ++ r ∷ []) ≡ position_after (position_after_reads p rs) r.numbers
positions_append p [] r = refl
positions_append p (q ∷ rs) r = positions_append (position_after p q.numbers) rs r

take_snoc : (i : ℕ) (rs : List ReadDone) (r : ReadDone) → (take i (rs ++ r ∷ []) ≡ take i rs)
    ⊎ (take i (rs ++ r ∷ []) ≡ rs ++ r ∷ [])
take_snoc zero rs r = inl (both rs)
  where
    both : (rs : List ReadDone) → take 0 (rs ++ r ∷ []) ≡ take 0 rs
    both [] = refl
    both (x ∷ rs) = refl
take_snoc (suc i) [] r = inr (one i)
  where
    one : (i : ℕ) → r ∷ take i [] ≡ r ∷ []
    one zero = refl
    one (suc i) = refl
take_snoc (suc i) (x ∷ rs) r = either (take_snoc i rs r)
  where
    either : (take i (rs ++ r ∷ []) ≡ take i rs) ⊎ (take i (rs ++ r ∷ []) ≡ rs ++ r ∷ [])
        → (x ∷ take i (rs ++ r ∷ []) ≡ x ∷ take i rs) ⊎ (x ∷ take i (rs ++ r ∷ []) ≡ x ∷ (rs ++ r ∷ []))
    either (inl is) = inl (ap (λ xs. x ∷ xs) is)
    either (inr is) = inr (ap (λ xs. x ∷ xs) is)

take_all : (rs : List ReadDone) → take (length rs) rs ≡ rs
take_all [] = refl
take_all (r ∷ rs) = ap (λ xs. r ∷ xs) (take_all rs)

read_reached : (log : Journal) (c limit : ℕ) (T : TenureState) (numbers : List ℕ) (ended : Bool)
    → numbers ≡ numbers_of (batch log c T.key.stream T.key.shard (reach T) limit) → AreReached log T
    → AreReached log (with_read numbers ended T)
unfolding AreReached
read_reached log c limit T numbers ended is is_at i = either (take_snoc i T.reads r)
  where
    r : ReadDone
    r = record { numbers = numbers; ended = ended }

    all : List Logged
    all = records log T.key.stream T.key.shard

    p : ℕ
    p = start_position T.start

    whole : IsReached (reach T) all
    whole = subst (λ rs. IsReached (position_after_reads p rs) all) (take_all T.reads) (is_at (length T.reads))

    either : (take i (T.reads ++ r ∷ []) ≡ take i T.reads) ⊎ (take i (T.reads ++ r ∷ []) ≡ T.reads ++ r ∷ [])
        → IsReached (position_after_reads p (take i (T.reads ++ r ∷ []))) all
    either (inl same) = subst (λ rs. IsReached (position_after_reads p rs) all) (sym same) (is_at i)
    either (inr same) =
        subst (λ rs. IsReached (position_after_reads p rs) all) (sym same)
        (subst (λ n. IsReached n all) (sym (positions_append p T.reads r))
        (subst (λ ns. IsReached (position_after (reach T) ns) all) (sym is)
        (batch_reached log c T.key.stream T.key.shard (reach T) limit whole)))

RowReached : Journal → ShardRef → Checkpoint → Type 0
RowReached log key checkpoint = IsReached (start_position checkpoint) (records log key.stream key.shard)

-- The positions of rows and tenures with the origin trim horizon aren't beyond all records of their shards.
record AllReached (log : Journal) : Type 0 where
  rows : (key : ShardRef) (r : Row) → row log key ≡ Some r → origin_of log key ≡ Some origin.TrimHorizon
      → RowReached log key r.checkpoint
  tenures : (t : ℕ) (T : TenureState) → tenure log t ≡ Some T → origin_of log T.key ≡ Some origin.TrimHorizon
      → AreReached log T

tenure_stays : (log : Journal) (line : Line) (T : TenureState) → IsLegal (line ∷ log) → AreReached log T
    → AreReached (line ∷ log) T
unfolding AreReached
tenure_stays log line T legal is_at i = reached_stays log line legal T.key.stream T.key.shard _ (is_at i)

row_stays : (log : Journal) (line : Line) (key : ShardRef) (checkpoint : Checkpoint) → IsLegal (line ∷ log)
    → RowReached log key checkpoint → RowReached (line ∷ log) key checkpoint
unfolding RowReached
row_stays log line key checkpoint legal is_at = reached_stays log line legal key.stream key.shard _ is_at

begun_reached : (log : Journal) (actor : ℕ) (key : ShardRef) (o : Option Row) → row log key ≡ o
    → origin_of log key ≡ Some origin.TrimHorizon → AllReached log
    → AreReached log (new_tenure actor key (checkpoint_in o))
unfolding AreReached RowReached
begun_reached log actor key None is is_from all zero = reached_none (records log key.stream key.shard)
begun_reached log actor key None is is_from all (suc i) = reached_none (records log key.stream key.shard)
begun_reached log actor key (Some r) is is_from all zero = all.rows key r is is_from
begun_reached log actor key (Some r) is is_from all (suc i) = all.rows key r is is_from

opened_reached : (log : Journal) (T : TenureState) → AreReached log T → AreReached log (with_opened T)
unfolding AreReached
opened_reached log T is_at = is_at

given_reached : (log : Journal) (T : TenureState) → AreReached log T → AreReached log (with_given T)
unfolding AreReached
given_reached log T is_at = is_at

before_reached : (log : Journal) (line : Line) → IsLegal (line ∷ log) → AllReached log → (t : ℕ) (S T : TenureState)
    → tenure log t ≡ Some S → T.key ≡ S.key → origin_of (line ∷ log) T.key ≡ Some origin.TrimHorizon → AreReached log S
before_reached log line legal all t S T is same is_from =
    let here = subst (λ k. origin_of (line ∷ log) k ≡ Some origin.TrimHorizon) same is_from in
    all.tenures t S is (origin_before log line legal line.what S.key _ refl (tenure_made log legal.1 t S is) here)

tenure_after_line : (log : Journal) (line : Line) → IsLegal (line ∷ log) → AllReached log → (t : ℕ) (T : TenureState)
    → TenureStep log line t T → origin_of (line ∷ log) T.key ≡ Some origin.TrimHorizon → AreReached log T
tenure_after_line log line legal all t T (Begun key number counter owner is new state) is_from =
    let allowed = subst (λ e. told log line e ≡ Accepted (line ∷ []) legal.0.reply) is legal.0.allowed in
    let f = take_told log line key number counter owner legal.0.reply allowed in
    let here = subst (λ k. origin_of (line ∷ log) k ≡ Some origin.TrimHorizon) (ap (λ (U : TenureState). U.key) state)
    is_from in
    let old = origin_before log line legal line.what key _ refl (row_made log key f.state f.there) here in
    subst (AreReached log) (sym state) (begun_reached log line.by key (row log key) refl old all)
tenure_after_line log line legal all t T (Same is) is_from = before_reached log line legal all t T T is refl is_from
tenure_after_line log line legal all t T (Opening earlier is moment new) is_from =
    subst (AreReached log) (sym new)
    (opened_reached log earlier
    (before_reached log line legal all t earlier T moment (ap (λ (U : TenureState). U.key) new) is_from))
tenure_after_line log line legal all t T (Reading earlier limit ended numbers is moment new) is_from =
    let allowed = subst (λ e. told log line e ≡ Accepted (line ∷ []) legal.0.reply) is legal.0.allowed in
    let f = read_told log line t limit ended numbers legal.0.reply is allowed in
    let same : f.state ≡ earlier = same_Some f.state earlier (sym f.begun ∙ moment) in
    let ns = f.numbers_are
    ∙ ap (λ (S : TenureState). numbers_of (batch log line.clock S.key.stream S.key.shard (reach S) limit)) same in
    let old = before_reached log line legal all t earlier T moment (ap (λ (U : TenureState). U.key) new) is_from in
    subst (AreReached log) (sym new) (read_reached log line.clock limit earlier numbers ended ns old)
tenure_after_line log line legal all t T (Giving earlier is moment new) is_from =
    subst (AreReached log) (sym new)
    (given_reached log earlier
    (before_reached log line legal all t earlier T moment (ap (λ (U : TenureState). U.key) new) is_from))

marked_reached : (log : Journal) (T : TenureState) (goal : Target) → TargetOk T goal → AreReached log T
    → RowReached log T.key (checkpoint_at goal)
unfolding AreReached RowReached
marked_reached log T (target.At q) below is_at =
    reached_below (delivered T) (q + 1) (records log T.key.stream T.key.shard) (omega arith) (is_at T.given)
marked_reached log T target.End below is_at = reached_none (records log T.key.stream T.key.shard)

row_after_line : (log : Journal) (line : Line) → IsLegal (line ∷ log) → AllReached log → (key : ShardRef) (r : Row)
    → RowStep log line key r → origin_of (line ∷ log) key ≡ Some origin.TrimHorizon → RowReached log key r.checkpoint
unfolding RowReached
row_after_line log line legal all key r (NewRow first is floor start) h =
    let here = ap (λ e. origin_after e key (origin_of log key)) is
    ∙ ap (λ b. if b then Some first else origin_of log key) (same_self key.stream key.shard) in
    let horizon = same_Some first origin.TrimHorizon (sym here ∙ h) in
    let begins : r.checkpoint ≡ TrimHorizon =
    start ∙ ap (λ o. start_from o (floor_from log line.clock key first)) horizon in
    subst (λ c. IsReached (start_position c) (records log key.stream key.shard)) (sym begins)
    (reached_none (records log key.stream key.shard))
row_after_line log line legal all key r (SameCheckpoint earlier there floor same) h =
    let old = origin_before log line legal line.what key _ refl (row_made log key earlier there) h in
    subst (λ c. IsReached (start_position c) (records log key.stream key.shard)) (sym same)
    (all.rows key earlier there old)
row_after_line log line legal all key r (MarkedRow earlier t counter goal is is_of there floor marked) h =
    let old = origin_before log line legal line.what key _ refl (row_made log key earlier there) h in
    let allowed = subst (λ e. told log line e ≡ Accepted (line ∷ []) legal.0.reply) is legal.0.allowed in
    let m = mark_told log line t counter goal legal.0.reply allowed in
    let key_is : m.state.key ≡ key = same_Some m.state.key key (sym (tenure_key log t m.state m.begun) ∙ is_of) in
    let here = subst (λ k. origin_of log k ≡ Some origin.TrimHorizon) (sym key_is) old in
    subst (λ c. IsReached (start_position c) (records log key.stream key.shard)) (sym marked)
    (subst (λ (k : ShardRef). IsReached (start_position (checkpoint_at goal)) (records log k.stream k.shard)) key_is
    (marked_reached log m.state goal m.meets (all.tenures t m.state m.begun here)))

all_reach : (log : Journal) → IsLegal log → AllReached log
all_reach [] legal = record {
  rows = λ key r is is_from. absurd (no_row r is);
  tenures = λ t T is is_from. absurd (no_tenure T is);
}
  where
    no_row : (r : Row) → None ≡ Some r → ⊥
    no_row r is = cc

    no_tenure : (T : TenureState) → None ≡ Some T → ⊥
    no_tenure T is = cc
all_reach (line ∷ log) legal = record {
  rows = λ key r is is_from.
      row_stays log line key r.checkpoint legal
      (row_after_line log line legal (all_reach log legal.1) key r (row_step log line key r is) is_from);
  tenures = λ t T is is_from.
      tenure_stays log line T legal
      (tenure_after_line log line legal (all_reach log legal.1) t T (tenure_step log line t T is) is_from);
}

pub checkpoint_reached : (log : Journal) → IsLegal log → (key : ShardRef) (r : Row) (q : ℕ) → row log key ≡ Some r
    → origin_of log key ≡ Some origin.TrimHorizon → r.checkpoint ≡ At q → HasFrom q (records log key.stream key.shard)
unfolding RowReached
checkpoint_reached log legal key r q there is_from is =
    found q (records log key.stream key.shard)
    (subst (λ c. IsReached (start_position c) (records log key.stream key.shard)) is
    ((all_reach log legal).rows key r there is_from))
  where
    found : (q : ℕ) (rs : List Logged) → IsReached (q + 1) rs → HasFrom q rs
    found q [] is_at = absurd (omega arith)
    found q (r ∷ rs) (inl is_at) = inl (omega arith)
    found q (r ∷ rs) (inr is_at) = inr (found q rs is_at)

pub horizon_floor : (log : Journal) → IsLegal log → (key : ShardRef) (r : Row) → row log key ≡ Some r
    → origin_of log key ≡ Some origin.TrimHorizon → r.floor ≡ start_of (shard_at log key.stream key.shard)
horizon_floor log legal key r there is_from =
    let b = begins_shard log legal key r there is_from in
    b.first ∙ ap start_of (sym b.there)
