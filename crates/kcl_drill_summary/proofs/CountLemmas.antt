-- After each read, the records counted and those left make up all records of the shard (`GoesOn`).
use Rattle.std.proofs.Common.{◌≡◌, ℕ, ◌+◌, ◌*◌, ◌<◌, ◌≤◌, ◌^◌, Bool, true, false, List, [], ◌∷◌, ◌++◌, length, map}
use Rattle.std.proofs.Common.{Option, Some, None, refl, sym, ap, subst, ◌∙◌, arith}
use Rattle.std.specs.Prelude.{not, nat_lt, if◌then◌else◌, Result, Ok}
use Rattle.std.proofs.lemmas.Bool.Decides.{nat_tests}
use Rattle.std.proofs.lemmas.Bool.{and_parts}
use Rattle.std.proofs.lemmas.List.{length-append}
use Rattle.kds_defs.specs.declared.command.Command.TheVariants as command
use Rattle.kds_defs.specs.declared.limits.TheConstants.{BATCH_BYTES}
use Rattle.kds_defs.specs.declared.reply.Iter.{Iter}
use Rattle.kds_defs.specs.declared.reply.Refusal.{Refusal}
use Rattle.kds_defs.specs.declared.reply.Refusal.TheVariants as refusal
use Rattle.kds_defs.specs.declared.reply.Reply.{Reply}
use Rattle.kds_defs.specs.declared.reply.Reply.TheVariants as reply
use Rattle.kds_defs.specs.Histories.{answer_of, decide}
use Rattle.kds_defs.specs.Journal.{Journal}
use Rattle.kds_defs.specs.Listings.{are_none, behind, ends_at, get_records, is_closed_at, is_expired_token, iterator_at}
use Rattle.kds_defs.specs.Listings.{records_reply}
use Rattle.kds_defs.specs.Records.{Logged, batch, beginning, left_among, left_from, logged, numbers_of, position_after}
use Rattle.kds_defs.specs.Records.{records, stored}
use Rattle.kds_defs.specs.Shards.{children, is_listed, shard_at, shown, start_of}
use Rattle.kds_defs.specs.Streams.{is_live, trim_floor}
use Rattle.kds_defs.proofs.Decisions.{passed_if}
use Rattle.kds_defs.proofs.Counted.{length_stored}
use Rattle.kcl_laws.specs.Recorded.{AreDrawn, RiseBetween}
use Rattle.kcl_drill_summary.specs.Counting.{CanCount, CountsTo, GoesOn, next_above}
use Rattle.kcl_drill.specs.Summed.{bytes_of}
use Rattle.kcl_drill_summary.specs.Summing.{Absorbs}
use Rattle.kcl_drill_summary.proofs.BatchLemmas.{AreSized, IsUp, from, up_from, parts, position_up, from_twice}
use Rattle.kcl_drill_summary.proofs.BatchLemmas.{left_all}
use Rattle.kcl_drill_summary.proofs.BatchLemmas.{sized_from, stuck, up_weaker, all_from}
use Rattle.kcl_drill_summary.proofs.BatchLemmas.{bytes_append, bytes_stored}

-- ---- Facts about the records of each shard

pub up_rising : (p : ℕ) (rs : List Logged) (q : ℕ) → RiseBetween p rs q → IsUp p rs
up_rising p [] q is = tt
up_rising p (r ∷ rs) q is = (is.0, up_rising (r.seq + 1) rs q is.1)

up_drawn : (log : Journal) (s sh : ℕ) → AreDrawn log s sh → IsUp 0 (records log s sh)
up_drawn log s sh is = up_weaker 0 (start_of (shard_at log s sh)) (records log s sh) (omega arith) (up_rising _ _ _ is)

few_between : (p : ℕ) (rs : List Logged) (q : ℕ) → RiseBetween p rs q → p + length rs ≤ q
few_between p [] q is = omega arith
few_between p (r ∷ rs) q is = let n = few_between (r.seq + 1) rs q is.1 in omega (arith, n, is.0)

pub bytes_few : (rs : List Logged) → AreSized rs → bytes_of rs ≤ 10485760 * length rs
bytes_few [] are = omega arith
bytes_few (r ∷ rs) are = let n = bytes_few rs are.1 in omega (arith, n, are.0.0, are.0.1)

few_records : (log : Journal) (c s sh : ℕ) → CanCount log c s sh → length (records log s sh) < 2 ^ 64
few_records log c s sh can = let n = few_between _ _ _ can.drawn in omega (arith, n, can.fits)

few_bytes : (log : Journal) (c s sh : ℕ) → CanCount log c s sh → bytes_of (records log s sh) < 2 ^ 128
few_bytes log c s sh can = let n = few_records log c s sh can in let m = bytes_few (records log s sh) can.sized in
    omega arith

-- ---- The answer to GetRecords

young : (c issued : ℕ) → issued ≡ c → is_expired_token c issued ≡ false
young c issued is = grind (arith, nat_tests)

pub replied : (log : Journal) (c : ℕ) (iter : Iter) (limit : ℕ) → CanCount log c iter.stream iter.shard
    → iter ≡ iterator_at c iter.stream iter.shard iter.position →
    get_records log c iter limit
    ≡ records_reply log c iter.stream iter.shard (batch log c iter.stream iter.shard iter.position limit)
    (position_after iter.position (numbers_of (batch log c iter.stream iter.shard iter.position limit)))
replied log c iter limit can is =
    passed_if refusal.Expired (is_expired_token c iter.issued) _ (young c iter.issued (ap (λ (i : Iter). i.issued) is))
    ∙ passed_if refusal.NoStream (not (is_live log iter.stream)) _ (ap not can.live)
    ∙ passed_if refusal.NoShard (not (is_listed log c iter.stream iter.shard)) _ (ap not can.listed)

-- ---- The records that are left

pub left_is : (log : Journal) (c s sh p : ℕ) → CanCount log c s sh → left_from log c s sh p ≡ from p (records log s sh)
left_is log c s sh p can =
    ap (λ b. if b then left_among (trim_floor log c s) p (records log s sh) else []) can.live
    ∙ left_all (trim_floor log c s) p (records log s sh) can.above

none_so : (rs : List Logged) → are_none rs ≡ true → rs ≡ []
none_so [] is = refl
none_so (r ∷ rs) is = absurd cc

-- ---- The counts

-- `new` is the sum of `old` and `more`, if this sum is below `bound`.
abbrev Adds : ℕ → ℕ → ℕ → ℕ → Type 0
Adds bound old more new = old + more < bound → new ≡ old + more

total : (bound old more rest all new : ℕ) → old + (more + rest) ≡ all → all < bound → Adds bound old more new
    → new + rest ≡ all
total bound old more rest all new is few adds =
    let n = adds (omega arith) in
    omega arith

pub counts_on : (count bytes count' bytes' : ℕ) (ls bs rest all : List Logged) → CountsTo count bytes ls all
    → ls ≡ bs ++ rest → length all < 2 ^ 64 → bytes_of all < 2 ^ 128
    → Adds (2 ^ 64) count (length (map stored bs)) count'
    → Adds (2 ^ 128) bytes (bytes_of (map logged (map stored bs))) bytes' → CountsTo count' bytes' rest all
counts_on count bytes count' bytes' ls bs rest all counts are few few_bytes adds adds_bytes = record {
  records = total (2 ^ 64) count (length bs) (length rest) (length all) count'
      (ap (λ n. count + n) (sym (ap length are ∙ length-append bs rest)) ∙ counts.records) few
      (subst (λ n. Adds (2 ^ 64) count n count') (length_stored bs) adds);
  payload = total (2 ^ 128) bytes (bytes_of bs) (bytes_of rest) (bytes_of all) bytes'
      (ap (λ n. bytes + n) (sym (ap bytes_of are ∙ bytes_append bs rest)) ∙ counts.payload) few_bytes
      (subst (λ n. Adds (2 ^ 128) bytes n bytes') (bytes_stored bs) adds_bytes);
}

all_counted : (count bytes : ℕ) (rest all : List Logged) → rest ≡ [] → CountsTo count bytes rest all
    → (count ≡ length all) × (bytes ≡ bytes_of all)
all_counted count bytes rest all none counts = (
  zeros count (length rest) (length all) (ap length none) counts.records,
  zeros bytes (bytes_of rest) (bytes_of all) (ap bytes_of none) counts.payload,
)
  where
    zeros : (n m k : ℕ) → m ≡ 0 → n + m ≡ k → n ≡ k
    zeros n m k is so = omega arith

-- ---- One read

ended : (log : Journal) (c s sh p reach count bytes count' bytes' : ℕ) (next' : Option Iter) → CanCount log c s sh
    → ends_at log c s sh reach ≡ true → CountsTo count' bytes' (from reach (records log s sh)) (records log s sh)
    → next' ≡ next_above p None → GoesOn log c s sh count' bytes' next'
ended log c s sh p reach count bytes count' bytes' next' can ends counts is =
    let none = none_so (left_from log c s sh reach)
    (and_parts (is_closed_at (shard_at log s sh)) (are_none (left_from log c s sh reach)) ends).1 in
    subst (GoesOn log c s sh count' bytes') (sym is)
    (all_counted count' bytes' (from reach (records log s sh)) (records log s sh)
    (sym (left_is log c s sh reach can) ∙ none) counts)

goes_on : (log : Journal) (c s sh p reach count' bytes' : ℕ) (next' : Option Iter) (b : Bool) → CanCount log c s sh
    → nat_lt p reach ≡ b → (nat_lt p reach ≡ false → from reach (records log s sh) ≡ [])
    → CountsTo count' bytes' (from reach (records log s sh)) (records log s sh)
    → next' ≡ (if b then Some (iterator_at c s sh reach) else None) → GoesOn log c s sh count' bytes' next'
goes_on log c s sh p reach count' bytes' next' true can above stops counts is =
    subst (GoesOn log c s sh count' bytes') (sym is) (
      refl,
      subst (λ rs. CountsTo count' bytes' rs (records log s sh)) (sym (left_is log c s sh reach can)) counts,
    )
goes_on log c s sh p reach count' bytes' next' false can above stops counts is =
    subst (GoesOn log c s sh count' bytes') (sym is)
    (all_counted count' bytes' (from reach (records log s sh)) (records log s sh) (stops above) counts)

-- Counting one more batch of GetRecords keeps `GoesOn`.
pub read_on : (log : Journal) (c actor : ℕ) (iter : Iter) (count bytes count' bytes' : ℕ) (next' : Option Iter)
    (a : Result Reply Refusal) → CanCount log c iter.stream iter.shard
    → GoesOn log c iter.stream iter.shard count bytes (Some iter)
    → a ≡ answer_of (decide log c actor (command.Records iter 10000))
    → Absorbs count bytes iter.position a count' bytes' next'
    → GoesOn log c iter.stream iter.shard count' bytes' next'
read_on log c actor iter count bytes count' bytes' next' a can goes is absorbs =
    let up = up_drawn log iter.stream iter.shard can.drawn in
    let s = iter.stream in
    let sh = iter.shard in
    let p = iter.position in
    let rs = records log s sh in
    let ls = from p rs in
    let bs = beginning 10000 BATCH_BYTES ls in
    let reach = position_after p (numbers_of bs) in
    let up' = up_from p 0 rs up in
    let sized = sized_from p rs can.sized in
    let ls_is = left_is log c s sh p can in
    let batch_is : batch log c s sh p 10000 ≡ bs = ap (beginning 10000 BATCH_BYTES) ls_is in
    let so : a ≡ answer_of (records_reply log c s sh bs reach) =
    is ∙ ap answer_of (replied log c iter 10000 can goes.0)
    ∙ ap (λ xs. answer_of (records_reply log c s sh xs (position_after p (numbers_of xs)))) batch_is in
    let rest : from reach ls ≡ from reach rs = from_twice p reach rs (position_up 10000 BATCH_BYTES p ls up') in
    let both : ls ≡ bs ++ from reach rs = parts 10000 BATCH_BYTES p ls up' ∙ ap (λ xs. bs ++ xs) rest in
    let counts = subst (λ xs. CountsTo count bytes xs rs) ls_is goes.1 in
    let stops : nat_lt p reach ≡ false → from reach rs ≡ [] =
    λ below. sym rest ∙ ap (from reach) (stuck 9999 p ls up' sized below) in
    let is_on : Adds (2 ^ 64) count (length (map stored bs)) count'
    → Adds (2 ^ 128) bytes (bytes_of (map logged (map stored bs))) bytes'
    → CountsTo count' bytes' (from reach rs) rs =
    counts_on count bytes count' bytes' ls bs (from reach rs) rs counts both (few_records log c s sh can)
    (few_bytes log c s sh can) in
    by_end log c s sh p reach count bytes count' bytes' next' bs a (ends_at log c s sh reach) refl can so absorbs is_on
    stops
  where
    by_end : (log : Journal) (c s sh p reach count bytes count' bytes' : ℕ) (next' : Option Iter) (bs : List Logged)
        (a : Result Reply Refusal) (b : Bool) → ends_at log c s sh reach ≡ b → CanCount log c s sh
        → a ≡ answer_of (records_reply log c s sh bs reach) → Absorbs count bytes p a count' bytes' next'
        → (Adds (2 ^ 64) count (length (map stored bs)) count'
        → Adds (2 ^ 128) bytes (bytes_of (map logged (map stored bs))) bytes'
        → CountsTo count' bytes' (from reach (records log s sh)) (records log s sh))
        → (nat_lt p reach ≡ false → from reach (records log s sh) ≡ []) → GoesOn log c s sh count' bytes' next'
    by_end log c s sh p reach count bytes count' bytes' next' bs a true ends can is absorbs is_on stops =
        let f = absorbs (map stored bs) None (behind c (left_from log c s sh reach)) (map shown (children log s sh))
        (is ∙ ap (λ b. Ok (if b then reply.Records (map stored bs) None (behind c (left_from log c s sh reach))
        (map shown (children log s sh)) else reply.Records (map stored bs) (Some (iterator_at c s sh reach))
        (behind c (left_from log c s sh reach)) [])) ends) in
        ended log c s sh p reach count bytes count' bytes' next' can ends (is_on f.0 f.1) f.2
    by_end log c s sh p reach count bytes count' bytes' next' bs a false ends can is absorbs is_on stops =
        let f = absorbs (map stored bs) (Some (iterator_at c s sh reach)) (behind c (left_from log c s sh reach)) []
        (is ∙ ap (λ b. Ok (if b then reply.Records (map stored bs) None (behind c (left_from log c s sh reach))
        (map shown (children log s sh)) else reply.Records (map stored bs) (Some (iterator_at c s sh reach))
        (behind c (left_from log c s sh reach)) [])) ends) in
        goes_on log c s sh p reach count' bytes' next' (nat_lt p reach) can refl stops (is_on f.0 f.1) f.2

-- ---- From the first record on

-- At the beginning of a shard nothing is counted, and all records are left.
pub begins : (log : Journal) (c s sh : ℕ) (iter : Iter) → CanCount log c s sh → iter ≡ iterator_at c s sh 0
    → GoesOn log c s sh 0 0 (Some iter)
begins log c s sh iter can is =
    let is_at : iter.position ≡ 0 = ap (λ (i : Iter). i.position) is in
    let all : left_from log c s sh iter.position ≡ records log s sh =
    ap (left_from log c s sh) is_at ∙ left_is log c s sh 0 can
    ∙ all_from 0 (records log s sh) (up_drawn log s sh can.drawn) in (
      is ∙ ap (iterator_at c s sh) (sym is_at),
      record {
        records = plus (length (left_from log c s sh iter.position)) _ (ap length all);
        payload = plus (bytes_of (left_from log c s sh iter.position)) _ (ap bytes_of all);
      },
    )
  where
    plus : (n m : ℕ) → n ≡ m → 0 + n ≡ m
    plus n m is = omega arith
