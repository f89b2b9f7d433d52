-- Which shards are listed, and the answers to GetShardIterator and GetRecords.
use Rattle.std.proofs.Common.{◌≡◌, ℕ, ◌<◌, Bool, true, false, List, [], length, get_or, map, Option, Some, None, refl}
use Rattle.std.proofs.Common.{sym, ap, ◌∙◌, arith}
use Rattle.std.specs.Prelude.{slice_get, is_none, is_some, not, ◌&&◌, ◌||◌, if◌then◌else◌, Result, Ok, Err}
use Rattle.std.specs.Option.{option_map}
use Rattle.std.proofs.lemmas.Option.{slice_get_within, same_Some}
use Rattle.kds_defs.proofs.Decisions.{passed_if, refused_if, with_some}
use Rattle.kds_defs.specs.declared.command.Start.{Start}
use Rattle.kds_defs.specs.declared.command.Start.TheVariants as start
use Rattle.kds_defs.specs.declared.reply.Iter.{Iter}
use Rattle.kds_defs.specs.declared.reply.Refusal.{Refusal}
use Rattle.kds_defs.specs.declared.reply.Refusal.TheVariants as refusal
use Rattle.kds_defs.specs.declared.reply.Reply.{Reply}
use Rattle.kds_defs.specs.declared.reply.Reply.TheVariants as reply
use Rattle.kds_defs.specs.declared.reply.Shard.{Shard}
use Rattle.kds_defs.specs.declared.reply.Stored.{Stored}
use Rattle.kds_defs.specs.Decision.{Decision, Accepted}
use Rattle.kds_defs.specs.Histories.{answer_of}
use Rattle.kds_defs.specs.Journal.{Journal}
use Rattle.kds_defs.specs.Listings.{are_none, behind, ends_at, get_iterator, get_records, is_closed_at, is_good_start}
use Rattle.kds_defs.specs.Listings.{is_expired_token, iterator_at, position_of, records_reply}
use Rattle.kds_defs.specs.Records.{Logged, batch, first_at, left_among, left_from, next_number, numbers_of}
use Rattle.kds_defs.specs.Records.{position_after}
use Rattle.kds_defs.specs.Records.{stored}
use Rattle.kds_defs.specs.Shards.{Closing, ShardState, children, children_among, ending, is_closed_below, is_listed}
use Rattle.kds_defs.specs.Shards.{is_listed_state, shard_at, shown}
use Rattle.kds_defs.specs.Streams.{floor_of, trim_floor}
use Rattle.kds_log.specs.Log.{LogValue, first_arrival}
use Rattle.kds_stream.proofs.ReadLemmas.{are_none_by, batch_is, behind_first, left_is}
use Rattle.kds_stream_logs.specs.Batches.{batch_among, behind_by, position_from}
use Rattle.kds_stream.specs.Showing.{Shows}
use Rattle.kds_stream.specs.Value.{IsStream, StreamValue, is_listed_at, listed_at}

-- ---- An answer at a stream is also an answer at an equal one

pub answer_along : (decided : StreamValue → Decision) (u w : StreamValue) (a : Result Reply Refusal) → u ≡ w
    → a ≡ answer_of (decided u) → a ≡ answer_of (decided w)
answer_along decided u w a is h = h ∙ ap (λ x. answer_of (decided x)) is

-- ---- Listed shards

pub unlisted : (floor : ℕ) (o : Option ShardState) → None ≡ option_map shown (listed_at floor o)
    → is_listed_at floor o ≡ false
unlisted floor None h = refl
unlisted floor (Some x) h = cases (is_closed_below floor x) refl h
  where
    cases : (b : Bool) → is_closed_below floor x ≡ b → None ≡ option_map shown (if b then None else Some x)
        → not (is_closed_below floor x) ≡ false
    cases true e h = ap not e
    cases false e h = absurd cc

-- The shard in `o` is listed at the trim floor, and `y` is this shard as replies show it.
pub record HasState (floor : ℕ) (o : Option ShardState) (y : Shard) : Type 0 where
  pub state : ShardState
  pub at : o ≡ Some state
  pub is_shown : y ≡ shown state
  pub listed : is_listed_at floor o ≡ true

pub has_state : (floor : ℕ) (o : Option ShardState) (y : Shard) → Some y ≡ option_map shown (listed_at floor o)
    → HasState floor o y
has_state floor None y h = absurd cc
has_state floor (Some x) y h = cases (is_closed_below floor x) refl h
  where
    cases : (b : Bool) → is_closed_below floor x ≡ b → Some y ≡ option_map shown (if b then None else Some x)
        → HasState floor (Some x) y
    cases true e h = absurd cc
    cases false e h = record { state = x; at = refl; is_shown = same_Some y (shown x) h; listed = ap not e }

-- The code finds a listed shard exactly if there is one.
pub is_listed_some : (floor : ℕ) (o : Option ShardState) → is_some (option_map shown (listed_at floor o))
    ≡ is_listed_at floor o
is_listed_some floor None = refl
is_listed_some floor (Some x) = cases (is_closed_below floor x)
  where
    cases : (b : Bool) → is_some (option_map shown (if b then None else Some x)) ≡ not b
    cases true = refl
    cases false = refl

pub made_within : (v : StreamValue) (sh : ℕ) → IsStream v → is_listed_at (floor_of v.cut) (slice_get v.tree sh) ≡ true
    → sh < length v.logs
made_within v sh is h = cases (slice_get v.tree sh) refl h
  where
    cases : (o : Option ShardState) → slice_get v.tree sh ≡ o → is_listed_at (floor_of v.cut) o ≡ true
        → sh < length v.logs
    cases None e h = absurd cc
    cases (Some x) e h = omega (arith, slice_get_within v.tree sh x e, is.as_many)

pub listed_within : (v : StreamValue) (sh : ℕ) (y : Shard) → IsStream v
    → Some y ≡ option_map shown (listed_at (floor_of v.cut) (slice_get v.tree sh)) → sh < length v.logs
listed_within v sh y is h = made_within v sh is (has_state (floor_of v.cut) (slice_get v.tree sh) y h).listed

pub none_of : {A : Type 0} (o : Option A) (r : Bool) → is_some o ≡ not r → r ≡ is_none o
none_of o true h = sym (ap not h)
none_of o false h = sym (ap not h)

module _ (v : StreamValue) (log : Journal) (show : Shows v log) where
  -- The journal and the stream have the same shard `sh`.
  pub shard_is : (sh : ℕ) → shard_at log v.no sh ≡ slice_get v.tree sh
  shard_is sh = ap (λ xs. slice_get xs sh) show.stored.shards_are

  listed_by : (o : Option ShardState) → is_listed_state log v.clock v.no o ≡ is_listed_at (floor_of v.cut) o
  listed_by None = refl
  listed_by (Some x) =
      ap (λ b. not (not b || is_closed_below (trim_floor log v.clock v.no) x)) show.stored.live
      ∙ ap (λ f. not (is_closed_below f x)) show.stored.floor_is

  -- The journal and the stream agree on whether shard `sh` is listed.
  pub listed_is : (sh : ℕ) → is_listed log v.clock v.no sh ≡ is_listed_at (floor_of v.cut) (slice_get v.tree sh)
  listed_is sh = ap (is_listed_state log v.clock v.no) (shard_is sh) ∙ listed_by (slice_get v.tree sh)

  -- ---- Iterators

  pub iterator_unlisted : (sh : ℕ) (first : Start)
      → None ≡ option_map shown (listed_at (floor_of v.cut) (slice_get v.tree sh))
      → Err refusal.NoShard ≡ answer_of (get_iterator log v.clock v.no sh first)
  iterator_unlisted sh first h =
      sym (ap answer_of (refused_if _ _ _ (ap not (listed_is sh ∙ unlisted (floor_of v.cut) (slice_get v.tree sh) h))))

  -- An iterator begins at the same position by the journal as by the shard's log.
  pub position_is : (sh : ℕ) (first : Start) (l : LogValue) → sh < length v.logs → l ≡ get_or v.logs sh l
      → position_of log v.clock v.no sh first ≡ position_from v.next (left_among (floor_of v.cut) 0 l.kept) first
  position_is sh (start.At q) l below is = refl
  position_is sh (start.After q) l below is = refl
  position_is sh start.TrimHorizon l below is = refl
  position_is sh start.Latest l below is = show.stored.next_is
  position_is sh (start.Time moment) l below is =
      ap (λ rs. first_at rs moment (next_number log v.no)) (left_is v log show sh l below is 0)
      ∙ ap (λ n. first_at (left_among (floor_of v.cut) 0 l.kept) moment n) show.stored.next_is

  iterator_by : (sh : ℕ) (first : Start) (y : Shard) (l : LogValue) (below : sh < length v.logs)
      (is : l ≡ get_or v.logs sh l) (b : Bool) (has : HasState (floor_of v.cut) (slice_get v.tree sh) y)
      → is_good_start first v.next has.state ≡ b
      → answer_of (get_iterator log v.clock v.no sh first)
      ≡ (if b then Ok (reply.Iterator
      (iterator_at v.clock v.no sh (position_from v.next (left_among (floor_of v.cut) 0 l.kept) first))) else Err
      refusal.BadNumber)
  iterator_by sh first y l below is true has good =
      ap answer_of
      (passed_if _ _ _ (ap not (listed_is sh ∙ has.listed))
      ∙ with_some _ _ _ has.state (shard_is sh ∙ has.at)
      ∙ passed_if _ _ _ (ap not (ap (λ n. is_good_start first n has.state) show.stored.next_is ∙ good)))
      ∙ ap (λ p. Ok (reply.Iterator (iterator_at v.clock v.no sh p))) (position_is sh first l below is)
  iterator_by sh first y l below is false has good =
      ap answer_of
      (passed_if _ _ _ (ap not (listed_is sh ∙ has.listed))
      ∙ with_some _ _ _ has.state (shard_is sh ∙ has.at)
      ∙ refused_if _ _ _ (ap not (ap (λ n. is_good_start first n has.state) show.stored.next_is ∙ good)))

  chosen_some : (b : Bool) (n p : ℕ) → Some p ≡ (if b then Some n else None) → (b ≡ true) × (p ≡ n)
  chosen_some true n p h = (refl, same_Some p n h)
  chosen_some false n p h = absurd cc

  chosen_none : (b : Bool) (n : ℕ) → None ≡ (if b then Some n else None) → b ≡ false
  chosen_none true n h = absurd cc
  chosen_none false n h = refl

  -- For a listed shard and an allowed start, GetShardIterator answers with the position from the log.
  pub iterator_done : (sh : ℕ) (first : Start) (y : Shard) (l : LogValue) (p : ℕ) → sh < length v.logs
      → l ≡ get_or v.logs sh l → Some y ≡ option_map shown (listed_at (floor_of v.cut) (slice_get v.tree sh))
      → ((x : ShardState) → y ≡ shown x
      → Some p ≡ (if is_good_start first v.next x then Some
      (position_from v.next (left_among (floor_of v.cut) 0 l.kept) first) else None))
      → Ok (reply.Iterator (iterator_at v.clock v.no sh p)) ≡ answer_of (get_iterator log v.clock v.no sh first)
  iterator_done sh first y l p below is_at is good =
      let has = has_state (floor_of v.cut) (slice_get v.tree sh) y is in
      let begun = chosen_some (is_good_start first v.next has.state)
      (position_from v.next (left_among (floor_of v.cut) 0 l.kept) first) p (good has.state has.is_shown) in
      sym (iterator_by sh first y l below is_at true has begun.0
      ∙ ap (λ n. Ok (reply.Iterator (iterator_at v.clock v.no sh n))) (sym begun.1))

  -- For a listed shard and a start that isn't allowed, GetShardIterator is refused.
  pub iterator_bad : (sh : ℕ) (first : Start) (y : Shard) (l : LogValue) → sh < length v.logs → l ≡ get_or v.logs sh l
      → Some y ≡ option_map shown (listed_at (floor_of v.cut) (slice_get v.tree sh))
      → ((x : ShardState) → y ≡ shown x
      → None ≡ (if is_good_start first v.next x then Some
      (position_from v.next (left_among (floor_of v.cut) 0 l.kept) first) else None))
      → Err refusal.BadNumber ≡ answer_of (get_iterator log v.clock v.no sh first)
  iterator_bad sh first y l below is_at is good =
      let has = has_state (floor_of v.cut) (slice_get v.tree sh) y is in
      sym (iterator_by sh first y l below is_at false has
      (chosen_none (is_good_start first v.next has.state)
      (position_from v.next (left_among (floor_of v.cut) 0 l.kept) first) (good has.state has.is_shown)))

  -- ---- The end of a shard

  closed_by : (o : Option Closing) → is_some (ending o) ≡ not (is_none o)
  closed_by None = refl
  closed_by (Some closing) = refl

  pub ends_is : (sh reach : ℕ) (y : Shard) (x : ShardState) (l : LogValue) (left : Option ℕ)
      → slice_get v.tree sh ≡ Some x → y ≡ shown x → sh < length v.logs → l ≡ get_or v.logs sh l
      → left ≡ first_arrival (left_among (floor_of v.cut) reach l.kept)
      → ends_at log v.clock v.no sh reach ≡ (is_some y.end && is_none left)
  ends_is sh reach y x l left is_at is_shown below is first =
      ap (λ o. is_closed_at o && are_none (left_from log v.clock v.no sh reach)) (shard_is sh ∙ is_at)
      ∙ ap (λ b. b && are_none (left_from log v.clock v.no sh reach))
      (sym (ap (λ (z : Shard). is_some z.end) is_shown ∙ closed_by x.closing))
      ∙ ap (λ rs. is_some y.end && are_none rs) (left_is v log show sh l below is reach)
      ∙ ap (λ b. is_some y.end && b) (are_none_by (left_among (floor_of v.cut) reach l.kept) ∙ ap is_none (sym first))

  -- ---- A read

  module _ (sh position limit reach : ℕ) (l : LogValue) (left : Option ℕ) (below : sh < length v.logs)
      (is_at : l ≡ get_or v.logs sh l)
      (after : reach ≡ position_after position (numbers_of (batch_among (floor_of v.cut) position limit l.kept)))
      (first : left ≡ first_arrival (left_among (floor_of v.cut) reach l.kept)) where
    reach_is : position_after position (numbers_of (batch log v.clock v.no sh position limit)) ≡ reach
    reach_is = ap (λ rs. position_after position (numbers_of rs)) (batch_is v log show sh l below is_at position limit)
        ∙ sym after

    -- A read ends a shard exactly if it is closed and no untrimmed record follows the batch.
    pub read_end : (y : Shard) (end : Bool) → Some y ≡ option_map shown (slice_get v.tree sh)
        → end ≡ (is_some y.end && is_none left)
        → end ≡ ends_at log v.clock v.no sh
        (position_after position (numbers_of (batch log v.clock v.no sh position limit)))
    read_end y end is ended = cases (slice_get v.tree sh) refl is
      where
        cases : (o : Option ShardState) → slice_get v.tree sh ≡ o → Some y ≡ option_map shown o
            → end ≡ ends_at log v.clock v.no sh
            (position_after position (numbers_of (batch log v.clock v.no sh position limit)))
        cases None e h = absurd cc
        cases (Some x) e h = ended ∙ sym (ends_is sh reach y x l left e (same_Some y (shown x) h) below is_at first)
            ∙ ap (ends_at log v.clock v.no sh) (sym reach_is)

    -- A read of a shard that doesn't exist ends no shard.
    pub read_no_end : (end : Bool) → None ≡ option_map shown (slice_get v.tree sh) → end ≡ false
        → end ≡ ends_at log v.clock v.no sh
        (position_after position (numbers_of (batch log v.clock v.no sh position limit)))
    read_no_end end is open_still = cases (slice_get v.tree sh) refl is
      where
        cases : (o : Option ShardState) → slice_get v.tree sh ≡ o → None ≡ option_map shown o
            → end ≡ ends_at log v.clock v.no sh
            (position_after position (numbers_of (batch log v.clock v.no sh position limit)))
        cases (Some x) e h = absurd cc
        cases None e h = open_still
            ∙ sym (ap (λ o. is_closed_at o
            && are_none (left_from log v.clock v.no sh
            (position_after position (numbers_of (batch log v.clock v.no sh position limit))))) (shard_is sh ∙ e))

  -- ---- Records

  -- GetRecords with an iterator that is too old is refused with `Expired`.
  pub records_expired : (iter : Iter) (limit : ℕ) → true ≡ is_expired_token v.clock iter.issued
      → Err refusal.Expired ≡ answer_of (get_records log v.clock iter limit)
  records_expired iter limit old = sym (ap answer_of (refused_if _ _ _ (sym old)))

  records_by : (iter : Iter) (limit : ℕ) → iter.stream ≡ v.no
      → get_records log v.clock (record {
        stream = v.no;
        shard = iter.shard;
        position = iter.position;
        issued = iter.issued;
      }) limit ≡ get_records log v.clock iter limit
  records_by iter limit is =
      ap (λ s. let i : Iter = record {
        stream = s;
        shard = iter.shard;
        position = iter.position;
        issued = iter.issued;
      } in get_records log v.clock i limit) (sym is)

  -- GetRecords with a young iterator of a shard that isn't listed is refused with `NoShard`.
  pub records_unlisted : (iter : Iter) (limit : ℕ) → iter.stream ≡ v.no → false ≡ is_expired_token v.clock iter.issued
      → None ≡ option_map shown (listed_at (floor_of v.cut) (slice_get v.tree iter.shard))
      → Err refusal.NoShard ≡ answer_of (get_records log v.clock iter limit)
  records_unlisted iter limit own young h =
      sym (ap answer_of (sym (records_by iter limit own)
      ∙ passed_if _ _ _ (sym young)
      ∙ passed_if _ _ _ (ap not show.stored.live)
      ∙ refused_if _ _ _ (ap not (listed_is iter.shard ∙ unlisted (floor_of v.cut) (slice_get v.tree iter.shard) h))))

  reply_by : (b : Bool) (sh reach : ℕ) (rs : List Logged) → ends_at log v.clock v.no sh reach ≡ b
      → records_reply log v.clock v.no sh rs reach
      ≡ Accepted [] (if b then reply.Records (map stored rs) None
      (behind v.clock (left_from log v.clock v.no sh reach)) (map shown (children log v.no sh)) else reply.Records
      (map stored rs) (Some (iterator_at v.clock v.no sh reach))
      (behind v.clock (left_from log v.clock v.no sh reach)) [])
  reply_by b sh reach rs is =
      ap (λ c. Accepted [] (if c then reply.Records (map stored rs) None
      (behind v.clock (left_from log v.clock v.no sh reach)) (map shown (children log v.no sh)) else reply.Records
      (map stored rs) (Some (iterator_at v.clock v.no sh reach))
      (behind v.clock (left_from log v.clock v.no sh reach)) [])) is

  module _ (iter : Iter) (limit reach : ℕ) (y : Shard) (l : LogValue) (left : Option ℕ) (items : List Stored) (ago : ℕ)
      (own : iter.stream ≡ v.no) (young : false ≡ is_expired_token v.clock iter.issued)
      (is : Some y ≡ option_map shown (listed_at (floor_of v.cut) (slice_get v.tree iter.shard)))
      (below : iter.shard < length v.logs) (is_at : l ≡ get_or v.logs iter.shard l)
      (taken : items ≡ map stored (batch_among (floor_of v.cut) iter.position limit l.kept))
      (after : reach ≡ position_after iter.position
      (numbers_of (batch_among (floor_of v.cut) iter.position limit l.kept)))
      (first : left ≡ first_arrival (left_among (floor_of v.cut) reach l.kept))
      (is_since : ago ≡ behind_by v.clock left) where
    replied : get_records log v.clock iter limit
        ≡ records_reply log v.clock v.no iter.shard (batch_among (floor_of v.cut) iter.position limit l.kept) reach
    replied =
        let has = has_state (floor_of v.cut) (slice_get v.tree iter.shard) y is in
        sym (records_by iter limit own)
        ∙ passed_if _ _ _ (sym young)
        ∙ passed_if _ _ _ (ap not show.stored.live)
        ∙ passed_if _ _ _ (ap not (listed_is iter.shard ∙ has.listed))
        ∙ ap (λ rs. records_reply log v.clock v.no iter.shard rs (position_after iter.position (numbers_of rs)))
        (batch_is v log show iter.shard l below is_at iter.position limit)
        ∙ ap (λ p. records_reply log v.clock v.no iter.shard (batch_among (floor_of v.cut) iter.position limit l.kept)
        p) (sym after)

    ends : ends_at log v.clock v.no iter.shard reach ≡ (is_some y.end && is_none left)
    ends =
        let has = has_state (floor_of v.cut) (slice_get v.tree iter.shard) y is in
        ends_is iter.shard reach y has.state l left has.at has.is_shown below is_at first

    behind_is : behind v.clock (left_from log v.clock v.no iter.shard reach) ≡ ago
    behind_is = ap (behind v.clock) (left_is v log show iter.shard l below is_at reach)
        ∙ behind_first v.clock (left_among (floor_of v.cut) reach l.kept) ∙ ap (behind_by v.clock) (sym first)
        ∙ sym is_since

    -- A read that ends the shard answers with the batch and the shard's children, without an iterator.
    pub records_end : (after_it : List Shard) → true ≡ (is_some y.end && is_none left)
        → after_it ≡ map shown (children_among iter.shard v.tree)
        → Ok (reply.Records items None ago after_it) ≡ answer_of (get_records log v.clock iter limit)
    records_end after_it ended are =
        sym (ap answer_of (replied
        ∙ reply_by true iter.shard reach (batch_among (floor_of v.cut) iter.position limit l.kept) (ends
        ∙ sym ended))
        ∙ ap (λ xs. Ok (reply.Records xs None (behind v.clock (left_from log v.clock v.no iter.shard reach))
        (map shown (children log v.no iter.shard)))) (sym taken)
        ∙ ap (λ n. Ok (reply.Records items None n (map shown (children log v.no iter.shard)))) behind_is
        ∙ ap (λ xs. Ok (reply.Records items None ago (map shown (children_among iter.shard xs)))) show.stored.shards_are
        ∙ ap (λ xs. Ok (reply.Records items None ago xs)) (sym are))

    -- A read that doesn't end the shard answers with the batch and the next iterator, without children.
    pub records_more : (none : List Shard) → false ≡ (is_some y.end && is_none left) → none ≡ []
        → Ok (reply.Records items (Some (iterator_at v.clock v.no iter.shard reach)) ago none)
        ≡ answer_of (get_records log v.clock iter limit)
    records_more none ended are =
        sym (ap answer_of (replied
        ∙ reply_by false iter.shard reach (batch_among (floor_of v.cut) iter.position limit l.kept) (ends
        ∙ sym ended))
        ∙ ap (λ xs. Ok (reply.Records xs (Some (iterator_at v.clock v.no iter.shard reach))
        (behind v.clock (left_from log v.clock v.no iter.shard reach)) [])) (sym taken)
        ∙ ap (λ n. Ok (reply.Records items (Some (iterator_at v.clock v.no iter.shard reach)) n [])) behind_is
        ∙ ap (λ xs. Ok (reply.Records items (Some (iterator_at v.clock v.no iter.shard reach)) ago xs)) (sym are))
