-- The logs of a stream's shards: a record or a log is added, or trimmed records are removed.
use Rattle.std.proofs.Common.{◌≡◌, ℕ, zero, suc, ◌≤◌, List, [], ◌∷◌, ◌++◌, length, get_or, map, take, drop, Option}
use Rattle.std.proofs.Common.{Some, None, refl, ap, ◌∙◌, arith}
use Rattle.std.specs.List.{AllByRecursion}
use Rattle.std.proofs.lemmas.List.{append_assoc, map-append, take_at}
use Rattle.kds_base.proofs.Facts.{all_weaker}
use Rattle.kds_defs.specs.Records.{Logged}
use Rattle.kds_log.specs.Log.{LogValue, LogWithReserve, log_of}
use Rattle.kds_stream_logs.specs.Logs.{HasArrived, IsBelow, IsUnder, empty_log, settled_at, settled_log, with_appended}

-- ---- Facts about each log

pub arrived_later : (moment later : ℕ) (ls : List LogValue) → moment ≤ later → AllByRecursion (HasArrived moment) ls
    → AllByRecursion (HasArrived later) ls
arrived_later moment later ls le h =
    all_weaker (HasArrived moment) (HasArrived later)
    (λ l a. all_weaker (λ (r : Logged). r.arrival ≤ moment) (λ (r : Logged). r.arrival ≤ later)
    (λ r early. omega arith) l.kept a) ls h

pub below_higher : (next higher : ℕ) (ls : List LogValue) → next ≤ higher → AllByRecursion (IsBelow next) ls
    → AllByRecursion (IsBelow higher) ls
below_higher next higher ls le h = all_weaker (IsBelow next) (IsBelow higher) (λ l a. under l.last a) ls h
  where
    under : (last : Option ℕ) → IsUnder next last → IsUnder higher last
    under None a = tt
    under (Some n) a = omega arith

pub written_back : {A : Type 0} (n : ℕ) (new old : List A) → length new ≡ n
    → take n (new ++ drop (length new) old) ≡ new
written_back n new old h = take_at new (drop (length new) old) n h

-- ---- A record is added to the log of its shard

pub log_at : (ls : List LogWithReserve) (i : ℕ) (l : LogWithReserve) → l ≡ get_or ls i l
    → log_of l ≡ get_or (map log_of ls) i (log_of l)
log_at [] i l is = refl
log_at (x ∷ ls) zero l is = ap log_of is
log_at (x ∷ ls) (suc i) l is = log_at ls i l is

pub length-appended : (i : ℕ) (r : Logged) (ls : List LogValue) → length (with_appended i r ls) ≡ length ls
length-appended i r [] = refl
length-appended zero r (l ∷ ls) = refl
length-appended (suc i) r (l ∷ ls) = ap suc (length-appended i r ls)

-- A put writes back the stream's logs with the record added and the log of its shard settled.
pub put_back : (n sh i floor : ℕ) (r : Logged) (new items lent : List LogWithReserve) → length new ≡ n
    → map log_of new ≡ settled_at floor i (with_appended i r (map log_of lent)) → lent ≡ items → i ≡ sh
    → map log_of (take n (new ++ drop (length new) items)) ≡ settled_at floor sh (with_appended sh r (map log_of items))
put_back n sh i floor r new items lent len is same is_at =
    ap (map log_of) (written_back n new items len)
    ∙ is
    ∙ ap (λ (ls : List LogWithReserve). settled_at floor i (with_appended i r (map log_of ls))) same
    ∙ ap (λ j. settled_at floor j (with_appended j r (map log_of items))) is_at

-- ---- Logs are added in memory that was reserved

pub one_more_log : (new reserved : List LogWithReserve) (old : List LogValue) (l : LogWithReserve)
    → new ≡ reserved ++ l ∷ [] → map log_of reserved ≡ old → log_of l ≡ empty_log
    → map log_of new ≡ old ++ (empty_log ∷ [])
one_more_log new reserved old l pushed same is =
    ap (map log_of) pushed ∙ map-append log_of reserved (l ∷ []) ∙ ap (λ (ls : List LogValue). ls ++ log_of l ∷ []) same
    ∙ ap (λ (x : LogValue). old ++ x ∷ []) is

pub two_more : (new one reserved : List LogWithReserve) (old : List LogValue) (l m : LogWithReserve)
    → new ≡ one ++ m ∷ []
    → one ≡ reserved ++ l ∷ [] → map log_of reserved ≡ old → log_of l ≡ empty_log → log_of m ≡ empty_log
    → map log_of new ≡ old ++ (empty_log ∷ empty_log ∷ [])
two_more new one reserved old l m second first same is other =
    one_more_log new one (old ++ (empty_log ∷ [])) m second (one_more_log one reserved old l first same is) other
    ∙ append_assoc old (empty_log ∷ []) (empty_log ∷ [])

pub all-appended : (P Q : LogValue → Type 0) (i : ℕ) (r : Logged) → ((l : LogValue) → P l → Q l)
    → ((l : LogValue) → P l → Q (record { kept = l.kept ++ r ∷ []; last = Some r.seq })) → (ls : List LogValue)
    → AllByRecursion P ls → AllByRecursion Q (with_appended i r ls)
all-appended P Q i r others here [] h = tt
all-appended P Q zero r others here (l ∷ ls) h = (here l h.0, all_weaker P Q others ls h.1)
all-appended P Q (suc i) r others here (l ∷ ls) h = (others l h.0, all-appended P Q i r others here ls h.1)

-- ---- A log loses its trimmed records

pub length-settled : (floor n : ℕ) (ls : List LogValue) → length (settled_at floor n ls) ≡ length ls
length-settled floor n [] = refl
length-settled floor zero (l ∷ ls) = refl
length-settled floor (suc n) (l ∷ ls) = ap suc (length-settled floor n ls)

pub all-settled : (P : LogValue → Type 0) (floor n : ℕ) → ((l : LogValue) → P l → P (settled_log floor l))
    → (ls : List LogValue) → AllByRecursion P ls → AllByRecursion P (settled_at floor n ls)
all-settled P floor n f [] h = tt
all-settled P floor zero f (l ∷ ls) h = (f l h.0, h.1)
all-settled P floor (suc n) f (l ∷ ls) h = (h.0, all-settled P floor n f ls h.1)
