-- After basic commands, below 24 hours, the lines on streams depend only on the commands for the stream service.
use Rattle.std.proofs.Common.{◌≡◌, ℕ, ◌+◌, ◌<◌, ◌≤◌, max, Bool, true, false, List, [], ◌∷◌, length, Option, Some, None}
use Rattle.std.proofs.Common.{refl, sym, ap, subst, ◌∙◌, arith}
use Rattle.std.specs.Prelude.{◌==◌, ◌&&◌, ◌||◌, not, nat_le, nat_lt, map, cond, is_some, if◌then◌else◌}
use Rattle.std.specs.List.{filter, AllByRecursion}
use Rattle.std.proofs.lemmas.List.{length-map}
use Rattle.std.proofs.lemmas.Bool.{cond_both}
use Rattle.kds_base.specs.Span.{is_inside, are_adjacent}
use Rattle.kds_base.proofs.Facts.{all_filter}
use Rattle.kds_defs.specs.declared.command.Command.{Command}
use Rattle.kds_defs.specs.declared.command.Command.TheVariants as command
use Rattle.kds_defs.specs.declared.command.NewItem.{NewItem}
use Rattle.kds_defs.specs.declared.command.Turn.{Turn}
use Rattle.kds_defs.specs.declared.entry.Entry.{Entry}
use Rattle.kds_defs.specs.declared.entry.Entry.TheVariants as entry
use Rattle.kds_defs.specs.declared.limits.TheConstants.{LIVE_STREAMS, OPEN_SHARDS}
use Rattle.kds_defs.specs.declared.reply.Refusal.{Refusal}
use Rattle.kds_defs.specs.declared.reply.Reply.{Reply}
use Rattle.kds_defs.specs.Decision.{Decision, Accepted, refuse◌if◌else◌, with◌or◌then◌}
use Rattle.kds_defs.specs.Histories.{decide, decision, lines_of, journal, clock, with_stream}
use Rattle.kds_defs.specs.Journal.{Line, Journal, with_lines, plain_line}
use Rattle.kds_defs.specs.Kinds.{is_query, is_service}
use Rattle.kds_defs.specs.Lawful.{IsHistory, IsLawful, item_bytes}
use Rattle.kds_defs.specs.Legal.{IsReached}
use Rattle.kds_defs.specs.Listings.{more}
use Rattle.kds_defs.specs.Records.{next_number}
use Rattle.kds_defs.specs.Shards.{shards, shard_at, range_of, is_listed, open_count, home}
use Rattle.kds_defs.specs.PutCommands.{enforced_after, is_enforced, is_held_back, put, put_lines, put_many}
use Rattle.kds_defs.specs.Rates.{is_throttled, puts}
use Rattle.kds_defs.specs.StreamCommands.{create, put_line, split, merge, keep, is_open_at, last_number}
use Rattle.kds_defs.specs.Streams.{made_count, live_streams, stream_named}
use Rattle.kds_defs.proofs.Walk.{IsAdded, Alone, Creates, Enforces, each_line, query_idle}
use Rattle.kcl_drill.specs.Apart.{AreBasic, LEAST_RETENTION, is_basic, is_stream_entry, stream_lines, service_turns}
use Rattle.kcl_drill.proofs.Inner.{lease_basic}
use Rattle.kcl_drill.proofs.Readings.{enforced_same, forget, kept, made_count_same, hours_same, next_number_same}
use Rattle.kcl_drill.proofs.Readings.{home_same, length_same, range_same, open_same, live_same, named_same}
use Rattle.kcl_drill.proofs.Readings.{open_count_same, IsYoung, young_if_legal, listed_same}

-- ---- Two decisions that add the same lines

pub AddsSame : (ℕ → ℕ) → Decision → Decision → Type 0
AddsSame f d d' = map (forget f) (lines_of d) ≡ map (forget f) (lines_of d')

if_same : (f : ℕ → ℕ) (r r' : Refusal) (b b' : Bool) (d d' : Decision) → b ≡ b' → AddsSame f d d'
    → AddsSame f (refuse r if b else d) (refuse r' if b' else d')
unfolding refuse◌if◌else◌ AddsSame
if_same f r r' true true d d' is so = refl
if_same f r r' true false d d' is so = absurd cc
if_same f r r' false true d d' is so = absurd cc
if_same f r r' false false d d' is so = so

with_same : {A : Type 0} (f : ℕ → ℕ) (o o' : Option A) (r : Refusal) (d d' : A → Decision) → o ≡ o'
    → ((x : A) → AddsSame f (d x) (d' x))
    → AddsSame f (with o or r then d) (with o' or r then d')
unfolding with◌or◌then◌ AddsSame
with_same f None None r d d' is so = refl
with_same f None (Some x) r d d' is so = absurd cc
with_same f (Some x) None r d d' is so = absurd cc
with_same f (Some x) (Some y) r d d' is so = let e : x ≡ y = cc in so x ∙ ap (λ z. map (forget f) (lines_of (d' z))) e

lines_same : (f : ℕ → ℕ) (ls ls' : List Line) (r r' : Reply) → map (forget f) ls ≡ map (forget f) ls'
    → AddsSame f (Accepted ls r) (Accepted ls' r')
unfolding AddsSame
lines_same f ls ls' r r' is = is

queries_same : (f : ℕ → ℕ) (log log' : Journal) (c c' actor actor' : ℕ) (request : Command) → is_query request ≡ true
    → AddsSame f (decide log c actor request) (decide log' c' actor' request)
unfolding AddsSame
queries_same f log log' c c' actor actor' request query =
    ap (map (forget f)) (query_idle log c actor request query ∙ sym (query_idle log' c' actor' request query))

-- ---- The limits on throughput are off

-- No stream of the journal has its limits on throughput on.
abbrev pub IsCalm : Journal → Type 0
IsCalm log = (s : ℕ) → is_enforced log s ≡ false

not_held : (log : Journal) (c s : ℕ) (item : NewItem) → IsCalm log → is_held_back log c s item ≡ false
not_held log c s item calm =
    ap (λ b. b && is_throttled (puts log s (home log s item.hash)) c (item_bytes item)) (calm s)

calm_kept : (f : ℕ → ℕ) (log : Journal) → IsCalm log → IsCalm (kept f log)
calm_kept f log calm = λ s. sym (enforced_same f log s) ∙ calm s

-- ---- Puts

-- The line of a put into the stream `s` with its next sequence number.
abbrev put_next : Journal → ℕ → ℕ → ℕ → NewItem → Line
put_next log c actor s item = put_line log c actor s (next_number log s) item

-- The line of a put by the actor `actor` at the clock 0, into the shard `sh` with the sequence number `n`.
abbrev bare_put : ℕ → ℕ → ℕ → ℕ → NewItem → Line
bare_put actor s sh n item = record {
  clock = 0;
  by = actor;
  what = entry.Put s sh n item.hash (length item.payload) (length item.key);
  key = item.key;
  payload = item.payload;
}

taken : (log : Journal) (c actor s : ℕ) (item : NewItem) (items : List NewItem) → IsCalm log
    → put_lines log c actor s (item ∷ items) ≡ put_next log c actor s item
    ∷ put_lines (put_next log c actor s item ∷ log) c actor s items
taken log c actor s item items calm =
    ap (λ b. if b then put_lines log c actor s items else put_next log c actor s item
    ∷ put_lines (put_next log c actor s item ∷ log) c actor s items)
    (not_held log c s item calm)

module _ (f : ℕ → ℕ) (c actor actor' : ℕ) (alike : f actor ≡ actor') (again : f actor ≡ f actor') where
  line_by : (log : Journal) (s n : ℕ) (item : NewItem) → f actor ≡ n
      → forget f (put_next log c actor s item)
      ≡ bare_put n s (home (kept f log) s item.hash) (next_number (kept f log) s) item
  line_by log s n item is =
      ap (λ sh. bare_put (f actor) s sh (next_number log s) item) (home_same f log s item.hash)
      ∙ ap (λ m. bare_put (f actor) s (home (kept f log) s item.hash) m item) (next_number_same f log s)
      ∙ ap (λ k. bare_put k s (home (kept f log) s item.hash) (next_number (kept f log) s) item) is

  line_same : (log : Journal) (s : ℕ) (item : NewItem)
      → forget f (put_next log c actor s item) ≡ put_next (kept f log) 0 actor' s item
  line_same log s item = line_by log s actor' item alike

  line_same_twice : (log : Journal) (s : ℕ) (item : NewItem)
      → forget f (put_next log c actor s item) ≡ forget f (put_next (kept f log) 0 actor' s item)
  line_same_twice log s item = line_by log s (f actor') item again

  pub put_lines_same : (items : List NewItem) (log : Journal) (s : ℕ) → IsCalm log
      → map (forget f) (put_lines log c actor s items) ≡ map (forget f) (put_lines (kept f log) 0 actor' s items)
  put_lines_same [] log s calm = refl
  put_lines_same (item ∷ items) log s calm =
      let line = put_next log c actor s item in
      let line' = put_next (kept f log) 0 actor' s item in
      ap (map (forget f)) (taken log c actor s item items calm)
      ∙ ap (λ ls. forget f line ∷ ls) (put_lines_same items (line ∷ log) s calm)
      ∙ ap (λ l. forget f line ∷ map (forget f) (put_lines (l ∷ kept f log) 0 actor' s items)) (line_same log s item)
      ∙ ap (λ l. l ∷ map (forget f) (put_lines (line' ∷ kept f log) 0 actor' s items)) (line_same_twice log s item)
      ∙ ap (map (forget f)) (sym (taken (kept f log) 0 actor' s item items (calm_kept f log calm)))

same_length : (f : ℕ → ℕ) (ls ls' : List Line) → map (forget f) ls ≡ map (forget f) ls' → length ls ≡ length ls'
same_length f ls ls' is = sym (length-map ls (forget f)) ∙ ap length is ∙ length-map ls' (forget f)

-- ---- The commands that change streams

-- The journal whose only line has the clock 0, the actor `actor` and the entry `e`.
abbrev line_of : ℕ → Entry → Journal
line_of actor e = plain_line 0 actor e ∷ []

-- With no limits on and clocks below 24 hours, each command adds the same lines to `log` and `kept f log`.
module _ (f : ℕ → ℕ) (log : Journal) (c actor actor' : ℕ) (young : IsYoung log) (calm : IsCalm log)
    (below : c < LEAST_RETENTION) (kept_by : f actor ≡ actor')
    (alike : f actor ≡ f actor') where
  create_same : (name : List ℕ) (count : ℕ)
      → AddsSame f (create log c actor name count) (create (kept f log) 0 actor' name count)
  create_same name count =
      if_same _ _ _ _ _ _ _ (ap is_some (named_same f log name))
      (if_same _ _ _ _ _ _ _
      (ap (λ ss. nat_le LIVE_STREAMS (length ss) || nat_lt OPEN_SHARDS (open_count log + count)) (live_same f log)
      ∙ ap (λ n. nat_le LIVE_STREAMS (length (live_streams (kept f log))) || nat_lt OPEN_SHARDS (n + count))
      (open_count_same f log))
      (if_same _ _ _ _ _ _ _ (ap (λ n. n == last_number) (made_count_same f log))
      (lines_same _ _ _ _ _
      (ap (λ n. line_of (f actor) (entry.Made (n + 1) name count)) (made_count_same f log)
      ∙ ap (λ n. line_of n (entry.Made (made_count (kept f log) + 1) name count)) alike))))

  put_same : (s : ℕ) (item : NewItem) → AddsSame f (put log c actor s item) (put (kept f log) 0 actor' s item)
  put_same s item =
      if_same _ _ _ _ _ _ _ (not_held log c s item calm ∙ sym (not_held (kept f log) 0 s item (calm_kept f log calm)))
      (if_same _ _ _ _ _ _ _ (ap (λ n. n == last_number) (next_number_same f log s))
      (lines_same _ _ _ _ _ (ap (λ l. l ∷ []) (line_same_twice f c actor actor' kept_by alike log s item))))

  put_many_same : (s : ℕ) (items : List NewItem)
      → AddsSame f (put_many log c actor s items) (put_many (kept f log) 0 actor' s items)
  put_many_same s items =
      let same = put_lines_same f c actor actor' kept_by alike items log s calm in
      if_same _ _ _ _ _ _ _
      (ap (λ n. nat_lt last_number (n + length (put_lines log c actor s items))) (next_number_same f log s)
      ∙ ap (λ n. nat_lt last_number (next_number (kept f log) s + n)) (same_length f _ _ same))
      (lines_same _ _ _ _ _ same)

  listed : (s sh : ℕ) → is_listed log c s sh ≡ is_listed (kept f log) 0 s sh
  listed s sh = listed_same f log c 0 s sh young below (omega arith)

  split_same : (s sh hash : ℕ) → AddsSame f (split log c actor s sh hash) (split (kept f log) 0 actor' s sh hash)
  split_same s sh hash =
      let S = kept f log in
      let count = length_same f log s in
      let number = next_number_same f log s in
      if_same _ _ _ _ _ _ _ (ap not (listed s sh))
      (if_same _ _ _ _ _ _ _ (ap not (open_same f log s sh))
      (if_same _ _ _ _ _ _ _ (ap (λ r. not (is_inside r hash)) (range_same f log s sh))
      (if_same _ _ _ _ _ _ _ (ap (nat_le OPEN_SHARDS) (open_count_same f log))
      (if_same _ _ _ _ _ _ _
      (ap (λ n. nat_lt last_number (n + 1) || next_number log s == last_number) count
      ∙ ap (λ n. nat_lt last_number (length (shards S s) + 1) || n == last_number) number)
      (lines_same _ _ _ _ _
      (ap (λ n. line_of (f actor) (entry.Split s sh hash n (length (shards log s)) (length (shards log s) + 1))) number
      ∙ ap (λ n. line_of (f actor) (entry.Split s sh hash (next_number S s) n (n + 1))) count
      ∙ ap (λ n. line_of n (entry.Split s sh hash (next_number S s) (length (shards S s)) (length (shards S s) + 1)))
      alike))))))

  merge_same : (s sh other : ℕ) → AddsSame f (merge log c actor s sh other) (merge (kept f log) 0 actor' s sh other)
  merge_same s sh other =
      let S = kept f log in
      let count = length_same f log s in
      let number = next_number_same f log s in
      if_same _ _ _ _ _ _ _ (ap (λ b. not (b && is_listed log c s other)) (listed s sh)
      ∙ ap (λ b. not (is_listed S 0 s sh && b)) (listed s other))
      (if_same _ _ _ _ _ _ _
      (ap (λ b. not (b && is_open_at (shard_at log s other))) (open_same f log s sh)
      ∙ ap (λ b. not (is_open_at (shard_at S s sh) && b)) (open_same f log s other))
      (if_same _ _ _ _ _ _ _
      (ap (λ r. not (are_adjacent r (range_of (shard_at log s other)))) (range_same f log s sh)
      ∙ ap (λ r. not (are_adjacent (range_of (shard_at S s sh)) r)) (range_same f log s other))
      (if_same _ _ _ _ _ _ _
      (ap (λ n. nat_lt last_number n || next_number log s == last_number) count
      ∙ ap (λ n. nat_lt last_number (length (shards S s)) || n == last_number) number)
      (lines_same _ _ _ _ _ (ap (λ n. line_of (f actor) (entry.Merged s sh other n (length (shards log s)))) number
      ∙ ap (λ n. line_of (f actor) (entry.Merged s sh other (next_number S s) n)) count
      ∙ ap (λ n. line_of n (entry.Merged s sh other (next_number S s) (length (shards S s)))) alike)))))

  keep_same : (s wanted : ℕ) (raise : Bool)
      → AddsSame f (keep log c actor s wanted raise) (keep (kept f log) 0 actor' s wanted raise)
  keep_same s wanted raise =
      if_same _ _ _ _ _ _ _ (ap (λ n. if raise then nat_lt wanted n else nat_lt n wanted) (hours_same f log s))
      (lines_same _ _ _ _ _ (ap (λ n. line_of n (entry.Kept s wanted)) alike))

  in_stream_same : (name : List ℕ) (d d' : ℕ → Decision) → ((s : ℕ) → AddsSame f (d s) (d' s))
      → AddsSame f (with_stream log name d) (with_stream (kept f log) name d')
  in_stream_same name d d' so = with_same _ (stream_named log name) _ _ d d' (named_same f log name) so

  pub decide_same : (request : Command) → is_service request ≡ true → is_basic request ≡ true
      → AddsSame f (decide log c actor request) (decide (kept f log) 0 actor' request)
  decide_same (command.Create name count) is basic = create_same name count
  decide_same (command.Delete name) is basic =
      in_stream_same name _ _ (λ s. lines_same _ _ _ _ _ (ap (λ n. line_of n (entry.Gone s)) alike))
  decide_same (command.Put name item) is basic = in_stream_same name _ _ (λ s. put_same s item)
  decide_same (command.PutMany name items) is basic = in_stream_same name _ _ (λ s. put_many_same s items)
  decide_same (command.Split name sh hash) is basic = in_stream_same name _ _ (λ s. split_same s sh hash)
  decide_same (command.Merge name sh other) is basic = in_stream_same name _ _ (λ s. merge_same s sh other)
  decide_same (command.Keep name wanted raise) is basic = in_stream_same name _ _ (λ s. keep_same s wanted raise)
  decide_same request is basic = queries_same f log (kept f log) c 0 actor actor' request cc

-- ---- Which lines a command adds

-- The line is about a stream exactly if `b`, and turns no limits on or off.
abbrev IsOf : Bool → Line → Type 0
IsOf b l = (is_stream_entry l.what ≡ b) × ((s : ℕ) (is_on : Bool) → enforced_after l.what s is_on ≡ is_on)

-- `IsOf b` is true of each line.
abbrev AreOf : Bool → List Line → Type 0
AreOf b ls = AllByRecursion (IsOf b) ls

kind : (log : Journal) (c actor : ℕ) (request : Command) (line : Line) → IsAdded log c actor request line
    → is_basic request ≡ true
    → IsOf (is_service request) line
kind log c actor _ _ (Alone _ _ _ (Creates name count fits)) basic = (refl, λ s is_on. refl)
kind log c actor _ _ (Alone _ _ _ (Enforces name is s named)) basic = absurd cc
kind log c actor _ _ _ basic = (refl, λ s is_on. refl)

adds_kind : (log : Journal) (c actor : ℕ) (request : Command) → is_basic request ≡ true
    → AreOf (is_service request) (lines_of (decide log c actor request))
adds_kind log c actor request basic =
    each_line (IsOf (is_service request)) log c actor request (λ line added. kind log c actor request line added basic)

service_adds : (log : Journal) (c actor : ℕ) (request : Command) → is_service request ≡ true → is_basic request ≡ true
    → AreOf true (lines_of (decide log c actor request))
service_adds log c actor request is basic =
    subst (λ b. AreOf b (lines_of (decide log c actor request))) is (adds_kind log c actor request basic)

lease_adds : (log : Journal) (c actor : ℕ) (request : Command) → is_service request ≡ false
    → AreOf false (lines_of (decide log c actor request))
lease_adds log c actor request is =
    subst (λ b. AreOf b (lines_of (decide log c actor request))) is
    (adds_kind log c actor request (lease_basic request is))

adds_lines : (f : ℕ → ℕ) (ls : List Line) (log : Journal) → AreOf true ls
    → kept f (with_lines ls log) ≡ with_lines (map (forget f) ls) (kept f log)
adds_lines f [] log are = refl
adds_lines f (line ∷ ls) log are =
    let rest = filter (λ l. is_stream_entry l.what) log in
    adds_lines f ls (line ∷ log) are.1
    ∙ ap (λ b. with_lines (map (forget f) ls) (map (forget f) (cond b (line ∷ rest) rest))) are.0.0

adds_none : (f : ℕ → ℕ) (ls : List Line) (log : Journal) → AreOf false ls → kept f (with_lines ls log) ≡ kept f log
adds_none f [] log are = refl
adds_none f (line ∷ ls) log are =
    let rest = filter (λ l. is_stream_entry l.what) log in
    adds_none f ls (line ∷ log) are.1 ∙ ap (λ b. map (forget f) (cond b (line ∷ rest) rest)) are.0.0

calm_lines : (b : Bool) (ls : List Line) (log : Journal) → AreOf b ls → IsCalm log → IsCalm (with_lines ls log)
calm_lines b [] log are calm = calm
calm_lines b (line ∷ ls) log are calm = calm_lines b ls (line ∷ log) are.1 (λ s. are.0.1 s (is_enforced log s) ∙ calm s)

-- ---- All turns of a history

-- A command, with the value of a function `f` for the actor who sent it.
pub record Asked : Type 0 where
  pub by : ℕ
  pub what : Command

-- The commands for the stream service in `h`, each with the value of `f` for its actor.
abbrev pub asked : (ℕ → ℕ) → List Turn → List Asked
asked f h = map (λ turn. record { by = f turn.by; what = turn.what }) (service_turns h)

-- The lines of the commands after `forget`, each decided at the clock 0 after the earlier lines.
abbrev left_by : (ℕ → ℕ) → List Asked → Journal
left_by f [] = []
left_by f (a ∷ more) = with_lines (map (forget f) (lines_of (decide (left_by f more) 0 a.by a.what))) (left_by f more)

-- The law, taken as given, that a history's journal is legal and not later than the history's clock.
abbrev pub Reaches : Type 0
Reaches = (h : List Turn) → IsHistory h → IsReached (journal h) (clock h)

calm_turn : (turn : Turn) (h : List Turn) → is_basic turn.what ≡ true → IsCalm (journal h) → IsCalm (journal (turn ∷ h))
calm_turn turn h basic calm = either (is_service turn.what) refl
  where
    either : (b : Bool) → is_service turn.what ≡ b → IsCalm (journal (turn ∷ h))
    either true is =
        calm_lines true (lines_of (decision (journal h) (clock (turn ∷ h)) turn)) (journal h)
        (service_adds (journal h) (clock (turn ∷ h)) turn.by turn.what is basic) calm
    either false is =
        calm_lines false (lines_of (decision (journal h) (clock (turn ∷ h)) turn)) (journal h)
        (lease_adds (journal h) (clock (turn ∷ h)) turn.by turn.what is) calm

calm_history : (h : List Turn) → AreBasic h → IsCalm (journal h)
calm_history [] basic = λ s. refl
calm_history (turn ∷ h) basic = calm_turn turn h basic.0 (calm_history h basic.1)

-- Applying `f` twice gives the same as applying it once.
module _ (reaches : Reaches) (f : ℕ → ℕ) (once : (n : ℕ) → f n ≡ f (f n)) where
  young : (h : List Turn) → IsHistory h → clock h < LEAST_RETENTION → IsYoung (journal h)
  young h lawful below =
      let reached = reaches h lawful in
      young_if_legal (journal h) reached.legal (omega (arith, reached.order, below))

  service_turn : (turn : Turn) (h : List Turn) → IsHistory h → AreBasic (turn ∷ h) → clock (turn ∷ h) < LEAST_RETENTION
      → is_service turn.what ≡ true
      → kept f (journal (turn ∷ h))
      ≡ with_lines (map (forget f) (lines_of (decide (kept f (journal h)) 0 (f turn.by) turn.what)))
      (kept f (journal h))
  unfolding AddsSame
  service_turn turn h lawful basic below is =
      adds_lines f (lines_of (decision (journal h) (clock (turn ∷ h)) turn)) (journal h)
      (service_adds (journal h) (clock (turn ∷ h)) turn.by turn.what is basic.0)
      ∙ ap (λ ls. with_lines ls (kept f (journal h)))
      (decide_same f (journal h) (clock (turn ∷ h)) turn.by (f turn.by) (young h lawful (omega arith))
      (calm_history h basic.1) below refl
      (once turn.by) turn.what is basic.0)

  lease_turn : (turn : Turn) (h : List Turn) → is_service turn.what ≡ false
      → kept f (journal (turn ∷ h)) ≡ kept f (journal h)
  lease_turn turn h is =
      adds_none f (lines_of (decision (journal h) (clock (turn ∷ h)) turn)) (journal h)
      (lease_adds (journal h) (clock (turn ∷ h)) turn.by turn.what is)

  pub left : (h : List Turn) → IsHistory h → AreBasic h → clock h < LEAST_RETENTION
      → kept f (journal h) ≡ left_by f (asked f h)
  left [] lawful basic below = refl
  left (turn ∷ h) lawful basic below =
      either (is_service turn.what) refl (left h lawful.1 basic.1 (omega arith))
    where
      either : (b : Bool) → is_service turn.what ≡ b → kept f (journal h) ≡ left_by f (asked f h)
          → kept f (journal (turn ∷ h))
          ≡ left_by f (map (λ t. record { by = f t.by; what = t.what })
          (cond b (turn ∷ service_turns h) (service_turns h)))
      either true is so =
          service_turn turn h lawful.1 basic below is
          ∙ ap (λ S. with_lines (map (forget f) (lines_of (decide S 0 (f turn.by) turn.what))) S) so
      either false is so = lease_turn turn h is ∙ so

  -- Two histories with the same commands for the stream service (`asked`) leave the same lines on streams.
  pub same_left : (h h' : List Turn) → IsHistory h → IsHistory h' → AreBasic h → AreBasic h' → clock h < LEAST_RETENTION
      → clock h' < LEAST_RETENTION
      → asked f h ≡ asked f h' → kept f (journal h) ≡ kept f (journal h')
  same_left h h' lawful lawful' basic basic' below below' is =
      left h lawful basic below ∙ ap (left_by f) is ∙ sym (left h' lawful' basic' below')

-- ---- The turns of the stream service alone

pub lawful_service : (h : List Turn) → IsHistory h → IsHistory (service_turns h)
lawful_service h lawful = all_filter IsLawful (λ turn. is_service turn.what) h lawful

pub basic_service : (h : List Turn) → AreBasic h → AreBasic (service_turns h)
basic_service h basic = all_filter (λ turn. is_basic turn.what ≡ true) (λ turn. is_service turn.what) h basic

not_later : (h : List Turn) → clock (service_turns h) ≤ clock h
not_later [] = omega arith
not_later (turn ∷ h) =
    let so = not_later h in
    cond_both (is_service turn.what) (turn ∷ service_turns h) (service_turns h) (λ ts. clock ts ≤ max (clock h) turn.at)
    (λ asks. omega arith) (λ other. omega arith)

pub services_twice : (h : List Turn) → service_turns h ≡ service_turns (service_turns h)
services_twice [] = refl
services_twice (turn ∷ h) = either (is_service turn.what) refl (services_twice h)
  where
    either : (b : Bool) → is_service turn.what ≡ b → service_turns h ≡ service_turns (service_turns h)
        → cond b (turn ∷ service_turns h) (service_turns h)
        ≡ service_turns (cond b (turn ∷ service_turns h) (service_turns h))
    either true is so = ap (λ ts. turn ∷ ts) so
        ∙ ap (λ b. cond b (turn ∷ service_turns (service_turns h)) (service_turns (service_turns h))) (sym is)
    either false is so = so

-- Below 24 hours, turns on leases don't change the lines on streams.
pub alone : Reaches → (h : List Turn) → IsHistory h → AreBasic h → clock h < LEAST_RETENTION
    → stream_lines (journal h) ≡ stream_lines (journal (service_turns h))
alone reaches h lawful basic below =
    same_left reaches (λ n. n) (λ n. refl) h (service_turns h) lawful (lawful_service h lawful) basic
    (basic_service h basic) below
    (omega (arith, below, not_later h))
    (ap (map (λ turn. record { by = turn.by; what = turn.what })) (services_twice h))
