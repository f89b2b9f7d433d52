-- Each command leads to one of five outcomes; what must hold of every command is proved for these.
use Rattle.std.proofs.Common.{◌≡◌, ◌⊎◌, inl, inr, ℕ, Bool, true, false, List, [], ◌∷◌, map, length, Option, Some, None}
use Rattle.std.proofs.Common.{refl, subst}
use Rattle.std.specs.Prelude.{◌+◌, ◌==◌, ◌&&◌, ◌||◌, not, nat_lt, Result, Ok, Err, if◌then◌else◌}
use Rattle.std.specs.List.{AllByRecursion}
use Rattle.kds_base.specs.declared.lease_key.ShardRef.{ShardRef}
use Rattle.kds_defs.specs.declared.command.Command.{Command}
use Rattle.kds_defs.specs.declared.command.Command.TheVariants as command
use Rattle.kds_defs.specs.declared.command.NewItem.{NewItem}
use Rattle.kds_defs.specs.declared.command.Origin.{Origin}
use Rattle.kds_defs.specs.declared.command.Start.{Start}
use Rattle.kds_defs.specs.declared.command.Target.{Target}
use Rattle.kds_defs.specs.declared.command.Turn.{Turn}
use Rattle.kds_defs.specs.declared.entry.Entry.TheVariants as entry
use Rattle.kds_defs.specs.declared.limits.TheConstants.{OPEN_SHARDS}
use Rattle.kds_defs.specs.declared.reply.About.{About}
use Rattle.kds_defs.specs.declared.reply.Iter.{Iter}
use Rattle.kds_defs.specs.declared.reply.Page.{Page}
use Rattle.kds_defs.specs.declared.reply.Refusal.{Refusal}
use Rattle.kds_defs.specs.declared.reply.Reply.{Reply}
use Rattle.kds_defs.specs.declared.reply.Reply.TheVariants as reply
use Rattle.kds_defs.specs.declared.reply.Row.{Row}
use Rattle.kds_defs.specs.declared.reply.Shard.{Shard}
use Rattle.kds_defs.specs.declared.reply.Stored.{Stored}
use Rattle.kds_defs.specs.declared.scale.ScaleStep.{ScaleStep}
use Rattle.kds_defs.specs.declared.scale.ScaleStep.TheVariants.{Join, Cut}
use Rattle.kds_defs.specs.Decision.{Decision, Accepted, refuse◌if◌else◌, with◌or◌then◌}
use Rattle.kds_defs.specs.Histories.{answer_of, clock, decide, decision, journal, lines_of}
use Rattle.kds_defs.specs.Journal.{Line, Journal, plain_line, with_lines}
use Rattle.kds_defs.specs.Kinds.{is_lease_refusal, is_query, is_service, is_service_refusal}
use Rattle.kds_defs.specs.LeaseCommands.{counting_origin}
use Rattle.kds_defs.specs.Leases.{TenureState, counter_in, delivered, reach, row, taken_count, tenure, with_given}
use Rattle.kds_defs.specs.Listings.{behind, ends_at, iterator_at, records_reply}
use Rattle.kds_defs.specs.PutCommands.{is_held_back, put_lines, put_outcomes}
use Rattle.kds_defs.specs.Records.{batch, left_from, next_number, numbers_of, stored}
use Rattle.kds_defs.specs.ScaleCommands.{made_by, open_elsewhere, step_lines, steps_to}
use Rattle.kds_defs.specs.Shards.{children, is_listed, open_shards, shard_at, shards, shown}
use Rattle.kds_defs.specs.StreamCommands.{last_number, put_line, put_place}
use Rattle.kds_defs.specs.Streams.{hours, made_count, stream_named}
use Rattle.kds_defs.proofs.Leads.{Leads, if_none, if_refused, leads_so, past_the_parents, past_the_target}

-- ---- The outcomes

-- The records are the batch of a read from some shard, at some position, limit and clock.
pub record AreRead (log : Journal) (rs : List Stored) : Type 0 where
  pub clock : ℕ
  pub stream : ℕ
  pub shard : ℕ
  pub position : ℕ
  pub limit : ℕ
  pub are : map stored (batch log clock stream shard position limit) ≡ rs

-- The command only reads, adds no line, and gets a reply of its kind.
pub data Shows (log : Journal) : Command → Reply → Type 0 where
  Lists_streams : (after : Option (List ℕ)) (limit : ℕ) (names : List (List ℕ)) (more : Bool)
      → Shows log (command.Streams after limit) (reply.Streams names more)
  Describes : (name : List ℕ) (after : Option ℕ) (limit : ℕ) (about : About) (xs : List Shard) (more : Bool)
      → Shows log (command.Describe name after limit) (reply.Described about xs more)
  Sums_up : (name : List ℕ) (about : About) (count : ℕ) → Shows log (command.Summary name) (reply.Summary about count)
  Lists_shards : (name : List ℕ) (after : Option ℕ) (limit : ℕ) (xs : List Shard) (next : Option Page)
      → Shows log (command.Shards name after limit) (reply.Shards xs next)
  Goes_on : (page : Page) (limit : ℕ) (xs : List Shard) (next : Option Page)
      → Shows log (command.More page limit) (reply.Shards xs next)
  Begins : (name : List ℕ) (sh : ℕ) (start : Start) (iter : Iter)
      → Shows log (command.GetIterator name sh start) (reply.Iterator iter)
  Gets : (iter : Iter) (limit : ℕ) (rs : List Stored) (next : Option Iter) (late : ℕ) (xs : List Shard) → AreRead log rs
      → Shows log (command.Records iter limit) (reply.Records rs next late xs)
  Surveys : (keys : List ShardRef) (rows : List Row) → Shows log command.Survey (reply.Survey keys rows)

-- The command adds one line; each case states the line, the reply, and tests that the command passed.
pub data Tells (log : Journal) (c actor : ℕ) : Command → Line → Reply → Type 0 where
  Creates : (name : List ℕ) (count : ℕ) → (made_count log == last_number) ≡ false
      → Tells log c actor (command.Create name count) (plain_line c actor (entry.Made (made_count log + 1) name count))
      reply.Done
  Deletes : (name : List ℕ) (s : ℕ) → stream_named log name ≡ Some s
      → Tells log c actor (command.Delete name) (plain_line c actor (entry.Gone s)) reply.Done
  Puts : (name : List ℕ) (item : NewItem) (s : ℕ) → stream_named log name ≡ Some s
      → (next_number log s == last_number) ≡ false
      → Tells log c actor (command.Put name item) (put_line log c actor s (next_number log s) item)
      (reply.Put (put_place log s (next_number log s) item))
  Splits : (name : List ℕ) (sh hash s : ℕ) → stream_named log name ≡ Some s → not (is_listed log c s sh) ≡ false
      → (nat_lt last_number (length (shards log s) + 1) || next_number log s == last_number) ≡ false
      → Tells log c actor (command.Split name sh hash)
      (plain_line c actor (entry.Split s sh hash (next_number log s) (length (shards log s))
      (length (shards log s) + 1)))
      reply.Done
  Merges : (name : List ℕ) (sh other s : ℕ) → stream_named log name ≡ Some s
      → not (is_listed log c s sh && is_listed log c s other) ≡ false
      → (nat_lt last_number (length (shards log s)) || next_number log s == last_number) ≡ false
      → Tells log c actor (command.Merge name sh other)
      (plain_line c actor (entry.Merged s sh other (next_number log s) (length (shards log s)))) reply.Done
  Keeps : (name : List ℕ) (wanted : ℕ) (raise : Bool) (s : ℕ) → stream_named log name ≡ Some s
      → (if raise then nat_lt wanted (hours log s) else nat_lt (hours log s) wanted) ≡ false
      → Tells log c actor (command.Keep name wanted raise) (plain_line c actor (entry.Kept s wanted)) reply.Done
  Enforces : (name : List ℕ) (is_on : Bool) (s : ℕ) → stream_named log name ≡ Some s
      → Tells log c actor (command.Enforce name is_on) (plain_line c actor (entry.Enforced s is_on)) reply.Done
  Makes : (key : ShardRef) (origin : Origin)
      → Tells log c actor (command.MakeLease key origin)
      (plain_line c actor (entry.LeaseMade key (counting_origin log key origin)))
      (reply.Leased (counting_origin log key origin))
  Takes : (key : ShardRef) (counter owner : ℕ) (r : Row) → row log key ≡ Some r → not (r.counter == counter) ≡ false
      → (r.counter == last_number || taken_count log == last_number) ≡ false
      → Tells log c actor (command.Take key counter owner)
      (plain_line c actor (entry.Taken key (taken_count log + 1) (r.counter + 1) owner))
      (reply.Taken (taken_count log + 1) (r.counter + 1) r.checkpoint)
  Renews : (t counter : ℕ) (T : TenureState) → tenure log t ≡ Some T
      → not (counter_in (row log T.key) == counter) ≡ false
      → (counter_in (row log T.key) == last_number) ≡ false
      → Tells log c actor (command.Renew t counter) (plain_line c actor (entry.Renewed t (counter + 1)))
      (reply.Counter (counter + 1))
  Frees : (t counter : ℕ) (T : TenureState) → tenure log t ≡ Some T
      → not (counter_in (row log T.key) == counter) ≡ false
      → (counter_in (row log T.key) == last_number) ≡ false
      → Tells log c actor (command.Free t counter) (plain_line c actor (entry.Freed t (counter + 1)))
      (reply.Counter (counter + 1))
  Opens : (t : ℕ) → Tells log c actor (command.OpenShard t) (plain_line c actor (entry.Opened t)) reply.Done
  Reads : (t position limit : ℕ) (T : TenureState) (place : ℕ) (ended : Bool) → tenure log t ≡ Some T
      → not (position == reach T) ≡ false
      → Tells log c actor (command.Read t position limit)
      (plain_line c actor (entry.Read t limit ended
      (numbers_of (batch log c T.key.stream T.key.shard (reach T) limit))))
      (reply.Read (map stored (batch log c T.key.stream T.key.shard (reach T) limit)) place ended)
  Gives : (t : ℕ) (T : TenureState) → tenure log t ≡ Some T
      → Tells log c actor (command.Give t) (plain_line c actor (entry.Given t)) (reply.Given (delivered (with_given T)))
  Marks : (t counter : ℕ) (target : Target) (T : TenureState) → tenure log t ≡ Some T
      → not (counter_in (row log T.key) == counter) ≡ false
      → (counter_in (row log T.key) == last_number) ≡ false
      → Tells log c actor (command.Mark t counter target) (plain_line c actor (entry.Marked t (counter + 1) target))
      (reply.Counter (counter + 1))
  Cuts : (key : ShardRef) (counter : ℕ)
      → Tells log c actor (command.CutLease key counter) (plain_line c actor (entry.LeaseCut key counter)) reply.Done

-- Whether the command may get the refusal: one of its own kind, the service's or the leases'.
abbrev pub may_refuse : Command → Refusal → Bool
may_refuse asked r = if is_service asked then is_service_refusal r else is_lease_refusal r

-- What a command leads to, with its lines and answer: refused, without lines, one line, puts, or a scaling.
pub data Outcome (log : Journal) (c actor : ℕ) : Command → List Line → Result Reply Refusal → Type 0 where
  Refuses : (asked : Command) (r : Refusal) → may_refuse asked r ≡ true → Outcome log c actor asked [] (Err r)
  Answers : (asked : Command) (r : Reply) → Shows log asked r → Outcome log c actor asked [] (Ok r)
  Adds : (asked : Command) (line : Line) (r : Reply) → Tells log c actor asked line r
      → Outcome log c actor asked (line ∷ []) (Ok r)
  Stores : (name : List ℕ) (items : List NewItem) (s : ℕ) → stream_named log name ≡ Some s
      → nat_lt last_number (next_number log s + length (put_lines log c actor s items)) ≡ false
      → Outcome log c actor (command.PutMany name items) (put_lines log c actor s items)
      (Ok (reply.PutMany (put_outcomes log c actor s items)))
  Scales : (name : List ℕ) (goal s : ℕ) → stream_named log name ≡ Some s
      → nat_lt OPEN_SHARDS (open_elsewhere log s + goal) ≡ false
      → (nat_lt last_number (next_number log s + length (steps_to log s goal))
      || nat_lt last_number (length (shards log s) + made_by (steps_to log s goal))) ≡ false
      → Outcome log c actor (command.Scale name goal) (step_lines log c actor s (steps_to log s goal))
      (Ok (reply.Scaled name (length (open_shards log s)) goal
      (map (λ line. line.what) (step_lines log c actor s (steps_to log s goal)))))

-- ---- Each command leads to one of these outcomes

module _ (log : Journal) (c actor : ℕ) where
  Is : Command → List Line → Result Reply Refusal → Type 0
  Is asked = Outcome log c actor asked

  no : (asked : Command) (r : Refusal) (b : Bool) (d : Decision) → may_refuse asked r ≡ true
      → (b ≡ false → Leads (Is asked) d)
      → Leads (Is asked) (refuse r if b else d)
  unfolding Is
  no asked r b d may next = if_refused (Is asked) r b d (Refuses asked r may) next

  on : {A : Type 0} (asked : Command) (r : Refusal) (o : Option A) (d : A → Decision) → may_refuse asked r ≡ true
      → ((x : A) → o ≡ Some x → Leads (Is asked) (d x)) → Leads (Is asked) (with o or r then d)
  unfolding Is
  on asked r o d may next = if_none (Is asked) r o d (Refuses asked r may) next

  answer : (asked : Command) (r : Reply) → Shows log asked r → Leads (Is asked) (Accepted [] r)
  unfolding Is
  answer asked r is = Answers asked r is

  one : (asked : Command) (line : Line) (r : Reply) → Tells log c actor asked line r
      → Leads (Is asked) (Accepted (line ∷ []) r)
  unfolding Is
  one asked line r tells = Adds asked line r tells

  either : (asked : Command) (b : Bool) (x y : Reply) → Shows log asked x → Shows log asked y
      → Leads (Is asked) (Accepted [] (if b then x else y))
  either asked true x y is other = answer asked x is
  either asked false x y is other = answer asked y other

  are_read : (s sh place limit : ℕ) → AreRead log (map stored (batch log c s sh place limit))
  are_read s sh place limit = record { clock = c; stream = s; shard = sh; position = place; limit = limit; are = refl }

  records : (iter : Iter) (limit place : ℕ)
      → Leads (Is (command.Records iter limit))
      (records_reply log c iter.stream iter.shard (batch log c iter.stream iter.shard iter.position limit) place)
  records iter limit place =
      let rs : List Stored = map stored (batch log c iter.stream iter.shard iter.position limit) in
      let late = behind c (left_from log c iter.stream iter.shard place) in
      let are = are_read iter.stream iter.shard iter.position limit in
      either (command.Records iter limit) (ends_at log c iter.stream iter.shard place)
      (reply.Records rs None late (map shown (children log iter.stream iter.shard)))
      (reply.Records rs (Some (iterator_at c iter.stream iter.shard place)) late []) (Gets iter limit rs _ _ _ are)
      (Gets iter limit rs _ _ _ are)

  led : (asked : Command) → Leads (Is asked) (decide log c actor asked)
  unfolding Is
  led (command.Create name count) =
      no _ _ _ _ refl (λ a. no _ _ _ _ refl (λ b. no _ _ _ _ refl (λ fits. one _ _ _ (Creates name count fits))))
  led (command.Delete name) = on _ _ _ _ refl (λ s named. one _ _ _ (Deletes name s named))
  led (command.Streams after limit) = answer _ _ (Lists_streams after limit _ _)
  led (command.Describe name after limit) = on _ _ _ _ refl (λ s named. answer _ _ (Describes name after limit _ _ _))
  led (command.Summary name) = on _ _ _ _ refl (λ s named. answer _ _ (Sums_up name _ _))
  led (command.Shards name after limit) = on _ _ _ _ refl (λ s named. answer _ _ (Lists_shards name after limit _ _))
  led (command.More page limit) = no _ _ _ _ refl (λ a. no _ _ _ _ refl (λ b. answer _ _ (Goes_on page limit _ _)))
  led (command.GetIterator name sh start) =
      on _ _ _ _ refl (λ s named.
      no _ _ _ _ refl (λ a. on _ _ _ _ refl (λ x hash. no _ _ _ _ refl (λ b. answer _ _ (Begins name sh start _)))))
  led (command.Records iter limit) =
      no _ _ _ _ refl (λ a. no _ _ _ _ refl (λ b. no _ _ _ _ refl (λ d. records iter limit _)))
  led (command.Put name item) =
      on _ _ _ _ refl (λ s named.
      no _ _ _ _ refl (λ a. no _ _ _ _ refl (λ fits. one _ _ _ (Puts name item s named fits))))
  led (command.PutMany name items) =
      on _ _ _ _ refl (λ s named. no _ _ _ _ refl (λ fits. Stores name items s named fits))
  led (command.Split name sh hash) =
      on _ _ _ _ refl (λ s named.
      no _ _ _ _ refl (λ listed.
      no _ _ _ _ refl (λ a. no _ _ _ _ refl (λ b. no _ _ _ _ refl (λ d. no _ _ _ _ refl (λ fits.
      one _ _ _ (Splits name sh hash s named listed fits)))))))
  led (command.Merge name sh other) =
      on _ _ _ _ refl (λ s named.
      no _ _ _ _ refl (λ listed. no _ _ _ _ refl (λ a. no _ _ _ _ refl (λ b. no _ _ _ _ refl (λ fits.
      one _ _ _ (Merges name sh other s named listed fits))))))
  led (command.Keep name wanted raise) =
      on _ _ _ _ refl (λ s named. no _ _ _ _ refl (λ fits. one _ _ _ (Keeps name wanted raise s named fits)))
  led (command.Scale name goal) =
      on _ _ _ _ refl (λ s named. no _ _ _ _ refl (λ few. no _ _ _ _ refl (λ fits. Scales name goal s named few fits)))
  led (command.Enforce name is) = on _ _ _ _ refl (λ s named. one _ _ _ (Enforces name is s named))
  led command.Survey = answer _ _ (Surveys _ _)
  led (command.MakeLease key start) = no _ _ _ _ refl (λ a. no _ _ _ _ refl (λ b. one _ _ _ (Makes key start)))
  led (command.Take key counter owner) =
      on _ _ _ _ refl (λ r there. no _ _ _ _ refl (λ same. no _ _ _ _ refl (λ a. no _ _ _ _ refl (λ fits.
      one _ _ _ (Takes key counter owner r there same fits)))))
  led (command.Renew t counter) =
      on _ _ _ _ refl (λ T begun.
      no _ _ _ _ refl (λ a. no _ _ _ _ refl (λ b. no _ _ _ _ refl (λ same. no _ _ _ _ refl (λ fits.
      one _ _ _ (Renews t counter T begun same fits))))))
  led (command.Free t counter) =
      on _ _ _ _ refl (λ T begun.
      no _ _ _ _ refl (λ a. no _ _ _ _ refl (λ b. no _ _ _ _ refl (λ same. no _ _ _ _ refl (λ fits.
      one _ _ _ (Frees t counter T begun same fits))))))
  led (command.OpenShard t) =
      let opened : Leads (Is (command.OpenShard t)) (Accepted (plain_line c actor (entry.Opened t) ∷ []) reply.Done) =
      one _ _ _ (Opens t) in
      on _ _ _ _ refl (λ T begun.
      no _ _ _ _ refl (λ a. no _ _ _ _ refl (λ b. no _ _ _ _ refl (λ d. no _ _ _ _ refl (λ e.
      past_the_parents (Is (command.OpenShard t)) (Refuses (command.OpenShard t)) log c T.key.stream
      (shard_at log T.key.stream T.key.shard)
      (Accepted (plain_line c actor (entry.Opened t) ∷ []) reply.Done) opened)))))
  led (command.Read t position limit) =
      on _ _ _ _ refl (λ T begun.
      no _ _ _ _ refl (λ a.
      no _ _ _ _ refl (λ b. no _ _ _ _ refl (λ d. no _ _ _ _ refl (λ e. no _ _ _ _ refl (λ same.
      one _ _ _ (Reads t position limit T _ _ begun same)))))))
  led (command.Give t) =
      on _ _ _ _ refl (λ T begun. no _ _ _ _ refl (λ a. no _ _ _ _ refl (λ b. one _ _ _ (Gives t T begun))))
  led (command.Mark t counter target) =
      on _ _ _ _ refl (λ T begun. no _ _ _ _ refl (λ a. no _ _ _ _ refl (λ b. no _ _ _ _ refl (λ same.
      past_the_target (Is (command.Mark t counter target)) (Refuses (command.Mark t counter target)) log T target _
      (no _ _ _ _ refl (λ fits.
      one _ _ _ (Marks t counter target T begun same fits)))))))
  led (command.CutLease key counter) =
      on _ _ _ _ refl (λ r there. no _ _ _ _ refl (λ a. no _ _ _ _ refl (λ b. one _ _ _ (Cuts key counter))))

  pub walk : (asked : Command)
      → Outcome log c actor asked (lines_of (decide log c actor asked)) (answer_of (decide log c actor asked))
  unfolding Is
  walk asked = leads_so (Is asked) (decide log c actor asked) (led asked)

  pub accepted : (asked : Command) (lines : List Line) (r : Reply) → decide log c actor asked ≡ Accepted lines r
      → Outcome log c actor asked lines (Ok r)
  unfolding Is
  accepted asked lines r is = subst (Leads (Is asked)) is (led asked)

-- ---- Each line that a command adds

-- The item is in the list.
abbrev pub IsAmong : List NewItem → NewItem → Type 0
IsAmong [] item = ⊥
IsAmong (x ∷ items) item = (x ≡ item) ⊎ IsAmong items item

pub of_all : (P : NewItem → Type 0) (items : List NewItem) (item : NewItem) → IsAmong items item
    → AllByRecursion P items → P item
of_all P [] item among all = absurd among
of_all P (x ∷ items) item (inl same) all = subst P same all.0
of_all P (x ∷ items) item (inr among) all = of_all P items item among all.1

-- A line that the command may add: its only one, an item's of PutRecords, or a merge's or split's of a scaling.
pub data IsAdded (log : Journal) (c actor : ℕ) : Command → Line → Type 0 where
  Alone : (asked : Command) (line : Line) (r : Reply) → Tells log c actor asked line r → IsAdded log c actor asked line
  Stored_one : (name : List ℕ) (items : List NewItem) (old : Journal) (s number : ℕ) (item : NewItem)
      → IsAmong items item
      → IsAdded log c actor (command.PutMany name items) (put_line old c actor s number item)
  Joined : (name : List ℕ) (goal s sh other number child : ℕ)
      → IsAdded log c actor (command.Scale name goal) (plain_line c actor (entry.Merged s sh other number child))
  Divided : (name : List ℕ) (goal s sh hash number low high : ℕ)
      → IsAdded log c actor (command.Scale name goal) (plain_line c actor (entry.Split s sh hash number low high))

module _ (P : Line → Type 0) (c actor s : ℕ) where
  pub each_put : (items : List NewItem) (log : Journal)
      → ((old : Journal) (n : ℕ) (item : NewItem) → IsAmong items item → P (put_line old c actor s n item))
      → AllByRecursion P (put_lines log c actor s items)
  each_put [] log each = tt
  each_put (item ∷ items) log each =
      let line : Line = put_line log c actor s (next_number log s) item in
      let rest : (old : Journal) → AllByRecursion P (put_lines old c actor s items) =
      λ old. each_put items old (λ b n x is. each b n x (inr is)) in
      kept (is_held_back log c s item) line _ _ (each log (next_number log s) item (inl refl)) (rest log)
      (rest (line ∷ log))
    where
      kept : (back : Bool) (line : Line) (xs ys : List Line) → P line → AllByRecursion P xs → AllByRecursion P ys
          → AllByRecursion P (if back then xs else line ∷ ys)
      kept true line xs ys is skip take = skip
      kept false line xs ys is skip take = (is, take)

  pub each_step : (steps : List ScaleStep) (log : Journal)
      → ((sh other n child : ℕ) → P (plain_line c actor (entry.Merged s sh other n child)))
      → ((sh hash n low high : ℕ) → P (plain_line c actor (entry.Split s sh hash n low high)))
      → AllByRecursion P (step_lines log c actor s steps)
  each_step [] log joined divided = tt
  each_step (Join b ∷ steps) log joined divided = (joined _ _ _ _, each_step steps _ joined divided)
  each_step (Cut b ∷ steps) log joined divided = (divided _ _ _ _ _, each_step steps _ joined divided)

each_of : (P : Line → Type 0) (log : Journal) (c actor : ℕ) (asked : Command) (lines : List Line)
    (answer : Result Reply Refusal)
    → Outcome log c actor asked lines answer → ((line : Line) → IsAdded log c actor asked line → P line)
    → AllByRecursion P lines
each_of P log c actor _ _ _ (Refuses asked r may) each = tt
each_of P log c actor _ _ _ (Answers asked r is) each = tt
each_of P log c actor _ _ _ (Adds asked line r tells) each = (each line (Alone asked line r tells), tt)
each_of P log c actor _ _ _ (Stores name items s named fits) each =
    each_put P c actor s items log (λ old n item among. each _ (Stored_one name items old s n item among))
each_of P log c actor _ _ _ (Scales name goal s named few fits) each =
    each_step P c actor s (steps_to log s goal) log (λ sh other n child. each _ (Joined name goal s sh other n child))
    (λ sh hash n low high. each _ (Divided name goal s sh hash n low high))

idle : (log : Journal) (c actor : ℕ) (asked : Command) (lines : List Line) (answer : Result Reply Refusal)
    → Outcome log c actor asked lines answer
    → is_query asked ≡ true → lines ≡ []
idle log c actor _ _ _ (Refuses asked r may) query = refl
idle log c actor _ _ _ (Answers asked r shows) query = refl
idle log c actor _ _ _ (Adds _ _ _ (Creates name count fits)) query = absurd cc
idle log c actor _ _ _ _ query = absurd cc

pub query_idle : (log : Journal) (c actor : ℕ) (asked : Command) → is_query asked ≡ true
    → lines_of (decide log c actor asked) ≡ []
query_idle log c actor asked = idle log c actor asked _ _ (walk log c actor asked)

pub each_line : (P : Line → Type 0) (log : Journal) (c actor : ℕ) (asked : Command)
    → ((line : Line) → IsAdded log c actor asked line → P line)
    → AllByRecursion P (lines_of (decide log c actor asked))
each_line P log c actor asked each = each_of P log c actor asked _ _ (walk log c actor asked) each

-- ---- The lines of a journal

pub all_with : (P : Line → Type 0) (lines : List Line) (log : Journal) → AllByRecursion P lines → AllByRecursion P log
    → AllByRecursion P (with_lines lines log)
all_with P [] log new old = old
all_with P (line ∷ lines) log new old = all_with P lines (line ∷ log) new.1 (new.0, old)

-- What holds of each line that a turn may add holds of each line of the journal.
pub each_journal : (P : Line → Type 0) (Q : Turn → Type 0)
    → ((log : Journal) (c : ℕ) (turn : Turn) → Q turn → (line : Line) → IsAdded log c turn.by turn.what line → P line)
    → (h : List Turn) → AllByRecursion Q h → AllByRecursion P (journal h)
each_journal P Q each [] are = tt
each_journal P Q each (turn ∷ h) are =
    let d = decision (journal h) (clock (turn ∷ h)) turn in
    all_with P (lines_of d) (journal h)
    (each_line P (journal h) (clock (turn ∷ h)) turn.by turn.what (each (journal h) (clock (turn ∷ h)) turn are.0))
    (each_journal P Q each h are.1)
