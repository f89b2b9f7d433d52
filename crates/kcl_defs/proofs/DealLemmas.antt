-- An actor's accepted reads and Gives are the reads and gives of its own tenures in the journal.
use Rattle.std.proofs.Common.{◌≡◌, ℕ, ◌+◌, ◌<◌, Bool, true, false, List, [], ◌∷◌, ◌++◌, Option, Some, None, Ok, Err}
use Rattle.std.proofs.Common.{refl, sym, ap, subst, ◌∙◌, arith}
use Rattle.std.specs.Prelude.{◌==◌, cond, if◌then◌else◌, Result, map}
use Rattle.std.specs.List.{AllByRecursion}
use Rattle.std.specs.Option.{option_map}
use Rattle.std.proofs.lemmas.Bool.Decides.{nat_tests}
use Rattle.std.proofs.lemmas.List.{append-nil}
use Rattle.std.proofs.lemmas.Bool.{or_from, not-false}
use Rattle.kds_base.specs.declared.lease_key.Checkpoint.{Checkpoint}
use Rattle.kds_base.specs.declared.lease_key.ShardRef.{ShardRef}
use Rattle.kds_base.proofs.Facts.{plus_none, equal_so, apart as apart_tests}
use Rattle.kds_defs.specs.declared.command.Command.{Command}
use Rattle.kds_defs.specs.declared.command.Command.TheVariants as command
use Rattle.kds_defs.specs.declared.command.Turn.{Turn}
use Rattle.kcl_defs.specs.declared.consumer.Fetched.{Fetched}
use Rattle.kds_defs.specs.declared.entry.Entry.{Entry}
use Rattle.kds_defs.specs.declared.entry.Entry.TheVariants as entry
use Rattle.kds_defs.specs.declared.reply.Refusal.{Refusal}
use Rattle.kds_defs.specs.declared.reply.Reply.{Reply}
use Rattle.kds_defs.specs.declared.reply.Reply.TheVariants as reply
use Rattle.kds_defs.specs.declared.reply.Stored.{Stored}
use Rattle.kds_defs.specs.Decision.{Decision, refuse◌if◌else◌, with◌or◌then◌}
use Rattle.kds_defs.specs.Histories.{decide, lines_of, answer_of, journal, clock, answer}
use Rattle.kds_defs.specs.Journal.{Line, Journal, with_lines}
use Rattle.kds_defs.specs.Leases.{TenureState, tenure, tenure_after, taken_count, taken_count_after, new_tenure}
use Rattle.kds_defs.specs.Leases.{with_opened, with_read, with_given, row, checkpoint_in, reach, delivered}
use Rattle.kds_defs.specs.LeaseCommands.{take_lease, open_shard, read, give}
use Rattle.kds_defs.specs.Listings.{ends_at}
use Rattle.kcl_defs.specs.Lives.{Deal, deals_of, reads_of, reads_in, gives_of, gives_in, give_in}
use Rattle.kds_defs.specs.Records.{Logged, stored, numbers_of, batch, position_after}
use Rattle.kds_defs.specs.Shards.{shard_at}
use Rattle.kds_defs.proofs.Counted.{numbers_stored}
use Rattle.kds_defs.proofs.Leads.{Leads, leads_so, past_none, past_test, past_the_parents}
use Rattle.kds_defs.proofs.Walk.{Outcome, IsAdded, Alone, Answers, Adds, Creates, Takes, Surveys, each_line, walk}
use Rattle.kcl_defs.proofs.KnownLemmas.{IsQuiet, flip}
use Rattle.kcl_defs.proofs.FineLemmas.{AreNewTenures, IsNewTenure, begins, was_taken}
use Rattle.kcl_defs.specs.WorkerLives.{read_done, AreOfTenure}

-- ---- Lines that change no tenure

-- The entry changes no tenure.
abbrev pub IsStill : Entry → Type 0
IsStill (entry.Taken key tenure counter owner) = ⊥
IsStill (entry.Opened tenure) = ⊥
IsStill (entry.Read tenure limit ended numbers) = ⊥
IsStill (entry.Given tenure) = ⊥
IsStill _ = Unit {0}

-- None of the lines changes a tenure.
abbrev pub AreStill : List Line → Type 0
AreStill lines = AllByRecursion (λ line. IsStill line.what) lines

still_tenure : (log : Journal) (line : Line) (change : Entry) (t : ℕ) (old : Option TenureState) → IsStill change
    → tenure_after log line change t old ≡ old
still_tenure log line (entry.Taken key tenure counter owner) t old h = absurd h
still_tenure log line (entry.Opened tenure) t old h = absurd h
still_tenure log line (entry.Read tenure limit ended numbers) t old h = absurd h
still_tenure log line (entry.Given tenure) t old h = absurd h
still_tenure log line _ t old h = refl

still_tenures : (lines : List Line) (log : Journal) (t : ℕ) → AreStill lines
    → tenure (with_lines lines log) t ≡ tenure log t
still_tenures [] log t h = refl
still_tenures (line ∷ lines) log t h =
    still_tenures lines (line ∷ log) t h.1 ∙ still_tenure log line line.what t (tenure log t) h.0

-- The lines change no tenure, and the answer begins none.
pub record LeavesTenures (lines : List Line) (answer : Result Reply Refusal) : Type 0 where
  pub lines_still : AreStill lines
  pub begins_none : (t : ℕ) → begins t answer ≡ false

-- The command can't change a tenure.
abbrev pub TouchesNone : Command → Type 0
TouchesNone (command.Take key counter owner) = ⊥
TouchesNone (command.OpenShard t) = ⊥
TouchesNone (command.Read t position limit) = ⊥
TouchesNone (command.Give t) = ⊥
TouchesNone _ = Unit {0}

still_told : (log : Journal) (c actor : ℕ) (asked : Command) (line : Line) → IsAdded log c actor asked line
    → TouchesNone asked
    → IsStill line.what
still_told log c actor _ _ (Alone _ _ _ (Creates name count fits)) h = tt
still_told log c actor _ _ _ h = h

begins_not : (log : Journal) (c actor : ℕ) (asked : Command) (lines : List Line) (answer : Result Reply Refusal)
    → Outcome log c actor asked lines answer
    → TouchesNone asked → (t : ℕ) → begins t answer ≡ false
begins_not log c actor _ _ _ (Answers _ _ (Surveys keys rows)) h t = refl
begins_not log c actor _ _ _ (Adds _ _ _ (Takes key counter owner r there same fits)) h t = absurd h
begins_not log c actor _ _ _ _ h t = refl

command_leaves : (log : Journal) (c actor : ℕ) (asked : Command) → TouchesNone asked
    → LeavesTenures (lines_of (decide log c actor asked)) (answer_of (decide log c actor asked))
command_leaves log c actor asked h = record {
  lines_still = each_line (λ line. IsStill line.what) log c actor asked
      (λ line is. still_told log c actor asked line is h);
  begins_none = begins_not log c actor asked _ _ (walk log c actor asked) h;
}

-- ---- An actor's reads and gives are those of its tenures

-- The actor's accepted reads and Gives of tenure `t` match the tenure if it is the actor's, and are none otherwise.
abbrev pub AgreeWith : ℕ → ℕ → List Deal → Option TenureState → Type 0
AgreeWith actor t deals None = (was_taken t deals ≡ false) × (reads_in t deals ≡ []) × (gives_in t deals ≡ 0)
AgreeWith actor t deals (Some T) =
    ((T.by == actor) ≡ true → (map read_done (reads_in t deals) ≡ T.reads) × (gives_in t deals ≡ T.given))
    × ((T.by == actor) ≡ false → (reads_in t deals ≡ []) × (gives_in t deals ≡ 0))

agree_still : (actor t : ℕ) (deal : Deal) (deals : List Deal) (o : Option TenureState) → begins t deal.answer ≡ false
    → reads_of t deal.what deal.answer ≡ []
    → gives_of t deal.what deal.answer ≡ 0 → AgreeWith actor t deals o → AgreeWith actor t (deal ∷ deals) o
agree_still actor t deal deals None b r g h = (
  or_from (begins t deal.answer) (was_taken t deals) b h.0,
  ap (λ rs. reads_in t deals ++ rs) r ∙ append-nil (reads_in t deals) ∙ h.1,
  ap (λ n. gives_in t deals + n) g ∙ plus_none (gives_in t deals) ∙ h.2,
)
agree_still actor t deal deals (Some T) b r g h =
    let same_reads : reads_in t (deal ∷ deals) ≡ reads_in t deals =
    ap (λ rs. reads_in t deals ++ rs) r ∙ append-nil (reads_in t deals) in
    let same_gives : gives_in t (deal ∷ deals) ≡ gives_in t deals =
    ap (λ n. gives_in t deals + n) g ∙ plus_none (gives_in t deals) in (
      λ e. (ap (λ rs. map read_done rs) same_reads ∙ (h.0 e).0, same_gives ∙ (h.0 e).1),
      λ e. (same_reads ∙ (h.1 e).0, same_gives ∙ (h.1 e).1),
    )

same_none : (b : Bool) → cond {A = Option TenureState} b None None ≡ None
same_none true = refl
same_none false = refl

none_of : {o : Option TenureState} (f : TenureState → TenureState) (b : Bool) → o ≡ None
    → cond b (option_map f o) o ≡ None
none_of f b h = ap (λ o. cond b (option_map f o) o) h ∙ same_none b

agree_still_some : (actor t : ℕ) (deal : Deal) (deals : List Deal) (T : TenureState)
    → reads_of t deal.what deal.answer ≡ [] → gives_of t deal.what deal.answer ≡ 0
    → AgreeWith actor t deals (Some T) → AgreeWith actor t (deal ∷ deals) (Some T)
agree_still_some actor t deal deals T r g h =
    let same_reads : reads_in t (deal ∷ deals) ≡ reads_in t deals =
    ap (λ rs. reads_in t deals ++ rs) r ∙ append-nil (reads_in t deals) in
    let same_gives : gives_in t (deal ∷ deals) ≡ gives_in t deals =
    ap (λ n. gives_in t deals + n) g ∙ plus_none (gives_in t deals) in (
      λ e. (ap (λ rs. map read_done rs) same_reads ∙ (h.0 e).0, same_gives ∙ (h.0 e).1),
      λ e. (same_reads ∙ (h.1 e).0, same_gives ∙ (h.1 e).1),
    )

unborn_at : (log : Journal) (line : Line) (change : Entry) (t : ℕ) → (taken_count log < t → tenure log t ≡ None)
    → taken_count_after change (taken_count log) < t
    → tenure_after log line change t (tenure log t) ≡ None
unborn_at log line (entry.Taken key which counter owner) t is_before h =
    ap (λ b. cond b (Some (new_tenure line.by key (checkpoint_in (row log key)))) (tenure_at log t))
    (apart (taken_count log) t h)
    ∙ is_before (below (taken_count log) t h)
  where
    tenure_at : Journal → ℕ → Option TenureState
    tenure_at log t = tenure log t

    apart : (n t : ℕ) → n + 1 < t → (t == n + 1) ≡ false
    apart n t h = grind (arith, nat_tests)

    below : (n t : ℕ) → n + 1 < t → n < t
    below n t h = omega arith
unborn_at log line (entry.Opened which) t is_before h = none_of with_opened (which == t) (is_before h)
unborn_at log line (entry.Read which limit ended numbers) t is_before h =
    none_of (with_read numbers ended) (which == t) (is_before h)
unborn_at log line (entry.Given which) t is_before h = none_of with_given (which == t) (is_before h)
unborn_at log line _ t is_before h = is_before h

pub unborn : (log : Journal) (t : ℕ) → taken_count log < t → tenure log t ≡ None
unborn [] t h = refl
unborn (line ∷ log) t h = unborn_at log line line.what t (λ l. unborn log t l) h

-- ---- One turn

-- The actor's commands agree with each tenure of the journal, and began no other.
abbrev pub AllAgree : ℕ → List Deal → Journal → Type 0
AllAgree actor deals log = (t : ℕ) → AgreeWith actor t deals (tenure log t)

-- The commands with one more answered command as the newest.
abbrev with_answer : Command → Result Reply Refusal → List Deal → List Deal
with_answer asked answer deals = record { what = asked; answer = answer } ∷ deals

-- The actor's commands agree with tenure `t` after its further command.
abbrev OwnAgrees : ℕ → Command → List Deal → Journal → ℕ → List Line → Result Reply Refusal → Type 0
OwnAgrees actor asked deals log t lines answer =
    AgreeWith actor t (with_answer asked answer deals) (tenure (with_lines lines log) t)

-- The actor's commands agree with tenure `t` after another actor's turn.
abbrev OtherAgrees : ℕ → List Deal → Journal → ℕ → List Line → Result Reply Refusal → Type 0
OtherAgrees actor deals log t lines answer = AgreeWith actor t deals (tenure (with_lines lines log) t)

pub own_actor : (a b d : ℕ) → (a == b) ≡ true → (b == d) ≡ true → (a == d) ≡ true
own_actor a b d h g = grind (arith, nat_tests)

other_actor : (a b d : ℕ) → (a == b) ≡ true → (b == d) ≡ false → (a == d) ≡ false
other_actor a b d h g = grind (arith, nat_tests)

nothing_yet : (actor : ℕ) (deals : List Deal) (log : Journal) → AllAgree actor deals log
    → (was_taken (taken_count log + 1) deals ≡ false) × (reads_in (taken_count log + 1) deals ≡ [])
    × (gives_in (taken_count log + 1) deals ≡ 0)
nothing_yet actor deals log h =
    subst (λ o. AgreeWith actor (taken_count log + 1) deals o)
    (unborn log (taken_count log + 1) (above (taken_count log)))
    (h (taken_count log + 1))
  where
    above : (n : ℕ) → n < n + 1
    above n = omega arith

own_refused : (actor : ℕ) (asked : Command) (deals : List Deal) (log : Journal) (t : ℕ) (r : Refusal)
    → reads_of t asked (Err r) ≡ [] → gives_of t asked (Err r) ≡ 0
    → AllAgree actor deals log → OwnAgrees actor asked deals log t [] (Err r)
own_refused actor asked deals log t r no_read no_give h =
    agree_still actor t (record { what = asked; answer = Err r }) deals (tenure log t) refl no_read no_give (h t)

-- ---- Take

agree_new : (sender t actor : ℕ) (key : ShardRef) (start : Checkpoint) (deals : List Deal) → reads_in t deals ≡ []
    → gives_in t deals ≡ 0
    → AgreeWith sender t deals (Some (new_tenure actor key start))
agree_new sender t actor key start deals r g = (λ e. (ap (λ rs. map read_done rs) r, g), λ e. (r, g))

begun : (sender actor : ℕ) (key : ShardRef) (start : Checkpoint) (t n : ℕ) (deals : List Deal)
    (old : Option TenureState)
    (b : Bool) → (t == n) ≡ b
    → (was_taken n deals ≡ false) × (reads_in n deals ≡ []) × (gives_in n deals ≡ 0)
    → (b ≡ false → AgreeWith sender t deals old)
    → (b ≡ true → (reads_in t deals ≡ []) × (gives_in t deals ≡ 0)
    → AgreeWith sender t deals (Some (new_tenure actor key start)))
    → AgreeWith sender t deals (cond b (Some (new_tenure actor key start)) old)
begun sender actor key start t n deals old true e nothing same new =
    let u : t ≡ n = equal_so t n e in
    new refl (subst (λ m. reads_in m deals ≡ []) (sym u) nothing.1, subst (λ m. gives_in m deals ≡ 0) (sym u) nothing.2)
begun sender actor key start t n deals old false e nothing same new = same refl

begun_own : (sender actor : ℕ) (key : ShardRef) (asked : Command) (checkpoint start : Checkpoint) (t n counter : ℕ)
    (deals : List Deal) (old : Option TenureState)
    (b : Bool) → (t == n) ≡ b → IsQuiet asked → (was_taken n deals ≡ false) × (reads_in n deals ≡ [])
    × (gives_in n deals ≡ 0) → AgreeWith sender t deals old
    → AgreeWith sender t (with_answer asked (Ok (reply.Taken n counter checkpoint)) deals)
    (cond b (Some (new_tenure actor key start)) old)
begun_own sender actor key asked checkpoint start t n counter deals old true e quiet nothing h =
    let u : t ≡ n = equal_so t n e in
    let q = quiet t (Ok (reply.Taken n counter checkpoint)) in
    agree_still_some sender t (record { what = asked; answer = Ok (reply.Taken n counter checkpoint) }) deals
    (new_tenure actor key start) q.0 q.1
    (agree_new sender t actor key start deals (subst (λ m. reads_in m deals ≡ []) (sym u) nothing.1)
    (subst (λ m. gives_in m deals ≡ 0) (sym u) nothing.2))
begun_own sender actor key asked checkpoint start t n counter deals old false e quiet nothing h =
    let q = quiet t (Ok (reply.Taken n counter checkpoint)) in
    agree_still sender t (record { what = asked; answer = Ok (reply.Taken n counter checkpoint) }) deals old
    (flip n t e)
    q.0 q.1 h

take_own : (sender actor c : ℕ) (key : ShardRef) (counter owner : ℕ) (deals : List Deal) (log : Journal) (t : ℕ)
    → AllAgree sender deals log
    → Leads (OwnAgrees sender (command.Take key counter owner) deals log t) (take_lease log c actor key counter owner)
take_own sender actor c key counter owner deals log t h =
    let P : List Line → Result Reply Refusal → Type 0 = OwnAgrees sender (command.Take key counter owner) deals log t in
    let refused : (r : Refusal) → P [] (Err r) =
    λ r. own_refused sender (command.Take key counter owner) deals log t r refl refl h in
    past_none P refused _ _ _
    (λ r e. past_test P refused _ _ _ (λ a. past_test P refused _ _ _ (λ b. past_test P refused _ _ _ (λ d.
    begun_own sender actor key (command.Take key counter owner) r.checkpoint (checkpoint_in (row log key)) t
    (taken_count log + 1) (r.counter + 1) deals
    (tenure log t) (t == taken_count log + 1) refl (λ u x. (refl, refl)) (nothing_yet sender deals log h) (h t)))))

begun_other : (sender actor : ℕ) (key : ShardRef) (start : Checkpoint) (t n : ℕ) (deals : List Deal)
    (old : Option TenureState) (b : Bool) → (t == n) ≡ b
    → (was_taken n deals ≡ false) × (reads_in n deals ≡ []) × (gives_in n deals ≡ 0) → AgreeWith sender t deals old
    → AgreeWith sender t deals (cond b (Some (new_tenure actor key start)) old)
begun_other sender actor key start t n deals old true e nothing h =
    let u : t ≡ n = equal_so t n e in
    agree_new sender t actor key start deals (subst (λ m. reads_in m deals ≡ []) (sym u) nothing.1)
    (subst (λ m. gives_in m deals ≡ 0) (sym u) nothing.2)
begun_other sender actor key start t n deals old false e nothing h = h

take_other : (sender actor c : ℕ) (key : ShardRef) (counter owner : ℕ) (deals : List Deal) (log : Journal) (t : ℕ)
    → AllAgree sender deals log
    → Leads (OtherAgrees sender deals log t) (take_lease log c actor key counter owner)
take_other sender actor c key counter owner deals log t h =
    let P : List Line → Result Reply Refusal → Type 0 = OtherAgrees sender deals log t in
    let refused : (r : Refusal) → P [] (Err r) = λ r. h t in
    past_none P refused _ _ _
    (λ r e. past_test P refused _ _ _ (λ a. past_test P refused _ _ _ (λ b. past_test P refused _ _ _ (λ d.
    begun_other sender actor key (checkpoint_in (row log key)) t (taken_count log + 1) deals (tenure log t)
    (t == taken_count log + 1) refl
    (nothing_yet sender deals log h) (h t)))))

-- ---- OpenShard

agree_opened : (actor t : ℕ) (deals : List Deal) (b : Bool) (o : Option TenureState) → AgreeWith actor t deals o
    → AgreeWith actor t deals (cond b (option_map with_opened o) o)
agree_opened actor t deals true None h = h
agree_opened actor t deals true (Some T) h = h
agree_opened actor t deals false o h = h

open_own : (sender actor c which : ℕ) (deals : List Deal) (log : Journal) (t : ℕ) → AllAgree sender deals log
    → Leads (OwnAgrees sender (command.OpenShard which) deals log t) (open_shard log c actor which)
open_own sender actor c which deals log t h =
    let P : List Line → Result Reply Refusal → Type 0 = OwnAgrees sender (command.OpenShard which) deals log t in
    let refused : (r : Refusal) → P [] (Err r) =
    λ r. own_refused sender (command.OpenShard which) deals log t r refl refl h in
    past_none P refused _ _ _
    (λ T e. past_test P refused _ _ _
    (λ a. past_test P refused _ _ _ (λ b. past_test P refused _ _ _ (λ d. past_test P refused _ _ _ (λ f.
    past_the_parents P (λ r own. refused r) log c T.key.stream (shard_at log T.key.stream T.key.shard) _
    (agree_still sender t (record { what = command.OpenShard which; answer = Ok reply.Done }) deals
    (cond (which == t) (option_map with_opened (tenure log t)) (tenure log t)) refl refl refl
    (agree_opened sender t deals (which == t) (tenure log t) (h t))))))))

open_other : (sender actor c which : ℕ) (deals : List Deal) (log : Journal) (t : ℕ) → AllAgree sender deals log
    → Leads (OtherAgrees sender deals log t) (open_shard log c actor which)
open_other sender actor c which deals log t h =
    let P : List Line → Result Reply Refusal → Type 0 = OtherAgrees sender deals log t in
    let refused : (r : Refusal) → P [] (Err r) = λ r. h t in
    past_none P refused _ _ _
    (λ T e. past_test P refused _ _ _
    (λ a. past_test P refused _ _ _ (λ b. past_test P refused _ _ _ (λ d. past_test P refused _ _ _ (λ f.
    past_the_parents P (λ r own. refused r) log c T.key.stream (shard_at log T.key.stream T.key.shard) _
    (agree_opened sender t deals (which == t) (tenure log t) (h t)))))))

-- ---- Read

map-append : (xs ys : List Fetched) → map read_done (xs ++ ys) ≡ map read_done xs ++ map read_done ys
map-append [] ys = refl
map-append (x ∷ xs) ys = ap (λ l. read_done x ∷ l) (map-append xs ys)

agree_read : (actor t : ℕ) (deals : List Deal) (T : TenureState) (rs : List Logged) (ended : Bool) (asked : Command)
    (next : ℕ) → (T.by == actor) ≡ true
    → reads_of t asked (Ok (reply.Read (map stored rs) next ended)) ≡ record { batch = map stored rs; ended = ended }
    ∷ []
    → gives_of t asked (Ok (reply.Read (map stored rs) next ended)) ≡ 0 → AgreeWith actor t deals (Some T)
    → AgreeWith actor t (with_answer asked (Ok (reply.Read (map stored rs) next ended)) deals)
    (Some (with_read (numbers_of rs) ended T))
agree_read actor t deals T rs ended asked next own one none h = (
  λ e. (
    ap (λ xs. map read_done (reads_in t deals ++ xs)) one
        ∙ map-append (reads_in t deals) (record { batch = map stored rs; ended = ended } ∷ [])
        ∙ ap (λ xs. xs ++ (record { numbers = map (λ (r : Stored). r.seq) (map stored rs); ended = ended } ∷ []))
        (h.0 e).0
        ∙ ap (λ ns. T.reads ++ (record { numbers = ns; ended = ended } ∷ [])) (numbers_stored rs),
    ap (λ n. gives_in t deals + n) none ∙ plus_none (gives_in t deals) ∙ (h.0 e).1,
  ),
  λ e. absurd (apart_tests (T.by == actor) own e),
)

read_at : (sender actor which t position limit next : ℕ) (deals : List Deal) (old found : Option TenureState)
    (T : TenureState) (rs : List Logged)
    (ended : Bool) (b : Bool) → (which == t) ≡ b → (b ≡ true → old ≡ Some T) → (T.by == actor) ≡ true
    → (actor == sender) ≡ true → AgreeWith sender t deals old
    → AgreeWith sender t (with_answer (command.Read which position limit) (Ok (reply.Read (map stored rs) next ended))
    deals)
    (cond b (option_map (with_read (numbers_of rs) ended) old) old)
read_at sender actor which t position limit next deals old found T rs ended true e is a o h =
    let P : Option TenureState → Type 0 = λ x. AgreeWith sender t
    (with_answer (command.Read which position limit) (Ok (reply.Read (map stored rs) next ended)) deals)
    (option_map (with_read (numbers_of rs) ended) x) in
    subst P (sym (is refl))
    (agree_read sender t deals T rs ended (command.Read which position limit) next (own_actor T.by actor sender a o)
    (ap (λ c. cond c (record { batch = map stored rs; ended = ended } ∷ []) []) e) refl
    (subst (λ x. AgreeWith sender t deals x) (is refl) h))
read_at sender actor which t position limit next deals old found T rs ended false e is a o h =
    agree_still sender t (record {
      what = command.Read which position limit;
      answer = Ok (reply.Read (map stored rs) next ended);
    }) deals old refl
    (ap (λ c. cond c (record { batch = map stored rs; ended = ended } ∷ []) []) e) refl h

reads_refused : (which t position limit : ℕ) (r : Refusal) → reads_of t (command.Read which position limit) (Err r) ≡ []
reads_refused which t position limit r = choice (which == t)
  where
    choice : (b : Bool) → cond {A = List Fetched} b [] [] ≡ []
    choice true = refl
    choice false = refl

gives_refused : (which t : ℕ) (r : Refusal) → gives_of t (command.Give which) (Err r) ≡ 0
gives_refused which t r = choice (which == t)
  where
    choice : (b : Bool) → cond {A = ℕ} b 0 0 ≡ 0
    choice true = refl
    choice false = refl

same_tenure : (log : Journal) (which t : ℕ) (T : TenureState) → tenure log which ≡ Some T → (which == t) ≡ true
    → tenure log t ≡ Some T
same_tenure log which t T e h = subst (λ n. tenure log n ≡ Some T) (equal_so which t h) e

read_own : (sender actor c which position limit : ℕ) (deals : List Deal) (log : Journal) (t : ℕ)
    → (actor == sender) ≡ true
    → AllAgree sender deals log
    → Leads (OwnAgrees sender (command.Read which position limit) deals log t) (read log c actor which position limit)
read_own sender actor c which position limit deals log t own h =
    let P : List Line → Result Reply Refusal → Type 0 =
    OwnAgrees sender (command.Read which position limit) deals log t in
    let refused : (r : Refusal) → P [] (Err r) =
    λ r. own_refused sender (command.Read which position limit) deals log t r
    (reads_refused which t position limit r) refl h in
    past_none P refused _ _ _
    (λ T e. past_test P refused _ _ _
    (λ a. past_test P refused _ _ _
    (λ b. past_test P refused _ _ _ (λ d. past_test P refused _ _ _ (λ f. past_test P refused _ _ _ (λ g.
    let rs = batch log c T.key.stream T.key.shard (reach T) limit in
    read_at sender actor which t position limit (position_after (reach T) (numbers_of rs)) deals (tenure log t)
    None T rs
    (ends_at log c T.key.stream T.key.shard (position_after (reach T) (numbers_of rs))) (which == t) refl
    (λ x. same_tenure log which t T e x) (not-false (T.by == actor) a) own (h t)))))))

agree_other : (actor t : ℕ) (deals : List Deal) (T U : TenureState) → U.by ≡ T.by → (T.by == actor) ≡ false
    → AgreeWith actor t deals (Some T)
    → AgreeWith actor t deals (Some U)
agree_other actor t deals T U same other h =
    (λ e. absurd (apart_tests (T.by == actor) (ap (λ n. n == actor) (sym same) ∙ e) other), λ e. h.1 other)

other_at : (f : TenureState → TenureState) → ((T : TenureState) → (f T).by ≡ T.by)
    → (sender actor t : ℕ) (deals : List Deal) (old : Option TenureState) (T : TenureState) (b : Bool)
    → (b ≡ true → old ≡ Some T) → (T.by == actor) ≡ true
    → (actor == sender) ≡ false → AgreeWith sender t deals old
    → AgreeWith sender t deals (cond b (option_map f old) old)
other_at f keeps sender actor t deals old T true is a o h =
    let P : Option TenureState → Type 0 = λ x. AgreeWith sender t deals (option_map f x) in
    subst P (sym (is refl))
    (agree_other sender t deals T (f T) (keeps T) (other_actor T.by actor sender a o)
    (subst (λ x. AgreeWith sender t deals x) (is refl) h))
other_at f keeps sender actor t deals old T false is a o h = h

read_other : (sender actor c which position limit : ℕ) (deals : List Deal) (log : Journal) (t : ℕ)
    → (actor == sender) ≡ false
    → AllAgree sender deals log
    → Leads (OtherAgrees sender deals log t) (read log c actor which position limit)
read_other sender actor c which position limit deals log t other h =
    let P : List Line → Result Reply Refusal → Type 0 = OtherAgrees sender deals log t in
    let refused : (r : Refusal) → P [] (Err r) = λ r. h t in
    past_none P refused _ _ _
    (λ T e. past_test P refused _ _ _
    (λ a. past_test P refused _ _ _
    (λ b. past_test P refused _ _ _ (λ d. past_test P refused _ _ _ (λ f. past_test P refused _ _ _ (λ g.
    let rs = batch log c T.key.stream T.key.shard (reach T) limit in
    other_at (with_read (numbers_of rs)
    (ends_at log c T.key.stream T.key.shard (position_after (reach T) (numbers_of rs)))) (λ T. refl)
    sender actor t deals
    (tenure log t) T (which == t)
    (λ x. same_tenure log which t T e x) (not-false (T.by == actor) a) other (h t)))))))

-- ---- Give

agree_given : (actor t : ℕ) (deals : List Deal) (T : TenureState) (which n : ℕ) → (T.by == actor) ≡ true
    → gives_of t (command.Give which) (Ok (reply.Given n)) ≡ 1
    → AgreeWith actor t deals (Some T)
    → AgreeWith actor t (with_answer (command.Give which) (Ok (reply.Given n)) deals) (Some (with_given T))
agree_given actor t deals T which n own one h = (
  λ e. (
    ap (λ rs. map read_done rs) (append-nil (reads_in t deals)) ∙ (h.0 e).0,
    ap (λ m. gives_in t deals + m) one ∙ ap (λ m. m + 1) (h.0 e).1,
  ),
  λ e. absurd (apart_tests (T.by == actor) own e),
)

give_at : (sender actor which t n : ℕ) (deals : List Deal) (old : Option TenureState) (T : TenureState) (b : Bool)
    → (which == t) ≡ b
    → (b ≡ true → old ≡ Some T) → (T.by == actor) ≡ true → (actor == sender) ≡ true → AgreeWith sender t deals old
    → AgreeWith sender t (with_answer (command.Give which) (Ok (reply.Given n)) deals)
    (cond b (option_map with_given old) old)
give_at sender actor which t n deals old T true e is a o h =
    let P : Option TenureState → Type 0 =
    λ x. AgreeWith sender t (with_answer (command.Give which) (Ok (reply.Given n)) deals) (option_map with_given x) in
    subst P (sym (is refl)) (agree_given sender t deals T which n (own_actor T.by actor sender a o)
    (ap (λ c. cond c (give_in (Ok (reply.Given n))) 0) e) (subst (λ x. AgreeWith sender t deals x) (is refl) h))
give_at sender actor which t n deals old T false e is a o h =
    agree_still sender t (record { what = command.Give which; answer = Ok (reply.Given n) }) deals old refl refl
    (ap (λ c. cond c (give_in (Ok (reply.Given n))) 0) e) h

give_own : (sender actor c which : ℕ) (deals : List Deal) (log : Journal) (t : ℕ) → (actor == sender) ≡ true
    → AllAgree sender deals log
    → Leads (OwnAgrees sender (command.Give which) deals log t) (give log c actor which)
give_own sender actor c which deals log t own h =
    let P : List Line → Result Reply Refusal → Type 0 = OwnAgrees sender (command.Give which) deals log t in
    let refused : (r : Refusal) → P [] (Err r) =
    λ r. own_refused sender (command.Give which) deals log t r refl (gives_refused which t r) h in
    past_none P refused _ _ _ (λ T e. past_test P refused _ _ _ (λ a. past_test P refused _ _ _ (λ b.
    give_at sender actor which t (delivered (with_given T)) deals (tenure log t) T (which == t) refl
    (λ x. same_tenure log which t T e x) (not-false (T.by == actor) a) own (h t))))

give_other : (sender actor c which : ℕ) (deals : List Deal) (log : Journal) (t : ℕ) → (actor == sender) ≡ false
    → AllAgree sender deals log
    → Leads (OtherAgrees sender deals log t) (give log c actor which)
give_other sender actor c which deals log t other h =
    let P : List Line → Result Reply Refusal → Type 0 = OtherAgrees sender deals log t in
    let refused : (r : Refusal) → P [] (Err r) = λ r. h t in
    past_none P refused _ _ _ (λ T e. past_test P refused _ _ _ (λ a. past_test P refused _ _ _ (λ b.
    other_at with_given (λ T. refl) sender actor t deals (tenure log t) T (which == t)
    (λ x. same_tenure log which t T e x) (not-false (T.by == actor) a) other (h t))))

-- ---- Any command

quiet_command : (asked : Command) → TouchesNone asked → IsQuiet asked
quiet_command (command.Take key counter owner) h = absurd h
quiet_command (command.OpenShard t) h = absurd h
quiet_command (command.Read t position limit) h = absurd h
quiet_command (command.Give t) h = absurd h
quiet_command _ h = λ u a. (refl, refl)

leaves_own : (sender c actor : ℕ) (asked : Command) (deals : List Deal) (log : Journal) (t : ℕ) → TouchesNone asked
    → AllAgree sender deals log → (d : Decision)
    → LeavesTenures (lines_of d) (answer_of d) → OwnAgrees sender asked deals log t (lines_of d) (answer_of d)
leaves_own sender c actor asked deals log t touches h d l =
    let q = quiet_command asked touches t (answer_of d) in
    subst (λ o. AgreeWith sender t (with_answer asked (answer_of d) deals) o)
    (sym (still_tenures (lines_of d) log t l.lines_still))
    (agree_still sender t (record { what = asked; answer = answer_of d }) deals (tenure log t) (l.begins_none t) q.0 q.1
    (h t))

leaves_other : (sender c actor : ℕ) (deals : List Deal) (log : Journal) (t : ℕ) → AllAgree sender deals log
    → (d : Decision)
    → LeavesTenures (lines_of d) (answer_of d) → OtherAgrees sender deals log t (lines_of d) (answer_of d)
leaves_other sender c actor deals log t h d l =
    subst (λ o. AgreeWith sender t deals o) (sym (still_tenures (lines_of d) log t l.lines_still)) (h t)

turn_own : (sender actor c : ℕ) (asked : Command) (deals : List Deal) (log : Journal) (t : ℕ) → (actor == sender) ≡ true
    → AllAgree sender deals log
    → OwnAgrees sender asked deals log t (lines_of (decide log c actor asked)) (answer_of (decide log c actor asked))
turn_own sender actor c (command.Take key counter owner) deals log t own h =
    leads_so (OwnAgrees sender (command.Take key counter owner) deals log t) (take_lease log c actor key counter owner)
    (take_own sender actor c key counter owner deals log t h)
turn_own sender actor c (command.OpenShard which) deals log t own h =
    leads_so (OwnAgrees sender (command.OpenShard which) deals log t) (open_shard log c actor which)
    (open_own sender actor c which deals log t h)
turn_own sender actor c (command.Read which position limit) deals log t own h =
    leads_so (OwnAgrees sender (command.Read which position limit) deals log t) (read log c actor which position limit)
    (read_own sender actor c which position limit deals log t own h)
turn_own sender actor c (command.Give which) deals log t own h =
    leads_so (OwnAgrees sender (command.Give which) deals log t) (give log c actor which)
    (give_own sender actor c which deals log t own h)
turn_own sender actor c asked deals log t own h =
    leaves_own sender c actor asked deals log t tt h (decide log c actor asked) (command_leaves log c actor asked tt)

turn_other : (sender actor c : ℕ) (asked : Command) (deals : List Deal) (log : Journal) (t : ℕ)
    → (actor == sender) ≡ false
    → AllAgree sender deals log
    → OtherAgrees sender deals log t (lines_of (decide log c actor asked)) (answer_of (decide log c actor asked))
turn_other sender actor c (command.Take key counter owner) deals log t other h =
    leads_so (OtherAgrees sender deals log t) (take_lease log c actor key counter owner)
    (take_other sender actor c key counter owner deals log t h)
turn_other sender actor c (command.OpenShard which) deals log t other h =
    leads_so (OtherAgrees sender deals log t) (open_shard log c actor which)
    (open_other sender actor c which deals log t h)
turn_other sender actor c (command.Read which position limit) deals log t other h =
    leads_so (OtherAgrees sender deals log t) (read log c actor which position limit)
    (read_other sender actor c which position limit deals log t other h)
turn_other sender actor c (command.Give which) deals log t other h =
    leads_so (OtherAgrees sender deals log t) (give log c actor which)
    (give_other sender actor c which deals log t other h)
turn_other sender actor c asked deals log t other h =
    leaves_other sender c actor deals log t h (decide log c actor asked) (command_leaves log c actor asked tt)

-- ---- Histories

agree_turn : (actor : ℕ) (turn : Turn) (h : List Turn) (t : ℕ) (b : Bool) → (turn.by == actor) ≡ b
    → AllAgree actor (deals_of actor h) (journal h)
    → AgreeWith actor t (cond b (record { what = turn.what; answer = answer h turn } ∷ deals_of actor h)
    (deals_of actor h))
    (tenure (journal (turn ∷ h)) t)
agree_turn actor turn h t true e all =
    turn_own actor turn.by (clock (turn ∷ h)) turn.what (deals_of actor h) (journal h) t e all
agree_turn actor turn h t false e all =
    turn_other actor turn.by (clock (turn ∷ h)) turn.what (deals_of actor h) (journal h) t e all

-- By induction over the history.
pub agree : (actor : ℕ) (h : List Turn) → AllAgree actor (deals_of actor h) (journal h)
agree actor [] = λ t. (refl, refl, refl)
agree actor (turn ∷ h) = λ t. agree_turn actor turn h t (turn.by == actor) refl (agree actor h)

begins_new : (sender actor c : ℕ) (deals : List Deal) (log : Journal) (asked : Command) (lines : List Line)
    (answer : Result Reply Refusal)
    → Outcome log c actor asked lines answer → AllAgree sender deals log → IsNewTenure answer deals
begins_new sender actor c deals log _ _ _ (Answers _ _ (Surveys keys rows)) h = tt
begins_new sender actor c deals log _ _ _ (Adds _ _ _ (Takes key counter owner r there same fits)) h =
    nothing_yet sender deals log h
begins_new sender actor c deals log _ _ _ _ h = tt

new_turn : (sender actor c : ℕ) (asked : Command) (deals : List Deal) (log : Journal) → AllAgree sender deals log
    → IsNewTenure (answer_of (decide log c actor asked)) deals
new_turn sender actor c asked deals log h = begins_new sender actor c deals log asked _ _ (walk log c actor asked) h

new_turns : (actor : ℕ) (turn : Turn) (h : List Turn) (b : Bool) → AreNewTenures (deals_of actor h)
    → AreNewTenures (cond b (record { what = turn.what; answer = answer h turn } ∷ deals_of actor h) (deals_of actor h))
new_turns actor turn h true new =
    (new_turn actor turn.by (clock (turn ∷ h)) turn.what (deals_of actor h) (journal h) (agree actor h), new)
new_turns actor turn h false new = new

pub new_tenures : (actor : ℕ) (h : List Turn) → AreNewTenures (deals_of actor h)
new_tenures actor [] = tt
new_tenures actor (turn ∷ h) = new_turns actor turn h (turn.by == actor) (new_tenures actor h)

pub of_tenure : (actor : ℕ) (h : List Turn) (t : ℕ) (T : TenureState) → tenure (journal h) t ≡ Some T
    → (T.by == actor) ≡ true
    → AreOfTenure actor h t T
of_tenure actor h t T begun own =
    let a = (subst (λ o. AgreeWith actor t (deals_of actor h) o) begun (agree actor h t)).0 own in
    record { reads = a.0; gives = a.1 }
