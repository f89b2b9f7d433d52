-- A judge applies a lease entry's command to its own leases, and compares the resulting line with the entry.
use Rattle.std.proofs.Common.{◌≡◌, ℕ, ◌+◌, ◌-◌, ◌≤◌, ◌≢◌, length, true, false, List, [], ◌∷◌, Option, Some, None, refl}
use Rattle.std.proofs.Common.{sym, ap, subst, ◌∙◌, arith}
use Rattle.std.specs.Prelude.{◌==◌, ◌||◌, is_some, if◌then◌else◌, Result, Ok, Err}
use Rattle.kds_base.specs.declared.lease_key.ShardRef.{ShardRef}
use Rattle.kds_defs.specs.declared.command.Command.{Command}
use Rattle.kds_defs.specs.declared.command.Command.TheVariants as command
use Rattle.kds_defs.specs.declared.command.Origin.{Origin}
use Rattle.kds_defs.specs.declared.command.Origin.TheVariants as origin
use Rattle.kds_defs.specs.declared.command.Target.{Target}
use Rattle.kds_defs.specs.declared.entry.Entry.{Entry}
use Rattle.kds_defs.specs.declared.entry.Entry.TheVariants as entry
use Rattle.kds_defs.specs.declared.reply.Refusal.{Refusal}
use Rattle.kds_defs.specs.declared.reply.Refusal.TheVariants as refusal
use Rattle.kds_defs.specs.declared.reply.Reply.{Reply}
use Rattle.kds_defs.specs.Decision.{Decision, Refused, Accepted}
use Rattle.kcl_laws.specs.ShownLines.{entry_line}
use Rattle.kds_defs.specs.Legal.{told}
use Rattle.kds_defs.specs.Histories.{answer_of, decide, lines_of}
use Rattle.kds_defs.specs.Journal.{Journal, Line, plain_line, with_lines}
use Rattle.kds_defs.specs.Keys.{is_listed_key, ref}
use Rattle.kds_defs.specs.LeaseCommands.{counting_origin, parent_reaches_end, row_reaches_end, take_lease}
use Rattle.kds_defs.specs.Leases.{row, taken_count}
use Rattle.kds_defs.specs.StreamCommands.{last_number}
use Rattle.kcl_book.specs.Tenures.{TenureValue}
use Rattle.kcl_leases.proofs.RowWrites.{is_shard, take_allowed, take_refused}
use Rattle.kcl_leases.specs.Conditions.{counting_from, parent_reaches, start_answer}
use Rattle.kcl_table.specs.Rows.{row_of}
use Rattle.kds_base.specs.declared.lease_key.Checkpoint.{Checkpoint}
use Rattle.kds_defs.specs.declared.reply.Row.{Row}
use Rattle.kds_defs.specs.Shards.{adjacent_of, parent_of, shard_at, shown}
use Rattle.kds_defs.specs.Streams.{is_live}
use Rattle.kds_defs.specs.declared.reply.Shard.{Shard}
use Rattle.std.specs.Option.{option_map}
use Rattle.kds_base.proofs.Facts.{equal_unless, is_other}
use Rattle.kds_defs.proofs.Keys.{key_itself}
use Rattle.kds_defs.proofs.Walk.{Adds, Answers, Outcome, Surveys, Takes, accepted}
use Rattle.kcl_leases.specs.Standing.{Facing, Leads, LeasesValue, Stands, leases, live_shard}
use Rattle.kcl_audit_streams.specs.declared.rule.Rule.TheVariants as rule
use Rattle.kcl_audit_streams.specs.Judging.{agrees}
use Rattle.kcl_audit_judge.specs.Judging.{answer_verdict, lease_verdict}
use Rattle.kcl_audit_judge.specs.Standing.{After, Judges}
use Rattle.kcl_audit_streams.specs.Verdict.{Verdict, judged, same_entry, same_origin}
use Rattle.kcl_audit_streams.proofs.SameEntries.{same_refl}
use Rattle.kcl_audit_streams.proofs.StreamTold.{then_refuse}

-- The decision is a refusal, or gives just this line.
abbrev pub GivesLine : Decision → Line → Type 0
GivesLine (Refused r) line = Unit {0}
GivesLine (Accepted lines reply) line = lines ≡ line ∷ []

-- ---- Each command

-- The one line that an accepted lease command adds; `lines` if it adds none, or one not known beforehand.
abbrev its_lines : Journal → ℕ → ℕ → Command → List Line → List Line
its_lines log c actor (command.MakeLease key beginning) lines =
    plain_line c actor (entry.LeaseMade key (counting_origin log key beginning)) ∷ []
its_lines log c actor (command.Take key counter owner) lines =
    plain_line c actor (entry.Taken key (taken_count log + 1) (counter + 1) owner) ∷ []
its_lines log c actor (command.Renew t counter) lines = plain_line c actor (entry.Renewed t (counter + 1)) ∷ []
its_lines log c actor (command.Free t counter) lines = plain_line c actor (entry.Freed t (counter + 1)) ∷ []
its_lines log c actor (command.OpenShard t) lines = plain_line c actor (entry.Opened t) ∷ []
its_lines log c actor (command.Give t) lines = plain_line c actor (entry.Given t) ∷ []
its_lines log c actor (command.Mark t counter target) lines =
    plain_line c actor (entry.Marked t (counter + 1) target) ∷ []
its_lines log c actor (command.CutLease key counter) lines = plain_line c actor (entry.LeaseCut key counter) ∷ []
its_lines log c actor _ lines = lines

one_line : (log : Journal) (c actor : ℕ) (asked : Command) (lines : List Line) (r : Reply)
    → Outcome log c actor asked lines (Ok r)
    → lines ≡ its_lines log c actor asked lines
one_line log c actor _ _ _ (Adds _ _ _ (Takes key counter owner r there same fits)) =
    ap (λ (n : ℕ). plain_line c actor (entry.Taken key (taken_count log + 1) (n + 1) owner) ∷ [])
    (equal_unless r.counter counter same)
one_line log c actor _ _ _ (Answers _ _ (Surveys keys rows)) = refl
one_line log c actor _ _ _ _ = refl

gives_line : (log : Journal) (c actor : ℕ) (asked : Command) (line : Line)
    → ((lines : List Line) → its_lines log c actor asked lines ≡ line ∷ [])
    → GivesLine (decide log c actor asked) line
gives_line log c actor asked line is = of_decision (decide log c actor asked) refl
  where
    of_decision : (d : Decision) → decide log c actor asked ≡ d → GivesLine d line
    of_decision (Refused r) e = tt
    of_decision (Accepted lines r) e = one_line log c actor asked lines r (accepted log c actor asked lines r e)
        ∙ is lines

-- ---- The judgement

pub judged_other : (d : Decision) (line : Line) (change : Entry) (r : Reply) → GivesLine d line → answer_of d ≡ Ok r
    → same_entry line.what change ≡ false → Err rule.Entry ≡ judged d change
judged_other (Refused q) line change r h is differ = absurd cc
judged_other (Accepted lines reply) line change r h is differ =
    let one : judged (Accepted (line ∷ []) reply) change ≡ Err rule.Entry = rw differ refl in
    sym (ap (λ (ls : List Line). judged (Accepted ls reply) change) h ∙ one)

pub judged_refused : (d : Decision) (change : Entry) (r : Refusal) → Err r ≡ answer_of d
    → Err (rule.By r) ≡ judged d change
judged_refused (Refused q) change r is = let same : r ≡ q = cc in ap (λ (x : Refusal). Err (rule.By x)) same
judged_refused (Accepted lines reply) change r is = absurd cc

pub one_less : (n : ℕ) → 1 ≤ n → n - 1 + 1 ≡ n
one_less n h = omega arith

pub judged_line : (d : Decision) (line : Line) → GivesLine d line → answer_verdict (answer_of d) ≡ judged d line.what
judged_line (Refused r) line h = refl
judged_line (Accepted lines reply) line h =
    let one : judged (Accepted (line ∷ []) reply) line.what ≡ Ok tt = rw (same_refl line.what) refl in
    sym (ap (λ (ls : List Line). judged (Accepted ls reply) line.what) h ∙ one)

pub after_line : (d : Decision) (line : Line) (new : LeasesValue) (log : Journal) → GivesLine d line
    → Stands new (with_lines (lines_of d) log) → After (answer_verdict (answer_of d)) new line log
after_line (Refused r) line new log h st = (tt, st)
after_line (Accepted lines reply) line new log h st =
    (subst (λ (ls : List Line). Stands new (with_lines ls log)) h st, tt)

pub leads_entry : (old new : LeasesValue) (actor : ℕ) (asked : Command) (answer : Result Reply Refusal) (line : Line)
    (log : Journal) → Leads old new actor asked answer
    → GivesLine (decide log old.shards.clock actor asked) line → Stands old log
    → (answer_verdict answer ≡ judged (decide log old.shards.clock actor asked) line.what)
    × After (answer_verdict answer) new line log
leads_entry old new actor asked answer line log leads h st =
    let l = leads log st in
    let d = decide log old.shards.clock actor asked in (
      ap answer_verdict l.0 ∙ judged_line d line h,
      subst (λ (a : Result Reply Refusal). After (answer_verdict a) new line log) (sym l.0)
          (after_line d line new log h l.1),
    )

-- ---- Each entry to which its command leads whenever it is accepted

entry_by : (old new : LeasesValue) (actor : ℕ) (cmd : Command) (answer : Result Reply Refusal) (e : Entry) (v : Verdict)
    (log : Journal) → v ≡ answer_verdict answer → Leads old new actor cmd answer → Stands old log
    → told log (entry_line old.shards.clock actor e) e ≡ decide log old.shards.clock actor cmd
    → GivesLine (decide log old.shards.clock actor cmd) (entry_line old.shards.clock actor e)
    → Judges old new actor e v log
entry_by old new actor cmd answer e v log is leads st tells gives =
    let l = leads_entry old new actor cmd answer (entry_line old.shards.clock actor e) log leads gives st in
    let line = entry_line old.shards.clock actor e in
    (is ∙ l.0 ∙ ap (λ d. judged d e) (sym tells), subst (λ (w : Verdict). After w new line log) (sym is) l.1)

-- A command leads the leases from `old` to `new` with `answer`, and `v` is the verdict by this answer.
module _ (old new : LeasesValue) (actor : ℕ) (answer : Result Reply Refusal) (v : Verdict)
    (is : v ≡ answer_verdict answer)
    (log : Journal) (st : Stands old log) where
  given_by : (cmd : Command) (e : Entry) → Leads old new actor cmd answer
      → told log (entry_line old.shards.clock actor e) e ≡ decide log old.shards.clock actor cmd
      → ((lines : List Line) → its_lines log old.shards.clock actor cmd lines ≡ entry_line old.shards.clock actor e
      ∷ [])
      → Judges old new actor e v log
  given_by cmd e leads tells gives =
      entry_by old new actor cmd answer e v log is leads st tells
      (gives_line log old.shards.clock actor cmd (entry_line old.shards.clock actor e) gives)

  -- MakeLease's answer gives the right verdict if the entry has the origin that the machine would give.
  pub made_entry : (key : ShardRef) (beginning : Origin) → counting_origin log key beginning ≡ beginning
      → Leads old new actor (command.MakeLease key beginning) answer
      → Judges old new actor (entry.LeaseMade key beginning) v log
  made_entry key beginning counts leads =
      given_by (command.MakeLease key beginning) (entry.LeaseMade key beginning) leads refl
      (λ ls. ap (λ (o : Origin). plain_line old.shards.clock actor (entry.LeaseMade key o) ∷ []) counts)

  -- Renew names the counter before the entry's.
  pub renewed_entry : (t n : ℕ) → 1 ≤ n → Leads old new actor (command.Renew t (n - 1)) answer
      → Judges old new actor (entry.Renewed t n) v log
  renewed_entry t n some leads = given_by (command.Renew t (n - 1)) (entry.Renewed t n) leads refl
      (λ ls. ap (λ (m : ℕ). plain_line old.shards.clock actor (entry.Renewed t m) ∷ []) (one_less n some))

  -- Free names the counter before the entry's.
  pub freed_entry : (t n : ℕ) → 1 ≤ n → Leads old new actor (command.Free t (n - 1)) answer
      → Judges old new actor (entry.Freed t n) v log
  freed_entry t n some leads = given_by (command.Free t (n - 1)) (entry.Freed t n) leads refl
      (λ ls. ap (λ (m : ℕ). plain_line old.shards.clock actor (entry.Freed t m) ∷ []) (one_less n some))

  pub opened_entry : (t : ℕ) → Leads old new actor (command.OpenShard t) answer
      → Judges old new actor (entry.Opened t) v log
  opened_entry t leads = given_by (command.OpenShard t) (entry.Opened t) leads refl (λ ls. refl)

  pub given_entry : (t : ℕ) → Leads old new actor (command.Give t) answer → Judges old new actor (entry.Given t) v log
  given_entry t leads = given_by (command.Give t) (entry.Given t) leads refl (λ ls. refl)

  -- Mark names the counter before the entry's.
  pub marked_entry : (t n : ℕ) (target : Target) → 1 ≤ n → Leads old new actor (command.Mark t (n - 1) target) answer
      → Judges old new actor (entry.Marked t n target) v log
  marked_entry t n target some leads = given_by (command.Mark t (n - 1) target) (entry.Marked t n target) leads refl
      (λ ls. ap (λ (m : ℕ). plain_line old.shards.clock actor (entry.Marked t m target) ∷ []) (one_less n some))

  pub cut_entry : (key : ShardRef) (n : ℕ) → Leads old new actor (command.CutLease key n) answer
      → Judges old new actor (entry.LeaseCut key n) v log
  cut_entry key n leads = given_by (command.CutLease key n) (entry.LeaseCut key n) leads refl (λ ls. refl)

-- ---- An entry that makes a row: its origin must be the one that the machine would give the row

same_lease : (key : ShardRef) (a b : Origin) → same_entry (entry.LeaseMade key a) (entry.LeaseMade key b)
    ≡ same_origin a b
same_lease key a b = rw (key_itself key) refl

-- The leases represent `log`, and the entry makes the row of `key` with the origin `from`.
module _ (s : Facing) (rs : List Row) (ts : List TenureValue) (actor : ℕ) (key : ShardRef) (beginning : Origin)
    (log : Journal)
    (st : Stands (leases s rs ts) log) where
  made_by : judged (told log (entry_line s.clock actor (entry.LeaseMade key beginning)) (entry.LeaseMade key beginning))
      (entry.LeaseMade key beginning)
      ≡ lease_verdict (is_listed_key log s.clock key) (is_some (row log key))
      (same_origin (counting_origin log key beginning) beginning)
  made_by = then_refuse _ _ _ _ _
      (then_refuse _ _ _ _ _ (ap agrees (same_lease key (counting_origin log key beginning) beginning)))

  -- A row for a shard that isn't listed is refused with ShardGone.
  pub made_gone : is_listed_key log s.clock key ≡ false
      → Judges (leases s rs ts) (leases s rs ts) actor (entry.LeaseMade key beginning) (Err (rule.By refusal.ShardGone))
      log
  made_gone gone = (
    sym (made_by ∙ ap (λ b.
        lease_verdict b (is_some (row log key)) (same_origin (counting_origin log key beginning) beginning)) gone),
    (tt, st),
  )

  -- A second row for a listed shard is refused with LeaseThere.
  pub made_there : is_listed_key log s.clock key ≡ true → is_some (row_of rs key) ≡ true
      → Judges (leases s rs ts) (leases s rs ts) actor (entry.LeaseMade key beginning)
      (Err (rule.By refusal.LeaseThere)) log
  made_there listed there =
      let has : is_some (row log key) ≡ true = ap is_some (st.row_is key) ∙ there in (
        sym (made_by ∙ (λ i. lease_verdict (listed i) (has i)
            (same_origin (counting_origin log key beginning) beginning))),
        (tt, st),
      )

  -- A new row with another origin than the machine would give breaks the rule `Entry`.
  pub made_other : is_listed_key log s.clock key ≡ true → is_some (row_of rs key) ≡ false
      → same_origin (counting_origin log key beginning) beginning ≡ false
      → Judges (leases s rs ts) (leases s rs ts) actor (entry.LeaseMade key beginning) (Err rule.Entry) log
  made_other listed none other =
      let has : is_some (row log key) ≡ false = ap is_some (st.row_is key) ∙ none in
      (sym (made_by ∙ (λ i. lease_verdict (listed i) (has i) (other i))), (tt, st))

  reaches_is : (o : Option ℕ) → is_live log key.stream ≡ true
      → parent_reaches log rs key.stream o ≡ parent_reaches_end log key.stream o
  reaches_is None live = refl
  reaches_is (Some n) live =
      λ i. row_reaches_end (sym (st.row_is (ref key.stream n)) i) (if live i then shard_at log key.stream n else None)

  -- The machine's origin for the row can be computed from the judge's own rows.
  pub counts_is : (y : Shard) → Some y ≡ option_map shown (live_shard log key)
      → counting_from log rs key.stream y beginning ≡ counting_origin log key beginning
  counts_is y some =
      let is_of = is_shard log key y some in
      ap (λ z. counting_from log rs key.stream z beginning) is_of.is_shown
      ∙ (λ i. if reaches_is is_of.state.parent is_of.live i
      || reaches_is is_of.state.adjacent is_of.live i then origin.TrimHorizon else beginning)
      ∙ ap (λ o. if parent_reaches_end log key.stream (parent_of o)
      || parent_reaches_end log key.stream (adjacent_of o) then origin.TrimHorizon else beginning) (sym is_of.at)

-- ---- An entry of a take: its tenure must have the next number

-- The leases represent `log`; by the entry `owner` took `key`, began the tenure `t`, raised the counter to `n`.
module _ (s : Facing) (rs : List Row) (ts : List TenureValue) (actor : ℕ) (key : ShardRef) (t n owner : ℕ)
    (some : 1 ≤ n)
    (log : Journal) (st : Stands (leases s rs ts) log) where
  its_line : GivesLine (take_lease log s.clock actor key (n - 1) owner)
      (plain_line s.clock actor (entry.Taken key (taken_count log + 1) n owner))
  its_line = gives_line log s.clock actor (command.Take key (n - 1) owner) _
      (λ ls. ap (λ (m : ℕ). plain_line s.clock actor (entry.Taken key (taken_count log + 1) m owner) ∷ [])
      (one_less n some))

  pub taken_refused : (r : Refusal) → Err r ≡ start_answer (row_of rs key) (n - 1) (length ts == last_number)
      → Judges (leases s rs ts) (leases s rs ts) actor (entry.Taken key t n owner) (Err (rule.By r)) log
  taken_refused r h = (
    judged_refused (take_lease log s.clock actor key (n - 1) owner) (entry.Taken key t n owner) r
        (take_refused s rs ts actor key (n - 1) owner r h log st).0,
    (tt, st),
  )

  -- A take whose tenure isn't the next number breaks the rule `Entry`.
  pub taken_other : (start : Checkpoint) → Ok start ≡ start_answer (row_of rs key) (n - 1) (length ts == last_number)
      → t ≢ length ts + 1 → Judges (leases s rs ts) (leases s rs ts) actor (entry.Taken key t n owner) (Err rule.Entry)
      log
  taken_other start h other =
      let allowed = take_allowed s rs ts actor key (n - 1) owner start h log st in
      let apart : ((taken_count log + 1) == t) ≡ false =
      is_other (taken_count log + 1) t (λ e. other (sym e ∙ ap (λ m. m + 1) st.count_is)) in
      let no : same_entry (entry.Taken key (taken_count log + 1) n owner) (entry.Taken key t n owner) ≡ false =
      rw (key_itself key, apart) refl in (
        judged_other (take_lease log s.clock actor key (n - 1) owner)
            (plain_line s.clock actor (entry.Taken key (taken_count log + 1) n owner)) (entry.Taken key t n owner)
            allowed.0 its_line allowed.1 no,
        (tt, st),
      )

  pub taken_entry : (new : LeasesValue) (answer : Result Reply Refusal) (v : Verdict) → v ≡ answer_verdict answer
      → t ≡ length ts + 1 → Leads (leases s rs ts) new actor (command.Take key (n - 1) owner) answer
      → Judges (leases s rs ts) new actor (entry.Taken key t n owner) v log
  taken_entry new answer v is next leads =
      let e : taken_count log + 1 ≡ t = sym (next ∙ ap (λ m. m + 1) (sym st.count_is)) in
      entry_by (leases s rs ts) new actor (command.Take key (n - 1) owner) answer (entry.Taken key t n owner)
      v log is leads st refl
      (subst (λ (m : ℕ). GivesLine (take_lease log s.clock actor key (n - 1) owner)
      (plain_line s.clock actor (entry.Taken key m n owner))) e its_line)
