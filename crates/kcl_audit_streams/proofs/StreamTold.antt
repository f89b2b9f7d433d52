-- The judge's verdict from the model is the verdict by the machine's decision.
use Rattle.std.proofs.Common.{◌≡◌, ◌≢◌, ℕ, ◌+◌, ◌≤◌, Bool, true, false, List, length, slice_get, Option}
use Rattle.std.proofs.Common.{Some, None}
use Rattle.std.proofs.Common.{refl, sym, ap, subst, ◌∙◌, arith}
use Rattle.std.specs.Prelude.{◌==◌, ◌&&◌, not, is_some, nat_lt, nat_le, if◌then◌else◌, IfSome, Result, Ok}
use Rattle.std.specs.List.{AllByRecursion}
use Rattle.std.proofs.lemmas.Bool.Decides.{nat_tests}
use Rattle.kds_base.proofs.Facts.{is_itself, plus_none, swapped}
use Rattle.kds_defs.specs.declared.command.NewItem.{NewItem}
use Rattle.kds_defs.specs.declared.entry.Entry.{Entry}
use Rattle.kds_defs.specs.declared.entry.Entry.TheVariants as entry
use Rattle.kds_defs.specs.declared.reply.Refusal.{Refusal}
use Rattle.kds_defs.specs.declared.reply.Refusal.TheVariants as refusal
use Rattle.kds_defs.specs.declared.reply.Reply.{Reply}
use Rattle.kds_defs.specs.Decision.{Decision, refuse◌if◌else◌}
use Rattle.kcl_laws.specs.ShownLines.{blank, entry_line}
use Rattle.kcl_laws.proofs.ShownLemmas.{length-blank}
use Rattle.kds_defs.specs.Journal.{Journal, Line}
use Rattle.kds_defs.specs.Legal.{in_stream, item_of, last_clock, told}
use Rattle.kds_defs.specs.PutCommands.{enforce, put}
use Rattle.kds_defs.specs.Records.{next_number}
use Rattle.kds_defs.specs.declared.limits.TheConstants.{OPEN_SHARDS}
use Rattle.kds_defs.specs.Shards.{ShardState, is_listed, is_listed_state, open_count, shard_at}
use Rattle.kds_defs.specs.StreamCommands.{delete, keep, merge, put_line, split}
use Rattle.kds_defs.specs.Streams.{hours, is_live, trim_floor}
use Rattle.kds_defs.specs.Subjects.{stream_of}
use Rattle.kds_defs.proofs.Leads.{Leads, past_test}
use Rattle.kcl_audit_streams.specs.Judging.{agrees, entry_verdict, home_in, put_verdict, refused, split_verdict}
use Rattle.kcl_audit_streams.specs.Judging.{merge_verdict}
use Rattle.kcl_audit_streams.specs.Standing.{IsStream, StreamValue, floor_in, is_listed_in, is_listed_of}
use Rattle.kcl_audit_streams.specs.Verdict.{Verdict, judged}
use Rattle.kcl_audit_streams.proofs.SameEntries.{same_refl}
use Rattle.kcl_audit_streams.proofs.StreamSteps.{IsLater}

-- ---- Judgements of refusals

pub then_refuse : (r : Refusal) (b : Bool) (d : Decision) (change : Entry) (x : Verdict) → judged d change ≡ x
    → judged (refuse r if b else d) change ≡ (if b then refused r else x)
unfolding refuse◌if◌else◌
then_refuse r true d change x h = refl
then_refuse r false d change x h = h

judged_in : (log : Journal) (s : ℕ) (d : Decision) (change : Entry) (live : Bool) → is_live log s ≡ live
    → judged (in_stream log s d) change ≡ (if live then judged d change else refused refusal.NoStream)
judged_in log s d change true is = then_refuse refusal.NoStream (not (is_live log s)) d change (judged d change) refl
    ∙ rw is refl
judged_in log s d change false is = then_refuse refusal.NoStream (not (is_live log s)) d change (judged d change) refl
    ∙ rw is refl

-- ---- The lines that a decision gives

-- Each line is its entry's line by `actor` at `c`.
abbrev AreLines : ℕ → ℕ → List Line → Result Reply Refusal → Type 0
AreLines c actor lines answer = AllByRecursion (λ (l : Line). l ≡ entry_line c actor l.what) lines

-- Each line of the decision is its entry's line by `actor` at `c`.
abbrev pub AreTold : ℕ → ℕ → Decision → Type 0
AreTold c actor d = Leads (AreLines c actor) d

pub past : (c actor : ℕ) (r : Refusal) (b : Bool) (d : Decision) → AreTold c actor d
    → AreTold c actor (refuse r if b else d)
past c actor r b d next = past_test (AreLines c actor) (λ q. tt) r b d (λ e. next)

-- ---- A put

put_told : (log : Journal) (clock actor s sh m hash bytes key_bytes : ℕ) (v : StreamValue) → IsStream log s v
    → judged (put log clock actor s (item_of (entry_line clock actor (entry.Put s sh m hash bytes key_bytes)) hash))
    (entry.Put s sh m hash bytes key_bytes)
    ≡ put_verdict v clock sh m hash (bytes + key_bytes)
put_told log clock actor s sh m hash bytes key_bytes v st =
    then_refuse _ _ _ _ _ (then_refuse _ _ _ _ _ refl)
    ∙ rw (length-blank bytes, length-blank key_bytes, st.limited, st.shards_are, st.draws, st.puts_are (home_in v hash))
    (rw (is_itself s, is_itself hash, is_itself bytes, is_itself key_bytes) (grind arith))

-- ---- A change of the retention

never_below : (a b : ℕ) → (if not (nat_lt a b) then nat_lt a b else nat_lt b a) ≡ false
never_below a b = grind (arith, nat_tests)

kept_told : (log : Journal) (clock actor s wanted : ℕ)
    → judged (keep log clock actor s wanted (not (nat_lt wanted (hours log s)))) (entry.Kept s wanted) ≡ Ok tt
kept_told log clock actor s wanted =
    then_refuse _ _ _ _ _ (ap agrees (same_refl (entry.Kept s wanted)))
    ∙ ap (λ (b : Bool). if b then refused refusal.BadRetention else Ok tt) (never_below wanted (hours log s))

-- ---- Listed shards

listed_state : (log : Journal) (c s f : ℕ) (o : Option ShardState) (live : Bool) → is_live log s ≡ live
    → trim_floor log c s ≡ f → is_listed_state log c s o ≡ (live && is_listed_of f o)
listed_state log c s f None _ live is = grind (arith, live)
listed_state log c s f (Some x) _ live is = grind (arith, live, is)

pub listed_is : (log : Journal) (c s sh : ℕ) (v : StreamValue) → IsStream log s v → last_clock log ≤ c
    → is_listed log c s sh ≡ is_listed_in (Some v) c sh
listed_is log c s sh v st order =
    listed_state log c s (floor_in v c) (shard_at log s sh) (is_live log s) refl (st.trims c order)
    ∙ ap (λ (b : Bool). b && is_listed_of (floor_in v c) (shard_at log s sh)) st.lives
    ∙ ap (λ (xs : List ShardState). v.live && is_listed_of (floor_in v c) (slice_get xs sh)) st.shards_are

listed_made : (live : Bool) (f : ℕ) (o : Option ShardState) → (live && is_listed_of f o) ≡ true → is_some o ≡ true
listed_made live f (Some x) h = refl
listed_made live f None h = grind (arith, h)

-- ---- A split and a merge

split_told : (log : Journal) (clock actor s sh hash m low high : ℕ) (v : StreamValue) (full : Bool) → IsStream log s v
    → last_clock log ≤ clock
    → full ≡ nat_le OPEN_SHARDS (open_count log)
    → judged (split log clock actor s sh hash) (entry.Split s sh hash m low high)
    ≡ split_verdict v clock sh hash full m low high
split_told log clock actor s sh hash m low high v full st order room =
    let n = length v.tree in
    then_refuse _ _ _ _ _
    (then_refuse _ _ _ _ _ (then_refuse _ _ _ _ _ (then_refuse _ _ _ _ _ (then_refuse _ _ _ _ _ refl))))
    ∙ rw (
      listed_is log clock s sh v st order,
      sym room,
      st.shards_are,
      st.draws,
      is_itself s,
      is_itself sh,
      is_itself hash,
    )
    (rw (
      swapped v.next m,
      swapped n low,
      swapped (n + 1) high,
    ) (grind (arith, listed_made v.live (floor_in v clock) (slice_get v.tree sh))))

merge_told : (log : Journal) (clock actor s sh other m child : ℕ) (v : StreamValue) → IsStream log s v
    → last_clock log ≤ clock
    → judged (merge log clock actor s sh other) (entry.Merged s sh other m child)
    ≡ merge_verdict v clock sh other m child
merge_told log clock actor s sh other m child v st order =
    let n = length v.tree in
    let made : (q : ℕ) → is_listed_in (Some v) clock q ≡ true → is_some (slice_get v.tree q) ≡ true =
    λ q. listed_made v.live (floor_in v clock) (slice_get v.tree q) in
    then_refuse _ _ _ _ _ (then_refuse _ _ _ _ _ (then_refuse _ _ _ _ _ (then_refuse _ _ _ _ _ refl)))
    ∙ rw (listed_is log clock s sh v st order, listed_is log clock s other v st order, st.shards_are, st.draws)
    (rw (
      is_itself s,
      is_itself sh,
      is_itself other,
      swapped v.next m,
      swapped n child,
      plus_none n,
    ) (grind (arith, made sh, made other)))

-- ---- Each entry whose stream is live

-- The decision tests that the stream is live, then gives entry lines with the judge's verdict.
pub record Tells (log : Journal) (clock actor : ℕ) (change : Entry) (s : ℕ) : Type 0 where
  pub rest : Decision
  pub told_is : told log (entry_line clock actor change) change ≡ in_stream log s rest
  pub lines_are : AreTold clock actor rest
  pub verdict_is : (v : StreamValue) (full : Bool) → IsStream log s v → last_clock log ≤ clock
      → full ≡ nat_le OPEN_SHARDS (open_count log)
      → judged rest change ≡ entry_verdict full clock change v

each : (log : Journal) (clock actor : ℕ) (change : Entry) → IsLater change
    → IfSome (stream_of change) (λ s. Tells log clock actor change s)
each log c actor (entry.Made s name count) later = absurd later
each log c actor (entry.Gone s) later =
    record {
      rest = delete log c actor s;
      told_is = refl;
      lines_are = (refl, tt);
      verdict_is = λ v full st order room. ap agrees (same_refl (entry.Gone s));
    }
each log c actor (entry.Put s sh m hash bytes key_bytes) later =
    let item : NewItem = item_of (entry_line c actor (entry.Put s sh m hash bytes key_bytes)) hash in
    let line : Line = put_line log c actor s (next_number log s) item in
    let keys : key_bytes ≡ length (blank key_bytes) = sym (length-blank key_bytes) in
    let payloads : bytes ≡ length (blank bytes) = sym (length-blank bytes) in
    record {
      rest = put log c actor s item;
      told_is = refl;
      lines_are = past _ _ _ _ _
          (past _ _ _ _ _ ((λ i. record line { key = blank (keys i); payload = blank (payloads i) }), tt));
      verdict_is = λ v full st order room. put_told log c actor s sh m hash bytes key_bytes v st;
    }
each log c actor (entry.Split s sh key_hash m low high) later = record {
  rest = split log c actor s sh key_hash;
  told_is = refl;
  lines_are = past _ _ _ _ _ (past _ _ _ _ _ (past _ _ _ _ _ (past _ _ _ _ _ (past _ _ _ _ _ (refl, tt)))));
  verdict_is = split_told log c actor s sh key_hash m low high;
}
each log c actor (entry.Merged s sh other m child) later = record {
  rest = merge log c actor s sh other;
  told_is = refl;
  lines_are = past _ _ _ _ _ (past _ _ _ _ _ (past _ _ _ _ _ (past _ _ _ _ _ (refl, tt))));
  verdict_is = λ v full st order room. merge_told log c actor s sh other m child v st order;
}
each log c actor (entry.Kept s wanted) later =
    let after = keep log c actor s wanted (not (nat_lt wanted (hours log s))) in
    record {
      rest = after;
      told_is = refl;
      lines_are = past _ _ _ _ _ (refl, tt);
      verdict_is = λ v full st order room. kept_told log c actor s wanted;
    }
each log c actor (entry.Enforced s is_on) later =
    let same = same_refl (entry.Enforced s is_on) in
    record {
      rest = enforce log c actor s is_on;
      told_is = refl;
      lines_are = (refl, tt);
      verdict_is = λ v full st order room. ap agrees same;
    }
each log c actor _ later = tt

-- `what` is an entry of the stream `s`, but not its making.
module _ (log : Journal) (clock actor s : ℕ) (change : Entry) (later : IsLater change)
    (is_of : stream_of change ≡ Some s) where
  tells : Tells log clock actor change s
  tells = subst (λ o. IfSome o (λ m. Tells log clock actor change m)) is_of (each log clock actor change later)

  judged_so : (live : Bool) → is_live log s ≡ live
      → judged (told log (entry_line clock actor change) change) change
      ≡ (if live then judged tells.rest change else refused refusal.NoStream)
  judged_so live is = ap (λ d. judged d change) tells.told_is ∙ judged_in log s tells.rest change live is

  pub gone_told : is_live log s ≡ false → judged (told log (entry_line clock actor change) change) change
      ≡ refused refusal.NoStream
  gone_told gone = judged_so false gone

  pub live_told : (v : StreamValue) (full : Bool) → IsStream log s v → v.live ≡ true → last_clock log ≤ clock
      → full ≡ nat_le OPEN_SHARDS (open_count log) → judged (told log (entry_line clock actor change) change) change
      ≡ entry_verdict full clock change v
  live_told v full st live order room = judged_so true (st.lives ∙ live) ∙ tells.verdict_is v full st order room

  lines_told : AreTold clock actor (told log (entry_line clock actor change) change)
  lines_told = subst (AreTold clock actor) (sym tells.told_is) (past _ _ _ _ _ tells.lines_are)

pub stream_lines : (log : Journal) (clock actor : ℕ) (change : Entry) → IsLater change → stream_of change ≢ None
    → AreTold clock actor (told log (entry_line clock actor change) change)
stream_lines log clock actor change later is_of = of_its (stream_of change) refl
  where
    of_its : (o : Option ℕ) → stream_of change ≡ o
        → AreTold clock actor (told log (entry_line clock actor change) change)
    of_its None is = absurd (is_of is)
    of_its (Some s) is = lines_told log clock actor s change later is
