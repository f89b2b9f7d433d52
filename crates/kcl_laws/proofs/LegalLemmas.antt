-- Each history of lawful turns leaves a legal journal.
use Rattle.std.proofs.Common.{◌≡◌, ℕ, ◌+◌, ◌-◌, ◌^◌, ◌<◌, ◌≤◌, Bool, true, false, List, [], ◌∷◌, length, Option, Some}
use Rattle.std.proofs.Common.{None, refl, sym, ap, ◌∙◌, arith}
use Rattle.std.specs.Prelude.{Result, Ok, is_some, not, nat_lt, cond, if◌then◌else◌}
use Rattle.std.specs.List.{AllByRecursion, find, filter}
use Rattle.std.proofs.lemmas.Bool.Decides.{nat_tests}
use Rattle.std.proofs.lemmas.Bool.{or_parts}
use Rattle.kds_defs.specs.declared.command.Command.{Command}
use Rattle.kds_defs.specs.declared.command.NewItem.{NewItem}
use Rattle.kds_defs.specs.declared.command.Origin.{Origin}
use Rattle.kds_defs.specs.declared.command.Origin.TheVariants as origin
use Rattle.kds_defs.specs.declared.command.Turn.{Turn}
use Rattle.kds_base.specs.declared.lease_key.ShardRef.{ShardRef}
use Rattle.kds_base.proofs.Facts.{equal_unless}
use Rattle.kds_defs.specs.declared.entry.Entry.TheVariants as entry
use Rattle.kds_defs.specs.declared.reply.Refusal.{Refusal}
use Rattle.kds_defs.specs.declared.reply.Refusal.TheVariants as refusal
use Rattle.kds_defs.specs.declared.reply.Reply.{Reply}
use Rattle.kds_defs.specs.declared.reply.Reply.TheVariants as replies
use Rattle.kds_defs.specs.Decision.{Decision, Refused, Accepted, refuse◌if◌else◌, with◌or◌then◌}
use Rattle.kds_defs.specs.Histories.{answer_of, decide, lines_of, journal, clock, with_stream}
use Rattle.kds_defs.specs.Journal.{Line, Journal, plain_line}
use Rattle.kds_defs.specs.Lawful.{IsLawfulCommand, IsHistory, IsItem}
use Rattle.kds_defs.specs.Keys.{is_listed_key, ref}
use Rattle.kds_defs.specs.Leases.{TenureState, row, tenure, reach}
use Rattle.kds_defs.specs.LeaseCommands.{follows_parent, with_tenure, take_lease, renew, free, mark, read, is_unread}
use Rattle.kds_defs.specs.LeaseCommands.{past_parent, past_parents}
use Rattle.kds_defs.specs.Legal.{in_stream, told, IsGood, IsLegal, IsInRange, last_clock, reach_in}
use Rattle.kds_defs.specs.Records.{next_number}
use Rattle.kds_defs.specs.Shards.{ShardState, home}
use Rattle.kds_defs.specs.PutCommands.{is_held_back, put_lines}
use Rattle.kds_defs.specs.StreamCommands.{last_number, put_place, put_line}
use Rattle.kds_defs.specs.Streams.{is_live, stream_named, hours}
use Rattle.kds_defs.proofs.Decisions.{passes, found, passed_if, with_some}
use Rattle.kds_defs.proofs.Walk as walks
use Rattle.kcl_laws.proofs.Added.{Adds, in_live, draws_one, not_spent, not_past}
use Rattle.kcl_laws.proofs.ScalingLemmas.{adds_scaling}

pub found_by : (b d : Bool) (x s : ℕ) (rest : List ℕ) (p q : ℕ → Bool) → q x ≡ b → p x ≡ d
    → find p (cond b (x ∷ filter q rest) (filter q rest)) ≡ Some s
    → (find p (filter q rest) ≡ Some s → q s ≡ true) → q s ≡ true
found_by false d x s rest p q isb isd h later = later h
found_by true true x s rest p q isb isd h later =
    let e : Some x ≡ Some s = ap (λ b. cond b (Some x) (find p (filter q rest))) (sym isd) ∙ h in
    let f : x ≡ s = cc (e) in
    ap q (sym f) ∙ isb
found_by true false x s rest p q isb isd h later =
    later (ap (λ b. cond b (Some x) (find p (filter q rest))) (sym isd) ∙ h)

pub find_filter : (p q : ℕ → Bool) (xs : List ℕ) (s : ℕ) → find p (filter q xs) ≡ Some s → q s ≡ true
find_filter p q [] s h = absurd cc
find_filter p q (x ∷ xs) s h = found_by (q x) (p x) x s xs p q refl refl h (find_filter p q xs s)

pub live_named : (log : Journal) (name : List ℕ) (s : ℕ) → stream_named log name ≡ Some s → is_live log s ≡ true
live_named log name s h = find_filter _ (is_live log) _ s h

not_both : (wanted have : ℕ) (raise : Bool) → (if raise then nat_lt wanted have else nat_lt have wanted) ≡ false
    → (if not (nat_lt wanted have) then nat_lt wanted have else nat_lt have wanted) ≡ false
not_both wanted have true h = grind (arith, nat_tests)
not_both wanted have false h = grind (arith, nat_tests)

-- The line of a put, with the stream's next sequence number.
abbrev next_line : Journal → ℕ → ℕ → ℕ → NewItem → Line
next_line log c actor s item = put_line log c actor s (next_number log s) item

-- The lines of a PutRecords from `item` on; a throttled item (`back`) has none.
abbrev lines_from : Bool → Journal → ℕ → ℕ → ℕ → NewItem → List NewItem → List Line
lines_from back log c actor s item items =
    if back
    then put_lines log c actor s items
    else next_line log c actor s item ∷ put_lines (next_line log c actor s item ∷ log) c actor s items

adds_item : (back : Bool) (item : NewItem) (items : List NewItem) (log : Journal) (c actor s : ℕ)
    → is_held_back log c s item ≡ back → item.hash < 2 ^ 128
    → is_live log s ≡ true
    → next_number log s + length (lines_from back log c actor s item items) ≤ last_number → IsLegal log
    → last_clock log ≤ c
    → (next_number log s + length (put_lines log c actor s items) ≤ last_number
    → Adds log (put_lines log c actor s items) c)
    → ((next : Journal) → next ≡ (next_line log c actor s item ∷ log) → next_number next s + length
    (put_lines next c actor s items) ≤ last_number → IsLegal next → last_clock next ≤ c
    → Adds next (put_lines next c actor s items) c)
    → Adds log (lines_from back log c actor s item items) c
adds_item true item items log c actor s is hash live fits legal order skip take = skip fits
adds_item false item items log c actor s is hash live fits legal order skip take =
    let line = next_line log c actor s item in
    let told_reply : Reply = replies.Put (put_place log s (next_number log s) item) in
    let more = length (put_lines (line ∷ log) c actor s items) in
    let good : IsGood log line = record {
      in_order = order;
      in_range = hash;
      reply = told_reply;
      allowed =
          in_live log s _ live ∙ passed_if (refusal.Throttled (home log s item.hash)) _ _ is
          ∙ passed_if refusal.Spent _ _ (not_spent (next_number log s) last_number more fits);
    } in
    let rest = take (line ∷ log) refl (omega (arith, fits, draws_one s (next_number log s) (next_number log s) refl))
    (good, legal) (omega arith) in
    record { legal = rest.legal; clock = rest.clock }

adds_puts : (items : List NewItem) (log : Journal) (c actor s : ℕ) → AllByRecursion IsItem items → is_live log s ≡ true
    → next_number log s + length (put_lines log c actor s items) ≤ last_number → IsLegal log → last_clock log ≤ c
    → Adds log (put_lines log c actor s items) c
adds_puts [] log c actor s lawful live fits legal order = record { legal = legal; clock = order }
adds_puts (item ∷ items) log c actor s lawful live fits legal order =
    adds_item (is_held_back log c s item) item items log c actor s refl lawful.0.hash live fits legal order
    (λ fits'. adds_puts items log c actor s lawful.1 live fits' legal order)
    (λ next is fits' legal' order'.
    adds_puts items next c actor s lawful.1 (ap (λ l. is_live l s) is ∙ live) fits' legal' order')

-- Tenure `t` exists and belongs to the actor `actor`, and the rest of the decision accepts.
pub record Owned (log : Journal) (actor t : ℕ) (next : TenureState → Decision) (lines : List Line) (reply : Reply) :
    Type 0 where
  pub state : TenureState
  pub begun : tenure log t ≡ Some state
  pub own : state.by ≡ actor
  pub rest : next state ≡ Accepted lines reply

pub owned : (log : Journal) (actor t : ℕ) (next : TenureState → Decision) (lines : List Line) (reply : Reply)
    → with_tenure log actor t next ≡ Accepted lines reply
    → Owned log actor t next lines reply
owned log actor t next lines reply h =
    let a = found (tenure log t) refusal.NoTenure _ lines reply h in
    let b = passes refusal.NotYours _ _ lines reply a.2 in
    record { state = a.0; begun = a.1; own = equal_unless _ _ b.0; rest = b.1 }

-- The parent, if there is one, isn't listed or was processed to its end.
abbrev pub IsParentRead : Journal → ℕ → ℕ → Option ℕ → Type 0
IsParentRead log c s None = Unit {0}
IsParentRead log c s (Some parent) = is_unread log c (ref s parent) ≡ false

pub past_the_parent : (log : Journal) (c s : ℕ) (o : Option ℕ) (next : Decision) (lines : List Line) (reply : Reply)
    → past_parent log c s o next ≡ Accepted lines reply → IsParentRead log c s o × (next ≡ Accepted lines reply)
past_the_parent log c s None next lines reply h = (tt, h)
past_the_parent log c s (Some parent) next lines reply h = let a =
    passes (refusal.ParentsOpen (ref s parent)) _ _ lines reply h in (a.0, a.1)

-- Each parent of the shard isn't listed or was processed to its end.
abbrev pub AreParentsRead : Journal → ℕ → ℕ → Option ShardState → Type 0
AreParentsRead log c s None = Unit {0}
AreParentsRead log c s (Some x) = IsParentRead log c s x.parent × IsParentRead log c s x.adjacent

pub past_the_parents : (log : Journal) (c s : ℕ) (o : Option ShardState) (next : Decision) (lines : List Line)
    (reply : Reply)
    → past_parents log c s o next ≡ Accepted lines reply → AreParentsRead log c s o × (next ≡ Accepted lines reply)
past_the_parents log c s None next lines reply h = (tt, h)
past_the_parents log c s (Some x) next lines reply h =
    let a = past_the_parent log c s x.parent _ lines reply h in
    let b = past_the_parent log c s x.adjacent _ lines reply a.1 in
    ((a.0, b.0), b.1)

-- The decision on MakeLease for a row whose origin will be `beginning`.
abbrev lease_with : Journal → ℕ → ℕ → ShardRef → Origin → Decision
lease_with log c actor key beginning =
    refuse refusal.ShardGone if not (is_listed_key log c key) else
    refuse refusal.LeaseThere if is_some (row log key) else
    Accepted (plain_line c actor (entry.LeaseMade key beginning) ∷ []) (replies.Leased beginning)

counts_once : (b : Bool)
    (beginning : Origin) → (if b then origin.TrimHorizon else (if b then origin.TrimHorizon else beginning))
    ≡ (if b then origin.TrimHorizon else beginning)
counts_once true beginning = refl
counts_once false beginning = refl

of_named : (log : Journal) (name : List ℕ) (s : ℕ) (next : ℕ → Decision) (d : Decision) → stream_named log name ≡ Some s
    → with_stream log name next ≡ d
    → in_stream log s (next s) ≡ d
of_named log name s next d named h =
    in_live log s (next s) (live_named log name s named)
    ∙ sym (with_some (stream_named log name) refusal.NoStream next s named) ∙ h

one_less : (n : ℕ) → n + 1 - 1 ≡ n
one_less n = omega arith

told_allowed : (log : Journal) (c actor : ℕ) (command : Command) (line : Line) (r : Reply)
    → walks.Tells log c actor command line r
    → decide log c actor command ≡ Accepted (line ∷ []) r → told log line line.what ≡ Accepted (line ∷ []) r
told_allowed log c actor _ _ _ (walks.Deletes name s named) h = of_named log name s _ _ named h
told_allowed log c actor _ _ _ (walks.Puts name item s named fits) h = of_named log name s _ _ named h
told_allowed log c actor _ _ _ (walks.Splits name sh moment s named listed fits) h = of_named log name s _ _ named h
told_allowed log c actor _ _ _ (walks.Merges name sh other s named listed fits) h = of_named log name s _ _ named h
told_allowed log c actor _ _ _ (walks.Enforces name is_on s named) h = of_named log name s _ _ named h
told_allowed log c actor _ _ _ (walks.Keeps name wanted raise s named fits) h =
    in_live log s _ (live_named log name s named)
    ∙ passed_if refusal.BadRetention _ _ (not_both wanted (hours log s) raise fits)
told_allowed log c actor _ _ _ (walks.Makes key beginning) h =
    ap (λ o. lease_with log c actor key o) (counts_once (follows_parent log key) beginning) ∙ h
told_allowed log c actor _ _ _ (walks.Takes key counter owner r there same fits) h =
    ap (λ m. take_lease log c actor key m owner) (one_less r.counter ∙ equal_unless r.counter counter same) ∙ h
told_allowed log c actor _ _ _ (walks.Renews t counter T begun same fits) h =
    ap (λ m. renew log c actor t m) (one_less counter) ∙ h
told_allowed log c actor _ _ _ (walks.Frees t counter T begun same fits) h =
    ap (λ m. free log c actor t m) (one_less counter) ∙ h
told_allowed log c actor _ _ _ (walks.Marks t counter target T begun same fits) h =
    ap (λ m. mark log c actor t m target) (one_less counter) ∙ h
told_allowed log c actor _ _ _ (walks.Reads t position limit T place ended begun same) h =
    ap (λ p. read log c actor t p limit) (ap reach_in begun ∙ sym (equal_unless position (reach T) same)) ∙ h
told_allowed log c actor _ _ _ _ h = h

told_range : (log : Journal) (c actor : ℕ) (command : Command) (line : Line) (r : Reply)
    → walks.Tells log c actor command line r
    → IsLawfulCommand command
    → IsInRange line.what × (line.clock ≡ c)
told_range log c actor _ _ _ (walks.Creates name count fits) lawful = (lawful.1, refl)
told_range log c actor _ _ _ (walks.Puts name item s named fits) lawful = (lawful.1.hash, refl)
told_range log c actor _ _ _ (walks.Keeps name wanted raise s named fits) lawful = (lawful.1, refl)
told_range log c actor _ _ _ _ lawful = (tt, refl)

outcome_legal : (log : Journal) (c actor : ℕ) (command : Command) (lines : List Line) (answer : Result Reply Refusal)
    → walks.Outcome log c actor command lines answer
    → ((r : Reply) → answer ≡ Ok r → decide log c actor command ≡ Accepted lines r) → IsLawfulCommand command
    → IsLegal log
    → last_clock log ≤ c → Adds log lines c
outcome_legal log c actor _ _ _ (walks.Refuses command r may) so lawful legal order =
    record { legal = legal; clock = order }
outcome_legal log c actor _ _ _ (walks.Answers command r shows) so lawful legal order =
    record { legal = legal; clock = order }
outcome_legal log c actor _ _ _ (walks.Adds command line r tells) so lawful legal order =
    let range = told_range log c actor command line r tells lawful in
    let allowed = told_allowed log c actor command line r tells (so r refl) in
    record {
      legal = (
        record { in_order = omega (arith, order, range.1); in_range = range.0; reply = r; allowed = allowed },
        legal,
      );
      clock = omega (arith, range.1);
    }
outcome_legal log c actor _ _ _ (walks.Stores name items s named fits) so lawful legal order =
    adds_puts items log c actor s lawful.1.each (live_named log name s named) (not_past _ _ fits) legal order
outcome_legal log c actor _ _ _ (walks.Scales name goal s named few fits) so lawful legal order =
    let each = or_parts _ _ fits in
    adds_scaling log c actor s goal (live_named log name s named) lawful.1.0 lawful.1.1 (not_past _ _ few)
    (not_past _ _ each.0) (not_past _ _ each.1) legal order

is_accepted : (d : Decision) (r : Reply) → answer_of d ≡ Ok r → d ≡ Accepted (lines_of d) r
is_accepted (Refused q) r h = absurd cc
is_accepted (Accepted lines q) r h = let e : q ≡ r = cc in ap (λ x. Accepted lines x) e

decided_legal : (log : Journal) (c actor : ℕ) (command : Command) → IsLawfulCommand command → IsLegal log
    → last_clock log ≤ c
    → Adds log (lines_of (decide log c actor command)) c
decided_legal log c actor command lawful legal order =
    outcome_legal log c actor command _ _ (walks.walk log c actor command) (is_accepted (decide log c actor command))
    lawful legal order

-- The history's journal is legal, and none of its lines is later than the history's clock.
pub record HasJournal (h : List Turn) : Type 0 where
  pub legal : IsLegal (journal h)
  pub order : last_clock (journal h) ≤ clock h

pub journals : (h : List Turn) → IsHistory h → HasJournal h
journals [] lawful = record { legal = tt; order = omega arith }
journals (turn ∷ h) lawful =
    let earlier = journals h lawful.1 in
    let a = decided_legal (journal h) (clock (turn ∷ h)) turn.by turn.what lawful.0.1 earlier.legal
    (omega (arith, earlier.order)) in
    record { legal = a.legal; order = a.clock }
