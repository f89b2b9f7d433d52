-- A service shows its journal with new lines after a stream is changed, added or removed, and after lease lines.
use Rattle.std.proofs.Common.{◌≡◌, ◌≢◌, ℕ, ◌+◌, ◌<◌, ◌≤◌, Bool, true, ◌==◌, List, [], ◌∷◌, ◌++◌, remove, slice_get}
use Rattle.std.proofs.Common.{slice_set}
use Rattle.std.proofs.Common.{Some, None, refl, sym, ap, subst, ◌∙◌, arith}
use Rattle.std.specs.Prelude.{not, Result}
use Rattle.std.proofs.lemmas.List.{map-append}
use Rattle.std.proofs.lemmas.Option.{same_Some}
use Rattle.std.proofs.lemmas.Bool.{and_left, and_right, or_from}
use Rattle.kds_base.proofs.Facts.{all_append}
use Rattle.kds_base.proofs.WideLemmas.{by_test}
use Rattle.kds_defs.proofs.Elsewhere.{count_same, fresh_empty, fresh_other, of_no_stream, of_other}
use Rattle.kds_defs.proofs.Elsewhere as elsewhere
use Rattle.kds_defs.specs.declared.command.Command.{Command}
use Rattle.kds_defs.specs.declared.entry.Entry.{Entry}
use Rattle.kds_defs.specs.declared.entry.Entry.TheVariants as entry
use Rattle.kds_defs.specs.declared.reply.Refusal.{Refusal}
use Rattle.kds_defs.specs.declared.reply.Reply.{Reply}
use Rattle.kds_defs.specs.Histories.{decide, lines_of}
use Rattle.kds_defs.specs.Journal.{Line, Journal, plain_line, with_lines}
use Rattle.kds_defs.specs.ScaleCommands.{steps_to}
use Rattle.kds_defs.specs.Streams.{is_live, is_live_after, made_count, made_count_after, stream_named}
use Rattle.kds_defs.specs.Subjects.{IsFresh, name_of_command, stream_of}
use Rattle.kds_defs.proofs.Walk.{Adds, Answers, Outcome, Refuses, Scales, Stores, each_put, each_step, walk}
use Rattle.kds_defs.proofs.Walk.{Tells, Puts, Splits, Merges, Keeps, Enforces}
use Rattle.kds_stream.specs.Serving.{is_of_stream}
use Rattle.kds_stream.specs.Showing.{Shows}
use Rattle.kds_stream.specs.Value.{StreamValue}
use Rattle.kds_service.proofs.Lists.{among_push, among_remove, all_get, all_remove, all_set, map_same}
use Rattle.kds_service.proofs.Lists.{rising_push, rising_remove, shown_push, shown_remove, shown_set}
use Rattle.kds_service.proofs.Readings.{up_to}
use Rattle.kds_service.specs.Lines.{AreOf, IsLineOf, is_within_life}
use Rattle.kds_service.specs.Shown.{AreAt, AreShown, IsRising, ServiceValue, ShowsAll, is_among, numbers_of, service}

-- ---- The law `other_lines` of the crate `kds_stream`

-- A stream still shows its journal with a line of another stream or a lease; a premise here.
abbrev pub LinesOfOthers : Type 0
LinesOfOthers = (v : StreamValue) (log : Journal) (line : Line) → Shows v log → line.clock ≡ v.clock
    → stream_of line.what ≢ Some v.no → Shows v (line ∷ log)

-- ---- Several lines

shows_more : (v : StreamValue) (c s : ℕ) (lines : List Line) (log : Journal) → LinesOfOthers → v.clock ≡ c → s ≢ v.no
    → AreOf s c lines → Shows v log
    → Shows v (with_lines lines log)
shows_more v c s [] log law clock differ is_of shown = shown
shows_more v c s (line ∷ lines) log law clock differ is_of shown =
    shows_more v c s lines (line ∷ log) law clock differ is_of.1
    (law v log line shown (is_of.0.1 ∙ sym clock) (of_other line.what s v.no is_of.0.0 differ))

fresh_more : (s t c : ℕ) (lines : List Line) (log : Journal) → s ≢ t → AreOf s c lines → IsFresh log t
    → IsFresh (with_lines lines log) t
fresh_more s t c [] log differ is_of fresh = fresh
fresh_more s t c (line ∷ lines) log differ is_of fresh =
    fresh_more s t c lines (line ∷ log) differ is_of.1
    (fresh_other log line t fresh (of_other line.what s t is_of.0.0 differ))

made_same : (change : Entry) (n : ℕ) → is_within_life change ≡ true → made_count_after change n ≡ n
made_same (entry.Made s name count) n h = absurd cc
made_same _ n h = refl

live_same : (change : Entry) (s : ℕ) (b : Bool) → is_within_life change ≡ true → is_live_after change s b ≡ b
live_same (entry.Made t name count) s b h = absurd cc
live_same (entry.Gone t) s b h = absurd cc
live_same _ s b h = refl

made_more : (s c : ℕ) (lines : List Line) (log : Journal) → AreOf s c lines
    → made_count (with_lines lines log) ≡ made_count log
made_more s c [] log is_of = refl
made_more s c (line ∷ lines) log is_of =
    made_more s c lines (line ∷ log) is_of.1 ∙ made_same line.what (made_count log) is_of.0.2

live_more : (s t c : ℕ) (lines : List Line) (log : Journal) → AreOf s c lines
    → is_live (with_lines lines log) t ≡ is_live log t
live_more s t c [] log is_of = refl
live_more s t c (line ∷ lines) log is_of =
    live_more s t c lines (line ∷ log) is_of.1 ∙ live_same line.what t (is_live log t) is_of.0.2

beyond : (n s t : ℕ) → s ≤ n → n < t → t ≡ s → ⊥
beyond n s t a b e = absurd (omega arith)

-- A changed stream that shows its new lines makes the service show them.
pub shows_after : (c b n i : ℕ) (vs : List StreamValue) (x v : StreamValue) (log : Journal) (lines : List Line)
    → LinesOfOthers
    → ShowsAll (service c b n vs) log → slice_get vs i ≡ Some x → v.no ≡ x.no → v.clock ≡ c → AreOf x.no c lines
    → Shows v (with_lines lines log)
    → ShowsAll (service c b n (slice_set vs i v)) (with_lines lines log)
shows_after c b n i vs x v log lines law all here numbered clock is_of shown =
    let numbers : numbers_of (slice_set vs i v) ≡ numbers_of vs = map_same (λ u. u.no) i vs x v here numbered in
    record {
      made = made_more x.no c lines log is_of ∙ all.made;
      at = all_set (λ u. u.clock ≡ c) i vs v all.at clock;
      rising = subst (IsRising 0) (sym numbers) all.rising;
      shown =
          shown_set log (with_lines lines log) c 0 i vs x v all.rising all.at all.shown here shown
          (λ u is is_at differ. shows_more u c x.no lines log law is_at (λ e. differ (sym e)) is_of is);
      others = λ s out. live_more x.no s c lines log is_of
          ∙ all.others s (ap (λ ns. is_among ns s) (sym numbers) ∙ out);
      unmade =
          λ s later.
          let up = all_get (λ u. u.no ≤ n) i vs x (up_to n vs log all.shown all.unmade) here in
          fresh_more x.no s c lines log (λ same. beyond n x.no s up later (sym same)) is_of
          (all.unmade s later);
    }

-- ---- A new stream

-- A new stream that shows the line that makes it makes the service show this line.
pub shows_added : (c b n actor count : ℕ) (name : List ℕ) (vs : List StreamValue) (v : StreamValue) (log : Journal)
    → LinesOfOthers
    → ShowsAll (service c b n vs) log → v.no ≡ n + 1 → v.clock ≡ c
    → Shows v (plain_line c actor (entry.Made (n + 1) name count) ∷ log)
    → ShowsAll (service c b (n + 1) (vs ++ (v ∷ []))) (plain_line c actor (entry.Made (n + 1) name count) ∷ log)
shows_added c b n actor count name vs v log law all numbered clock shown =
    let line = plain_line c actor (entry.Made (n + 1) name count) in
    let up = up_to n vs log all.shown all.unmade in
    let numbers : numbers_of (vs ++ (v ∷ [])) ≡ numbers_of vs ++ ((n + 1) ∷ []) =
    map-append (λ u. u.no) vs (v ∷ []) ∙ ap (λ m. numbers_of vs ++ (m ∷ [])) numbered in
    record {
      made = ap (λ m. m + 1) all.made;
      at = all_append (λ u. u.clock ≡ c) vs (v ∷ []) all.at (clock, tt);
      rising = subst (IsRising 0) (sym numbers) (rising_push 0 n (n + 1) vs (omega arith) (omega arith) up all.rising);
      shown =
          shown_push log (line ∷ log) c n vs v up all.at all.shown shown
          (λ u is is_at below. law u log line is (sym is_at) (λ same. last n u.no below (same_Some _ _ same)));
      others = λ s out.
          let parts = among_push (numbers_of vs) (n + 1) s (ap (λ ns. is_among ns s) (sym numbers) ∙ out) in
          or_from ((n + 1) == s) (is_live log s) parts.1 (all.others s parts.0);
      unmade = λ s later. fresh_other log line s (all.unmade s (omega arith))
          (λ same. apart n s later (same_Some _ _ same));
    }
  where
    last : (n m : ℕ) → m ≤ n → n + 1 ≡ m → ⊥
    last n m a e = absurd (omega arith)

    apart : (n s : ℕ) → n + 1 < s → n + 1 ≡ s → ⊥
    apart n s a e = absurd (omega arith)

-- ---- A stream is deleted

-- Without the removed stream, the service shows the line that deletes it.
pub shows_removed : (c b n actor i : ℕ) (vs : List StreamValue) (x : StreamValue) (log : Journal) → LinesOfOthers
    → ShowsAll (service c b n vs) log
    → slice_get vs i ≡ Some x → ShowsAll (service c b n (remove vs i)) (plain_line c actor (entry.Gone x.no) ∷ log)
shows_removed c b n actor i vs x log law all here =
    let line = plain_line c actor (entry.Gone x.no) in
    let up = up_to n vs log all.shown all.unmade in
    record {
      made = all.made;
      at = all_remove (λ u. u.clock ≡ c) i vs all.at;
      rising = rising_remove 0 i vs all.rising;
      shown =
          shown_remove log (line ∷ log) c 0 i vs x all.rising all.at all.shown here
          (λ u is is_at differ. law u log line is (sym is_at) (λ same. differ (sym (same_Some _ _ same))));
      others =
          λ s out. by_test (x.no == s) (λ e. and_left (not (x.no == s)) (is_live log s) (ap not e))
          (λ e. and_right (not (x.no == s)) (is_live log s) (all.others s (among_remove i s vs x here out e)));
      unmade = λ s later.
          fresh_other log line s (all.unmade s later)
          (λ same. beyond n x.no s (all_get (λ u. u.no ≤ n) i vs x up here) later (sym (same_Some _ _ same)));
    }

-- ---- A line of a lease

shown_along : (c : ℕ) (vs : List StreamValue) (line : Line) (log : Journal) → LinesOfOthers → AreAt c vs
    → line.clock ≡ c → stream_of line.what ≡ None
    → AreShown log vs → AreShown (line ∷ log) vs
shown_along c [] line log law is_at clock none shown = tt
shown_along c (v ∷ vs) line log law is_at clock none shown = (
  law v log line shown.0 (clock ∙ sym is_at.0) (of_no_stream line.what v.no none),
  shown_along c vs line log law is_at.1 clock none shown.1,
)

-- A line about no stream, such as a line of a lease, leaves the service showing its journal.
pub shows_lease : (w : ServiceValue) (line : Line) (log : Journal) → LinesOfOthers → ShowsAll w log
    → line.clock ≡ w.clock → stream_of line.what ≡ None
    → ShowsAll w (line ∷ log)
shows_lease w line log law all clock none = record {
  made = count_same line.what (made_count log) none ∙ all.made;
  at = all.at;
  rising = all.rising;
  shown = shown_along w.clock w.streams line log law all.at clock none all.shown;
  others = λ s out. elsewhere.live_same line.what s (is_live log s) (of_no_stream line.what s none) ∙ all.others s out;
  unmade = λ s later. fresh_other log line s (all.unmade s later) (of_no_stream line.what s none);
}

-- ---- A service without streams

pub shows_none : (c b : ℕ) → ShowsAll (service c b 0 []) []
shows_none c b = record {
  made = refl;
  at = tt;
  rising = tt;
  shown = tt;
  others = λ s out. refl;
  unmade = λ s later. fresh_empty s;
}

-- ---- The lines of a command that is for one stream

module _ (log : Journal) (c actor s : ℕ) where
  of_one : (command : Command) (line : Line) (r : Reply) → Tells log c actor command line r
      → is_of_stream command ≡ true
      → ((name : List ℕ) → name_of_command command ≡ Some name → stream_named log name ≡ Some s) → IsLineOf s c line
  of_one _ _ _ (Puts name item t named fits) own here = (sym named ∙ here _ refl, refl, refl)
  of_one _ _ _ (Splits name sh moment t named listed fits) own here = (sym named ∙ here _ refl, refl, refl)
  of_one _ _ _ (Merges name sh other t named listed fits) own here = (sym named ∙ here _ refl, refl, refl)
  of_one _ _ _ (Keeps name wanted raise t named fits) own here = (sym named ∙ here _ refl, refl, refl)
  of_one _ _ _ (Enforces name is_on t named) own here = (sym named ∙ here _ refl, refl, refl)
  of_one _ _ _ _ own here = absurd cc

  of_all : (command : Command) (lines : List Line) (answer : Result Reply Refusal)
      → Outcome log c actor command lines answer
      → is_of_stream command ≡ true
      → ((name : List ℕ) → name_of_command command ≡ Some name → stream_named log name ≡ Some s) → AreOf s c lines
  of_all _ _ _ (Refuses command r may) own here = tt
  of_all _ _ _ (Answers command r is) own here = tt
  of_all _ _ _ (Adds command line r tells) own here = (of_one command line r tells own here, tt)
  of_all _ _ _ (Stores name items t named fits) own here =
      each_put (IsLineOf s c) c actor t items log (λ is_before n item among. (sym named ∙ here _ refl, refl, refl))
  of_all _ _ _ (Scales name goal t named few fits) own here =
      each_step (IsLineOf s c) c actor t (steps_to log t goal) log (λ sh other n child.
      (sym named ∙ here _ refl, refl, refl))
      (λ sh is_at n low high. (sym named ∙ here _ refl, refl, refl))

  -- A command for stream `s` adds only lines about `s`, at the clock, that neither make nor delete a stream.
  pub own_lines : (command : Command) → is_of_stream command ≡ true
      → ((name : List ℕ) → name_of_command command ≡ Some name → stream_named log name ≡ Some s)
      → AreOf s c (lines_of (decide log c actor command))
  own_lines command own here = of_all command _ _ (walk log c actor command) own here
