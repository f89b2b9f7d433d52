-- A session's commands and text belong to all bytes of the connection, or are their first part.
use Rattle.std.proofs.Common.{◌≡◌, ◌≢◌, ℕ, List, [], ◌∷◌, ◌++◌, length, sym, ap, ◌∙◌, subst, arith, refl, Option, Some}
use Rattle.std.proofs.Common.{None}
use Rattle.std.specs.Prelude.{slice_get}
use Rattle.std.proofs.lemmas.List.{append_assoc, append-nil}
use Rattle.std.proofs.lemmas.Option.{slice_get_past}
use Rattle.kds_defs.specs.declared.command.Command.{Command}
use Rattle.kds_session.specs.declared.state.Standing.{Standing}
use Rattle.kds_session.specs.declared.state.Standing.TheVariants.{Live, Closed, Refused}
use Rattle.kds_session.specs.declared.state.Waiting.{Waiting}
use Rattle.kds_session.specs.declared.state.Waiting.TheVariants.{Nothing, Answer, LastAnswer}
use Rattle.kds_session.specs.Messages.{Message, Ending, closed, refused, Falls, IsUnfinished}
use Rattle.kds_session.specs.Text.{Answers, commands, responses, end_text, IsHttp}
use Rattle.kds_session.specs.States.{SessionState}
use Rattle.kds_session.specs.Standing.{Stage, going, over, stage_of, stage_text, Leads, Awaits, Traffic, fed_more}
use Rattle.kds_session.specs.Standing.{given_one, StandsFor, IsQuiet, end_in, end_of}
use Rattle.kds_session.specs.Laws.{OneDivision, IsFirstPart}
use Rattle.kds_session.specs.Next.{IsNext}
use Rattle.kds_session.proofs.Readings.{goes_ending}
use Rattle.kds_session.proofs.Responses.{responses-front, responses-enough, commands-append}

-- ---- All bytes that were fed, if the session is quiet

ending_of : (stage : Stage) (fed : List ℕ) (done : List Message) (left : ℕ) (unread : List ℕ)
    → Leads stage fed done left unread → (stage ≡ going → IsUnfinished unread)
    → (stage_text stage ≡ end_text (end_in stage unread)) × Falls 0 fed done (end_in stage unread)
ending_of going fed done left [] g u = (refl, goes_ending fed done left [] g (u refl))
ending_of going fed done left (x ∷ xs) g u = (refl, goes_ending fed done left (x ∷ xs) g (u refl))
ending_of (over ending) fed done left unread g u =
    (refl, subst (λ (z : List ℕ). Falls 0 z done ending) (append-nil fed) (g []))

live_by : (d : Standing) (w : Waiting) → stage_of d w ≡ going → d ≡ Live
live_by Live w e = refl
live_by Closed w e = absurd (cc e)
live_by (Refused status) w e = absurd (cc e)

pub quiet_text : (s : SessionState) (past : Traffic) → StandsFor s past → IsQuiet s
    → (http : IsHttp past.fed past.given past.told (past.sent ++ s.output)) × (http.ending ≡ end_of s)
quiet_text s past st quiet =
    let e = ending_of (stage_of s.standing s.waiting) past.fed st.done s.left s.unread st.leads
    (λ g. quiet.0 (live_by s.standing s.waiting g)) in (
      record {
        messages = st.done;
        ending = end_of s;
        falls = e.1;
        commands_are = sym st.given_is;
        one_each = subst (λ (w : Waiting). Awaits w st.done past.told) quiet.1 st.awaited ∙ ap length (sym st.given_is);
        text_is = st.written ∙ ap (λ z. responses 0 st.done past.told ++ z) e.0;
      },
      refl,
    )

-- ---- Bytes that follow the end of a connection

over_more : (stage : Stage) (fed : List ℕ) (done : List Message) (left : ℕ) (unread more : List ℕ) → (stage ≡ going → ⊥)
    → Leads stage fed done left unread → Leads stage (fed ++ more) done left unread
over_more going fed done left unread more ends g = absurd (ends refl)
over_more (over ending) fed done left unread more ends g =
    λ rest. subst (λ (z : List ℕ). Falls 0 z done ending) (sym (append_assoc fed more rest)) (g (more ++ rest))

pub nothing_more : (s : SessionState) (past : Traffic) → StandsFor s past → s.standing ≢ Live → (more : List ℕ)
    → StandsFor s (fed_more more past)
nothing_more s past st ended more = record {
  done = st.done;
  given_is = st.given_is;
  awaited = st.awaited;
  live = st.live;
  leads = over_more (stage_of s.standing s.waiting) past.fed st.done s.left s.unread more
      (λ g. ended (live_by s.standing s.waiting g)) st.leads;
  written = st.written;
}

-- ---- All bytes that are fed, at any moment

done_first : OneDivision
    → (stage : Stage) (fed : List ℕ) (done : List Message) (left : ℕ) (unread more : List ℕ) (all : List Message)
    (ending : Ending) → Leads stage fed done left unread → Falls 0 (fed ++ more) all ending
    → (ms : List Message) × (all ≡ done ++ ms)
done_first one going fed done left unread more all ending g f = let b = g.back more all ending f in (b.0, b.1)
done_first one (over e) fed done left unread more all ending g f = let same =
    one 0 (fed ++ more) all done ending e f (g more) in ([], same.0 ∙ sym (append-nil done))

first_commands : OneDivision → (s : SessionState) (past : Traffic) → StandsFor s past
    → (more : List ℕ) (all : List Message) (ending : Ending) → Falls 0 (past.fed ++ more) all ending
    → (coming : List Command) × (commands all ≡ past.given ++ coming)
first_commands one s past st more all ending f =
    let d = done_first one (stage_of s.standing s.waiting) past.fed st.done s.left s.unread more all ending st.leads
    f in
    (commands d.0, ap commands d.1 ∙ commands-append st.done d.0 ∙ ap (λ z. z ++ commands d.0) (sym st.given_is))

front_more : (done ms all : List Message) (ending : Ending) (answers later : Answers) → all ≡ done ++ ms
    → (rest : List ℕ) × (responses 0 all (answers ++ later) ++ end_text ending ≡ (responses 0 done answers ++ [])
    ++ rest)
front_more done ms all ending answers later e =
    let r = responses-front 0 done ms answers later in (
      r.0 ++ end_text ending,
      ap (λ (z : List Message). responses 0 z (answers ++ later) ++ end_text ending) e
          ∙ ap (λ z. z ++ end_text ending) r.1
          ∙ append_assoc (responses 0 done answers) r.0 (end_text ending)
          ∙ ap (λ z. z ++ (r.0 ++ end_text ending)) (sym (append-nil (responses 0 done answers))),
    )

first_text : OneDivision
    → (d : Standing) (w : Waiting) (fed : List ℕ) (done : List Message) (left : ℕ) (unread more : List ℕ)
    (all : List Message) (ending : Ending) (answers later : Answers)
    → (w ≢ Nothing → d ≡ Live) → Awaits w done answers → Leads (stage_of d w) fed done left unread
    → Falls 0 (fed ++ more) all ending
    → (rest : List ℕ) × (responses 0 all (answers ++ later) ++ end_text ending
    ≡ (responses 0 done answers ++ stage_text (stage_of d w)) ++ rest)
first_text one Live Nothing fed done left unread more all ending answers later live a g f = let b =
    g.back more all ending f in front_more done b.0 all ending answers later b.1
first_text one Live Answer fed done left unread more all ending answers later live a g f = let b =
    g.back more all ending f in front_more done b.0 all ending answers later b.1
first_text one Live LastAnswer fed done left unread more all ending answers later live a g f =
    let same = one 0 (fed ++ more) all done ending closed f (g more) in
    front_more done [] all ending answers later (same.0 ∙ sym (append-nil done))
first_text one Closed w fed done left unread more all ending answers later live a g f =
    let same = one 0 (fed ++ more) all done ending closed f (g more) in
    front_more done [] all ending answers later (same.0 ∙ sym (append-nil done))
first_text one (Refused s) Nothing fed done left unread more all ending answers later live a g f =
    let same = one 0 (fed ++ more) all done ending (refused s) f (g more) in (
      [],
      ap (λ (z : List Message). responses 0 z (answers ++ later) ++ end_text ending) same.0
          ∙ ap (λ (z : Ending). responses 0 done (answers ++ later) ++ end_text z) same.1
          ∙ ap (λ z. z ++ end_text (refused s)) (responses-enough 0 done answers later a)
          ∙ sym (append-nil _),
    )
first_text one (Refused s) Answer fed done left unread more all ending answers later live a g f =
    absurd (cc (live (λ e. cc e)))
first_text one (Refused s) LastAnswer fed done left unread more all ending answers later live a g f =
    absurd (cc (live (λ e. cc e)))

pub first_parts : OneDivision → (s : SessionState) (past : Traffic) → StandsFor s past
    → (more : List ℕ) (all : List Message) (ending : Ending) → Falls 0 (past.fed ++ more) all ending
    → IsFirstPart all ending past.given past.told (past.sent ++ s.output)
first_parts one s past st more all ending f = record {
  first = first_commands one s past st more all ending f;
  front = λ later.
      let t = first_text one s.standing s.waiting past.fed st.done s.left s.unread more all ending past.told later
      st.live st.awaited st.leads f in
      (t.0, t.1 ∙ ap (λ z. z ++ t.0) (sym st.written));
}

-- ---- The next command

get_seam : (xs : List Command) (y : Command) (ys : List Command) → slice_get ((xs ++ y ∷ []) ++ ys) (length xs) ≡ Some y
get_seam [] y ys = refl
get_seam (x ∷ xs) y ys = get_seam xs y ys

pub next_is : OneDivision → (o : Option Command) (new : SessionState) (past : Traffic) → IsNext o new past
    → (ms : List Message) (ending : Ending) → Falls 0 past.fed ms ending
    → o ≡ slice_get (commands ms) (length past.given)
next_is one None new past n ms ending f =
    let q = quiet_text new past n.0 n.1 in
    let h = q.0 in
    let same = one 0 past.fed ms h.messages ending h.ending f h.falls in
    sym (ap (λ z. slice_get z (length past.given)) (ap commands same.0 ∙ h.commands_are)
    ∙ slice_get_past past.given (length past.given) (omega arith))
next_is one (Some command) new past n ms ending f =
    let p = first_commands one new (given_one command past) n.0 [] ms ending
    (subst (λ (z : List ℕ). Falls 0 z ms ending) (sym (append-nil past.fed)) f) in
    sym (ap (λ z. slice_get z (length past.given)) p.1 ∙ get_seam past.given command p.0)
