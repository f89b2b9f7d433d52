-- What a session stands for after bytes were fed, a message was read or an answer was told.
use Rattle.std.proofs.Common.{◌≡◌, ◌≢◌, ℕ, ◌+◌, ◌-◌, ◌<◌, ◌≤◌, List, [], ◌∷◌, ◌++◌, length, drop, sym, ap, ◌∙◌, subst}
use Rattle.std.proofs.Common.{arith, refl, Bool, true, false, Ok, Err, Result, Option, Some, None, drop-drop, inl, inr}
use Rattle.std.specs.Prelude.{◌||◌, nat_le}
use Rattle.std.proofs.lemmas.Bool.Decides.{nat_tests}
use Rattle.std.proofs.lemmas.List.{append_assoc, append-nil, length-append}
use Rattle.kds_defs.specs.declared.command.Command.{Command}
use Rattle.kds_defs.specs.declared.reply.Refusal.{Refusal}
use Rattle.kds_defs.specs.declared.reply.Reply.{Reply}
use Rattle.kds_json_members.specs.declared.problem.Fault.{Fault}
use Rattle.kds_reply.specs.Replies.{reply_of, fault_reply}
use Rattle.kds_head.specs.declared.found.Head.{Head}
use Rattle.kds_head.specs.declared.found.Found.TheVariants.{Refused as RefusedHead}
use Rattle.kds_head.specs.declared.found.Found.{Found}
use Rattle.kds_head.specs.Find.{IsFound, IsWithinLimits}
use Rattle.kds_head.specs.Response.{response_text}
use Rattle.kds_head.specs.declared.numbers.TheConstants.{HEAD_BYTES, BODY_BYTES}
use Rattle.kds_session.specs.declared.limits.TheConstants.{REQUESTS}
use Rattle.kds_session.specs.declared.limits.TheConstants.{PIECE_BYTES, UNREAD_BYTES}
use Rattle.kds_session.specs.declared.progress.Progress.{Progress}
use Rattle.kds_session.specs.declared.state.Standing.{Standing}
use Rattle.kds_session.specs.declared.state.Standing.TheVariants.{Live, Closed, Refused}
use Rattle.kds_session.specs.declared.state.Waiting.{Waiting}
use Rattle.kds_session.specs.declared.state.Waiting.TheVariants.{Nothing, Answer, LastAnswer}
use Rattle.kds_session.specs.Messages.{Message, message_at, closes_after, rest_of, IsWhole, Falls}
use Rattle.kds_session.specs.Text.{Answers, asked_by, command_of, commands, answered, responses}
use Rattle.kds_session.specs.States.{SessionState, waiting_for, is_last, standing_after}
use Rattle.kds_session.specs.Standing.{Stage, going, over, stage_of, stage_text, Leads, GoesOn, IsAwaited, Awaits}
use Rattle.kds_session.specs.Standing.{Traffic, fed_more, given_one, told_one, sent_more, StandsFor, IsQuiet, still}
use Rattle.kds_session.specs.Standing.{to_come}
use Rattle.kds_session.specs.Next.{IsNext, IsNearer, IsFewer, IsShort, IsReadOut, CanBeFed}
use Rattle.kds_session.specs.Steps.{IsFree, read_state, with_progress}
use Rattle.kds_session.proofs.Readings.{HeadLaws, HeadStays, begins_at, last_is, goes_fed, goes_past, goes_last}
use Rattle.kds_session.proofs.Readings.{goes_refused, unfinished_short}
use Rattle.kds_session.proofs.Responses.{commands-push, responses-push, adds}

-- ---- A live session that waits for no answer

-- The session goes on and waits for nothing; all commands of `done` have answers, and only their responses came.
pub record Runs (s : SessionState) (past : Traffic) : Type 0 where
  pub done : List Message
  pub given_is : past.given ≡ commands done
  pub told_all : length past.told ≡ length (commands done)
  pub goes : GoesOn past.fed done s.left s.unread
  pub written : past.sent ++ s.output ≡ responses 0 done past.told

stage_live : (s : Standing) (w : Waiting) → s ≡ Live → w ≡ Nothing → stage_of s w ≡ going
stage_live s w e f = ap (λ a. stage_of a w) e ∙ ap (λ b. stage_of Live b) f

runs_of : (s : SessionState) (past : Traffic) → StandsFor s past → IsFree s → Runs s past
runs_of s past st free =
    let stage = stage_live s.standing s.waiting free.live free.free in record {
      done = st.done;
      given_is = st.given_is;
      told_all = subst (λ (w : Waiting). Awaits w st.done past.told) free.free st.awaited;
      goes = subst (λ (z : Stage). Leads z past.fed st.done s.left s.unread) stage st.leads;
      written = st.written ∙ ap (λ z. responses 0 st.done past.told ++ stage_text z) stage ∙ append-nil _;
    }

-- ---- Bytes are fed

leads_fed : (stage : Stage) (fed : List ℕ) (done : List Message) (left : ℕ) (unread bytes : List ℕ)
    → Leads stage fed done left unread → Leads stage (fed ++ bytes) done left (unread ++ bytes)
leads_fed going fed done left unread bytes g = goes_fed fed done left unread bytes g
leads_fed (over ending) fed done left unread bytes g =
    λ more. subst (λ (z : List ℕ). Falls 0 z done ending) (sym (append_assoc fed bytes more)) (g (bytes ++ more))

pub feeds : (s : SessionState) (past : Traffic) (bytes : List ℕ) → StandsFor s past
    → (new : SessionState) → new ≡ record s { unread = s.unread ++ bytes } → StandsFor new (fed_more bytes past)
feeds s past bytes st new e = subst (λ (n : SessionState). StandsFor n (fed_more bytes past)) (sym e) (record {
  done = st.done;
  given_is = st.given_is;
  awaited = st.awaited;
  live = st.live;
  leads = leads_fed (stage_of s.standing s.waiting) past.fed st.done s.left s.unread bytes st.leads;
  written = st.written;
})

-- ---- The connection is refused

-- A refused head at the front makes a quiet session of the same traffic, with the refusal in its output.
pub refused_now : HeadStays → (s : SessionState) (status : ℕ) (past : Traffic) → StandsFor s past → IsFree s
    → IsFound s.unread (RefusedHead status) → (new : SessionState)
    → new ≡ record s { output = s.output ++ response_text status [] false true; standing = Refused status }
    → StandsFor new past × IsQuiet new
refused_now stays s status past st free found new e =
    let f = runs_of s past st free in
    let text = response_text status [] false true in
    subst (λ (n : SessionState). StandsFor n past × IsQuiet n) (sym e) (
      record {
        done = f.done;
        given_is = f.given_is;
        awaited = subst (λ (w : Waiting). Awaits w f.done past.told) (sym free.free) f.told_all;
        live = λ waits. absurd (waits free.free);
        leads = goes_refused stays past.fed f.done s.left s.unread status f.goes found;
        written = sym (append_assoc past.sent s.output text) ∙ ap (λ z. z ++ text) f.written;
      },
      (λ h. absurd (cc h), free.free),
    )

-- ---- One more message is read

close_is : (close : Bool) (done left : ℕ) (head : Head) → done + left ≡ REQUESTS → 0 < left
    → close ≡ (head.close || nat_le left 1) → closes_after (done + 1) head ≡ close
close_is close done left head e some c = ap (λ b. head.close || b) (last_is done left e some) ∙ sym c

-- The next message with this head adds its command and its response to the earlier messages'.
record OneMore (s : SessionState) (past : Traffic) (head : Head) (close : Bool) : Type 0 where
  pub was : Runs s past
  pub close_is : closes_after (length was.done + 1) head ≡ close
  pub commands_are : past.given ++ command_of (asked_by (message_at s.unread head))
      ≡ commands (was.done ++ message_at s.unread head ∷ [])
  pub adds_are : (left : Answers) → responses 0 (was.done ++ message_at s.unread head ∷ []) (past.told ++ left)
      ≡ (past.sent ++ s.output) ++ adds (asked_by (message_at s.unread head)) close left

one_more : (s : SessionState) (past : Traffic) (head : Head) (close : Bool) → StandsFor s past → IsFree s
    → close ≡ (head.close || nat_le s.left 1) → OneMore s past head close
one_more s past head close st free c =
    let f = runs_of s past st free in
    let m = message_at s.unread head in
    let closing = close_is close (length f.done) s.left head f.goes.count f.goes.some_left c in record {
      was = f;
      close_is = closing;
      commands_are = ap (λ z. z ++ command_of (asked_by m)) f.given_is ∙ sym (commands-push f.done m);
      adds_are = λ left.
          responses-push 0 f.done m past.told left f.told_all
          ∙ ap (λ n. responses 0 f.done past.told ++ adds (asked_by m) (closes_after (n + 1) head) left)
          (let z : 0 + length f.done ≡ length f.done = omega arith in z)
          ∙ ap (λ b. responses 0 f.done past.told ++ adds (asked_by m) b left) closing
          ∙ ap (λ t. t ++ adds (asked_by m) close left) (sym f.written);
    }

-- ---- A faulty request is answered

fault_text_is : (s : SessionState) (past : Traffic) (head : Head) (close : Bool) (f : Fault)
    → (o : OneMore s past head close)
    → asked_by (message_at s.unread head) ≡ Err f → past.sent ++ (s.output ++ answered (fault_reply f) close)
    ≡ responses 0 (o.was.done ++ message_at s.unread head ∷ []) past.told
fault_text_is s past head close f o asks =
    sym (append_assoc past.sent s.output (answered (fault_reply f) close))
    ∙ ap (λ z. (past.sent ++ s.output) ++ z) (sym (append-nil (answered (fault_reply f) close)))
    ∙ ap (λ r. (past.sent ++ s.output) ++ adds r close []) (sym asks)
    ∙ sym (o.adds_are [])
    ∙ ap (λ t. responses 0 (o.was.done ++ message_at s.unread head ∷ []) t) (append-nil past.told)

fault_commands : (s : SessionState) (past : Traffic) (head : Head) (close : Bool) (f : Fault)
    → (o : OneMore s past head close)
    → asked_by (message_at s.unread head) ≡ Err f → past.given ≡ commands (o.was.done ++ message_at s.unread head ∷ [])
fault_commands s past head close f o asks =
    sym (append-nil past.given) ∙ ap (λ r. past.given ++ command_of r) (sym asks) ∙ o.commands_are

-- A faulty message is read and answered, and the traffic stays.
pub fault_goes : HeadLaws → (s : SessionState) (past : Traffic) (head : Head) (close : Bool) (f : Fault)
    → StandsFor s past → IsFree s
    → close ≡ (head.close || nat_le s.left 1) → close ≡ false → IsWhole s.unread head
    → asked_by (message_at s.unread head) ≡ Err f
    → (new : SessionState) → new ≡ record s {
      unread = rest_of s.unread (message_at s.unread head);
      left = s.left - 1;
      output = s.output ++ answered (fault_reply f) close;
    }
    → StandsFor new past
fault_goes laws s past head close f st free c goes_on whole asks new e =
    let o = one_more s past head close st free c in
    let m = message_at s.unread head in
    let done = o.was.done ++ m ∷ [] in
    let given_is = fault_commands s past head close f o asks in
    let goes = goes_past laws past.fed o.was.done s.left s.unread m o.was.goes (begins_at s.unread head whole)
    (o.close_is ∙ goes_on) in
    let stage = stage_live s.standing s.waiting free.live free.free in
    subst (λ (n : SessionState). StandsFor n past) (sym e) (record {
      done = done;
      given_is = given_is;
      awaited = subst (λ (w : Waiting). Awaits w done past.told) (sym free.free) (o.was.told_all
          ∙ ap length (sym o.was.given_is) ∙ ap length given_is);
      live = λ waits. absurd (waits free.free);
      leads = subst (λ (z : Stage). Leads z past.fed done (s.left - 1) (rest_of s.unread m)) (sym stage) goes;
      written = fault_text_is s past head close f o asks ∙ sym (append-nil _)
          ∙ ap (λ z. responses 0 done past.told ++ stage_text z) (sym stage);
    })

-- A faulty message that closes the connection is read and answered, and the session is quiet.
pub fault_closes : HeadLaws → (s : SessionState) (past : Traffic) (head : Head) (close : Bool) (f : Fault)
    → StandsFor s past → IsFree s
    → close ≡ (head.close || nat_le s.left 1) → close ≡ true → IsWhole s.unread head
    → asked_by (message_at s.unread head) ≡ Err f
    → (new : SessionState) → new ≡ record s {
      unread = rest_of s.unread (message_at s.unread head);
      left = s.left - 1;
      output = s.output ++ answered (fault_reply f) close;
      standing = Closed;
    }
    → StandsFor new past × IsQuiet new
fault_closes laws s past head close f st free c ends_now whole asks new e =
    let o = one_more s past head close st free c in
    let m = message_at s.unread head in
    let done = o.was.done ++ m ∷ [] in
    let given_is = fault_commands s past head close f o asks in
    subst (λ (n : SessionState). StandsFor n past × IsQuiet n) (sym e) (
      record {
        done = done;
        given_is = given_is;
        awaited = subst (λ (w : Waiting). Awaits w done past.told) (sym free.free) (o.was.told_all
            ∙ ap length (sym o.was.given_is) ∙ ap length given_is);
        live = λ waits. absurd (waits free.free);
        leads = goes_last laws past.fed o.was.done s.left s.unread m o.was.goes (begins_at s.unread head whole)
            (o.close_is ∙ ends_now);
        written = fault_text_is s past head close f o asks ∙ sym (append-nil _);
      },
      (λ h. absurd (cc h), free.free),
    )

-- ---- A command is given

command_parts : (s : SessionState) (past : Traffic) (head : Head) (close : Bool) (command : Command)
    → (o : OneMore s past head close)
    → asked_by (message_at s.unread head) ≡ Ok command
    → (past.given ++ command ∷ [] ≡ commands (o.was.done ++ message_at s.unread head ∷ []))
    × (past.sent ++ s.output ≡ responses 0 (o.was.done ++ message_at s.unread head ∷ []) past.told)
    × IsAwaited close (o.was.done ++ message_at s.unread head ∷ []) past.told
command_parts s past head close command o asks = (
  ap (λ r. past.given ++ command_of r) (sym asks) ∙ o.commands_are,
  sym (append-nil (past.sent ++ s.output)) ∙ ap (λ r. (past.sent ++ s.output) ++ adds r close []) (sym asks)
      ∙ sym (o.adds_are [])
      ∙ ap (λ t. responses 0 (o.was.done ++ message_at s.unread head ∷ []) t) (append-nil past.told),
  record {
    before = o.was.done;
    last = message_at s.unread head;
    what = command;
    done_is = refl;
    asks = asks;
    told_before = o.was.told_all;
    close_is = o.close_is;
  },
)

pub waits_for : (close : Bool) → waiting_for close ≢ Nothing
waits_for true e = cc
waits_for false e = cc

-- A message that asks for a command is read, and the command is given.
pub command_given : HeadLaws → (s : SessionState) (past : Traffic) (head : Head) (close : Bool) (command : Command)
    → StandsFor s past → IsFree s
    → close ≡ (head.close || nat_le s.left 1) → IsWhole s.unread head → asked_by (message_at s.unread head) ≡ Ok command
    → (new : SessionState) → new ≡ record s {
      unread = rest_of s.unread (message_at s.unread head);
      left = s.left - 1;
      waiting = waiting_for close;
    }
    → StandsFor new (given_one command past) × (new.waiting ≢ Nothing)
command_given laws s past head close command st free c whole asks new e =
    let o = one_more s past head close st free c in
    let p = command_parts s past head close command o asks in
    subst (λ (n : SessionState). StandsFor n (given_one command past) × (n.waiting ≢ Nothing)) (sym e)
    (by_close close o p o.close_is, waits_for close)
  where
    m : Message
    m = message_at s.unread head

    by_close : (b : Bool) (o : OneMore s past head close)
        → (p : (past.given ++ command ∷ [] ≡ commands (o.was.done ++ m ∷ []))
        × (past.sent ++ s.output ≡ responses 0 (o.was.done ++ m ∷ []) past.told)
        × IsAwaited b (o.was.done ++ m ∷ []) past.told)
        → closes_after (length o.was.done + 1) head ≡ b
        → StandsFor (record s { unread = rest_of s.unread m; left = s.left - 1; waiting = waiting_for b })
        (given_one command past)
    by_close true o p b = record {
      done = o.was.done ++ m ∷ [];
      given_is = p.0;
      awaited = p.2;
      live = λ waits. free.live;
      leads = subst (λ (a : Standing).
          Leads (stage_of a LastAnswer) past.fed (o.was.done ++ m ∷ []) (s.left - 1) (rest_of s.unread m))
          (sym free.live) (goes_last laws past.fed o.was.done s.left s.unread m o.was.goes
          (begins_at s.unread head whole) b);
      written = p.1 ∙ sym (append-nil _)
          ∙ ap (λ a. responses 0 (o.was.done ++ m ∷ []) past.told ++ stage_text (stage_of a LastAnswer))
          (sym free.live);
    }
    by_close false o p b = record {
      done = o.was.done ++ m ∷ [];
      given_is = p.0;
      awaited = p.2;
      live = λ waits. free.live;
      leads = subst (λ (a : Standing).
          Leads (stage_of a Answer) past.fed (o.was.done ++ m ∷ []) (s.left - 1) (rest_of s.unread m)) (sym free.live)
          (goes_past laws past.fed o.was.done s.left s.unread m o.was.goes (begins_at s.unread head whole) b);
      written = p.1 ∙ sym (append-nil _)
          ∙ ap (λ a. responses 0 (o.was.done ++ m ∷ []) past.told ++ stage_text (stage_of a Answer)) (sym free.live);
    }

-- ---- The session adopts a reading of its unread bytes

pub past_state : (bytes : List ℕ) (r new : Progress) (n : ℕ) → new.read ≡ r.read + n
    → read_state bytes new ≡ record {
      unread = drop n (drop r.read bytes);
      output = new.responses;
      left = new.left;
      standing = new.standing;
      waiting = new.waiting;
    }
past_state bytes r new n e =
    ap (λ (u : List ℕ). let y : SessionState = record {
      unread = u;
      output = new.responses;
      left = new.left;
      standing = new.standing;
      waiting = new.waiting;
    } in
    y) (ap (λ k. drop k bytes) e ∙ sym (drop-drop n r.read bytes))

pub command_state : (bytes : List ℕ) (r p : Progress) (n : ℕ) (w v : Waiting)
    → p ≡ record r { read = r.read + n; left = r.left - 1 } → w ≡ v
    → read_state bytes (record p { waiting = w }) ≡ record (read_state bytes r) {
      unread = drop n (drop r.read bytes);
      left = r.left - 1;
      waiting = v;
    }
command_state bytes r p n w v e f =
    ap (λ (x : Progress). read_state bytes (record x { waiting = w })) e
    ∙ past_state bytes r (record r { read = r.read + n; left = r.left - 1; waiting = w }) n refl
    ∙ ap (λ (z : Waiting). let y : SessionState = record (read_state bytes r) {
      unread = drop n (drop r.read bytes);
      left = r.left - 1;
      waiting = z;
    } in y) f

pub fault_state : (bytes : List ℕ) (r p : Progress) (n : ℕ) (t text : List ℕ)
    → p ≡ record r { responses = t; read = r.read + n; left = r.left - 1 } → t ≡ r.responses ++ text
    → read_state bytes p ≡ record (read_state bytes r) {
      unread = drop n (drop r.read bytes);
      left = r.left - 1;
      output = r.responses ++ text;
    }
fault_state bytes r p n t text e f =
    ap (λ (x : Progress). read_state bytes x) e
    ∙ past_state bytes r (record r { responses = t; read = r.read + n; left = r.left - 1 }) n refl
    ∙ ap (λ (z : List ℕ). let y : SessionState = record (read_state bytes r) {
      unread = drop n (drop r.read bytes);
      left = r.left - 1;
      output = z;
    } in y) f

pub closed_state : (bytes : List ℕ) (r p : Progress) (n : ℕ) (t text : List ℕ)
    → p ≡ record r { responses = t; read = r.read + n; left = r.left - 1 } → t ≡ r.responses ++ text
    → read_state bytes (record p { standing = Closed })
    ≡ record (read_state bytes r) {
      unread = drop n (drop r.read bytes);
      left = r.left - 1;
      output = r.responses ++ text;
      standing = Closed;
    }
closed_state bytes r p n t text e f =
    ap (λ (z : SessionState). let y : SessionState = record z { standing = Closed } in
    y) (fault_state bytes r p n t text e f)

pub refused_state : (bytes : List ℕ) (r p : Progress) (status : ℕ)
    → p ≡ record r { responses = r.responses ++ response_text status [] false true; standing = Refused status }
    → read_state bytes p ≡ record (read_state bytes r) {
      output = r.responses ++ response_text status [] false true;
      standing = Refused status;
    }
refused_state bytes r p status e = ap (λ (x : Progress). read_state bytes x) e

pub reading_begins : (s : SessionState) (past : Traffic) → StandsFor s past → IsFree s
    → (start : Progress) → start ≡ record {
      read = 0;
      left = s.left;
      responses = [];
      standing = Live;
      waiting = Nothing;
    }
    → StandsFor (read_state s.unread start) (sent_more s.output past)
reading_begins s past st free start e =
    let f = runs_of s past st free in
    subst (λ (r : Progress). StandsFor (read_state s.unread r) (sent_more s.output past)) (sym e) (record {
      done = f.done;
      given_is = f.given_is;
      awaited = f.told_all;
      live = λ waits. refl;
      leads = f.goes;
      written = append-nil _ ∙ f.written ∙ sym (append-nil _);
    })

stands_then : (s : SessionState) (r : Progress) (past : Traffic)
    → StandsFor (read_state s.unread r) (sent_more s.output past) → StandsFor (with_progress s r) past
stands_then s r past st = record {
  done = st.done;
  given_is = st.given_is;
  awaited = st.awaited;
  live = st.live;
  leads = st.leads;
  written = sym (append_assoc past.sent s.output r.responses) ∙ st.written;
}

pub taken_over : (s : SessionState) (r : Progress) (o : Option Command) (past : Traffic)
    → IsNext o (read_state s.unread r) (sent_more s.output past)
    → (new : SessionState) → new ≡ with_progress s r → IsNext o new past
taken_over s r None past n new e =
    subst (λ (x : SessionState). IsNext None x past) (sym e) (stands_then s r past n.0, n.1)
taken_over s r (Some command) past n new e =
    subst (λ (x : SessionState). IsNext (Some command) x past) (sym e) (
      stands_then s r (given_one command past) n.0,
      n.1,
    )

-- What one reading gives for `next`, it gives for the session that adopts it.
pub next_by : (s v : SessionState) (bytes : List ℕ) (start r : Progress) (o : Option Command) → v ≡ s → bytes ≡ v.unread
    → start ≡ record { read = 0; left = v.left; responses = []; standing = Live; waiting = Nothing } → IsFree s
    → ((past : Traffic) → StandsFor (read_state bytes start) past → IsNext o (read_state bytes r) past)
    → (new : SessionState) → new ≡ with_progress s r
    → (past : Traffic) → StandsFor s past → IsNext o new past
next_by s v bytes start r o ev eb es free go new e past st =
    let bytes_is : bytes ≡ s.unread = eb ∙ ap (λ (x : SessionState). x.unread) ev in
    let start_is = es ∙ ap (λ (x : SessionState). let y : Progress = record {
      read = 0;
      left = x.left;
      responses = [];
      standing = Live;
      waiting = Nothing;
    } in y) ev in
    let begun = subst (λ (b : List ℕ). StandsFor (read_state b start) (sent_more s.output past)) (sym bytes_is)
    (reading_begins s past st free start start_is) in
    let next = subst (λ (b : List ℕ). IsNext o (read_state b r) (sent_more s.output past)) bytes_is
    (go (sent_more s.output past) begun) in
    taken_over s r o past next new e

-- ---- An answer is told

pub awaited_text : (close : Bool) (done : List Message) (answers : Answers) (a : Result Reply Refusal)
    → IsAwaited close done answers
    → (responses 0 done (answers ++ a ∷ []) ≡ responses 0 done answers ++ answered (reply_of a) close)
    × (length (answers ++ a ∷ []) ≡ length (commands done))
awaited_text close done answers a w =
    let m = w.last in
    let n = closes_after (0 + length w.before + 1) m.head in
    let same : n ≡ close =
    ap (λ k. closes_after (k + 1) m.head) (let z : 0 + length w.before ≡ length w.before = omega arith in z)
    ∙ w.close_is in
    let one : responses 0 done (answers ++ a ∷ []) ≡ responses 0 w.before answers
    ++ (answered (reply_of a) close ++ []) =
    ap (λ d. responses 0 d (answers ++ a ∷ [])) w.done_is ∙ responses-push 0 w.before m answers (a ∷ []) w.told_before
    ∙ ap (λ r. responses 0 w.before answers ++ adds r n (a ∷ [])) w.asks
    ∙ ap (λ b. responses 0 w.before answers ++ (answered (reply_of a) b ++ [])) same in
    let none : responses 0 done answers ≡ responses 0 w.before answers =
    ap (λ d. responses 0 d answers) w.done_is ∙ ap (λ t. responses 0 (w.before ++ m ∷ []) t) (sym (append-nil answers))
    ∙ responses-push 0 w.before m answers [] w.told_before
    ∙ ap (λ r. responses 0 w.before answers ++ adds r n []) w.asks
    ∙ append-nil _ in
    let all : commands done ≡ commands w.before ++ w.what ∷ [] = ap commands w.done_is ∙ commands-push w.before m
    ∙ ap (λ r. commands w.before ++ command_of r) w.asks in (
      one ∙ ap (λ t. t ++ (answered (reply_of a) close ++ [])) (sym none)
          ∙ ap (λ t. responses 0 done answers ++ t) (append-nil _),
      length-append answers (a ∷ []) ∙ ap (λ k. k + 1) w.told_before
          ∙ sym (length-append (commands w.before) (w.what ∷ [])) ∙ sym (ap length all),
    )

-- An answer adds its response to the output, and is told.
pub answer_told : (s : SessionState) (past : Traffic) (a : Result Reply Refusal) → StandsFor s past
    → s.waiting ≢ Nothing
    → (new : SessionState) → new ≡ record s {
      output = s.output ++ answered (reply_of a) (is_last s.waiting);
      waiting = Nothing;
      standing = standing_after (is_last s.waiting) s.standing;
    }
    → StandsFor new (told_one a past)
answer_told s past a st waits new e =
    subst (λ (n : SessionState). StandsFor n (told_one a past)) (sym e)
    (by_waiting s.waiting s.standing waits (st.live waits) st.awaited st.leads st.written)
  where
    by_waiting : (w : Waiting) (d : Standing) → w ≢ Nothing → d ≡ Live → Awaits w st.done past.told
        → Leads (stage_of d w) past.fed st.done s.left s.unread → past.sent ++ s.output ≡ responses 0 st.done past.told
        ++ stage_text (stage_of d w)
        → StandsFor (record s {
          output = s.output ++ answered (reply_of a) (is_last w);
          waiting = Nothing;
          standing = standing_after (is_last w) d;
        }) (told_one a past)
    by_waiting Nothing d n v w l t = absurd (n refl)
    by_waiting Answer Live n v w l t =
        let p = awaited_text false st.done past.told a w in record {
          done = st.done;
          given_is = st.given_is;
          awaited = p.1;
          live = λ waits. absurd (waits refl);
          leads = l;
          written = sym (append_assoc past.sent s.output _)
              ∙ ap (λ z. z ++ answered (reply_of a) false) (t ∙ append-nil _) ∙ sym p.0 ∙ sym (append-nil _);
        }
    by_waiting LastAnswer Live n v w l t =
        let p = awaited_text true st.done past.told a w in record {
          done = st.done;
          given_is = st.given_is;
          awaited = p.1;
          live = λ waits. absurd (waits refl);
          leads = l;
          written = sym (append_assoc past.sent s.output _)
              ∙ ap (λ z. z ++ answered (reply_of a) true) (t ∙ append-nil _) ∙ sym p.0 ∙ sym (append-nil _);
        }
    by_waiting Answer _ n v w l t = absurd (cc v)
    by_waiting LastAnswer _ n v w l t = absurd (cc v)

-- The code's session after an answer is the one in `answer_told`.
pub told_state : (s : SessionState) (out : List ℕ) (close : Bool) (d : Standing) (r : ℕ × List ℕ)
    → out ≡ s.output ++ answered r close → close ≡ is_last s.waiting → d ≡ standing_after close s.standing
    → (let new : SessionState = record s { output = out; waiting = Nothing; standing = d } in new)
    ≡ record s {
      output = s.output ++ answered r (is_last s.waiting);
      waiting = Nothing;
      standing = standing_after (is_last s.waiting) s.standing;
    }
told_state s out close d r eo ec ed =
    ap (λ (z : List ℕ). let y : SessionState = record s { output = z; waiting = Nothing; standing = d } in
    y) (eo ∙ ap (λ b. s.output ++ answered r b) ec)
    ∙ ap (λ (z : Standing). let y : SessionState = record s {
      output = s.output ++ answered r (is_last s.waiting);
      waiting = Nothing;
      standing = z;
    } in y) (ed ∙ ap (λ b. standing_after b s.standing) ec)

-- ---- How much may still come

all_to_come : (s : SessionState) → IsFree s → to_come s ≡ s.left + 1
all_to_come s free = ap (λ (z : Stage). still z s.left) (stage_live s.standing s.waiting free.live free.free)

pub refused_not_live : (status : ℕ) → Refused status ≡ Live → ⊥
refused_not_live status e = cc

pub less_ended : (s new : SessionState) → IsFree s → to_come new ≡ 0 → to_come new < to_come s
less_ended s new free e = let all = all_to_come s free in omega arith

some_left_by : (h close : Bool) (left : ℕ) → close ≡ (h || nat_le left 1) → close ≡ false → 1 < left
some_left_by true close left e f = absurd (cc (sym e ∙ f))
some_left_by false close left e f = let g : nat_le left 1 ≡ false = sym e ∙ f in grind (arith, nat_tests)

pub less_asked : (s : SessionState) (head : Head) (close : Bool) (unread : List ℕ) → IsFree s
    → close ≡ (head.close || nat_le s.left 1)
    → (new : SessionState) → new ≡ record s { unread = unread; left = s.left - 1; waiting = waiting_for close }
    → to_come new < to_come s
less_asked s head close unread free c new e =
    subst (λ (n : SessionState). to_come n < to_come s) (sym e)
    (subst (λ (d : Standing). still (stage_of d (waiting_for close)) (s.left - 1) < to_come s) (sym free.live)
    (subst (λ (n : ℕ). still (stage_of Live (waiting_for close)) (s.left - 1) < n) (sym (all_to_come s free))
    (by_close close (some_left_by head.close close s.left c))))
  where
    by_close : (b : Bool) → (b ≡ false → 1 < s.left) → still (stage_of Live (waiting_for b)) (s.left - 1) < s.left + 1
    by_close true some = omega arith
    by_close false some = let h = some refl in omega arith

pub nearer_then : (a b c : SessionState) → IsNearer a b → IsNearer b c → IsNearer a c
nearer_then a b c (inl h) (inl k) = inl (omega arith)
nearer_then a b c (inl h) (inr k) = inl (omega (arith, h, k.1))
nearer_then a b c (inr h) (inl k) = inl (omega (arith, h.1, k))
nearer_then a b c (inr h) (inr k) = inr (k.0 ∙ h.0, k.1 ∙ h.1)

pub nearer_less : (a b c : SessionState) → IsNearer a b → to_come c < to_come b → to_come c < to_come a
nearer_less a b c (inl h) k = omega arith
nearer_less a b c (inr h) k = omega (arith, h.1, k)

-- Telling an answer doesn't change how much may still come.
pub told_still : (left : ℕ) (d new : Standing) (w : Waiting) (close : Bool) → close ≡ is_last w → w ≢ Nothing
    → new ≡ standing_after close d → still (stage_of new Nothing) left ≡ still (stage_of d w) left
told_still left d new w close c waits e =
    ap (λ (z : Standing). still (stage_of z Nothing) left) (e ∙ ap (λ b. standing_after b d) c) ∙ by_waiting w d waits
  where
    by_waiting : (w : Waiting) (d : Standing) → w ≢ Nothing
        → still (stage_of (standing_after (is_last w) d) Nothing) left ≡ still (stage_of d w) left
    by_waiting Nothing d n = absurd (n refl)
    by_waiting Answer Live n = refl
    by_waiting Answer _ n = refl
    by_waiting LastAnswer Live n = refl
    by_waiting LastAnswer _ n = refl

-- ---- What a reading means for the session that adopts it

-- The finding in any bytes is within the limits for a head and a body.
abbrev pub Limits : Type 0
Limits = (bytes : List ℕ) (found : Found) → IsFound bytes found → IsWithinLimits bytes found

pub read_out : Limits → (o : Option Command) (s v new : SessionState) (bytes : List ℕ) (r : Progress) → v ≡ s
    → bytes ≡ v.unread → (o ≡ None → IsQuiet (read_state bytes r)) → new ≡ with_progress s r → IsReadOut o new
read_out limits (Some command) s v new bytes r ev eb q e = tt
read_out limits None s v new bytes r ev eb q e =
    let bytes_is : bytes ≡ s.unread = eb ∙ ap (λ (x : SessionState). x.unread) ev in
    let quiet = subst (λ (b : List ℕ). IsQuiet (read_state b r)) bytes_is (q refl) in
    subst (λ (n : SessionState). IsQuiet n × IsShort n) (sym e) (
      (quiet.0, quiet.1),
      λ live. unfinished_short limits _ (quiet.0 live),
    )

fewer_same : (o : Option Command) (a b s n : SessionState) → to_come a ≡ to_come s → to_come b ≡ to_come n
    → a.unread ≡ s.unread → b.unread ≡ n.unread → IsFewer o a b → IsFewer o s n
fewer_same (Some command) a b s n ea eb ua ub h = omega arith
fewer_same None a b s n ea eb ua ub (inl h) = inl (omega arith)
fewer_same None a b s n ea eb ua ub (inr h) = inr (sym ub ∙ h.0 ∙ ua, sym eb ∙ h.1 ∙ ea)

pub fewer_by : (o : Option Command) (s v new : SessionState) (bytes : List ℕ) (start r : Progress) → v ≡ s
    → bytes ≡ v.unread → start ≡ record { read = 0; left = v.left; responses = []; standing = Live; waiting = Nothing }
    → IsFree s
    → IsFewer o (read_state bytes start) (read_state bytes r) → new ≡ with_progress s r → IsFewer o s new
fewer_by o s v new bytes start r ev eb es free h e =
    let bytes_is : bytes ≡ s.unread = eb ∙ ap (λ (x : SessionState). x.unread) ev in
    let all : to_come (read_state bytes start) ≡ to_come s = ap (λ (x : Progress). to_come (read_state bytes x)) es
    ∙ ap (λ (x : SessionState). x.left + 1) ev ∙ sym (all_to_come s free) in
    let unread : drop start.read bytes ≡ s.unread = ap (λ (x : Progress). drop x.read bytes) es ∙ bytes_is in
    fewer_same o (read_state bytes start) (read_state bytes r) s new all (sym (ap to_come e)) unread
    (ap (λ b. drop r.read b) bytes_is ∙ sym (ap (λ (x : SessionState). x.unread) e)) h

few_then_fed : (n : ℕ) → n < HEAD_BYTES + BODY_BYTES → PIECE_BYTES ≤ UNREAD_BYTES - n
few_then_fed n h = omega arith

pub read_out_fed : (o : Option Command) (new : SessionState) → IsReadOut o new → CanBeFed o new
read_out_fed (Some command) new r = tt
read_out_fed None new r = λ live. few_then_fed (length new.unread) (r.1 live)
