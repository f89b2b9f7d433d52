-- Each status with which a connection ends is right for its bytes and for what was written.
use Rattle.std.proofs.Common.{◌≡◌, ◌≢◌, ℕ, List, [], ◌∷◌, ◌++◌, sym, ap, ◌∙◌, subst, refl, inl, inr, Option, Some, None}
use Rattle.std.proofs.Common.{Result}
use Rattle.std.specs.Option.{IfSome}
use Rattle.std.proofs.lemmas.List.{append_assoc, append-nil}
use Rattle.std.specs.Io.KnownBytes.{Appends, IsAtEnd, Keeps}
use Rattle.std.proofs.KnownBytes.{Appends-trans, Appends-nil}
use Rattle.kds_defs.specs.declared.command.Command.{Command}
use Rattle.kds_defs.specs.declared.reply.Refusal.{Refusal}
use Rattle.kds_defs.specs.declared.reply.Reply.{Reply}
use Rattle.kds_ends.specs.Causes.{AppendsFront}
use Rattle.kds_ends.specs.declared.status.Status.{Status}
use Rattle.kds_ends.specs.declared.status.Status.TheVariants.{Read, Write, Memory}
use Rattle.kds_ends.proofs.Writing.{front_later, front_longer}
use Rattle.kds_session.specs.declared.state.Standing.TheVariants.{Live}
use Rattle.kds_session.specs.Messages.{Ending, boundary, inside, closed, refused}
use Rattle.kds_session.specs.Text.{Answers, responses, end_text}
use Rattle.kds_session.specs.States.{SessionState}
use Rattle.kds_session.specs.Standing.{traffic, sent_more, CarriesOn, StandsFor, IsQuiet, end_of}
use Rattle.kds_session.specs.Laws.{FirstPart, WholeText, NothingFollows}
use Rattle.kds_server.specs.Texts.{Written, WrittenPart, Tells, IsAnswerStatus, status_at}
use Rattle.kds_server.specs.Serving.{AsksAtMostOnce}
use Rattle.kds_server.specs.Steps.{Reads, IsReadStop}

-- ---- The output is written

pub flushed : (all left : Option (List ℕ)) (s new : SessionState) (start held now : Option (List ℕ))
    (commands : List Command) (answers : Answers) → Reads all left s start held commands answers
    → CarriesOn s new (sent_more s.output) → Appends held now s.output
    → Reads all left new start now commands answers
flushed all left s new start held now commands answers r stands o = record {
  fed = r.fed;
  sent = r.sent ++ s.output;
  taken = r.taken;
  stands = stands (traffic r.fed commands answers r.sent) r.stands;
  written = Appends-trans start held now r.sent s.output r.written o;
}

-- ---- All responses, if the session is quiet and its output is empty

written_by : WholeText
    → (s : SessionState) (fed : List ℕ) (commands : List Command) (answers : Answers) (sent : List ℕ)
    (start now : Option (List ℕ)) → StandsFor s (traffic fed commands answers sent) → IsQuiet s → s.output ≡ []
    → Appends start now sent → Written fed (end_of s) commands answers start now
written_by whole s fed commands answers sent start now st quiet none w =
    let q = whole s (traffic fed commands answers sent) st quiet in record {
      text = sent ++ s.output;
      http = q.0;
      ends = q.1;
      written = subst (λ (z : List ℕ). Appends start now z) (sym (append-nil sent) ∙ ap (λ z. sent ++ z) (sym none)) w;
    }

tells_at : (bytes : List ℕ) (left : Option (List ℕ)) (commands : List Command) (answers : Answers)
    (start now : Option (List ℕ)) (e : Ending) → Written bytes e commands answers start now
    → Tells (status_at e) bytes left commands answers start now
tells_at bytes left commands answers start now boundary w = inl w
tells_at bytes left commands answers start now closed w = inr w
tells_at bytes left commands answers start now inside w = w
tells_at bytes left commands answers start now (refused status) w = (status, w)

tells_end : WholeText
    → (all left : Option (List ℕ)) (s : SessionState) (commands : List Command) (answers : Answers)
    (start now : Option (List ℕ)) → Reads all left s start now commands answers → IsQuiet s → s.output ≡ []
    → IsAtEnd left → IfSome all (λ bytes. Tells (status_at (end_of s)) bytes left commands answers start now)
tells_end whole None left s commands answers start now r quiet none ends = tt
tells_end whole (Some bytes) None s commands answers start now r quiet none ends = absurd r.taken
tells_end whole (Some bytes) (Some rest) s commands answers start now r quiet none ends =
    let all_fed : bytes ≡ r.fed = r.taken ∙ ap (λ z. r.fed ++ z) ends ∙ append-nil r.fed in
    tells_at bytes (Some rest) commands answers start now (end_of s)
    (subst (λ (z : List ℕ). Written z (end_of s) commands answers start now) (sym all_fed)
    (written_by whole s r.fed commands answers r.sent start now r.stands quiet none r.written))

-- At the input's end after a flush, the session's ending gives the status.
pub tells_status : WholeText
    → (status : Status) (all left : Option (List ℕ)) (s flushed_to asked : SessionState) (commands : List Command)
    (answers : Answers) (start now : Option (List ℕ)) → Reads all left s start now commands answers
    → IsQuiet asked → flushed_to ≡ record asked { output = [] } → s ≡ flushed_to → IsAtEnd left
    → status ≡ status_at (end_of s)
    → IfSome all (λ bytes. Tells status bytes left commands answers start now)
tells_status whole status all left s flushed_to asked commands answers start now r quiet same e ends is =
    subst (λ (z : Status). IfSome all (λ bytes. Tells z bytes left commands answers start now)) (sym is)
    (tells_end whole all left s commands answers start now r
    (subst (λ (z : SessionState). IsQuiet z) (sym (e ∙ same)) quiet)
    (ap (λ (z : SessionState). z.output) (e ∙ same)) ends)

-- When a session isn't live after a flush, its ending gives the status, whatever the source has left.
pub tells_over : WholeText → NothingFollows
    → (status : Status) (all left : Option (List ℕ)) (s asked : SessionState) (commands : List Command)
    (answers : Answers)
    (start now : Option (List ℕ)) → Reads all left s start now commands answers
    → IsQuiet asked → s ≡ record asked { output = [] } → s.standing ≢ Live → status ≡ status_at (end_of s)
    → IfSome all (λ bytes. Tells status bytes left commands answers start now)
tells_over whole follows status None left s asked commands answers start now r quiet same over is = tt
tells_over whole follows status (Some bytes) None s asked commands answers start now r quiet same over is =
    absurd r.taken
tells_over whole follows status (Some bytes) (Some rest) s asked commands answers start now r quiet same over is =
    let st = subst (λ (z : List ℕ). StandsFor s (traffic z commands answers r.sent)) (sym r.taken)
    (follows s (traffic r.fed commands answers r.sent) r.stands over rest) in
    let quiet_now = subst (λ (z : SessionState). IsQuiet z) (sym same) quiet in
    subst (λ (z : Status). Tells z bytes (Some rest) commands answers start now) (sym is)
    (tells_at bytes (Some rest) commands answers start now (end_of s)
    (written_by whole s bytes commands answers r.sent start now st quiet_now (ap (λ (z : SessionState). z.output) same)
    r.written))

tells_read : WholeText
    → (all left after : Option (List ℕ)) (s : SessionState) (commands : List Command) (answers : Answers)
    (start now : Option (List ℕ)) → Reads all left s start now commands answers → IsQuiet s → s.output ≡ []
    → Keeps left after → IfSome all (λ bytes. Tells Read bytes after commands answers start now)
tells_read whole None left after s commands answers start now r quiet none k = tt
tells_read whole (Some bytes) None after s commands answers start now r quiet none k = absurd r.taken
tells_read whole (Some bytes) (Some rest) None s commands answers start now r quiet none k = absurd k
tells_read whole (Some bytes) (Some rest) (Some same) s commands answers start now r quiet none k = (
  r.fed,
  rest,
  end_of s,
  r.taken,
  ap Some k,
  written_by whole s r.fed commands answers r.sent start now r.stands quiet none r.written,
)

-- ---- A prefix of the responses

part_by : FirstPart → (s : SessionState) (fed more : List ℕ) (commands : List Command) (answers : Answers)
    (sent : List ℕ)
    (start now : Option (List ℕ)) → StandsFor s (traffic fed commands answers sent)
    → AppendsFront start now (sent ++ s.output)
    → WrittenPart (fed ++ more) commands answers start now
part_by first s fed more commands answers sent start now st front = record {
  first = λ ms ending f. (first s (traffic fed commands answers sent) st more ms ending f).first;
  written = λ ms ending f later.
      let r = (first s (traffic fed commands answers sent) st more ms ending f).front later in
      subst (λ (z : List ℕ). AppendsFront start now z) (sym r.1) (front_longer start now (sent ++ s.output) r.0 front);
}

-- If a prefix of the output was written, all that was written is a prefix of the responses.
pub tells_part : FirstPart
    → (all left : Option (List ℕ)) (s : SessionState) (commands : List Command) (answers : Answers)
    (start held now : Option (List ℕ)) → Reads all left s start held commands answers
    → AppendsFront held now s.output → IfSome all (λ bytes. WrittenPart bytes commands answers start now)
tells_part first None left s commands answers start held now r o = tt
tells_part first (Some bytes) None s commands answers start held now r o = absurd r.taken
tells_part first (Some bytes) (Some rest) s commands answers start held now r o =
    subst (λ (z : List ℕ). WrittenPart z commands answers start now) (sym r.taken)
    (part_by first s r.fed rest commands answers r.sent start now r.stands
    (front_later start held now r.sent s.output r.written o))

pub front_none : (held : Option (List ℕ)) (text : List ℕ) → AppendsFront held held text
front_none held text = ([], text, refl, Appends-nil held)

-- What was written so far is a prefix of the responses.
pub tells_so_far : FirstPart
    → (all left : Option (List ℕ)) (s : SessionState) (commands : List Command) (answers : Answers)
    (start held : Option (List ℕ)) → Reads all left s start held commands answers
    → IfSome all (λ bytes. WrittenPart bytes commands answers start held)
tells_so_far first all left s commands answers start held r =
    tells_part first all left s commands answers start held held r (front_none held s.output)

-- If reading a piece stops after a flush, its status is right.
pub tells_stop : WholeText → FirstPart → (status : Status) → IsReadStop status
    → (all left after : Option (List ℕ)) (s asked : SessionState) (commands : List Command) (answers : Answers)
    (start now : Option (List ℕ)) → Reads all left s start now commands answers
    → IsQuiet asked → s ≡ record asked { output = [] } → (status ≡ Read → Keeps left after)
    → IfSome all (λ bytes. Tells status bytes after commands answers start now)
tells_stop whole first Read k all left after s asked commands answers start now r quiet same keeps =
    tells_read whole all left after s commands answers start now r
    (subst (λ (z : SessionState). IsQuiet z) (sym same) quiet)
    (ap (λ (z : SessionState). z.output) same) (keeps refl)
tells_stop whole first Memory k all left after s asked commands answers start now r quiet same keeps =
    tells_so_far first all left s commands answers start now r
tells_stop whole first other k all left after s asked commands answers start now r quiet same keeps = absurd k

part_asked : (bytes : List ℕ) (commands : List Command) (answers : Answers) (command : Command)
    (start now : Option (List ℕ))
    → WrittenPart bytes (commands ++ command ∷ []) answers start now → WrittenPart bytes commands answers start now
part_asked bytes commands answers command start now p = record {
  first = λ ms ending f. let c = p.first ms ending f in (command ∷ c.0, c.1 ∙ append_assoc commands (command ∷ []) c.0);
  written = p.written;
}

pub tells_asked : (all : Option (List ℕ)) (commands : List Command) (answers : Answers) (command : Command)
    (start held : Option (List ℕ))
    → IfSome all (λ bytes. WrittenPart bytes (commands ++ command ∷ []) answers start held)
    → IfSome all (λ bytes. WrittenPart bytes commands answers start held)
tells_asked None commands answers command start held p = tt
tells_asked (Some bytes) commands answers command start held p = part_asked bytes commands answers command start held p

part_told : (bytes : List ℕ) (commands : List Command) (answers : Answers) (a : Result Reply Refusal)
    (start now : Option (List ℕ)) → WrittenPart bytes commands answers start now
    → WrittenPart bytes commands (answers ++ a ∷ []) start now
part_told bytes commands answers a start now p = record {
  first = p.first;
  written = λ ms ending f later.
      subst (λ (z : Answers). AppendsFront start now (responses 0 ms z ++ end_text ending))
      (sym (append_assoc answers (a ∷ []) later)) (p.written ms ending f (a ∷ later));
}

pub tells_told : (all : Option (List ℕ)) (commands : List Command) (answers : Answers) (a : Result Reply Refusal)
    (start held : Option (List ℕ)) → IfSome all (λ bytes. WrittenPart bytes commands answers start held)
    → IfSome all (λ bytes. WrittenPart bytes commands (answers ++ a ∷ []) start held)
tells_told None commands answers a start held p = tt
tells_told (Some bytes) commands answers a start held p = part_told bytes commands answers a start held p

-- ---- The status that an ending gives

pub kind_at : (e : Ending) → IsAnswerStatus (status_at e)
kind_at boundary = tt
kind_at _ = tt

pub end_not_read : (e : Ending) → status_at e ≡ Read → ⊥
end_not_read boundary h = cc
end_not_read _ h = cc

pub end_not_write : (e : Ending) → status_at e ≡ Write → ⊥
end_not_write boundary h = cc
end_not_write _ h = cc

pub some_none : (s : Status) → Some s ≡ None → ⊥
some_none s e = cc

-- ---- What holds of a status

pub asks_none : (status : Status) (old : Option (List ℕ)) → AsksAtMostOnce status old old
asks_none Memory old = inl refl
asks_none other old = refl
