-- One more message adds its response after the earlier ones, which stay.
use Rattle.std.proofs.Common.{◌≡◌, ℕ, ◌+◌, List, [], ◌∷◌, ◌++◌, length, sym, ap, ◌∙◌, arith, refl, Bool, Result, Ok}
use Rattle.std.proofs.Common.{Err}
use Rattle.std.proofs.lemmas.List.{append_assoc, append-nil}
use Rattle.kds_defs.specs.declared.command.Command.{Command}
use Rattle.kds_json_members.specs.declared.problem.Fault.{Fault}
use Rattle.kds_reply.specs.Replies.{reply_of, fault_reply}
use Rattle.kds_session.specs.Messages.{Message, closes_after}
use Rattle.kds_session.specs.Text.{Answers, asked_by, command_of, commands, answered, respond, responses}

pub commands-push : (done : List Message) (m : Message)
    → commands (done ++ m ∷ []) ≡ commands done ++ command_of (asked_by m)
commands-push [] m = append-nil (command_of (asked_by m))
commands-push (d ∷ done) m = ap (λ z. command_of (asked_by d) ++ z) (commands-push done m)
    ∙ sym (append_assoc (command_of (asked_by d)) (commands done) (command_of (asked_by m)))

-- What one message adds to the responses; a command without an answer adds nothing.
abbrev pub adds : Result Command Fault → Bool → Answers → List ℕ
adds r close left = respond r close left (λ answers. [])

respond_push : (r : Result Command Fault) (close : Bool) (replies left : Answers) (rest : List Command)
    (later more : Answers → List ℕ) (end : List ℕ)
    → ((answers : Answers) → length answers ≡ length rest → more (answers ++ left) ≡ later answers ++ end)
    → length replies ≡ length (command_of r ++ rest)
    → respond r close (replies ++ left) more ≡ respond r close replies later
    ++ end
respond_push (Err f) close replies left rest later more end go len =
    ap (λ z. answered (fault_reply f) close ++ z) (go replies len)
    ∙ sym (append_assoc (answered (fault_reply f) close) (later replies) end)
respond_push (Ok command) close [] left rest later more end go len = absurd (omega arith)
respond_push (Ok command) close (a ∷ replies) left rest later more end go len =
    ap (λ z. answered (reply_of a) close ++ z) (go replies (omega arith))
    ∙ sym (append_assoc (answered (reply_of a) close) (later replies) end)

pub responses-push : (old : ℕ) (done : List Message) (m : Message) (replies left : Answers)
    → length replies ≡ length (commands done)
    → responses old (done ++ m ∷ []) (replies ++ left) ≡ responses old done replies
    ++ adds (asked_by m) (closes_after (old + length done + 1) m.head) left
responses-push old [] m [] left len =
    ap (λ n. adds (asked_by m) (closes_after (n + 1) m.head) left) (let e : old ≡ old + 0 = omega arith in e)
responses-push old [] m (a ∷ replies) left len = absurd (omega arith)
responses-push old (d ∷ done) m replies left len =
    respond_push (asked_by d) (closes_after (old + 1) d.head) replies left (commands done) (responses (old + 1) done)
    (responses (old + 1) (done ++ m ∷ []))
    (adds (asked_by m) (closes_after (old + length (d ∷ done) + 1) m.head) left)
    (λ answers e. responses-push (old + 1) done m answers left e
    ∙ ap (λ n. responses (old + 1) done answers ++ adds (asked_by m) (closes_after (n + 1) m.head) left)
    (let e2 : old + 1 + length done ≡ old + length (d ∷ done) = omega arith in e2)) len

-- ---- More messages and more answers follow

respond_front : (r : Result Command Fault) (close : Bool) (replies later : Answers) (some all : Answers → List ℕ)
    → ((answers : Answers) → (rest : List ℕ) × (all (answers ++ later) ≡ some answers ++ rest))
    → (rest : List ℕ) × (respond r close (replies ++ later) all ≡ respond r close replies some ++ rest)
respond_front (Err f) close replies later some all go =
    let g = go replies in (
      g.0,
      ap (λ z. answered (fault_reply f) close ++ z) g.1
          ∙ sym (append_assoc (answered (fault_reply f) close) (some replies) g.0),
    )
respond_front (Ok command) close [] later some all go = (respond (Ok command) close later all, refl)
respond_front (Ok command) close (a ∷ replies) later some all go =
    let g = go replies in (
      g.0,
      ap (λ z. answered (reply_of a) close ++ z) g.1
          ∙ sym (append_assoc (answered (reply_of a) close) (some replies) g.0),
    )

-- Earlier responses are a prefix of those to more messages and answers.
pub responses-front : (old : ℕ) (done ms : List Message) (replies later : Answers) → (rest : List ℕ)
    × (responses old (done ++ ms) (replies ++ later) ≡ responses old done replies ++ rest)
responses-front old [] ms replies later = (responses old ms (replies ++ later), refl)
responses-front old (d ∷ done) ms replies later =
    respond_front (asked_by d) (closes_after (old + 1) d.head) replies later (responses (old + 1) done)
    (responses (old + 1) (done ++ ms)) (λ answers. responses-front (old + 1) done ms answers later)

respond_enough : (r : Result Command Fault) (close : Bool) (replies later : Answers) (rest : List Command)
    (some : Answers → List ℕ)
    → ((answers : Answers) → length answers ≡ length rest → some (answers ++ later) ≡ some answers)
    → length replies ≡ length (command_of r ++ rest)
    → respond r close (replies ++ later) some ≡ respond r close replies some
respond_enough (Err f) close replies later rest some go len =
    ap (λ z. answered (fault_reply f) close ++ z) (go replies len)
respond_enough (Ok command) close [] later rest some go len = absurd (omega arith)
respond_enough (Ok command) close (a ∷ replies) later rest some go len =
    ap (λ z. answered (reply_of a) close ++ z) (go replies (omega arith))

pub responses-enough : (old : ℕ) (done : List Message) (replies later : Answers)
    → length replies ≡ length (commands done)
    → responses old done (replies ++ later) ≡ responses old done replies
responses-enough old [] replies later len = refl
responses-enough old (d ∷ done) replies later len =
    respond_enough (asked_by d) (closes_after (old + 1) d.head) replies later (commands done)
    (responses (old + 1) done)
    (λ answers e. responses-enough (old + 1) done answers later e) len

pub commands-append : (done ms : List Message) → commands (done ++ ms) ≡ commands done ++ commands ms
commands-append [] ms = refl
commands-append (d ∷ done) ms = ap (λ z. command_of (asked_by d) ++ z) (commands-append done ms)
    ∙ sym (append_assoc (command_of (asked_by d)) (commands done) (commands ms))
