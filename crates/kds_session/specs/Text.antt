-- Which commands messages ask for, and the bytes of the responses.
use Rattle.std.specs.Prelude.{◌≡◌, ℕ, ◌+◌, ◌==◌, Bool, true, false, List, [], ◌∷◌, ◌++◌, length, Result, Ok, Err}
use Rattle.std.specs.Prelude.{if◌then◌else◌}
use Rattle.kds_defs.specs.declared.command.Command.{Command}
use Rattle.kds_defs.specs.declared.reply.Refusal.{Refusal}
use Rattle.kds_defs.specs.declared.reply.Reply.{Reply}
use Rattle.kds_json_members.specs.declared.problem.Fault.{Fault}
use Rattle.kds_json_members.specs.declared.problem.FaultKind.TheVariants.{Unknown, Serialization}
use Rattle.kds_json_members.specs.Results.{fault_of}
use Rattle.kds_json.specs.Asked.{asked}
use Rattle.kds_reply.specs.Replies.{reply_of, fault_reply}
use Rattle.kds_head.specs.Response.{response_text}
use Rattle.kds_session.specs.Messages.{Message, Ending, boundary, inside, closed, refused, closes_after, Falls}

-- The command or first fault: Unknown, Serialization, then the request's own (Kinesis API Reference, Common Errors).
unfoldable pub requested : (operation : List ℕ) (json : Bool) (body : List ℕ) → Result Command Fault
requested operation json body =
    if length operation == 0 then Err (fault_of Unknown [])
    else if json then asked operation body
    else Err (fault_of Serialization [])

-- The command that the message asks for, or its first fault.
abbrev pub asked_by : (m : Message) → Result Command Fault
asked_by m = requested m.head.operation m.head.json m.body

-- The command as a list, which is empty for a fault.
abbrev pub command_of : (result : Result Command Fault) → List Command
command_of (Ok command) = command ∷ []
command_of (Err fault) = []

-- The commands of the messages, in order.
abbrev pub commands : (ms : List Message) → List Command
commands [] = []
commands (m ∷ ms) = command_of (asked_by m) ++ commands ms

-- The answers to commands, in order.
abbrev pub Answers : Type 0
Answers = List (Result Reply Refusal)

-- The response with the status and the JSON body of `reply`.
abbrev pub answered : (reply : ℕ × List ℕ) (close : Bool) → List ℕ
answered reply close = response_text reply.0 reply.1 true close

-- The response to a request, then `later`; a command takes an answer, and without one the text ends.
abbrev pub respond : (result : Result Command Fault) (close : Bool) (answers : Answers) (later : Answers → List ℕ) →
    List ℕ
respond (Err fault) close answers later = answered (fault_reply fault) close ++ later answers
respond (Ok command) close [] later = []
respond (Ok command) close (answer ∷ answers) later = answered (reply_of answer) close ++ later answers

-- The responses to messages; the k-th command takes the k-th answer.
abbrev pub responses : (old : ℕ) (ms : List Message) (answers : Answers) → List ℕ
responses old [] answers = []
responses old (m ∷ ms) answers =
    respond (asked_by m) (closes_after (old + 1) m.head) answers (responses (old + 1) ms)

-- The response of a refusal at the end of a connection, or nothing.
abbrev pub end_text : (boundary : Ending) → List ℕ
end_text boundary = []
end_text inside = []
end_text closed = []
end_text (refused status) = response_text status [] false true

-- The bytes ask for these commands with these answers, and the text is all responses, with a last refusal.
pub record IsHttp (bytes : List ℕ) (coming : List Command) (answers : Answers) (text : List ℕ) : Type 0 where
  pub messages : List Message
  pub ending : Ending
  pub falls : Falls 0 bytes messages ending
  pub commands_are : commands messages ≡ coming
  pub one_each : length answers ≡ length coming
  pub text_is : text ≡ responses 0 messages answers ++ end_text ending
