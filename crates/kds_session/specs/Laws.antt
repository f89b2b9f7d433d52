-- The laws of sessions: a connection's bytes, however they are cut, decide its commands and its responses.
use Rattle.std.specs.Prelude.{◌≡◌, ◌≢◌, ℕ, List, ◌++◌}
use Rattle.kds_defs.specs.declared.command.Command.{Command}
use Rattle.kds_session.specs.declared.state.Standing.TheVariants.{Live}
use Rattle.kds_session.specs.Messages.{Message, Ending, Falls}
use Rattle.kds_session.specs.Text.{Answers, commands, responses, end_text, IsHttp}
use Rattle.kds_session.specs.States.{SessionState}
use Rattle.kds_session.specs.Standing.{Traffic, fed_more, StandsFor, IsQuiet, end_of}

-- Bytes divide into messages and an ending in one way only.
abbrev pub OneDivision : Type 0
OneDivision = (old : ℕ) (bytes : List ℕ) (ms ns : List Message) (ending other : Ending)
    → Falls old bytes ms ending → Falls old bytes ns other → (ms ≡ ns) × (ending ≡ other)

-- A quiet session returned the commands and wrote the text of all bytes fed, which end as its state says.
abbrev pub WholeText : Type 0
WholeText = (s : SessionState) (past : Traffic) → StandsFor s past → IsQuiet s
    → (http : IsHttp past.fed past.given past.told (past.sent ++ s.output)) × (http.ending ≡ end_of s)

-- A session that isn't live ignores bytes.
abbrev pub NothingFollows : Type 0
NothingFollows = (s : SessionState) (past : Traffic) → StandsFor s past → s.standing ≢ Live → (more : List ℕ)
    → StandsFor s (fed_more more past)

-- The commands and the text are the first part of what the messages and the ending make, whatever answers come.
pub record IsFirstPart (ms : List Message) (ending : Ending) (asked_ones : List Command) (answers : Answers)
    (text : List ℕ) :
    Type 0 where
  pub first : (coming : List Command) × (commands ms ≡ asked_ones ++ coming)
  pub front : (later : Answers) → (rest : List ℕ)
      × (responses 0 ms (answers ++ later) ++ end_text ending ≡ text ++ rest)

-- At every moment, whatever bytes follow, the commands and the text are a prefix of all.
abbrev pub FirstPart : Type 0
FirstPart = (s : SessionState) (past : Traffic) → StandsFor s past
    → (more : List ℕ) (ms : List Message) (ending : Ending) → Falls 0 (past.fed ++ more) ms ending
    → IsFirstPart ms ending past.given past.told (past.sent ++ s.output)
