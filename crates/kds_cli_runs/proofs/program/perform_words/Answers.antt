use Rattle.std.proofs.Common.{◌≡◌, Some, refl, sym, inl, inr, ◌∙◌}
use Rattle.kds_ends.specs.declared.status.Status.TheVariants.{Memory}
use Rattle.kds_cli_words.specs.Words.{task_of, texts_of}
use Rattle.kds_server.specs.Around.{around}
use Rattle.kds_cli_runs.specs.Completed.{Completed}
use Rattle.kds_cli_runs.specs.Ends.{Performed}
use Rattle.kds_cli_runs.proofs.Asked.{asked_so, listens_or_not, no_door, no_input, none_completed, not_none}
use Rattle.kds_cli_runs.proofs.Codes.{each, no_usage}
use Rattle.kds_cli_runs.proofs.program.perform_words.Goals as goal

-- ---- The words ask for a task

pub returns-in-Ok-Some-clause-usage : goal.returns-in-Ok-Some-clause-usage
returns-in-Ok-Some-clause-usage g c =
    λ usage. absurd (c.perform.ensures.usage usage)

pub returns-in-Ok-Some-clause-refused : goal.returns-in-Ok-Some-clause-refused
returns-in-Ok-Some-clause-refused g c =
    let is : Some c.in-Ok-Some.task ≡ task_of (texts_of c.args.words.now.items) =
    sym c.in-Ok-Some.field-0-is ∙ c.in-Ok-Some.ensures.task in
    λ none. absurd (not_none _ _ is none)

pub returns-in-Ok-Some-clause-untouched : goal.returns-in-Ok-Some-clause-untouched
returns-in-Ok-Some-clause-untouched g c =
    let is : Some c.in-Ok-Some.task ≡ task_of (texts_of c.args.words.now.items) =
    sym c.in-Ok-Some.field-0-is ∙ c.in-Ok-Some.ensures.task in
    λ none. absurd (not_none _ _ is none)

pub returns-in-Ok-Some-clause-performed : goal.returns-in-Ok-Some-clause-performed
returns-in-Ok-Some-clause-performed g c =
    asked_so _ (task_of (texts_of c.args.words.now.items)) c.in-Ok-Some.task (sym c.in-Ok-Some.field-0-is
    ∙ c.in-Ok-Some.ensures.task)
    c.perform.ensures.performed

pub returns-in-Ok-Some-clause-complete : goal.returns-in-Ok-Some-clause-complete
returns-in-Ok-Some-clause-complete g c = λ read write door.
    asked_so _ (task_of (texts_of c.args.words.now.items)) c.in-Ok-Some.task (sym c.in-Ok-Some.field-0-is
    ∙ c.in-Ok-Some.ensures.task)
    (c.perform.ensures.complete read write door)

pub returns-in-Ok-Some-clause-door_left : goal.returns-in-Ok-Some-clause-door_left
returns-in-Ok-Some-clause-door_left g c = λ none.
    c.perform.ensures.door_left
    (no_door _ c.in-Ok-Some.task (sym c.in-Ok-Some.field-0-is ∙ c.in-Ok-Some.ensures.task) none)

pub returns-in-Ok-Some-clause-input_left : goal.returns-in-Ok-Some-clause-input_left
returns-in-Ok-Some-clause-input_left g c = λ none.
    c.perform.ensures.input_left
    (no_input _ c.in-Ok-Some.task (sym c.in-Ok-Some.field-0-is ∙ c.in-Ok-Some.ensures.task) none)

pub returns-in-Ok-Some-clause-read : goal.returns-in-Ok-Some-clause-read
returns-in-Ok-Some-clause-read g c = c.perform.ensures.read

pub returns-in-Ok-Some-clause-write : goal.returns-in-Ok-Some-clause-write
returns-in-Ok-Some-clause-write g c = c.perform.ensures.write

pub returns-in-Ok-Some-clause-door : goal.returns-in-Ok-Some-clause-door
returns-in-Ok-Some-clause-door g c = c.perform.ensures.door

-- ---- The words ask for no task

pub returns-in-Ok-None-clause-usage : goal.returns-in-Ok-None-clause-usage
returns-in-Ok-None-clause-usage g c =
    λ usage. sym (sym c.in-Ok-None.field-0-is ∙ c.in-Ok-None.ensures.task)

pub returns-in-Ok-None-clause-refused : goal.returns-in-Ok-None-clause-refused
returns-in-Ok-None-clause-refused g c = λ none. inl refl

pub returns-in-Ok-None-clause-untouched : goal.returns-in-Ok-None-clause-untouched
returns-in-Ok-None-clause-untouched g c = λ none. (refl, refl)

-- ---- Memory runs out while the words are read

pub returns-in-Err-clause-usage : goal.returns-in-Err-clause-usage
returns-in-Err-clause-usage g c = λ usage. absurd (no_usage usage)

pub returns-in-Err-clause-refused : goal.returns-in-Err-clause-refused
returns-in-Err-clause-refused g c = λ none. inr refl

pub returns-in-Err-clause-untouched : goal.returns-in-Err-clause-untouched
returns-in-Err-clause-untouched g c = λ none. (refl, refl)

pub returns-in-Err-clause-performed : goal.returns-in-Err-clause-performed
returns-in-Err-clause-performed g c =
    let left = g.S.Source.left c.args.input.now in
    let held = g.K.Sink.held c.args.out.now in
    let moments = g.C.Clock.moments c.args.clock in
    let listens = g.D.Door.listens c.args.door.now in
    each (λ task. Performed task Memory (record {
      input = around left left;
      out = around held held;
      moments = moments;
      listens = listens;
    }))
    (λ task. listens_or_not task (around left left) (around held held) moments listens
    (c.memory_may_run_out.ensures task left left moments held))
    (task_of (texts_of c.args.words.now.items))

pub returns-in-Err-clause-complete : goal.returns-in-Err-clause-complete
returns-in-Err-clause-complete g c =
    λ read write door. each (λ task. Completed task Memory _) (λ task. none_completed task _)
    (task_of (texts_of c.args.words.now.items))
