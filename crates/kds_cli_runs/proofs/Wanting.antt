-- Each task may end with Memory before anything is read or written.
use Rattle.std.proofs.Common.{◌≡◌, ℕ, Bool, true, false, List, [], Option, Some, None, refl, inl, inr}
use Rattle.std.specs.Option.{IfSome}
use Rattle.std.proofs.KnownBytes.{Appends-nil}
use Rattle.kds_defs.specs.Histories.{journal}
use Rattle.kcl_audit.specs.Audited.{TellsAudit}
use Rattle.kds_ends.specs.declared.status.Status.TheVariants.{Done, Memory, Unsound}
use Rattle.kds_cli_words.specs.declared.task.Task.{Task}
use Rattle.kds_cli_words.specs.declared.task.Task.TheVariants.{Replay, Answer, Audit, Serve, Drill}
use Rattle.kds_server.specs.Texts.{Tells}
use Rattle.kds_server.proofs.Turning.{gives_none}
use Rattle.kds_session.specs.Text.{commands}
use Rattle.kcl_script.specs.declared.line.Line.{Line}
use Rattle.kcl_sim.specs.Schedule.{history, judged}
use Rattle.kcl_sim.specs.Standing.{SimValue}
use Rattle.kds_cli_runs.specs.Answered.{RanBy}
use Rattle.kds_server.specs.Around.{around}
use Rattle.kds_server.proofs.Ends.{front_none}
use Rattle.kds_cli_runs.specs.Ends.{Answers, Audited, Performed, Replayed, ReplayTells, shown}
use Rattle.kds_cli_runs.proofs.Answering.{Laws, run_safely}
use Rattle.kds_cli_runs.proofs.Journaling.{nothing_recorded}

still : SimValue
still = record { history = []; cleared_at = []; workers = []; unfinished = false }

none_ran : (output : List Line → List ℕ) (bytes : List ℕ) (held : Option (List ℕ))
    → RanBy output Memory bytes held held still
unfolding still
none_ran output bytes held = record {
  lines = [];
  later = (judged bytes).lines;
  parts = refl;
  made = inl (record { history = refl; workers = λ e. tt });
  front = [];
  back = output [];
  output_is = refl;
  written = Appends-nil held;
  remains = tt;
}

tells_none : (all left held : Option (List ℕ)) → IfSome all (λ bytes. Tells Memory bytes left [] [] held held)
tells_none None left held = tt
tells_none (Some bytes) left held = record {
  first = λ ms ending falls. (commands ms, refl);
  written = λ ms ending falls later. front_none held _;
}

unserved : (all left moments held : Option (List ℕ)) → Answers Memory (around all left) (around held held) moments
unserved all left moments held = record {
  kind = tt;
  spent = moments;
  served = record {
    given = [];
    told = [];
    between = moments;
    made = record { moments = []; one_each = refl; gives = gives_none moments; told_is = refl };
    asked = inl refl;
    tells = tells_none all left held;
  };
}

told_none : (journal : Bool) (bytes : List ℕ) (left held : Option (List ℕ))
    → ReplayTells journal Memory bytes left held held
told_none false bytes left held = front_none held _
told_none true bytes left held = nothing_recorded (history bytes) held

audit_none : (all held : Option (List ℕ)) → IfSome all (λ bytes. TellsAudit Memory bytes held held)
audit_none None held = tt
audit_none (Some bytes) held = front_none held _

not_done : Memory ≡ Done → ⊥
not_done e = cc

not_unsound : Memory ≡ Unsound → ⊥
not_unsound e = cc

unaudited : (all held : Option (List ℕ)) → Audited Memory all (around held held)
unaudited all held = record {
  kind = tt;
  told = audit_none all held;
  safe = λ e. absurd (not_done e);
  legal = λ e. absurd (not_unsound e);
}

module _ (laws : Laws) where
  unreplayed : (journal : Bool) (all left held : Option (List ℕ))
      → Replayed journal Memory (around all left) (around held held)
  unreplayed journal None left held = record { kind = tt; told = tt; ran = tt; sound = λ j e. tt }
  unreplayed journal (Some bytes) left held = record {
    kind = tt;
    told = told_none journal bytes left held;
    ran = run_safely (shown journal Memory) Memory bytes held held still laws
        (none_ran (shown journal Memory) bytes held);
    sound = λ j e. absurd (not_done e);
  }

  pub wanting : (task : Task) (bytes left moments held : Option (List ℕ)) (listens : ℕ → Type 0)
      → Performed task Memory (record {
        input = around bytes left;
        out = around held held;
        moments = moments;
        listens = listens;
      })
  wanting (Replay journal) bytes left moments held listens = unreplayed journal bytes left held
  wanting Answer bytes left moments held listens = unserved bytes left moments held
  wanting Audit bytes left moments held listens = unaudited bytes held
  wanting (Serve port passes) bytes left moments held listens = inr (Appends-nil held)
  wanting (Drill number workers records) bytes left moments held listens = Appends-nil held
