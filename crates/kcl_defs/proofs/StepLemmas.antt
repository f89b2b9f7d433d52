-- A consumer's trace keeps having its tenure's reads and Gives, after each further command and event.
use Rattle.std.proofs.Common.{◌≡◌, ℕ, ◌+◌, false, List, [], ◌∷◌, ◌++◌, Some, refl, sym, ap, subst, ◌∙◌}
use Rattle.std.specs.Prelude.{◌==◌, cond, if◌then◌else◌, Result}
use Rattle.std.proofs.lemmas.List.{append-nil}
use Rattle.std.proofs.lemmas.Option.{same_Some}
use Rattle.kds_base.proofs.Facts.{is_itself, plus_none}
use Rattle.kds_defs.specs.declared.command.Command.{Command}
use Rattle.kds_defs.specs.declared.command.Command.TheVariants as command
use Rattle.kds_defs.specs.declared.command.Turn.{Turn}
use Rattle.kcl_defs.specs.declared.consumer.Ask.{Ask}
use Rattle.kcl_defs.specs.declared.consumer.Ask.TheVariants as ask
use Rattle.kcl_defs.specs.declared.consumer.Fetched.{Fetched}
use Rattle.kcl_defs.specs.declared.consumer.Tenancy.{Tenancy}
use Rattle.kds_defs.specs.declared.reply.Refusal.{Refusal}
use Rattle.kds_defs.specs.declared.reply.Reply.{Reply}
use Rattle.kcl_defs.specs.Consumers.{Past, Event, Called, Answered, Losing, Stage, Opening, Filling, Giving, Marking}
use Rattle.kcl_defs.specs.Consumers.{MarkingEnd, next_command, stage_after, calls_after}
use Rattle.kds_defs.specs.Histories.{answer}
use Rattle.kcl_defs.specs.Lives.{Deal, deals_of, reads_of, reads_in, gives_of, gives_in, reads_at, reads_after}
use Rattle.kcl_defs.specs.Lives.{gives_at, gives_after, read_in, give_in, IsInStep, IsLife, IsLifeAmong}
use Rattle.kcl_defs.proofs.LifeLemmas.{life}

-- ---- The reads and gives of a command are those of the stage in which it comes next

own_read : (t position limit : ℕ) (answer : Result Reply Refusal) → reads_of t (command.Read t position limit) answer
    ≡ read_in answer
own_read t position limit answer = ap (λ b. if b then read_in answer else []) (is_itself t)

own_give : (t : ℕ) (answer : Result Reply Refusal) → gives_of t (command.Give t) answer ≡ give_in answer
own_give t answer = ap (λ b. if b then give_in answer else 0) (is_itself t)

-- An answer adds the same read and give to the commands as to the consumer's trace.
pub record Adds (made : Tenancy) (stage : Stage) (asked : Command) (answer : Result Reply Refusal) : Type 0 where
  pub reads : reads_of made.tenure asked answer ≡ reads_at stage (Answered answer)
  pub gives : gives_of made.tenure asked answer ≡ gives_at stage (Answered answer)

adds_as : (made : Tenancy) (stage : Stage) (request asked : Command) (answer : Result Reply Refusal)
    → Some request ≡ Some asked → Adds made stage request answer → Adds made stage asked answer
adds_as made stage request asked answer e h = subst (λ w. Adds made stage w answer) (same_Some request asked e) h

pub adds : (made : Tenancy) (stage : Stage) (counter : ℕ) (request : Command) (answer : Result Reply Refusal)
    → next_command made stage counter ≡ Some request → Adds made stage request answer
adds made Opening counter request answer e =
    adds_as made Opening _ request answer e (record { reads = refl; gives = refl })
adds made (Filling reach waiting) counter request answer e =
    adds_as made (Filling reach waiting) _ request answer e (record {
      reads = own_read made.tenure reach made.limit answer;
      gives = refl;
    })
adds made (Giving reach waiting asked lost) counter request answer e =
    adds_as made (Giving reach waiting asked lost) _ request answer e
    (record { reads = refl; gives = own_give made.tenure answer })
adds made (Marking reach waiting target) counter request answer e =
    adds_as made (Marking reach waiting target) _ request answer e (record { reads = refl; gives = refl })
adds made MarkingEnd counter request answer e =
    adds_as made MarkingEnd _ request answer e (record { reads = refl; gives = refl })
adds made _ counter request answer e = absurd cc

-- ---- Steps

pub others_keep : (deal : Deal) (deals : List Deal) (made : Tenancy) (past : Past)
    → reads_of made.tenure deal.what deal.answer ≡ [] → gives_of made.tenure deal.what deal.answer ≡ 0
    → IsInStep deals made past → IsInStep (deal ∷ deals) made past
others_keep deal deals made past no_read no_give s =
    record {
      reads = ap (λ rs. reads_in made.tenure deals ++ rs) no_read ∙ append-nil (reads_in made.tenure deals) ∙ s.reads;
      gives = ap (λ n. gives_in made.tenure deals + n) no_give ∙ plus_none (gives_in made.tenure deals) ∙ s.gives;
    }

pub own_keeps : (deal : Deal) (deals : List Deal) (counter : ℕ) (made : Tenancy) (past : Past)
    → next_command made (stage_after made past) counter ≡ Some deal.what → IsInStep deals made past
    → IsInStep (deal ∷ deals) made (Answered deal.answer ∷ past)
own_keeps deal deals counter made past next s =
    let a = adds made (stage_after made past) counter deal.what deal.answer next in
    record {
      reads = ap (λ rs. rs ++ reads_of made.tenure deal.what deal.answer) s.reads
          ∙ ap (λ rs. reads_after made past ++ rs) a.reads;
      gives = ap (λ n. n + gives_of made.tenure deal.what deal.answer) s.gives
          ∙ ap (λ n. gives_after made past + n) a.gives;
    }

called_reads : (stage : Stage) (asked : Ask) → (reads_at stage (Called asked) ≡ [])
    × (gives_at stage (Called asked) ≡ 0) × (reads_at stage Losing ≡ []) × (gives_at stage Losing ≡ 0)
called_reads (Filling reach waiting) asked = (refl, refl, refl, refl)
called_reads (Giving reach waiting target lost) asked = (refl, refl, refl, refl)
called_reads _ asked = (refl, refl, refl, refl)

silent : (deals : List Deal) (made : Tenancy) (event : Event) (past : Past)
    → reads_at (stage_after made past) event ≡ [] → gives_at (stage_after made past) event ≡ 0
    → IsInStep deals made past → IsInStep deals made (event ∷ past)
silent deals made event past no_read no_give s =
    record {
      reads = s.reads ∙ sym (ap (λ rs. reads_after made past ++ rs) no_read ∙ append-nil (reads_after made past));
      gives = s.gives ∙ sym (ap (λ n. gives_after made past + n) no_give ∙ plus_none (gives_after made past));
    }

pub called_keeps : (deals : List Deal) (made : Tenancy) (asked : Ask) (past : Past) → IsInStep deals made past
    → IsInStep deals made (Called asked ∷ past)
called_keeps deals made asked past s =
    let n = called_reads (stage_after made past) asked in silent deals made (Called asked) past n.0 n.1 s

pub lost_keeps : (deals : List Deal) (made : Tenancy) (past : Past) → IsInStep deals made past
    → IsInStep deals made (Losing ∷ past)
lost_keeps deals made past s =
    let n = called_reads (stage_after made past) ask.None in silent deals made Losing past n.2 n.3 s

-- ---- The calls of the processor

pub life_among : (deals : List Deal) (made : Tenancy) (past : Past) → IsInStep deals made past
    → IsLifeAmong deals made (calls_after made past)
life_among deals made past s =
    let P : List Fetched → Type 0 = λ rs. IsLife made rs (gives_in made.tenure deals) (calls_after made past) in
    let Q : ℕ → Type 0 = λ n. IsLife made (reads_after made past) n (calls_after made past) in
    subst P (sym s.reads) (subst Q (sym s.gives) (life made past))

-- ---- A history

pub others_turn : (actor : ℕ) (turn : Turn) (h : List Turn) → (turn.by == actor) ≡ false
    → deals_of actor (turn ∷ h) ≡ deals_of actor h
others_turn actor turn h other =
    ap (λ b. cond b (record { what = turn.what; answer = answer h turn } ∷ deals_of actor h) (deals_of actor h)) other
