-- The function that serves a command answers as the machine's decision does.
use Rattle.std.proofs.Common.{◌≡◌, ℕ, ◌+◌, ◌≤◌, true, length, sym, ap, subst, ◌∙◌, arith}
use Rattle.std.specs.Prelude.{◌-◌, ◌||◌, nat_le, nat_lt, IfOk, Result, Ok, Err}
use Rattle.std.specs.List.{filter}
use Rattle.std.proofs.lemmas.Bool.Decides.{nat_tests}
use Rattle.kds_defs.specs.declared.command.Command.{Command}
use Rattle.kds_defs.specs.declared.limits.TheConstants.{OPEN_SHARDS}
use Rattle.kds_defs.specs.declared.reply.Refusal.{Refusal}
use Rattle.kds_defs.specs.declared.reply.Reply.{Reply}
use Rattle.kds_defs.specs.Decision.{Decision}
use Rattle.kds_defs.specs.Histories.{answer_of, decide, lines_of}
use Rattle.kds_defs.specs.Journal.{Journal, with_lines}
use Rattle.kds_defs.specs.Kinds.{is_query}
use Rattle.kds_defs.specs.ScaleCommands.{open_elsewhere}
use Rattle.kds_defs.specs.Shards.{is_open, open_count}
use Rattle.kds_defs.proofs.Walk.{query_idle}
use Rattle.kds_stream.specs.Serving.{IsToldOf, Serves, needs_open_limit}
use Rattle.kds_stream.specs.Showing.{Decides, Shows, is_full}
use Rattle.kds_stream.specs.Steps.{is_over}
use Rattle.kds_stream.specs.Value.{StreamValue}

-- ---- A command that may change the stream

-- A call that answers and changes the stream as the machine's decision says serves the command.
pub serves : {E : Type 0} (r : Result (Result Reply Refusal) E) (v w : StreamValue) (open_limit : ℕ)
    (command command' : Command)
    (d : Journal → ℕ → Decision)
    → command ≡ command' → ((log : Journal) (actor : ℕ) → IsToldOf command' open_limit v log
    → decide log v.clock actor command' ≡ d log actor)
    → IfOk r (λ a. Decides v w a d) → IfOk r (λ a. Serves command open_limit v w a)
serves (Err e) v w open_limit command command' d is same led = tt
serves (Ok gives) v w open_limit command command' d is same led =
    subst (λ x. Serves x open_limit v w gives) (sym is)
    (λ log actor is_told.
    subst (λ e. (gives ≡ answer_of e) × Shows w (with_lines (lines_of e) log)) (sym (same log actor is_told))
    (led log actor is_told.shown))

-- ---- A command that only reads, and adds no line

-- A call that answers a query as the machine's decision does serves the command.
pub tells : {E : Type 0} (r : Result (Result Reply Refusal) E) (v : StreamValue) (open_limit : ℕ)
    (command command' : Command)
    (d : Journal → Decision)
    → command ≡ command' → is_query command' ≡ true
    → ((log : Journal) (actor : ℕ) → IsToldOf command' open_limit v log → decide log v.clock actor command' ≡ d log)
    → ((log : Journal) → Shows v log → IfOk r (λ a. a ≡ answer_of (d log)))
    → IfOk r (λ a. Serves command open_limit v v a)
tells (Err e) v open_limit command command' d is query same answered = tt
tells (Ok gives) v open_limit command command' d is query same answered =
    subst (λ x. Serves x open_limit v v gives) (sym is)
    (λ log actor is_told.
    let none = query_idle log v.clock actor command' query in (
      answered log is_told.shown ∙ ap answer_of (sym (same log actor is_told)),
      subst (λ lines. Shows v (with_lines lines log)) (sym none) is_told.shown,
    ))

-- ---- The stream's tests of the limit on open shards

module _ (command : Command) (open_limit : ℕ) (v : StreamValue) (log : Journal)
    (is_told : IsToldOf command open_limit v log)
    (asks : needs_open_limit command ≡ true) where
  -- The stream's own limit of open shards agrees with the limit over all streams.
  pub full_so : is_full v open_limit ≡ nat_le OPEN_SHARDS (open_count log)
  full_so = cases (length (filter is_open v.tree)) (open_elsewhere log v.no) (open_count log) open_limit is_told.opened
      (is_told.fits asks)
    where
      cases : (own others all open_limit : ℕ) → all ≡ others + own → open_limit ≡ OPEN_SHARDS - others
          → (nat_le open_limit own || nat_le OPEN_SHARDS own) ≡ nat_le OPEN_SHARDS all
      cases own others all open_limit sum is = grind (arith, nat_tests)

  -- The stream's own limit of a scaling agrees with the limit over all streams.
  pub over_so : (target : ℕ) → 1 ≤ target
      → is_over target open_limit ≡ nat_lt OPEN_SHARDS (open_elsewhere log v.no + target)
  over_so target some = cases (open_elsewhere log v.no) open_limit (is_told.fits asks)
    where
      cases : (others open_limit : ℕ) → open_limit ≡ OPEN_SHARDS - others
          → nat_lt open_limit target ≡ nat_lt OPEN_SHARDS (others + target)
      cases others open_limit is = grind (arith, nat_tests)
