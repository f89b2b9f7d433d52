-- LocalEnforceLimits: the answer of the decision, and what the stream shows after it.
use Rattle.std.proofs.Common.{◌≡◌, ℕ, Bool, ◌∷◌, refl}
use Rattle.std.specs.Prelude.{◌==◌, Ok}
use Rattle.kds_defs.specs.declared.entry.Entry.TheVariants as entry
use Rattle.kds_defs.specs.declared.reply.Reply.TheVariants as reply
use Rattle.kds_defs.specs.Histories.{answer_of, lines_of}
use Rattle.kds_defs.specs.Journal.{Journal, Line, plain_line, with_lines}
use Rattle.kds_defs.specs.PutCommands.{enforce, is_enforced}
use Rattle.kds_defs.specs.Streams.{floor_of}
use Rattle.std.proofs.Common.{arith, ◌∙◌}
use Rattle.kds_defs.proofs.Elsewhere.{floor_same}
use Rattle.kds_base.proofs.Facts.{chosen, is_itself}
use Rattle.kds_stream.proofs.Others.{kept_along}
use Rattle.kds_stream.specs.Showing.{Shows}
use Rattle.kds_stream.specs.Value.{StreamValue}

-- The line by which the actor `actor` turns the limits of the stream on or off.
abbrev pub limits_line : StreamValue → ℕ → Bool → Line
limits_line v actor is_on = plain_line v.clock actor (entry.Enforced v.no is_on)

-- The answer is `Done`, and the stream with the new setting shows the journal with the line.
pub enforce_done : (v : StreamValue) (log : Journal) (actor : ℕ) (is_on : Bool) → Shows v log
    → (Ok reply.Done ≡ answer_of (enforce log v.clock actor v.no is_on))
    × Shows (record v { enforced = is_on; clock_before = v.clock; cut_before = v.cut })
    (with_lines (lines_of (enforce log v.clock actor v.no is_on)) log)
enforce_done v log actor is_on shown = (
  refl,
  record {
    stored = record {
      live = shown.stored.live;
      was = shown.stored.was;
      named = shown.stored.named;
      made_is = shown.stored.made_is;
      hours_are = shown.stored.hours_are;
      shards_are = shown.stored.shards_are;
      next_is = omega (arith, shown.stored.next_is);
      floor_is = floor_same log (limits_line v actor is_on) v.no v.clock (omega arith) refl ∙ shown.stored.floor_is;
      kept = kept_along (floor_of v.cut) log (limits_line v actor is_on ∷ log) v.no 0 v.logs (λ sh. refl)
          shown.stored.kept;
      none_beyond = shown.stored.none_beyond;
    };
    rates = record {
      enforced_is = chosen (v.no == v.no) is_on (is_enforced log v.no) (is_itself v.no);
      stand = shown.rates.stand;
      none_beyond = shown.rates.none_beyond;
    };
  },
)
