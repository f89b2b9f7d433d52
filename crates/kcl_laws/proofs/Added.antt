-- When added lines leave a journal legal, and small facts about live streams and sequence numbers.
use Rattle.std.proofs.Common.{◌≡◌, ℕ, suc, ◌+◌, ◌≤◌, true, false, List, ap, arith}
use Rattle.std.specs.Prelude.{◌==◌, not, nat_lt, if◌then◌else◌}
use Rattle.std.proofs.lemmas.Bool.Decides.{nat_tests}
use Rattle.kds_defs.specs.declared.reply.Refusal.TheVariants as refusal
use Rattle.kds_defs.specs.Decision.{Decision}
use Rattle.kds_defs.specs.Journal.{Line, Journal, with_lines}
use Rattle.kds_defs.specs.Legal.{in_stream, IsLegal, last_clock}
use Rattle.kds_defs.specs.Streams.{is_live}
use Rattle.kds_defs.proofs.Decisions.{passed_if}

-- The journal with these lines added is legal, and no line is later than `c`.
pub record Adds (log : Journal) (lines : List Line) (c : ℕ) : Type 0 where
  pub legal : IsLegal (with_lines lines log)
  pub clock : last_clock (with_lines lines log) ≤ c

pub in_live : (log : Journal) (s : ℕ) (d : Decision) → is_live log s ≡ true → in_stream log s d ≡ d
in_live log s d live = passed_if refusal.NoStream (not (is_live log s)) d (ap not live)

pub draws_one : (s n m : ℕ) → n ≡ m → n + 1 ≡ (if s == s then 1 else 0) + m
draws_one s n m h = grind (arith, nat_tests)

pub not_spent : (n last more : ℕ) → n + suc more ≤ last → (n == last) ≡ false
not_spent n last more h = grind (arith, nat_tests)

pub not_past : (n last : ℕ) → nat_lt last n ≡ false → n ≤ last
not_past n last h = grind (arith, nat_tests)
