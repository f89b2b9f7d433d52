use Rattle.std.proofs.Common.{◌≡◌, drop}
use Rattle.kcl_audit_streams.specs.Living.{is_named_among}
use Rattle.kcl_audit_streams.proofs.streams.is_named.Given as goal

-- No stream so far has the name, so the streams still to come decide.
abbrev pub invariant-loop-no : goal.invariant-loop-no
invariant-loop-no l =
    is_named_among l.streams l.name (drop l.no-index l.numbers) ≡ is_named_among l.streams l.name l.numbers
