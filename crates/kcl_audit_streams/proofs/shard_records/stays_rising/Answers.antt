use Rattle.std.proofs.Common.{◌≡◌, ◌≤◌, true, ◌-◌, length, sym, ap, arith, rules}
use Rattle.std.proofs.lemmas.List.Sorted.{IsNonDecreasingBy-push}
use Rattle.std.proofs.lemmas.Option.{get_or_from_slice_get}
use Rattle.kcl_audit_streams.specs.declared.records.Sized.{Sized}
use Rattle.kcl_audit_streams.proofs.shard_records.stays_rising.Goals as goal

pub returns-in-Some : goal.returns-in-Some
returns-in-Some c = λ item is sorted le.
    let xs = c.args.records.now in
    let last = c.in-Some.last.now in
    let low : last.arrival ≤ c.args.arrival = search rules in
    let is_on : c.args.rising ≡ true = search rules in
    let rising = sorted is_on in
    IsNonDecreasingBy-push (λ (r : Sized). r.arrival) xs item rising (λ d some.
    let e = get_or_from_slice_get xs (length xs - 1) last d (sym c.in-Some.ensures.value) in
    omega (arith, low, is, ap (λ (r : Sized). r.arrival) e))
