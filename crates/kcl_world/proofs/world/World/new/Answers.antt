use Rattle.std.proofs.Common.{[], sym, ap, ◌∙◌}
use Rattle.kds_service.specs.Shown.{ServiceValue}
use Rattle.kcl_world.proofs.Turns.{stands_new}
use Rattle.kcl_world.proofs.world.World.new.Goals as goal

pub invariant_of-result : goal.invariant_of-result
invariant_of-result c =
    let clock = ap (λ (s : ServiceValue). s.clock) c.new.ensures.value in (
      clock ∙ sym c.start.ensures,
      (
        [],
        rw (
          c.new-2.ensures,
          c.new-3.ensures,
        ) (stands_new c.new.result clock (ap (λ (s : ServiceValue). s.next_to_settle) c.new.ensures.value)
            c.new.ensures.shows),
      ),
    )
