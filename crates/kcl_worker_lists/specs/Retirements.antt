-- What callers see of an ended consumer.
use Rattle.kcl_worker_lists.specs.declared.retired.Retired.{Retired}
use Rattle.kcl_worker_lists.specs.Lists.{Retirement}

-- An ended consumer of the code, as callers see it.
abbrev pub retirement : {P : Type 0} → (r : Retired P) → Retirement P
retirement r = record { key = r.key; tenure = r.tenure; why = r.why; processor = r.processor }
