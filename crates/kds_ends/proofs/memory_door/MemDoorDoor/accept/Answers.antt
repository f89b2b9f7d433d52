use Rattle.std.proofs.Common.{rules}
use Rattle.kds_ends.proofs.memory_door.MemDoorDoor.accept.Goals as goal

pub returns-in-Some-clause-cause : goal.returns-in-Some-clause-cause
returns-in-Some-clause-cause c = search rules

pub returns-in-Some-clause-failed : goal.returns-in-Some-clause-failed
returns-in-Some-clause-failed c = search rules
