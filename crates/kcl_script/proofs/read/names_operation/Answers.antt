use Rattle.std.proofs.Common.{rules}
use Rattle.kcl_script.proofs.read.names_operation.Goals as goal

pub returns-then-text-le-OPERATION_BYTES : goal.returns-then-text-le-OPERATION_BYTES
returns-then-text-le-OPERATION_BYTES c = search rules

pub returns-else-text-le-OPERATION_BYTES : goal.returns-else-text-le-OPERATION_BYTES
returns-else-text-le-OPERATION_BYTES c = search rules
