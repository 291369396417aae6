use Rattle.std.proofs.Common.{arith}
use Rattle.gtfs_field.proofs.Texts.{hours_text-three, hours_text-four}
use Rattle.gtfs_field.proofs.clock.spare_digits.Goals as goal

pub returns-in-100-to-999-clause-value : goal.returns-in-100-to-999-clause-value
returns-in-100-to-999-clause-value c = hours_text-three c.args.hours (omega arith) (omega arith)

pub returns-in_default-clause-value : goal.returns-in_default-clause-value
returns-in_default-clause-value c = hours_text-four c.args.hours (omega arith) (omega arith)
