use Rattle.std.proofs.Common.{rules, refl}
use Rattle.gtfs_schema.specs.Columns as kind
use Rattle.gtfs_schema.proofs.ReadFacts.{day_fails}
use Rattle.gtfs_schema.proofs.values.coordinate.Goals as goal

pub returns-clause-whole : goal.returns-clause-whole
returns-clause-whole c = λ e. day_fails (kind.coordinate c.args.axis) refl e c.args.text.now _ (search rules)
