use Rattle.std.proofs.Common.{rules, pos, refl}
use Rattle.gtfs_schema.specs.Columns as kind
use Rattle.gtfs_schema.proofs.ReadFacts.{number_fails}
use Rattle.gtfs_schema.proofs.values.choice.Goals as goal

pub returns-clause-whole : goal.returns-clause-whole
returns-clause-whole c = λ e. number_fails (kind.choice c.args.ranges.now) refl e c.args.text.now pos _ (search rules)
