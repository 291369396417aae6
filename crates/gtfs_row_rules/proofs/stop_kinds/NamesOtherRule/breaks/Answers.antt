use Rattle.std.specs.Prelude.{not}
use Rattle.gtfs_schema.specs.FieldValues.{if_there, is_one_of}
use Rattle.gtfs_row_rules.proofs.stop_kinds.NamesOtherRule.breaks.Goals as goal

pub returns-in-Some-clause-same : goal.returns-in-Some-clause-same
returns-in-Some-clause-same c = λ i n r. if_there (c.location_type.ensures.same i r) (λ t. not (is_one_of c.args.self.now.wanted.now t))

pub returns-in-None-clause-same : goal.returns-in-None-clause-same
returns-in-None-clause-same c = λ i n r. if_there (c.location_type.ensures.same i r) (λ t. not (is_one_of c.args.self.now.wanted.now t))
