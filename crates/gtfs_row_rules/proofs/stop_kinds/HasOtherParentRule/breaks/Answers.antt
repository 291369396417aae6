use Rattle.gtfs_row_rules.specs.StopKinds.{is_other_parent}
use Rattle.gtfs_schema.specs.steps.StopTypes.{type_of}
use Rattle.gtfs_schema.specs.FieldValues.{if_there}
use Rattle.gtfs_row_rules.proofs.stop_kinds.HasOtherParentRule.breaks.Goals as goal

pub returns-in-Some-clause-same : goal.returns-in-Some-clause-same
returns-in-Some-clause-same c = λ i n r. if_there (type_of c.args.self.now.types.now n) (λ own. if_there (c.location_type.ensures.same i r) (is_other_parent own))

pub returns-in-None-clause-same : goal.returns-in-None-clause-same
returns-in-None-clause-same c = λ i n r. if_there (type_of c.args.self.now.types.now n) (λ own. if_there (c.location_type.ensures.same i r) (is_other_parent own))
