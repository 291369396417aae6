use Rattle.std.proofs.Common.{◌∙◌, ap}
use Rattle.gtfs_schema.specs.steps.Ids.{are_clear}
use Rattle.gtfs_schema.proofs.IdNumberFacts.{clear_listed}
use Rattle.gtfs_schema.proofs.ids.Ids.are_clear.Goals as goal

pub returns : goal.returns
returns c = c.self.invariant.clear ∙ clear_listed _ c.self.inside.rows.items c.self.invariant.index ∙ ap are_clear c.self.view_is
