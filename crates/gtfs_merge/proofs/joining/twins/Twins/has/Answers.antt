use Rattle.std.proofs.Common.{◌∙◌, ap, is_some}
use Rattle.gtfs_merge.proofs.joining.twins.Twins.has.Goals as goal

pub returns : goal.returns
returns c = c.is_some.ensures ∙ ap is_some c.of.ensures
