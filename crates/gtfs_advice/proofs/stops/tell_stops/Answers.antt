use Rattle.std.proofs.Common.{subst}
use Rattle.std.specs.Prelude.{OnOk}
use Rattle.gtfs_rows.specs.RowsInMemory.{content_of_parts}
use Rattle.gtfs_advice.specs.Advice.{Tells, stop_advice}
use Rattle.gtfs_advice.proofs.stops.tell_stops.Goals as goal

pub returns : goal.returns
returns c =
    subst (λ p. OnOk c.tell_each.result (Tells p (stop_advice (content_of_parts p)) c.args.told.now.items c.tell_each.new.told.items)) c.parts-parts.ensures.value c.tell_each.ensures
