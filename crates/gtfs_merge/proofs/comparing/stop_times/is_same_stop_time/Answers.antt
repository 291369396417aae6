use Rattle.std.proofs.Common.{sym}
use Rattle.gtfs_merge.specs.Renaming.{stop_b}
use Rattle.gtfs_merge.specs.MergedSides.{content_a, content_b, nearness_of}
use Rattle.gtfs_merge.proofs.JoinedStopTimes.{stop-meets}
use Rattle.gtfs_merge.proofs.comparing.stop_times.is_same_stop_time.Goals as goal

pub returns : goal.returns
returns c =
    let sides = c.args.sides.now in
    c.is_same_stop_row.ensures sides.a.now sides.b.now (stop_b (nearness_of sides) (content_a sides) (content_b sides))
    (stop-meets sides c.soundness.ensures.a (λ n. n.0) c.args.stops.now c.requires.stops c.args.row_a.stop_id.0 c.args.row_b.stop_id.0
    c.requires.stop_a c.requires.stop_b _ c.is_twin-stop.ensures)
    (sym c.is_same_headsign-headsign.ensures)
