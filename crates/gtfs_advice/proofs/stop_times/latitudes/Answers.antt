use Rattle.std.proofs.Common.{rules, tests}
use Rattle.std.proofs.lemmas.Iterator.{YieldsList-from_map, YieldsList-from_slice, items_from_collect}
use Rattle.gtfs_advice.specs.NumberedRows.{latitude_of}
use Rattle.gtfs_advice.proofs.stop_times.latitudes.Goals as goal

pub returns : goal.returns
returns c =
    let made = items_from_collect c.collect.result c.collect.ensures.ran (YieldsList-from_map _ latitude_of (YieldsList-from_slice c.args.stops.now cc) c.map.ensures.closure (λ x r q k. search (rules, tests))) in
    rw c.in_ok-collect.was at made
