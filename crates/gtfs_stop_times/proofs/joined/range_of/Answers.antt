use Rattle.std.proofs.Common.{◌<◌, ◌∙◌, [], ap, length, map, subst, sym}
use Rattle.std.proofs.lemmas.List.{get_or-map}
use Rattle.gtfs_stop_times.specs.StopTimesByTrip.{rows_in}
use Rattle.gtfs_stop_times.specs.JoinedStopTimes.{IsTripOf, list_of}
use Rattle.gtfs_stop_times.proofs.RangeFacts.{in-second}
use Rattle.gtfs_stop_times.proofs.joined.range_of.Goals as goal

pub returns-in-Second-clause-rows : goal.returns-in-Second-clause-rows
returns-in-Second-clause-rows c =
    let first = c.args.first.now in
    let second = c.args.second.now in
    let n = c.in-Second.number in
    let r = c.index-range.result.now in
    let within : n < length second.ranges.items = subst (IsTripOf (length first.ranges.items) (length second.ranges.items)) c.in-Second.is c.requires.trip in
    in-second first.rows.items second.rows.items c.len-behind.result r.start r.end (c.len-behind.ensures ∙ first.rows.ok.0)
    ∙ ap (rows_in second.rows.items) c.index-range.ensures ∙ sym (get_or-map (rows_in second.rows.items) second.ranges.items n r [] within)
    ∙ ap (list_of (map (rows_in first.rows.items) first.ranges.items) (map (rows_in second.rows.items) second.ranges.items)) (sym c.in-Second.is)
