use Rattle.std.proofs.Common.{◌≡◌, ◌∙◌, ◌++◌, ap, map}
use Rattle.std.proofs.lemmas.Result.{IfOk-weaker}
use Rattle.gtfs_table.specs.FieldOffsets.{parts}
use Rattle.gtfs_stop_times.specs.StopTimesByTrip.{rows_in}
use Rattle.gtfs_stop_times.proofs.Places.{lists-are}
use Rattle.gtfs_stop_times.proofs.by_trip.StopTimesByTrip.into_ranges.Goals as goal

pub returns-in-Anywhere-clause-rows : goal.returns-in-Anywhere-clause-rows
returns-in-Anywhere-clause-rows c =
    let rows = c.self.inside.rows.items in
    let more = c.in-Anywhere.more in
    let ranges = c.in-Anywhere.ranges in
    let all = lists-are rows c.self.inside.places more ranges c.in-Anywhere.field-2 c.in-Anywhere.is c.args.self c.self.view_is in
    IfOk-weaker c.in_one_list.result
    (λ r. map (rows_in r.rows.items) r.ranges.items ≡ map (rows_in (rows ++ c.deref-in-Anywhere.result.now)) ranges.items)
    (λ r. map (rows_in r.rows.items) r.ranges.items ≡ parts c.args.self.starts c.args.self.rows)
    (λ r same. same ∙ ap (λ ys. map (rows_in (rows ++ ys)) ranges.items) c.deref-in-Anywhere.ensures.value ∙ all) c.in_one_list.ensures.rows
