use Rattle.std.proofs.Common.{◌++◌, append_assoc, subst, sym}
use Rattle.std.proofs.lemmas.Result.{on_ok_weaker}
use Rattle.gtfs_rows.specs.RowsInMemory.{content_of_parts}
use Rattle.gtfs_advice.specs.Advice.{Tells, advice, agency_advice, calendar_advice, end_advice, frequency_advice, gap_advice, route_advice, stop_advice, stop_time_advice, trip_advice}
use Rattle.gtfs_advice.proofs.Telling.{told-both}
use Rattle.gtfs_advice.proofs.all_advice.tell_all.Goals as goal

pub returns : goal.returns
returns c =
    let p = c.args.feed.now in
    let k = content_of_parts p in
    let day = c.args.day in
    let begin = c.args.told.now.items in
    let before = agency_advice k ++ stop_advice k ++ route_advice k ++ trip_advice k ++ stop_time_advice k ++ calendar_advice k in
    let stops = told-both p _ _ _ _ _ c.in_ok-tell_agencies.ensures c.in_ok-tell_stops.ensures in
    let routes = told-both p _ _ _ _ _ stops c.in_ok-tell_routes.ensures in
    let trips = told-both p _ _ _ _ _ routes c.in_ok-tell_trips.ensures in
    let stop_times = told-both p _ _ _ _ _ trips c.in_ok-tell_stop_times.ensures in
    let calendar = told-both p _ _ _ _ _ stop_times c.in_ok-tell_calendar.ensures in
    let joined = told-both p _ _ _ _ _ calendar c.in_ok-tell_days.ensures in
    let days = subst (λ l. Tells p l begin c.tell_days.new.told.items) (sym (append_assoc before (gap_advice k) (end_advice k day))) joined in
    let dates = told-both p _ _ _ _ _ days c.in_ok-tell_dates.ensures in
    let end = c.tell_frequencies.new.told.items in
    on_ok_weaker {P = Tells p (frequency_advice k) c.tell_dates.new.told.items end} {Q = Tells p (advice k day) begin end} c.tell_frequencies.result (λ last. told-both p _ _ _ _ _ dates last) c.tell_frequencies.ensures
