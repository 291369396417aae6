use Rattle.std.proofs.Common.{[], ◌∙◌, sym, ap}
use Rattle.std.specs.Prelude.{option_map, unwrap_or}
use Rattle.std.proofs.lemmas.Option.{get_or_from_slice_get}
use Rattle.gtfs_rows.specs.Trips.{stop_rows_by_trip}
use Rattle.gtfs_runs.specs.steps.Passings.{first_left}
use Rattle.gtfs_runs.proofs.stop_index.indexed_trips.IndexedTrip.of.Goals as goal

pub returns-clause-service : goal.returns-clause-service
returns-clause-service c = c.in_ok-small_number.ensures ∙ sym (ap (λ o. unwrap_or (option_map (λ u. u.service_id.0) o) 0) c.trip_by_number.ensures)

pub returns-clause-start : goal.returns-clause-start
returns-clause-start c =
    c.trip_start.ensures.value ∙ ap first_left (sym (get_or_from_slice_get (stop_rows_by_trip c.args.feed.now) c.args.trip.0 c.trip_rows.result.now [] c.trip_rows.ensures))
