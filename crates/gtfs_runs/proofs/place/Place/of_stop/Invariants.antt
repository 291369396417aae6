use Rattle.std.proofs.Common.{◌≡◌, map, take}
use Rattle.gtfs_rows.specs.RowsInMemory.{content_of_parts, stop_ids, text_of_number}
use Rattle.gtfs_rows.specs.Places.{is_in_place}
use Rattle.gtfs_runs.proofs.place.Place.of_stop.Given as goal

-- the stops so far
abbrev pub invariant-loop-number : goal.invariant-loop-number
invariant-loop-number l =
    l.members.items ≡ map (λ stop. is_in_place (content_of_parts l.feed) (text_of_number (stop_ids l.feed) l.stop.0) stop.stop_id) (take l.number l.feed.stops)
