use Rattle.gtfs_rows.specs.RowsInMemory.{stop_time_names_rows}
use Rattle.gtfs_table.proofs.PartFacts.{all_in_part}
use Rattle.gtfs_writing.proofs.text_room.count_some_trips.Goals as goal

pub write_trip_rows-requires-clause-names : goal.write_trip_rows-requires-clause-names
write_trip_rows-requires-clause-names c =
    all_in_part (stop_time_names_rows c.args.parts.now) _ _ _ _ c.requires.sound.names_rows.stop_rows c.of_trip-of_trip.ensures
