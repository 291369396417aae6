-- What the lists of stop times are in parts that have them: for whoever makes the parts of a dataset.
use Rattle.std.proofs.Common.{◌≡◌, ◌∙◌, length, map, get_or, true, ap, subst, sym}
use Rattle.std.specs.List.{list_all}
use Rattle.csv.specs.Records.{Rising}
use Rattle.gtfs_table.specs.FieldOffsets.{parts}
use Rattle.gtfs_table.specs.Tables.{Dataset}
use Rattle.gtfs_rows.specs.ContentRead.{content_of}
use Rattle.gtfs_rows.specs.RowsInMemory.{IsCut, stop_ids, stop_row_of, stop_time_names_rows}
use Rattle.gtfs_rows.specs.declared.parts.Parts.{Parts}
use Rattle.gtfs_reading.specs.StopTimeLists.{AreStopTimesOf, content_stop_ids}
use Rattle.gtfs_rows.specs.NamedRows.{has_numbers_below, stop_row_named}
use Rattle.gtfs_reading.specs.declared.stop_times.StopTimes.{StopTimes}

module _ (d : Dataset) (lists : StopTimes) (are : AreStopTimesOf d lists) (p : Parts)
    (times : p.stop_times ≡ lists.stop_times) (headsigns : p.headsigns ≡ lists.headsigns) where
  -- the rows of each trip stand for those of the content's trip
  pub rows_in_parts : stop_ids p ≡ content_stop_ids d → map (map (stop_row_of p)) (parts p.stop_times.starts p.stop_times.rows) ≡ map (λ t. t.stop_rows) (content_of d).trips
  rows_in_parts ids = (λ i. map (map (stop_row_named (ids i) (headsigns i))) (parts (times i).starts (times i).rows)) ∙ are.by_trip

  -- each trip has its stretch
  pub cut_in_parts : length p.trips ≡ length (content_of d).trips → IsCut p p.stop_times.starts p.stop_times.rows
  cut_in_parts trips = (
    ap (λ t. length t.starts) times ∙ are.trips ∙ sym trips,
    subst (λ t. Rising 0 t.starts (length t.rows)) (sym times) are.rising,
    ap (λ t. get_or t.starts 0 (length t.rows)) times ∙ are.from_first,
  )

  -- each number is that of a row
  pub numbers_in_parts : length p.stops ≡ length (content_of d).stops → list_all (stop_time_names_rows p) p.stop_times.rows ≡ true
  numbers_in_parts stops = (λ i. list_all (has_numbers_below (stops i) (length (headsigns i))) (times i).rows) ∙ are.numbers
