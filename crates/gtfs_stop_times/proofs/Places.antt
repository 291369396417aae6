-- The stop times of a trip that stand somewhere in a list of rows.
use Rattle.std.proofs.Common.{◌≡◌, ◌<◌, ◌∙◌, ◌++◌, ℕ, List, Some, ap, arith, get_or, length, map, sym}
use Rattle.std.specs.Prelude.{option_map, slice_get}
use Rattle.std.proofs.lemmas.List.{length-map}
use Rattle.std.proofs.lemmas.Option.{slice_get-get_or, slice_get-map}
use Rattle.gtfs_table.specs.FieldOffsets.{parts}
use Rattle.gtfs_stop_times.specs.StopTimesByTrip.{StopTimesOfTrips, at_places, in_turn, rows_in}
use Rattle.gtfs_stop_times.specs.declared.by_trip.Places.TheVariants as places
use Rattle.gtfs_stop_times.specs.declared.by_trip.Places.{Places}
use Rattle.gtfs_stop_times.specs.declared.by_trip.RowRange.{RowRange}
use Rattle.gtfs_stop_times.specs.declared.stop_row.StopRow.{StopRow}
use Rattle.gtfs_stop_times.proofs.Turns.{length-starts, parts-in_turn}
use Rattle.std.proofs.Common.{Vec, Global}

module _ (rows : List StopRow) (p : Places) (more : Vec StopRow Global) (ranges : Vec RowRange Global) (len : ℕ) (are : p ≡ places.Anywhere more ranges len)
    (t : StopTimesOfTrips) (seen : at_places rows p ≡ t) where
  abbrev all : List StopRow
  all = rows ++ more.items

  is : in_turn (map (rows_in all) ranges.items) ≡ t
  is = ap (at_places rows) (sym are) ∙ seen

  -- the lists of all trips
  pub lists-are : map (rows_in all) ranges.items ≡ parts t.starts t.rows
  lists-are = sym (parts-in_turn (map (rows_in all) ranges.items)) ∙ ap (λ x. parts x.starts x.rows) is

  module _ (n : ℕ) (within : n < length t.starts) where
    pub in-ranges : n < length ranges.items
    in-ranges =
        let count = ap (λ x. length x.starts) is in
        omega (arith, within, count, length-starts 0 (map (rows_in all) ranges.items), length-map ranges.items (rows_in all))

    pub rows-at : (d : RowRange) → slice_get (parts t.starts t.rows) n ≡ Some (rows_in all (get_or ranges.items n d))
    rows-at d =
        ap (λ ps. slice_get ps n) (sym lists-are)
        ∙ slice_get-map (rows_in all) ranges.items n
        ∙ ap (option_map (rows_in all)) (slice_get-get_or ranges.items n d in-ranges)
