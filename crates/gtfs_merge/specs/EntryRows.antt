-- The merged rows of each kind, one by one from the rows of both sides.
use Rattle.std.specs.Prelude.{◌≡◌, ◌<◌, List, ◌++◌, All, length, map, slice_get, Option, Some, option_map}
use Rattle.std.specs.List.Sorted.{IsPermutation}
use Rattle.std.specs.Ordering.{on}
use Rattle.gtfs_field.specs.TextOrder.{text_cmp}
use Rattle.gtfs_rows.specs.TransferOrder.{Ascends}
use Rattle.gtfs_rows.specs.Rows.{Agency, Stop, Route, ServiceRow, Trip}
use Rattle.gtfs_merge.specs.MergeEntries.{Entry, rows_of_a, rows_of_b}
use Rattle.gtfs_merge.specs.FeedIds.{known_ids}
use Rattle.gtfs_merge.specs.Merged.{agency_with, service_with}
use Rattle.gtfs_merge.specs.Renaming.{Names, route_with, stop_with, trip_with}
use Rattle.gtfs_merge.specs.MergedSides.{side_parts, side_content, side_names, merged_parts, merged_ids}
use Rattle.gtfs_merge.specs.declared.kind.Kind.{Kind}
use Rattle.gtfs_merge.specs.declared.kind.Kind.TheVariants as kind
use Rattle.gtfs_merge.specs.declared.sides.Sides.{Sides}

-- ---- the row that an entry stands for: that of its side, under the new ids of the side

abbrev pub agency_from : Sides → Entry → Option Agency
agency_from sides e = option_map (agency_with (side_names e.side sides).agency) (slice_get (side_content e.side sides).agencies e.number)

abbrev pub stop_from : Sides → Entry → Option Stop
stop_from sides e = option_map (stop_with (side_names e.side sides).stop) (slice_get (side_content e.side sides).stops e.number)

abbrev pub route_from : Sides → Entry → Option Route
route_from sides e = option_map (route_with (side_names e.side sides).route (side_names e.side sides).agency) (slice_get (side_content e.side sides).routes e.number)

abbrev pub service_from : Sides → Entry → Option ServiceRow
service_from sides e = option_map (service_with (side_names e.side sides).service) (slice_get (side_content e.side sides).services e.number)

-- a trip with all new ids of a side
abbrev pub trip_under : Names → Trip → Trip
trip_under n t = trip_with n.trip n.route n.service n.stop t

abbrev pub trip_from : Sides → Entry → Option Trip
trip_from sides e = option_map (trip_under (side_names e.side sides)) (slice_get (side_content e.side sides).trips e.number)

-- ---- entries that are the merged rows of a kind

abbrev pub RowsFrom : Kind → Sides → List Entry → Type 0
RowsFrom kind.Agency sides es = map Some (merged_parts sides).agencies ≡ map (agency_from sides) es
RowsFrom kind.Stop sides es = map Some (merged_parts sides).stops ≡ map (stop_from sides) es
RowsFrom kind.Route sides es = map Some (merged_parts sides).routes ≡ map (route_from sides) es
RowsFrom kind.Service sides es = map Some (merged_parts sides).services ≡ map (service_from sides) es
RowsFrom kind.Trip sides es = map Some (merged_parts sides).trips ≡ map (trip_from sides) es

-- all rows of A and those of B that have no twin, by their new ids, which are those of the merged content
pub record AreMergedRows (k : Kind) (sides : Sides) (es : List Entry) : Type 0 where
  pub same : IsPermutation (rows_of_a k sides ++ rows_of_b k sides) es
  pub ascend : Ascends (on (λ e. e.id) text_cmp) es
  pub ids : map (λ e. e.id) es ≡ merged_ids k sides
  pub within : All (λ e. e.number < length (known_ids k (side_parts e.side sides))) es
  pub rows : RowsFrom k sides es
