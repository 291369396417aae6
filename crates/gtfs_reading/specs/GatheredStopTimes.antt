-- The lists of stop times while they are made.
use Rattle.std.specs.Prelude.{◌≡◌, ◌<◌, ◌≤◌, ◌==◌, ◌++◌, ◌-◌, ℕ, zero, suc, true, List, [], ◌∷◌, filter, filter_map, length, map, replicate, slice_index_or, take}
use Rattle.std.specs.List.{All, list_all, list_any}
use Rattle.csv.specs.Records.{Rising}
use Rattle.gtfs_table.specs.FieldOffsets.{parts}
use Rattle.gtfs_table.specs.Tables.{Dataset}
use Rattle.gtfs_stop_times.specs.declared.stop_time.StopTime.{StopTime}
use Rattle.gtfs_rows.specs.ContentRead.{content_of, stop_row_in}
use Rattle.gtfs_reading.specs.FirstNamed.{each_once}
use Rattle.gtfs_reading.specs.StopTimeLists.{content_stop_ids, has_headsign}
use Rattle.gtfs_rows.specs.NamedRows.{has_numbers_below, stop_row_named}
use Rattle.gtfs_reading.specs.declared.gathered.Gathered.{Gathered}

-- the stop times of the trip with this number
abbrev pub of_trip : ℕ → List StopTime → List StopTime
of_trip k ss = filter (λ s. s.trip == k) ss

-- the stop times of each trip whose number is below this one
unfoldable pub by_trip : ℕ → List StopTime → List (List StopTime)
by_trip zero ss = []
by_trip (suc n) ss = by_trip n ss ++ of_trip n ss ∷ []

-- none yet, of this many trips
pub record IsEmptyFor (count : ℕ) (g : Gathered) : Type 0 where
  pub trips : g.trips ≡ count
  pub rows : g.stop_times.rows ≡ []
  pub starts : g.starts.items ≡ []
  pub headsigns : g.headsigns.texts ≡ []

-- these stop times of the dataset, which begin all of them, were given their headsigns
pub record AreGathered (d : Dataset) (ss : List StopTime) (g : Gathered) : Type 0 where
  pub trips : g.trips ≡ length (content_of d).trips
  -- a start for each trip up to the last one
  pub below : All (λ s. s.trip < length g.starts.items) ss
  pub least : (n : ℕ) → All (λ s. s.trip < n) ss → length g.starts.items ≤ n
  pub rising : Rising 0 g.starts.items (length ss)
  pub from_first : slice_index_or g.starts.items 0 (length ss) ≡ 0
  pub stretches : parts g.starts.items ss ≡ by_trip (length g.starts.items) ss
  -- the rows say what those of the dataset say
  pub named : map (stop_row_named (content_stop_ids d) g.headsigns.texts) g.stop_times.rows ≡ map (λ s. stop_row_in d s.row) ss
  pub numbers : list_all (has_numbers_below (length (content_of d).stops) (length g.headsigns.texts)) g.stop_times.rows ≡ true
  pub used : (k : ℕ) → k < length g.headsigns.texts → list_any (has_headsign k) g.stop_times.rows ≡ true
  -- the headsigns in the order in which the stop times name them
  pub first_named : g.headsigns.texts ≡ each_once (filter_map (λ r. r.stop_headsign) (map (λ s. stop_row_in d s.row) ss))

-- where the stop times of each trip begin: the trips after that of the last one begin at the end
abbrev pub starts_of_all : Gathered → List ℕ
starts_of_all g = take g.trips g.starts.items ++ replicate (g.trips - length g.starts.items) (length g.stop_times.rows)
