-- How great the times of a trip of sound parts can be: those of its stop times and those of its frequencies.
use Rattle.std.proofs.Common.{◌≡◌, ◌≤◌, ◌<◌, ◌&&◌, ◌||◌, ℕ, zero, suc, Bool, true, false, List, [], ◌∷◌, map, get_or, Option, Some, None, subst, arith}
use Rattle.std.specs.Prelude.{pos, int_le, nat_le, option_map, IfSome}
use Rattle.std.specs.List.{All, list_all, slice_get}
use Rattle.std.specs.Option.{option_or}
use Rattle.std.proofs.lemmas.Bool.{and_parts}
use Rattle.std.proofs.lemmas.Int.{ints}
use Rattle.std.proofs.lemmas.Bool.Decides.{nat_tests}
use Rattle.std.proofs.lemmas.List.Folds.{list_all-append, list_all-map}
use Rattle.gtfs_table.specs.declared.file.File.TheVariants as file
use Rattle.gtfs_schema.specs.Columns.{columns_of, optional, time}
use Rattle.gtfs_rows.specs.Cells.{are_cells, is_between, is_cell}
use Rattle.gtfs_rows.specs.RowCells.{frequency_cells, held_by, value_of_number, stop_time_cells}
use Rattle.gtfs_rows.specs.Rows as content
use Rattle.gtfs_rows.specs.declared.frequency.Frequency.{Frequency}
use Rattle.gtfs_rows.specs.declared.parts.Parts.{Parts}
use Rattle.gtfs_stop_times.specs.declared.stop_row.StopRow.{StopRow}
use Rattle.gtfs_rows.specs.declared.trip.Trip.{Trip}
use Rattle.gtfs_rows.specs.RowsInMemory.{IsSoundParts, content_of_parts, frequency_of, stop_row_of, trip_of}
use Rattle.gtfs_rows.proofs.RowTexts.{all_at}
use Rattle.gtfs_rows.specs.Trips.{frequencies_by_trip, stop_rows_by_trip}
use Rattle.gtfs_stop_times.specs.RowTimes.{left_at}
use Rattle.gtfs_rows.proofs.TripsAt.{content_trip}

-- what holds of all that rows hold, with the rows' ids, holds of what one of them holds
held_all : {X Y : Type 0} (id : X → List ℕ) (of : X → List Y) (q : List ℕ × Y → Bool) (xs : List X) (k : ℕ) (x : X)
    → list_all q (held_by id of xs) ≡ true → slice_get xs k ≡ Some x → list_all (λ y. q (id x, y)) (of x) ≡ true
held_all id of q [] k x all at = cc
held_all {X} {Y} id of q (y ∷ ys) zero x all at =
    let own : List (List ℕ × Y) = map (λ z. (id y, z)) (of y) in
    let both : (list_all q own && list_all q (held_by id of ys)) ≡ true = subst (λ b. b ≡ true) (list_all-append q own (held_by id of ys)) all in
    let here : list_all (λ z. q (id y, z)) (of y) ≡ true = subst (λ b. b ≡ true) (list_all-map q (λ z. (id y, z)) (of y)) (and_parts (list_all q own) (list_all q (held_by id of ys)) both).0 in
    subst (λ z. list_all (λ w. q (id z, w)) (of z) ≡ true) (same y x at) here
  where
    same : (a b : X) → Some a ≡ Some b → a ≡ b
    same a b e = cc
held_all {X} {Y} id of q (y ∷ ys) (suc k) x all at =
    let own : List (List ℕ × Y) = map (λ z. (id y, z)) (of y) in
    let both : (list_all q own && list_all q (held_by id of ys)) ≡ true = subst (λ b. b ≡ true) (list_all-append q own (held_by id of ys)) all in
    held_all id of q ys k x (and_parts (list_all q own) (list_all q (held_by id of ys)) both).1 at

-- ---- cells

bounds : (low high x : ℕ) → is_between (pos low) (pos high) (pos x) ≡ true → (low ≤ x) × (x ≤ high)
bounds low high x h =
    let both = and_parts (int_le (pos low) (pos x)) (int_le (pos x) (pos high)) h in
    (at_most low x both.0, at_most x high both.1)
  where
    at_most : (a b : ℕ) → int_le (pos a) (pos b) ≡ true → a ≤ b
    at_most a b le = grind (arith, ints)

given_time : (o : Option ℕ) → is_cell (optional "departure_time" time) (option_map value_of_number o) ≡ true → IfSome o (λ a. a ≤ 3_599_999)
given_time None h = tt
given_time (Some a) h = (bounds 0 3_599_999 a h).1

-- a time of two of which each may be missing
either : (o q : Option ℕ) → IfSome o (λ a. a ≤ 3_599_999) → IfSome q (λ a. a ≤ 3_599_999) → IfSome (option_or o q) (λ a. a ≤ 3_599_999)
either None q h k = k
either (Some a) q h k = h

row_within : (id : List ℕ) (r : content.StopRow) → are_cells (columns_of file.StopTimes) (stop_time_cells (id, r)) ≡ true
    → IfSome (option_or r.departure_time r.arrival_time) (λ a. a ≤ 3_599_999)
row_within id r are =
    let first = and_parts _ _ are in
    let second = and_parts _ _ first.1 in
    let third = and_parts _ _ second.1 in
    either r.departure_time r.arrival_time (given_time r.departure_time third.0) (given_time r.arrival_time second.0)

-- the bounds of a frequency
pub record IsPeriod (f : Frequency) : Type 0 where
  pub start : f.start_time ≤ 3_599_999
  pub end : f.end_time ≤ 3_599_999
  pub moves : 0 < f.headway_secs

abbrev in_range : ℕ → Bool
in_range n = (nat_le 1 n && nat_le n 2_147_483_647) || false

period_within : (id : List ℕ) (f : Frequency) → are_cells (columns_of file.Frequencies) (frequency_cells (id, frequency_of f)) ≡ true → IsPeriod f
period_within id f are =
    let first = and_parts _ _ are in
    let second = and_parts _ _ first.1 in
    let third = and_parts _ _ second.1 in
    let fourth = and_parts _ _ third.1 in
    record {
      start = (bounds 0 3_599_999 f.start_time second.0).1;
      end = (bounds 0 3_599_999 f.end_time third.0).1;
      moves = filled f.headway_secs (and_parts (is_between (pos 0) (pos 2_147_483_647) (pos f.headway_secs)) (in_range f.headway_secs) fourth.0).1;
    }
  where
    filled : (n : ℕ) → in_range n ≡ true → 0 < n
    filled n h = grind (arith, nat_tests)

module _ (p : Parts) (sound : IsSoundParts p) (t : ℕ) (row : Trip) (rs : List StopRow) (fs : List Frequency)
    (at_trip : slice_get p.trips t ≡ Some row) (at_rows : slice_get (stop_rows_by_trip p) t ≡ Some rs) (at_periods : slice_get (frequencies_by_trip p) t ≡ Some fs) where
  there : slice_get (content_of_parts p).trips t ≡ Some (trip_of p row rs fs)
  there = content_trip p t row rs fs at_trip at_rows at_periods

  -- no stop time is left after 999:59:59
  pub rows_within : All (λ r. IfSome (left_at r) (λ a. a ≤ 3_599_999)) rs
  rows_within k d within =
      let q : List ℕ × content.StopRow → Bool = λ x. are_cells (columns_of file.StopTimes) (stop_time_cells x) in
      let every = subst (λ b. b ≡ true) (list_all-map (are_cells (columns_of file.StopTimes)) stop_time_cells (held_by (λ u. u.trip_id) (λ u. u.stop_rows) (content_of_parts p).trips)) (sound.content.cells file.StopTimes) in
      let own = subst (λ b. b ≡ true) (list_all-map (λ r. q (row.trip_id, r)) (stop_row_of p) rs)
      (held_all (λ u. u.trip_id) (λ u. u.stop_rows) q (content_of_parts p).trips t (trip_of p row rs fs) every there) in
      row_within row.trip_id (stop_row_of p (get_or rs k d)) (all_at (λ r. q (row.trip_id, stop_row_of p r)) rs k d own within)

  -- no frequency reaches past 999:59:59, and each has a headway
  pub periods_within : All IsPeriod fs
  periods_within k d within =
      let q : List ℕ × content.Frequency → Bool = λ x. are_cells (columns_of file.Frequencies) (frequency_cells x) in
      let every = subst (λ b. b ≡ true) (list_all-map (are_cells (columns_of file.Frequencies)) frequency_cells (held_by (λ u. u.trip_id) (λ u. u.frequencies) (content_of_parts p).trips)) (sound.content.cells file.Frequencies) in
      let own = subst (λ b. b ≡ true) (list_all-map (λ f. q (row.trip_id, f)) frequency_of fs)
      (held_all (λ u. u.trip_id) (λ u. u.frequencies) q (content_of_parts p).trips t (trip_of p row rs fs) every there) in
      period_within row.trip_id (get_or fs k d) (all_at (λ f. q (row.trip_id, frequency_of f)) fs k d own within)
