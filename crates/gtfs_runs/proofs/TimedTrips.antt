-- The stop times of a trip under a choice of times: its own, or those with their times filled.
use Rattle.std.proofs.Common.{◌≡◌, ◌∙◌, ◌+◌, ◌<◌, ℕ, Bool, true, false, List, [], ◌∷◌, length, map, Option, Some, None, get_or, refl, sym, ap, subst, arith}
use Rattle.std.specs.Prelude.{◌&&◌, is_some, unwrap_or, option_map, if◌then◌else◌}
use Rattle.std.specs.List.{enumerate_from, list_any, slice_get}
use Rattle.std.proofs.lemmas.Bool.{false≢true}
use Rattle.std.proofs.lemmas.Option.{slice_get-map}
use Rattle.gtfs_rows.specs.Trips.{stop_rows_by_trip}
use Rattle.gtfs_stop_times.specs.RowTimes.{left_at}
use Rattle.gtfs_rows.specs.RowsInMemory.{IsSoundParts}
use Rattle.gtfs_rows.specs.declared.parts.Parts.{Parts}
use Rattle.gtfs_stop_times.specs.declared.stop_row.StopRow.{StopRow}
use Rattle.gtfs_rows.proofs.TripFacts.{stop_times}
use Rattle.gtfs_times.proofs.FilledContent.{sound-timed}
use Rattle.gtfs_times.proofs.TimedContent.{by_trip}
use Rattle.gtfs_times.specs.TimedRows.{filled_stop_time, filled_stop_times, is_interpolated, lacks_time, position_time, timed_parts, timed_stop_times}
use Rattle.gtfs_times.specs.declared.times.Times.{Times}
use Rattle.gtfs_times.specs.declared.times.Times.TheVariants as times
use Rattle.gtfs_stop_times.specs.StopLists.{stops_in}
use Rattle.gtfs_runs.specs.steps.Passings.{AreTripTimes, first_left}
use Rattle.gtfs_runs.proofs.TripTimes.{left_within, starts_before}

pub trip_times : (p : Parts) → IsSoundParts p → (t : ℕ) (rs : List StopRow) → slice_get (stop_rows_by_trip p) t ≡ Some rs → AreTripTimes (length p.stops) rs
trip_times p sound t rs at =
    let are = stop_times p sound t rs at in
    record {
      stops = are.stops;
      ascend = are.ascend;
      from = λ k d within timed. starts_before p rs are k d within timed;
      to = left_within p sound t rs at;
    }

-- the first of them leaves when the trip starts
pub first_is : (rs : List StopRow) (k : ℕ) (d : StopRow) → k < length rs → first_left rs ≡ unwrap_or (left_at (get_or rs 0 d)) 0
first_is [] k d within = absurd (omega arith)
first_is (r ∷ rs) k d within = refl

-- those of a trip
pub rows_timed : (choice : Times) (p : Parts) → IsSoundParts p → (t : ℕ) (rs own : List StopRow) → slice_get (stop_rows_by_trip p) t ≡ Some rs → own ≡ timed_stop_times choice rs
    → slice_get (stop_rows_by_trip (timed_parts choice p)) t ≡ Some own
rows_timed choice p sound t rs own at is =
    ap (λ l. slice_get l t) (by_trip choice p sound) ∙ slice_get-map (timed_stop_times choice) (stop_rows_by_trip p) t
    ∙ ap (option_map (timed_stop_times choice)) at ∙ ap Some (sym is)

-- those that the code has, of stops of this many
pub times_of : (choice : Times) (p : Parts) → IsSoundParts p → (t n : ℕ) (rs own : List StopRow) → slice_get (stop_rows_by_trip p) t ≡ Some rs → own ≡ timed_stop_times choice rs
    → n ≡ length p.stops → AreTripTimes n own
times_of choice p sound t n rs own at is size =
    subst (λ m. AreTripTimes m own) (sym size) (trip_times (timed_parts choice p) (sound-timed p sound choice) t own (rows_timed choice p sound t rs own at is))

-- those that are filled
pub filled_under : (choice : Times) (rs : List StopRow) → (is_interpolated choice && list_any lacks_time rs) ≡ true → filled_stop_times rs ≡ timed_stop_times choice rs
filled_under times.Given rs is = absurd (false≢true is)
filled_under times.Interpolated rs is = refl

-- ---- their stops are the same

stop-kept : (b : Bool) (r : StopRow) (t : Option ℕ) → (if b then r else record r { arrival_time = t; departure_time = t }).stop_id.0 ≡ r.stop_id.0
stop-kept true r t = refl
stop-kept false r t = refl

stops-filled : (rows : List StopRow) (a : ℕ) (rs : List StopRow) → stops_in (map (filled_stop_time rows) (enumerate_from a rs)) ≡ stops_in rs
stops-filled rows a [] = refl
stops-filled rows a (r ∷ rs) = λ i. stop-kept (is_some (left_at r)) r (position_time rows a) i ∷ stops-filled rows (a + 1) rs i

pub stops_timed : (choice : Times) (rs : List StopRow) → stops_in (timed_stop_times choice rs) ≡ stops_in rs
stops_timed times.Given rs = refl
stops_timed times.Interpolated rs = stops-filled rs 0 rs

-- ---- the trip starts when it did

first-kept : (b : Bool) (r : StopRow) → is_some (left_at r) ≡ b → left_at (if b then r else record r { arrival_time = None; departure_time = None }) ≡ left_at r
first-kept true r is = refl
first-kept false r is = nothing (left_at r) is
  where
    nothing : (o : Option ℕ) → is_some o ≡ false → None ≡ o
    nothing None is = refl
    nothing (Some n) is = cc

pub first_timed : (choice : Times) (rs : List StopRow) → first_left (timed_stop_times choice rs) ≡ first_left rs
first_timed times.Given rs = refl
first_timed times.Interpolated [] = refl
first_timed times.Interpolated (r ∷ rs) = ap (λ o. unwrap_or o 0) (first-kept (is_some (left_at r)) r refl)
