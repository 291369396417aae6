-- When a vehicle leaves the stop times of a trip of sound parts: not before the trip starts, and not after 999:59:59.
use Rattle.std.proofs.Common.{◌≡◌, ◌≤◌, ◌<◌, ℕ, zero, suc, true, List, [], ◌∷◌, length, get_or, Option, Some, None, refl, arith, ◌==◌}
use Rattle.std.specs.Prelude.{IfSome, is_some, unwrap_or}
use Rattle.std.specs.List.{All, slice_get}
use Rattle.std.specs.Option.{option_or}
use Rattle.std.proofs.lemmas.Bool.{eqb-true, false≢true}
use Rattle.std.proofs.lemmas.Option.{slice_get_within, slice_get-get_or}
use Rattle.gtfs_field.proofs.ListFacts.{some_of}
use Rattle.gtfs_table.proofs.PartFacts.{length-parts}
use Rattle.gtfs_rows.specs.declared.frequency.Frequency.{Frequency}
use Rattle.gtfs_rows.specs.declared.parts.Parts.{Parts}
use Rattle.gtfs_stop_times.specs.declared.stop_row.StopRow.{StopRow}
use Rattle.gtfs_rows.specs.RowsInMemory.{IsSoundParts}
use Rattle.gtfs_rows.specs.Trips.{AreStopTimes, frequencies_by_trip, stop_rows_by_trip}
use Rattle.gtfs_stop_times.specs.RowTimes.{left_at}
use Rattle.gtfs_rows.proofs.TripFacts.{periods}
use Rattle.gtfs_runs.specs.steps.FoundEvents.{HasRuns}
use Rattle.gtfs_runs.specs.steps.Passings.{first_left}
use Rattle.gtfs_runs.proofs.Bounds.{periods_within, rows_within}

-- of a time that is there: it lies at or after one at or before which the stop time is reached
pub chain : (first arrival departure : Option ℕ) → is_some first ≡ true → IfSome first (λ a. IfSome (option_or arrival departure) (λ b. a ≤ b))
    → IfSome arrival (λ a. IfSome departure (λ b. a ≤ b)) → is_some (option_or departure arrival) ≡ true → unwrap_or first 0 ≤ unwrap_or (option_or departure arrival) 0
chain None arrival departure timed on stay has = absurd (false≢true timed)
chain (Some a) None None timed on stay has = absurd (false≢true has)
chain (Some a) (Some b) None timed on stay has = on
chain (Some a) None (Some c) timed on stay has = on
chain (Some a) (Some b) (Some c) timed on stay has = omega (arith, on, stay)

pub starts_before : (p : Parts) (rs : List StopRow) → AreStopTimes p rs → (k : ℕ) (d : StopRow) → k < length rs → is_some (left_at (get_or rs k d)) ≡ true
    → first_left rs ≤ unwrap_or (left_at (get_or rs k d)) 0
starts_before p [] are k d within has = absurd (omega arith)
starts_before p (r ∷ rs) are zero d within has = omega arith
starts_before p (r ∷ rs) are (suc k) d within has =
    let row = get_or rs k d in
    chain (left_at r) row.arrival_time row.departure_time (are.first_timed d (omega arith)) (are.run_on 0 (suc k) d (omega arith) within) (are.stay (suc k) d within) has

pub at_most : (o : Option ℕ) → IfSome o (λ a. a ≤ 3_599_999) → unwrap_or o 0 ≤ 3_599_999
at_most None h = omega arith
at_most (Some a) h = h

pub left_within : (p : Parts) → IsSoundParts p → (t : ℕ) (rs : List StopRow) → slice_get (stop_rows_by_trip p) t ≡ Some rs → (k : ℕ) (d : StopRow) → k < length rs
    → unwrap_or (left_at (get_or rs k d)) 0 ≤ 3_599_999
left_within p sound t rs at_rows k d within =
    let trips : t < length p.trips = omega (arith, slice_get_within (stop_rows_by_trip p) t rs at_rows, length-parts p.stop_times.starts p.stop_times.rows, sound.stop_rows.0) in
    let periods : t < length (frequencies_by_trip p) = omega (arith, trips, length-parts p.frequency_starts p.frequencies, sound.frequencies.0) in
    let some = some_of p.trips t trips in
    let fs = get_or (frequencies_by_trip p) t [] in
    at_most (left_at (get_or rs k d)) (rows_within p sound t (get_or p.trips t some) rs fs (slice_get-get_or p.trips t some trips) at_rows (slice_get-get_or (frequencies_by_trip p) t [] periods) k d within)

pub starts_within : (p : Parts) → IsSoundParts p → (t : ℕ) (rs : List StopRow) → slice_get (stop_rows_by_trip p) t ≡ Some rs → first_left rs ≤ 3_599_999
starts_within p sound t [] at = omega arith
starts_within p sound t (r ∷ rs) at = left_within p sound t (r ∷ rs) at 0 r (omega arith)

pub rows_at : (p : Parts) → IsSoundParts p → (t : ℕ) → t < length p.trips → slice_get (stop_rows_by_trip p) t ≡ Some (get_or (stop_rows_by_trip p) t [])
rows_at p sound t within =
    let here : t < length (stop_rows_by_trip p) = omega (arith, within, length-parts p.stop_times.starts p.stop_times.rows, sound.stop_rows.0) in
    slice_get-get_or (stop_rows_by_trip p) t [] here

pub periods_run : (p : Parts) → IsSoundParts p → (t : ℕ) (fs : List Frequency) → slice_get (frequencies_by_trip p) t ≡ Some fs → All HasRuns fs
periods_run p sound t fs at_periods k d within =
    let trips : t < length p.trips = omega (arith, slice_get_within (frequencies_by_trip p) t fs at_periods, length-parts p.frequency_starts p.frequencies, sound.frequencies.0) in
    let some = some_of p.trips t trips in
    let bounds = periods_within p sound t (get_or p.trips t some) (get_or (stop_rows_by_trip p) t []) fs (slice_get-get_or p.trips t some trips) (rows_at p sound t trips) at_periods k d within in
    record { lasts = (periods p sound t fs at_periods).filled k d within; moves = bounds.moves; ends = bounds.end }

pub none_left : {X : Type 0} (xs : List X) → (length xs == 0) ≡ true → xs ≡ []
none_left [] none = refl
none_left (x ∷ xs) none = absurd (omega (arith, eqb-true (length (x ∷ xs)) 0 none))
