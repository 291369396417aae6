-- The order of events, and of the positions from which a lane is asked.
use Rattle.std.specs.Prelude.{◌≡◌, ◌<◌, ◌<ℤ◌, ℤ, length, Bool, true, false, pos, Option, Some, None, if◌then◌else◌}
use Rattle.std.specs.declared.cmp.Ordering.{Ordering}
use Rattle.std.specs.Ordering.{nat_cmp, int_cmp, is_eq, is_lt, on, ordering_then, then_cmp}
use Rattle.gtfs_field.specs.TextOrder.{text_cmp}
use Rattle.gtfs_rows.specs.RowsInMemory.{text_of_number, trip_ids}
use Rattle.gtfs_rows.specs.declared.parts.Parts.{Parts}
use Rattle.gtfs_runs.specs.declared.event.Event.{Event}
use Rattle.gtfs_runs.specs.declared.moment.Moment.{Moment}
use Rattle.gtfs_runs.specs.declared.seek.Seek.{Seek}

-- by time, trip, run, sequence and row; trips are numbered by the bytes of their ids
abbrev pub event_cmp : Event → Event → Ordering
event_cmp = then_cmp (on (λ e. e.at) nat_cmp)
    (then_cmp (on (λ e. e.trip.0) nat_cmp)
    (then_cmp (on (λ e. e.run) nat_cmp)
    (then_cmp (on (λ e. e.seq) nat_cmp)
    (on (λ e. e.row) nat_cmp))))

-- the two are one event
abbrev pub is_same : Event → Event → Bool
is_same e x = is_eq (event_cmp e x)

-- the event lies above another
abbrev pub is_later : Event → Event → Bool
is_later e x = is_lt (event_cmp e x)

-- by time, trip, run and sequence
abbrev pub moment_cmp : Moment → Moment → Ordering
moment_cmp = then_cmp (on (λ s. s.at) int_cmp)
    (then_cmp (on (λ s. s.trip.0) nat_cmp)
    (then_cmp (on (λ s. s.run) nat_cmp)
    (on (λ s. s.seq) int_cmp)))

-- the position of an event
abbrev pub moment_of_event : Event → Moment
moment_of_event e = record { at = pos e.at; trip = e.trip; run = e.run; seq = pos e.seq }

-- the event lies above the moment
abbrev pub is_above_moment : Moment → Event → Bool
is_above_moment s e = is_lt (moment_cmp s (moment_of_event e))

-- an event of one of the trips
abbrev pub IsOfTrips : Parts → Event → Type 0
IsOfTrips p e = e.trip.0 < length p.trips

-- the event lies above the seek: by time, the trip's id, run and sequence
abbrev pub is_above_seek : Parts → Seek → Event → Bool
is_above_seek p s e = is_lt (ordering_then (int_cmp s.at (pos e.at))
    (ordering_then (text_cmp s.trip.now (text_of_number (trip_ids p) e.trip.0))
    (ordering_then (nat_cmp s.run e.run)
    (int_cmp s.seq (pos e.seq)))))

-- a test that no event before a time passes, and each event after it
pub record IsFrom (at : ℤ) (test : Event → Bool) : Type 0 where
  pub before : (e : Event) → pos e.at <ℤ at → test e ≡ false
  pub after : (e : Event) → at <ℤ pos e.at → test e ≡ true

-- the first of two that is there and passes, where the second passes
abbrev pub first_of_two : (Event → Bool) → Option Event → Option Event → Option Event
first_of_two test None second = second
first_of_two test (Some e) second = if test e then Some e else second
