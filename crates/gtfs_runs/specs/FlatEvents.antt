-- All events of a stop in one list, each under the number of its service.
use Rattle.std.specs.Prelude.{◌≡◌, ℕ, ◌==◌, ◌&&◌, Bool, nat_lt, List, length}
use Rattle.std.specs.List.{list_any}
use Rattle.std.specs.Ordering.{nat_cmp, on, then_cmp}
use Rattle.std.specs.declared.cmp.Ordering.{Ordering}
use Rattle.gtfs_rows.specs.TransferOrder.{Ascends}
use Rattle.gtfs_rows.specs.RowsInMemory.{content_of_parts, service_ids, stop_ids, stop_row_of, text_of_number, trip_of}
use Rattle.gtfs_rows.specs.declared.numbers.ServiceNo.{ServiceNo}
use Rattle.gtfs_rows.specs.declared.frequency.Frequency.{Frequency}
use Rattle.gtfs_rows.specs.declared.parts.Parts.{Parts}
use Rattle.gtfs_stop_times.specs.declared.stop_row.StopRow.{StopRow}
use Rattle.gtfs_rows.specs.declared.trip.Trip.{Trip}
use Rattle.gtfs_runs.specs.EventOrder.{is_same, event_cmp}
use Rattle.gtfs_runs.specs.Events.{is_event}
use Rattle.gtfs_rows.specs.Runs.{passes_at}
use Rattle.gtfs_times.specs.Filling.{timed}
use Rattle.gtfs_times.specs.declared.times.Times.{Times}
use Rattle.gtfs_runs.specs.declared.event.Event.{Event}

-- an event under the number of the service of its trip
abbrev pub Served : Type 0
Served = ServiceNo × Event

-- by service, and then in the order of events
abbrev pub served_cmp : Served → Served → Ordering
served_cmp = then_cmp (on (λ x. x.0.0) nat_cmp) (on (λ x. x.1) event_cmp)

-- this event under this number
abbrev pub is_served : ℕ → Event → Served → Bool
is_served service e x = (x.0.0 == service) && is_same e x.1

-- the event is one at the place of the stop, of a trip of the service, both by their numbers, under these times
abbrev pub is_event_under : Times → Parts → ℕ → ℕ → Event → Bool
is_event_under times p s service e = nat_lt service (length p.services)
    && is_event (timed times (content_of_parts p)) (text_of_number (stop_ids p) s) (text_of_number (service_ids p) service) e

-- every event at the place of the stop and no other, each once, by service and then in their order
pub record AreEvents (times : Times) (p : Parts) (s : ℕ) (xs : List Served) : Type 0 where
  pub in_order : Ascends served_cmp xs
  pub all : (service : ℕ) (e : Event) → list_any (is_served service e) xs ≡ is_event_under times p s service e

-- ---- steps of the code

-- the same of rows whose times are as they are
abbrev pub is_event_of : Parts → ℕ → ℕ → Event → Bool
is_event_of p s service e = nat_lt service (length p.services)
    && is_event (content_of_parts p) (text_of_number (stop_ids p) s) (text_of_number (service_ids p) service) e

-- the event of a run of a trip at a stop time, under the trip's service
abbrev pub served_at : Parts → Trip → List StopRow → List Frequency → ℕ → ℕ → StopRow → ℕ → Served
served_at p t rs fs trip position x run = (
  t.service_id,
  record {
    at = passes_at (trip_of p t rs fs) run (stop_row_of p x);
    trip = record { 0 = trip };
    run = run;
    seq = x.stop_sequence;
    row = position;
  },
)
