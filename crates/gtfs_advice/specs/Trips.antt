-- Which trips a reader would look at twice (GTFS Schedule Reference, trips.txt and frequencies.txt).
use Rattle.std.specs.Prelude.{◌-◌, ◌==◌, ◌&&◌, not, Bool, nat_eq, nat_le, length, bytes_eq, is_none}
use Rattle.std.specs.List.{list_any}
use Rattle.std.specs.Option.{option_eq}
use Rattle.std.specs.Ordering.{is_lt}
use lib.Pointwise.{pointwise}
use Rattle.gtfs_field.specs.TextOrder.{text_cmp}
use Rattle.gtfs_rows.specs.Content.{Content}
use Rattle.gtfs_rows.specs.Rows.{Frequency, StopRow, Trip}
use Rattle.gtfs_rows.specs.Runs.{is_not_last}
use Rattle.gtfs_advice.specs.TextFaults.{is_garbled_if_given}

-- neither the trip nor one of its stop times but the last says where it goes
abbrev pub lacks_headsign : Trip → Bool
lacks_headsign t = is_none t.trip_headsign && list_any (λ row. is_not_last t row && is_none row.stop_headsign) t.stop_rows

-- ---- trips that are alike

-- two stop times are the same but for their sequence
abbrev pub is_same_call : StopRow → StopRow → Bool
is_same_call r s = bytes_eq r.stop_id s.stop_id && option_eq nat_eq r.arrival_time s.arrival_time
    && option_eq nat_eq r.departure_time s.departure_time && option_eq bytes_eq r.stop_headsign s.stop_headsign
    && (r.pickup_type == s.pickup_type) && (r.drop_off_type == s.drop_off_type) && option_eq nat_eq r.timepoint s.timepoint

abbrev pub is_same_period : Frequency → Frequency → Bool
is_same_period p q = (p.start_time == q.start_time) && (p.end_time == q.end_time)
    && (p.headway_secs == q.headway_secs) && (p.exact_times == q.exact_times)

-- two trips of one route and one service, with the same stop times and frequencies
abbrev pub is_like : Trip → Trip → Bool
is_like t other = bytes_eq other.route_id t.route_id && bytes_eq other.service_id t.service_id
    && pointwise is_same_call other.stop_rows t.stop_rows && pointwise is_same_period other.frequencies t.frequencies

-- a trip with a stop time that is like one before it
abbrev pub is_same_as_another : Content → Trip → Bool
is_same_as_another c t = not (length t.stop_rows == 0)
    && list_any (λ other. is_lt (text_cmp other.trip_id t.trip_id) && is_like t other) c.trips

abbrev pub is_garbled_trip : Trip → Bool
is_garbled_trip t = is_garbled_if_given t.trip_headsign

-- ---- frequencies

-- the headway is no shorter than the period
abbrev pub has_single_run : Frequency → Bool
has_single_run f = nat_le (f.end_time - f.start_time) f.headway_secs

abbrev pub has_period_of_one_run : Trip → Bool
has_period_of_one_run t = list_any has_single_run t.frequencies
