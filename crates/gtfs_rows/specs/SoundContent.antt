-- Which typed rows make a feed.
-- GTFS Schedule Reference: primary keys, foreign ids, required and conditionally required fields of each file.
use Rattle.std.specs.Prelude.{◌≡◌, ◌<◌, slice_index_or, if◌then◌else◌, ℕ, ◌==◌, ◌&&◌, ◌||◌, not, Bool, true, nat_lt, nat_le, List, [], ◌∷◌, length, bytes_eq, find, int_le, pos, Option, Some, None, is_some}
use Rattle.std.specs.List.{list_any, list_all}
use Rattle.std.specs.Option.{option_or}
use Rattle.std.specs.Ordering.{nat_cmp, int_cmp, on}
use Rattle.gtfs_days.specs.declared.week.Week.{Week}
use Rattle.gtfs_field.specs.TextOrder.{text_cmp}
use Rattle.gtfs_table.specs.declared.file.File.{File}
use Rattle.gtfs_table.specs.Rows.{is_empty}
use Rattle.gtfs_schema.specs.Columns.{columns_of}
use Rattle.gtfs_schema.specs.PeriodRules.{share_second}
use Rattle.gtfs_schema.specs.FieldValues.{if_there, if_both}
use Rattle.gtfs_rows.specs.Cells.{are_cells}
use Rattle.gtfs_rows.specs.RowCells.{cells_in}
use Rattle.gtfs_rows.specs.Content.{Content}
use Rattle.gtfs_rows.specs.TransferOrder.{Ascends, transfer_key, transfer_key_cmp}
use Rattle.gtfs_rows.specs.Rows.{Agency, Stop, Route, ServiceRow, StopRow, Frequency, Trip, Transfer}

-- a row of the list has the id
abbrev pub has_id : {X : Type 0} → (X → List ℕ) → List X → List ℕ → Bool
has_id id xs t = list_any (λ x. bytes_eq (id x) t) xs

-- what is there passes
abbrev pub if_given : {X : Type 0} → Option X → (X → Bool) → Bool
if_given None p = true
if_given (Some x) p = p x

-- the type of the stop with that id is one of these
abbrev pub is_stop_of : Content → List ℕ → List ℕ → Bool
is_stop_of c types x = if_there (find (λ s. bytes_eq s.stop_id x) c.stops) (λ s. list_any (λ t. t == s.location_type) types)

-- ---- agencies: one zone, and an id for each where there are several

abbrev pub is_sound_agency : Content → Agency → Bool
is_sound_agency c a = (not (is_empty a.agency_id) || (length c.agencies == 1)) && list_all (λ b. bytes_eq a.agency_timezone b.agency_timezone) c.agencies

-- ---- stops: a stop, a station and an entrance have a name and a position; a station has no parent, an entrance, a node and a boarding area have one

abbrev pub has_name_and_position : Stop → Bool
has_name_and_position s = is_some s.stop_name && is_some s.stop_lat && is_some s.stop_lon

abbrev pub has_right_parent : Content → ℕ → Option (List ℕ) → Bool
has_right_parent c type None = nat_lt type 2
has_right_parent c type (Some p) = not (type == 1) && is_stop_of c ((if type == 4 then 0 else 1) ∷ []) p

abbrev pub is_sound_stop : Content → Stop → Bool
is_sound_stop c s = (nat_lt 2 s.location_type || has_name_and_position s) && has_right_parent c s.location_type s.parent_station

-- ---- routes and services

abbrev pub is_sound_route : Content → Route → Bool
is_sound_route c r = has_id (λ a. a.agency_id) c.agencies r.agency_id && (is_some r.route_short_name || is_some r.route_long_name)

abbrev pub is_sound_week : Week → Bool
is_sound_week w = int_le w.start w.end

abbrev pub is_sound_service : ServiceRow → Bool
is_sound_service s = (is_some s.service.week || not (length s.service.exceptions == 0)) && if_given s.service.week is_sound_week

-- ---- trips

-- when a row is reached and when it is left
abbrev pub comes : StopRow → Option ℕ
comes r = option_or r.arrival_time r.departure_time

abbrev pub leaves : StopRow → Option ℕ
leaves r = option_or r.departure_time r.arrival_time

abbrev pub is_sound_stop_row : Content → StopRow → Bool
is_sound_stop_row c r = is_stop_of c (0 ∷ []) r.stop_id && not (if_both r.departure_time r.arrival_time nat_lt)

-- no vehicle comes to a later row before it left an earlier one
abbrev pub keeps_time : StopRow → StopRow → Bool
keeps_time r s = not (nat_lt r.stop_sequence s.stop_sequence) || not (if_both (comes s) (leaves r) nat_lt)

-- a row before which, or after which, no other stands
abbrev pub is_end : List StopRow → StopRow → Bool
is_end rs r = list_all (λ s. nat_le r.stop_sequence s.stop_sequence) rs || list_all (λ s. nat_le s.stop_sequence r.stop_sequence) rs

abbrev pub is_sound_in : Content → List StopRow → StopRow → Bool
is_sound_in c rs r = is_sound_stop_row c r && (is_some (leaves r) || not (is_end rs r)) && list_all (keeps_time r) rs

abbrev pub are_apart : Frequency → Frequency → Bool
are_apart p q = (p.start_time == q.start_time) || not (share_second (pos p.start_time) (pos p.end_time) (pos q.start_time) (pos q.end_time))

abbrev pub is_sound_period : List Frequency → Frequency → Bool
is_sound_period ps p = nat_lt p.start_time p.end_time && list_all (are_apart p) ps

abbrev pub is_sound_trip : Content → Trip → Bool
is_sound_trip c t = has_id (λ r. r.route_id) c.routes t.route_id && has_id (λ s. s.service_id) c.services t.service_id
    && list_all (is_sound_in c t.stop_rows) t.stop_rows && list_all (is_sound_period t.frequencies) t.frequencies

-- ---- transfers: one between stops names both, one within a vehicle names both trips

abbrev pub has_ends : Transfer → Bool
has_ends t = (t.transfer_type == 0) || (nat_le t.transfer_type 3 && is_some t.from_stop_id && is_some t.to_stop_id)
    || (nat_le 4 t.transfer_type && is_some t.from_trip_id && is_some t.to_trip_id)

abbrev pub is_sound_transfer : Content → Transfer → Bool
is_sound_transfer c t = if_given t.from_stop_id (is_stop_of c (0 ∷ 1 ∷ [])) && if_given t.to_stop_id (is_stop_of c (0 ∷ 1 ∷ []))
    && if_given t.from_route_id (has_id (λ r. r.route_id) c.routes) && if_given t.to_route_id (has_id (λ r. r.route_id) c.routes)
    && if_given t.from_trip_id (has_id (λ r. r.trip_id) c.trips) && if_given t.to_trip_id (has_id (λ r. r.trip_id) c.trips)
    && has_ends t

-- ---- sound content

-- rows ascend by their keys, also inside a trip and a service
pub record IsInOrder (c : Content) : Type 0 where
  pub agencies : Ascends (on (λ a. a.agency_id) text_cmp) c.agencies
  pub stops : Ascends (on (λ s. s.stop_id) text_cmp) c.stops
  pub routes : Ascends (on (λ r. r.route_id) text_cmp) c.routes
  pub services : Ascends (on (λ s. s.service_id) text_cmp) c.services
  pub trips : Ascends (on (λ t. t.trip_id) text_cmp) c.trips
  pub transfers : Ascends (on transfer_key transfer_key_cmp) c.transfers
  pub stop_rows : (k : ℕ) (d : Trip) → k < length c.trips → Ascends (on (λ r. r.stop_sequence) nat_cmp) (slice_index_or c.trips k d).stop_rows
  pub frequencies : (k : ℕ) (d : Trip) → k < length c.trips → Ascends (on (λ p. p.start_time) nat_cmp) (slice_index_or c.trips k d).frequencies
  pub exceptions : (k : ℕ) (d : ServiceRow) → k < length c.services → Ascends (on (λ e. e.0) int_cmp) (slice_index_or c.services k d).service.exceptions

pub record IsSound (c : Content) : Type 0 where
  -- each value lies in its kind, and none is missing that a column wants
  pub cells : (x : File) → list_all (are_cells (columns_of x)) (cells_in c x) ≡ true
  pub in_order : IsInOrder c
  pub has_agency : not (length c.agencies == 0) ≡ true
  pub agencies : list_all (is_sound_agency c) c.agencies ≡ true
  pub stops : list_all (is_sound_stop c) c.stops ≡ true
  pub routes : list_all (is_sound_route c) c.routes ≡ true
  pub services : list_all is_sound_service c.services ≡ true
  pub trips : list_all (is_sound_trip c) c.trips ≡ true
  pub transfers : list_all (is_sound_transfer c) c.transfers ≡ true
