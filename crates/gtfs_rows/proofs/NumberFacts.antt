-- What the rows of sound parts are: the numbers that they name, their ids, zones and days.
use Rattle.std.proofs.Common.{◌≡◌, ◌+◌, ◌<◌, ◌∙◌, ℕ, zero, suc, List, [], ◌∷◌, length, map, true, Option, Some, None, refl, sym, ap, arith}
use Rattle.std.specs.Prelude.{◌==◌, ◌||◌, not, bytes_eq, nat_lt, int_le, option_map, IfSome, is_some}
use Rattle.std.specs.List.{list_all, slice_get, position, position_or_len}
use Rattle.std.specs.Ordering.{on}
use Rattle.std.specs.declared.cmp.Ordering.TheVariants.{Less}
use Rattle.std.proofs.lemmas.Bool.{and_parts, not-true, ltb-true, lt-ltb, eqb-false}
use Rattle.std.proofs.lemmas.List.{length-map}
use Rattle.std.proofs.lemmas.List.Folds.{list_all-map}
use Rattle.std.proofs.lemmas.Option.{get_or_from_slice_get, slice_get_within}
use Rattle.gtfs_field.specs.TextOrder.{text_cmp}
use Rattle.gtfs_table.specs.Rows.{is_empty}
use Rattle.gtfs_schema.proofs.SiteFacts.{text_is, text_itself}
use Rattle.gtfs_rows.specs.declared.agency.Agency.{Agency}
use Rattle.gtfs_rows.specs.declared.parts.Parts.{Parts}
use Rattle.gtfs_rows.specs.declared.route.Route.{Route}
use Rattle.gtfs_rows.specs.declared.service.ServiceRow.{ServiceRow}
use Rattle.gtfs_rows.specs.declared.stop.Stop.{Stop}
use Rattle.gtfs_rows.specs.declared.trip.Trip.{Trip}
use Rattle.gtfs_rows.specs.TransferOrder.{Ascends}
use Rattle.gtfs_rows.specs.SoundContent.{if_given, is_sound_agency, is_sound_service, is_sound_week}
use Rattle.gtfs_rows.specs.RowsInMemory.{IsSoundParts, content_of_parts, agency_of, service_of, names_stop, trip_names_rows}
use Rattle.gtfs_rows.proofs.Held.{apart_turned}
use Rattle.gtfs_rows.proofs.SameElements.{pairs-head, pairs-tail}
use Rattle.gtfs_rows.proofs.ListFacts.{all_of}
use Rattle.gtfs_rows.proofs.TripFacts.{number_within}

module _ (p : Parts) (sound : IsSoundParts p) where
  pub trip_route : (t : ℕ) (row : Trip) → slice_get p.trips t ≡ Some row → row.route_id.0 < length p.routes
  trip_route t row at =
      let both = and_parts (nat_lt row.route_id.0 (length p.routes)) (nat_lt row.service_id.0 (length p.services)) (all_of (trip_names_rows p) p.trips t row sound.names_rows.trips at) in
      ltb-true row.route_id.0 (length p.routes) both.0

  pub trip_service : (t : ℕ) (row : Trip) → slice_get p.trips t ≡ Some row → row.service_id.0 < length p.services
  trip_service t row at =
      let both = and_parts (nat_lt row.route_id.0 (length p.routes)) (nat_lt row.service_id.0 (length p.services)) (all_of (trip_names_rows p) p.trips t row sound.names_rows.trips at) in
      ltb-true row.service_id.0 (length p.services) both.1

  pub route_agency : (n : ℕ) (row : Route) → slice_get p.routes n ≡ Some row → row.agency_id.0 < length p.agencies
  route_agency n row at = ltb-true row.agency_id.0 (length p.agencies) (all_of (λ r. nat_lt r.agency_id.0 (length p.agencies)) p.routes n row sound.names_rows.routes at)

  pub stop_parent : (n : ℕ) (row : Stop) → slice_get p.stops n ≡ Some row → IfSome (option_map (λ s. s.0) row.parent_station) (λ s. s < length p.stops)
  stop_parent n row at = number_within (length p.stops) (option_map (λ s. s.0) row.parent_station) (all_of (λ s. names_stop p s.parent_station) p.stops n row sound.names_rows.stops at)

  -- a feed has an agency, and all have its zone
  pub some_agency : 0 < length p.agencies
  some_agency = omega (arith, length-map p.agencies agency_of, eqb-false (length (content_of_parts p).agencies) 0 (not-true (length (content_of_parts p).agencies == 0) sound.content.has_agency))

  pub one_zone : (m n : ℕ) (a b : Agency) → slice_get p.agencies m ≡ Some a → slice_get p.agencies n ≡ Some b → a.agency_timezone ≡ b.agency_timezone
  one_zone m n a b at_a at_b =
      let c = content_of_parts p in
      let each = sym (list_all-map (is_sound_agency c) agency_of p.agencies) ∙ sound.content.agencies in
      let same = and_parts (not (is_empty a.agency_id) || (length c.agencies == 1)) (list_all (λ x. bytes_eq a.agency_timezone x.agency_timezone) c.agencies)
      (all_of (λ x. is_sound_agency c (agency_of x)) p.agencies m a each at_a) in
      let others = sym (list_all-map (λ x. bytes_eq a.agency_timezone x.agency_timezone) agency_of p.agencies) ∙ same.1 in
      text_is a.agency_timezone b.agency_timezone (all_of (λ x. bytes_eq a.agency_timezone x.agency_timezone) p.agencies n b others at_b)

  -- the days of a calendar row are in order
  pub week_in_order : (n : ℕ) (row : ServiceRow) → slice_get p.services n ≡ Some row → IfSome row.service.week (λ w. int_le w.start w.end ≡ true)
  week_in_order n row at =
      let each = sym (list_all-map is_sound_service service_of p.services) ∙ sound.content.services in
      let both = and_parts (is_some row.service.week || not (length row.service.exceptions == 0)) (if_given row.service.week is_sound_week)
      (all_of (λ s. is_sound_service (service_of s)) p.services n row each at) in
      given row.service.week both.1
    where
      given : (o : Option _) → if_given o is_sound_week ≡ true → IfSome o (λ w. int_le w.start w.end ≡ true)
      given None holds = tt
      given (Some w) holds = holds

-- the number of a row's own id, where rows ascend by their ids, is the row's
module _ {X : Type 0} (id : X → List ℕ) where
  own_position : (xs : List X) (k : ℕ) (x : X) → Ascends (on id text_cmp) xs → slice_get xs k ≡ Some x → position_or_len (bytes_eq (id x)) (map id xs) ≡ k
  own_position [] k x up at = cc
  own_position (y ∷ ys) zero x up at = rw (ap (bytes_eq (id x)) (ap id (get_or_from_slice_get (y ∷ ys) 0 x x at)) ∙ text_itself (id x)) refl
  own_position (y ∷ ys) (suc k) x up at =
      let less = pairs-head (λ a b. text_cmp (id a) (id b) ≡ Less) y ys up k x (slice_get_within ys k x at) in
      let later : text_cmp (id y) (id x) ≡ Less = ap (λ z. text_cmp (id y) (id z)) (sym (get_or_from_slice_get ys k x x at)) ∙ less in
      rw (apart_turned (id y) (id x) later) (ap (λ n. 1 + n) (own_position ys k x (pairs-tail (λ a b. text_cmp (id a) (id b) ≡ Less) y ys up) at) ∙ one k)
    where
      one : (n : ℕ) → 1 + n ≡ suc n
      one n = omega arith

  pub own_number : (xs : List X) (k : ℕ) (x : X) → Ascends (on id text_cmp) xs → slice_get xs k ≡ Some x → position (bytes_eq (id x)) (map id xs) ≡ Some k
  own_number xs k x up at =
      let within : k < length (map id xs) = omega (arith, slice_get_within xs k x at, length-map xs id) in
      rw (own_position xs k x up at, lt-ltb k (length (map id xs)) within) refl
