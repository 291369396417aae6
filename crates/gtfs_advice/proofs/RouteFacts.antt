-- Routes of sound parts, by their numbers and by their ids.
use Rattle.std.proofs.Common.{◌≡◌, ◌∙◌, ◌+◌, ◌<◌, ◌++◌, ℕ, Bool, true, false, cond, List, [], ◌∷◌, Option, Some, None, length, map, get_or, take, refl, sym, ap, subst, arith}
use Rattle.std.specs.Prelude.{◌&&◌, ◌||◌, not, bytes_eq, is_none, is_some, nat_eq, nat_lt, option_map}
use Rattle.std.specs.List.{list_all, list_any, slice_get}
use Rattle.std.specs.Option.{option_eq}
use Rattle.std.specs.declared.cmp.Ordering.TheVariants.{Less}
use Rattle.std.proofs.lemmas.Bool.{and_parts}
use Rattle.std.proofs.lemmas.List.{length-map}
use Rattle.std.proofs.lemmas.Option.{get_or_from_slice_get, slice_get_within}
use Rattle.gtfs_field.specs.TextOrder.{text_cmp}
use Rattle.gtfs_field.proofs.ListFacts.{any_alike, mapped_at}
use Rattle.gtfs_table.proofs.PartFacts.{length-parts}
use Rattle.gtfs_rows.specs.declared.row_choices.Direction.{Direction}
use Rattle.gtfs_rows.specs.declared.frequency.Frequency.{Frequency}
use Rattle.gtfs_rows.specs.declared.parts.Parts.{Parts}
use Rattle.gtfs_stop_times.specs.declared.stop_row.StopRow.{StopRow}
use Rattle.gtfs_rows.specs.declared.route.Route.{Route}
use Rattle.gtfs_rows.specs.declared.trip.Trip.{Trip as TripRow}
use Rattle.gtfs_rows.specs.RowChoices.{direction_code}
use Rattle.gtfs_rows.specs.Content.{Content}
use Rattle.gtfs_rows.specs.NamedRows.{is_number_within, text_of_number}
use Rattle.gtfs_rows.specs.TransferOrder.{Ascends}
use Rattle.gtfs_rows.specs.Rows as rows
use Rattle.gtfs_rows.specs.Rows.{Trip}
use Rattle.gtfs_rows.specs.Trips.{frequencies_by_trip, stop_rows_by_trip}
use Rattle.gtfs_rows.specs.RowsInMemory.{IsSoundParts, content_of_parts, route_ids, route_of, trip_of}
use Rattle.gtfs_rows.proofs.SameElements.{pairs-map}
use Rattle.gtfs_rows.proofs.SoundOrder.{in_order}
use Rattle.gtfs_advice.specs.declared.advice.Advice.{Advice}
use Rattle.gtfs_advice.specs.declared.advice.Subject.TheVariants as subject
use Rattle.gtfs_advice.specs.declared.code.Code.{Code}
use Rattle.gtfs_advice.specs.Advice.{Tells, advice_on, answers_of, route_rules, row, said}
use Rattle.gtfs_advice.specs.NumberMarks.{AreMarks, is_directed, route_if}
use Rattle.gtfs_advice.specs.Routes.{has_no_trip, is_named_as_another, is_of_route}
use Rattle.gtfs_advice.proofs.Marking.{named}
use Rattle.gtfs_advice.proofs.Telling.{told-more}
use Rattle.gtfs_advice.proofs.TripViews.{any_heads}

-- ---- trips with a direction, and trips without

-- a trip of a content has a direction, or that it has none
abbrev pub goes : Bool → Trip → Bool
goes true t = is_some t.direction_id
goes false t = is_none t.direction_id

split-one : (p : Bool) (d : Option ℕ) (a b c : Bool) → a ≡ (b || c) → (p || a) ≡ (((p && is_some d) || b) || ((p && is_none d) || c))
split-one true (Some n) a b c e = refl
split-one true None a true c e = refl
split-one true None a false c e = refl
split-one false d a b c e = e

either : (r : Trip → Bool) (ts : List Trip) → list_any r ts ≡ (list_any (λ t. r t && is_some t.direction_id) ts || list_any (λ t. r t && is_none t.direction_id) ts)
either r [] = refl
either r (t ∷ ts) = split-one (r t) t.direction_id _ _ _ (either r ts)

-- a route has no trip where it has neither
pub no_trip : (r : rows.Route) (c : Content) (directed undirected : Bool) → list_any (λ t. is_of_route r t && is_some t.direction_id) c.trips ≡ directed
    → list_any (λ t. is_of_route r t && is_none t.direction_id) c.trips ≡ undirected → (not directed && not undirected) ≡ has_no_trip c r
no_trip r c directed undirected e f = neither directed undirected ∙ ap not (sym (either (is_of_route r) c.trips ∙ (λ i. e i || f i)))
  where
    neither : (a b : Bool) → (not a && not b) ≡ not (a || b)
    neither true b = refl
    neither false b = refl

-- a route that a trip with a direction has, or one without
one-route : (directed : Bool) (t : TripRow) (ids : List (List ℕ)) (id : List ℕ)
    → option_eq bytes_eq (option_map (text_of_number ids) (route_if directed t)) (Some id)
    ≡ (bytes_eq (text_of_number ids t.route_id.0) id && is_directed directed t)
one-route directed t ids id = by (is_directed directed t)
  where
    by : (b : Bool) → option_eq bytes_eq (option_map (text_of_number ids) (cond b (Some t.route_id.0) None)) (Some id) ≡ (bytes_eq (text_of_number ids t.route_id.0) id && b)
    by true = and-true (bytes_eq (text_of_number ids t.route_id.0) id)
      where
        and-true : (b : Bool) → b ≡ (b && true)
        and-true true = refl
        and-true false = refl
    by false = and-false (bytes_eq (text_of_number ids t.route_id.0) id)
      where
        and-false : (b : Bool) → false ≡ (b && false)
        and-false true = refl
        and-false false = refl

same-some : (o : Option Direction) → is_some (option_map direction_code o) ≡ is_some o
same-some None = refl
same-some (Some d) = refl

same-none : (o : Option Direction) → is_none (option_map direction_code o) ≡ is_none o
same-none None = refl
same-none (Some d) = refl

goes-row : (directed : Bool) (p : Parts) (t : TripRow) (r : List StopRow) (f : List Frequency) → goes directed (trip_of p t r f) ≡ is_directed directed t
goes-row true p t r f = same-some t.direction_id
goes-row false p t r f = same-none t.direction_id

known : (n : ℕ) (directed : Bool) (t : TripRow) → nat_lt t.route_id.0 n ≡ true → is_number_within n (route_if directed t) ≡ true
known n directed t within = by (is_directed directed t)
  where
    by : (b : Bool) → is_number_within n (cond b (Some t.route_id.0) None) ≡ true
    by true = within
    by false = refl

all-known : (n m : ℕ) (directed : Bool) (ts : List TripRow) → list_all (λ t. nat_lt t.route_id.0 n && nat_lt t.service_id.0 m) ts ≡ true → list_all (λ t. is_number_within n (route_if directed t)) ts ≡ true
all-known n m directed [] all = refl
all-known n m directed (t ∷ ts) all =
    let parts = and_parts (nat_lt t.route_id.0 n && nat_lt t.service_id.0 m) (list_all (λ u. nat_lt u.route_id.0 n && nat_lt u.service_id.0 m) ts) all in
    let here = known n directed t (and_parts (nat_lt t.route_id.0 n) (nat_lt t.service_id.0 m) parts.0).0 in
    let later = all-known n m directed ts parts.1 in
    λ i. here i && later i

module _ (p : Parts) (sound : IsSoundParts p) where
  ascend : Ascends text_cmp (route_ids p)
  ascend = pairs-map (λ r. r.route_id) (λ a b. text_cmp a b ≡ Less) p.routes (in_order p sound).routes

  count : length (route_ids p) ≡ length p.routes
  count = length-map p.routes (λ r. r.route_id)

  abbrev pub AreDirected : Bool → List Bool → Type 0
  AreDirected directed marks = AreMarks (length p.routes) (λ k. list_any (λ t. option_eq nat_eq (route_if directed t) (Some k)) p.trips) marks

  trips : (directed : Bool) (k : ℕ) → k < length p.routes
      → list_any (λ t. bytes_eq t.route_id (text_of_number (route_ids p) k) && goes directed t) (content_of_parts p).trips ≡ list_any (λ t. option_eq nat_eq (route_if directed t) (Some k)) p.trips
  trips directed k within =
      let id = text_of_number (route_ids p) k in
      let all = subst (λ n. list_all (λ t. nat_lt t.route_id.0 n && nat_lt t.service_id.0 (length p.services)) p.trips ≡ true) (sym count) sound.names_rows.trips in
      any_heads p (λ t. bytes_eq t.route_id id && goes directed t) (λ t. bytes_eq (text_of_number (route_ids p) t.route_id.0) id && is_directed directed t)
      (λ t r f. ap (λ b. bytes_eq (text_of_number (route_ids p) t.route_id.0) id && b) (goes-row directed p t r f))
      p.trips (stop_rows_by_trip p) (frequencies_by_trip p) (length-parts p.stop_times.starts p.stop_times.rows ∙ sound.stop_rows.0) (length-parts p.frequency_starts p.frequencies ∙ sound.frequencies.0)
      ∙ sym (any_alike _ _ p.trips (λ t. one-route directed t (route_ids p) id))
      ∙ sym (named (route_if directed) (route_ids p) ascend p.trips (all-known (length (route_ids p)) (length p.services) directed p.trips all) k (omega (arith, count, within)))

  module _ (n : ℕ) (r : Route) (there : slice_get p.routes n ≡ Some r) where
    within : n < length p.routes
    within = slice_get_within p.routes n r there

    id : text_of_number (route_ids p) n ≡ r.route_id
    id = get_or_from_slice_get (route_ids p) n r.route_id _ (mapped_at (λ x. x.route_id) p.routes n r there)

    of_route : (directed : Bool) (marks : List Bool) → AreDirected directed marks → list_any (λ t. is_of_route (route_of p r) t && goes directed t) (content_of_parts p).trips ≡ get_or marks n false
    of_route directed marks are =
        ap (λ x. list_any (λ t. bytes_eq t.route_id x && goes directed t) (content_of_parts p).trips) (sym id) ∙ trips directed n within ∙ sym (are.at n within)

    pub told : (directed undirected repeated : List Bool) → AreDirected true directed → AreDirected false undirected
        → (let c = content_of_parts p in repeated ≡ map (is_named_as_another c) c.routes) → (answers : List (Code × Bool))
        → (let c = content_of_parts p in list_any (λ t. is_of_route (route_of p r) t && is_some t.direction_id) c.trips ≡ get_or directed n false
        → list_any (λ t. is_of_route (route_of p r) t && is_none t.direction_id) c.trips ≡ get_or undirected n false
        → is_named_as_another c (route_of p r) ≡ get_or repeated n false → answers ≡ answers_of (route_rules c) (route_of p r))
        → (old before after : List Advice) → after ≡ before ++ said (subject.Route (record { 0 = n })) answers
        → let c = content_of_parts p in Tells p (advice_on (λ x. x.route_id) (route_rules c) (take n c.routes)) old before
        → Tells p (advice_on (λ x. x.route_id) (route_rules c) (take (n + 1) c.routes)) old after
    told directed undirected repeated are_directed are_undirected are_repeated answers right old before after behind so_far =
        let c = content_of_parts p in
        let named_so : is_named_as_another c (route_of p r) ≡ get_or repeated n false =
        sym (get_or_from_slice_get (map (is_named_as_another c) c.routes) n (is_named_as_another c (route_of p r)) false (mapped_at (is_named_as_another c) c.routes n (route_of p r) (mapped_at (route_of p) p.routes n r there)))
        ∙ ap (λ ms. get_or ms n false) (sym are_repeated) in
        told-more p (λ x. x.route_id) (route_rules c) c.routes n (route_of p r) (subject.Route (record { 0 = n })) answers old before after (mapped_at (route_of p) p.routes n r there) (ap row id) within
        (right (of_route true directed are_directed) (of_route false undirected are_undirected) named_so) behind so_far

-- marks that were made of what the parts lent
pub lent : (p : Parts) (directed : Bool) (n : ℕ) (ts : List TripRow) (made marks : List Bool) → n ≡ length p.routes → ts ≡ p.trips → marks ≡ made
    → AreMarks n (λ k. list_any (λ t. option_eq nat_eq (route_if directed t) (Some k)) ts) made → AreMarks (length p.routes) (λ k. list_any (λ t. option_eq nat_eq (route_if directed t) (Some k)) p.trips) marks
lent p directed n ts made marks size trips kept are =
    let test = λ (us : List TripRow) (k : ℕ). list_any (λ t. option_eq nat_eq (route_if directed t) (Some k)) us in
    subst (λ m. AreMarks (length p.routes) (test p.trips) m) (sym kept) (subst (λ us. AreMarks (length p.routes) (test us) made) trips (subst (λ m. AreMarks m (test ts) made) size are))
