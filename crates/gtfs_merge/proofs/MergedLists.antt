-- Typed rows of the merged feed, one by one from the rows of both sides.
use Rattle.std.proofs.Common.{◌≡◌, ◌<◌, ◌≤◌, ◌+◌, ℕ, zero, suc, Bool, true, List, [], ◌∷◌, ◌++◌, Some, None, Option, refl, sym, ap, ◌∙◌, subst, length, map, take, get_or, option_map, add-one, lt-ltb, arith}
use Rattle.std.specs.Prelude.{IfSome}
use Rattle.std.specs.List.{list_all, slice_get}
use Rattle.std.proofs.Math.Seq.{take-suc}
use Rattle.std.proofs.lemmas.Bool.{and_from, and_parts}
use Rattle.std.proofs.lemmas.List.{get_or-map, length-map, map-append, take_all}
use Rattle.std.proofs.lemmas.List.Elements.{Contains-get_or}
use Rattle.std.proofs.lemmas.Simd.{map-map}
use Rattle.gtfs_field.proofs.ListFacts.{mapped_at as row-map}
use Rattle.gtfs_rows.specs.NamedRows.{names_agency, names_parent, names_route_and_service, route_named, stop_named, trip_named, without_rows}
use Rattle.gtfs_rows.specs.Rows.{Trip as ContentTrip}
use Rattle.gtfs_rows.specs.RowsInMemory.{IsSoundParts, agency_of, agency_ids, is_number_within, route_ids, route_of, service_ids, service_of, stop_ids, stop_of, text_of_number, trips_of}
use Rattle.gtfs_days.specs.Service.{ServiceDates}
use Rattle.gtfs_rows.specs.declared.agency.Agency.{Agency}
use Rattle.gtfs_rows.specs.declared.frequency.Frequency.{Frequency}
use Rattle.gtfs_rows.specs.declared.numbers.AgencyNo.{AgencyNo}
use Rattle.gtfs_rows.specs.declared.numbers.RouteNo.{RouteNo}
use Rattle.gtfs_rows.specs.declared.numbers.ServiceNo.{ServiceNo}
use Rattle.gtfs_stop_times.specs.declared.numbers.StopNo.{StopNo}
use Rattle.gtfs_rows.specs.declared.parts.Parts.{Parts}
use Rattle.gtfs_rows.specs.declared.route.Route.{Route}
use Rattle.gtfs_rows.specs.declared.service.ServiceRow.{ServiceRow}
use Rattle.gtfs_rows.specs.declared.stop.Stop.{Stop}
use Rattle.gtfs_stop_times.specs.declared.stop_row.StopRow.{StopRow}
use Rattle.gtfs_rows.specs.declared.trip.Trip.{Trip}
use Rattle.gtfs_table.specs.FieldOffsets.{parts}
use Rattle.gtfs_table.proofs.PartFacts.{length-parts}
use Rattle.gtfs_merge.specs.MergeEntries.{Entry, entry_of, entry_value}
use Rattle.gtfs_merge.specs.EntryRows.{AreMergedRows, agency_from, route_from, service_from, stop_from, trip_from, trip_under}
use Rattle.gtfs_merge.specs.FeedIds.{known_ids}
use Rattle.gtfs_merge.specs.NewNumbers.{AreNewNumbers}
use Rattle.gtfs_merge.specs.Renaming.{Names, Renaming, renaming}
use Rattle.gtfs_merge.specs.MergedSides.{merged_ids, merged_parts, side_names, side_parts}
use Rattle.gtfs_merge.specs.declared.kind.Kind.{Kind}
use Rattle.gtfs_merge.specs.declared.kind.Kind.TheVariants as kind
use Rattle.gtfs_merge.specs.declared.kind.Side.{Side}
use Rattle.gtfs_merge.specs.declared.kind.Side.TheVariants as side
use Rattle.gtfs_merge.specs.declared.numbering.sorted_rows.MergedRow.{MergedRow}
use Rattle.gtfs_rows.proofs.NumberFacts.{route_agency, stop_parent, trip_route, trip_service}
use Rattle.gtfs_merge.specs.declared.sides.Sides.{Sides}
use Rattle.gtfs_merge.proofs.JoinedKinds.{id-at}
use Rattle.gtfs_merge.proofs.NewNumbers.{own-entry}

-- ---- a loop over merged rows

module _ {R X : Type 0} (of : R → X) (from : Entry → Option X) where
  abbrev pub somes : List R → List (Option X)
  somes items = map (λ r. Some (of r)) items

  pub rows-more : (rows : List MergedRow) (n : ℕ) (items after : List R) (x : R) (row : MergedRow) → n < length rows → somes items ≡ map from (take n (map entry_value rows)) → after ≡ items ++ x ∷ []
      → row ≡ get_or rows n row → Some (of x) ≡ from (entry_value row) → somes after ≡ map from (take (n + 1) (map entry_value rows))
  rows-more rows n items after x row within so_far pushed own is =
      let es = map entry_value rows in
      let inside : n < length es = omega (arith, within, length-map rows entry_value) in
      let here : from (get_or es n (entry_value row)) ≡ Some (of x) = ap from (get_or-map entry_value rows n row (entry_value row) within ∙ ap entry_value (sym own)) ∙ sym is in
      ap somes pushed ∙ map-append (λ r. Some (of r)) items (x ∷ [])
      ∙ (λ i. so_far i ++ sym here i ∷ [])
      ∙ sym (map-append from (take n es) (get_or es n (entry_value row) ∷ [])) ∙ ap (map from) (sym (take-suc es n (entry_value row) inside)) ∙ ap (λ k. map from (take k es)) (sym (add-one n))

  somes-same : (items : List R) (rows : List X) → map Some rows ≡ somes items → map of items ≡ rows
  somes-same [] [] e = refl
  somes-same [] (y ∷ rows) e = absurd (omega (arith, ap length e))
  somes-same (x ∷ items) [] e = absurd (omega (arith, ap length e))
  somes-same (x ∷ items) (y ∷ rows) e =
      let first : y ≡ of x = some-is y (of x) (first-same e) in
      λ i. sym first i ∷ somes-same items rows (rest-same e) i
    where
      some-is : (u v : X) → Some u ≡ Some v → u ≡ v
      some-is u v e = cc

      first-same : {u v : Option X} {us vs : List (Option X)} → u ∷ us ≡ v ∷ vs → u ≡ v
      first-same e = cc

      rest-same : {u v : Option X} {us vs : List (Option X)} → u ∷ us ≡ v ∷ vs → us ≡ vs
      rest-same e = cc

  pub rows-all : (rows : List MergedRow) (n : ℕ) (items : List R) (merged : List X) → length rows ≤ n → somes items ≡ map from (take n (map entry_value rows)) → map Some merged ≡ map from (map entry_value rows) → map of items ≡ merged
  rows-all rows n items merged past so_far is =
      let whole : length (map entry_value rows) ≤ n = omega (arith, past, length-map rows entry_value) in
      somes-same items merged (is ∙ sym (so_far ∙ ap (map from) (take_all n (map entry_value rows) whole)))

pub all-more : {R : Type 0} (p : R → Bool) (items after : List R) (x : R) → list_all p items ≡ true → after ≡ items ++ x ∷ [] → p x ≡ true → list_all p after ≡ true
all-more {R = R} p items after x so_far pushed here = ap (list_all p) pushed ∙ more items so_far
  where
    more : (xs : List R) → list_all p xs ≡ true → list_all p (xs ++ x ∷ []) ≡ true
    more [] e = and_from (p x) true here refl
    more (y ∷ ys) e = let both = and_parts (p y) (list_all p ys) e in and_from (p y) (list_all p (ys ++ x ∷ [])) both.0 (more ys both.1)

-- ---- new numbers

module _ (merged : List (List ℕ)) (rename : Renaming) (olds : List (List ℕ)) (numbers : List ℕ) (are : AreNewNumbers merged rename olds numbers) where
  pub numbers-long : length numbers ≡ length olds
  numbers-long = sym (length-map numbers (text_of_number merged)) ∙ ap length are.named ∙ length-map olds rename

  -- the merged feed has at a new number what the id became
  pub renamed-at : (n : ℕ) → n < length olds → text_of_number merged (get_or numbers n 0) ≡ rename (text_of_number olds n)
  renamed-at n within =
      let inside : n < length numbers = omega (arith, within, numbers-long) in
      sym (get_or-map (text_of_number merged) numbers n 0 [] inside) ∙ ap (λ xs. get_or xs n []) are.named ∙ get_or-map rename olds n [] [] within

  pub within-at : (n : ℕ) → n < length olds → get_or numbers n 0 < length merged
  within-at n within = are.within n 0 (omega (arith, within, numbers-long))

-- ---- what the rows of a side name is there

pub side-sound : (s : Side) (sides : Sides) → IsSoundParts sides.a.now → IsSoundParts sides.b.now → IsSoundParts (side_parts s sides)
side-sound side.A sides sound_a sound_b = sound_a
side-sound side.B sides sound_a sound_b = sound_b

pub parent-inside : (f : Parts) → IsSoundParts f → (n : ℕ) (y : Stop) → slice_get f.stops n ≡ Some y → IfSome y.parent_station (λ m. m.0 < length (stop_ids f))
parent-inside f sound n y at = by y.parent_station (stop_parent f sound n y at)
  where
    by : (o : Option StopNo) → IfSome (option_map (λ m. m.0) o) (λ m. m < length f.stops) → IfSome o (λ m. m.0 < length (stop_ids f))
    by None h = tt
    by (Some x) h = subst (λ c. x.0 < c) (sym (length-map f.stops (λ s. s.stop_id))) h

pub agency-inside : (f : Parts) → IsSoundParts f → (n : ℕ) (y : Route) → slice_get f.routes n ≡ Some y → y.agency_id.0 < length (agency_ids f)
agency-inside f sound n y at = subst (λ c. y.agency_id.0 < c) (sym (length-map f.agencies (λ a. a.agency_id))) (route_agency f sound n y at)

pub route-inside : (f : Parts) → IsSoundParts f → (n : ℕ) (y : Trip) → slice_get f.trips n ≡ Some y → y.route_id.0 < length (route_ids f)
route-inside f sound n y at = subst (λ c. y.route_id.0 < c) (sym (length-map f.routes (λ r. r.route_id))) (trip_route f sound n y at)

pub service-inside : (f : Parts) → IsSoundParts f → (n : ℕ) (y : Trip) → slice_get f.trips n ≡ Some y → y.service_id.0 < length (service_ids f)
service-inside f sound n y at = subst (λ c. y.service_id.0 < c) (sym (length-map f.services (λ s. s.service_id))) (trip_service f sound n y at)

-- ---- the row of an entry

module _ (k : Kind) (sides : Sides) (rows : List MergedRow) (are : AreMergedRows k sides (map entry_value rows)) (index : ℕ) (within : index < length rows) (row : MergedRow) (own : row ≡ get_or rows index row) where
  at-row : get_or (map entry_value rows) index (entry_value row) ≡ entry_value row
  at-row = get_or-map entry_value rows index row (entry_value row) within ∙ ap entry_value (sym own)

  pub row-within : row.number < length (known_ids k (side_parts row.side sides))
  row-within = subst (λ (e : Entry). e.number < length (known_ids k (side_parts e.side sides))) at-row (are.within index (entry_value row) (omega (arith, within, length-map rows entry_value)))

  pub row-named : (entry_value row).id ≡ renaming (side_names row.side sides) k (text_of_number (known_ids k (side_parts row.side sides)) row.number)
  row-named =
      let inside : index < length (map entry_value rows) = omega (arith, within, length-map rows entry_value) in
      ap (λ (e : Entry). e.id) (subst (λ (e : Entry). e ≡ entry_of e.side k sides e.number) at-row
      (own-entry k sides (map entry_value rows) are (get_or (map entry_value rows) index (entry_value row)) (Contains-get_or (map entry_value rows) index (entry_value row) inside)))

module _ (sides : Sides) (s : Side) (n : ℕ) (name : List ℕ) where
  abbrev here : Entry
  here = record { id = name; side = s; number = n }

  abbrev Named : Kind → Type 0
  Named k = name ≡ renaming (side_names s sides) k (text_of_number (known_ids k (side_parts s sides)) n)

  pub agency-row : (source x : Agency) → slice_get (side_parts s sides).agencies n ≡ Some source → Named kind.Agency → x ≡ record source { agency_id = name } → Some (agency_of x) ≡ agency_from sides (record { id = name; side = s; number = n })
  agency-row source x at named is =
      let own : name ≡ (side_names s sides).agency source.agency_id = named ∙ ap (side_names s sides).agency (id-at (λ a. a.agency_id) (side_parts s sides).agencies n source at) in
      ap (λ y. Some (agency_of y)) is ∙ (λ i. Some (record (agency_of source) { agency_id = own i }))
      ∙ sym (ap (option_map _) (row-map agency_of (side_parts s sides).agencies n source at))

  held : {A B : Type 0} (f : A → B) (o : Option A) (v : B) → option_map f o ≡ Some v → (x : A) × (o ≡ Some x) × (f x ≡ v)
  held f None v e = cc
  held f (Some x) v e = (x, refl, cc)

  pub service-row : (v : ServiceDates) (x : ServiceRow) → option_map (λ s. s.service) (slice_get (side_parts s sides).services n) ≡ Some v → Named kind.Service → x ≡ record { service_id = name; service = v }
      → Some (service_of x) ≡ service_from sides (record { id = name; side = s; number = n })
  service-row v x at named is =
      let source = held (λ s. s.service) (slice_get (side_parts s sides).services n) v at in
      let own : name ≡ (side_names s sides).service source.0.service_id = named ∙ ap (side_names s sides).service (id-at (λ a. a.service_id) (side_parts s sides).services n source.0 source.1) in
      ap (λ y. Some (service_of y)) is ∙ (λ i. Some (record { service_id = own i; service = sym source.2 i }))
      ∙ sym (ap (option_map _) (row-map service_of (side_parts s sides).services n source.0 source.1))

  abbrev New : Kind → List ℕ → Type 0
  New k numbers = AreNewNumbers (merged_ids k sides) (renaming (side_names s sides) k) (known_ids k (side_parts s sides)) numbers

  -- ---- stops and their parents

  parent-renamed : (numbers : List ℕ) → New kind.Stop numbers → (o parent : Option StopNo) → option_map (λ n. n.0) parent ≡ option_map (λ n. get_or numbers n.0 0) o → IfSome o (λ n. n.0 < length (stop_ids (side_parts s sides)))
      → (option_map (λ n. text_of_number (merged_ids kind.Stop sides) n.0) parent ≡ option_map (side_names s sides).stop (option_map (λ n. text_of_number (stop_ids (side_parts s sides)) n.0) o))
      × (is_number_within (length (merged_ids kind.Stop sides)) (option_map (λ n. n.0) parent) ≡ true)
  parent-renamed numbers new None None e within = (refl, refl)
  parent-renamed numbers new None (Some x) e within = cc
  parent-renamed numbers new (Some x) None e within = cc
  parent-renamed numbers new (Some x) (Some y) e within =
      let olds = stop_ids (side_parts s sides) in
      let merged = merged_ids kind.Stop sides in
      let is : y.0 ≡ get_or numbers x.0 0 = some-same y.0 (get_or numbers x.0 0) e in (
        ap Some (ap (text_of_number merged) is ∙ renamed-at merged (side_names s sides).stop olds numbers new x.0 within),
        lt-ltb y.0 (length merged) (subst (λ m. m < length merged) (sym is) (within-at merged (side_names s sides).stop olds numbers new x.0 within)),
      )
    where
      some-same : (u v : ℕ) → Some u ≡ Some v → u ≡ v
      some-same u v e = cc

  pub stop-row : (numbers : List ℕ) → New kind.Stop numbers → (source x : Stop) (parent : Option StopNo) → slice_get (side_parts s sides).stops n ≡ Some source → Named kind.Stop
      → option_map (λ n. n.0) parent ≡ option_map (λ n. get_or numbers n.0 0) source.parent_station → IfSome source.parent_station (λ n. n.0 < length (stop_ids (side_parts s sides)))
      → x ≡ record source { stop_id = name; parent_station = parent } → (Some (stop_named (merged_ids kind.Stop sides) x) ≡ stop_from sides (record { id = name; side = s; number = n })) × (names_parent (merged_ids kind.Stop sides) x ≡ true)
  stop-row numbers new source x parent at named of_parent within is =
      let own : name ≡ (side_names s sides).stop source.stop_id = named ∙ ap (side_names s sides).stop (id-at (λ a. a.stop_id) (side_parts s sides).stops n source at) in
      let both = parent-renamed numbers new source.parent_station parent of_parent within in (
        ap (λ y. Some (stop_named (merged_ids kind.Stop sides) y)) is ∙ (λ i. Some (record (stop_of (side_parts s sides) source) { stop_id = own i; parent_station = both.0 i }))
            ∙ sym (ap (option_map _) (row-map (stop_of (side_parts s sides)) (side_parts s sides).stops n source at)),
        ap (names_parent (merged_ids kind.Stop sides)) is ∙ both.1,
      )

  -- ---- routes and trips

  pub route-row : (numbers : List ℕ) → New kind.Agency numbers → (source x : Route) (agency : AgencyNo) → slice_get (side_parts s sides).routes n ≡ Some source → Named kind.Route
      → agency.0 ≡ get_or numbers source.agency_id.0 0 → source.agency_id.0 < length (agency_ids (side_parts s sides))
      → x ≡ record source { route_id = name; agency_id = agency } → (Some (route_named (merged_ids kind.Agency sides) x) ≡ route_from sides (record { id = name; side = s; number = n })) × (names_agency (merged_ids kind.Agency sides) x ≡ true)
  route-row numbers new source x agency at named of_agency within is =
      let own : name ≡ (side_names s sides).route source.route_id = named ∙ ap (side_names s sides).route (id-at (λ a. a.route_id) (side_parts s sides).routes n source at) in
      let merged = merged_ids kind.Agency sides in
      let olds = agency_ids (side_parts s sides) in
      let renamed : text_of_number merged agency.0 ≡ (side_names s sides).agency (text_of_number olds source.agency_id.0) =
      ap (text_of_number merged) of_agency ∙ renamed-at merged (side_names s sides).agency olds numbers new source.agency_id.0 within in (
        ap (λ y. Some (route_named (merged_ids kind.Agency sides) y)) is ∙ (λ i. Some (record (route_of (side_parts s sides) source) { route_id = own i; agency_id = renamed i }))
            ∙ sym (ap (option_map _) (row-map (route_of (side_parts s sides)) (side_parts s sides).routes n source at)),
        ap (names_agency (merged_ids kind.Agency sides)) is ∙ lt-ltb agency.0 (length merged) (subst (λ m. m < length merged) (sym of_agency) (within-at merged (side_names s sides).agency olds numbers new source.agency_id.0 within)),
      )

  plain-under : (m : Names) (o : Option ContentTrip) → option_map without_rows (option_map (trip_under m) o) ≡ option_map (trip_under m) (option_map without_rows o)
  plain-under m None = refl
  plain-under m (Some t) = refl

  plain-at : (parts : Parts) (ts : List Trip) (rs : List (List StopRow)) (fs : List (List Frequency)) (n : ℕ) (t : Trip) → length rs ≡ length ts → length fs ≡ length ts → slice_get ts n ≡ Some t
      → option_map without_rows (slice_get (trips_of parts ts rs fs) n) ≡ Some (trip_named (route_ids parts) (service_ids parts) t)
  plain-at parts [] rs fs n t long short at = cc
  plain-at parts (u ∷ ts) [] fs n t long short at = absurd (omega (arith, long))
  plain-at parts (u ∷ ts) (r ∷ rs) [] n t long short at = absurd (omega (arith, short))
  plain-at parts (u ∷ ts) (r ∷ rs) (f ∷ fs) zero t long short at = ap (option_map (trip_named (route_ids parts) (service_ids parts))) at
  plain-at parts (u ∷ ts) (r ∷ rs) (f ∷ fs) (suc n) t long short at = plain-at parts ts rs fs n t (omega (arith, long)) (omega (arith, short)) at

  -- a trip without its stop times and frequencies
  abbrev pub plain_from : Option ContentTrip
  plain_from = option_map without_rows (trip_from sides (record { id = name; side = s; number = n }))

  pub trip-row : IsSoundParts (side_parts s sides) → (routes services : List ℕ) → New kind.Route routes → New kind.Service services → (source x : Trip) (route : RouteNo) (service : ServiceNo)
      → slice_get (side_parts s sides).trips n ≡ Some source → Named kind.Trip
      → route.0 ≡ get_or routes source.route_id.0 0 → source.route_id.0 < length (route_ids (side_parts s sides)) → service.0 ≡ get_or services source.service_id.0 0 → source.service_id.0 < length (service_ids (side_parts s sides))
      → x ≡ record source { trip_id = name; route_id = route; service_id = service }
      → (Some (trip_named (merged_ids kind.Route sides) (merged_ids kind.Service sides) x) ≡ plain_from) × (names_route_and_service (merged_ids kind.Route sides) (merged_ids kind.Service sides) x ≡ true)
  trip-row sound routes services new_routes new_services source x route service at named of_route within_route of_service within_service is =
      let f = side_parts s sides in
      let m = side_names s sides in
      let own : name ≡ m.trip source.trip_id = named ∙ ap m.trip (id-at (λ a. a.trip_id) f.trips n source at) in
      let merged_r = merged_ids kind.Route sides in
      let merged_s = merged_ids kind.Service sides in
      let renamed_r : text_of_number merged_r route.0 ≡ m.route (text_of_number (route_ids f) source.route_id.0) =
      ap (text_of_number merged_r) of_route ∙ renamed-at merged_r m.route (route_ids f) routes new_routes source.route_id.0 within_route in
      let renamed_s : text_of_number merged_s service.0 ≡ m.service (text_of_number (service_ids f) source.service_id.0) =
      ap (text_of_number merged_s) of_service ∙ renamed-at merged_s m.service (service_ids f) services new_services source.service_id.0 within_service in
      let source_at = plain-at f f.trips (parts f.stop_times.starts f.stop_times.rows) (parts f.frequency_starts f.frequencies) n source
      (length-parts f.stop_times.starts f.stop_times.rows ∙ sound.stop_rows.0) (length-parts f.frequency_starts f.frequencies ∙ sound.frequencies.0) at in (
        ap (λ y. Some (trip_named merged_r merged_s y)) is
            ∙ (λ i. Some (record (trip_named (route_ids f) (service_ids f) source) { trip_id = own i; route_id = renamed_r i; service_id = renamed_s i }))
            ∙ sym (plain-under m _ ∙ ap (option_map (trip_under m)) source_at),
        ap (names_route_and_service merged_r merged_s) is
            ∙ and_from _ _ (lt-ltb route.0 (length merged_r) (subst (λ k. k < length merged_r) (sym of_route) (within-at merged_r m.route (route_ids f) routes new_routes source.route_id.0 within_route)))
            (lt-ltb service.0 (length merged_s) (subst (λ k. k < length merged_s) (sym of_service) (within-at merged_s m.service (service_ids f) services new_services source.service_id.0 within_service))),
      )

-- what the trips are, without their stop times and frequencies
pub plain-rows : (sides : Sides) (es : List Entry) → map Some (merged_parts sides).trips ≡ map (trip_from sides) es → map Some (map without_rows (merged_parts sides).trips) ≡ map (λ e. option_map without_rows (trip_from sides e)) es
plain-rows sides es is = map-map Some without_rows (merged_parts sides).trips ∙ sym (map-map (option_map without_rows) Some (merged_parts sides).trips) ∙ ap (map (option_map without_rows)) is ∙ map-map (option_map without_rows) (trip_from sides) es
