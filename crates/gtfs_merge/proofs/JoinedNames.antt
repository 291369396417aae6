-- References of two feeds, compared by their numbers.
use Rattle.std.proofs.Common.{◌≡◌, ◌<◌, ◌+◌, ◌^◌, ℕ, zero, suc, Bool, true, false, List, [], ◌∷◌, Some, None, Option, refl, sym, ap, ◌∙◌, subst, length, map, get_or, bytes_eq, nat_eq, option_map, arith}
use Rattle.std.specs.Prelude.{◌&&◌, if◌then◌else◌}
use Rattle.std.specs.List.{slice_get, position}
use Rattle.std.specs.Option.{option_eq}
use Rattle.std.specs.Ordering.{on}
use Rattle.std.proofs.lemmas.Bool.{or_right}
use Rattle.std.proofs.lemmas.List.{get_or-map, length-map}
use Rattle.gtfs_field.proofs.ListFacts.{mapped_at as row-map}
use Rattle.gtfs_schema.proofs.SiteFacts.{text_itself}
use Rattle.gtfs_field.specs.TextOrder.{text_cmp}
use Rattle.gtfs_rows.specs.Content.{Content}
use Rattle.gtfs_rows.specs.TransferOrder.{Ascends}
use Rattle.gtfs_rows.specs.declared.route.Route.{Route}
use Rattle.gtfs_rows.specs.RowsInMemory.{IsSoundParts, content_of_parts, route_of, agency_ids, route_ids}
use Rattle.gtfs_rows.proofs.NumberFacts.{route_agency}
use Rattle.gtfs_rows.proofs.SoundOrder.{in_order}
use Rattle.gtfs_merge.specs.FeedIds.{known_ids}
use Rattle.gtfs_merge.specs.JoinedNumbers.{joined_number, joined_numbers, number_if}
use Rattle.gtfs_merge.specs.Renaming.{Renaming, lists_id, ids, kept_as_is, renamed_b, agency_a, agency_b, joined_agency, route_with}
use Rattle.gtfs_merge.specs.SameRows.{same_route}
use Rattle.gtfs_merge.specs.SameByNumber.{same_agency_in, same_route_in}
use Rattle.gtfs_merge.specs.Twins.{twin_number, twin_numbers}
use Rattle.gtfs_merge.specs.declared.kind.Kind.{Kind}
use Rattle.gtfs_merge.specs.declared.kind.Kind.TheVariants as kind
use Rattle.gtfs_merge.specs.declared.sides.Sides.{Sides}
use Rattle.gtfs_merge.proofs.JoinedAgencies.{agencies-meet}
use Rattle.gtfs_merge.proofs.JoinedKinds.{id-at, ids-known}
use Rattle.gtfs_merge.proofs.JoinedRows.{number-same}
use Rattle.gtfs_merge.proofs.JoinedStops.{by-number, renamed-number}

-- an id at an index is one of the list
pub has-at : (xs : List (List ℕ)) (m : ℕ) → m < length xs → lists_id xs (get_or xs m []) ≡ true
has-at [] m within = absurd (omega arith)
has-at (x ∷ xs) zero within = rw (text_itself x) refl
has-at (x ∷ xs) (suc m) within = or_right (bytes_eq (get_or xs m []) x) _ (has-at xs m (omega arith))

-- what a list of joined rows has at an index
pub joined-at-index : {T : Type 0} (number : T → ℕ) (k : Kind) (sides : Sides) (joined : List (Option T)) (j : ℕ) → map (option_map number) joined ≡ joined_numbers k sides → j < length (known_ids k sides.b.now)
    → get_or (map (option_map number) joined) j None ≡ joined_number k sides (get_or (known_ids k sides.b.now) j [])
joined-at-index number k sides joined j is within = ap (λ xs. get_or xs j None) is ∙ get_or-map (joined_number k sides) (known_ids k sides.b.now) j [] None within

pub joined-length : {T : Type 0} (number : T → ℕ) (k : Kind) (sides : Sides) (joined : List (Option T)) → map (option_map number) joined ≡ joined_numbers k sides → length joined ≡ length (known_ids k sides.b.now)
joined-length number k sides joined is = sym (length-map joined (option_map number)) ∙ ap length is ∙ length-map (known_ids k sides.b.now) (joined_number k sides)

-- the same of twins
pub twin-at-index : {T : Type 0} (number : T → ℕ) (k : Kind) (sides : Sides) (twins : List (Option T)) (j : ℕ) → map (option_map number) twins ≡ twin_numbers k sides → j < length (known_ids k sides.b.now)
    → get_or (map (option_map number) twins) j None ≡ twin_number k sides (get_or (known_ids k sides.b.now) j [])
twin-at-index number k sides twins j is within = ap (λ xs. get_or xs j None) is ∙ get_or-map (twin_number k sides) (known_ids k sides.b.now) j [] None within

pub twins-length : {T : Type 0} (number : T → ℕ) (k : Kind) (sides : Sides) (twins : List (Option T)) → map (option_map number) twins ≡ twin_numbers k sides → length twins ≡ length (known_ids k sides.b.now)
twins-length number k sides twins is = sym (length-map twins (option_map number)) ∙ ap length is ∙ length-map (known_ids k sides.b.now) (twin_number k sides)

-- by the rule of all kinds
pub rule-meets : {X : Type 0} (id : X → List ℕ) (rows : List X) → Ascends (on id text_cmp) rows → (ids_a ids_b : List (List ℕ)) → ids_a ≡ map id rows → (is_joined : List ℕ → Bool)
    → length ids_a + length ids_b + 2 < 10 ^ 64 → (m : ℕ) → m < length rows → (t : List ℕ)
    → bytes_eq (get_or (map id rows) m []) (renamed_b ids_a ids_b is_joined t) ≡ option_eq nat_eq (Some m) (number_if (is_joined t) (map id rows) t)
rule-meets id rows up ids_a ids_b named is_joined few m within t =
    by-number id rows up m within (renamed_b ids_a ids_b is_joined t)
    ∙ ap (option_eq nat_eq (Some m)) (ap (position (bytes_eq (renamed_b ids_a ids_b is_joined t))) (sym named) ∙ renamed-number ids_a ids_b is_joined few t ∙ ap (λ xs. number_if (is_joined t) xs t) named)

joined-first : (j : Bool) (m : ℕ) (o : Option ℕ) → (j && option_eq nat_eq (Some m) o) ≡ option_eq nat_eq (Some m) (if j then o else None)
joined-first true m o = refl
joined-first false m o = refl

module _ (sides : Sides) (sound_a : IsSoundParts sides.a.now) (sound_b : IsSoundParts sides.b.now) where
  abbrev a : Content
  a = content_of_parts sides.a.now

  abbrev b : Content
  b = content_of_parts sides.b.now

  agency-named : length (ids kind.Agency a) + length (ids kind.Agency b) < 2 ^ 65 → (m j : ℕ) → m < length sides.a.now.agencies → j < length sides.b.now.agencies
      → bytes_eq (agency_a a b (get_or (agency_ids sides.a.now) m [])) (agency_b a b (get_or (agency_ids sides.b.now) j [])) ≡ option_eq nat_eq (Some m) (joined_number kind.Agency sides (get_or (agency_ids sides.b.now) j []))
  agency-named few m j within_p within_q =
      let s = get_or (agency_ids sides.a.now) m [] in
      let t = get_or (agency_ids sides.b.now) j [] in
      let has_s : lists_id (ids kind.Agency a) s ≡ true = subst (λ xs. lists_id xs s ≡ true) (sym (ids-known kind.Agency sides.a.now sound_a)) (has-at (agency_ids sides.a.now) m (omega (arith, length-map sides.a.now.agencies (λ r. r.agency_id)))) in
      let has_t : lists_id (ids kind.Agency b) t ≡ true = subst (λ xs. lists_id xs t ≡ true) (sym (ids-known kind.Agency sides.b.now sound_b)) (has-at (agency_ids sides.b.now) j (omega (arith, length-map sides.b.now.agencies (λ r. r.agency_id)))) in
      agencies-meet a b sound_a.content few s t has_s has_t
      ∙ ap (λ c. joined_agency a b t && c) (by-number (λ r. r.agency_id) sides.a.now.agencies (in_order sides.a.now sound_a).agencies m within_p t)
      ∙ joined-first (joined_agency a b t) m (position (bytes_eq t) (agency_ids sides.a.now))

  pub route-joined : length (ids kind.Agency a) + length (ids kind.Agency b) < 2 ^ 65 → {T : Type 0} (number : T → ℕ) (agencies : List (Option T)) → map (option_map number) agencies ≡ joined_numbers kind.Agency sides
      → (k n : ℕ) (y x : Route) (agency same : Bool) → slice_get sides.b.now.routes k ≡ Some y → position (bytes_eq y.route_id) (route_ids sides.a.now) ≡ Some n → slice_get sides.a.now.routes n ≡ Some x
      → agency ≡ option_eq nat_eq (Some x.agency_id.0) (get_or (map (option_map number) agencies) y.agency_id.0 None)
      → ((ra rb : Renaming) → same_agency_in sides.a.now sides.b.now ra rb x y ≡ agency → same ≡ same_route_in sides.a.now sides.b.now ra rb x y)
      → joined_number kind.Route sides (get_or (route_ids sides.b.now) k []) ≡ (if same then Some n else None)
  route-joined few number agencies known k n y x agency same at numbered found agency_is same_is =
      let within_y = route_agency sides.b.now sound_b k y at in
      let at_index = joined-at-index number kind.Agency sides agencies y.agency_id.0 known (omega (arith, length-map sides.b.now.agencies (λ r. r.agency_id))) in
      let agency_same : same_agency_in sides.a.now sides.b.now (agency_a a b) (agency_b a b) x y ≡ agency =
      agency-named few x.agency_id.0 y.agency_id.0 (route_agency sides.a.now sound_a n x found) within_y ∙ ap (option_eq nat_eq (Some x.agency_id.0)) (sym at_index) ∙ sym agency_is in
      ap (joined_number kind.Route sides) (id-at (λ r. r.route_id) sides.b.now.routes k y at)
      ∙ number-same (λ r. r.route_id) (λ row other. same_route (route_with kept_as_is (agency_a a b) row) (route_with kept_as_is (agency_b a b) other)) a.routes b.routes
      sound_a.content.in_order.routes sound_b.content.in_order.routes k (route_of sides.b.now y) (row-map (route_of sides.b.now) sides.b.now.routes k y at) (route_ids sides.a.now) (ids-known kind.Route sides.a.now sound_a) n (route_of sides.a.now x)
      numbered (row-map (route_of sides.a.now) sides.a.now.routes n x found)
      ∙ ap (λ c. if c then Some n else None) (sym (same_is (agency_a a b) (agency_b a b) agency_same))
