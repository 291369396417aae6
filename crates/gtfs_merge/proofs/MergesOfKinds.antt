-- The merged rows of each kind are those of the merged content.
use Rattle.std.proofs.Common.{◌≡◌, ◌<◌, ◌+◌, ◌^◌, ℕ, Bool, true, false, List, [], ◌++◌, Some, refl, sym, ap, ◌∙◌, subst, length, map, get_or, bytes_eq, is_some, option_map, slice_get, arith, Option}
use Rattle.std.specs.List.{All}
use Rattle.std.specs.List.Sorted.{IsPermutation, IsSorted}
use Rattle.std.specs.Ordering.{on}
use Rattle.std.proofs.lemmas.Bool.{and_parts}
use Rattle.gtfs_field.specs.TextOrder.{text_cmp}
use Rattle.gtfs_rows.specs.Content.{Content}
use Rattle.gtfs_rows.specs.TransferOrder.{Ascends}
use Rattle.gtfs_rows.specs.RowsInMemory.{IsSoundParts, content_of_parts, text_of_number}
use Rattle.gtfs_merge.specs.MergeEntries.{Entry, rows_of_a, rows_of_b}
use Rattle.gtfs_merge.specs.EntryRows.{AreMergedRows, trip_under}
use Rattle.gtfs_merge.specs.FeedIds.{known_ids}
use Rattle.gtfs_merge.specs.MergedDepartures.{AreFew}
use Rattle.gtfs_merge.specs.Merged.{agency_with, by_id, service_with}
use Rattle.gtfs_merge.specs.Renaming.{Names, agency_a, agency_b, lists_id, ids, joined_agency, joined_route, joined_service, joined_stop_under, joined_trip, names_a, names_b, renaming, route_with, stop_with, stop_within}
use Rattle.gtfs_merge.specs.MergedSides.{side_parts, side_content, nearness_of, side_names}
use Rattle.gtfs_merge.specs.Twins.{twin_number}
use Rattle.gtfs_merge.specs.declared.kind.Kind.{Kind}
use Rattle.gtfs_merge.specs.declared.kind.Kind.TheVariants as kind
use Rattle.gtfs_merge.specs.declared.kind.Side.{Side}
use Rattle.gtfs_merge.specs.declared.sides.Sides.{Sides}
use Rattle.gtfs_merge.proofs.Apart.{apart-a, apart-unmet}
use Rattle.gtfs_merge.proofs.Fresh.{renamed_apart}
use Rattle.gtfs_merge.proofs.JoinedAgencies.{agencies-meet, agency-into, agency-stays_a, agency-stays_b}
use Rattle.gtfs_merge.proofs.JoinedIds.{has-number, joined-has}
use Rattle.gtfs_merge.proofs.JoinedKinds.{ids-known}
use Rattle.gtfs_merge.proofs.JoinedNames.{has-at}
use Rattle.gtfs_merge.proofs.Lookups.{bytes_same}
use Rattle.gtfs_merge.proofs.MergedOrder.{IsMerge, ascend, rows-by_id, within-sides}
use Rattle.gtfs_merge.proofs.MergedRows.{found, found_id}
use Rattle.gtfs_merge.proofs.Premises.{sound-places}
use Rattle.gtfs_merge.proofs.RenamedLists.{ascend as ids-ascend}
use Rattle.gtfs_merge.proofs.Stops.{by_rule, is-nearness}

module _ (sides : Sides) (sound_a : IsSoundParts sides.a.now) (sound_b : IsSoundParts sides.b.now)
    (few : (k : Kind) → length (ids k (content_of_parts sides.a.now)) + length (ids k (content_of_parts sides.b.now)) < 2 ^ 65) where
  abbrev a : Content
  a = content_of_parts sides.a.now

  abbrev b : Content
  b = content_of_parts sides.b.now

  abbrev na : Names
  na = names_a (content_of_parts sides.a.now) (content_of_parts sides.b.now)

  abbrev nb : Names
  nb = names_b (nearness_of sides) (content_of_parts sides.a.now) (content_of_parts sides.b.now)

  few-enough : (k : Kind) → AreFew k a b
  few-enough k = let small = few k in omega arith

  -- ---- ids by their numbers

  has-a : (k : Kind) (n : ℕ) → n < length (known_ids k sides.a.now) → lists_id (ids k a) (get_or (known_ids k sides.a.now) n []) ≡ true
  has-a k n within = subst (λ xs. lists_id xs (get_or (known_ids k sides.a.now) n []) ≡ true) (sym (ids-known k sides.a.now sound_a)) (has-at (known_ids k sides.a.now) n within)

  has-b : (k : Kind) (n : ℕ) → n < length (known_ids k sides.b.now) → lists_id (ids k b) (get_or (known_ids k sides.b.now) n []) ≡ true
  has-b k n within = subst (λ xs. lists_id xs (get_or (known_ids k sides.b.now) n []) ≡ true) (sym (ids-known k sides.b.now sound_b)) (has-at (known_ids k sides.b.now) n within)

  apart-first : (k : Kind) (m n : ℕ) → m < length (known_ids k sides.a.now) → n < length (known_ids k sides.a.now) → renaming na k (get_or (known_ids k sides.a.now) m []) ≡ renaming na k (get_or (known_ids k sides.a.now) n [])
      → get_or (known_ids k sides.a.now) m [] ≡ get_or (known_ids k sides.a.now) n []
  apart-first k m n first second e = apart-a a b sound_a.content sound_b.content k (get_or (known_ids k sides.a.now) m []) (get_or (known_ids k sides.a.now) n []) (has-a k m first) (has-a k n second) e

  -- ---- twins

  -- an id of B that became one of A has its number
  pub has-twin : (k : Kind) (y : List ℕ) → is_some (twin_number k sides y) ≡ lists_id (ids k a) (renaming nb k y)
  has-twin k y = has-number (known_ids k sides.a.now) (renaming nb k y) ∙ ap (λ xs. lists_id xs (renaming nb k y)) (sym (ids-known k sides.a.now sound_a))

  -- the new id of an agency of B is one of A exactly where the agency is joined
  agency-twin : (y : List ℕ) → lists_id (ids kind.Agency a) (agency_b a b y) ≡ true → joined_agency a b y ≡ true
  agency-twin y has = agency-into a b sound_a.content (few kind.Agency) y has

  -- the id of a twin stays
  pub twin-stays : (k : Kind) (y : List ℕ) → lists_id (ids k a) (renaming nb k y) ≡ true → renaming na k (renaming nb k y) ≡ renaming nb k y
  twin-stays kind.Agency y has =
      let j = agency-twin y has in
      ap (agency_a a b) (agency-stays_b a b sound_a.content (few kind.Agency) y j) ∙ agency-stays_a a b sound_a.content (few kind.Agency) y j ∙ sym (agency-stays_b a b sound_a.content (few kind.Agency) y j)
  twin-stays kind.Stop y has = refl
  twin-stays kind.Route y has = refl
  twin-stays kind.Service y has = refl
  twin-stays kind.Trip y has = refl

  -- an id of B that has the new id of one of A has a twin
  pub ids-meet : (k : Kind) (x y : List ℕ) → lists_id (ids k a) x ≡ true → lists_id (ids k b) y ≡ true → renaming na k x ≡ renaming nb k y → lists_id (ids k a) (renaming nb k y) ≡ true
  ids-meet kind.Agency x y hx hy e =
      let j = (and_parts (joined_agency a b y) (bytes_eq x y) (sym (agencies-meet a b sound_a.content (few kind.Agency) x y hx hy) ∙ bytes_same (agency_a a b x) (agency_b a b y) e)).0 in
      ap (lists_id (ids kind.Agency a)) (agency-stays_b a b sound_a.content (few kind.Agency) y j) ∙ (joined-has (nearness_of sides) kind.Agency a b y j).0
  ids-meet kind.Stop x y hx hy e = ap (lists_id (ids kind.Stop a)) (sym e) ∙ hx
  ids-meet kind.Route x y hx hy e = ap (lists_id (ids kind.Route a)) (sym e) ∙ hx
  ids-meet kind.Service x y hx hy e = ap (lists_id (ids kind.Service a)) (sym e) ∙ hx
  ids-meet kind.Trip x y hx hy e = ap (lists_id (ids kind.Trip a)) (sym e) ∙ hx

  -- two ids of B without twins stay two
  left-apart : (k : Kind) (x y : List ℕ) → lists_id (ids k b) x ≡ true → lists_id (ids k b) y ≡ true → lists_id (ids k a) (renaming nb k x) ≡ false → lists_id (ids k a) (renaming nb k y) ≡ false
      → renaming nb k x ≡ renaming nb k y → x ≡ y
  left-apart kind.Agency x y hx hy nx ny e = apart-unmet a b sound_a.content sound_b.content sides.near kind.Agency refl (few-enough kind.Agency) x y hx hy e
  left-apart kind.Stop x y hx hy nx ny e =
      let rule = by_rule (nearness_of sides) (is-nearness sides.near) a b (sound-places a sound_a.content) (sound-places b sound_b.content) (few-enough kind.Stop) in
      renamed_apart (ids kind.Stop a) (ids kind.Stop b) (joined_stop_under (stop_within (nearness_of sides) 2 a b) a b) (few-enough kind.Stop) x y hx hy (sym (rule x hx nx) ∙ e ∙ rule y hy ny)
  left-apart kind.Route x y hx hy nx ny e = renamed_apart (ids kind.Route a) (ids kind.Route b) (joined_route a b) (few-enough kind.Route) x y hx hy e
  left-apart kind.Service x y hx hy nx ny e = renamed_apart (ids kind.Service a) (ids kind.Service b) (joined_service a b) (few-enough kind.Service) x y hx hy e
  left-apart kind.Trip x y hx hy nx ny e = renamed_apart (ids kind.Trip a) (ids kind.Trip b) (joined_trip (nearness_of sides) a b) (few-enough kind.Trip) x y hx hy e

  abbrev pub has_twin : Kind → List ℕ → Bool
  has_twin k y = is_some (twin_number k sides y)

  apart-second : (k : Kind) (m n : ℕ) → m < length (known_ids k sides.b.now) → n < length (known_ids k sides.b.now) → has_twin k (get_or (known_ids k sides.b.now) m []) ≡ false → has_twin k (get_or (known_ids k sides.b.now) n []) ≡ false
      → renaming nb k (get_or (known_ids k sides.b.now) m []) ≡ renaming nb k (get_or (known_ids k sides.b.now) n []) → get_or (known_ids k sides.b.now) m [] ≡ get_or (known_ids k sides.b.now) n []
  apart-second k m n first second left_m left_n e =
      let x = get_or (known_ids k sides.b.now) m [] in
      let y = get_or (known_ids k sides.b.now) n [] in
      left-apart k x y (has-b k m first) (has-b k n second) (sym (has-twin k x) ∙ left_m) (sym (has-twin k y) ∙ left_n) e

  meets : (k : Kind) (m n : ℕ) → m < length (known_ids k sides.a.now) → n < length (known_ids k sides.b.now) → renaming na k (get_or (known_ids k sides.a.now) m []) ≡ renaming nb k (get_or (known_ids k sides.b.now) n [])
      → has_twin k (get_or (known_ids k sides.b.now) n []) ≡ true
  meets k m n first second e =
      has-twin k (get_or (known_ids k sides.b.now) n []) ∙ ids-meet k (get_or (known_ids k sides.a.now) m []) (get_or (known_ids k sides.b.now) n []) (has-a k m first) (has-b k n second) e

  -- ---- the merge of each kind

  module _ {X : Type 0} (k : Kind) (id : X → List ℕ) (under : Names → X → X) (rows : Content → List X) where
    abbrev IsMergeOf : Type 0
    IsMergeOf = IsMerge id (under na) (under nb) (rows a) (rows b) (renaming na k) (renaming nb k) (known_ids k sides.a.now) (known_ids k sides.b.now) (has_twin k)

    merge-of : map id (rows a) ≡ known_ids k sides.a.now → map id (rows b) ≡ known_ids k sides.b.now → map id (rows a) ≡ ids k a → ((r : X) → id (under na r) ≡ renaming na k (id r)) → ((r : X) → id (under nb r) ≡ renaming nb k (id r)) → IsMergeOf
    merge-of named_a named_b of_a new_a new_b = record {
      named_a = named_a;
      named_b = named_b;
      up_a = ids-ascend k sides.a.now sound_a;
      up_b = ids-ascend k sides.b.now sound_b;
      new_a = new_a;
      new_b = new_b;
      apart_a = apart-first k;
      apart_b = apart-second k;
      meet = meets k;
      twin = λ s i h.
          let has = sym (has-twin k (id s)) ∙ h in
          let r = found id (rows a) (renaming nb k (id s)) (ap (λ xs. lists_id xs (renaming nb k (id s))) of_a ∙ has) in
          let at = found_id id (rows a) (renaming nb k (id s)) r.0 r.1 in
          (r.0, at.0, new_a r.0 ∙ ap (renaming na k) at.1 ∙ twin-stays k (id s) has ∙ sym (new_b s));
    }

    abbrev name : Side → ℕ → List ℕ
    name s n = renaming (side_names s sides) k (text_of_number (known_ids k (side_parts s sides)) n)

    abbrev value : Side → ℕ → Option X
    value s n = option_map (under (side_names s sides)) (slice_get (rows (side_content s sides)) n)

    record IsListed (es : List Entry) : Type 0 where
      pub ascend : Ascends (on (λ e. e.id) text_cmp) es
      pub ids : map (λ e. e.id) es ≡ map id (by_id id (map (under na) (rows a) ++ map (under nb) (rows b)))
      pub within : All (λ e. e.number < length (known_ids k (side_parts e.side sides))) es
      pub are : map Some (by_id id (map (under na) (rows a) ++ map (under nb) (rows b))) ≡ map (λ e. value e.side e.number) es

    listed : IsMergeOf → (es : List Entry) → IsPermutation (rows_of_a k sides ++ rows_of_b k sides) es → IsSorted (on (λ e. e.id) text_cmp) es → IsListed es
    listed merge es moved sorted =
        let f = under na in
        let g = under nb in
        let by = rows-by_id id f g (rows a) (rows b) (renaming na k) (renaming nb k) (known_ids k sides.a.now) (known_ids k sides.b.now) (has_twin k) merge name (λ n. refl) (λ n. refl) value (λ n. refl) (λ n. refl) es moved sorted in
        record {
          ascend = ascend id f g (rows a) (rows b) (renaming na k) (renaming nb k) (known_ids k sides.a.now) (known_ids k sides.b.now) (has_twin k) merge name (λ n. refl) (λ n. refl) value (λ n. refl) (λ n. refl) es moved sorted;
          ids = by.ids;
          within = within-sides id f g (rows a) (rows b) (renaming na k) (renaming nb k) (known_ids k sides.a.now) (known_ids k sides.b.now) (has_twin k) merge name (λ n. refl) (λ n. refl) value (λ n. refl) (λ n. refl) es moved sorted
              (λ s. length (known_ids k (side_parts s sides))) refl refl;
          are = by.listed;
        }

  -- ---- all kinds

  pub merged-rows : (k : Kind) (es : List Entry) → IsPermutation (rows_of_a k sides ++ rows_of_b k sides) es → IsSorted (on (λ e. e.id) text_cmp) es → AreMergedRows k sides es
  merged-rows kind.Agency es moved sorted =
      let l = listed kind.Agency (λ r. r.agency_id) (λ n. agency_with n.agency) (λ c. c.agencies)
      (merge-of kind.Agency (λ r. r.agency_id) (λ n. agency_with n.agency) (λ c. c.agencies) (ids-known kind.Agency sides.a.now sound_a) (ids-known kind.Agency sides.b.now sound_b) refl (λ r. refl) (λ r. refl)) es moved sorted in
      record { same = moved; ascend = l.ascend; ids = l.ids; within = l.within; rows = l.are }
  merged-rows kind.Stop es moved sorted =
      let l = listed kind.Stop (λ r. r.stop_id) (λ n. stop_with n.stop) (λ c. c.stops)
      (merge-of kind.Stop (λ r. r.stop_id) (λ n. stop_with n.stop) (λ c. c.stops) (ids-known kind.Stop sides.a.now sound_a) (ids-known kind.Stop sides.b.now sound_b) refl (λ r. refl) (λ r. refl)) es moved sorted in
      record { same = moved; ascend = l.ascend; ids = l.ids; within = l.within; rows = l.are }
  merged-rows kind.Route es moved sorted =
      let l = listed kind.Route (λ r. r.route_id) (λ n. route_with n.route n.agency) (λ c. c.routes)
      (merge-of kind.Route (λ r. r.route_id) (λ n. route_with n.route n.agency) (λ c. c.routes) (ids-known kind.Route sides.a.now sound_a) (ids-known kind.Route sides.b.now sound_b) refl (λ r. refl) (λ r. refl)) es moved sorted in
      record { same = moved; ascend = l.ascend; ids = l.ids; within = l.within; rows = l.are }
  merged-rows kind.Service es moved sorted =
      let l = listed kind.Service (λ r. r.service_id) (λ n. service_with n.service) (λ c. c.services)
      (merge-of kind.Service (λ r. r.service_id) (λ n. service_with n.service) (λ c. c.services) (ids-known kind.Service sides.a.now sound_a) (ids-known kind.Service sides.b.now sound_b) refl (λ r. refl) (λ r. refl)) es moved sorted in
      record { same = moved; ascend = l.ascend; ids = l.ids; within = l.within; rows = l.are }
  merged-rows kind.Trip es moved sorted =
      let l = listed kind.Trip (λ r. r.trip_id) trip_under (λ c. c.trips)
      (merge-of kind.Trip (λ r. r.trip_id) trip_under (λ c. c.trips) (ids-known kind.Trip sides.a.now sound_a) (ids-known kind.Trip sides.b.now sound_b) refl (λ r. refl) (λ r. refl)) es moved sorted in
      record { same = moved; ascend = l.ascend; ids = l.ids; within = l.within; rows = l.are }
