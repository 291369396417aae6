-- The twins of rows of B, kind by kind: of all but stops a twin is the row that is joined.
use Rattle.std.proofs.Common.{◌≡◌, ◌<◌, ◌+◌, ◌^◌, ◌∙◌, ℕ, List, [], sym, ap, subst, length, map, get_or, is_some, false, true, None, arith}
use Rattle.std.proofs.lemmas.List.{get_or-map}
use Rattle.gtfs_rows.specs.Content.{Content}
use Rattle.gtfs_rows.specs.RowsInMemory.{IsSoundParts, content_of_parts}
use Rattle.gtfs_merge.specs.FeedIds.{known_ids}
use Rattle.gtfs_merge.specs.JoinedNumbers.{joined_number, joined_numbers, number_if}
use Rattle.gtfs_merge.specs.Renaming.{lists_id, ids, joined_route, joined_service, joined_trip, renaming}
use Rattle.gtfs_merge.specs.MergedSides.{is_joined_id, nearness_of, side_names}
use Rattle.gtfs_merge.specs.Twins.{became, is_joined_at, twin_number, twin_numbers, twin_rows}
use Rattle.gtfs_merge.specs.declared.kind.Kind.{Kind}
use Rattle.gtfs_merge.specs.declared.kind.Kind.TheVariants as kind
use Rattle.gtfs_merge.specs.declared.kind.Side.TheVariants as side
use Rattle.gtfs_merge.specs.declared.sides.Sides.{Sides}
use Rattle.gtfs_merge.proofs.JoinedAgencies.{agency-number}
use Rattle.gtfs_merge.proofs.JoinedIds.{joined-has, number-tells}
use Rattle.gtfs_merge.proofs.JoinedKinds.{ids-known}
use Rattle.gtfs_merge.proofs.JoinedStops.{renamed-number}

module _ (sides : Sides) (sound_a : IsSoundParts sides.a.now) (sound_b : IsSoundParts sides.b.now)
    (few : (k : Kind) → length (ids k (content_of_parts sides.a.now)) + length (ids k (content_of_parts sides.b.now)) < 2 ^ 65) where
  abbrev a : Content
  a = content_of_parts sides.a.now

  abbrev b : Content
  b = content_of_parts sides.b.now

  -- by the ids of the content, which are those of the parts
  known : (k : Kind) (x : List ℕ) → became (ids k a) (renaming (side_names side.B sides) k) x ≡ number_if (is_joined_id k sides x) (ids k a) x → twin_number k sides x ≡ joined_number k sides x
  known k x is = subst (λ xs. became xs (renaming (side_names side.B sides) k) x ≡ number_if (is_joined_id k sides x) xs x) (ids-known k sides.a.now sound_a) is

  pub agency-twin : (x : List ℕ) → twin_number kind.Agency sides x ≡ joined_number kind.Agency sides x
  agency-twin x = known kind.Agency x (agency-number a b sound_a.content (few kind.Agency) x)

  pub route-twin : (x : List ℕ) → twin_number kind.Route sides x ≡ joined_number kind.Route sides x
  route-twin x = known kind.Route x (renamed-number (ids kind.Route a) (ids kind.Route b) (joined_route a b) (let h = few kind.Route in omega arith) x)

  pub service-twin : (x : List ℕ) → twin_number kind.Service sides x ≡ joined_number kind.Service sides x
  service-twin x = known kind.Service x (renamed-number (ids kind.Service a) (ids kind.Service b) (joined_service a b) (let h = few kind.Service in omega arith) x)

  pub trip-twin : (x : List ℕ) → twin_number kind.Trip sides x ≡ joined_number kind.Trip sides x
  trip-twin x = known kind.Trip x (renamed-number (ids kind.Trip a) (ids kind.Trip b) (joined_trip (nearness_of sides) a b) (let h = few kind.Trip in omega arith) x)

  all-twins : (k : Kind) → ((x : List ℕ) → twin_number k sides x ≡ joined_number k sides x) → joined_numbers k sides ≡ twin_numbers k sides
  all-twins k each = sym (λ i. map (λ x. each x i) (known_ids k sides.b.now))

  pub agency-twins : joined_numbers kind.Agency sides ≡ twin_numbers kind.Agency sides
  agency-twins = all-twins kind.Agency agency-twin

  pub route-twins : joined_numbers kind.Route sides ≡ twin_numbers kind.Route sides
  route-twins = all-twins kind.Route route-twin

  pub service-twins : joined_numbers kind.Service sides ≡ twin_numbers kind.Service sides
  service-twins = all-twins kind.Service service-twin

  pub trip-twins : joined_numbers kind.Trip sides ≡ twin_numbers kind.Trip sides
  trip-twins = all-twins kind.Trip trip-twin

  -- ---- whether a row is joined

  some-joined : (k : Kind) → ((x : List ℕ) → twin_number k sides x ≡ joined_number k sides x) → (n : ℕ) → n < length (known_ids k sides.b.now)
      → is_some (get_or (twin_numbers k sides) n None) ≡ is_joined_id k sides (get_or (known_ids k sides.b.now) n [])
  some-joined k each n within =
      let x = get_or (known_ids k sides.b.now) n [] in
      ap is_some (get_or-map (twin_number k sides) (known_ids k sides.b.now) n [] None within ∙ each x)
      ∙ number-tells (is_joined_id k sides x) (known_ids k sides.a.now) x (λ j. subst (λ xs. lists_id xs x ≡ true) (ids-known k sides.a.now sound_a) (joined-has (nearness_of sides) k a b x j).0)

  -- what is told of a row of B
  pub told-at : (k : Kind) (n : ℕ) → n < length (known_ids k sides.b.now) → is_joined_at (twin_rows sides) k n ≡ is_joined_id k sides (get_or (known_ids k sides.b.now) n [])
  told-at kind.Agency n within = some-joined kind.Agency agency-twin n within
  told-at kind.Stop n within = get_or-map (is_joined_id kind.Stop sides) (known_ids kind.Stop sides.b.now) n [] false within
  told-at kind.Route n within = some-joined kind.Route route-twin n within
  told-at kind.Service n within = some-joined kind.Service service-twin n within
  told-at kind.Trip n within = some-joined kind.Trip trip-twin n within
