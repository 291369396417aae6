-- Ids that are joined are ids of both feeds.
use Rattle.std.proofs.Common.{◌≡◌, ◌<◌, ℕ, Bool, true, false, List, [], Some, None, refl, sym, ap, ◌∙◌, subst, length, map, get_or, bytes_eq, is_some, true≢false}
use Rattle.std.specs.Prelude.{◌&&◌}
use Rattle.std.specs.List.{list_any, position, position_or_len}
use Rattle.std.proofs.lemmas.Bool.{and_parts, false_from_ne_true}
use Rattle.std.proofs.lemmas.List.{get_or-map, length-map}
use Rattle.std.proofs.lemmas.List.Quantifiers.{position-Some}
use Rattle.gtfs_field.proofs.ListFacts.{position_any as before-any}
use Rattle.gtfs_field.proofs.OptionFacts.{is_some-cond}
use Rattle.gtfs_schema.proofs.SiteFacts.{text_is as same_bytes}
use Rattle.gtfs_rows.specs.Content.{Content}
use Rattle.gtfs_rows.specs.RowsInMemory.{IsSoundParts, content_of_parts}
use Rattle.gtfs_merge.specs.FeedIds.{known_ids}
use Rattle.gtfs_merge.specs.JoinedNumbers.{number_if}
use Rattle.gtfs_merge.specs.Renaming.{Nearness, Renaming, lists_id, ids, is_joined, joined_by, joined_stop_under}
use Rattle.gtfs_merge.specs.MergedSides.{nearness_of}
use Rattle.gtfs_merge.specs.Twins.{of_kind, twin_number, twin_numbers, twin_rows}
use Rattle.gtfs_merge.specs.declared.kind.Kind.{Kind}
use Rattle.gtfs_merge.specs.declared.kind.Kind.TheVariants as kind
use Rattle.gtfs_merge.specs.declared.sides.Sides.{Sides}
use Rattle.gtfs_merge.proofs.JoinedKinds.{ids-known}
use Rattle.gtfs_merge.proofs.Lookups.{list_any-In}
use Rattle.gtfs_merge.proofs.MergedRows.{has_own}

module _ {X : Type 0} (id : X → List ℕ) (same : X → X → Bool) (rows_a rows_b : List X) (x : List ℕ) (joined : joined_by id same rows_a rows_b x ≡ true) where
  by-has : (lists_id (map id rows_a) x ≡ true) × (lists_id (map id rows_b) x ≡ true)
  by-has =
      let r = list_any-In (λ row. bytes_eq (id row) x && list_any (λ other. bytes_eq (id other) x && same row other) rows_b) rows_a joined in
      let first = and_parts (bytes_eq (id r.0) x) (list_any (λ other. bytes_eq (id other) x && same r.0 other) rows_b) r.2 in
      let s = list_any-In (λ other. bytes_eq (id other) x && same r.0 other) rows_b first.1 in
      let second = and_parts (bytes_eq (id s.0) x) (same r.0 s.0) s.2 in (
        subst (λ y. lists_id (map id rows_a) y ≡ true) (same_bytes (id r.0) x first.0) (has_own id rows_a r.0 r.1),
        subst (λ y. lists_id (map id rows_b) y ≡ true) (same_bytes (id s.0) x second.0) (has_own id rows_b s.0 s.1),
      )

pub joined-has : (near : Nearness) (k : Kind) (a b : Content) (x : List ℕ) → is_joined near k a b x ≡ true → (lists_id (ids k a) x ≡ true) × (lists_id (ids k b) x ≡ true)
joined-has near kind.Agency a b x j = by-has (λ r. r.agency_id) _ a.agencies b.agencies x j
joined-has near kind.Stop a b x j = by-has (λ s. s.stop_id) _ a.stops b.stops x j
joined-has near kind.Route a b x j = by-has (λ r. r.route_id) _ a.routes b.routes x j
joined-has near kind.Service a b x j = by-has (λ s. s.service_id) _ a.services b.services x j
joined-has near kind.Trip a b x j = by-has (λ t. t.trip_id) _ a.trips b.trips x j

pub under-has : (rename : Renaming) (a b : Content) (x : List ℕ) → joined_stop_under rename a b x ≡ true → lists_id (ids kind.Stop a) x ≡ true
under-has rename a b x j = (by-has (λ s. s.stop_id) _ a.stops b.stops x j).0

-- an id has a number where it is there
pub has-number : (xs : List (List ℕ)) (x : List ℕ) → is_some (position (bytes_eq x) xs) ≡ lists_id xs x
has-number xs x = is_some-cond _ (position_or_len (bytes_eq x) xs) ∙ before-any (bytes_eq x) xs

pub number-tells : (j : Bool) (xs : List (List ℕ)) (x : List ℕ) → (j ≡ true → lists_id xs x ≡ true) → is_some (number_if j xs x) ≡ j
number-tells true xs x has = has-number xs x ∙ has refl
number-tells false xs x has = refl

pub of-kind : (sides : Sides) (k : Kind) → of_kind (twin_rows sides) k ≡ twin_numbers k sides
of-kind sides kind.Agency = refl
of-kind sides kind.Stop = refl
of-kind sides kind.Route = refl
of-kind sides kind.Service = refl
of-kind sides kind.Trip = refl

pub of-kind-length : (sides : Sides) (k : Kind) → length (of_kind (twin_rows sides) k) ≡ length (known_ids k sides.b.now)
of-kind-length sides k = ap length (of-kind sides k) ∙ length-map (known_ids k sides.b.now) (twin_number k sides)

-- the twin of a row of B
pub twin-at : (sides : Sides) (k : Kind) (n : ℕ) → n < length (known_ids k sides.b.now) → get_or (of_kind (twin_rows sides) k) n None ≡ twin_number k sides (get_or (known_ids k sides.b.now) n [])
twin-at sides k n within = ap (λ xs. get_or xs n None) (of-kind sides k) ∙ get_or-map (twin_number k sides) (known_ids k sides.b.now) n [] None within

-- the id of a number
pub own-index : (xs : List (List ℕ)) (x : List ℕ) (n : ℕ) → position (bytes_eq x) xs ≡ Some n → (n < length xs) × (x ≡ get_or xs n [])
own-index xs x n numbered = let there = position-Some (bytes_eq x) xs n [] numbered in (there.0, same_bytes x _ there.1)

module _ (sides : Sides) (sound_a : IsSoundParts sides.a.now) (sound_b : IsSoundParts sides.b.now) (k : Kind) (x : List ℕ) where
  abbrev a : Content
  a = content_of_parts sides.a.now

  abbrev b : Content
  b = content_of_parts sides.b.now

  pub told-not-there : position (bytes_eq x) (known_ids k sides.b.now) ≡ None → false ≡ is_joined (nearness_of sides) k a b x
  told-not-there numbered = sym (false_from_ne_true _ (λ j.
      let has : lists_id (known_ids k sides.b.now) x ≡ true = subst (λ xs. lists_id xs x ≡ true) (ids-known k sides.b.now sound_b) (joined-has (nearness_of sides) k a b x j).1 in
      true≢false (sym has ∙ sym (has-number (known_ids k sides.b.now) x) ∙ ap is_some numbered)))
