-- Tables of names tell what each id became.
use Rattle.std.proofs.Common.{◌≡◌, ◌<◌, ◌+◌, ◌++◌, ℕ, Bool, true, false, List, [], ◌∷◌, Some, None, Option, refl, sym, ap, ◌∙◌, length, map, filter, take, get_or, bytes_eq, is_some, option_and_then, add-one, arith}
use Rattle.std.specs.Prelude.{if◌then◌else◌}
use Rattle.std.specs.List.{AllPairs, position, slice_get}
use Rattle.std.specs.declared.cmp.Ordering.TheVariants.{Less}
use Rattle.std.proofs.Math.Seq.{take-suc}
use Rattle.std.proofs.lemmas.List.{get_or-map, length-map}
use Rattle.std.proofs.lemmas.List.Quantifiers.{position-Some}
use Rattle.std.proofs.lemmas.Option.{slice_get-get_or}
use Rattle.std.proofs.lemmas.List.Elements.{filter-append}
use Rattle.std.proofs.lemmas.List.Kept.{AllPairs-filter}
use Rattle.std.proofs.lemmas.Map.Views.{Contains-from_any}
use Rattle.gtfs_field.proofs.TextOrderFacts.{texts_total}
use Rattle.gtfs_field.specs.TextOrder.{text_cmp}
use Rattle.gtfs_schema.proofs.SiteFacts.{text_is as same_bytes}
use Rattle.gtfs_rows.specs.Content.{Content}
use Rattle.gtfs_rows.specs.declared.parts.Parts.{Parts}
use Rattle.gtfs_rows.specs.RowsInMemory.{IsSoundParts, content_of_parts}
use Rattle.gtfs_rows.proofs.ByKey.{by_key_is}
use Rattle.gtfs_rows.proofs.Held.{text_antisymmetric}
use Rattle.gtfs_rows.proofs.SameElements.{SameElements, contains-filter, contains-from_filter}
use Rattle.gtfs_merge.specs.DeparturesOfBoth.{StaysApart}
use Rattle.gtfs_merge.specs.FeedIds.{known_ids}
use Rattle.gtfs_merge.specs.Names.{AllNames, in_kind, kind_names, new_id, new_ids, of_side}
use Rattle.gtfs_merge.specs.Renaming.{lists_id, ids, name_of_id, Names, Renaming, renaming}
use Rattle.gtfs_merge.specs.MergedSides.{is_joined_id, nearness_of, side_names, side_parts}
use Rattle.gtfs_merge.specs.declared.kind.Kind.{Kind}
use Rattle.gtfs_merge.specs.declared.kind.Kind.TheVariants as kind
use Rattle.gtfs_merge.specs.declared.kind.Side.{Side}
use Rattle.gtfs_merge.specs.declared.kind.Side.TheVariants as side
use Rattle.gtfs_merge.specs.declared.sides.Sides.{Sides}
use Rattle.gtfs_merge.proofs.JoinedIds.{has-number, joined-has}
use Rattle.gtfs_merge.proofs.JoinedKinds.{ids-known}
use Rattle.gtfs_merge.proofs.Premises.{by_id-ascending}
use Rattle.gtfs_merge.proofs.RenamedLists.{ascend}

looked-up : (rename : Renaming) (xs : List (List ℕ)) (x : List ℕ) → new_id (new_ids rename xs) x ≡ (if lists_id xs x then Some (rename x) else None)
looked-up rename xs x = by (position (bytes_eq x) xs) refl
  where
    by : (o : Option ℕ) → position (bytes_eq x) xs ≡ o → option_and_then (slice_get (map rename xs)) (position (bytes_eq x) xs) ≡ (if lists_id xs x then Some (rename x) else None)
    by None e = ap (option_and_then (slice_get (map rename xs))) e ∙ ap (λ h. if h then Some (rename x) else None) (sym (ap is_some e) ∙ has-number xs x)
    by (Some n) e =
        let there = position-Some (bytes_eq x) xs n [] e in
        let within : n < length (map rename xs) = omega (arith, there.0, length-map xs rename) in
        ap (option_and_then (slice_get (map rename xs))) e
        ∙ slice_get-get_or (map rename xs) n [] within
        ∙ ap Some (get_or-map rename xs n [] [] there.0 ∙ ap rename (sym (same_bytes x (get_or xs n []) there.1)))
        ∙ ap (λ h. if h then Some (rename x) else None) (sym (ap is_some e) ∙ has-number xs x)

pub named : (n : Names) (k : Kind) (p : Parts) → IsSoundParts p → (x : List ℕ) → new_id (new_ids (renaming n k) (known_ids k p)) x ≡ name_of_id n k (content_of_parts p) x
named n k p sound x = looked-up (renaming n k) (known_ids k p) x ∙ ap (λ xs. if lists_id xs x then Some (renaming n k x) else None) (sym (ids-known k p sound))

-- a name by its number
pub name-at : (k : Kind) (sides : Sides) (s : Side) (n : ℕ) → n < length (known_ids k (side_parts s sides)) → get_or (of_side (kind_names k sides) s).names n [] ≡ renaming (side_names s sides) k (get_or (known_ids k (side_parts s sides)) n [])
name-at k sides side.A n within = get_or-map (renaming (side_names side.A sides) k) (known_ids k sides.a.now) n [] [] within
name-at k sides side.B n within = get_or-map (renaming (side_names side.B sides) k) (known_ids k sides.b.now) n [] [] within

pub ids-count : (k : Kind) (sides : Sides) (s : Side) → length (of_side (kind_names k sides) s).ids ≡ length (known_ids k (side_parts s sides))
ids-count k sides side.A = refl
ids-count k sides side.B = refl

pub joined-further : (p : List ℕ → Bool) (xs : List (List ℕ)) (n : ℕ) (before after : List (List ℕ)) (x : List ℕ) → n < length xs → before ≡ filter p (take n xs) → after ≡ before ++ filter p (x ∷ []) → x ≡ get_or xs n []
    → after ≡ filter p (take (n + 1) xs)
joined-further p xs n before after x within so_far added own =
    added ∙ (λ i. so_far i ++ filter p (own i ∷ [])) ∙ sym (filter-append p (take n xs) (get_or xs n [] ∷ [])) ∙ ap (filter p) (sym (ap (λ m. take m xs) (add-one n) ∙ take-suc xs n [] within))

-- what two ascending lists of ids have in common stands in both in one order
common-alike : (p : List ℕ → Bool) (xs ys : List (List ℕ)) → AllPairs (λ s t. text_cmp s t ≡ Less) xs → AllPairs (λ s t. text_cmp s t ≡ Less) ys → ((x : List ℕ) → p x ≡ true → (lists_id xs x ≡ true) × (lists_id ys x ≡ true))
    → filter p xs ≡ filter p ys
common-alike p xs ys up_x up_y both =
    let same : SameElements (filter p xs) (filter p ys) = record {
      there = λ x at. let from = contains-from_filter p xs x at in contains-filter p ys x from.1 (Contains-from_any same_bytes x ys (both x from.1).1);
      back = λ x at. let from = contains-from_filter p ys x at in contains-filter p xs x from.1 (Contains-from_any same_bytes x xs (both x from.1).0);
    } in
    sym (by_id-ascending (λ x. x) (filter p xs) (AllPairs-filter (λ s t. text_cmp s t ≡ Less) p xs up_x))
    ∙ by_key_is text_cmp texts_total (λ x. x) text_antisymmetric (filter p xs) (filter p ys) same (AllPairs-filter (λ s t. text_cmp s t ≡ Less) p ys up_y)

-- the joined ids of B are those of A
pub joined-alike : (k : Kind) (sides : Sides) → IsSoundParts sides.a.now → IsSoundParts sides.b.now → filter (is_joined_id k sides) (known_ids k sides.b.now) ≡ filter (is_joined_id k sides) (known_ids k sides.a.now)
joined-alike k sides sound_a sound_b =
    common-alike (is_joined_id k sides) (known_ids k sides.b.now) (known_ids k sides.a.now) (ascend k sides.b.now sound_b) (ascend k sides.a.now sound_a) (λ x joined.
    let has = joined-has (nearness_of sides) k (content_of_parts sides.a.now) (content_of_parts sides.b.now) x joined in
    (ap (λ xs. lists_id xs x) (sym (ids-known k sides.b.now sound_b)) ∙ has.1, ap (λ xs. lists_id xs x) (sym (ids-known k sides.a.now sound_a)) ∙ has.0))

-- ids that stay apart have names that tell them
pub apart-names : (n : Names) (k : Kind) (f : Content) → StaysApart k f n → (x y name : List ℕ) → name_of_id n k f x ≡ Some name → name_of_id n k f y ≡ Some name → x ≡ y
apart-names n k f apart x y name = by (lists_id (ids k f) x) refl (lists_id (ids k f) y) refl
  where
    by : (h : Bool) → lists_id (ids k f) x ≡ h → (g : Bool) → lists_id (ids k f) y ≡ g → (if h then Some (renaming n k x) else None) ≡ Some name → (if g then Some (renaming n k y) else None) ≡ Some name → x ≡ y
    by true has_x true has_y first second = let same : renaming n k x ≡ renaming n k y = cc in apart x y has_x has_y same
    by true has_x false has_y first second = cc
    by false has_x g has_y first second = cc

-- the names of all kinds
pub each-kind : (sides : Sides) (n : AllNames) → n.agencies ≡ kind_names kind.Agency sides → n.stops ≡ kind_names kind.Stop sides
    → n.routes ≡ kind_names kind.Route sides → n.services ≡ kind_names kind.Service sides → n.trips ≡ kind_names kind.Trip sides
    → (k : Kind) → in_kind n k ≡ kind_names k sides
each-kind sides n agencies stops routes services trips kind.Agency = agencies
each-kind sides n agencies stops routes services trips kind.Stop = stops
each-kind sides n agencies stops routes services trips kind.Route = routes
each-kind sides n agencies stops routes services trips kind.Service = services
each-kind sides n agencies stops routes services trips kind.Trip = trips
