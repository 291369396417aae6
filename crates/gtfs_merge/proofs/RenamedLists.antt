-- Ids of a kind, and what each became.
use Rattle.std.proofs.Common.{◌≡◌, ◌<◌, ◌≤◌, ◌+◌, ℕ, List, [], ◌∷◌, ◌++◌, Some, None, Option, refl, sym, ap, ◌∙◌, length, map, take, get_or, bytes_eq, min, option_and_then, length-append, arith}
use Rattle.std.specs.Prelude.{String, zip}
use Rattle.std.specs.List.{AllPairs, position, slice_get}
use Rattle.std.specs.declared.cmp.Ordering.TheVariants.{Less}
use Rattle.std.proofs.lemmas.List.{get_or-map, length-map, length-take-le, map-id, map_push, take_all, take_more}
use Rattle.std.proofs.lemmas.List.Quantifiers.{position-Some}
use Rattle.std.proofs.lemmas.Option.{slice_get-get_or}
use Rattle.std.proofs.lemmas.Slice.Zip.{get_or-zip, length-zip}
use Rattle.gtfs_field.specs.TextOrder.{text_cmp}
use Rattle.gtfs_rows.specs.TransferOrder.{Ascends}
use Rattle.gtfs_rows.proofs.SameElements.{pairs-map}
use Rattle.gtfs_rows.specs.declared.parts.Parts.{Parts}
use Rattle.gtfs_rows.specs.RowsInMemory.{IsSoundParts}
use Rattle.gtfs_rows.proofs.SoundOrder.{in_order}
use Rattle.gtfs_merge.specs.FeedIds.{known_ids}
use Rattle.gtfs_merge.specs.Names.{NewIds, name_or, names_or, new_id}
use Rattle.gtfs_merge.specs.Renaming.{Renaming}
use Rattle.gtfs_merge.specs.declared.kind.Kind.{Kind}
use Rattle.gtfs_merge.specs.declared.kind.Kind.TheVariants as kind
use Rattle.gtfs_merge.proofs.JoinedStops.{own_text}

-- ---- ids of a kind ascend

pub ascend : (k : Kind) (p : Parts) → IsSoundParts p → AllPairs (λ s t. text_cmp s t ≡ Less) (known_ids k p)
ascend kind.Agency p sound = pairs-map (λ r. r.agency_id) (λ s t. text_cmp s t ≡ Less) p.agencies (in_order p sound).agencies
ascend kind.Stop p sound = pairs-map (λ r. r.stop_id) (λ s t. text_cmp s t ≡ Less) p.stops (in_order p sound).stops
ascend kind.Route p sound = pairs-map (λ r. r.route_id) (λ s t. text_cmp s t ≡ Less) p.routes (in_order p sound).routes
ascend kind.Service p sound = pairs-map (λ r. r.service_id) (λ s t. text_cmp s t ≡ Less) p.services (in_order p sound).services
ascend kind.Trip p sound = pairs-map (λ r. r.trip_id) (λ s t. text_cmp s t ≡ Less) p.trips (in_order p sound).trips

-- ---- the other texts of the first ids, one more in each turn

zip-push : {X Y : Type 0} (xs : List X) (ys : List Y) (x : X) (y : Y) → length ys ≡ length xs → zip (xs ++ x ∷ []) (ys ++ y ∷ []) ≡ zip xs ys ++ (x, y) ∷ []
zip-push [] [] x y same = refl
zip-push [] (z ∷ ys) x y same = absurd (omega (arith, same))
zip-push (z ∷ xs) [] x y same = absurd (omega (arith, same))
zip-push (v ∷ xs) (w ∷ ys) x y same = ap (λ r. (v, w) ∷ r) (zip-push xs ys x y (omega (arith, same)))

module _ {A : Type 0} (rename : Renaming) (ids : List (List ℕ)) where
  -- these are the other texts of so many ids
  pub record AreNamed (n : ℕ) (names : List (Option (String A))) : Type 0 where
    pub few : n ≤ length ids
    pub count : length names ≡ n
    pub named : names_or (take n ids) names ≡ map rename (take n ids)

  pub none-named : (names : List (Option (String A))) → names ≡ [] → AreNamed 0 names
  none-named names none = record { few = omega arith; count = ap length none; named = refl }

  pub one-named : (n : ℕ) (before after : List (Option (String A))) (id : List ℕ) (name : Option (String A)) → n < length ids → AreNamed n before → after ≡ before ++ name ∷ [] → id ≡ get_or ids n [] → name_or id name ≡ rename id
      → AreNamed (n + 1) after
  one-named n before after id name within so_far pushed own renamed =
      let f = λ (p : List ℕ × Option (String A)). name_or p.0 p.1 in
      let one : take (n + 1) ids ≡ take n ids ++ id ∷ [] = take_more ids n [] within ∙ ap (λ x. take n ids ++ x ∷ []) (sym own) in
      let even : length before ≡ length (take n ids) = so_far.count ∙ sym (length-take-le n ids (omega (arith, within))) in
      record {
        few = omega (arith, within);
        count = omega (arith, ap length pushed, length-append before (name ∷ []), so_far.count);
        named = (λ i. map f (zip (one i) (pushed i)))
            ∙ ap (map f) (zip-push (take n ids) before id name even)
            ∙ map_push f (zip (take n ids) before) (id, name)
            ∙ (λ i. so_far.named i ++ renamed i ∷ [])
            ∙ sym (map_push rename (take n ids) id)
            ∙ ap (map rename) (sym one);
      }

  pub all-named : (n : ℕ) (names : List (Option (String A))) → length ids ≤ n → AreNamed n names → (length names ≡ length ids) × (names_or ids names ≡ map rename ids)
  all-named n names past are =
      let whole : take n ids ≡ ids = take_all n ids past in
      (omega (arith, past, are.few, are.count), ap (λ xs. names_or xs names) (sym whole) ∙ are.named ∙ ap (map rename) whole)

-- ---- names as the code keeps them: each id, and its other text, if it has one

module _ {A : Type 0} (ids : List (List ℕ)) (names : List (Option (String A))) (count : length names ≡ length ids) (table : NewIds) (is : record { ids = ids; names = names_or ids names } ≡ table) where
  names-counted : length table.names ≡ length ids
  names-counted = ap (λ t. length t.names) (sym is) ∙ length-map (zip ids names) (λ p. name_or p.0 p.1) ∙ length-zip ids names ∙ even (length ids) (length names) count
    where
      even : (n m : ℕ) → m ≡ n → min n m ≡ n
      even n m same = omega (arith, same)

  -- the name of a number
  pub name-of : (n : ℕ) → n < length ids → (id c : List ℕ) (name d : Option (String A)) → id ≡ get_or ids n c → name ≡ get_or names n d → name_or id name ≡ get_or table.names n []
  name-of n within id c name d own other =
      let f = λ (p : List ℕ × Option (String A)). name_or p.0 p.1 in
      (λ i. name_or (own i) (other i))
      ∙ ap f (sym (get_or-zip ids names n (c, d) within (omega (arith, within, count))))
      ∙ sym (get_or-map f (zip ids names) n (c, d) [] (omega (arith, within, count, length-zip ids names)))
      ∙ ap (λ t. get_or t.names n []) is

  -- an id that was found at a number
  pub found-within : (x : List ℕ) (n : ℕ) → position (bytes_eq x) ids ≡ Some n → n < length table.ids
  found-within x n found = omega (arith, ap (λ t. length t.ids) is, (position-Some (bytes_eq x) ids n [] found).0)

  pub name-found : (x : List ℕ) (n : ℕ) → position (bytes_eq x) ids ≡ Some n → Some (get_or table.names n []) ≡ new_id table x
  name-found x n found =
      sym (slice_get-get_or table.names n [] (omega (arith, names-counted, (position-Some (bytes_eq x) ids n [] found).0)))
      ∙ ap (option_and_then (slice_get table.names)) (sym found ∙ ap (λ t. position (bytes_eq x) t.ids) is)

  -- the id of a number became the name of that number
  pub name-numbered : Ascends text_cmp ids → (n : ℕ) → n < length ids → new_id table (get_or table.ids n []) ≡ Some (get_or table.names n [])
  name-numbered up n within =
      let own : position (bytes_eq (get_or ids n [])) ids ≡ Some n =
      ap (λ xs. position (bytes_eq (get_or xs n [])) xs) (sym (map-id ids)) ∙ own_text (λ t. t) ids n up within in
      ap (λ t. new_id table (get_or t.ids n [])) (sym is) ∙ sym (name-found (get_or ids n []) n own)

  pub name-missing : (x : List ℕ) → position (bytes_eq x) ids ≡ None → None ≡ new_id table x
  name-missing x missing = ap (option_and_then (slice_get table.names)) (sym missing ∙ ap (λ t. position (bytes_eq x) t.ids) is)
