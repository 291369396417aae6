-- The near stops of A as they are found by number.
use Rattle.std.proofs.Common.{◌≡◌, ◌<◌, ℕ, zero, suc, Bool, true, false, cond, List, [], ◌∷◌, Some, None, Option, refl, sym, ap, ◌∙◌, subst, inl, inr, length, map, get_or, bytes_eq, find, option_map, option_and_then}
use Rattle.std.specs.Prelude.{◌&&◌, ◌==◌}
use Rattle.std.specs.List.{list_any, slice_get, position, position_or_len}
use Rattle.std.specs.Option.{option_eq}
use Rattle.std.specs.Ordering.{on}
use Rattle.std.proofs.lemmas.List.Folds.{find_at}
use Rattle.std.proofs.lemmas.List.Quantifiers.{position-Some}
use Rattle.std.proofs.lemmas.Option.{slice_get-get_or}
use Rattle.gtfs_field.proofs.ListFacts.{mapped_at as row-map, position_any as before-any, some_of}
use Rattle.gtfs_field.specs.TextOrder.{text_cmp}
use Rattle.gtfs_schema.proofs.NamedFacts.{text_turned as bytes_flip}
use Rattle.gtfs_rows.specs.RowChoices.{location_code}
use Rattle.gtfs_rows.specs.Content.{Content}
use Rattle.gtfs_rows.specs.TransferOrder.{Ascends}
use Rattle.gtfs_rows.specs.Rows.{Stop}
use Rattle.gtfs_rows.specs.RowsInMemory.{IsSoundParts, content_of_parts, stop_of, stop_ids}
use Rattle.gtfs_rows.specs.declared.stop.Stop.{Stop as StopByNumber}
use Rattle.gtfs_rows.proofs.SoundOrder.{in_order}
use Rattle.gtfs_rows.proofs.NumberFacts.{own_number}
use Rattle.gtfs_nearby.specs.NearRows.{are_close, same_given_name}
use Rattle.gtfs_rows.proofs.Members.{In}
use Rattle.gtfs_merge.specs.NearStops.{near_by, nearness}
use Rattle.gtfs_nearby.specs.NearRows.{NearStops, is_near_row, is_same_parent}
use Rattle.gtfs_merge.specs.Renaming.{Renaming, near_stop_under}
use Rattle.gtfs_merge.specs.MergedSides.{nearness_of}
use Rattle.gtfs_merge.specs.Twins.{near_stops, parent_became}
use Rattle.gtfs_merge.specs.declared.sides.Sides.{Sides}
use Rattle.gtfs_merge.proofs.JoinedRows.{look-own}
use Rattle.gtfs_merge.proofs.JoinedStops.{none-near, same-parent}
use Rattle.gtfs_merge.proofs.Lookups.{find-alike, find-map, find-None}

-- ---- the first row that passes, and its number

In-index : {X : Type 0} (xs : List X) (x : X) → In x xs → (k : ℕ) × (slice_get xs k ≡ Some x)
In-index [] x i = elim i [ ]
In-index (y ∷ ys) x (inl e) = (zero, ap Some e)
In-index (y ∷ ys) x (inr i) = let r = In-index ys x i in (suc r.0, r.1)

cond-none : (b : Bool) (n : ℕ) → cond b (Some n) None ≡ None → b ≡ false
cond-none true n e = cc e
cond-none false n e = refl

cond-some : (b : Bool) (m n : ℕ) → cond b (Some m) None ≡ Some n → m ≡ n
cond-some true m n e = cc e
cond-some false m n e = cc e

-- the number of the id of the first row that passes is its own
pub find-number : {X : Type 0} (id : X → List ℕ) (rows : List X) → Ascends (on id text_cmp) rows → (g : X → Bool) → option_and_then (λ z. position (bytes_eq z) (map id rows)) (option_map id (find g rows)) ≡ position g rows
find-number {X = X} id rows up g = by (position g rows) refl
  where
    by : (o : Option ℕ) → position g rows ≡ o → option_and_then (λ z. position (bytes_eq z) (map id rows)) (option_map id (find g rows)) ≡ position g rows
    by None e =
        let none : list_any g rows ≡ false = sym (before-any g rows) ∙ cond-none _ (position_or_len g rows) e in
        ap (λ o. option_and_then (λ z. position (bytes_eq z) (map id rows)) (option_map id o)) (find-None g rows none) ∙ sym e
    by (Some m) e =
        let first : position_or_len g rows ≡ m = cond-some _ (position_or_len g rows) m e in
        let within : m < length rows = inside rows m e in
        let row = get_or rows m (some_of rows m within) in
        let at : slice_get rows m ≡ Some row = slice_get-get_or rows m (some_of rows m within) within in
        ap (λ o. option_and_then (λ z. position (bytes_eq z) (map id rows)) (option_map id o)) (find_at g rows ∙ ap (slice_get rows) first ∙ at)
        ∙ own_number id rows m row up at ∙ sym e
      where
        inside : (rows : List X) (m : ℕ) → position g rows ≡ Some m → m < length rows
        inside [] m e = cc e
        inside (r ∷ rs) m e = (position-Some g (r ∷ rs) m r e).0

flip : (o u : Option (List ℕ)) → option_eq bytes_eq o u ≡ option_eq bytes_eq u o
flip None None = refl
flip None (Some y) = refl
flip (Some x) None = refl
flip (Some x) (Some y) = bytes_flip x y

module _ (sides : Sides) (sound_a : IsSoundParts sides.a.now) (sound_b : IsSoundParts sides.b.now) (rename : Renaming) (k : ℕ) (y : StopByNumber) (parent : Option ℕ)
    (at : slice_get sides.b.now.stops k ≡ Some y) (became_so : parent ≡ parent_became sides rename y) where
  abbrev a : Content
  a = content_of_parts sides.a.now

  abbrev b : Content
  b = content_of_parts sides.b.now

  abbrev own : Stop
  own = stop_of sides.b.now y

  -- a stop of A is near by its number exactly where it is near by its ids
  near-row : (n : ℕ) (x : StopByNumber) → In x sides.a.now.stops → near_by n rename own (stop_of sides.a.now x) ≡ is_near_row n y parent x
  near-row n x i =
      let found = In-index sides.a.now.stops x i in
      let parents : option_eq bytes_eq (option_map rename own.parent_station) (stop_of sides.a.now x).parent_station ≡ is_same_parent (option_map (λ m. m.0) x.parent_station) (option_map (λ m. m.0) y.parent_station) parent =
      flip (option_map rename own.parent_station) (stop_of sides.a.now x).parent_station ∙ same-parent sides sound_a sound_b rename found.0 x y parent found.1 became_so in
      ap (λ c. (location_code y.location_type == location_code x.location_type) && same_given_name y.stop_name x.stop_name && are_close n y.stop_lat x.stop_lat && are_close n y.stop_lon x.stop_lon && c) parents

  near-found : (n : ℕ) → position (is_near_row n y parent) sides.a.now.stops ≡ option_and_then (λ z. position (bytes_eq z) (stop_ids sides.a.now)) (near_stop_under (near_by n) rename a b y.stop_id)
  near-found n =
      let number_of : Option (List ℕ) → Option ℕ = option_and_then (λ z. position (bytes_eq z) (stop_ids sides.a.now)) in
      let there = look-own (λ s. s.stop_id) b.stops k own sound_b.content.in_order.stops (row-map (stop_of sides.b.now) sides.b.now.stops k y at) in
      let first = ap (option_and_then (λ v. option_map (λ s. s.stop_id) (find (near_by n rename v) a.stops))) there in
      let second = find-map (near_by n rename own) (stop_of sides.a.now) sides.a.now.stops in
      let third = find-alike (λ x. near_by n rename own (stop_of sides.a.now x)) (is_near_row n y parent) sides.a.now.stops (near-row n) in
      sym (ap number_of (first ∙ ap (option_map (λ s. s.stop_id)) (second ∙ ap (option_map (stop_of sides.a.now)) third) ∙ named (find (is_near_row n y parent) sides.a.now.stops))
      ∙ find-number (λ s. s.stop_id) sides.a.now.stops (in_order sides.a.now sound_a).stops (is_near_row n y parent))
    where
      named : (o : Option StopByNumber) → option_map (λ s. s.stop_id) (option_map (stop_of sides.a.now) o) ≡ option_map (λ s. s.stop_id) o
      named None = refl
      named (Some x) = refl

  abbrev stops_near : Option ℕ → Option NearStops
  stops_near m = option_map (λ n. record { stops = sides.a.now.stops; near = n }) m

  abbrev IsNearNumber : Option ℕ → Option ℕ → Type 0
  IsNearNumber near o = o ≡ option_and_then (λ z. position (bytes_eq z) (stop_ids sides.a.now)) (near_stop_under (nearness near) rename a b y.stop_id)

  -- what is found among the near stops, if any are near
  near-number : (near : NearStops) (o : Option ℕ) → Some near ≡ near_stops sides → o ≡ position (is_near_row near.near y parent) near.stops → IsNearNumber sides.near o
  near-number near o are is = by sides.near are
    where
      by : (m : Option ℕ) → Some near ≡ stops_near m → IsNearNumber m o
      by None e = cc e
      by (Some n) e = let same : near ≡ record { stops = sides.a.now.stops; near = n } = cc e in is ∙ ap (λ v. position (is_near_row v.near y parent) v.stops) same ∙ near-found n

  no-number : None ≡ near_stops sides → IsNearNumber sides.near None
  no-number are = by sides.near are
    where
      by : (m : Option ℕ) → None ≡ stops_near m → IsNearNumber m None
      by None e = sym (ap (option_and_then (λ z. position (bytes_eq z) (stop_ids sides.a.now))) (none-near rename a b y.stop_id))
      by (Some n) e = cc e

-- the same of a row that stands there
pub near-number-row : (sides : Sides) → IsSoundParts sides.a.now → IsSoundParts sides.b.now → (rename : Renaming) (k : ℕ) (y row : StopByNumber) (parent o : Option ℕ) (found : Option NearStops)
    → slice_get sides.b.now.stops k ≡ Some y → slice_get sides.b.now.stops k ≡ Some row → parent ≡ parent_became sides rename row → found ≡ near_stops sides
    → o ≡ option_and_then (λ near. position (is_near_row near.near y parent) near.stops) found
    → o ≡ option_and_then (λ z. position (bytes_eq z) (stop_ids sides.a.now)) (near_stop_under (nearness_of sides) rename (content_of_parts sides.a.now) (content_of_parts sides.b.now) row.stop_id)
near-number-row sides sound_a sound_b rename k y row parent o found at at_row became_so are is =
    let same : y ≡ row = cc in
    subst (λ r. parent ≡ parent_became sides rename r → o ≡ option_and_then (λ z. position (bytes_eq z) (stop_ids sides.a.now)) (near_stop_under (nearness_of sides) rename (content_of_parts sides.a.now) (content_of_parts sides.b.now) r.stop_id)) same
    (λ rel. by found are is rel) became_so
  where
    by : (found : Option NearStops) → found ≡ near_stops sides → o ≡ option_and_then (λ near. position (is_near_row near.near y parent) near.stops) found → parent ≡ parent_became sides rename y
        → o ≡ option_and_then (λ z. position (bytes_eq z) (stop_ids sides.a.now)) (near_stop_under (nearness_of sides) rename (content_of_parts sides.a.now) (content_of_parts sides.b.now) y.stop_id)
    by None are is rel = is ∙ no-number sides sound_a sound_b rename k y parent at rel are
    by (Some near) are is rel = near-number sides sound_a sound_b rename k y parent at rel near o are is
