-- The near stops of B with those of A that they are near, by number.
use Rattle.std.proofs.Common.{◌≡◌, ◌<◌, ◌+◌, ◌^◌, ◌≤◌, ℕ, Bool, true, false, List, [], ◌∷◌, ◌++◌, Some, None, Option, refl, sym, ap, ◌∙◌, subst, length, take, get_or, bytes_eq, find, is_some, option_map, option_and_then, true≢false, add-one, arith}
use Rattle.std.specs.Prelude.{if◌then◌else◌, filter_map}
use Rattle.std.specs.List.{slice_get, position}
use Rattle.std.proofs.Math.Seq.{take-suc}
use Rattle.std.proofs.lemmas.List.{get_or-map, length-map, take_all}
use Rattle.std.proofs.lemmas.List.Elements.{filter_map-append}
use Rattle.std.proofs.lemmas.List.Quantifiers.{position-Some}
use Rattle.std.proofs.lemmas.Option.{slice_get-get_or}
use Rattle.gtfs_field.proofs.ListFacts.{some_of}
use Rattle.gtfs_schema.proofs.SiteFacts.{text_is as same_bytes}
use Rattle.gtfs_rows.specs.Content.{Content}
use Rattle.gtfs_rows.specs.Rows.{Stop}
use Rattle.gtfs_rows.specs.RowsInMemory.{IsSoundParts, content_of_parts, stop_ids}
use Rattle.gtfs_merge.specs.MergedDepartures.{AreFew}
use Rattle.gtfs_merge.specs.NearStops.{near_pair, near_pairs}
use Rattle.gtfs_merge.specs.Renaming.{Nearness, Renaming, lists_id, ids, joined_stop, joined_stop_under, near_stop_under, stop_b, stop_within}
use Rattle.gtfs_merge.specs.MergedSides.{content_a, content_b, nearness_of}
use Rattle.gtfs_merge.specs.Twins.{near_at, pairs_at, twin_number, twin_rows}
use Rattle.gtfs_merge.specs.declared.kind.Kind.{Kind}
use Rattle.gtfs_merge.specs.declared.kind.Kind.TheVariants as kind
use Rattle.gtfs_merge.specs.declared.sides.Sides.{Sides}
use Rattle.gtfs_merge.proofs.JoinedIds.{has-number, twin-at}
use Rattle.gtfs_merge.proofs.JoinedKinds.{id-at, ids-known}
use Rattle.gtfs_merge.proofs.JoinedNames.{has-at}
use Rattle.gtfs_merge.proofs.JoinedStops.{twin-is}
use Rattle.gtfs_merge.proofs.Lookups.{find-In}
use Rattle.gtfs_merge.proofs.MergedRows.{has_own}
use Rattle.gtfs_merge.proofs.SettledStops.{joined-settled, near-settled}
use Rattle.gtfs_merge.proofs.Stops.{is-nearness}

-- what is near is there
near-there : (near : Nearness) (rename : Renaming) (a b : Content) (x z : List ℕ) → near_stop_under near rename a b x ≡ Some z → lists_id (ids kind.Stop a) z ≡ true
near-there near rename a b x z = by (find (λ y. bytes_eq y.stop_id x) b.stops)
  where
    at : (y : Stop) (o : Option Stop) → find (near rename y) a.stops ≡ o → option_map (λ s. s.stop_id) o ≡ Some z → lists_id (ids kind.Stop a) z ≡ true
    at y None e f = cc f
    at y (Some s) e f =
        let is : s.stop_id ≡ z = cc f in
        subst (λ v. lists_id (ids kind.Stop a) v ≡ true) is (has_own (λ s. s.stop_id) a.stops s (find-In (near rename y) a.stops s e).0)

    by : (o : Option Stop) → option_and_then (λ y. option_map (λ s. s.stop_id) (find (near rename y) a.stops)) o ≡ Some z → lists_id (ids kind.Stop a) z ≡ true
    by None f = cc f
    by (Some y) f = at y (find (near rename y) a.stops) refl f

abbrev paired : List ℕ → List ℕ → List ℕ × List ℕ
paired x z = (x, z)

-- an id that is there, by its number
by-own-number : (xs : List (List ℕ)) (x : List ℕ) (o : Option (List ℕ)) → ((z : List ℕ) → o ≡ Some z → lists_id xs z ≡ true)
    → option_map (paired x) o ≡ option_map (λ m. paired x (get_or xs m [])) (option_and_then (λ z. position (bytes_eq z) xs) o)
by-own-number xs x None has = refl
by-own-number xs x (Some z) has = at (position (bytes_eq z) xs) refl
  where
    at : (p : Option ℕ) → position (bytes_eq z) xs ≡ p → Some (paired x z) ≡ option_map (λ m. paired x (get_or xs m [])) p
    at None e = absurd (true≢false (sym (has-number xs z ∙ has z refl) ∙ ap is_some e))
    at (Some m) e = λ i. Some (paired x (same_bytes z (get_or xs m []) (position-Some (bytes_eq z) xs m [] e).1 i))

abbrev listed : {X : Type 0} → Option X → List X
listed None = []
listed (Some x) = x ∷ []

filtered-one : {X Y : Type 0} (f : X → Option Y) (x : X) (o : Option Y) → f x ≡ o → filter_map f (x ∷ []) ≡ listed o
filtered-one f x None e = rw e refl
filtered-one f x (Some y) e = rw e refl

-- the number of a stop that is near is that of a stop of A
pub near-within : (sides : Sides) (n m : ℕ) → n < length (stop_ids sides.b.now) → near_at (twin_rows sides) n ≡ Some m → m < length (stop_ids sides.a.now)
near-within sides n m within e = by (get_or (twin_rows sides).joined_stops n false) e
  where
    by : (j : Bool) → (if j then None else get_or (twin_rows sides).stops n None) ≡ Some m → m < length (stop_ids sides.a.now)
    by true e = cc e
    by false e =
        let named = stop_b (nearness_of sides) (content_a sides) (content_b sides) (get_or (stop_ids sides.b.now) n []) in
        (position-Some (bytes_eq named) (stop_ids sides.a.now) m [] (sym (twin-at sides kind.Stop n within) ∙ e)).0

module _ (sides : Sides) (sound_a : IsSoundParts sides.a.now) (sound_b : IsSoundParts sides.b.now)
    (few : (k : Kind) → length (ids k (content_of_parts sides.a.now)) + length (ids k (content_of_parts sides.b.now)) < 2 ^ 65) where
  abbrev a : Content
  a = content_of_parts sides.a.now

  abbrev b : Content
  b = content_of_parts sides.b.now

  few-stops : AreFew kind.Stop a b
  few-stops = let h = few kind.Stop in omega arith

  abbrev number_of : List ℕ → Option ℕ
  number_of z = position (bytes_eq z) (stop_ids sides.a.now)

  -- a stop that is not joined has as its twin the stop that it is near
  unjoined-twin : (x : List ℕ) → lists_id (ids kind.Stop b) x ≡ true → joined_stop (nearness_of sides) a b x ≡ false → twin_number kind.Stop sides x ≡ option_and_then number_of (near_stop_under (nearness_of sides) (stop_b (nearness_of sides) a b) a b x)
  unjoined-twin x has apart =
      let near = nearness_of sides in
      let two = stop_within near 2 a b in
      let under : joined_stop_under two a b x ≡ false = joined-settled near (is-nearness sides.near) a b sound_a.content sound_b.content few-stops x has ∙ apart in
      twin-is sides sound_a sound_b few-stops two x
      ∙ ap (λ j. if j then number_of x else option_and_then number_of (near_stop_under near two a b x)) under
      ∙ ap (option_and_then number_of) (near-settled near (is-nearness sides.near) a b sound_a.content sound_b.content few-stops x has)

  pair-is : (n : ℕ) → n < length (stop_ids sides.b.now) → (y : Stop) → y.stop_id ≡ get_or (stop_ids sides.b.now) n [] → lists_id (ids kind.Stop b) y.stop_id ≡ true
      → listed (near_pair (nearness_of sides) a b y) ≡ pairs_at sides (near_at (twin_rows sides) n) n
  pair-is n within y own has = by (joined_stop (nearness_of sides) a b y.stop_id) refl
    where
      flag : get_or (twin_rows sides).joined_stops n false ≡ joined_stop (nearness_of sides) a b y.stop_id
      flag = get_or-map (joined_stop (nearness_of sides) a b) (stop_ids sides.b.now) n [] false within ∙ ap (joined_stop (nearness_of sides) a b) (sym own)

      twin : get_or (twin_rows sides).stops n None ≡ twin_number kind.Stop sides y.stop_id
      twin = twin-at sides kind.Stop n within ∙ ap (twin_number kind.Stop sides) (sym own)

      told : (o : Option ℕ) → listed (option_map (λ m. paired y.stop_id (get_or (stop_ids sides.a.now) m [])) o) ≡ pairs_at sides o n
      told None = refl
      told (Some m) = λ i. (own i, get_or (stop_ids sides.a.now) m []) ∷ []

      by : (j : Bool) → joined_stop (nearness_of sides) a b y.stop_id ≡ j → listed (near_pair (nearness_of sides) a b y) ≡ pairs_at sides (near_at (twin_rows sides) n) n
      by true e =
          ap (λ j. listed (if j then None else option_map (paired y.stop_id) (near_stop_under (nearness_of sides) (stop_b (nearness_of sides) a b) a b y.stop_id))) e
          ∙ sym (ap (λ j. pairs_at sides (if j then None else get_or (twin_rows sides).stops n None) n) (flag ∙ e))
      by false e =
          let has_a : (z : List ℕ) → near_stop_under (nearness_of sides) (stop_b (nearness_of sides) a b) a b y.stop_id ≡ Some z → lists_id (stop_ids sides.a.now) z ≡ true = λ z f. subst (λ xs. lists_id xs z ≡ true) (ids-known kind.Stop sides.a.now sound_a) (near-there (nearness_of sides) (stop_b (nearness_of sides) a b) a b y.stop_id z f) in
          ap (λ j. listed (if j then None else option_map (paired y.stop_id) (near_stop_under (nearness_of sides) (stop_b (nearness_of sides) a b) a b y.stop_id))) e
          ∙ ap listed (by-own-number (stop_ids sides.a.now) y.stop_id (near_stop_under (nearness_of sides) (stop_b (nearness_of sides) a b) a b y.stop_id) has_a ∙ ap (option_map (λ m. paired y.stop_id (get_or (stop_ids sides.a.now) m []))) (sym (unjoined-twin y.stop_id has e)))
          ∙ told (twin_number kind.Stop sides y.stop_id)
          ∙ sym (ap (λ j. pairs_at sides (if j then None else get_or (twin_rows sides).stops n None) n) (flag ∙ e) ∙ ap (λ o. pairs_at sides o n) twin)

  -- ---- the loop

  long : length b.stops ≡ length (stop_ids sides.b.now)
  long = sym (length-map b.stops (λ s. s.stop_id)) ∙ ap length (ids-known kind.Stop sides.b.now sound_b)

  abbrev pair_of : Stop → Option (List ℕ × List ℕ)
  pair_of = near_pair (nearness_of sides) a b

  pub pairs-more : (n : ℕ) → n < length (stop_ids sides.b.now) → (before after : List (List ℕ × List ℕ)) → before ≡ filter_map pair_of (take n b.stops) → after ≡ before ++ pairs_at sides (near_at (twin_rows sides) n) n
      → after ≡ filter_map pair_of (take (n + 1) b.stops)
  pairs-more n within before after so_far added =
      let inside : n < length b.stops = omega (arith, long) in
      let y = get_or b.stops n (some_of b.stops n inside) in
      let at : slice_get b.stops n ≡ Some y = slice_get-get_or b.stops n (some_of b.stops n inside) inside in
      let own : y.stop_id ≡ get_or (stop_ids sides.b.now) n [] = sym (id-at (λ s. s.stop_id) b.stops n y at) ∙ ap (λ xs. get_or xs n []) (ids-known kind.Stop sides.b.now sound_b) in
      let has : lists_id (ids kind.Stop b) y.stop_id ≡ true = ap (λ t. lists_id (ids kind.Stop b) t) own ∙ ap (λ xs. lists_id xs (get_or (stop_ids sides.b.now) n [])) (ids-known kind.Stop sides.b.now sound_b) ∙ has-at (stop_ids sides.b.now) n within in
      added ∙ (λ i. so_far i ++ sym (pair-is n within y own has) i)
      ∙ ap (λ l. filter_map pair_of (take n b.stops) ++ l) (sym (filtered-one pair_of y (pair_of y) refl))
      ∙ sym (filter_map-append pair_of (take n b.stops) (y ∷ [])) ∙ ap (filter_map pair_of) (sym (ap (λ m. take m b.stops) (add-one n) ∙ take-suc b.stops n (some_of b.stops n inside) inside))

  pub all-pairs : (n : ℕ) → length (stop_ids sides.b.now) ≤ n → (pairs : List (List ℕ × List ℕ)) → pairs ≡ filter_map pair_of (take n b.stops) → pairs ≡ near_pairs (nearness_of sides) a b
  all-pairs n past pairs so_far = so_far ∙ ap (filter_map pair_of) (take_all n b.stops (omega (arith, past, long)))
