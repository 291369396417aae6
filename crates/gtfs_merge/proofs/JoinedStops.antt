-- Stops that are joined and stops that are near, by their numbers.
use Rattle.std.proofs.Common.{◌≡◌, ◌<◌, ◌+◌, ◌^◌, ℕ, suc, Bool, true, false, cond, List, [], ◌∷◌, Some, None, Option, refl, sym, ap, ◌∙◌, subst, inl, inr, length, map, get_or, bytes_eq, nat_eq, eqb-true, true≢false, find, option_map, option_and_then, unwrap_or, is_some, arith}
use Rattle.std.specs.Prelude.{◌&&◌, if◌then◌else◌, IfSome}
use Rattle.std.specs.List.{slice_get, position, position_or_len}
use Rattle.std.specs.Option.{option_eq}
use Rattle.std.specs.Ordering.{on}
use Rattle.std.proofs.lemmas.Bool.{cases_Bool}
use Rattle.std.proofs.lemmas.List.{get_or-map}
use Rattle.std.proofs.lemmas.List.Quantifiers.{position-Some}
use Rattle.std.proofs.lemmas.Option.{slice_get-get_or}
use Rattle.gtfs_field.proofs.ListFacts.{mapped_at as row-map, position_any as before-any}
use Rattle.gtfs_field.specs.TextOrder.{text_cmp}
use Rattle.gtfs_schema.proofs.SiteFacts.{text_is as same_bytes}
use Rattle.gtfs_schema.proofs.NamedFacts.{text_turned as bytes_flip}
use Rattle.gtfs_schema.proofs.BoolFacts.{same_test as same_tests}
use Rattle.gtfs_rows.specs.Content.{Content}
use Rattle.gtfs_rows.specs.TransferOrder.{Ascends}
use Rattle.gtfs_rows.specs.Rows.{Stop}
use Rattle.gtfs_rows.specs.RowsInMemory.{IsSoundParts, content_of_parts, stop_of, stop_ids, text_of_number}
use Rattle.gtfs_stop_times.specs.declared.numbers.StopNo.{StopNo}
use Rattle.gtfs_rows.specs.declared.parts.Parts.{Parts}
use Rattle.gtfs_rows.specs.declared.stop.Stop.{Stop as StopByNumber}
use Rattle.gtfs_rows.proofs.SoundOrder.{in_order}
use Rattle.gtfs_rows.proofs.NumberFacts.{own_number, stop_parent}
use Rattle.gtfs_merge.specs.JoinedNumbers.{number_if}
use Rattle.gtfs_nearby.specs.NearRows.{is_same_parent}
use Rattle.gtfs_merge.specs.Twins.{became, parent_became}
use Rattle.gtfs_merge.specs.SameByNumber.{same_parent_in, same_stop_in}
use Rattle.gtfs_merge.specs.SameRows.{same_stop, same_text}
use Rattle.gtfs_merge.specs.MergedDepartures.{AreFew}
use Rattle.gtfs_merge.specs.Renaming.{Nearness, Renaming, ids, lists_id, renamed_b, never_near, near_stop_under, joined_stop_under, stop_under, stop_with, stop_within}
use Rattle.gtfs_merge.specs.MergedSides.{nearness_of}
use Rattle.gtfs_merge.specs.declared.kind.Kind.TheVariants as kind
use Rattle.gtfs_merge.specs.declared.sides.Sides.{Sides}
use Rattle.gtfs_merge.proofs.Fresh.{joined_stays, renamed_into_a}
use Rattle.gtfs_merge.proofs.JoinedIds.{has-number, under-has}
use Rattle.gtfs_merge.proofs.JoinedKinds.{id-at, ids-known}
use Rattle.gtfs_merge.proofs.JoinedRows.{number-same}

-- ---- numbers of texts

-- a text that is not there has no number
pub no-index : (xs : List (List ℕ)) (q : List ℕ) → lists_id xs q ≡ false → position (bytes_eq q) xs ≡ None
no-index xs q e = ap (λ b. cond b (Some (position_or_len (bytes_eq q) xs)) None) (before-any (bytes_eq q) xs ∙ e)

-- a text has the number under which it stands first
pub own_text : {X : Type 0} (id : X → List ℕ) (rows : List X) (m : ℕ) → Ascends (on id text_cmp) rows → m < length rows → position (bytes_eq (get_or (map id rows) m [])) (map id rows) ≡ Some m
own_text id [] m up within = absurd (omega arith)
own_text id (r ∷ rs) m up within =
    let row = get_or (r ∷ rs) m r in
    ap (λ t. position (bytes_eq t) (map id (r ∷ rs))) (get_or-map id (r ∷ rs) m r [] within)
    ∙ own_number id (r ∷ rs) m row up (slice_get-get_or (r ∷ rs) m r within)

-- the text of a number is another text exactly where that is its number
pub by-number : {X : Type 0} (id : X → List ℕ) (rows : List X) → Ascends (on id text_cmp) rows → (m : ℕ) → m < length rows → (t : List ℕ)
    → bytes_eq (get_or (map id rows) m []) t ≡ option_eq nat_eq (Some m) (position (bytes_eq t) (map id rows))
by-number id rows up m within t = same_tests _ _ forth (λ e. back (position (bytes_eq t) (map id rows)) refl e)
  where
    itself : (n : ℕ) → nat_eq n n ≡ true
    itself n = grind arith

    own : position (bytes_eq (get_or (map id rows) m [])) (map id rows) ≡ Some m
    own = own_text id rows m up within

    forth : bytes_eq (get_or (map id rows) m []) t ≡ true → option_eq nat_eq (Some m) (position (bytes_eq t) (map id rows)) ≡ true
    forth e =
        let is : get_or (map id rows) m [] ≡ t = same_bytes _ _ e in
        ap (option_eq nat_eq (Some m)) (sym (ap (λ q. position (bytes_eq q) (map id rows)) is) ∙ own) ∙ itself m

    back : (o : Option ℕ) → position (bytes_eq t) (map id rows) ≡ o → option_eq nat_eq (Some m) o ≡ true → bytes_eq (get_or (map id rows) m []) t ≡ true
    back None p e = absurd (true≢false (sym e))
    back (Some n) p e =
        let there = position-Some (bytes_eq t) (map id rows) n [] p in
        let is : m ≡ n = eqb-true m n e in
        bytes_flip (get_or (map id rows) m []) t ∙ ap (λ k. bytes_eq t (get_or (map id rows) k [])) is ∙ there.1

-- a new name by the rule of all kinds is an id of A exactly where the id is joined
pub renamed-number : (ids_a ids_b : List (List ℕ)) (is_joined : List ℕ → Bool) → length ids_a + length ids_b + 2 < 10 ^ 64 → (x : List ℕ)
    → became ids_a (renamed_b ids_a ids_b is_joined) x ≡ number_if (is_joined x) ids_a x
renamed-number ids_a ids_b is_joined few x = by (is_joined x) refl
  where
    by : (j : Bool) → is_joined x ≡ j → position (bytes_eq (renamed_b ids_a ids_b is_joined x)) ids_a ≡ number_if (is_joined x) ids_a x
    by true e = ap (λ q. position (bytes_eq q) ids_a) (joined_stays ids_a ids_b is_joined few x e) ∙ ap (λ j. number_if j ids_a x) (sym e)
    by false e = elim (cases_Bool (lists_id ids_a (renamed_b ids_a ids_b is_joined x))) as (λ w. position (bytes_eq (renamed_b ids_a ids_b is_joined x)) ids_a ≡ number_if (is_joined x) ids_a x) [
      | inl h ↦ absurd (true≢false (sym (renamed_into_a ids_a ids_b is_joined few x h).1 ∙ e))
      | inr n ↦ no-index ids_a (renamed_b ids_a ids_b is_joined x) n ∙ ap (λ j. number_if j ids_a x) (sym e)
    ]

-- ---- stops, of which none is near another

nobody : (xs : List Stop) → find (λ z. false) xs ≡ None
nobody [] = refl
nobody (z ∷ zs) = nobody zs

pub none-near : (rename : Renaming) (a b : Content) (x : List ℕ) → near_stop_under never_near rename a b x ≡ None
none-near rename a b x = by (find (λ y. bytes_eq y.stop_id x) b.stops)
  where
    by : (o : Option Stop) → option_and_then (λ y. option_map (λ s. s.stop_id) (find (λ z. false) a.stops)) o ≡ None
    by None = refl
    by (Some y) = ap (option_map (λ s. s.stop_id)) (nobody a.stops)

-- the number in A of what a stop of B became: that of the stop that it is joined with, else of the stop that it is near
module _ (near : Nearness) (rename : Renaming) (a b : Content) (few : AreFew kind.Stop a b) (x : List ℕ) where
  abbrev ruled : List ℕ
  ruled = renamed_b (ids kind.Stop a) (ids kind.Stop b) (joined_stop_under rename a b) x

  abbrev number_of : List ℕ → Option ℕ
  number_of z = position (bytes_eq z) (ids kind.Stop a)

  by : (j : Bool) → joined_stop_under rename a b x ≡ j → (o : Option (List ℕ)) → near_stop_under near rename a b x ≡ o
      → number_of (if joined_stop_under rename a b x then x else unwrap_or (near_stop_under near rename a b x) ruled) ≡ (if j then number_of x else option_and_then number_of o)
  by true e o f = ap (λ j. number_of (if j then x else unwrap_or (near_stop_under near rename a b x) ruled)) e
  by false e (Some z) f = λ i. number_of (if e i then x else unwrap_or (f i) ruled)
  by false e None f = (λ i. number_of (if e i then x else unwrap_or (f i) ruled))
      ∙ renamed-number (ids kind.Stop a) (ids kind.Stop b) (joined_stop_under rename a b) few x ∙ ap (λ j. if j then number_of x else None) e

  pub twin-under : became (ids kind.Stop a) (stop_under near rename a b) x ≡ (if joined_stop_under rename a b x then number_of x else option_and_then number_of (near_stop_under near rename a b x))
  twin-under = by (joined_stop_under rename a b x) refl (near_stop_under near rename a b x) refl

-- ---- one stop of B and its parent

module _ (sides : Sides) (sound_a : IsSoundParts sides.a.now) (sound_b : IsSoundParts sides.b.now) where
  abbrev a : Content
  a = content_of_parts sides.a.now

  abbrev b : Content
  b = content_of_parts sides.b.now

  pub same-parent : (rename : Renaming) (n : ℕ) (x y : StopByNumber) (parent : Option ℕ) → slice_get sides.a.now.stops n ≡ Some x → parent ≡ parent_became sides rename y
      → same_parent_in sides.a.now sides.b.now rename x y ≡ is_same_parent (option_map (λ m. m.0) x.parent_station) (option_map (λ m. m.0) y.parent_station) parent
  same-parent rename n x y parent at = by x.parent_station y.parent_station (stop_parent sides.a.now sound_a n x at)
    where
      by : (o u : Option StopNo) → IfSome (option_map (λ m. m.0) o) (λ m. m < length sides.a.now.stops) → parent ≡ option_and_then (λ m. became (stop_ids sides.a.now) rename (text_of_number (stop_ids sides.b.now) m.0)) u
          → same_text (option_map (λ m. text_of_number (stop_ids sides.a.now) m.0) o) (option_map rename (option_map (λ m. text_of_number (stop_ids sides.b.now) m.0) u)) ≡ is_same_parent (option_map (λ m. m.0) o) (option_map (λ m. m.0) u) parent
      by None None within is = refl
      by None (Some j) within is = refl
      by (Some m) None within is = refl
      by (Some m) (Some j) within is =
          by-number (λ s. s.stop_id) sides.a.now.stops (in_order sides.a.now sound_a).stops m.0 within (rename (text_of_number (stop_ids sides.b.now) j.0)) ∙ ap (option_eq nat_eq (Some m.0)) (sym is)

  -- the number of the row of A that is the same, once parents are renamed so
  stop-number-same : (rename : Renaming) (k n : ℕ) (y x : StopByNumber) (parent : Option ℕ) (alike parents : Bool) → slice_get sides.b.now.stops k ≡ Some y → parent ≡ parent_became sides rename y
      → position (bytes_eq y.stop_id) (stop_ids sides.a.now) ≡ Some n → slice_get sides.a.now.stops n ≡ Some x
      → same_stop_in sides.a.now sides.b.now rename x y ≡ (alike && same_parent_in sides.a.now sides.b.now rename x y) → is_same_parent (option_map (λ m. m.0) x.parent_station) (option_map (λ m. m.0) y.parent_station) parent ≡ parents
      → number_if (joined_stop_under rename a b y.stop_id) (stop_ids sides.a.now) y.stop_id ≡ (if alike && parents then Some n else None)
  stop-number-same rename k n y x parent alike parents at became_so numbered found alike_is parents_is =
      number-same (λ s. s.stop_id) (λ row other. same_stop row (stop_with rename other)) a.stops b.stops sound_a.content.in_order.stops sound_b.content.in_order.stops
      k (stop_of sides.b.now y) (row-map (stop_of sides.b.now) sides.b.now.stops k y at) (stop_ids sides.a.now) (ids-known kind.Stop sides.a.now sound_a) n (stop_of sides.a.now x) numbered (row-map (stop_of sides.a.now) sides.a.now.stops n x found)
      ∙ ap (λ c. if c then Some n else None) (alike_is ∙ ap (λ c. alike && c) (same-parent rename n x y parent found became_so ∙ parents_is))

  pub stop-joined : (rename : Renaming) (k n : ℕ) (y row x : StopByNumber) (parent : Option ℕ) (alike parents : Bool) → slice_get sides.b.now.stops k ≡ Some y → slice_get sides.b.now.stops k ≡ Some row
      → parent ≡ parent_became sides rename row → position (bytes_eq y.stop_id) (stop_ids sides.a.now) ≡ Some n → slice_get sides.a.now.stops n ≡ Some x
      → same_stop_in sides.a.now sides.b.now rename x y ≡ (alike && same_parent_in sides.a.now sides.b.now rename x y) → is_same_parent (option_map (λ m. m.0) x.parent_station) (option_map (λ m. m.0) y.parent_station) parent ≡ parents
      → number_if (joined_stop_under rename a b row.stop_id) (stop_ids sides.a.now) row.stop_id ≡ (if alike && parents then Some n else None)
  stop-joined rename k n y row x parent alike parents at at_row became_so numbered found alike_is parents_is =
      let e : y ≡ row = cc in
      subst (λ r. parent ≡ parent_became sides rename r → number_if (joined_stop_under rename a b r.stop_id) (stop_ids sides.a.now) r.stop_id ≡ (if alike && parents then Some n else None)) e
      (λ rel. stop-number-same rename k n y x parent alike parents at rel numbered found alike_is parents_is) became_so

  pub own-generation : (k g : ℕ) (y : StopByNumber) (o : Option ℕ) → slice_get sides.b.now.stops k ≡ Some y → g ≡ 0 → o ≡ position (bytes_eq y.stop_id) (stop_ids sides.a.now)
      → o ≡ became (stop_ids sides.a.now) (stop_within (nearness_of sides) g a b) (get_or (stop_ids sides.b.now) k [])
  own-generation k g y o at none is =
      is ∙ (λ i. position (bytes_eq (sym (id-at (λ s. s.stop_id) sides.b.now.stops k y at) i)) (stop_ids sides.a.now)) ∙ ap (λ n. became (stop_ids sides.a.now) (stop_within (nearness_of sides) n a b) (get_or (stop_ids sides.b.now) k [])) (sym none)

  -- one generation more
  pub next-generation : (k g h : ℕ) (y : StopByNumber) (o : Option ℕ) → slice_get sides.b.now.stops k ≡ Some y → g ≡ suc h
      → o ≡ became (stop_ids sides.a.now) (stop_under (nearness_of sides) (stop_within (nearness_of sides) h a b) a b) y.stop_id
      → o ≡ became (stop_ids sides.a.now) (stop_within (nearness_of sides) g a b) (get_or (stop_ids sides.b.now) k [])
  next-generation k g h y o at more is =
      is ∙ (λ i. became (stop_ids sides.a.now) (stop_within (nearness_of sides) (sym more i) a b) (sym (id-at (λ s. s.stop_id) sides.b.now.stops k y at) i))

  -- the twin of a stop: the one that it is joined with, else the one that it is near
  pub twin-is : AreFew kind.Stop a b → (rename : Renaming) (x : List ℕ)
      → became (stop_ids sides.a.now) (stop_under (nearness_of sides) rename a b) x
      ≡ (if joined_stop_under rename a b x then position (bytes_eq x) (stop_ids sides.a.now) else option_and_then (λ z. position (bytes_eq z) (stop_ids sides.a.now)) (near_stop_under (nearness_of sides) rename a b x))
  twin-is few rename x = subst (λ ids. became ids (stop_under (nearness_of sides) rename a b) x
      ≡ (if joined_stop_under rename a b x then position (bytes_eq x) ids else option_and_then (λ z. position (bytes_eq z) ids) (near_stop_under (nearness_of sides) rename a b x)))
      (ids-known kind.Stop sides.a.now sound_a) (twin-under (nearness_of sides) rename a b few x)

  twin-some : (j : Bool) (xs : List (List ℕ)) (x : List ℕ) (n : ℕ) (rest : Option ℕ) → Some n ≡ number_if j xs x → Some n ≡ (if j then position (bytes_eq x) xs else rest)
  twin-some true xs x n rest e = e
  twin-some false xs x n rest e = cc

  twin-none : (j : Bool) (xs : List (List ℕ)) (x : List ℕ) (rest : Option ℕ) → (j ≡ true → lists_id xs x ≡ true) → None ≡ number_if j xs x → rest ≡ (if j then position (bytes_eq x) xs else rest)
  twin-none true xs x rest has e = absurd (true≢false (sym (has-number xs x ∙ has refl) ∙ ap is_some (sym e)))
  twin-none false xs x rest has e = refl

  -- a joined stop has its twin, and every other one that of the stop that it is near
  pub twin-joined : AreFew kind.Stop a b → (rename : Renaming) (x : List ℕ) (n : ℕ) → Some n ≡ number_if (joined_stop_under rename a b x) (stop_ids sides.a.now) x → Some n ≡ became (stop_ids sides.a.now) (stop_under (nearness_of sides) rename a b) x
  twin-joined few rename x n e = twin-some (joined_stop_under rename a b x) (stop_ids sides.a.now) x n _ e ∙ sym (twin-is few rename x)

  pub twin-near : AreFew kind.Stop a b → (rename : Renaming) (x : List ℕ) (o : Option ℕ) → None ≡ number_if (joined_stop_under rename a b x) (stop_ids sides.a.now) x
      → o ≡ option_and_then (λ z. position (bytes_eq z) (stop_ids sides.a.now)) (near_stop_under (nearness_of sides) rename a b x) → o ≡ became (stop_ids sides.a.now) (stop_under (nearness_of sides) rename a b) x
  twin-near few rename x o e is =
      is ∙ twin-none (joined_stop_under rename a b x) (stop_ids sides.a.now) x _ (λ j. subst (λ xs. lists_id xs x ≡ true) (ids-known kind.Stop sides.a.now sound_a) (under-has rename a b x j)) e
      ∙ sym (twin-is few rename x)

pub parent-within : (q : Parts) → IsSoundParts q → (k : ℕ) (y : StopByNumber) (parent : StopNo) → slice_get q.stops k ≡ Some y → y.parent_station ≡ Some parent → parent.0 < length q.stops
parent-within q sound k y parent at is = subst (λ o. IfSome (option_map (λ s. s.0) o) (λ s. s < length q.stops)) is (stop_parent q sound k y at)
