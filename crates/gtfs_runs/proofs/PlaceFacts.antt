-- Whether a stop is at the place of another, by the numbers of both.
use Rattle.std.proofs.Common.{◌≡◌, ◌<◌, ◌+◌, ◌++◌, add-one, take, ◌∙◌, ℕ, zero, suc, Bool, true, false, List, [], ◌∷◌, length, map, get_or, Option, Some, None, refl, sym, ap, subst, arith, inl, inr, ◌||◌, ◌&&◌}
use Rattle.std.specs.Prelude.{◌==◌, nat_lt, bytes_eq, option_map, IfSome}
use Rattle.std.specs.List.{All, list_any, slice_get}
use Rattle.std.specs.Ordering.{on}
use Rattle.std.specs.declared.cmp.Ordering.TheVariants.{Less}
use Rattle.std.proofs.lemmas.Bool.{cases_Bool, ltb-true, ne_eqb as unequal}
use Rattle.std.proofs.lemmas.Bool.Decides.{nat_tests}
use Rattle.std.proofs.Math.Seq.{take-suc}
use Rattle.std.proofs.lemmas.List.{get_or-map, map-append}
use Rattle.std.proofs.lemmas.List.Elements.{All-head, All-tail}
use Rattle.std.proofs.lemmas.Option.{get_or_from_slice_get, slice_get_within}
use Rattle.std.proofs.Math.Bool.{and_assoc as and_group, or-false as or_none}
use Rattle.gtfs_field.proofs.NumberFacts.{neither_less, number_itself as equal_itself}
use Rattle.gtfs_field.proofs.ListFacts.{any_mapped as any-map}
use Rattle.gtfs_field.specs.TextOrder.{text_cmp}
use Rattle.gtfs_schema.specs.FieldValues.{if_there}
use Rattle.gtfs_schema.proofs.SiteFacts.{text_itself}
use Rattle.gtfs_stop_times.specs.declared.numbers.StopNo.{StopNo}
use Rattle.gtfs_rows.specs.declared.parts.Parts.{Parts}
use Rattle.gtfs_rows.specs.declared.stop.Stop.{Stop}
use Rattle.gtfs_rows.specs.RowChoices.{location_code}
use Rattle.gtfs_rows.specs.TransferOrder.{Ascends}
use Rattle.gtfs_rows.specs.RowsInMemory.{IsSoundParts, content_of_parts, stop_ids, stop_of, text_of_number}
use Rattle.gtfs_rows.proofs.Held.{apart, apart_turned}
use Rattle.gtfs_rows.proofs.SameElements.{pairs-head, pairs-tail}
use Rattle.gtfs_rows.proofs.NumberFacts.{stop_parent}
use Rattle.gtfs_rows.proofs.SoundOrder.{in_order}
use Rattle.gtfs_rows.specs.Places.{is_in_place, is_plain_stop}

regroup : {X : Type 0} (a b c : X → Bool) (xs : List X) → list_any (λ x. a x && b x && c x) xs ≡ list_any (λ x. a x && (b x && c x)) xs
regroup a b c [] = refl
regroup a b c (x ∷ xs) = λ i. and_group (a x) (b x) (c x) i || regroup a b c xs i

not_equal : (i j : ℕ) → i < j → (i == j) ≡ false
not_equal i j h = grind (arith, nat_tests)

not_equal_turned : (i j : ℕ) → j < i → (i == j) ≡ false
not_equal_turned i j h = grind (arith, nat_tests)

-- rows that ascend by their ids
module _ {X : Type 0} (id : X → List ℕ) where
  none_has : (q : X → Bool) (x : X) (xs : List X) → All (λ y. text_cmp (id x) (id y) ≡ Less) xs → list_any (λ y. bytes_eq (id y) (id x) && q y) xs ≡ false
  none_has q x [] above = refl
  none_has q x (y ∷ ys) above =
      let other = apart_turned (id x) (id y) (All-head (λ z. text_cmp (id x) (id z) ≡ Less) y ys above) in
      rw other (none_has q x ys (All-tail (λ z. text_cmp (id x) (id z) ≡ Less) y ys above))

  -- a row with the id of a row is that row
  pub one_has : (q : X → Bool) (xs : List X) (k : ℕ) (x : X) → Ascends (on id text_cmp) xs → slice_get xs k ≡ Some x → list_any (λ y. bytes_eq (id y) (id x) && q y) xs ≡ q x
  one_has q [] k x up at = cc
  one_has q (y ∷ ys) zero x up at =
      let same : y ≡ x = get_or_from_slice_get (y ∷ ys) 0 x x at in
      let here : (bytes_eq (id y) (id x) && q y) ≡ q x = ap (λ z. bytes_eq (id z) (id x) && q z) same ∙ ap (λ b. b && q x) (text_itself (id x)) in
      let above = subst (λ z. All (λ w. text_cmp (id z) (id w) ≡ Less) ys) same (pairs-head (λ a b. text_cmp (id a) (id b) ≡ Less) y ys up) in
      rw (here, none_has q x ys above) (or_none (q x))
  one_has q (y ∷ ys) (suc k) x up at =
      let less = pairs-head (λ a b. text_cmp (id a) (id b) ≡ Less) y ys up k x (slice_get_within ys k x at) in
      let later : text_cmp (id y) (id x) ≡ Less = ap (λ z. text_cmp (id y) (id z)) (sym (get_or_from_slice_get ys k x x at)) ∙ less in
      rw (apart (id y) (id x) later) (one_has q ys k x (pairs-tail (λ a b. text_cmp (id a) (id b) ≡ Less) y ys up) at)

  -- ids are the same where their numbers are
  pub same_number : (xs : List X) (i j : ℕ) (d : X) → Ascends (on id text_cmp) xs → i < length xs → j < length xs → bytes_eq (id (get_or xs i d)) (id (get_or xs j d)) ≡ (i == j)
  same_number xs i j d up a b = elim (cases_Bool (nat_lt i j)) [
    | inl below ↦ apart (id (get_or xs i d)) (id (get_or xs j d)) (up i j d (ltb-true i j below) b) ∙ sym (not_equal i j (ltb-true i j below))
    | inr not_below ↦ elim (cases_Bool (nat_lt j i)) [
      | inl above ↦ apart_turned (id (get_or xs j d)) (id (get_or xs i d)) (up j i d (ltb-true j i above) a) ∙ sym (not_equal_turned i j (ltb-true j i above))
      | inr not_above ↦
          let same : i ≡ j = neither_less i j not_below not_above in
          rw same (text_itself (id (get_or xs j d)) ∙ sym (equal_itself j))
    ]
  ]

-- the id of a number
pub id_at : (p : Parts) (d : Stop) (n : ℕ) → n < length p.stops → text_of_number (stop_ids p) n ≡ (get_or p.stops n d).stop_id
id_at p d n within = get_or-map (λ s. s.stop_id) p.stops n d [] within

module _ (p : Parts) (sound : IsSoundParts p) (d : Stop) where
  pub same_stop : (m n : ℕ) → m < length p.stops → n < length p.stops → bytes_eq (text_of_number (stop_ids p) m) (text_of_number (stop_ids p) n) ≡ (m == n)
  same_stop m n a b = (λ i. bytes_eq (id_at p d m a i) (id_at p d n b i)) ∙ same_number (λ s. s.stop_id) p.stops m n d (in_order p sound).stops a b

  same_parent : (s : ℕ) (o : Option StopNo) → s < length p.stops → IfSome (option_map (λ n. n.0) o) (λ n. n < length p.stops)
      → if_there (option_map (λ n. text_of_number (stop_ids p) n.0) o) (bytes_eq (text_of_number (stop_ids p) s)) ≡ if_there (option_map (λ n. n.0) o) (λ n. s == n)
  same_parent s None within named = refl
  same_parent s (Some n) within named = same_stop s n.0 within named

  pub place_at : (s x : ℕ) (row : Stop) → s < length p.stops → slice_get p.stops x ≡ Some row
      → is_in_place (content_of_parts p) (text_of_number (stop_ids p) s) (text_of_number (stop_ids p) x)
      ≡ ((x == s) || ((location_code row.location_type == 0) && if_there (option_map (λ n. n.0) row.parent_station) (λ n. s == n)))
  place_at s x row within at =
      let c = content_of_parts p in
      let there = slice_get_within p.stops x row at in
      let id = text_of_number (stop_ids p) s in
      let own : text_of_number (stop_ids p) x ≡ row.stop_id = id_at p d x there ∙ ap (λ r. r.stop_id) (get_or_from_slice_get p.stops x row d at) in
      let q : Stop → Bool = λ r. is_plain_stop (stop_of p r) && if_there (option_map (λ n. text_of_number (stop_ids p) n.0) r.parent_station) (bytes_eq id) in
      let others : list_any (λ stop. bytes_eq stop.stop_id (text_of_number (stop_ids p) x) && is_plain_stop stop && if_there stop.parent_station (bytes_eq id)) c.stops ≡ q row =
      any-map (λ stop. bytes_eq stop.stop_id (text_of_number (stop_ids p) x) && is_plain_stop stop && if_there stop.parent_station (bytes_eq id)) (stop_of p) p.stops
      ∙ regroup (λ r. bytes_eq r.stop_id (text_of_number (stop_ids p) x)) (λ r. is_plain_stop (stop_of p r)) (λ r. if_there (option_map (λ n. text_of_number (stop_ids p) n.0) r.parent_station) (bytes_eq id)) p.stops
      ∙ ap (λ t. list_any (λ r. bytes_eq r.stop_id t && q r) p.stops) own
      ∙ one_has (λ r. r.stop_id) q p.stops x row (in_order p sound).stops at in
      let parent = same_parent s row.parent_station within (stop_parent p sound x row at) in
      let plain : is_plain_stop (stop_of p row) ≡ (location_code row.location_type == 0) = refl in
      (λ i. same_stop x s there within i || (others ∙ ap (λ b. is_plain_stop (stop_of p row) && b) parent) i)
      ∙ ap (λ b. (x == s) || (b && if_there (option_map (λ n. n.0) row.parent_station) (λ n. s == n))) plain

-- ---- the steps of the code

pub itself : (x s : ℕ) (r q : Bool) → q ≡ ((x == s) || r) → x ≡ s → (x == s) ≡ q
itself x s r q is same = let e : (x == s) ≡ true = ap (λ n. n == s) same ∙ equal_itself s in rw (is, e) refl

pub by_parent : (x s n code : ℕ) (r q : Bool) → q ≡ ((x == s) || ((code == 0) && r)) → (x ≡ s → ⊥) → n ≡ code → n ≡ 0 → r ≡ q
by_parent x s n code r q is other type plain =
    let e : (code == 0) ≡ true = ap (λ m. m == 0) (sym type ∙ plain) in
    rw (is, unequal x s other, e) refl

pub neither : (x s n code : ℕ) (r q : Bool) → q ≡ ((x == s) || ((code == 0) && r)) → (x ≡ s → ⊥) → n ≡ code → (n ≡ 0 → ⊥) → (n == 0) ≡ q
neither x s n code r q is other type never =
    let e : (code == 0) ≡ false = unequal code 0 (λ plain. never (type ∙ plain)) in
    let f : (n == 0) ≡ false = unequal n 0 never in
    rw (is, unequal x s other, e, f) refl

pub one_more : {X Y : Type 0} (f : X → Y) (xs : List X) (d : X) (n : ℕ) (old new : List Y) (r : Y) → n < length xs
    → old ≡ map f (take n xs) → new ≡ old ++ r ∷ [] → r ≡ f (get_or xs n d) → new ≡ map f (take (n + 1) xs)
one_more f xs d n old new r within so_far pushed is =
    rw (add-one, take-suc xs n d within, map-append f (take n xs) (get_or xs n d ∷ [])) (pushed ∙ (λ i. so_far i ++ is i ∷ []))
