-- A route stands behind one with its names exactly where it is named as another one.
use Rattle.std.proofs.Common.{◌≡◌, ◌≢◌, ◌∙◌, ◌<◌, ℕ, suc, Bool, true, false, cond, List, [], ◌∷◌, Option, Some, None, Bor, length, map, get_or, refl, sym, ap, subst, arith}
use Rattle.std.specs.Prelude.{◌==◌, ◌&&◌, ◌||◌, All, AllPairs, bytes_eq, nat_eq, nat_lt, option_map}
use Rattle.std.specs.Cmp.{tied_then}
use Rattle.std.specs.List.{list_any, range_with_len, slice_get}
use Rattle.std.specs.List.Sorted.{IsPermutation, IsSorted}
use Rattle.std.specs.Option.{option_cmp, option_eq}
use Rattle.std.specs.Ordering.{is_eq, is_lt, nat_cmp, ordering_then}
use Rattle.std.specs.declared.cmp.Ordering.TheVariants.{Less}
use Rattle.std.proofs.lemmas.Bool.{ltb-true}
use Rattle.std.proofs.lemmas.Bool.Decides.{nat_tests}
use Rattle.std.proofs.lemmas.List.{get_or-map, get_or_default, length-map}
use Rattle.std.proofs.lemmas.List.FromFn.{get_or-range_with_len, length-range_with_len}
use Rattle.std.proofs.lemmas.List.Sorted.{All-permutation, length_permutation, list_any-IsPermutation}
use Rattle.std.proofs.lemmas.Map.Text.{is_eq-slice_cmp}
use Rattle.std.proofs.lemmas.Option.{get_or_from_slice_get, slice_get-get_or, slice_get_within}
use Rattle.gtfs_field.specs.TextOrder.{text_cmp}
use Rattle.gtfs_field.proofs.ListFacts.{any_alike, any_mapped, mapped_at, some_of}
use Rattle.gtfs_rows.specs.declared.parts.Parts.{Parts}
use Rattle.gtfs_rows.specs.declared.route.Route.{Route}
use Rattle.gtfs_rows.specs.NamedRows.{text_of_number}
use Rattle.gtfs_rows.specs.TransferOrder.{Ascends}
use Rattle.gtfs_rows.specs.RowsInMemory.{IsSoundParts, agency_ids, content_of_parts, route_ids, route_of}
use Rattle.gtfs_rows.proofs.RowTexts.{all_at}
use Rattle.gtfs_rows.proofs.SameElements.{pairs-map}
use Rattle.gtfs_rows.proofs.SoundOrder.{in_order}
use Rattle.gtfs_advice.specs.declared.named_routes.NamedRoute.{NamedRoute}
use Rattle.gtfs_advice.specs.NumberMarks.{AreMarks}
use Rattle.gtfs_advice.specs.NamedRoutes.{AreNamed, IsNamed, listed_cmp, name_cmp, neighbours, repeated}
use Rattle.gtfs_advice.specs.Routes.{has_names_of, is_named_as_another, same_text}
use Rattle.gtfs_advice.proofs.NamedRoutes.{names_total}
use Rattle.gtfs_advice.proofs.Numbers.{lower_number, same_number}
use Rattle.gtfs_advice.proofs.Repeats as repeats
use Rattle.gtfs_advice.proofs.Repeats.{distinct_numbers, is_repeated_of, moved_to}

-- ---- lists

pub any-paired : {X Y : Type 0} (p : X → Bool) (q : Y → Bool) (xs : List X) (ys : List Y) → length xs ≡ length ys
    → ((k : ℕ) (x : X) (y : Y) → slice_get xs k ≡ Some x → slice_get ys k ≡ Some y → p x ≡ q y) → list_any p xs ≡ list_any q ys
any-paired p q [] [] e same = refl
any-paired p q [] (y ∷ ys) e same = absurd (omega arith)
any-paired p q (x ∷ xs) [] e same = absurd (omega arith)
any-paired p q (x ∷ xs) (y ∷ ys) e same =
    let here = same 0 x y refl refl in
    let later = any-paired p q xs ys (omega arith) (λ k a b f g. same (suc k) a b f g) in
    λ i. here i || later i

one-list : {X : Type 0} (xs ys : List X) → length xs ≡ length ys → ((k : ℕ) (d : X) → k < length xs → get_or xs k d ≡ get_or ys k d) → xs ≡ ys
one-list [] [] e same = refl
one-list [] (y ∷ ys) e same = absurd (omega arith)
one-list (x ∷ xs) [] e same = absurd (omega arith)
one-list (x ∷ xs) (y ∷ ys) e same = λ i. same 0 x (omega arith) i ∷ one-list xs ys (omega arith) (λ k d h. same (suc k) d (omega arith)) i

-- ---- tests

same-nat : (a b : ℕ) → is_eq (nat_cmp a b) ≡ (a == b)
same-nat a b = grind (arith, nat_tests)

same-name : (o u : Option (Bor (List ℕ))) → is_eq (option_cmp (λ a b. text_cmp a.now b.now) o u) ≡ same_text (option_map (λ t. t.now) o) (option_map (λ t. t.now) u)
same-name None None = refl
same-name None (Some b) = refl
same-name (Some a) None = refl
same-name (Some a) (Some b) = is_eq-slice_cmp a.now b.now

pub number-if : (b : Bool) (m n : ℕ) → option_eq nat_eq (cond b (Some m) None) (Some n) ≡ (b && (m == n))
number-if true m n = refl
number-if false m n = refl

five : (a b c d e : Bool) → ((((b && c) && d) && e) && a) ≡ ((((a && b) && c) && d) && e)
five true true true true true = refl
five true true true true false = refl
five true true true false e = refl
five true true false d e = refl
five true false c d e = refl
five false true true true true = refl
five false true true true false = refl
five false true true false e = refl
five false true false d e = refl
five false false c d e = refl

module _ (p : Parts) (sound : IsSoundParts p) where
  agencies-ascend : Ascends text_cmp (agency_ids p)
  agencies-ascend = pairs-map (λ a. a.agency_id) (λ a b. text_cmp a b ≡ Less) p.agencies (in_order p sound).agencies

  routes-ascend : Ascends text_cmp (route_ids p)
  routes-ascend = pairs-map (λ r. r.route_id) (λ a b. text_cmp a b ≡ Less) p.routes (in_order p sound).routes

  agency-known : (n : ℕ) (r : Route) → slice_get p.routes n ≡ Some r → r.agency_id.0 < length (agency_ids p)
  agency-known n r at =
      let is = ap (λ x. nat_lt x.agency_id.0 (length p.agencies)) (sym (get_or_from_slice_get p.routes n r r at)) ∙ all_at (λ x. nat_lt x.agency_id.0 (length p.agencies)) p.routes n r sound.names_rows.routes (slice_get_within p.routes n r at) in
      omega (arith, length-map p.agencies (λ a. a.agency_id), ltb-true r.agency_id.0 (length p.agencies) is)

  id-at : (n : ℕ) (r : Route) → slice_get p.routes n ≡ Some r → text_of_number (route_ids p) n ≡ r.route_id
  id-at n r at = get_or_from_slice_get (route_ids p) n r.route_id _ (mapped_at (λ x. x.route_id) p.routes n r at)

  -- what two routes with numbers say is what their rows say
  names : (m n : ℕ) (s r : Route) (y x : NamedRoute) → slice_get p.routes m ≡ Some s → slice_get p.routes n ≡ Some r → IsNamed m s y → IsNamed n r x
      → is_repeated_of name_cmp names_total (λ z. z.number) x y ≡ has_names_of (route_of p r) (route_of p s)
  names m n s r y x at_s at_r is_y is_x =
      let count = length-map p.routes (λ z. z.route_id) in
      let earlier : nat_lt y.number x.number ≡ is_lt (text_cmp s.route_id r.route_id) =
      (λ i. nat_lt (is_y.number i) (is_x.number i))
      ∙ lower_number (route_ids p) m n routes-ascend (omega (arith, count, slice_get_within p.routes m s at_s)) (omega (arith, count, slice_get_within p.routes n r at_r))
      ∙ (λ i. is_lt (text_cmp (id-at m s at_s i) (id-at n r at_r i))) in
      let agency : is_eq (nat_cmp y.agency.0 x.agency.0) ≡ bytes_eq (text_of_number (agency_ids p) s.agency_id.0) (text_of_number (agency_ids p) r.agency_id.0) =
      same-nat y.agency.0 x.agency.0 ∙ (λ i. (is_y.agency i).0 == (is_x.agency i).0)
      ∙ same_number (agency_ids p) s.agency_id.0 r.agency_id.0 agencies-ascend (agency-known m s at_s) (agency-known n r at_r) in
      let kind : is_eq (nat_cmp y.route_type x.route_type) ≡ (s.route_type == r.route_type) = same-nat y.route_type x.route_type ∙ (λ i. is_y.route_type i == is_x.route_type i) in
      let short = same-name y.short_name x.short_name ∙ (λ i. same_text (is_y.short_name i) (is_x.short_name i)) in
      let long = same-name y.long_name x.long_name ∙ (λ i. same_text (is_y.long_name i) (is_x.long_name i)) in
      let a = nat_cmp y.agency.0 x.agency.0 in
      let b = nat_cmp y.route_type x.route_type in
      let c = option_cmp (λ (u : Bor (List ℕ)) (v : Bor (List ℕ)). text_cmp u.now v.now) y.short_name x.short_name in
      let d = option_cmp (λ (u : Bor (List ℕ)) (v : Bor (List ℕ)). text_cmp u.now v.now) y.long_name x.long_name in
      let split : is_eq (name_cmp y x) ≡ (((is_eq a && is_eq b) && is_eq c) && is_eq d) =
      sym (ap (λ t. ((t && is_eq c) && is_eq d)) (tied_then a b) ∙ ap (λ t. t && is_eq d) (tied_then (ordering_then a b) c) ∙ tied_then (ordering_then (ordering_then a b) c) d) in
      ap (λ t. t && nat_lt y.number x.number) split ∙ (λ i. (((agency i && kind i) && short i) && long i) && earlier i)
      ∙ five (is_lt (text_cmp s.route_id r.route_id)) (bytes_eq (text_of_number (agency_ids p) s.agency_id.0) (text_of_number (agency_ids p) r.agency_id.0)) (s.route_type == r.route_type)
      (same_text s.route_short_name r.route_short_name) (same_text s.route_long_name r.route_long_name)

  module _ (xs ys : List NamedRoute) (are : AreNamed p.routes xs) (moved : IsPermutation xs ys) where
    counted : length xs ≡ length ys
    counted = sym (length_permutation xs ys moved)

    number-at : (k : ℕ) (e : NamedRoute) → k < length xs → (get_or xs k e).number ≡ k
    number-at k e h =
        let inside : k < length p.routes = omega (arith, h, are.count) in
        (are.each k (some_of p.routes k inside) e inside).number

    pub within : All (λ x. x.number < length ys) ys
    within = All-permutation (λ x. x.number < length ys) xs ys moved (λ k e h. omega (arith, number-at k e h, h, counted))

    numbers : map (λ x. x.number) xs ≡ range_with_len 0 (length xs)
    numbers =
        one-list (map (λ x. x.number) xs) (range_with_len 0 (length xs)) (length-map xs (λ x. x.number) ∙ sym (length-range_with_len 0 (length xs))) (λ k d h.
        let inside : k < length xs = omega (arith, h, length-map xs (λ x. x.number)) in
        let e = some_of xs k inside in
        get_or-map (λ x. x.number) xs k e d inside ∙ number-at k e inside ∙ sym (get_or-range_with_len 0 (length xs) k d inside ∙ omega arith))

    module _ (up : IsSorted listed_cmp ys) where
      distinct : AllPairs (λ x y. x.number ≢ y.number) ys
      distinct = distinct_numbers (λ x. x.number) xs ys (length xs) numbers moved

      -- the route of a number, and its names
      module _ (n : ℕ) (r : Route) (x : NamedRoute) (at_r : slice_get p.routes n ≡ Some r) (at_x : slice_get xs n ≡ Some x) (is_x : IsNamed n r x) where
        paired : list_any (λ y. is_repeated_of name_cmp names_total (λ z. z.number) x y) xs ≡ list_any (λ s. has_names_of (route_of p r) (route_of p s)) p.routes
        paired = any-paired (λ y. is_repeated_of name_cmp names_total (λ z. z.number) x y) (λ s. has_names_of (route_of p r) (route_of p s)) xs p.routes are.count (λ m y s at_y at_s.
            let is_y = are.each m s y (slice_get_within p.routes m s at_s) in
            names m n s r y x at_s at_r (subst (λ z. IsNamed m s z) (get_or_from_slice_get xs m y y at_y) (subst (λ z. IsNamed m z (get_or xs m y)) (get_or_from_slice_get p.routes m s s at_s) is_y)) is_x)

        stands : list_any (λ w. option_eq nat_eq (repeated w) (Some n)) (neighbours ys) ≡ is_named_as_another (content_of_parts p) (route_of p r)
        stands =
            let place = moved_to xs ys n x moved at_x in
            any_alike (λ w. option_eq nat_eq (repeated w) (Some n)) (λ w. is_eq (name_cmp w.0 w.1) && (w.1.number == x.number)) (neighbours ys)
            (λ w. number-if (is_eq (name_cmp w.0 w.1)) w.1.number n ∙ ap (λ k. is_eq (name_cmp w.0 w.1) && (w.1.number == k)) (sym is_x.number))
            ∙ repeats.repeated name_cmp names_total (λ z. z.number) ys up distinct place.0 x place.1 place.2 (λ z. true)
            ∙ sym (list_any-IsPermutation (λ y. is_repeated_of name_cmp names_total (λ z. z.number) x y) xs ys moved) ∙ paired ∙ sym (any_mapped (has_names_of (route_of p r)) (route_of p) p.routes)

      pub marks-are : (marks : List Bool) → AreMarks (length ys) (λ k. list_any (λ w. option_eq nat_eq (repeated w) (Some k)) (neighbours ys)) marks
          → marks ≡ map (is_named_as_another (content_of_parts p)) (content_of_parts p).routes
      marks-are marks marked =
          let c = content_of_parts p in
          let all = map (is_named_as_another c) c.routes in
          let size : length all ≡ length p.routes = length-map c.routes (is_named_as_another c) ∙ length-map p.routes (route_of p) in
          one-list marks all (marked.count ∙ sym counted ∙ are.count ∙ sym size) (λ k d h.
          let inside : k < length xs = omega (arith, h, marked.count, counted) in
          let known : k < length p.routes = omega (arith, inside, are.count) in
          let e = some_of xs k inside in
          let f = some_of p.routes k known in
          let r = get_or p.routes k f in
          get_or_default marks k d false h ∙ marked.at k (omega (arith, inside, counted))
          ∙ stands k r (get_or xs k e) (slice_get-get_or p.routes k f known) (slice_get-get_or xs k e inside) (are.each k f e known)
          ∙ sym (get_or-map (is_named_as_another c) c.routes k (route_of p f) d (omega (arith, known, length-map p.routes (route_of p))) ∙ ap (is_named_as_another c) (get_or-map (route_of p) p.routes k f (route_of p f) known)))
