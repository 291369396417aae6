-- Near stops are those whose places are of one group, and lie inside a square.
use Rattle.std.proofs.Common.{◌≡◌, ◌+◌, ◌-◌, ◌*◌, ◌∙◌, ℕ, Bool, true, false, List, Option, Some, None, refl, sym, ap, arith, nat_eq, nat_le, unsigned_abs, ℤ, pos, ◌+ℤ◌, ◌-ℤ◌, true≢false}
use Rattle.std.specs.Prelude.{◌&&◌, ◌==◌, is_some, option_map}
use Rattle.std.specs.Cmp.{IsTotalOrder, nat_cmp_total, on_total, then_total, tied_itself}
use Rattle.std.specs.Cmp.Lexicographic.{options_total}
use Rattle.std.specs.Option.{option_cmp, option_eq}
use Rattle.std.specs.Ordering.{nat_cmp, ordering_then}
use Rattle.std.specs.declared.cmp.Ordering.{Ordering}
use Rattle.std.specs.declared.cmp.Ordering.TheVariants.{Less, Equal, Greater}
use Rattle.std.proofs.lemmas.Bool.{and_parts, eqb-true, eq-eqb}
use Rattle.std.proofs.lemmas.Bool.Decides.{nat_tests}
use Rattle.std.proofs.lemmas.Int.{ints}
use Rattle.std.proofs.lemmas.Slice.Eq.{bytes_eq-Decides}
use Rattle.gtfs_field.proofs.OrderingFacts.{tied_first, tied_second}
use Rattle.gtfs_field.proofs.TextOrderFacts.{texts_exact, texts_total}
use Rattle.gtfs_field.specs.TextOrder.{text_cmp}
use Rattle.gtfs_rows.specs.RowChoices.{location_code}
use Rattle.gtfs_stop_times.specs.declared.numbers.StopNo.{StopNo}
use Rattle.gtfs_rows.specs.declared.stop.Stop.{Stop}
use Rattle.gtfs_nearby.specs.MapAreas.{area_around, has}
use Rattle.gtfs_nearby.specs.NearRows.{are_close, is_near_row, is_same_parent, same_given_name}
use Rattle.gtfs_nearby.specs.PlacedStops.{AreUnitsOf, IsPlacedStop, group_cmp, can_be_near}
use Rattle.gtfs_nearby.specs.declared.placed_stop.PlacedStop.{PlacedStop}

-- ---- places in order

pub group_total : IsTotalOrder group_cmp
group_total = then_total
    (then_total (on_total (λ (p : PlacedStop). p.name.now) texts_total) (on_total (λ (p : PlacedStop). p.kind) nat_cmp_total))
    (on_total (λ (p : PlacedStop). option_map (λ n. n.0) p.parent) (options_total nat_cmp_total))

-- ---- one part after the other

number-tied : (a b : ℕ) → a ≡ b → nat_cmp a b ≡ Equal
number-tied a b e = grind (arith, nat_tests)

number-is : (a b : ℕ) → nat_cmp a b ≡ Equal → a ≡ b
number-is a b e = grind (arith, nat_tests)

number-same : (o u : Option ℕ) → option_cmp nat_cmp o u ≡ Equal → option_eq nat_eq o u ≡ true
number-same None None e = refl
number-same None (Some b) e = cc
number-same (Some a) None e = cc
number-same (Some a) (Some b) e = eq-eqb a b (number-is a b e)

number-ties : (o u : Option ℕ) → option_eq nat_eq o u ≡ true → option_cmp nat_cmp o u ≡ Equal
number-ties None None e = refl
number-ties None (Some b) e = absurd (true≢false (sym e))
number-ties (Some a) None e = absurd (true≢false (sym e))
number-ties (Some a) (Some b) e = number-tied a b (eqb-true a b e)

both-so : (a b : Bool) → a ≡ true → b ≡ true → (a && b) ≡ true
both-so true b e f = f
both-so false b e f = absurd (true≢false (sym e))

then-so : (r s : Ordering) → r ≡ Equal → s ≡ Equal → ordering_then r s ≡ Equal
then-so Less s e f = cc
then-so Equal s e f = f
then-so Greater s e f = cc

same-name : (o u : Option (List ℕ)) (a b : List ℕ) → o ≡ Some a → u ≡ Some b → text_cmp b a ≡ Equal → same_given_name o u ≡ true
same-name o u a b e f tied =
    (λ i. same_given_name (e i) (f i)) ∙ (bytes_eq-Decides a b).1 (sym (texts_exact b a tied))

name-ties : (o u : Option (List ℕ)) (a b : List ℕ) → o ≡ Some a → u ≡ Some b → same_given_name o u ≡ true → text_cmp b a ≡ Equal
name-ties o u a b e f same =
    let is : a ≡ b = (bytes_eq-Decides a b).0 (sym (λ i. same_given_name (e i) (f i)) ∙ same) in
    ap (λ t. text_cmp b t) is ∙ tied_itself texts_total b

-- ---- close, in units from -180 degrees on

apart-is : (z w : ℤ) (a b : ℕ) → pos a ≡ z +ℤ pos 180000000000 → pos b ≡ w +ℤ pos 180000000000 → z -ℤ w ≡ pos a -ℤ pos b
apart-is z w a b e f = omega (arith, ints)

between : (a b r : ℕ) → nat_le (unsigned_abs (pos a -ℤ pos b)) r ≡ (nat_le (a - r) b && nat_le b (a + r))
between a b r = grind (arith, ints, nat_tests)

close-is : (n : ℕ) (o u : Option ℤ) (a b : ℕ) → AreUnitsOf o a → AreUnitsOf u b → are_close n o u ≡ (nat_le (a - n * 1000) b && nat_le b (a + n * 1000))
close-is n None u a b e f = absurd e
close-is n (Some z) None a b e f = absurd f
close-is n (Some z) (Some w) a b e f = ap (λ d. nat_le (unsigned_abs d) (n * 1000)) (apart-is z w a b e.value f.value) ∙ between a b (n * 1000)

-- ---- near stops

inside-is : (p q : PlacedStop) (r : ℕ) → nat_le (p.lat - r) q.lat && nat_le q.lat (p.lat + r) ≡ true → nat_le (p.lon - r) q.lon && nat_le q.lon (p.lon + r) ≡ true → has (area_around p r) q ≡ true
inside-is p q r e f =
    let lat = and_parts (nat_le (p.lat - r) q.lat) (nat_le q.lat (p.lat + r)) e in
    let lon = and_parts (nat_le (p.lon - r) q.lon) (nat_le q.lon (p.lon + r)) f in
    both-so _ _ (both-so _ _ (both-so _ _ lat.0 lat.1) lon.0) lon.1

record IsNear (n : ℕ) (y : Stop) (became : Option ℕ) (x : Stop) : Type 0 where
  kind : location_code y.location_type ≡ location_code x.location_type
  name : same_given_name y.stop_name x.stop_name ≡ true
  lat : are_close n y.stop_lat x.stop_lat ≡ true
  lon : are_close n y.stop_lon x.stop_lon ≡ true
  parent : is_same_parent (option_map (λ m. m.0) x.parent_station) (option_map (λ m. m.0) y.parent_station) became ≡ true

near-parts : (n : ℕ) (y : Stop) (became : Option ℕ) (x : Stop) → is_near_row n y became x ≡ true → IsNear n y became x
near-parts n y became x near =
    let a = and_parts _ (is_same_parent (option_map (λ m. m.0) x.parent_station) (option_map (λ m. m.0) y.parent_station) became) near in
    let b = and_parts _ (are_close n y.stop_lon x.stop_lon) a.0 in
    let c = and_parts _ (are_close n y.stop_lat x.stop_lat) b.0 in
    let d = and_parts (location_code y.location_type == location_code x.location_type) (same_given_name y.stop_name x.stop_name) c.0 in
    record { kind = eqb-true _ _ d.0; name = d.1; lat = c.1; lon = b.1; parent = a.1 }

near-whole : (n : ℕ) (y : Stop) (became : Option ℕ) (x : Stop) → IsNear n y became x → is_near_row n y became x ≡ true
near-whole n y became x near =
    both-so _ _ (both-so _ _ (both-so _ _ (both-so _ _ (eq-eqb _ _ near.kind) near.name) near.lat) near.lon) near.parent

-- what the parent of a stop of B became, where one without a parent needs none
pub record IsParent (y : Stop) (became parent : Option ℕ) : Type 0 where
  pub same : (o : Option ℕ) → is_same_parent o (option_map (λ m. m.0) y.parent_station) became ≡ option_eq nat_eq o parent

pub parent-there : (y : Stop) (s x : StopNo) (o u : Option StopNo) → y.parent_station ≡ Some s → o ≡ Some x → u ≡ Some x → IsParent y (option_map (λ m. m.0) o) (option_map (λ m. m.0) u)
parent-there y s x o u has e f = record {
  same = λ v. (λ i. is_same_parent v (option_map (λ m. m.0) (has i)) (option_map (λ m. m.0) (e i))) ∙ by v ∙ (λ i. option_eq nat_eq v (option_map (λ m. m.0) (sym f i)));
}
  where
    by : (v : Option ℕ) → is_same_parent v (Some s.0) (Some x.0) ≡ option_eq nat_eq v (Some x.0)
    by None = refl
    by (Some a) = refl

pub parent-none : (y : Stop) (o u : Option StopNo) → y.parent_station ≡ None → u ≡ None → IsParent y (option_map (λ m. m.0) o) (option_map (λ m. m.0) u)
parent-none y o u has f = record {
  same = λ v. (λ i. is_same_parent v (option_map (λ m. m.0) (has i)) (option_map (λ m. m.0) o)) ∙ by v ∙ (λ i. option_eq nat_eq v (option_map (λ m. m.0) (sym f i)));
}
  where
    by : (v : Option ℕ) → is_same_parent v None (option_map (λ m. m.0) o) ≡ option_eq nat_eq v None
    by None = refl
    by (Some a) = refl

module _ (n : ℕ) (y : Stop) (became parent : Option ℕ) (parents : IsParent y became parent) (p : PlacedStop) (of_y : IsPlacedStop y parent p) (x : Stop) (q : PlacedStop)
    (of_x : IsPlacedStop x (option_map (λ m. m.0) x.parent_station) q) where
  same-parents : is_same_parent (option_map (λ m. m.0) x.parent_station) (option_map (λ m. m.0) y.parent_station) became ≡ option_eq nat_eq (option_map (λ m. m.0) q.parent) (option_map (λ m. m.0) p.parent)
  same-parents = parents.same (option_map (λ m. m.0) x.parent_station) ∙ (λ i. option_eq nat_eq (sym of_x.parent i) (sym of_y.parent i))

  pub near-group : is_near_row n y became x ≡ true → group_cmp q p ≡ Equal
  near-group near =
      let parts = near-parts n y became x near in
      then-so _ _
      (then-so _ _ (name-ties y.stop_name x.stop_name p.name.now q.name.now of_y.name of_x.name parts.name) (number-tied q.kind p.kind (of_x.kind ∙ sym parts.kind ∙ sym of_y.kind)))
      (number-ties (option_map (λ m. m.0) q.parent) (option_map (λ m. m.0) p.parent) (sym same-parents ∙ parts.parent))

  pub near-inside : is_near_row n y became x ≡ true → has (area_around p (n * 1000)) q ≡ true
  near-inside near =
      let parts = near-parts n y became x near in
      inside-is p q (n * 1000) (sym (close-is n y.stop_lat x.stop_lat p.lat q.lat of_y.lat of_x.lat) ∙ parts.lat) (sym (close-is n y.stop_lon x.stop_lon p.lon q.lon of_y.lon of_x.lon) ∙ parts.lon)

  pub near-back : group_cmp q p ≡ Equal → has (area_around p (n * 1000)) q ≡ true → is_near_row n y became x ≡ true
  near-back tied inside =
      let texts = tied_first (ordering_then (text_cmp q.name.now p.name.now) (nat_cmp q.kind p.kind)) (option_cmp nat_cmp (option_map (λ m. m.0) q.parent) (option_map (λ m. m.0) p.parent)) tied in
      let r = n * 1000 in
      let a = and_parts _ (nat_le q.lon (p.lon + r)) inside in
      let b = and_parts _ (nat_le (p.lon - r) q.lon) a.0 in
      let c = and_parts (nat_le (p.lat - r) q.lat) (nat_le q.lat (p.lat + r)) b.0 in
      near-whole n y became x (record {
        kind = sym of_y.kind ∙ sym (number-is q.kind p.kind (tied_second _ _ texts)) ∙ of_x.kind;
        name = same-name y.stop_name x.stop_name p.name.now q.name.now of_y.name of_x.name (tied_first _ _ texts);
        lat = close-is n y.stop_lat x.stop_lat p.lat q.lat of_y.lat of_x.lat ∙ both-so _ _ c.0 c.1;
        lon = close-is n y.stop_lon x.stop_lon p.lon q.lon of_y.lon of_x.lon ∙ both-so _ _ b.1 a.1;
        parent = same-parents ∙ number-same (option_map (λ m. m.0) q.parent) (option_map (λ m. m.0) p.parent)
            (tied_second (ordering_then (text_cmp q.name.now p.name.now) (nat_cmp q.kind p.kind)) (option_cmp nat_cmp (option_map (λ m. m.0) q.parent) (option_map (λ m. m.0) p.parent)) tied);
      })

-- ---- what is near has a place

near-named : (o u : Option (List ℕ)) → same_given_name o u ≡ true → (is_some o ≡ true) × (is_some u ≡ true)
near-named None u e = absurd (true≢false (sym e))
near-named (Some a) None e = absurd (true≢false (sym e))
near-named (Some a) (Some b) e = (refl, refl)

near-there : (n : ℕ) (o u : Option ℤ) → are_close n o u ≡ true → (is_some o ≡ true) × (is_some u ≡ true)
near-there n None u e = absurd (true≢false (sym e))
near-there n (Some a) None e = absurd (true≢false (sym e))
near-there n (Some a) (Some b) e = (refl, refl)

pub near-placed : (n : ℕ) (y : Stop) (became : Option ℕ) (x : Stop) → is_near_row n y became x ≡ true → (can_be_near y ≡ true) × (can_be_near x ≡ true)
near-placed n y became x near =
    let parts = near-parts n y became x near in
    let name = near-named y.stop_name x.stop_name parts.name in
    let lat = near-there n y.stop_lat x.stop_lat parts.lat in
    let lon = near-there n y.stop_lon x.stop_lon parts.lon in
    (both-so _ _ (both-so _ _ name.0 lat.0) lon.0, both-so _ _ (both-so _ _ name.1 lat.1) lon.1)

-- where the parent became nothing, none is near
pub orphan : (n : ℕ) (y : Stop) (x : Stop) → is_some (option_map (λ m. m.0) y.parent_station) ≡ true → is_near_row n y None x ≡ true → ⊥
orphan n y x has near = by (option_map (λ m. m.0) x.parent_station) (option_map (λ m. m.0) y.parent_station) has (near-parts n y None x near).parent
  where
    by : (o u : Option ℕ) → is_some u ≡ true → is_same_parent o u None ≡ true → ⊥
    by o None h e = true≢false (sym h)
    by None (Some b) h e = true≢false (sym e)
    by (Some a) (Some b) h e = true≢false (sym e)
