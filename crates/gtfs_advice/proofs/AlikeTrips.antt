-- Trips are alike exactly where they compare as equal.
use Rattle.std.proofs.Common.{◌≡◌, ◌∙◌, ℕ, Bool, List, [], ◌∷◌, map, Option, Some, None, refl, sym, ap, arith}
use Rattle.std.specs.Prelude.{◌==◌, ◌&&◌, All, bytes_eq, nat_eq, option_map}
use Rattle.std.specs.Cmp.{tied_then}
use Rattle.std.specs.Cmp.Lexicographic.{slice_cmp}
use Rattle.std.specs.Option.{option_cmp, option_eq}
use Rattle.std.specs.Ordering.{is_eq, nat_cmp, ordering_then}
use Rattle.std.specs.declared.cmp.Ordering.{Ordering}
use Rattle.std.specs.declared.cmp.Ordering.TheVariants.{Less}
use Rattle.std.proofs.lemmas.Bool.Decides.{nat_tests}
use Rattle.std.proofs.lemmas.List.{length-map}
use Rattle.std.proofs.lemmas.List.Elements.{All-head, All-tail}
use Rattle.std.proofs.lemmas.Map.Text.{is_eq-slice_cmp}
use lib.Pointwise.{pointwise}
use Rattle.gtfs_field.specs.TextOrder.{text_cmp}
use Rattle.gtfs_field.proofs.TestFacts.{and_later}
use Rattle.gtfs_rows.specs.RowChoices.{drop_off_code, exact_code, pickup_code, timepoint_code}
use Rattle.gtfs_rows.specs.NamedRows.{text_of_number}
use Rattle.gtfs_rows.specs.RowsInMemory.{IsSoundParts, frequency_of, route_ids, service_ids, stop_row_of}
use Rattle.gtfs_rows.specs.declared.frequency.Frequency.{Frequency}
use Rattle.gtfs_rows.specs.declared.parts.Parts.{Parts}
use Rattle.gtfs_rows.proofs.SameElements.{pairs-map}
use Rattle.gtfs_rows.proofs.SoundOrder.{in_order}
use Rattle.gtfs_stop_times.specs.declared.stop_row.StopRow.{StopRow as Row}
use Rattle.gtfs_advice.specs.declared.trip_courses.Course.{Course}
use Rattle.gtfs_advice.specs.TripCourses.{IsCourse, call_cmp, course_cmp, period_cmp}
use Rattle.gtfs_advice.specs.StopTimes.{is_same_stop}
use Rattle.gtfs_advice.specs.Trips.{is_like, is_same_call, is_same_period}
use Rattle.gtfs_advice.proofs.Numbers.{same_number}
use Rattle.gtfs_advice.proofs.Rows.{IsWithin, one_stop}

same_nat : (i j : ℕ) → (i == j) ≡ is_eq (nat_cmp i j)
same_nat i j = grind (arith, nat_tests)

same_option : {X : Type 0} (E : X → X → Bool) (R : X → X → Ordering) → ((x y : X) → E x y ≡ is_eq (R x y)) → (a b : Option X) → option_eq E a b ≡ is_eq (option_cmp R a b)
same_option E R same None None = refl
same_option E R same None (Some y) = refl
same_option E R same (Some x) None = refl
same_option E R same (Some x) (Some y) = same x y

same_text : (a b : List ℕ) → bytes_eq a b ≡ is_eq (text_cmp a b)
same_text a b = sym (is_eq-slice_cmp a b)

-- lists of which each element stands for one of another
same_lists : {X Y : Type 0} (f : X → Y) (E : Y → Y → Bool) (R : X → X → Ordering) (P : X → Type 0) → ((x y : X) → P x → P y → E (f x) (f y) ≡ is_eq (R x y))
    → (xs ys : List X) → All P xs → All P ys → pointwise E (map f xs) (map f ys) ≡ is_eq (slice_cmp R xs ys)
same_lists f E R P same [] [] all also = refl
same_lists f E R P same [] (y ∷ ys) all also = refl
same_lists f E R P same (x ∷ xs) [] all also = refl
same_lists f E R P same (x ∷ xs) (y ∷ ys) all also =
    (λ i. same x y (All-head P x xs all) (All-head P y ys also) i && same_lists f E R P same xs ys (All-tail P x xs all) (All-tail P y ys also) i)
    ∙ tied_then (R x y) (slice_cmp R xs ys)

two : (a b : Bool) (r s : Ordering) → a ≡ is_eq r → b ≡ is_eq s → (a && b) ≡ is_eq (ordering_then r s)
two a b r s first second = (λ i. first i && second i) ∙ tied_then r s

-- the last four of seven tests together
last_four : (a b c d e : Bool) → ((((a && b) && c) && d) && e) ≡ (a && (((b && c) && d) && e))
last_four a b c d e =
    sym (and_later a ((b && c) && d) e ∙ ap (λ t. t && e) (and_later a (b && c) d ∙ ap (λ t. t && d) (and_later a b c)))

module _ (p : Parts) (sound : IsSoundParts p) where
  same_call : (r s : Row) → IsWithin p r → IsWithin p s → is_same_call (stop_row_of p r) (stop_row_of p s) ≡ is_eq (call_cmp p.headsigns r s)
  same_call r s in_r in_s =
      let stop = sym (one_stop p sound r s in_r in_s) ∙ same_nat r.stop_id.0 s.stop_id.0 in
      let arrival = same_option nat_eq nat_cmp same_nat r.arrival_time s.arrival_time in
      let departure = same_option nat_eq nat_cmp same_nat r.departure_time s.departure_time in
      let headsign = same_option bytes_eq text_cmp same_text (option_map (text_of_number p.headsigns) r.stop_headsign) (option_map (text_of_number p.headsigns) s.stop_headsign) in
      let pickup = same_nat (pickup_code r.pickup_type) (pickup_code s.pickup_type) in
      let drop_off = same_nat (drop_off_code r.drop_off_type) (drop_off_code s.drop_off_type) in
      let timepoint = same_option nat_eq nat_cmp same_nat (option_map timepoint_code r.timepoint) (option_map timepoint_code s.timepoint) in
      let a = stop_row_of p r in
      let b = stop_row_of p s in
      last_four (is_same_stop a b && option_eq nat_eq a.arrival_time b.arrival_time && option_eq nat_eq a.departure_time b.departure_time)
      (option_eq bytes_eq a.stop_headsign b.stop_headsign) (a.pickup_type == b.pickup_type) (a.drop_off_type == b.drop_off_type) (option_eq nat_eq a.timepoint b.timepoint)
      ∙ two _ _ _ _ (two _ _ _ _ (two _ _ _ _ stop arrival) departure) (two _ _ _ _ (two _ _ _ _ (two _ _ _ _ headsign pickup) drop_off) timepoint)

same_period : (f g : Frequency) → is_same_period (frequency_of f) (frequency_of g) ≡ is_eq (period_cmp f g)
same_period f g =
    let ends = two _ _ _ _ (same_nat f.start_time g.start_time) (same_nat f.end_time g.end_time) in
    two _ _ _ _ (two _ _ _ _ ends (same_nat f.headway_secs g.headway_secs)) (same_nat (exact_code f.exact_times) (exact_code g.exact_times))

-- ---- trips

module _ (p : Parts) (x y : Course) (a : IsCourse p x) (b : IsCourse p y) where
  routes : bytes_eq a.trip.route_id b.trip.route_id ≡ is_eq (nat_cmp x.route.0 y.route.0)
  routes =
      let up = pairs-map (λ r. r.route_id) (λ s t. text_cmp s t ≡ Less) p.routes (in_order p a.along.sound).routes in
      let count = length-map p.routes (λ r. r.route_id) in
      (λ i. bytes_eq (a.route i) (b.route i)) ∙ sym (same_number (route_ids p) x.route.0 y.route.0 up (omega (arith, count, a.route_known)) (omega (arith, count, b.route_known)))
      ∙ same_nat x.route.0 y.route.0

  services : bytes_eq a.trip.service_id b.trip.service_id ≡ is_eq (nat_cmp x.service.0 y.service.0)
  services =
      let up = pairs-map (λ s. s.service_id) (λ s t. text_cmp s t ≡ Less) p.services (in_order p a.along.sound).services in
      let count = length-map p.services (λ s. s.service_id) in
      (λ i. bytes_eq (a.service i) (b.service i)) ∙ sym (same_number (service_ids p) x.service.0 y.service.0 up (omega (arith, count, a.service_known)) (omega (arith, count, b.service_known)))
      ∙ same_nat x.service.0 y.service.0

  pub alike : is_like b.trip a.trip ≡ is_eq (course_cmp p.headsigns x y)
  alike =
      let calls = (λ i. pointwise is_same_call (a.along.is i) (b.along.is i))
      ∙ same_lists (stop_row_of p) is_same_call (call_cmp p.headsigns) (IsWithin p) (same_call p a.along.sound) x.rows.now y.rows.now a.along.are.stops b.along.are.stops in
      let periods = (λ i. pointwise is_same_period (a.periods i) (b.periods i))
      ∙ same_lists frequency_of is_same_period period_cmp (λ f. Unit {0}) (λ f g u v. same_period f g) x.periods.now y.periods.now (λ k d within. tt) (λ k d within. tt) in
      sym (and_later (bytes_eq a.trip.route_id b.trip.route_id && bytes_eq a.trip.service_id b.trip.service_id)
      (pointwise is_same_call a.trip.stop_rows b.trip.stop_rows) (pointwise is_same_period a.trip.frequencies b.trip.frequencies))
      ∙ two _ _ _ _ (two _ _ _ _ routes services) (two _ _ _ _ calls periods)
