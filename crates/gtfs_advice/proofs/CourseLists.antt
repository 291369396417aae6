-- The courses of trips, one after the other.
use Rattle.std.proofs.Common.{◌≡◌, ◌∙◌, ◌+◌, ◌++◌, ℕ, List, [], ◌∷◌, length, map, sym, ap, subst, add-one, arith}
use Rattle.std.specs.Prelude.{All}
use Rattle.std.specs.List.{range_with_len}
use Rattle.std.proofs.lemmas.List.{map-append}
use Rattle.std.proofs.lemmas.List.Elements.{All-nil, All-push}
use Rattle.gtfs_field.proofs.ListFacts.{range-push}
use Rattle.gtfs_rows.specs.declared.parts.Parts.{Parts}
use Rattle.gtfs_advice.specs.declared.trip_courses.Course.{Course}
use Rattle.gtfs_advice.specs.TripCourses.{AreCourses, IsCourse}

-- those of the first trips
pub record AreCoursesTo (p : Parts) (n : ℕ) (xs : List Course) : Type 0 where
  pub numbers : map (λ x. x.trip.0) xs ≡ range_with_len 0 n
  pub each : All (IsCourse p) xs

pub no-courses : (p : Parts) (xs : List Course) → xs ≡ [] → AreCoursesTo p 0 xs
no-courses p xs none = record { numbers = ap (map (λ x. x.trip.0)) none; each = subst (All (IsCourse p)) (sym none) (All-nil (IsCourse p)) }

pub courses-more : (p : Parts) (n : ℕ) (x : Course) (old new : List Course) → x.trip.0 ≡ n → IsCourse p x → new ≡ old ++ x ∷ [] → AreCoursesTo p n old → AreCoursesTo p (n + 1) new
courses-more p n x old new number is pushed so_far = record {
  numbers =
      ap (map (λ y. y.trip.0)) pushed ∙ map-append (λ y. y.trip.0) old (x ∷ [])
      ∙ (λ i. so_far.numbers i ++ number i ∷ []) ∙ sym (ap (range_with_len 0) (add-one n) ∙ range-push 0 n ∙ ap (λ k. range_with_len 0 n ++ k ∷ []) (omega arith));
  each = subst (All (IsCourse p)) (sym pushed) (All-push (IsCourse p) old x so_far.each is);
}

pub all-courses : (p : Parts) (n : ℕ) (xs : List Course) → n ≡ length p.trips → AreCoursesTo p n xs → AreCourses p xs
all-courses p n xs all so_far = record { numbers = so_far.numbers ∙ ap (range_with_len 0) all; each = so_far.each }
