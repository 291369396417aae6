-- How many courses there are: by the numbers of stops and services as by their ids, and in any order.
use Rattle.std.proofs.Common.{rules, ◌≡◌, ◌<◌, ◌+◌, ◌∙◌, ℕ, Bool, true, cond, List, [], ◌∷◌, length, map, nat_lt, refl, sym, ap, arith, inl, inr, ◌==◌, ◌||◌, zero-add}
use Rattle.std.specs.Prelude.{bytes_eq}
use Rattle.std.specs.List.{All, list_any}
use Rattle.std.specs.List.Sorted.{IsPermutation}
use Rattle.std.specs.Cmp.{IsTotalOrder, both_ways, tied_itself}
use Rattle.std.specs.Cmp.Lexicographic.{nat_list_cmp_total}
use Rattle.std.specs.Cmp.Rules.{comparing}
use Rattle.std.specs.FinMap.{IsAntisymmetric, nat_cmp-IsAntisymmetric, slice_cmp-IsAntisymmetric}
use Rattle.std.specs.FinSet as set
use Rattle.std.specs.declared.cmp.Ordering.{Ordering}
use Rattle.std.specs.Ordering.{eq_by_cmp, is_eq}
use Rattle.std.proofs.lemmas.Bool.{cases_Bool, eqb-true}
use Rattle.std.proofs.lemmas.Bool.Decides.{nat_tests}
use Rattle.std.proofs.lemmas.List.Elements.{All-head, All-tail}
use Rattle.gtfs_field.proofs.OrderingFacts.{equal, tied as both_equal}
use Rattle.gtfs_field.proofs.ListFacts.{some_of}
use Rattle.gtfs_schema.proofs.SiteFacts.{text_itself}
use Rattle.gtfs_rows.proofs.Held.{text_antisymmetric}
use Rattle.gtfs_rows.specs.declared.parts.Parts.{Parts}
use Rattle.gtfs_rows.specs.declared.stop.Stop.{Stop}
use Rattle.gtfs_rows.specs.RowsInMemory.{IsSoundParts, service_ids, stop_ids, text_of_number}
use Rattle.gtfs_rows.proofs.SoundOrder.{in_order}
use Rattle.gtfs_runs.specs.Tallies.{tally}
use Rattle.gtfs_runs.specs.Lanes.{Course, course_cmp}
use Rattle.gtfs_runs.specs.steps.Courses.{CourseNo, IsCourse, course_of, how_many, is_same_course}
use Rattle.gtfs_runs.proofs.ContentRows.{same_service}
use Rattle.gtfs_runs.proofs.CourseOrder.{course_is, same_courses}
use Rattle.gtfs_runs.proofs.PlaceFacts.{id_at, same_number}
use Rattle.gtfs_runs.proofs.Tallies.{tally-permutation}

any-counted : {X : Type 0} (q : X → Bool) (xs : List X) → list_any q xs ≡ nat_lt 0 (tally q xs)
any-counted q [] = refl
any-counted q (x ∷ xs) = elim (cases_Bool (q x)) [
  | inl is ↦ rw is (positive (tally q xs))
  | inr isnt ↦ rw isnt (any-counted q xs ∙ ap (nat_lt 0) (sym (zero-add (tally q xs))))
]
  where
    positive : (n : ℕ) → true ≡ nat_lt 0 (1 + n)
    positive n = grind (arith, nat_tests)

pub any-permutation : {X : Type 0} (q : X → Bool) (xs ys : List X) → IsPermutation xs ys → list_any q ys ≡ list_any q xs
any-permutation q xs ys same = any-counted q ys ∙ ap (nat_lt 0) (tally-permutation q xs ys same) ∙ sym (any-counted q xs)

-- ---- sets

pub courses_total : IsTotalOrder course_cmp
courses_total = search (comparing, rules, nat_list_cmp_total) depth 20

pub courses_antisymmetric : IsAntisymmetric course_cmp
courses_antisymmetric a b h =
    let x = both_equal _ _ h in
    let y = both_equal _ _ x.1 in
    let stops = slice_cmp-IsAntisymmetric text_antisymmetric a.0 b.0 x.0 in
    let rows = nat_cmp-IsAntisymmetric a.1 b.1 y.0 in
    let services = text_antisymmetric a.2 b.2 y.1 in
    λ i. (stops i, rows i, services i)

set_size : {K : Type 0} {R : K → K → Ordering} (o : IsTotalOrder R) (xs : List K) → set.len (set.from_list {R = R} xs) ≡ how_many (eq_by_cmp R) xs
set_size {R = R} o [] = set.len-empty R
set_size {R = R} o (x ∷ xs) =
    set.len-insert o (set.from_list {R = R} xs) x
    ∙ (λ i. cond (set.contains-from_list o xs x i) (set_size o xs i) (set_size o xs i + 1))

pub set_permuted : (xs ys : List Course) → IsPermutation xs ys → set.len (set.from_list {R = course_cmp} xs) ≡ how_many (eq_by_cmp course_cmp) ys
set_permuted xs ys same =
    ap set.len (set.same_set courses_total courses_antisymmetric (set.from_list {R = course_cmp} xs) (set.from_list {R = course_cmp} ys)
    (λ q. set.contains-from_list courses_total xs q ∙ sym (any-permutation (eq_by_cmp course_cmp q) xs ys same) ∙ sym (set.contains-from_list courses_total ys q)))
    ∙ set_size courses_total ys

-- ---- numbers and ids

module _ (p : Parts) (sound : IsSoundParts p) where
  same_stop : (m n : ℕ) → m < length p.stops → n < length p.stops → text_of_number (stop_ids p) m ≡ text_of_number (stop_ids p) n → m ≡ n
  same_stop m n a b same =
      let d : Stop = some_of p.stops m a in
      let tests : bytes_eq (text_of_number (stop_ids p) m) (text_of_number (stop_ids p) n) ≡ (m == n) =
      (λ i. bytes_eq (id_at p d m a i) (id_at p d n b i)) ∙ same_number (λ s. s.stop_id) p.stops m n d (in_order p sound).stops a b in
      let holds : bytes_eq (text_of_number (stop_ids p) m) (text_of_number (stop_ids p) n) ≡ true =
      ap (bytes_eq (text_of_number (stop_ids p) m)) (sym same) ∙ text_itself (text_of_number (stop_ids p) m) in
      eqb-true m n (sym tests ∙ holds)

  same_id : (m n : ℕ) → m < length p.services → n < length p.services → text_of_number (service_ids p) m ≡ text_of_number (service_ids p) n → m ≡ n
  same_id m n a b same =
      let holds : bytes_eq (text_of_number (service_ids p) m) (text_of_number (service_ids p) n) ≡ true =
      ap (bytes_eq (text_of_number (service_ids p) m)) (sym same) ∙ text_itself (text_of_number (service_ids p) m) in
      eqb-true m n (sym (same_service p sound m n a b) ∙ holds)

  pub same_stops : (xs ys : List ℕ) → All (λ n. n < length p.stops) xs → All (λ n. n < length p.stops) ys → map (text_of_number (stop_ids p)) xs ≡ map (text_of_number (stop_ids p)) ys → xs ≡ ys
  same_stops [] [] a b same = refl
  same_stops [] (y ∷ ys) a b same = cc
  same_stops (x ∷ xs) [] a b same = cc
  same_stops (x ∷ xs) (y ∷ ys) a b same =
      let P : ℕ → Type 0 = λ n. n < length p.stops in
      let first : x ≡ y = same_stop x y (All-head P x xs a) (All-head P y ys b) (ap head same) in
      let rest : xs ≡ ys = same_stops xs ys (All-tail P x xs a) (All-tail P y ys b) (ap tail same) in
      λ i. first i ∷ rest i
    where
      head : List (List ℕ) → List ℕ
      head [] = []
      head (t ∷ ts) = t

      tail : List (List ℕ) → List (List ℕ)
      tail [] = []
      tail (t ∷ ts) = ts

  same_test : (a b : CourseNo) → IsCourse p a → IsCourse p b → eq_by_cmp course_cmp (course_of p a) (course_of p b) ≡ is_same_course a b
  same_test a b x y = both_ways (eq_by_cmp course_cmp (course_of p a) (course_of p b)) (is_same_course a b)
      (λ holds.
      let is : course_of p a ≡ course_of p b = courses_antisymmetric (course_of p a) (course_of p b) (equal _ holds) in
      let stops : a.stops ≡ b.stops = same_stops a.stops b.stops x.stops y.stops (ap (λ c. c.0) is) in
      let rows : a.row ≡ b.row = ap (λ c. c.1) is in
      let services : a.service ≡ b.service = same_id a.service b.service x.service y.service (ap (λ c. c.2) is) in
      same_courses a b (λ i. record { service = services i; row = rows i; stops = stops i }))
      (λ holds. ap (λ c. eq_by_cmp course_cmp (course_of p a) (course_of p c)) (sym (course_is a b holds)) ∙ ap is_eq (tied_itself courses_total (course_of p a)))

  any_same : (a : CourseNo) (cs : List CourseNo) → IsCourse p a → All (IsCourse p) cs → list_any (eq_by_cmp course_cmp (course_of p a)) (map (course_of p) cs) ≡ list_any (is_same_course a) cs
  any_same a [] x all = refl
  any_same a (c ∷ cs) x all = λ i. same_test a c x (All-head (IsCourse p) c cs all) i || any_same a cs x (All-tail (IsCourse p) c cs all) i

  pub as_many : (cs : List CourseNo) → All (IsCourse p) cs → how_many (eq_by_cmp course_cmp) (map (course_of p) cs) ≡ how_many is_same_course cs
  as_many [] all = refl
  as_many (c ∷ cs) all =
      let rest = All-tail (IsCourse p) c cs all in
      λ i. cond (any_same c cs (All-head (IsCourse p) c cs all) rest i) (as_many cs rest i) (as_many cs rest i + 1)
