-- Stretches of rows one after the other, whose trips ascend: their rows are sorted.
use Rattle.std.proofs.Common.{◌≡◌, ◌∙◌, ◌+◌, ◌-◌, ◌<◌, ◌≤◌, ◌++◌, ◌∷◌, [], ℕ, false, true, List, ap, arith, drop, get_or, inl, inr, length, length-append, refl, subst, sym, take}
use Rattle.std.specs.Prelude.{nat_le}
use Rattle.std.specs.Cmp.{nat_cmp_is}
use Rattle.std.specs.List.{All, flat_map}
use Rattle.std.specs.List.Sorted.{IsSorted}
use Rattle.std.specs.Ordering.{int_cmp, is_lt, nat_cmp, ordering_then}
use Rattle.std.specs.Prelude.{pos}
use Rattle.std.specs.declared.cmp.Ordering.TheVariants.{Greater}
use Rattle.std.proofs.Math.ListN.{get_or-append}
use Rattle.std.proofs.Math.Nat.{eq-or-lt_of_le}
use Rattle.std.proofs.lemmas.Bool.{cases_lt}
use Rattle.std.proofs.lemmas.Bool.Decides.{nat_tests}
use Rattle.std.proofs.lemmas.Grind.{flat_map-append}
use Rattle.std.proofs.lemmas.List.{append-nil, append_assoc, drop-map, get_or-append_right, get_or-drop, get_or-map, get_or-take, length-drop, length-map, length-take-le, map-append, take-append-drop, take-map}
use Rattle.std.proofs.lemmas.List.Elements.{All-append, All-head, All-tail}
use Rattle.std.proofs.lemmas.Bool.{and_parts}
use Rattle.gtfs_stop_times.specs.declared.stop_row.StopRow.{StopRow}
use Rattle.gtfs_stop_times.specs.KeptLists.{stop_time_at, stop_times_at}
use Rattle.gtfs_stop_times.specs.KeptStretches.{ascend_from, numbers_of, AreRising, IsStretch}
use Rattle.gtfs_stop_times.specs.StopTimeOrder.{kept_cmp}
use Rattle.gtfs_stop_times.specs.declared.row_note.RowNote.{RowNote}
use Rattle.gtfs_stop_times.specs.declared.stop_time.StopTime.{StopTime}
use Rattle.gtfs_stop_times.specs.declared.together.Stretch.{Stretch}

-- a row of a later trip does not stand below one of an earlier trip
above : (x y : StopTime) → x.trip < y.trip → is_lt (kept_cmp y x) ≡ false
above x y later =
    ap (λ o. is_lt (ordering_then o (ordering_then (int_cmp (pos y.stop_row.stop_sequence) (pos x.stop_row.stop_sequence)) (nat_cmp y.row x.row))))
    (sym (nat_cmp_is y.trip x.trip Greater later))

joined_sorted : (t : ℕ) (xs ys : List StopTime) → IsSorted kept_cmp xs → IsSorted kept_cmp ys → All (λ x. x.trip ≡ t) xs → All (λ y. t < y.trip) ys → IsSorted kept_cmp (xs ++ ys)
joined_sorted t xs ys first second of_trip later k d low high = elim (cases_lt (k + 1) (length xs)) [
  | inl inside ↦ (λ i. is_lt (kept_cmp (get_or-append xs ys d (k + 1) inside i) (get_or-append xs ys d k (omega (arith, inside)) i))) ∙ first k d low inside
  | inr past ↦ elim (eq-or-lt_of_le past) [
    | inl seam ↦
        let start : get_or (xs ++ ys) (k + 1) d ≡ get_or ys 0 d = get_or-append_right xs ys (k + 1) (k + 1) d seam (omega arith) ∙ ap (λ n. get_or ys n d) same in
        let some : 0 < length ys = omega (arith, high, seam, length-append xs ys) in
        let last = of_trip k d (omega (arith, seam)) in
        (λ i. is_lt (kept_cmp (start i) (get_or-append xs ys d k (omega (arith, seam)) i)))
        ∙ above (get_or xs k d) (get_or ys 0 d) (omega (arith, last, later 0 d some))
    | inr beyond ↦
        let next : k + 1 - length xs ≡ (k - length xs) + 1 = omega (arith, beyond) in
        (λ i. is_lt (kept_cmp ((get_or-append_right xs ys (length xs) (k + 1) d refl (omega (arith, beyond)) ∙ ap (λ n. get_or ys n d) next) i)
        (get_or-append_right xs ys (length xs) k d refl (omega (arith, beyond)) i)))
        ∙ second (k - length xs) d (omega arith) (omega (arith, beyond, high, length-append xs ys))
  ]
]
  where
    same : (k + 1) - (k + 1) ≡ 0
    same = omega arith

module _ (rows : List StopRow) (notes : List RowNote) (order : List ℕ) where
  abbrev stop_time : ℕ → StopTime
  stop_time = stop_time_at rows notes

  abbrev numbers : List Stretch → List ℕ
  numbers = flat_map (numbers_of order)

  from_least : (least : ℕ) (ss : List Stretch) → ascend_from least ss ≡ true → All (IsStretch rows notes order) ss → All (λ n. least ≤ (stop_time n).trip) (numbers ss)
  from_least least [] up each = λ k n below. absurd (omega (arith, below))
  from_least least (s ∷ ss) up each =
      let parts = and_parts (nat_le least s.trip) (ascend_from (s.trip + 1) ss) up in
      let reaches : least ≤ s.trip = let first = parts.0 in grind (arith, nat_tests, first) in
      let later = from_least (s.trip + 1) ss parts.1 (All-tail (IsStretch rows notes order) s ss each) in
      All-append (λ n. least ≤ (stop_time n).trip) (numbers_of order s) (numbers ss)
      (λ k n below. let is = (All-head (IsStretch rows notes order) s ss each).trip k n below in omega (arith, is, reaches))
      (λ k n below. let is = later k n below in omega (arith, is, reaches))

  of_rows : (P : ℕ → Type 0) (ns : List ℕ) → All (λ n. P (stop_time n).trip) ns → All (λ r. P r.trip) (stop_times_at rows notes ns)
  of_rows P ns each k d below =
      let within : k < length ns = omega (arith, below, length-map ns stop_time) in
      subst (λ (r : StopTime). P r.trip) (sym (get_or-map stop_time ns k d.row d within)) (each k d.row within)

  pub stretches_sorted : (least : ℕ) (ss : List Stretch) → ascend_from least ss ≡ true → All (IsStretch rows notes order) ss → IsSorted kept_cmp (stop_times_at rows notes (numbers ss))
  stretches_sorted least [] up each = λ k d low high. absurd (omega (arith, high))
  stretches_sorted least (s ∷ ss) up each =
      let parts = and_parts (nat_le least s.trip) (ascend_from (s.trip + 1) ss) up in
      let first = All-head (IsStretch rows notes order) s ss each in
      let rest = All-tail (IsStretch rows notes order) s ss each in
      subst (IsSorted kept_cmp) (sym (map-append stop_time (numbers_of order s) (numbers ss)))
      (joined_sorted s.trip (stop_times_at rows notes (numbers_of order s)) (stop_times_at rows notes (numbers ss)) first.sorted (stretches_sorted (s.trip + 1) ss parts.1 rest)
      (of_rows (λ t. t ≡ s.trip) (numbers_of order s) first.trip) (of_rows (λ t. s.trip < t) (numbers ss) (λ k n below. let is = from_least (s.trip + 1) ss parts.1 rest k n below in omega (arith, is))))

  -- ---- the first rows, and those after them

  pub cut_further : (ss : List Stretch) (s : Stretch) (n : ℕ) (left all : List ℕ) → (numbers_of order s) ≡ take n left → numbers ss ++ left ≡ all → numbers (ss ++ s ∷ []) ++ drop n left ≡ all
  cut_further ss s n left all is before =
      ap (λ ns. ns ++ drop n left) (flat_map-append (numbers_of order) ss (s ∷ []))
      ∙ append_assoc (numbers ss) ((numbers_of order s) ++ []) (drop n left)
      ∙ ap (λ ns. numbers ss ++ (ns ++ drop n left)) (append-nil (numbers_of order s) ∙ is)
      ∙ ap (λ ns. numbers ss ++ ns) (take-append-drop n left)
      ∙ before

  rising_later : (n : ℕ) (xs : List StopTime) → AreRising xs → AreRising (drop n xs)
  rising_later n xs up k d high same =
      let next : n + (k + 1) ≡ (n + k) + 1 = omega arith in
      let second : get_or (drop n xs) (k + 1) d ≡ get_or xs (n + k + 1) d = get_or-drop n xs (k + 1) d ∙ ap (λ m. get_or xs m d) next in
      let first = get_or-drop n xs k d in
      (λ i. is_lt (kept_cmp (second i) (first i)))
      ∙ up (n + k) d (omega (arith, high, length-drop n xs)) (sym (ap (λ (r : StopTime). r.trip) second) ∙ same ∙ ap (λ (r : StopTime). r.trip) first)

  pub rest_rising : (n : ℕ) (ns : List ℕ) → AreRising (stop_times_at rows notes ns) → AreRising (stop_times_at rows notes (drop n ns))
  rest_rising n ns up = subst AreRising (drop-map stop_time n ns) (rising_later n (stop_times_at rows notes ns) up)

  pub first_stretch : (n : ℕ) (ns : List ℕ) (s : Stretch) → (numbers_of order s) ≡ take n ns → n ≤ length ns → AreRising (stop_times_at rows notes ns) → All (λ m. (stop_time m).trip ≡ s.trip) (take n ns) → IsStretch rows notes order s
  first_stretch n ns s is within up of_trip = record {
    trip = subst (All (λ m. (stop_time m).trip ≡ s.trip)) (sym is) of_trip;
    sorted = subst (λ ms. IsSorted kept_cmp (stop_times_at rows notes ms)) (sym is) sorted;
  }
    where
      sorted : IsSorted kept_cmp (stop_times_at rows notes (take n ns))
      sorted k d low high =
          let size : length (stop_times_at rows notes (take n ns)) ≡ n = length-map (take n ns) stop_time ∙ length-take-le n ns within in
          let here : (j : ℕ) → j < n → get_or (stop_times_at rows notes (take n ns)) j d ≡ get_or (stop_times_at rows notes ns) j d = λ j below.
          ap (λ rs. get_or rs j d) (sym (take-map stop_time n ns)) ∙ get_or-take n (stop_times_at rows notes ns) j d below in
          let trips = of_rows (λ t. t ≡ s.trip) (take n ns) of_trip in
          let second = here (k + 1) (omega (arith, high, size)) in
          let first = here k (omega (arith, high, size)) in
          (λ i. is_lt (kept_cmp (second i) (first i)))
          ∙ up k d (omega (arith, high, size, within, length-map ns stop_time))
          (sym (ap (λ (r : StopTime). r.trip) second) ∙ trips (k + 1) d high ∙ sym (trips k d (omega (arith, high))) ∙ ap (λ (r : StopTime). r.trip) first)
