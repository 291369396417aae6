-- Ranges of rows in one list, and in another one behind it.
use Rattle.std.proofs.Common.{◌≡◌, ◌<◌, ◌≤◌, ◌+◌, ◌-◌, ◌++◌, ◌∷◌, ◌∙◌, [], ℕ, List, length, map, take, drop, refl, subst, sym, ap, arith, append-nil, length-append}
use Rattle.std.specs.Prelude.{flat_map}
use Rattle.std.proofs.Math.Seq.{drop-append-add}
use Rattle.std.proofs.lemmas.List.{drop-append-le, drop-map, length-drop, length-map, length-take-le, map-append, map_push, take-append-le, take-map}
use Rattle.std.proofs.lemmas.List.Concat.{flat_map-append}
use Rattle.std.proofs.lemmas.List.Elements.{All-push}
use Rattle.std.proofs.lemmas.Simd.{map-map}
use Rattle.gtfs_table.specs.FieldOffsets.{starts_of}
use Rattle.gtfs_stop_times.specs.StopTimesByTrip.{AreCounted, AreUnbroken, AreWithin, in_turn, items_in, rows_in}
use Rattle.gtfs_stop_times.specs.declared.by_trip.RowRange.{RowRange}
use Rattle.gtfs_stop_times.specs.declared.stop_row.StopRow.{StopRow}

module _ {X : Type 0} (xs ys : List X) where
  -- a range of the first list is the same in both
  pub in-first : (s : RowRange) → s.start ≤ s.end → s.end ≤ length xs → items_in (xs ++ ys) s ≡ items_in xs s
  in-first s up within =
      ap (take (s.end - s.start)) (drop-append-le s.start xs ys (omega (arith, up, within)))
      ∙ take-append-le (s.end - s.start) (drop s.start xs) ys (omega (arith, within, length-drop s.start xs))

  -- a range of the second list lies behind the first one
  pub in-second : (behind start end : ℕ) → behind ≡ length xs → items_in (xs ++ ys) (record { start = behind + start; end = behind + end }) ≡ items_in ys (record { start = start; end = end })
  in-second behind start end is =
      let size : behind + end - (behind + start) ≡ end - start = omega arith in
      ap (λ n. take n (drop (behind + start) (xs ++ ys))) size
      ∙ ap (λ b. take (end - start) (drop (b + start) (xs ++ ys))) is
      ∙ ap (take (end - start)) (drop-append-add xs ys start)

pub items-map : {X Y : Type 0} (f : X → Y) (xs : List X) (s : RowRange) → items_in (map f xs) s ≡ map f (items_in xs s)
items-map f xs s = ap (take (s.end - s.start)) (drop-map f s.start xs) ∙ take-map f (s.end - s.start) (drop s.start xs)

pub length-items : {X : Type 0} (xs : List X) (s : RowRange) → s.start ≤ s.end → s.end ≤ length xs → length (items_in xs s) ≡ s.end - s.start
length-items xs s up within = length-take-le (s.end - s.start) (drop s.start xs) (omega (arith, within, length-drop s.start xs))

-- ---- lists one after the other whose items become others

module _ {X Y : Type 0} (f : X → Y) where
  pub whole-map : (ls : List (List X)) → flat_map (λ l. l) (map (map f) ls) ≡ map f (flat_map (λ l. l) ls)
  whole-map [] = refl
  whole-map (l ∷ ls) = ap (λ r. map f l ++ r) (whole-map ls) ∙ sym (map-append f l (flat_map (λ x. x) ls))

  pub starts-map : (s : ℕ) (ls : List (List X)) → starts_of s (map (map f) ls) ≡ starts_of s ls
  unfolding starts_of
  starts-map s [] = refl
  starts-map s (l ∷ ls) = ap (λ n. s ∷ starts_of (s + n) (map (map f) ls)) (length-map l f) ∙ ap (λ r. s ∷ r) (starts-map (s + length l) ls)

-- ---- one more range

module _ (rows more : List StopRow) where
  pub none-counted : AreCounted rows more [] 0
  none-counted = record { within = λ i d h. absurd (omega (arith, h)); unbroken = λ i d h. absurd (omega (arith, h)); counted = refl }

  pub one-more : (ranges : List RowRange) (len : ℕ) (s : RowRange) → AreCounted rows more ranges len → (s.start ≤ s.end) × (s.end ≤ length (rows ++ more)) → (length rows < s.end → length rows ≤ s.start)
      → AreCounted rows more (ranges ++ s ∷ []) (len + (s.end - s.start))
  one-more ranges len s are within unbroken =
      let all = rows ++ more in
      let here : length (rows_in all s) ≡ s.end - s.start = length-items all s within.0 within.1 in
      let pushed : flat_map (λ l. l) (map (rows_in all) (ranges ++ s ∷ [])) ≡ flat_map (λ l. l) (map (rows_in all) ranges) ++ rows_in all s =
      ap (flat_map (λ l. l)) (map_push (rows_in all) ranges s) ∙ flat_map-append (λ l. l) (map (rows_in all) ranges) (rows_in all s ∷ [])
      ∙ ap (λ r. flat_map (λ l. l) (map (rows_in all) ranges) ++ r) (append-nil (rows_in all s)) in
      record {
        within = All-push (λ r. (r.start ≤ r.end) × (r.end ≤ length all)) ranges s are.within within;
        unbroken = All-push (λ r. length rows < r.end → length rows ≤ r.start) ranges s are.unbroken unbroken;
        counted = omega (arith, ap length pushed, length-append (flat_map (λ l. l) (map (rows_in all) ranges)) (rows_in all s), here, are.counted);
      }

-- ---- rows that become others

module _ (f : StopRow → StopRow) (rows more rows_after more_after : List StopRow) (rows_are : rows_after ≡ map f rows) (more_are : more_after ≡ map f more) (ranges : List RowRange) where
  all-are : rows_after ++ more_after ≡ map f (rows ++ more)
  all-are = (λ i. rows_are i ++ more_are i) ∙ sym (map-append f rows more)

  lists-are : map (rows_in (rows_after ++ more_after)) ranges ≡ map (map f) (map (rows_in (rows ++ more)) ranges)
  lists-are =
      ap (λ (g : RowRange → List StopRow). map g ranges) (λ i s. (ap (λ xs. rows_in xs s) all-are ∙ items-map f (rows ++ more) s) i)
      ∙ sym (map-map (map f) (rows_in (rows ++ more)) ranges)

  pub rows-become : (in_turn (map (rows_in (rows_after ++ more_after)) ranges)).rows ≡ map f (in_turn (map (rows_in (rows ++ more)) ranges)).rows
  rows-become = ap (flat_map (λ l. l)) lists-are ∙ whole-map f (map (rows_in (rows ++ more)) ranges)

  pub starts-stay : (in_turn (map (rows_in (rows_after ++ more_after)) ranges)).starts ≡ (in_turn (map (rows_in (rows ++ more)) ranges)).starts
  starts-stay = ap (starts_of 0) lists-are ∙ starts-map f 0 (map (rows_in (rows ++ more)) ranges)

  pub counted-after : (len : ℕ) → AreCounted rows more ranges len → AreCounted rows_after more_after ranges len
  counted-after len are =
      let size : length rows ≡ length rows_after = sym (ap length rows_are ∙ length-map rows f) in
      let sizes : length (rows ++ more) ≡ length (rows_after ++ more_after) = sym (ap length all-are ∙ length-map (rows ++ more) f) in
      record {
        within = subst (λ n. AreWithin n ranges) sizes are.within;
        unbroken = subst (λ n. AreUnbroken n ranges) size are.unbroken;
        counted = ap length rows-become ∙ length-map (in_turn (map (rows_in (rows ++ more)) ranges)).rows f ∙ are.counted;
      }
