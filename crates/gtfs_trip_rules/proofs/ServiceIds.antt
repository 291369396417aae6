-- Rows that are kept by their ids: those with one id stand in a row, and in the order of their file.
use Rattle.std.proofs.Common.{◌≡◌, ℕ, zero, suc, ◌+◌, ◌<◌, ◌≤◌, Bool, true, false, cond, List, [], ◌∷◌, length, get_or, take, drop, map, bytes_eq, refl, sym, ap, subst, ◌∙◌, arith}
use Rattle.std.specs.Prelude.{◌&&◌, not, filter}
use Rattle.std.specs.Cmp.{upto}
use Rattle.std.specs.List.{All, AllWithin}
use Rattle.std.specs.List.Sorted.{IsPartitionedBy, IsPartitionPoint, IsStableByKey, ties}
use Rattle.std.specs.declared.cmp.Ordering.{Ordering}
use Rattle.std.specs.declared.cmp.Ordering.TheVariants.{Less, Equal, Greater}
use Rattle.std.specs.Ordering.{is_eq, is_gt, is_le, is_lt, ordering_reverse}
use Rattle.std.proofs.lemmas.Cmp.{nat_list_cmp_total}
use Rattle.std.proofs.lemmas.List.{get_or-drop, length-drop}
use Rattle.std.proofs.lemmas.List.Sorted.{ranks_by, sorted_far}
use Rattle.std.proofs.lemmas.Map.Text.{is_eq-slice_cmp}
use Rattle.std.proofs.lemmas.List.Elements.{filter_agree as same_filter}
use denote.Ref.{Bor}
use Rattle.gtfs_field.proofs.OrderingFacts.{less as less-from}
use Rattle.gtfs_field.specs.TextOrder.{text_cmp}
use Rattle.gtfs_trip_rules.specs.RowsById.{row_with_id, rows_of, IdRow, IsById}

-- ---- what stands in the middle of a list

skipped : {X : Type 0} (p : X → Bool) (xs : List X) (i : ℕ) → AllWithin (λ x. p x ≡ false) xs 0 i → filter p xs ≡ filter p (drop i xs)
skipped p xs zero h = refl
skipped p [] (suc i) h = refl
skipped p (x ∷ xs) (suc i) h =
    let here : p x ≡ false = h 0 x (omega arith) (omega arith) in
    subst (λ b. cond b (x ∷ filter p xs) (filter p xs) ≡ filter p (drop i xs)) (sym here) (skipped p xs i (λ k d a b. h (suc k) d (omega arith) (omega arith)))

kept : {X : Type 0} (p : X → Bool) (xs : List X) (j : ℕ) → AllWithin (λ x. p x ≡ true) xs 0 j → AllWithin (λ x. p x ≡ false) xs j (length xs) → take j xs ≡ filter p xs
kept p [] zero pass rest = refl
kept p [] (suc j) pass rest = refl
kept p (x ∷ xs) zero pass rest =
    let here : p x ≡ false = rest 0 x (omega arith) (omega arith) in
    subst (λ b. [] ≡ cond b (x ∷ filter p xs) (filter p xs)) (sym here) (kept p xs zero (λ k d a b. absurd (omega arith)) (λ k d a b. rest (suc k) d (omega arith) (omega arith)))
kept p (x ∷ xs) (suc j) pass rest =
    let here : p x ≡ true = pass 0 x (omega arith) (omega arith) in
    subst (λ b. x ∷ take j xs ≡ cond b (x ∷ filter p xs) (filter p xs)) (sym here)
    (ap (λ ys. x ∷ ys) (kept p xs j (λ k d a b. pass (suc k) d (omega arith) (omega arith)) (λ k d a b. rest (suc k) d (omega arith) (omega arith))))

drop-within : {X : Type 0} (P : X → Type 0) (xs : List X) (i : ℕ) → AllWithin P xs i (length xs) → All P (drop i xs)
drop-within P xs zero h = λ k d l. h k d (omega arith) l
drop-within P [] (suc i) h = λ k d l. absurd (omega arith)
drop-within P (x ∷ xs) (suc i) h = drop-within P xs i (λ k d a b. h (suc k) d (omega arith) (omega arith))

-- ---- tests by the order of texts

below_not_tied : (r : Ordering) → is_lt r ≡ true → is_eq r ≡ false
below_not_tied Less e = refl
below_not_tied Equal e = cc
below_not_tied Greater e = refl

tied : (r : Ordering) → is_lt r ≡ false → is_le r ≡ true → is_eq r ≡ true
tied Less e f = cc
tied Equal e f = refl
tied Greater e f = cc

above_not_tied : (r : Ordering) → is_le r ≡ false → is_eq r ≡ false
above_not_tied Less e = refl
above_not_tied Equal e = cc
above_not_tied Greater e = refl

not_gt : (r : Ordering) → is_le r ≡ true → is_gt r ≡ false
not_gt Less e = refl
not_gt Equal e = refl
not_gt Greater e = cc

le-from : (r : Ordering) → is_gt r ≡ false → is_le r ≡ true
le-from Less e = refl
le-from Equal e = refl
le-from Greater e = cc

not_above : (r : Ordering) → is_lt (ordering_reverse r) ≡ false → is_gt r ≡ false
not_above Less e = refl
not_above Equal e = refl
not_above Greater e = cc

lt_through : (r s t : Ordering) → (r ≡ Less → s ≡ Less → t ≡ Less) → (r ≡ Equal → t ≡ s) → is_gt r ≡ false → is_lt s ≡ true → is_lt t ≡ true
lt_through Less s t less same up h = ap is_lt (less refl (less-from s h))
lt_through Equal s t less same up h = ap is_lt (same refl) ∙ h
lt_through Greater s t less same up h = cc

-- a text that is not above one below g
not_above_text : (a b : List ℕ) → is_lt (text_cmp b a) ≡ false → is_gt (text_cmp a b) ≡ false
not_above_text a b h = not_above (text_cmp a b) (sym (ap is_lt (nat_list_cmp_total.antisymm b a)) ∙ h)

below_step : (a b g : List ℕ) → is_lt (text_cmp b a) ≡ false → is_lt (text_cmp b g) ≡ true → is_lt (text_cmp a g) ≡ true
below_step a b g up h = lt_through (text_cmp a b) (text_cmp b g) (text_cmp a g) (nat_list_cmp_total.trans a b g) (nat_list_cmp_total.congr a b g) (not_above_text a b up) h

upto_step : (a b g : List ℕ) → is_lt (text_cmp b a) ≡ false → is_le (text_cmp b g) ≡ true → is_le (text_cmp a g) ≡ true
upto_step a b g up h = le-from _ (upto nat_list_cmp_total a b g (not_above_text a b up) (not_gt _ h))

-- ---- rows that ascend by id

abbrev id_of : IdRow → List ℕ
id_of r = r.0.now

never_falls : (rs : List IdRow) → IsById rs → (i j : ℕ) (d : IdRow) → i ≤ j → j < length rs → is_lt (text_cmp (id_of (get_or rs j d)) (id_of (get_or rs i d))) ≡ false
never_falls rs up i j d h l = sorted_far (λ x y. is_lt (text_cmp (id_of x) (id_of y))) (ranks_by nat_list_cmp_total id_of) rs up i j d h l

pub below-partitioned : (g : List ℕ) (rs : List IdRow) → IsById rs → IsPartitionedBy (λ r. is_lt (text_cmp (id_of r) g)) rs
below-partitioned g rs up i j d h l t = below_step _ _ g (never_falls rs up i j d h l) t

pub upto-partitioned : (g : List ℕ) (rs : List IdRow) → IsById rs → IsPartitionedBy (λ r. is_le (text_cmp (id_of r) g)) rs
upto-partitioned g rs up i j d h l t = upto_step _ _ g (never_falls rs up i j d h l) t

pub rest-by-id : (rs : List IdRow) (i : ℕ) → IsById rs → IsById (drop i rs)
rest-by-id rs i up k d a b =
    let inside : i + k + 1 < length rs = omega (arith, length-drop i rs) in
    let next : i + (k + 1) ≡ i + k + 1 = omega arith in
    rw (get_or-drop i rs k d, get_or-drop i rs (k + 1) d, next) (up (i + k) d (omega arith) inside)

-- between the two partition points stand the rows with the id
pub rows-between : (g : List ℕ) (rs : List IdRow) (i j : ℕ) → j ≤ length (drop i rs)
    → IsPartitionPoint (λ r. is_lt (text_cmp (id_of r) g) ≡ true) (λ r. is_lt (text_cmp (id_of r) g) ≡ false) rs i
    → IsPartitionPoint (λ r. is_le (text_cmp (id_of r) g) ≡ true) (λ r. is_le (text_cmp (id_of r) g) ≡ false) (drop i rs) j
    → take j (drop i rs) ≡ filter (λ r. bytes_eq (id_of r) g) rs
rows-between g rs i j within first second =
    let p : IdRow → Bool = λ r. bytes_eq (id_of r) g in
    let same : (r : IdRow) → is_eq (text_cmp (id_of r) g) ≡ p r = λ r. is_eq-slice_cmp (id_of r) g in
    let above : All (λ r. is_lt (text_cmp (id_of r) g) ≡ false) (drop i rs) = drop-within (λ r. is_lt (text_cmp (id_of r) g) ≡ false) rs i first.1 in
    kept p (drop i rs) j
    (λ k d a b. sym (same (get_or (drop i rs) k d)) ∙ tied _ (above k d (omega arith)) (second.0 k d a b))
    (λ k d a b. sym (same (get_or (drop i rs) k d)) ∙ above_not_tied _ (second.1 k d a b))
    ∙ sym (skipped p rs i (λ k d a b. sym (same (get_or rs k d)) ∙ below_not_tied _ (first.0 k d a b)))

-- ---- the numbers of the rows with an id

pub rows_of_kept : (rs : List IdRow) (g : List ℕ) → map (λ r. r.1) (filter (λ r. bytes_eq (id_of r) g) rs) ≡ rows_of (map row_with_id rs) g
rows_of_kept [] g = refl
rows_of_kept (r ∷ rs) g =
    elim (bytes_eq (id_of r) g) as (λ b. map (λ r. r.1) (cond b (r ∷ filter (λ r. bytes_eq (id_of r) g) rs) (filter (λ r. bytes_eq (id_of r) g) rs))
    ≡ map (λ r. r.1) (cond b (row_with_id r ∷ filter (λ r. bytes_eq r.0 g) (map row_with_id rs)) (filter (λ r. bytes_eq r.0 g) (map row_with_id rs)))) [
      | true ↦ ap (λ ns. r.1 ∷ ns) (rows_of_kept rs g)
      | false ↦ rows_of_kept rs g
    ]

pub rows_of_read : (f : ℕ → List ℕ) (ns : List ℕ) (g : List ℕ) → rows_of (map (λ n. (f n, n)) ns) g ≡ filter (λ n. bytes_eq (f n) g) ns
rows_of_read f [] g = refl
rows_of_read f (n ∷ ns) g =
    let kept : List (List ℕ × ℕ) = filter (λ r. bytes_eq r.0 g) (map (λ m. (f m, m)) ns) in
    elim (bytes_eq (f n) g) as (λ b. map {A = List ℕ × ℕ} (λ r. r.1) (cond b ((f n, n) ∷ kept) kept)
    ≡ cond b (n ∷ filter (λ n. bytes_eq (f n) g) ns) (filter (λ n. bytes_eq (f n) g) ns)) [
      | true ↦ ap (λ ms. n ∷ ms) (rows_of_read f ns g)
      | false ↦ rows_of_read f ns g
    ]

-- ---- a stable sort by id keeps the order of the rows with one id

tied_by : (r : Ordering) → (not (is_lt (ordering_reverse r)) && not (is_lt r)) ≡ is_eq r
tied_by Less = refl
tied_by Equal = refl
tied_by Greater = refl

ties_texts : (a b : List ℕ) → (not (is_lt (text_cmp a b)) && not (is_lt (text_cmp b a))) ≡ bytes_eq b a
ties_texts a b =
    ap (λ r. not (is_lt r) && not (is_lt (text_cmp b a))) (nat_list_cmp_total.antisymm a b)
    ∙ tied_by (text_cmp b a) ∙ is_eq-slice_cmp b a

pub kept_in_order : (rs sorted : List IdRow) (g : Bor (List ℕ)) → IsStableByKey (λ r. r.0.now) text_cmp rs sorted
    → filter (λ r. bytes_eq (id_of r) g.now) sorted ≡ filter (λ r. bytes_eq (id_of r) g.now) rs
kept_in_order rs sorted g stable =
    let lt : IdRow → IdRow → Bool = λ x y. is_lt (text_cmp (id_of x) (id_of y)) in
    let x : IdRow = (g, 0) in
    let same : (r : IdRow) → ties lt x r ≡ bytes_eq (id_of r) g.now = λ r. ties_texts g.now (id_of r) in
    sym (same_filter (ties lt x) (λ r. bytes_eq (id_of r) g.now) same sorted) ∙ stable x ∙ same_filter (ties lt x) (λ r. bytes_eq (id_of r) g.now) same rs

pub sorted_rows : (rs sorted : List IdRow) (f : ℕ → List ℕ) (ns : List ℕ) (g : Bor (List ℕ)) → map row_with_id rs ≡ map (λ n. (f n, n)) ns
    → IsStableByKey (λ r. r.0.now) text_cmp rs sorted → rows_of (map row_with_id sorted) g.now ≡ filter (λ n. bytes_eq (f n) g.now) ns
sorted_rows rs sorted f ns g read stable =
    sym (rows_of_kept sorted g.now) ∙ ap (map (λ r. r.1)) (kept_in_order rs sorted g stable)
    ∙ rows_of_kept rs g.now ∙ ap (λ qs. rows_of qs g.now) read ∙ rows_of_read f ns g.now
