-- What holds of rows holds of the rows by key that they make, and each key stands there once.
use Rattle.std.proofs.Common.{◌≡◌, ◌+◌, Bool, true, false, cond, T, List, [], ◌∷◌, Less, Equal, Greater, Ordering, refl, sym, ap, ◌∙◌, subst, inl, inr, length, map, count_by, true≢false, arith, zero-add, eq-eqb}
use Rattle.std.specs.Prelude.{◌==◌}
use Rattle.std.specs.List.{list_all}
use Rattle.std.specs.Ordering.{is_lt, is_eq, eq_by_cmp, on, ordering_reverse}
use Rattle.std.specs.Cmp.{IsTotalOrder, tied_itself}
use Rattle.std.specs.FinMap as table
use Rattle.std.proofs.lemmas.Bool.{and_parts}
use Rattle.std.proofs.lemmas.List.Kept.{AllPairs-cons}
use Rattle.std.proofs.lemmas.List.Sums.{sum_by-cons}
use Rattle.gtfs_rows.specs.TransferOrder.{Ascends, by_key}
use Rattle.gtfs_rows.proofs.Members.{In, In-map, all-from, list_all-from}

module _ {K X : Type 0} (R : K → K → Ordering) (o : IsTotalOrder R) (key : X → K) where
  abbrev Entries : Type 0
  Entries = List (K × X)

  -- each entry's value is one of the rows, and its key is the row's
  abbrev Stands : List X → Entries → Type 0
  Stands rows es = (e : K × X) → In e es → In e.1 rows × (R (key e.1) e.0 ≡ Equal)

  stands-put : (rows : List X) (r : X) (es : Entries) → In r rows → Stands rows es → Stands rows (table.put R (key r) r es)
  stands-put rows r [] i h = at-head-of (key r, r) [] (i, tied_itself o (key r)) h
    where
      at-head-of : (y : K × X) (ys : Entries) → (In y.1 rows × (R (key y.1) y.0 ≡ Equal)) → Stands rows ys → Stands rows (y ∷ ys)
      at-head-of y ys p q e (inl f) = (subst (λ v. In v rows) (ap (λ v. v.1) f) p.0, ap (λ v. R (key v.1) v.0) (sym f) ∙ p.1)
      at-head-of y ys p q e (inr j) = q e j
  stands-put rows r (x ∷ xs) i h =
      elim (R (key r) x.0) as (λ q. R (key r) x.0 ≡ q → Stands rows (table.Entries.by_order q ((key r, r) ∷ x ∷ xs) ((x.0, r) ∷ xs) (x ∷ table.put R (key r) r xs))) [
        | Less ↦ λ t. at-head (key r, r) (x ∷ xs) (i, tied_itself o (key r)) h
        | Equal ↦ λ t. at-head (x.0, r) xs (i, t) (λ e j. h e (inr j))
        | Greater ↦ λ t. at-head x (table.put R (key r) r xs) (h x (inl refl)) (stands-put rows r xs i (λ e j. h e (inr j)))
      ] refl
    where
      at-head : (y : K × X) (ys : Entries) → (In y.1 rows × (R (key y.1) y.0 ≡ Equal)) → Stands rows ys → Stands rows (y ∷ ys)
      at-head y ys p q e (inl f) = (subst (λ v. In v rows) (ap (λ v. v.1) f) p.0, ap (λ v. R (key v.1) v.0) (sym f) ∙ p.1)
      at-head y ys p q e (inr j) = q e j

  abbrev entry : X → K × X
  entry r = (key r, r)

  no_entries : (es : Entries) → length es ≡ 0 → (e : K × X) → In e es → ⊥
  no_entries [] n e i = i
  no_entries (x ∷ xs) n e i = absurd (omega arith)

  stands-rows : (all rows : List X) → ((r : X) → In r rows → In r all) → Stands all (table.entries (table.from_entries {R = R} (map entry rows)))
  stands-rows all [] h = λ e i. absurd (no_entries _ (sym (table.len-entries (table.empty {X = X} {R = R})) ∙ table.len-empty R X) e i)
  stands-rows all (r ∷ rs) h = subst (Stands all) (sym (table.entries-insert o (table.from_entries {R = R} (map entry rs)) (key r) r)) (stands-put all r _ (h r (inl refl)) (stands-rows all rs (λ s i. h s (inr i))))

  -- a row by key is one of the rows
  pub In-by_key : (rows : List X) (r : X) → In r (by_key R key rows) → In r rows
  In-by_key rows r i =
      let e = In-map (λ e. e.1) (table.entries (table.from_entries {R = R} (map entry rows))) r i in
      subst (λ v. In v rows) e.2 (stands-rows rows rows (λ s j. j) e.0 e.1).0

  -- ---- each key once

  count-cons : (q : K) (e : K × X) (es : Entries) → count_by (λ e. eq_by_cmp R q e.0) (e ∷ es) ≡ cond (eq_by_cmp R q e.0) 1 0 + count_by (λ e. eq_by_cmp R q e.0) es
  count-cons q e es = sum_by-cons (λ e. cond (eq_by_cmp R q e.0) 1 0) e es

  less : (r : Ordering) → is_lt r ≡ true → is_eq r ≡ false
  less Less h = refl
  less Equal h = absurd (true≢false (sym h))
  less Greater h = refl

  T-true : (b : Bool) → T b → b ≡ true
  T-true true h = refl
  T-true false h = absurd h

  true-T : (b : Bool) → b ≡ true → T b
  true-T b e = subst T (sym e) tt

  none-above : (q y : K) → R q y ≡ Equal → (es : Entries) → T (table.Entries.below_all R y es) → count_by (λ e. eq_by_cmp R q e.0) es ≡ 0
  none-above q y t [] h = refl
  none-above q y t (e ∷ es) h =
      let p = and_parts _ _ (T-true _ h) in
      count-cons q e es ∙ ap (λ b. cond b 1 0 + count_by (λ e. eq_by_cmp R q e.0) es) (less (R q e.0) (ap is_lt (o.congr q y e.0 t) ∙ p.0))
      ∙ zero-add _ ∙ none-above q y t es (true-T _ p.1)

  once : (es : Entries) → T (table.is_sorted R es) → (q : K) (e : K × X) → In e es → R q e.0 ≡ Equal → count_by (λ e. eq_by_cmp R q e.0) es ≡ 1
  once [] h q e i t = elim i [ ]
  once (x ∷ xs) h q e (inl f) t =
      let p = and_parts _ _ (T-true _ h) in
      let tied : R q x.0 ≡ Equal = ap (λ v. R q v.0) f ∙ t in
      count-cons q x xs ∙ (λ i. cond (is_eq (tied i)) 1 0 + none-above q x.0 tied xs (true-T _ p.0) i)
  once (x ∷ xs) h q e (inr j) t =
      let p = and_parts _ _ (T-true _ h) in
      let apart : eq_by_cmp R q x.0 ≡ false = above-not q e.0 x.0 t (below-In xs x.0 p.0 e j) in
      count-cons q x xs ∙ (λ i. cond (apart i) 1 0 + once xs (true-T _ p.1) q e j t i)
    where
      below-In : (es : Entries) (y : K) → table.Entries.below_all R y es ≡ true → (e : K × X) → In e es → is_lt (R y e.0) ≡ true
      below-In [] y h e i = elim i [ ]
      below-In (x ∷ xs) y h e (inl f) = ap (λ v. is_lt (R y v.0)) (sym f) ∙ (and_parts _ _ h).0
      below-In (x ∷ xs) y h e (inr i) = below-In xs y (and_parts _ _ h).1 e i

      turned : (r : Ordering) → is_lt r ≡ true → is_eq (ordering_reverse r) ≡ false
      turned Less h = refl
      turned Equal h = absurd (true≢false (sym h))
      turned Greater h = absurd (true≢false (sym h))

      above-not : (q k y : K) → R q k ≡ Equal → is_lt (R y k) ≡ true → eq_by_cmp R q y ≡ false
      above-not q k y t l = ap is_eq (o.congr q k y t ∙ o.antisymm k y) ∙ turned (R y k) l

  count-values : (test : X → Bool) (q : K) (es : Entries) → ((e : K × X) → In e es → test e.1 ≡ eq_by_cmp R q e.0) → count_by test (map (λ e. e.1) es) ≡ count_by (λ e. eq_by_cmp R q e.0) es
  count-values test q [] h = refl
  count-values test q (e ∷ es) h = sum_by-cons (λ x. cond (test x) 1 0) e.1 (map (λ e. e.1) es) ∙ (λ i. cond (h e (inl refl) i) 1 0 + count-values test q es (λ f j. h f (inr j)) i) ∙ sym (count-cons q e es)

  -- of a test that ties rows as their keys tie, each row by key passes exactly one
  pub once-by_key : (same : X → X → Bool) → ((x y : X) → same x y ≡ eq_by_cmp R (key x) (key y)) → (rows : List X)
      → list_all (λ x. count_by (same x) (by_key R key rows) == 1) (by_key R key rows) ≡ true
  once-by_key same ties rows =
      let m = table.from_entries {R = R} (map entry rows) in
      let es = table.entries m in
      let stands = stands-rows rows rows (λ r i. i) in
      list_all-from _ (map (λ e. e.1) es) (λ x i.
      let e = In-map (λ e. e.1) es x i in
      let t : R (key x) e.0.0 ≡ Equal = ap (λ v. R (key v) e.0.0) (sym e.2) ∙ (stands e.0 e.1).1 in
      eq-eqb _ _ (count-values (same x) (key x) es (λ f j. ties x f.1 ∙ ap is_eq (flip (key x) (key f.1) f.0 (stands f j).1)) ∙ once es (table.entries_sorted m) (key x) e.0 e.1 t))
    where
      -- a key may stand for one that ties with it
      flip : (q x y : K) → R x y ≡ Equal → R q x ≡ R q y
      flip q x y t = o.antisymm q x ∙ ap ordering_reverse (o.congr x y q t) ∙ sym (o.antisymm q y)

  -- ---- rows by key ascend

  turn : (q x y : K) → R x y ≡ Equal → R q x ≡ R q y
  turn q x y t = o.antisymm q x ∙ ap ordering_reverse (o.congr x y q t) ∙ sym (o.antisymm q y)

  is_less : (r : Ordering) → is_lt r ≡ true → r ≡ Less
  is_less Less h = refl
  is_less Equal h = absurd (true≢false (sym h))
  is_less Greater h = absurd (true≢false (sym h))

  below-each : (es : Entries) (y : K) → table.Entries.below_all R y es ≡ true → (e : K × X) → In e es → is_lt (R y e.0) ≡ true
  below-each [] y h e i = elim i [ ]
  below-each (x ∷ xs) y h e (inl f) = ap (λ v. is_lt (R y v.0)) (sym f) ∙ (and_parts _ _ h).0
  below-each (x ∷ xs) y h e (inr i) = below-each xs y (and_parts _ _ h).1 e i

  abbrev IsOwn : K × X → Type 0
  IsOwn e = R (key e.1) e.0 ≡ Equal

  below-own : (x y : K × X) → IsOwn x → IsOwn y → is_lt (R x.0 y.0) ≡ true → R (key x.1) (key y.1) ≡ Less
  below-own x y own other less = o.congr (key x.1) x.0 (key y.1) own ∙ turn x.0 (key y.1) y.0 other ∙ is_less (R x.0 y.0) less

  ascends-values : (es : Entries) → ((e : K × X) → In e es → IsOwn e) → T (table.is_sorted R es) → Ascends (on key R) (map (λ e. e.1) es)
  ascends-values [] own h = λ i j d less within. absurd (omega arith)
  ascends-values (x ∷ xs) own h =
      let p = and_parts _ _ (T-true _ h) in
      AllPairs-cons (λ y z. R (key y) (key z) ≡ Less) x.1 (map (λ e. e.1) xs)
      (all-from (λ z. R (key x.1) (key z) ≡ Less) (map (λ e. e.1) xs) (λ z i.
      let e = In-map (λ e. e.1) xs z i in
      subst (λ v. R (key x.1) (key v) ≡ Less) e.2 (below-own x e.0 (own x (inl refl)) (own e.0 (inr e.1)) (below-each xs x.0 p.0 e.0 e.1))))
      (ascends-values xs (λ e i. own e (inr i)) (true-T _ p.1))

  pub ascends-by_key : (rows : List X) → Ascends (on key R) (by_key R key rows)
  ascends-by_key rows =
      let m = table.from_entries {R = R} (map entry rows) in
      ascends-values (table.entries m) (λ e i. (stands-rows rows rows (λ r j. j) e i).1) (table.entries_sorted m)
