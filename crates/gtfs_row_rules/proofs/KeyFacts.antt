-- Rows that repeat an earlier key, as a loop over the rows finds them.
use Rattle.std.proofs.Common.{◌≡◌, ◌+◌, ◌≤◌, ℕ, zero, suc, List, [], ◌∷◌, ◌++◌, true, false, Bool, refl, sym, ap, ◌∙◌, arith, inl, inr}
use Rattle.std.specs.Prelude.{◌&&◌, ◌||◌, nat_lt, filter, Option, Some, None, option_map}
use Rattle.std.specs.List.{list_any, range_with_len}
use Rattle.std.specs.Cmp.Lexicographic.{pointwise}
use Rattle.std.specs.Cmp.{IsTotalOrder}
use Rattle.std.specs.Ordering.{eq_by_cmp, is_eq}
use Rattle.std.specs.declared.cmp.Ordering.{Ordering}
use Rattle.std.proofs.lemmas.Bool.{cases_Bool}
use Rattle.std.proofs.lemmas.Bool.Decides.{nat_tests}
use Rattle.std.proofs.lemmas.Cmp.{eq_by_cmp_equiv}
use Rattle.std.proofs.lemmas.List.Folds.{list_any-append}
use Rattle.gtfs_table.specs.Tables.{Dataset}
use Rattle.gtfs_table.specs.declared.file.File.{File}
use Rattle.gtfs_table.specs.Rows.{is_row, records_in, rows}
use Rattle.gtfs_row_rules.specs.RowKeys.{KeyAt, has_key, repeats_key}
use Rattle.gtfs_schema.specs.FieldValues.{Value, value_eq, if_there, if_both}
use Rattle.gtfs_row_rules.proofs.SingleKeyFacts.{none_below}

-- ---- the rows before one of them are those of lower numbers

head_is : (a b : ℕ) (xs ys : List ℕ) → (a ∷ xs) ≡ (b ∷ ys) → a ≡ b
head_is a b xs ys e = cc e

tail_is : (a b : ℕ) (xs ys : List ℕ) → (a ∷ xs) ≡ (b ∷ ys) → xs ≡ ys
tail_is a b xs ys e = cc e

not_among : {X : Type 0} (before after : List ℕ) (n : ℕ) → [] ≡ before ++ n ∷ after → X
not_among [] after n e = cc e
not_among (b ∷ before) after n e = cc e

module _ (row : ℕ → Bool) (n : ℕ) where
  from_start : (a k : ℕ) (before after : List ℕ) → filter row (range_with_len a k) ≡ before ++ n ∷ after → a ≤ n
  from_start a zero before after e = not_among before after n e
  from_start a (suc k) before after e = elim (cases_Bool (row a)) [
    | inr none ↦ (let later : a + 1 ≤ n = from_start (a + 1) k before after (rw none at e) in omega (arith, later))
    | inl here ↦ within (λ bs. from_start (a + 1) k bs after) before (rw here at e)
  ]
    where
      within : ((bs : List ℕ) → filter row (range_with_len (a + 1) k) ≡ bs ++ n ∷ after → a + 1 ≤ n)
          → (bs : List ℕ) → (a ∷ filter row (range_with_len (a + 1) k)) ≡ bs ++ n ∷ after → a ≤ n
      within further [] same = let first : a ≡ n = head_is a n _ after same in omega (arith, first)
      within further (b ∷ bs) same =
          let later : a + 1 ≤ n = further bs (tail_is a b _ (bs ++ n ∷ after) same) in
          omega (arith, later)

  pub any_before : (test : ℕ → Bool) (a k : ℕ) (before after : List ℕ) → filter row (range_with_len a k) ≡ before ++ n ∷ after
      → list_any (λ m. nat_lt m n && test m) (filter row (range_with_len a k)) ≡ list_any test before
  any_before test a zero before after e = not_among before after n e
  any_before test a (suc k) before after e = elim (cases_Bool (row a)) [
    | inr none ↦ rw none (any_before test (a + 1) k before after (rw none at e))
    | inl here ↦ rw here (at_one (λ bs. any_before test (a + 1) k bs after) before (rw here at e))
  ]
    where
      at_one : ((bs : List ℕ) → filter row (range_with_len (a + 1) k) ≡ bs ++ n ∷ after
          → list_any (λ m. nat_lt m n && test m) (filter row (range_with_len (a + 1) k)) ≡ list_any test bs)
          → (bs : List ℕ) → (a ∷ filter row (range_with_len (a + 1) k)) ≡ bs ++ n ∷ after
          → ((nat_lt a n && test a) || list_any (λ m. nat_lt m n && test m) (filter row (range_with_len (a + 1) k))) ≡ list_any test bs
      at_one further [] same =
          let first : a ≡ n = head_is a n _ after same in
          let past : nat_lt a n ≡ false = grind (arith, nat_tests, first) in
          let later : nat_lt (a + 1) n ≡ false = grind (arith, nat_tests, first) in
          rw past (none_below row test n (a + 1) k later)
      at_one further (b ∷ bs) same =
          let rest = tail_is a b _ (bs ++ n ∷ after) same in
          let above : a + 1 ≤ n = from_start (a + 1) k bs after rest in
          let below : nat_lt a n ≡ true = grind (arith, nat_tests, above) in
          rw below ((λ i. test (head_is a b _ (bs ++ n ∷ after) same i) || further bs rest i))

-- ---- keys so far

any_none : {X : Type 0} (xs : List X) → list_any (λ x. false) xs ≡ false
any_none [] = refl
any_none (x ∷ xs) = any_none xs

pub repeated_among : (key : KeyAt) (d : Dataset) (x : File) (n : ℕ) (before after : List ℕ) → rows d x ≡ before ++ n ∷ after
    → if_there (key n) (has_key key before) ≡ repeats_key key d x n
repeated_among key d x n before after split =
    among (key n) ∙ sym (any_before (is_row (records_in d x)) n (λ m. if_both (key n) (key m) (pointwise value_eq)) 2 _ before after split)
  where
    among : (o : Option (List Value)) → if_there o (has_key key before) ≡ list_any (λ m. if_both o (key m) (pointwise value_eq)) before
    among None = sym (any_none before)
    among (Some v) = refl

or_none : (a b : Bool) → (a || b) ≡ (a || (b || false))
or_none true b = refl
or_none false true = refl
or_none false false = refl

module _ {K : Type 0} (parts : K → List Value) (key : KeyAt) (before : List ℕ) (n : ℕ) where
  pub seen_here : (o : Option K) (had : K → Bool) → ((q : K) → had q ≡ has_key key before (parts q)) → option_map parts o ≡ key n
      → if_there o had ≡ if_there (key n) (has_key key before)
  seen_here None had same e = ap (λ v. if_there v (has_key key before)) e
  seen_here (Some k) had same e = same k ∙ ap (λ v. if_there v (has_key key before)) e

  same_there : (cmp : K → K → Ordering) → IsTotalOrder cmp → ((a b : K) → is_eq (cmp a b) ≡ pointwise value_eq (parts a) (parts b)) → (o : Option K) (q : K)
      → if_there o (λ k. eq_by_cmp cmp k q) ≡ if_there (option_map parts o) (pointwise value_eq (parts q))
  same_there cmp total alike None q = refl
  same_there cmp total alike (Some k) q = (eq_by_cmp_equiv total).symm k q ∙ alike q k

  pub has_more : (cmp : K → K → Ordering) → IsTotalOrder cmp → ((a b : K) → is_eq (cmp a b) ≡ pointwise value_eq (parts a) (parts b)) → (o : Option K)
      → option_map parts o ≡ key n → (q : K) (had has : Bool) → had ≡ has_key key before (parts q)
      → has ≡ (had || if_there o (λ k. eq_by_cmp cmp k q)) → has ≡ has_key key (before ++ n ∷ []) (parts q)
  has_more cmp total alike o e q had has same added =
      added ∙ (λ i. same i || (same_there cmp total alike o q ∙ ap (λ v. if_there v (pointwise value_eq (parts q))) e) i)
      ∙ or_none (has_key key before (parts q)) (if_there (key n) (pointwise value_eq (parts q)))
      ∙ sym (list_any-append (λ m. if_there (key m) (pointwise value_eq (parts q))) before (n ∷ []))
