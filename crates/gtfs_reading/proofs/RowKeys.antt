-- No two rows of a dataset that passes have one key.
use Rattle.std.proofs.Common.{◌≡◌, ℕ, zero, suc, ◌+◌, ◌-◌, ◌<◌, ◌∷◌, [], List, length, get_or, true, false, Bool, codes, Some, refl, sym, ◌∙◌, subst, arith, inl, inr}
use Rattle.std.specs.Prelude.{◌==◌, ◌&&◌, filter, nat_lt, option_and_then, ℤ}
use Prim.Native.String.{String as Literal}
use Rattle.std.specs.Cmp.Lexicographic.{pointwise}
use Rattle.std.specs.List.{All, AllPairs, range_with_len}
use Rattle.std.proofs.lemmas.Bool.{and_from, cases_Bool, eqb-true}
use Rattle.std.proofs.lemmas.Bool.Decides.{nat_tests}
use Rattle.std.proofs.lemmas.List.Elements.{All-cons, All-filter, filter_passes}
use Rattle.std.proofs.lemmas.List.Kept.{AllPairs-cons, AllPairs-filter}
use Rattle.gtfs_table.specs.Rows.{is_row, records_in, rows}
use Rattle.gtfs_table.specs.Tables.{Dataset}
use Rattle.gtfs_table.specs.declared.file.File.{File}
use Rattle.gtfs_table.proofs.RowFacts.{row_among}
use Rattle.gtfs_schema.specs.declared.code.Code.TheVariants as code
use Rattle.gtfs_schema.specs.KeyRules.{all_there, key_in, same_key}
use Rattle.gtfs_schema.specs.Problems.{Passes, kept}
use Rattle.gtfs_schema.specs.References.{reported_column}
use Rattle.gtfs_schema.specs.RowConditions.{value_in, word_in}
use Rattle.gtfs_schema.specs.FieldValues.{as_amount, if_both, is_word, value_eq}
use Rattle.gtfs_schema.proofs.EachFacts.{any_follows}
use Rattle.gtfs_schema.proofs.SiteFacts.{text_itself}
use Rattle.gtfs_schema.proofs.ValueFacts.{amount_value, is_word_some, word_value}
use Rattle.gtfs_rules.proofs.PassedStopTimes.{have_one_key, one_key}

-- ---- rows ascend

from_on : (a b k : ℕ) → a < b → All (λ n. a < n) (range_with_len b k)
from_on a b zero h = λ i d l. absurd (omega arith)
from_on a b (suc k) h = All-cons (λ n. a < n) b (range_with_len (b + 1) k) h (from_on a (b + 1) k (omega (arith, h)))

range_up : (a k : ℕ) → AllPairs (λ m n. m < n) (range_with_len a k)
range_up a zero = λ i j d h l. absurd (omega arith)
range_up a (suc k) = AllPairs-cons (λ m n. m < n) a (range_with_len (a + 1) k) (from_on a (a + 1) k (omega arith)) (range_up (a + 1) k)

pub rows_up : (d : Dataset) (x : File) → AllPairs (λ m n. m < n) (rows d x)
rows_up d x = AllPairs-filter (λ m n. m < n) (is_row (records_in d x)) (range_with_len 2 (length (records_in d x) - 1)) (range_up 2 (length (records_in d x) - 1))

pub all_rows : (d : Dataset) (x : File) → All (λ n. is_row (records_in d x) n ≡ true) (rows d x)
all_rows d x = filter_passes (is_row (records_in d x)) (range_with_len 2 (length (records_in d x) - 1))

-- ---- keys

module _ (d : Dataset) (passes : Passes d) (x : File) where
  pub keys_apart : (m n : ℕ) → is_row (records_in d x) m ≡ true → is_row (records_in d x) n ≡ true → m < n → same_key d x n m ≡ false
  keys_apart m n first second below = elim (cases_Bool (same_key d x n m)) [
    | inl same ↦
        let earlier : nat_lt m n ≡ true = grind (arith, nat_tests, below) in
        let there = any_follows (λ k. m == k) (λ k. nat_lt k n && same_key d x n k) (rows d x)
        (λ k is. subst (λ (j : ℕ). (nat_lt j n && same_key d x n j) ≡ true) (eqb-true m k is) (and_from (nat_lt m n) (same_key d x n m) earlier same))
        (row_among d x m first) in
        cc (rw (text_itself (reported_column x), second, there) at (passes (record { file = kept x; row = n; code = code.E09; column = reported_column x }) refl))
    | inr other ↦ other
  ]

-- ---- keys of two parts, an id and a number

module _ (d : Dataset) (passes : Passes d) (x : File) (id number : Literal)
    (of_two : (n : ℕ) → key_in d x n ≡ all_there (value_in d x n (codes id) ∷ value_in d x n (codes number) ∷ [])) where
  -- the rows with an id
  abbrev rows_named : List ℕ → List ℕ
  rows_named t = filter (λ n. is_word (word_in d x n id) t) (rows d x)

  clash : (m n : ℕ) → is_row (records_in d x) m ≡ true → is_row (records_in d x) n ≡ true → m < n → (t : List ℕ) (a : ℤ)
      → word_in d x m id ≡ Some t → word_in d x n id ≡ Some t
      → option_and_then as_amount (value_in d x m (codes number)) ≡ Some a → option_and_then as_amount (value_in d x n (codes number)) ≡ Some a → ⊥
  clash m n first second below t a first_id second_id first_number second_number =
      let one : same_key d x n m ≡ have_one_key (value_in d x n (codes id)) (value_in d x n (codes number)) (value_in d x m (codes id)) (value_in d x m (codes number)) =
      λ i. if_both (of_two n i) (of_two m i) (pointwise value_eq) in
      let same : have_one_key (value_in d x n (codes id)) (value_in d x n (codes number)) (value_in d x m (codes id)) (value_in d x m (codes number)) ≡ true =
      (λ i. have_one_key (word_value (value_in d x n (codes id)) t second_id i) (amount_value (value_in d x n (codes number)) a second_number i)
      (word_value (value_in d x m (codes id)) t first_id i) (amount_value (value_in d x m (codes number)) a first_number i)) ∙ one_key t a in
      let no : true ≡ false = sym same ∙ sym one ∙ keys_apart d passes x m n first second below in
      cc no

  -- of the rows with an id no two have one number
  pub numbers_apart : (t : List ℕ) → AllPairs (λ m n. (a : ℤ) → option_and_then as_amount (value_in d x m (codes number)) ≡ Some a
      → option_and_then as_amount (value_in d x n (codes number)) ≡ Some a → ⊥) (rows_named t)
  numbers_apart t i j e h l a first second =
      let test : ℕ → Bool = λ n. is_word (word_in d x n id) t in
      let up = AllPairs-filter (λ m n. m < n) test (rows d x) (rows_up d x) in
      let are = All-filter test (λ n. is_row (records_in d x) n ≡ true) (rows d x) (all_rows d x) in
      let named = filter_passes test (rows d x) in
      clash (get_or (rows_named t) i e) (get_or (rows_named t) j e) (are i e (omega (arith, h, l))) (are j e l) (up i j e h l) t a
      (is_word_some _ t (named i e (omega (arith, h, l)))) (is_word_some _ t (named j e l)) first second
