-- Rows whose key is one id: an earlier row has the key just where the first row with the id is earlier.
use Rattle.std.proofs.Common.{◌≡◌, ◌∷◌, [], ℕ, zero, suc, ◌+◌, List, true, false, Bool, Option, Some, None, arith, refl, sym, ap, ◌∙◌, inl, inr}
use Rattle.std.specs.Prelude.{◌&&◌, ◌||◌, not, if◌then◌else◌, nat_lt, bytes_eq, is_some, Ok}
use Rattle.std.specs.Cmp.Lexicographic.{pointwise}
use Rattle.std.specs.List.{filter, find, list_any, range_with_len}
use Rattle.std.specs.Result.{result_ok}
use Rattle.std.proofs.lemmas.Bool.{and_from, cases_Bool}
use Rattle.std.proofs.lemmas.Bool.Decides.{nat_tests}
use Rattle.gtfs_field.specs.Kinds.{shaped}
use Rattle.gtfs_table.specs.Tables.{Dataset}
use Rattle.gtfs_table.specs.declared.file.File.{File}
use Rattle.gtfs_schema.specs.Columns.{id}
use Rattle.gtfs_schema.specs.steps.Ids.{FirstRows, first_rows}
use Rattle.gtfs_schema.specs.KeyRules.{all_there, key_twice}
use Rattle.gtfs_schema.specs.References.{reported_column}
use Rattle.gtfs_table.specs.Rows.{is_row, records_in, rows, is_empty}
use Rattle.gtfs_schema.specs.RowConditions.{text_in}
use Rattle.gtfs_row_rules.specs.SingleKeys.{is_repeated}
use Rattle.gtfs_schema.specs.ReadFields.{is_id}
use Rattle.gtfs_schema.specs.FieldValues.{Value, word, value_eq, has_control, if_both, if_there, readable}
use Rattle.gtfs_schema.proofs.IdFacts.{first_row_is}
use Rattle.gtfs_schema.proofs.BoolFacts.{same_test, no_test, and_parts}
use Rattle.gtfs_schema.proofs.SiteFacts.{text_is, text_itself}

-- ---- the key of a text

abbrev read_id : Bool → Bool → List ℕ → Option Value
read_id empty control t = if empty then None else result_ok (shaped (not control) (Ok (word t)))

read_some : (empty control : Bool) (t : List ℕ) → is_some (read_id empty control t) ≡ true → read_id empty control t ≡ Some (word t)
read_some true control t e = cc e
read_some false true t e = cc e
read_some false false t e = refl

read_none : (o : Option Value) → is_some o ≡ false → o ≡ None
read_none None e = refl
read_none (Some v) e = cc e

abbrev pub key_of : List ℕ → Option (List Value)
key_of t = all_there (readable id t ∷ [])

abbrev pub same_keys : List ℕ → List ℕ → Bool
same_keys t u = if_both (key_of t) (key_of u) (pointwise value_eq)

no_key : (t u : List ℕ) → is_id t ≡ false → same_keys t u ≡ false
no_key t u none = rw (read_none (readable id t) none) refl

turned : (t u : List ℕ) → (bytes_eq t u && true) ≡ bytes_eq u t
turned t u = same_test (bytes_eq t u && true) (bytes_eq u t)
    (λ e. ap (λ v. bytes_eq v t) (sym (text_is t u (and_parts (bytes_eq t u) true e).0)) ∙ text_itself t)
    (λ e. and_from (bytes_eq t u) true (ap (λ v. bytes_eq v u) (sym (text_is u t e)) ∙ text_itself u) refl)

same_text : (t u : List ℕ) → is_id t ≡ true → same_keys t u ≡ bytes_eq u t
same_text t u there = elim (cases_Bool (is_id u)) [
  | inl other ↦ rw (read_some (is_empty t) (has_control t) t there, read_some (is_empty u) (has_control u) u other) (turned t u)
  | inr none ↦ rw (read_some (is_empty t) (has_control t) t there, read_none (readable id u) none)
      (sym (no_test (bytes_eq u t) (λ e. sym none ∙ ap is_id (text_is u t e) ∙ there)))
]

-- ---- the first row that passes a test

module _ (row test : ℕ → Bool) (n : ℕ) where
  pub none_below : (a k : ℕ) → nat_lt a n ≡ false → list_any (λ m. nat_lt m n && test m) (filter row (range_with_len a k)) ≡ false
  none_below a zero past = refl
  none_below a (suc k) past =
      let next : nat_lt (a + 1) n ≡ false = grind (arith, nat_tests, past) in
      elim (cases_Bool (row a)) [
        | inl there ↦ rw (there, past) (none_below (a + 1) k next)
        | inr none ↦ rw none (none_below (a + 1) k next)
      ]

  pub first_below : (a k : ℕ) → list_any (λ m. nat_lt m n && test m) (filter row (range_with_len a k))
      ≡ if_there (find test (filter row (range_with_len a k))) (λ m. nat_lt m n)
  first_below a zero = refl
  first_below a (suc k) = elim (cases_Bool (row a)) [
    | inr none ↦ rw none (first_below (a + 1) k)
    | inl there ↦ elim (cases_Bool (test a)) [
      | inr fails ↦ rw (there, fails) (no_more (nat_lt a n) (first_below (a + 1) k))
      | inl passes ↦ elim (cases_Bool (nat_lt a n)) [
        | inl below ↦ rw (there, passes, below) refl
        | inr past ↦ let next : nat_lt (a + 1) n ≡ false = grind (arith, nat_tests, past) in rw (there, passes, past) (none_below (a + 1) k next)
      ]
    ]
  ]
    where
      no_more : {x y : Bool} (b : Bool) → x ≡ y → ((b && false) || x) ≡ y
      no_more true e = e
      no_more false e = e

never : (xs : List ℕ) (n : ℕ) → list_any (λ m. nat_lt m n && false) xs ≡ false
never [] n = refl
never (x ∷ xs) n = rw (no_and (nat_lt x n)) (never xs n)
  where
    no_and : (b : Bool) → (b && false) ≡ false
    no_and true = refl
    no_and false = refl

pub first_repeats : (d : Dataset) (x : File) (text : ℕ → List ℕ) (n : ℕ)
    → list_any (λ m. nat_lt m n && same_keys (text n) (text m)) (rows d x)
    ≡ (is_id (text n) && if_there (find (λ m. bytes_eq (text m) (text n)) (rows d x)) (λ m. nat_lt m n))
first_repeats d x text n = elim (cases_Bool (is_id (text n))) [
  | inl there ↦ rw there (ap (λ (f : ℕ → Bool). list_any (λ m. nat_lt m n && f m) (rows d x)) (λ i m. same_text (text n) (text m) there i)
      ∙ first_below (is_row (records_in d x)) (λ m. bytes_eq (text m) (text n)) n 2 _)
  | inr none ↦ rw none (ap (λ (f : ℕ → Bool). list_any (λ m. nat_lt m n && f m) (rows d x)) (λ i m. no_key (text n) (text m) none i) ∙ never (rows d x) n)
]

pub single_reported : (d : Dataset) (x : File) (name : List ℕ) (i : FirstRows) → i ≡ first_rows d x name → (n : ℕ)
    → (is_row (records_in d x) n && list_any (λ m. nat_lt m n && same_keys (text_in d x n name) (text_in d x m name)) (rows d x))
    ≡ (is_row (records_in d x) n && is_repeated i (text_in d x n name) n)
single_reported d x name i ids n =
    let row = is_row (records_in d x) n in
    let text = text_in d x n name in
    ap (λ b. row && b) (first_repeats d x (λ m. text_in d x m name) n)
    ∙ (λ k. row && (is_id text && if_there (sym (first_row_is d x name text) k) (λ m. nat_lt m n)))
    ∙ (λ k. row && is_repeated (sym ids k) text n)

-- the rule reads the ids and the text that are asked for
pub repeats_alike : (reported row : Bool) (i j : FirstRows) (t u : List ℕ) (n : ℕ) → reported ≡ (row && is_repeated i t n) → j ≡ i → u ≡ t → reported ≡ (row && is_repeated j u n)
repeats_alike reported row i j t u n rule ids text = rule ∙ (λ k. row && is_repeated (sym ids k) (sym text k) n)

-- ---- reported at one column

pub key_there : (d : Dataset) (x : File) (n : ℕ) (name : List ℕ) → key_twice d x n name ≡ true → bytes_eq name (reported_column x) ≡ true
key_there d x n name e =
    let row = is_row (records_in d x) n in
    (and_parts (bytes_eq name (reported_column x)) row (and_parts (bytes_eq name (reported_column x) && row) _ e).0).0
