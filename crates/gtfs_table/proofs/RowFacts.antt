-- The rows of a file, as an iterator hands them out and as a loop over it takes them.
use Rattle.std.proofs.Common.{◌≡◌, ℕ, zero, suc, ◌+◌, ◌-◌, ◌<◌, ◌≤◌, Bool, true, false, List, [], ◌∷◌, ◌++◌, map, length, Option, Some, None, refl, sym, ap, ◌∙◌, inl, inr, arith, append-nil}
use Rattle.std.specs.Prelude.{◌&&◌, ◌==◌, not, nat_lt, nat_le, filter, find}
use Rattle.std.specs.Iterator.{Yields, YieldsFirst}
use Rattle.std.specs.List.{All, filter_map, list_any, range_with_len}
use Rattle.std.proofs.lemmas.Bool.{and_parts, cases_Bool, or_right}
use Rattle.std.proofs.lemmas.Bool.Decides.{nat_tests}
use Rattle.std.proofs.lemmas.List.{map-append}
use Rattle.std.proofs.lemmas.List.Elements.{All-nil, All-cons, All-head, All-tail, filter_map-append, filter_passes}
use Rattle.gtfs_table.specs.Blanks.{cut}
use Rattle.gtfs_table.specs.Rows.{Row, is_among, is_empty, is_row, numbered, numbers, records_in, rows, rows_past}
use Rattle.gtfs_table.specs.Tables.{Dataset, Records, column_of, field_under, record_at, value}
use Rattle.gtfs_table.specs.declared.file.File.{File}

-- ---- from one record to the next

range_next : (passed end : ℕ) → passed < end → range_with_len (passed + 1) (end - passed) ≡ (passed + 1) ∷ range_with_len (passed + 1 + 1) (end - (passed + 1))
range_next passed end below = let left : end - passed ≡ suc (end - (passed + 1)) = omega arith in rw left refl

abbrev has_value : List (List ℕ) → Bool
has_value r = list_any (λ field. not (is_empty (cut field))) r

module _ (rs : Records) (passed : ℕ) (after_header : 0 < passed) where
  row_test : passed < length rs → is_row rs (passed + 1) ≡ has_value (record_at rs (passed + 1))
  row_test below =
      let low : nat_lt 1 (passed + 1) ≡ true = grind (arith, nat_tests, after_header) in
      let high : nat_le (passed + 1) (length rs) ≡ true = grind (arith, nat_tests, below) in
      rw (low, high) refl

  -- a record that is not blank is the next row
  pub row_next : passed < length rs → (r : List (List ℕ)) → r ≡ record_at rs (passed + 1) → has_value r ≡ true
      → rows_past rs passed ≡ (passed + 1, r) ∷ rows_past rs (passed + 1)
  row_next below r is there =
      let row : is_row rs (passed + 1) ≡ true = row_test below ∙ ap has_value (sym is) ∙ there in
      rw (range_next passed (length rs) below, row, is) refl

  -- a blank one is passed over
  pub row_passed : passed < length rs → (r : List (List ℕ)) → r ≡ record_at rs (passed + 1) → has_value r ≡ false
      → rows_past rs passed ≡ rows_past rs (passed + 1)
  row_passed below r is none =
      let blank : is_row rs (passed + 1) ≡ false = row_test below ∙ ap has_value (sym is) ∙ none in
      rw (range_next passed (length rs) below, blank) refl

-- ---- a loop over the rows of a file: what it took, and what is left

-- a step of the iterator
abbrev pub row_steps : List Row → Option Row → List Row → Type 0
row_steps = YieldsFirst (λ rows. rows)

taken_left : (all taken left : List Row) → Yields row_steps all taken left → all ≡ taken ++ left
taken_left all [] left same = same
taken_left all (row ∷ taken) left (next, here, then) = here ∙ ap (λ rows. row ∷ rows) (taken_left next taken left then)

numbers_numbered : (rs : Records) (ns : List ℕ) → numbers (map (numbered rs) ns) ≡ ns
numbers_numbered rs [] = refl
numbers_numbered rs (n ∷ ns) = ap (λ ms. n ∷ ms) (numbers_numbered rs ns)

-- what an iterator hands out for a row
abbrev IsRowOf : Records → Row → Type 0
IsRowOf rs row = (is_row rs row.0 ≡ true) × (row.1 ≡ record_at rs row.0)

all_rows : (rs : Records) (ns : List ℕ) → All (λ n. is_row rs n ≡ true) ns → All (IsRowOf rs) (map (numbered rs) ns)
all_rows rs [] h = All-nil (IsRowOf rs)
all_rows rs (n ∷ ns) h = All-cons (IsRowOf rs) (numbered rs n) (map (numbered rs) ns) (All-head (λ m. is_row rs m ≡ true) n ns h, refl) (all_rows rs ns (All-tail (λ m. is_row rs m ≡ true) n ns h))

middle_has : {X : Type 0} (P : X → Type 0) (before : List X) (x : X) (after : List X) → All P (before ++ x ∷ after) → P x
middle_has P [] x after h = All-head P x after h
middle_has P (b ∷ before) x after h = middle_has P before x after (All-tail P b (before ++ x ∷ after) h)

-- a turn at the row n with the record r, after the rows that were taken
pub record IsTurn (d : Dataset) (x : File) (taken : List Row) (n : ℕ) (r : List (List ℕ)) (left : List Row) : Type 0 where
  pub is_row : is_row (records_in d x) n ≡ true
  pub record_is : r ≡ record_at (records_in d x) n
  pub split : rows d x ≡ numbers taken ++ n ∷ numbers left

module _ (d : Dataset) (x : File) (all taken left : List Row) (of_file : all ≡ map (numbered (records_in d x)) (rows d x)) (ran : Yields row_steps all taken left) where
  numbers_split : rows d x ≡ numbers taken ++ numbers left
  numbers_split = sym (numbers_numbered (records_in d x) (rows d x)) ∙ ap numbers (sym of_file ∙ taken_left all taken left ran) ∙ map-append (λ row. row.0) taken left

  -- at an item
  pub turn : (n : ℕ) (r : List (List ℕ)) (after : List Row) → left ≡ (n, r) ∷ after → IsTurn d x taken n r after
  turn n r after here =
      let rs = records_in d x in
      let ns = range_with_len 2 (length rs - 1) in
      let split : map (numbered rs) (rows d x) ≡ taken ++ (n, r) ∷ after = sym of_file ∙ taken_left all taken left ran ∙ ap (λ rows. taken ++ rows) here in
      let row : IsRowOf rs (n, r) = middle_has (IsRowOf rs) taken (n, r) after (rw split at (all_rows rs (rows d x) (filter_passes (is_row rs) ns))) in
      record { is_row = row.0; record_is = row.1; split = rw here at numbers_split }

  -- after the last one
  pub all_taken : left ≡ [] → numbers taken ≡ rows d x
  all_taken none = sym (rw (none, append-nil) at numbers_split)

pub numbers_more : (taken : List Row) (n : ℕ) (r : List (List ℕ)) → numbers (taken ++ (n, r) ∷ []) ≡ numbers taken ++ n ∷ []
numbers_more taken n r = map-append (λ row. row.0) taken ((n, r) ∷ [])

-- the value of a column, found in its record
pub value_is : (rs : Records) (n : ℕ) (r : List (List ℕ)) (name : List ℕ) (column : Option ℕ) → r ≡ record_at rs n → column ≡ column_of rs name
    → field_under r column ≡ value rs n name
value_is rs n r name column same found = rw (same, found) refl

-- ---- a list of what each row gives

module _ (taken : List Row) (n : ℕ) (r : List (List ℕ)) where
  -- an item for each row
  pub listed_more : {A B : Type 0} (f : A → B) (g : ℕ → B) (xs : List A) (x : A) → map f xs ≡ map g (numbers taken) → f x ≡ g n
      → map f (xs ++ x ∷ []) ≡ map g (numbers (taken ++ (n, r) ∷ []))
  listed_more f g xs x before same = rw (numbers_more taken n r, map-append f xs (x ∷ []), map-append g (numbers taken) (n ∷ []), before, same) refl

  -- an item for some rows: this row gives none
  pub read_none : {B : Type 0} (read : ℕ → Option B) (xs : List B) → xs ≡ filter_map read (numbers taken) → read n ≡ None
      → xs ≡ filter_map read (numbers (taken ++ (n, r) ∷ []))
  read_none read xs before none = rw (numbers_more taken n r, filter_map-append read (numbers taken) (n ∷ []), none, append-nil) before

  -- it gives one
  pub read_one : {B : Type 0} (read : ℕ → Option B) (xs : List B) (x : B) → xs ≡ filter_map read (numbers taken) → read n ≡ Some x
      → xs ++ x ∷ [] ≡ filter_map read (numbers (taken ++ (n, r) ∷ []))
  read_one read xs x before one = rw (numbers_more taken n r, filter_map-append read (numbers taken) (n ∷ []), one, before) refl

-- ---- the first row that passes a test

no_first : (p : ℕ → Bool) (ns : List ℕ) (ms : List ℕ) → find p ns ≡ None → find p (ns ++ ms) ≡ find p ms
no_first p [] ms e = refl
no_first p (n ∷ ns) ms e = elim (cases_Bool (p n)) [
  | inl here ↦ cc (rw here at e)
  | inr other ↦ rw other (no_first p ns ms (rw other at e))
]

-- it is this one
pub first_row : (d : Dataset) (x : File) (taken : List Row) (n : ℕ) (r : List (List ℕ)) (left : List Row) (p : ℕ → Bool)
    → IsTurn d x taken n r left → find p (numbers taken) ≡ None → p n ≡ true → find p (rows d x) ≡ Some n
first_row d x taken n r left p t none here = rw (t.split, no_first p (numbers taken) (n ∷ numbers left) none, here) refl

-- it is not among those that were taken, and not this one
pub no_row_yet : (taken : List Row) (n : ℕ) (r : List (List ℕ)) (p : ℕ → Bool) → find p (numbers taken) ≡ None → p n ≡ false
    → find p (numbers (taken ++ (n, r) ∷ [])) ≡ None
no_row_yet taken n r p none here = rw (numbers_more taken n r, no_first p (numbers taken) (n ∷ []) none, here) refl

-- ---- which numbers are among the rows

kept_in_range : (p : ℕ → Bool) (m a k : ℕ) → p m ≡ true → a ≤ m → m < a + k → is_among (filter p (range_with_len a k)) m ≡ true
kept_in_range p m a zero passes low high = absurd (omega arith)
kept_in_range p m a (suc k) passes low high = elim (cases_Bool (m == a)) [
  | inl same ↦ (let e : m ≡ a = grind (arith, nat_tests, same) in
      let here : p a ≡ true = rw e at passes in
      rw (here, same) refl)
  | inr other ↦ (let above : a + 1 ≤ m = grind (arith, nat_tests, other, low) in
      let later = kept_in_range p m (a + 1) k passes above (omega arith) in
      elim (cases_Bool (p a)) [
        | inl here ↦ rw (here, later) (or_right (m == a) true refl)
        | inr passed ↦ rw passed later
      ])
]

-- each row is one of the file's rows
pub row_among : (d : Dataset) (x : File) (m : ℕ) → is_row (records_in d x) m ≡ true → is_among (rows d x) m ≡ true
row_among d x m row =
    let rs = records_in d x in
    let (numbered, _) = and_parts (nat_lt 1 m && nat_le m (length rs)) (has_value (record_at rs m)) row in
    let (low, high) = and_parts (nat_lt 1 m) (nat_le m (length rs)) numbered in
    kept_in_range (is_row rs) m 2 (length rs - 1) row (grind (arith, nat_tests, low)) (grind (arith, nat_tests, low, high))
