-- A written file as the list of its rows: every function of a row's number is one of the row.
use Rattle.std.proofs.Common.{◌≡◌, ◌+◌, ◌<◌, ℕ, List, [], ◌∷◌, length, get_or, map, true, false, Option, Some, None, refl, sym, ap, subst, ◌∙◌, arith, inl, inr}
use Rattle.std.specs.Prelude.{◌&&◌, bytes_eq, is_none, codes, option_and_then, option_map, unwrap_or, is_some, ℤ, pos, unsigned_abs}
use Prim.Native.String.{String as Literal}
use Rattle.std.specs.List.{list_all, range_with_len}
use Rattle.std.proofs.lemmas.Bool.{cases_Bool, and_left, and_right}
use Rattle.std.proofs.lemmas.List.{get_or-map, length-map}
use Rattle.gtfs_table.specs.Tables.{Dataset}
use Rattle.gtfs_table.specs.declared.file.File.{File}
use Rattle.gtfs_table.specs.Rows.{rows, is_row, records_in, is_empty}
use Rattle.gtfs_schema.specs.Columns.{Column, Empty, refused, nothing, means, columns_of, column_named}
use Rattle.gtfs_schema.specs.RowConditions.{text_in, value_in, word_in, amount_in, choice_in, is_empty_in, is_file, Rule, reported_at}
use Rattle.gtfs_schema.specs.FieldValues.{Value, word, amount, as_word, as_amount, readable, meaning}
use Rattle.gtfs_schema.proofs.ValueFacts.{amount_back}
use Rattle.gtfs_rows.specs.Cells.{Cell, is_cell, are_cells, cell_text}
use Rattle.gtfs_rows.specs.Content.{Content}
use Rattle.gtfs_rows.specs.NamedCells.{cell_named, text_named}
use Rattle.gtfs_rows.specs.ContentRead.{text_at, number_in, number_at}
use Rattle.gtfs_rows.specs.RowCells.{cells_in, value_of_number}
use Rattle.gtfs_rows.specs.WrittenContent.{written_beside}
use Rattle.gtfs_rows.proofs.FileRows.{rows_written, row_index, cell_found}
use Rattle.gtfs_rows.proofs.RowTexts.{all_at, value_written, text_written}
use Rattle.gtfs_rows.proofs.CellTexts.{writes_value}

-- ---- parts of cells

pub word_back : (o : Option (List ℕ)) → option_and_then as_word (option_map word o) ≡ o
word_back None = refl
word_back (Some t) = refl

pub number_back : (o : Option ℕ) → option_map unsigned_abs (option_and_then as_amount (option_map value_of_number o)) ≡ o
number_back None = refl
number_back (Some n) = refl

pub amounts_back : (o : Option ℕ) → option_and_then as_amount (option_map value_of_number o) ≡ option_map pos o
amounts_back None = refl
amounts_back (Some n) = refl

-- the text of a cell is empty just where there is no value
none_from : (c : Column) (v : Cell) → is_cell c v ≡ true → is_empty (cell_text c.kind v) ≡ is_none v
none_from c None h = refl
none_from c (Some v) h = (writes_value c.kind v h).filled

-- a column with a value has it also where its empty value has a meaning
meaning_filled : (e : Empty) (t : List ℕ) → is_empty t ≡ false → meaning e t ≡ t
meaning_filled refused t filled = refl
meaning_filled nothing t filled = refl
meaning_filled (means m) t filled = rw filled refl

same_meaning : (o : Option Column) (t : List ℕ) (v : Value) → option_and_then (λ c. readable c.kind t) o ≡ Some v → option_and_then (λ c. readable c.kind (meaning c.empty t)) o ≡ Some v
same_meaning None t v there = cc
same_meaning (Some c) t v there = elim (cases_Bool (is_empty t)) [
  | inl empty ↦ let none : None ≡ Some v = rw empty at there in cc
  | inr filled ↦ ap (readable c.kind) (meaning_filled c.empty t filled) ∙ there
]

pub choice_from : (d : Dataset) (x : File) (n : ℕ) (column : Literal) (v : Value) → value_in d x n (codes column) ≡ Some v → choice_in d x n column ≡ as_amount v
choice_from d x n column v there = ap (option_and_then as_amount) (same_meaning (column_named x (codes column)) (text_in d x n (codes column)) v there)

-- ---- a file of a content

module _ {X : Type 0} (others : List (List ℕ)) (c : Content) (x : File) (xs : List X) (cells : X → List Cell) (are : cells_in c x ≡ map cells xs)
    (sound : list_all (are_cells (columns_of x)) (cells_in c x) ≡ true) where
  pub count_is : length (cells_in c x) ≡ length xs
  count_is = ap length are ∙ length-map xs cells

  pub rows_are : rows (written_beside others c) x ≡ range_with_len 2 (length xs)
  rows_are = rows_written others (cells_in c) x sound ∙ ap (range_with_len 2) count_is

  module _ (k : ℕ) (e : X) (within : k < length xs) where
    cells_at : get_or (cells_in c x) k [] ≡ cells (get_or xs k e)
    cells_at = ap (λ rows. get_or rows k []) are ∙ get_or-map cells xs k e [] within

    inside : k < length (cells_in c x)
    inside = subst (λ n. k < n) (sym count_is) within

    pub cells_ok : are_cells (columns_of x) (cells (get_or xs k e)) ≡ true
    cells_ok = ap (are_cells (columns_of x)) (sym cells_at) ∙ all_at (are_cells (columns_of x)) (cells_in c x) k [] sound inside

    -- the value and the text of a column
    pub value_at : (name : List ℕ) → is_empty name ≡ false → value_in (written_beside others c) x (k + 2) name ≡ cell_named (columns_of x) (cells (get_or xs k e)) name
    value_at name filled = value_written others (cells_in c) x sound k [] name inside filled ∙ ap (λ vs. cell_named (columns_of x) vs name) cells_at

    pub text_at' : (name : List ℕ) → is_empty name ≡ false → text_in (written_beside others c) x (k + 2) name ≡ text_named (columns_of x) (cells (get_or xs k e)) name
    text_at' name filled = text_written others (cells_in c) x sound k [] name inside filled ∙ ap (λ vs. text_named (columns_of x) vs name) cells_at

    module _ (column : Literal) (filled : is_empty (codes column) ≡ false) where
      pub word_at : (o : Option (List ℕ)) → cell_named (columns_of x) (cells (get_or xs k e)) (codes column) ≡ option_map word o → word_in (written_beside others c) x (k + 2) column ≡ o
      word_at o is = ap (option_and_then as_word) (value_at (codes column) filled ∙ is) ∙ word_back o

      pub amount_at : (o : Option ℤ) → cell_named (columns_of x) (cells (get_or xs k e)) (codes column) ≡ option_map amount o → amount_in (written_beside others c) x (k + 2) column ≡ o
      amount_at o is = ap (option_and_then as_amount) (value_at (codes column) filled ∙ is) ∙ amount_back o

      pub number_in_at : (o : Option ℕ) → cell_named (columns_of x) (cells (get_or xs k e)) (codes column) ≡ option_map value_of_number o → number_in (written_beside others c) x (k + 2) column ≡ o
      number_in_at o is = ap (λ v. option_map unsigned_abs (option_and_then as_amount v)) (value_at (codes column) filled ∙ is) ∙ number_back o

      pub given_at : (t : List ℕ) → cell_named (columns_of x) (cells (get_or xs k e)) (codes column) ≡ Some (word t) → text_at (written_beside others c) x (k + 2) column ≡ t
      given_at t is = ap (λ v. unwrap_or (option_and_then as_word v) []) (value_at (codes column) filled ∙ is)

      pub choice_at : (n : ℕ) → cell_named (columns_of x) (cells (get_or xs k e)) (codes column) ≡ Some (value_of_number n) → number_at (written_beside others c) x (k + 2) column ≡ n
      choice_at n is = ap (λ o. unsigned_abs (unwrap_or o (pos 0))) (choice_from (written_beside others c) x (k + 2) column (value_of_number n) (value_at (codes column) filled ∙ is))

      pub amounts_at : (o : Option ℕ) → cell_named (columns_of x) (cells (get_or xs k e)) (codes column) ≡ option_map value_of_number o → amount_in (written_beside others c) x (k + 2) column ≡ option_map pos o
      amounts_at o is = ap (option_and_then as_amount) (value_at (codes column) filled ∙ is) ∙ amounts_back o

      -- a column is empty just where the row has no value in it
      pub empty_at : (v : Cell) → cell_named (columns_of x) (cells (get_or xs k e)) (codes column) ≡ v → is_some (column_named x (codes column)) ≡ true → is_empty_in (written_beside others c) x (k + 2) column ≡ is_none v
      empty_at v is kept = empty_from (column_named x (codes column)) refl kept
        where
          empty_from : (o : Option Column) → column_named x (codes column) ≡ o → is_some o ≡ true → is_empty_in (written_beside others c) x (k + 2) column ≡ is_none v
          empty_from None same there = cc
          empty_from (Some col) same there =
              let has = cell_found (columns_of x) (cells (get_or xs k e)) col (codes column) cells_ok same in
              ap is_empty (text_at' (codes column) filled ∙ has.text) ∙ none_from col has.cell has.is ∙ ap is_none (sym (has.named) ∙ is)

  -- a rule that holds of no row is told of none
  pub no_told : (column : Literal) (rule : Rule) → ((k : ℕ) (e : X) → k < length xs → rule (written_beside others c) (k + 2) ≡ false) → (y : File) (n : ℕ) (name : List ℕ) → reported_at x column rule (written_beside others c) y n name ≡ false
  no_told column rule never y n name =
      let at = is_file y x && bytes_eq name (codes column) in
      elim (cases_Bool (is_row (records_in (written_beside others c) x) n)) [
        | inr outside ↦ and_left (at && is_row (records_in (written_beside others c) x) n) (rule (written_beside others c) n) (and_right at (is_row (records_in (written_beside others c) x) n) outside)
        | inl row ↦
            let element = row_index others (cells_in c) x sound n row in
            let within : element.index < length xs = subst (λ m. element.index < m) count_is element.within in
            and_right (at && is_row (records_in (written_beside others c) x) n) (rule (written_beside others c) n) (ap (rule (written_beside others c)) element.is ∙ at_some xs within (λ e. never element.index e within))
      ]
    where
      -- there is an element where there is an index
      at_some : {A : Type 0} (ys : List X) {k : ℕ} → k < length ys → (X → A) → A
      at_some [] within f = absurd (omega arith)
      at_some (z ∷ ys) within f = f z
