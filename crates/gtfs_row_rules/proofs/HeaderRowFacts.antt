-- A header reports of a row just the problems that the row has in its length and in its fields.
use Rattle.std.proofs.Common.{◌≡◌, ℕ, List, [], ◌∷◌, true, Bool, refl, sym, ap, ◌∙◌, map, Option, Some, None}
use Rattle.std.specs.Prelude.{◌&&◌, ◌||◌, bytes_eq, filter_map, option_map}
use Rattle.std.specs.List.{cons_option, list_any}
use Rattle.std.specs.Option.{is_some}
use Rattle.std.proofs.Math.Bool.{and-false}
use Rattle.gtfs_field.proofs.ListFacts.{any_alike, any_mapped}
use Rattle.gtfs_table.specs.Tables.{Dataset, column_of as index_of, field_under, record_at}
use Rattle.gtfs_table.specs.declared.file.File.{File}
use Rattle.gtfs_schema.specs.declared.code.Code.{Code}
use Rattle.gtfs_row_rules.specs.declared.fields.Header.{Header}
use Rattle.gtfs_row_rules.specs.declared.fields.Located.{Located as LocatedColumn}
use Rattle.gtfs_schema.specs.steps.CellFaults.{cell_code, is_found}
use Rattle.gtfs_schema.specs.Columns.{Column, columns_of, column_named}
use Rattle.gtfs_row_rules.specs.HeaderColumns.{Located, is_found_in, located, located_code, located_of, row_reports, IsHeader}
use Rattle.gtfs_schema.specs.steps.FieldCodes.{field_codes, in_file_of, is_in_row}
use Rattle.gtfs_schema.specs.steps.FoundProblems.{Adds, Reports}
use Rattle.gtfs_schema.specs.Problems.{Problem, is_problem}
use Rattle.gtfs_schema.specs.RowConditions.{text_in}
use Rattle.gtfs_table.specs.Rows.{is_row, records_in}
use Rattle.gtfs_schema.specs.FieldValues.{if_there}
use Rattle.gtfs_schema.proofs.AddFacts.{adds_alike}
use Rattle.gtfs_schema.proofs.NamedFacts.{has_name, kept_any, kept_name_filled, kept_name_is, named_located}
use Rattle.gtfs_schema.proofs.RowFacts.{at_row}
use Rattle.gtfs_schema.proofs.FieldRowFacts.{cell_at, cell_reported, empty_is, here_reported, length_reported}

-- ---- the columns that the header names

any_located : (h : Located → Bool) (g : Column → Option Located) (cs : List Column) → list_any h (filter_map g cs) ≡ list_any (λ c. if_there (g c) h) cs
any_located h g [] = refl
any_located h g (c ∷ cs) = one_more (g c) ∙ ap (λ b. if_there (g c) h || b) (any_located h g cs)
  where
    one_more : (o : Option Located) → list_any h (cons_option o (filter_map g cs)) ≡ (if_there o h || list_any h (filter_map g cs))
    one_more None = refl
    one_more (Some k) = refl

test_out : (c : Column) (o : Option ℕ) (name : List ℕ) (f : Located → Bool)
    → if_there (option_map (λ index. (c, index)) o) (λ k. bytes_eq name k.0.name && f k)
    ≡ (bytes_eq name c.name && if_there (option_map (λ index. (c, index)) o) f)
test_out c None name f = sym (and-false (bytes_eq name c.name))
test_out c (Some index) name f = refl

module _ (d : Dataset) (x : File) (n : ℕ) where
  abbrev fields : List (List ℕ)
  fields = record_at (records_in d x) n

  abbrev located_reported : Code → Column → Bool
  located_reported c k = if_there (located (records_in d x) k) (λ q. is_found (located_code fields q) c)

  -- a column that the header does not name has no problem
  by_index : (k : Column) (c : Code) (o : Option ℕ)
      → if_there (option_map (λ index. (k, index)) o) (λ q. is_found (located_code fields q) c) ≡ is_found (cell_code (is_some o) k (field_under fields o)) c
  by_index k c None = refl
  by_index k c (Some index) = refl

  named_reported : (name : List ℕ) (k : Column) (c : Code) → column_named x name ≡ Some k → located_reported c k ≡ is_found (cell_at d x n name k) c
  named_reported name k c there =
      ap (λ t. if_there (option_map (λ index. (k, index)) (index_of (records_in d x) t)) (λ q. is_found (located_code fields q) c)) (kept_name_is x name k there)
      ∙ by_index k c (index_of (records_in d x) name)
      ∙ ap (λ b. is_found (cell_code b k (text_in d x n name)) c) (sym (named_located d x name (kept_name_filled x name k there)))

  any_reported : (p : Problem) (ks : List LocatedColumn) → map located_of ks ≡ filter_map (located (records_in d x)) (columns_of x)
      → list_any (is_found_in fields p) ks ≡ if_there (column_named x p.column) (located_reported p.code)
  any_reported p ks kept =
      let test : Located → Bool = λ q. bytes_eq p.column q.0.name && is_found (located_code fields q) p.code in
      sym (any_mapped test located_of ks)
      ∙ ap (list_any test) kept
      ∙ any_located test (located (records_in d x)) (columns_of x)
      ∙ any_alike (λ k. if_there (located (records_in d x) k) test) (λ k. has_name p.column k && located_reported p.code k) (columns_of x)
      (λ k. test_out k (index_of (records_in d x) k.name) p.column (λ q. is_found (located_code fields q) p.code))
      ∙ kept_any x p.column (located_reported p.code)

  same_if_there : (o : Option Column) (f g : Column → Bool) → ((k : Column) → o ≡ Some k → f k ≡ g k) → if_there o f ≡ if_there o g
  same_if_there None f g same = refl
  same_if_there (Some k) f g same = same k refl

  pub cells_reported : (p : Problem) (ks : List LocatedColumn) → map located_of ks ≡ filter_map (located (records_in d x)) (columns_of x)
      → list_any (is_found_in fields p) ks ≡ cell_reported d x n p.column p.code
  cells_reported p ks kept = any_reported p ks kept
      ∙ same_if_there (column_named x p.column) (located_reported p.code) (λ k. is_found (cell_at d x n p.column k) p.code) (λ k. named_reported p.column k p.code)

  module _ (row : is_row (records_in d x) n ≡ true) where
    row_reports_is : (h : Header) → IsHeader d x h → (p : Problem) → row_reports h (record_at (records_in d x) n) p ≡ (length_reported d x n p.column p.code || cell_reported d x n p.column p.code)
    row_reports_is h is p = rw (is.width, empty_is p.column, cells_reported p h.columns.items is.columns) refl

    pub header_reported : (h : Header) (r : List (List ℕ)) (old new : List Problem) → IsHeader d x h → r ≡ record_at (records_in d x) n
        → Adds (λ p. is_in_row h.file n p && row_reports h r p) old new → Reports d (at_row (in_file_of field_codes x) n) old new
    header_reported h r old new is same =
        adds_alike (λ p. is_in_row h.file n p && row_reports h r p) (λ p. at_row (in_file_of field_codes x) n p && is_problem d p) old new
        (λ p. (λ i. is_in_row (is.file i) n p && row_reports h (same i) p) ∙ ap (λ b. is_in_row x n p && b) (row_reports_is h is p) ∙ here_reported d x n row p)
