-- The values of a row of a dataset that passes: each lies in its kind, and none is missing that its column wants.
use Rattle.std.proofs.Common.{◌≡◌, ◌∙◌, ℕ, List, [], true, false, Bool, Option, Some, None, Ok, refl, sym, ap, subst}
use Rattle.std.specs.Prelude.{not, if◌then◌else◌, codes, is_some, option_and_then, option_map, unwrap_or, pos, unsigned_abs}
use Prim.Native.String.{String as Literal}
use Rattle.std.specs.Result.{result_ok}
use Rattle.std.proofs.lemmas.Bool.{not-false as not_not, true≢false}
use Rattle.gtfs_field.specs.Kinds.{shaped}
use Rattle.gtfs_field.proofs.OptionFacts.{is_some-map as mapped_some}
use Rattle.gtfs_table.specs.Tables.{Dataset}
use Rattle.gtfs_table.specs.declared.file.File.{File}
use Rattle.gtfs_table.specs.Rows.{is_row, records_in, is_empty}
use Rattle.gtfs_table.proofs.BlankFacts.{no_text as empty_is}
use Rattle.gtfs_schema.specs.Calendars.{field_number as signed_in}
use Rattle.gtfs_schema.specs.Columns.{Kind, id, Column, column_named, required, optional, defaulting}
use Rattle.gtfs_schema.specs.Problems.{Passes}
use Rattle.gtfs_schema.specs.ReadRules.{IsReadUnder}
use Rattle.gtfs_schema.specs.RowConditions.{text_in, value_in, word_in, amount_in, choice_in, is_empty_in}
use Rattle.gtfs_schema.specs.FieldValues.{Value, word, amount, as_word, as_amount, has_control, readable, meaning}
use Rattle.gtfs_schema.proofs.ReadFacts.{passes_read}
use Rattle.gtfs_schema.proofs.ValueFacts.{word_value}
use Rattle.gtfs_rows.specs.Cells.{is_of_kind, is_cell}
use Rattle.gtfs_rows.specs.ContentRead.{text_at, number_in, number_at}
use Rattle.gtfs_rows.specs.RowCells.{value_of_number}
use Rattle.gtfs_rows.proofs.CutTexts.{IsCut, text-is_cut}
use Rattle.gtfs_rows.proofs.KindValues.{value_of_kind}
use Rattle.gtfs_rows.proofs.KindOptions.{is_of_words, is_natural, HasWord, HasNumber, HasAmount, Fits, some_word, some_amount, some_number, words_back, amounts_back, numbers_back, fits_optional}
use Rattle.gtfs_rows.proofs.Views.{amounts_back as numbers_again}

-- ---- the columns of a row

module _ (d : Dataset) (passes : Passes d) (x : File) (n : ℕ) (row : is_row (records_in d x) n ≡ true) (name : Literal) (k : Kind) where
  abbrev pub field : List ℕ
  field = text_in d x n (codes name)

  pub field_fits : Fits k (readable k (text_in d x n (codes name)))
  field_fits v e = value_of_kind k field v (text-is_cut d x n (codes name)) e

  under : (c : Column) → column_named x (codes name) ≡ Some c → IsReadUnder c (text_in d x n (codes name))
  under c there = passes_read d passes x n (codes name) c row there

  -- a column that each row has to fill
  module _ (there : column_named x (codes name) ≡ Some (required name k)) where
    pub required_value : value_in d x n (codes name) ≡ readable k (text_in d x n (codes name))
    required_value = ap (option_and_then (λ c. readable c.kind field)) there

    filled : is_some (readable k field) ≡ true
    filled = (under (required name k) there).there

    pub word_there : is_of_words k ≡ true → HasWord k (value_in d x n (codes name))
    word_there words = subst (HasWord k) (sym required_value) (some_word k words (readable k field) field_fits filled)

    pub number_there : is_natural k ≡ true → HasNumber k (value_in d x n (codes name))
    number_there natural = subst (HasNumber k) (sym required_value) (some_number k natural (readable k field) field_fits filled)

    pub amount_there : is_of_words k ≡ false → HasAmount k (value_in d x n (codes name))
    amount_there numbers = subst (HasAmount k) (sym required_value) (some_amount k numbers (readable k field) field_fits filled)

    -- what the row has there
    pub word_is : is_of_words k ≡ true → word_in d x n name ≡ Some (text_at d x n name)
    word_is words =
        let w = word_there words in
        let there_is : word_in d x n name ≡ Some w.word_of = ap (option_and_then as_word) w.reads.is in
        there_is ∙ ap (λ t. Some t) (ap (λ o. unwrap_or o []) (sym there_is))

    pub choice_same : choice_in d x n name ≡ amount_in d x n name
    choice_same =
        ap (option_and_then as_amount) (ap (option_and_then (λ c. readable c.kind (meaning c.empty field))) there)
        ∙ ap (option_and_then as_amount) (sym required_value)

    pub number_is : is_natural k ≡ true → amount_in d x n name ≡ Some (pos (number_at d x n name))
    number_is natural =
        let w = number_there natural in
        let there_is : amount_in d x n name ≡ Some (pos w.number_of) = ap (option_and_then as_amount) w.reads.is in
        there_is ∙ ap (λ m. Some (pos m)) (ap (λ o. unsigned_abs (unwrap_or o (pos 0))) (sym (choice_same ∙ there_is)))

    pub number_value : is_natural k ≡ true → value_in d x n (codes name) ≡ Some (value_of_number (number_at d x n name))
    number_value natural =
        let w = number_there natural in
        w.reads.is ∙ ap (λ o. Some (value_of_number (unsigned_abs (unwrap_or o (pos 0))))) (sym (choice_same ∙ ap (option_and_then as_amount) w.reads.is))

    pub signed_is : is_of_words k ≡ false → amount_in d x n name ≡ Some (signed_in d x n name)
    signed_is numbers =
        let w = amount_there numbers in
        let there_is : amount_in d x n name ≡ Some w.amount_of = ap (option_and_then as_amount) w.reads.is in
        there_is ∙ ap (λ o. Some (unwrap_or o (pos 0))) (sym there_is)

    pub required_word : is_of_words k ≡ true → is_of_kind k (word (text_at d x n name)) ≡ true
    required_word words =
        let w = word_there words in
        subst (λ t. is_of_kind k (word t) ≡ true) (ap (λ o. unwrap_or o []) (sym (ap (option_and_then as_word) w.reads.is))) w.reads.fits

    pub required_number : is_natural k ≡ true → is_of_kind k (value_of_number (number_at d x n name)) ≡ true
    required_number natural =
        let w = number_there natural in
        subst (λ m. is_of_kind k (value_of_number m) ≡ true) (ap (λ o. unsigned_abs (unwrap_or o (pos 0))) (sym (choice_same ∙ ap (option_and_then as_amount) w.reads.is))) w.reads.fits

    pub required_amount : is_of_words k ≡ false → is_of_kind k (amount (signed_in d x n name)) ≡ true
    required_amount numbers =
        let w = amount_there numbers in
        subst (λ y. is_of_kind k (amount y) ≡ true) (ap (λ o. unwrap_or o (pos 0)) (sym (ap (option_and_then as_amount) w.reads.is))) w.reads.fits

  -- a column that may be empty
  module _ (there : column_named x (codes name) ≡ Some (optional name k)) where
    pub optional_value : value_in d x n (codes name) ≡ readable k (text_in d x n (codes name))
    optional_value = ap (option_and_then (λ c. readable c.kind field)) there

    pub value_fits : Fits k (value_in d x n (codes name))
    value_fits v e = field_fits v (sym optional_value ∙ e)

    pub optional_word : is_of_words k ≡ true → is_cell (optional name k) (option_map word (word_in d x n name)) ≡ true
    optional_word words = ap (is_cell (optional name k)) (words_back k words (value_in d x n (codes name)) value_fits) ∙ fits_optional name k (value_in d x n (codes name)) value_fits

    pub optional_number : is_natural k ≡ true → is_cell (optional name k) (option_map value_of_number (number_in d x n name)) ≡ true
    optional_number natural = ap (is_cell (optional name k)) (numbers_back k natural (value_in d x n (codes name)) value_fits) ∙ fits_optional name k (value_in d x n (codes name)) value_fits

    pub optional_amount : is_of_words k ≡ false → is_cell (optional name k) (option_map amount (amount_in d x n name)) ≡ true
    optional_amount numbers = ap (is_cell (optional name k)) (amounts_back k numbers (value_in d x n (codes name)) value_fits) ∙ fits_optional name k (value_in d x n (codes name)) value_fits

    -- there is a value just where the field is not empty
    pub there_if_filled : is_some (value_in d x n (codes name)) ≡ not (is_empty_in d x n name)
    there_if_filled = ap is_some optional_value ∙ (under (optional name k) there).read

    pub word_if_filled : is_of_words k ≡ true → is_some (word_in d x n name) ≡ not (is_empty_in d x n name)
    word_if_filled words = sym (mapped_some word (word_in d x n name)) ∙ ap is_some (words_back k words (value_in d x n (codes name)) value_fits) ∙ there_if_filled

    pub amount_if_filled : is_of_words k ≡ false → is_some (amount_in d x n name) ≡ not (is_empty_in d x n name)
    amount_if_filled numbers = sym (mapped_some amount (amount_in d x n name)) ∙ ap is_some (amounts_back k numbers (value_in d x n (codes name)) value_fits) ∙ there_if_filled

    -- a number that is there, as a number of either sign
    pub number_if_there : is_natural k ≡ true → amount_in d x n name ≡ option_map pos (number_in d x n name)
    number_if_there natural = sym (ap (option_and_then as_amount) (numbers_back k natural (value_in d x n (codes name)) value_fits)) ∙ numbers_again (number_in d x n name)

  -- a column whose empty value has a meaning
  module _ (m : Literal) (there : column_named x (codes name) ≡ Some (defaulting name k m)) (cut : IsCut (codes m)) where
    abbrev meant : Option Value
    meant = readable k (meaning (defaulting name k m).empty field)

    meaning_cut : (t : List ℕ) → IsCut t → (b : Bool) → IsCut (if b then codes m else t)
    meaning_cut t is true = cut
    meaning_cut t is false = is

    meant_fits : Fits k meant
    meant_fits v e = value_of_kind k (meaning (defaulting name k m).empty field) v (meaning_cut field (text-is_cut d x n (codes name)) (is_empty field)) e

    number_meant : is_natural k ≡ true → HasNumber k meant
    number_meant natural = some_number k natural meant meant_fits (under (defaulting name k m) there).there

    choice_meant : choice_in d x n name ≡ option_and_then as_amount meant
    choice_meant = ap (option_and_then as_amount) (ap (option_and_then (λ c. readable c.kind (meaning c.empty field))) there)

    pub choice_is : is_natural k ≡ true → choice_in d x n name ≡ Some (pos (number_at d x n name))
    choice_is natural =
        let w = number_meant natural in
        let there_is : choice_in d x n name ≡ Some (pos w.number_of) = choice_meant ∙ ap (option_and_then as_amount) w.reads.is in
        there_is ∙ ap (λ o. Some (pos (unsigned_abs (unwrap_or o (pos 0))))) (sym there_is)

    pub defaulting_number : is_natural k ≡ true → is_of_kind k (value_of_number (number_at d x n name)) ≡ true
    defaulting_number natural =
        let w = number_meant natural in
        subst (λ j. is_of_kind k (value_of_number j) ≡ true) (ap (λ o. unsigned_abs (unwrap_or o (pos 0))) (sym (choice_meant ∙ ap (option_and_then as_amount) w.reads.is))) w.reads.fits

-- ---- ids

id_same : (empty control : Bool) (t w : List ℕ) → (if empty then None else result_ok (shaped (not control) (Ok (word t)))) ≡ Some (word w) → t ≡ w
id_same true control t w e = cc
id_same false true t w e = cc
id_same false false t w e = cc

-- the text of an id is the id
pub id_text : (t w : List ℕ) → readable id t ≡ Some (word w) → t ≡ w
id_text t w e = id_same (is_empty t) (has_control t) t w e

module _ (d : Dataset) (passes : Passes d) (x : File) (n : ℕ) (row : is_row (records_in d x) n ≡ true) (name : Literal) where
  pub required_id : column_named x (codes name) ≡ Some (required name id) → text_in d x n (codes name) ≡ text_at d x n name
  required_id there =
      let w = word_there d passes x n row name id there refl in
      id_text (text_in d x n (codes name)) w.word_of (sym (required_value d passes x n row name id there) ∙ w.reads.is)
      ∙ ap (λ o. unwrap_or o []) (sym (ap (option_and_then as_word) w.reads.is))

  pub optional_id : column_named x (codes name) ≡ Some (optional name id) → (t : List ℕ) → word_in d x n name ≡ Some t → text_in d x n (codes name) ≡ t
  optional_id there t e = id_text (text_in d x n (codes name)) t (sym (optional_value d passes x n row name id there) ∙ word_value (value_in d x n (codes name)) t e)

  -- .. also where the column may be empty, as the empty text
  given_from : (o : Option Value) (t : List ℕ) → Fits id o → is_some o ≡ not (is_empty t) → ((w : List ℕ) → o ≡ Some (word w) → t ≡ w) → t ≡ unwrap_or (option_and_then as_word o) []
  given_from None t fits there same = empty_is t (not_not (is_empty t) (sym there))
  given_from (Some (word w)) t fits there same = same w refl
  given_from (Some (amount y)) t fits there same = absurd (true≢false (sym (fits (amount y) refl)))

  pub given_id : column_named x (codes name) ≡ Some (optional name id) → text_in d x n (codes name) ≡ text_at d x n name
  given_id there =
      given_from (value_in d x n (codes name)) (text_in d x n (codes name)) (value_fits d passes x n row name id there) (there_if_filled d passes x n row name id there)
      (λ w e. id_text (text_in d x n (codes name)) w (sym (optional_value d passes x n row name id there) ∙ e))
