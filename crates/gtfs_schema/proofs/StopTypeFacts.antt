-- The location types of the stops that rows name.
use Rattle.std.proofs.Common.{◌≡◌, ◌==◌, ℕ, ◌+◌, ◌-◌, ◌<◌, ◌∷◌, [], ◌++◌, List, length, length-append, true, false, Bool, Option, Some, None, codes, refl, sym, ap, ◌∙◌, arith, inl, inr}
use Rattle.std.specs.Prelude.{◌&&◌, ◌||◌, not, bytes_eq, option_and_then, ℤ}
use Rattle.std.proofs.Math.Bool.{or-false}
use Rattle.std.proofs.lemmas.Bool.{and_from as and_both, cases_lt}
use Rattle.std.proofs.lemmas.Bool.Decides.{nat_tests}
use Rattle.std.proofs.lemmas.List.{get_or_append_left, get_or_past, get_or_push}
use Rattle.gtfs_table.specs.Blanks.{without_first_blanks}
use Rattle.gtfs_table.specs.Tables.{Dataset, column_of, field_under}
use Rattle.gtfs_table.specs.declared.file.File.{File}
use Rattle.gtfs_table.specs.declared.file.File.TheVariants as file
use Rattle.gtfs_schema.specs.Columns.{id}
use Rattle.gtfs_schema.specs.steps.Ids.{first_row_with, first_rows, FirstRows}
use Rattle.gtfs_schema.specs.ReadFields.{word_of}
use Rattle.gtfs_schema.specs.RowConditions.{choice_in, is_file, row_with, text_in}
use Rattle.gtfs_table.specs.Rows.{records_in}
use Rattle.gtfs_schema.specs.steps.StopTypes.{AreStopTypes, type_in_text, type_of, type_with}
use Rattle.gtfs_schema.specs.StopRules.{has_parent_of_other_type, names_none_of, wrong_kind_of_stop}
use Rattle.gtfs_schema.specs.FieldValues.{if_there, is_one_of}
use Rattle.gtfs_schema.proofs.IdFacts.{first_row_is}
use Rattle.gtfs_schema.proofs.BoolFacts.{and_parts}
use Rattle.gtfs_schema.proofs.SiteFacts.{is_site}
use Rattle.gtfs_schema.proofs.EachFacts.{any_follows}
use Rattle.gtfs_schema.proofs.StepFacts.{Reported, is_file_turned, reported_there}

-- ---- the types of all stops

no_field : (o : Option ℕ) → field_under [] o ≡ []
unfolding without_first_blanks
no_field None = refl
no_field (Some n) = refl

no_text : (d : Dataset) (n : ℕ) (name : List ℕ) → length (records_in d file.Stops) < n → text_in d file.Stops n name ≡ []
no_text d n name past =
    let later : (n == 0) ≡ false = grind (arith, nat_tests) in
    rw (later, get_or_past (records_in d file.Stops) (n - 1) [] (omega arith)) (no_field (column_of (records_in d file.Stops) name))

pub types_more : (type_at : ℕ → Option ℤ) (n : ℕ) (types : List (Option ℤ)) (t : Option ℤ) → length types ≡ n
    → ((m : ℕ) → m < n → type_of types m ≡ type_at m) → t ≡ type_at n → (m : ℕ) → m < n + 1 → type_of (types ++ t ∷ []) m ≡ type_at m
types_more type_at n types t long before here m inside = elim (cases_lt m n) [
  | inl earlier ↦ get_or_append_left types (t ∷ []) (type_in_text []) m (omega arith) ∙ before m earlier
  | inr last ↦ let same : m ≡ n = omega arith in get_or_push types t (type_in_text []) m (omega arith) ∙ here ∙ ap type_at (sym same)
]

pub long_more : (types : List (Option ℤ)) (t : Option ℤ) (n : ℕ) → length types ≡ n → length (types ++ t ∷ []) ≡ n + 1
long_more types t n long = grind (arith, length-append)

pub types_all : (d : Dataset) (n : ℕ) (types : List (Option ℤ)) → length types ≡ n → length (records_in d file.Stops) < n
    → ((m : ℕ) → m < n → type_of types m ≡ choice_in d file.Stops m "location_type") → AreStopTypes d types
types_all d n types long past read m = elim (cases_lt m n) [
  | inl inside ↦ read m inside
  | inr outside ↦ get_or_past types m (type_in_text []) (omega arith) ∙ ap type_in_text (sym (no_text d m (codes "location_type") (omega arith)))
]

-- ---- rows that name stops

pub alone : (row x : Bool) → ((row && x) || false) ≡ (row && x)
alone row x = or-false (row && x)

module _ (d : Dataset) (types : List (Option ℤ)) (all : AreStopTypes d types) (i : FirstRows) (ids : i ≡ first_rows d file.Stops (codes "stop_id")) where
  abbrev pub read_type : List ℕ → Option ℤ
  read_type t = option_and_then (λ m. choice_in d file.Stops m "location_type") (option_and_then (row_with d file.Stops (codes "stop_id")) (word_of id t))

  pub same_type : (t : List ℕ) → type_with types i t ≡ read_type t
  same_type t = (λ k. option_and_then (λ m. all m k) (option_and_then (first_row_with (ids k)) (word_of id t)))
      ∙ (λ k. option_and_then (λ m. choice_in d file.Stops m "location_type") (option_and_then (λ t. first_row_is d file.Stops (codes "stop_id") t k) (word_of id t)))

  pub named_reported : (row : Bool) (wanted : List ℕ) (t : List ℕ)
      → ((row && if_there (read_type t) (λ x. not (is_one_of wanted x))) || false) ≡ (row && if_there (type_with types i t) (λ x. not (is_one_of wanted x)))
  named_reported row wanted t = alone row (if_there (read_type t) (λ x. not (is_one_of wanted x)))
      ∙ (λ k. row && if_there (sym (same_type t) k) (λ x. not (is_one_of wanted x)))

-- ---- where they are reported

-- the columns whose stops are to be of some kind
abbrev pub kind_sites : List (File × List ℕ)
kind_sites = (file.StopTimes, codes "stop_id") ∷ (file.Stops, codes "parent_station") ∷ (file.Transfers, codes "from_stop_id") ∷ (file.Transfers, codes "to_stop_id") ∷ []

abbrev pub kind_rules : List Reported
kind_rules =
    (file.StopTimes, "stop_id", names_none_of (0 ∷ []) file.StopTimes "stop_id")
    ∷ (file.Stops, "parent_station", has_parent_of_other_type)
    ∷ (file.Transfers, "from_stop_id", names_none_of (0 ∷ 1 ∷ []) file.Transfers "from_stop_id")
    ∷ (file.Transfers, "to_stop_id", names_none_of (0 ∷ 1 ∷ []) file.Transfers "to_stop_id")
    ∷ []

pub reported_at_kinds : (d : Dataset) (x : File) (n : ℕ) (name : List ℕ) → wrong_kind_of_stop d x n name ≡ true → is_site kind_sites x name ≡ true
reported_at_kinds d x n name e =
    any_follows (λ (t : Reported). is_file x t.0 && bytes_eq name (codes t.1)) (λ (t : Reported). is_file t.0 x && bytes_eq name (codes t.1)) kind_rules
    (λ t here. let site = and_parts (is_file x t.0) (bytes_eq name (codes t.1)) here in
    and_both (is_file t.0 x) (bytes_eq name (codes t.1)) (is_file_turned x t.0 site.0) site.1)
    (reported_there kind_rules d x n name e)
