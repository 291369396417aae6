-- The first zone, as a loop over the agencies finds it.
use Rattle.std.proofs.Common.{◌≡◌, ℕ, List, true, false, Bool, refl, sym, ap, ◌∙◌, codes}
use Rattle.std.specs.Prelude.{if◌then◌else◌, not, Option, None, Some, find, is_some, option_and_then, Ok}
use Rattle.std.specs.Result.{result_ok}
use Rattle.gtfs_field.specs.Kinds.{shaped}
use Rattle.gtfs_table.specs.Tables.{Dataset}
use Rattle.gtfs_table.specs.declared.file.File.TheVariants as file
use Rattle.gtfs_schema.specs.Columns.{id}
use Rattle.gtfs_schema.specs.PresenceRules.{first_zone}
use Rattle.gtfs_schema.specs.ReadFields.{word_of}
use Rattle.gtfs_schema.specs.RowConditions.{is_readable_in, text_in, word_in}
use Rattle.gtfs_table.specs.Rows.{is_empty, rows}
use Rattle.gtfs_schema.specs.FieldValues.{Value, as_word, has_control, readable, word}

abbrev id_value : Bool → Bool → List ℕ → Option Value
id_value empty is_clean t = if empty then None else result_ok (shaped is_clean (Ok (word t)))

there : (empty is_clean : Bool) (t : List ℕ) → is_some (option_and_then as_word (id_value empty is_clean t)) ≡ is_some (id_value empty is_clean t)
there true is_clean t = refl
there false true t = refl
there false false t = refl

-- a readable id is a word
id_there : (t : List ℕ) → is_some (word_of id t) ≡ is_some (readable id t)
id_there t = there (is_empty t) (not (has_control t)) t

abbrev pub has_zone : Dataset → ℕ → Bool
has_zone d n = is_readable_in d file.Agency n "agency_timezone"

module _ (d : Dataset) (n : ℕ) (found : Option (List ℕ)) (read : found ≡ word_in d file.Agency n "agency_timezone") where
  pub has_zone_is : has_zone d n ≡ is_some found
  has_zone_is = sym (ap is_some read ∙ id_there (text_in d file.Agency n (codes "agency_timezone")))

  -- the zone of the first agency that has one
  pub zone_here : find (has_zone d) (rows d file.Agency) ≡ Some n → found ≡ first_zone d
  zone_here first = read ∙ sym (ap (option_and_then (λ m. word_in d file.Agency m "agency_timezone")) first)

-- no agency has one
pub no_zone : (d : Dataset) → find (has_zone d) (rows d file.Agency) ≡ None → first_zone d ≡ None
no_zone d none = ap (option_and_then (λ m. word_in d file.Agency m "agency_timezone")) none
