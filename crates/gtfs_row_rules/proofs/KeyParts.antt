-- The parts of a key, from what was read of each.
use Rattle.std.proofs.Common.{◌≡◌, ℕ, List, [], ◌∷◌, true, false, Bool, refl, ap, ◌∙◌}
use Rattle.std.specs.Prelude.{if◌then◌else◌, not, Option, Some, None, option_and_then, option_map, ℤ, Result, Ok, Err}
use Rattle.std.specs.Option.{option_zip}
use Rattle.std.specs.Result.{result_ok}
use Rattle.gtfs_field.specs.Kinds.{date_of, shaped, time_of}
use Rattle.gtfs_field.specs.declared.fault.FieldFault.{FieldFault}
use Rattle.gtfs_schema.specs.Columns.{date, id, time}
use Rattle.gtfs_schema.specs.KeyRules.{all_there}
use Rattle.gtfs_schema.specs.ReadFields.{amount_of, word_of}
use Rattle.gtfs_schema.specs.FieldValues.{word, amount, as_amount, as_word, value_of_count, has_control, measured, readable}
use Rattle.gtfs_table.specs.Rows.{is_empty}
use Rattle.gtfs_row_rules.specs.RowKeys.{kind_of_number, numbered_key}
use Rattle.gtfs_row_rules.specs.declared.keys.Number.{Number}
use Rattle.gtfs_row_rules.specs.declared.keys.Number.TheVariants as numbers

-- ---- a readable text is what was read of it

id_back : (empty is_clean : Bool) (t : List ℕ) → let v = if empty then None else result_ok (shaped is_clean (Ok (word t))) in option_map word (option_and_then as_word v) ≡ v
id_back true is_clean t = refl
id_back false true t = refl
id_back false false t = refl

counted_back : (empty : Bool) (r : Result ℕ FieldFault) → let v = if empty then None else result_ok (value_of_count r) in option_map amount (option_and_then as_amount v) ≡ v
counted_back true r = refl
counted_back false (Ok n) = refl
counted_back false (Err e) = refl

measured_back : (empty : Bool) (r : Result ℤ FieldFault) → let v = if empty then None else result_ok (measured r) in option_map amount (option_and_then as_amount v) ≡ v
measured_back true r = refl
measured_back false (Ok n) = refl
measured_back false (Err e) = refl

mapped_twice : {X : Type 0} (text : X → List ℕ) (o : Option X) → option_map (λ x. word (text x)) o ≡ option_map word (option_map text o)
mapped_twice text None = refl
mapped_twice text (Some x) = refl

id_part : {X : Type 0} (text : X → List ℕ) (o : Option X) (t : List ℕ) → option_map text o ≡ word_of id t → option_map (λ x. word (text x)) o ≡ readable id t
id_part text o t e = mapped_twice text o ∙ ap (option_map word) e ∙ id_back (is_empty t) (not (has_control t)) t

date_part : (o : Option ℤ) (t : List ℕ) → o ≡ amount_of date t → option_map amount o ≡ readable date t
date_part o t e = ap (option_map amount) e ∙ measured_back (is_empty t) (date_of t)

time_part : (o : Option ℤ) (t : List ℕ) → o ≡ amount_of time t → option_map amount o ≡ readable time t
time_part o t e = ap (option_map amount) e ∙ counted_back (is_empty t) (time_of t)

-- ---- an id and a number

numbered : {X : Type 0} (text : X → List ℕ) (a : Option X) (b : Option ℤ)
    → option_map (λ k. word (text k.1) ∷ amount k.0 ∷ []) (option_zip b a) ≡ all_there (option_map (λ x. word (text x)) a ∷ option_map amount b ∷ [])
numbered text None None = refl
numbered text None (Some y) = refl
numbered text (Some x) None = refl
numbered text (Some x) (Some y) = refl

number_part : (kind : Number) (o : Option ℤ) (t : List ℕ) → o ≡ amount_of (kind_of_number kind) t → option_map amount o ≡ readable (kind_of_number kind) t
number_part numbers.Date o t e = date_part o t e
number_part numbers.Time o t e = time_part o t e

pub numbered_read : {X : Type 0} (kind : Number) (text : X → List ℕ) (a : Option X) (b : Option ℤ) (t u : List ℕ) → option_map text a ≡ word_of id t
    → b ≡ amount_of (kind_of_number kind) u → option_map (λ k. word (text k.1) ∷ amount k.0 ∷ []) (option_zip b a) ≡ numbered_key kind t u
numbered_read kind text a b t u e f = numbered text a b ∙ (λ i. all_there (id_part text a t e i ∷ number_part kind b u f i ∷ []))
