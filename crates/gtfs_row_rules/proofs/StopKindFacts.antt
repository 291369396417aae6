-- The kinds of stops that rows name.
use Rattle.std.proofs.Common.{◌≡◌, ℕ, ◌∷◌, [], List, true, false, Bool, Option, Some, None, codes, refl, sym, ap, ◌∙◌}
use Rattle.std.specs.Prelude.{◌&&◌, ◌||◌, not, ℤ}
use Rattle.gtfs_table.specs.Tables.{Dataset}
use Rattle.gtfs_table.specs.declared.file.File.{File}
use Rattle.gtfs_table.specs.declared.file.File.TheVariants as file
use Rattle.gtfs_schema.specs.steps.Ids.{FirstRows, first_rows}
use Rattle.gtfs_schema.specs.RowConditions.{choice_in, is_file}
use Rattle.gtfs_schema.specs.steps.StopTypes.{AreStopTypes, type_of, type_with}
use Rattle.gtfs_row_rules.specs.StopKinds.{is_other_parent}
use Rattle.gtfs_schema.specs.StopRules.{wrong_kind_of_stop}
use Rattle.gtfs_schema.specs.FieldValues.{if_there, is_one_of}
use Rattle.gtfs_schema.proofs.SiteFacts.{is_site}
use Rattle.gtfs_schema.proofs.StopTypeFacts.{alone, kind_sites, read_type, same_type, reported_at_kinds}

-- ---- rows that name stops

-- the rule reads the ids and the text that are asked for
pub kinds_alike : (reported row : Bool) (types : List (Option ℤ)) (wanted : List ℕ) (i j : FirstRows) (t u : List ℕ)
    → reported ≡ (row && if_there (type_with types i t) (λ x. not (is_one_of wanted x))) → j ≡ i → u ≡ t
    → reported ≡ (row && if_there (type_with types j u) (λ x. not (is_one_of wanted x)))
kinds_alike reported row types wanted i j t u rule ids text = rule ∙ (λ k. row && if_there (type_with types (sym ids k) (sym text k)) (λ x. not (is_one_of wanted x)))

module _ (d : Dataset) (types : List (Option ℤ)) (all : AreStopTypes d types) (i : FirstRows) (ids : i ≡ first_rows d file.Stops (codes "stop_id")) where
  no_parent : (a b : Bool) → ((a && false) || (b && false)) ≡ false
  no_parent true true = refl
  no_parent true false = refl
  no_parent false true = refl
  no_parent false false = refl

  parent_moved : (own parent : Option ℤ) → if_there own (λ o. (is_one_of (0 ∷ 2 ∷ 3 ∷ []) o && if_there parent (λ t. not (is_one_of (1 ∷ []) t)))
      || (is_one_of (4 ∷ []) o && if_there parent (λ t. not (is_one_of (0 ∷ []) t)))) ≡ if_there own (λ o. if_there parent (is_other_parent o))
  parent_moved None parent = refl
  parent_moved (Some o) None = no_parent (is_one_of (0 ∷ 2 ∷ 3 ∷ []) o) (is_one_of (4 ∷ []) o)
  parent_moved (Some o) (Some t) = refl

  pub parent_reported : (row : Bool) (n : ℕ) (t u : List ℕ) (j : FirstRows) → u ≡ t → j ≡ i
      → ((row && if_there (choice_in d file.Stops n "location_type") (λ o. (is_one_of (0 ∷ 2 ∷ 3 ∷ []) o && if_there (read_type d types all i ids t) (λ t. not (is_one_of (1 ∷ []) t)))
      || (is_one_of (4 ∷ []) o && if_there (read_type d types all i ids t) (λ t. not (is_one_of (0 ∷ []) t))))) || false)
      ≡ (row && if_there (type_of types n) (λ own. if_there (type_with types j u) (is_other_parent own)))
  parent_reported row n t u j text same =
      alone row _ ∙ ap (λ b. row && b) (parent_moved (choice_in d file.Stops n "location_type") (read_type d types all i ids t)
      ∙ (λ k. if_there (sym (all n) k) (λ own. if_there (sym (same_type d types all i ids t) k) (is_other_parent own)))
      ∙ (λ k. if_there (type_of types n) (λ own. if_there (type_with types (sym same k) (sym text k)) (is_other_parent own))))

-- ---- all files but stop_times.txt

abbrev pub other_kinds : List (File × List ℕ)
other_kinds = (file.Stops, codes "parent_station") ∷ (file.Transfers, codes "from_stop_id") ∷ (file.Transfers, codes "to_stop_id") ∷ []

kinds_there : (x : File) (name : List ℕ) → not (is_file file.StopTimes x) ≡ true → is_site kind_sites x name ≡ is_site other_kinds x name
kinds_there file.StopTimes name elsewhere = cc elsewhere
kinds_there x name elsewhere = refl

pub reported_at_other_kinds : (d : Dataset) (x : File) (n : ℕ) (name : List ℕ) → not (is_file file.StopTimes x) ≡ true → wrong_kind_of_stop d x n name ≡ true
    → is_site other_kinds x name ≡ true
reported_at_other_kinds d x n name elsewhere e = sym (kinds_there x name elsewhere) ∙ reported_at_kinds d x n name e
