-- A written content has one zone: no E13.
use Rattle.std.proofs.Common.{◌≡◌, ◌+◌, ◌<◌, ℕ, List, [], ◌∷◌, length, get_or, true, false, Some, refl, ap, ◌∙◌}
use Rattle.std.specs.Prelude.{◌==◌, ◌||◌, not, bytes_eq, find, option_and_then, is_some, codes}
use Rattle.std.specs.List.{list_all}
use Rattle.std.proofs.lemmas.Bool.{and_parts, not_from_true}
use Rattle.gtfs_table.specs.declared.file.File.{File}
use Rattle.gtfs_table.specs.declared.file.File.TheVariants as file
use Rattle.gtfs_table.specs.Rows.{is_empty}
use Rattle.gtfs_schema.specs.PresenceRules.{first_zone, has_other_zone, zones_differ}
use Rattle.gtfs_schema.specs.RowConditions.{word_in, is_readable_in}
use Rattle.gtfs_schema.specs.FieldValues.{if_there, if_both}
use Rattle.gtfs_rows.specs.Content.{Content}
use Rattle.gtfs_rows.specs.RowCells.{agency_cells}
use Rattle.gtfs_rows.specs.Rows.{Agency}
use Rattle.gtfs_rows.specs.SoundContent.{IsSound, is_sound_agency}
use Rattle.gtfs_rows.specs.WrittenContent.{written_beside}
use Rattle.gtfs_rows.proofs.RangeLists.{find_range}
use Rattle.gtfs_rows.proofs.RowTexts.{all_at}
use Rattle.gtfs_rows.proofs.Views.{rows_are, value_at, word_at, no_told}

module _ (others : List (List ℕ)) (c : Content) (sound : IsSound c) where
  zone_at : (k : ℕ) (e : Agency) → k < length c.agencies → word_in (written_beside others c) file.Agency (k + 2) "agency_timezone" ≡ Some (get_or c.agencies k e).agency_timezone
  zone_at k e h = word_at others c file.Agency c.agencies agency_cells refl (sound.cells file.Agency) k e h "agency_timezone" refl (Some (get_or c.agencies k e).agency_timezone) refl

  readable_at : (k : ℕ) (e : Agency) → k < length c.agencies → is_readable_in (written_beside others c) file.Agency (k + 2) "agency_timezone" ≡ true
  readable_at k e h = ap is_some (value_at others c file.Agency c.agencies agency_cells refl (sound.cells file.Agency) k e h (codes "agency_timezone") refl)

  first_is : first_zone (written_beside others c) ≡ option_and_then (λ a. Some a.agency_timezone) (find (λ a. true) c.agencies)
  first_is =
      ap (λ ns. option_and_then (λ m. word_in (written_beside others c) file.Agency m "agency_timezone") (find (λ m. is_readable_in (written_beside others c) file.Agency m "agency_timezone") ns)) (rows_are others c file.Agency c.agencies agency_cells refl (sound.cells file.Agency))
      ∙ find_range (λ m. is_readable_in (written_beside others c) file.Agency m "agency_timezone") (λ a. true) (λ m. word_in (written_beside others c) file.Agency m "agency_timezone") (λ a. Some a.agency_timezone) 2 c.agencies
      (record { at = readable_at }) (record { at = zone_at })

  no_other_zone : (k : ℕ) (e : Agency) → k < length c.agencies → has_other_zone (written_beside others c) (k + 2) ≡ false
  no_other_zone k e h =
      let a = get_or c.agencies k e in
      let fine = all_at (is_sound_agency c) c.agencies k e sound.agencies h in
      (λ i. if_both (zone_at k e h i) (first_is i) (λ zone first. not (bytes_eq zone first)))
      ∙ same_first c.agencies ((and_parts (not (is_empty a.agency_id) || (length c.agencies == 1)) (list_all (λ b. bytes_eq a.agency_timezone b.agency_timezone) c.agencies) fine).1)
    where
      same_first : (all : List Agency) → list_all (λ b. bytes_eq (get_or c.agencies k e).agency_timezone b.agency_timezone) all ≡ true
          → if_there (option_and_then (λ a. Some a.agency_timezone) (find (λ a. true) all)) (λ first. not (bytes_eq (get_or c.agencies k e).agency_timezone first)) ≡ false
      same_first [] one = refl
      same_first (b ∷ all) one = not_from_true (bytes_eq (get_or c.agencies k e).agency_timezone b.agency_timezone) ((and_parts (bytes_eq (get_or c.agencies k e).agency_timezone b.agency_timezone) _ one).0)

  pub no_zones_differ : (y : File) (n : ℕ) (name : List ℕ) → zones_differ (written_beside others c) y n name ≡ false
  no_zones_differ = no_told others c file.Agency c.agencies agency_cells refl (sound.cells file.Agency) "agency_timezone" has_other_zone no_other_zone
