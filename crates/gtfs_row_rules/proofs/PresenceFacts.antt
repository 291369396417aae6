-- What is reported of values that are missing or forbidden beside others.
use Rattle.std.proofs.Common.{◌≡◌, ℕ, List, [], ◌∷◌, Bool, codes}
use Rattle.std.specs.Prelude.{◌&&◌, ◌||◌, is_some}
use Rattle.gtfs_table.specs.Tables.{Dataset}
use Rattle.gtfs_table.specs.declared.file.File.TheVariants as file
use Rattle.gtfs_schema.specs.Columns.{id}
use Rattle.gtfs_schema.specs.PresenceRules.{has_wrong_parent, lacks_agency, lacks_end, lacks_name, lacks_name_or_position}
use Rattle.gtfs_schema.specs.RowConditions.{text_in}
use Rattle.gtfs_table.specs.Rows.{is_empty}
use Rattle.gtfs_schema.specs.FieldValues.{readable}
use Rattle.gtfs_row_rules.specs.ChosenConditions.{is_chosen}
use Rattle.gtfs_schema.proofs.StepFacts.{Reported}

abbrev pub presence_rules : List Reported
presence_rules = (file.Agency, "agency_id", lacks_agency file.Agency)
    ∷ (file.Stops, "stop_name", lacks_name_or_position "stop_name")
    ∷ (file.Stops, "stop_lat", lacks_name_or_position "stop_lat")
    ∷ (file.Stops, "stop_lon", lacks_name_or_position "stop_lon")
    ∷ (file.Stops, "parent_station", has_wrong_parent)
    ∷ (file.Routes, "route_short_name", lacks_name)
    ∷ (file.Routes, "agency_id", lacks_agency file.Routes)
    ∷ (file.Transfers, "from_stop_id", lacks_end 1 3 "from_stop_id")
    ∷ (file.Transfers, "to_stop_id", lacks_end 1 3 "to_stop_id")
    ∷ (file.Transfers, "from_trip_id", lacks_end 4 5 "from_trip_id")
    ∷ (file.Transfers, "to_trip_id", lacks_end 4 5 "to_trip_id")
    ∷ []

-- ---- parents

abbrev wrong_parent : List ℕ → List ℕ → Bool
wrong_parent kind parent =
    (is_chosen 4 kind 1 1 && is_some (readable id parent)) || (is_chosen 4 kind 2 4 && is_empty parent)

pub parent_reported : (d : Dataset) (n : ℕ) (kind parent : List ℕ)
    → kind ≡ text_in d file.Stops n (codes "location_type") → parent ≡ text_in d file.Stops n (codes "parent_station")
    → wrong_parent kind parent ≡ has_wrong_parent d n
parent_reported d n kind parent a b = λ i. wrong_parent (a i) (b i)
