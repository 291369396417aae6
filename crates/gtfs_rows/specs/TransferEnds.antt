-- What a transfer with numbers stands for, given the ids of stops, routes and trips by their numbers.
use Rattle.std.specs.Prelude.{ℕ, ◌&&◌, [], ◌∷◌, Bool, List, length, Option, option_map}
use Rattle.gtfs_rows.specs.declared.transfer.Transfer.{Transfer as TransferRow}
use Rattle.gtfs_rows.specs.RowChoices.{transfer_code}
use Rattle.gtfs_rows.specs.Rows.{Transfer}
use Rattle.gtfs_rows.specs.NamedRows.{is_number_within, text_of_number}

abbrev pub transfer_named : List (List ℕ) → List (List ℕ) → List (List ℕ) → TransferRow → Transfer
transfer_named stops routes trips t = record {
  from_stop_id = option_map (λ n. text_of_number stops n.0) t.from_stop_id;
  to_stop_id = option_map (λ n. text_of_number stops n.0) t.to_stop_id;
  from_route_id = option_map (λ n. text_of_number routes n.0) t.from_route_id;
  to_route_id = option_map (λ n. text_of_number routes n.0) t.to_route_id;
  from_trip_id = option_map (λ n. text_of_number trips n.0) t.from_trip_id;
  to_trip_id = option_map (λ n. text_of_number trips n.0) t.to_trip_id;
  transfer_type = transfer_code t.transfer_type;
  min_transfer_time = t.min_transfer_time;
}

-- the numbers of what it names
abbrev pub transfer_numbers : TransferRow → List (Option ℕ)
transfer_numbers t = option_map (λ n. n.0) t.from_stop_id ∷ option_map (λ n. n.0) t.to_stop_id ∷ option_map (λ n. n.0) t.from_route_id
    ∷ option_map (λ n. n.0) t.to_route_id ∷ option_map (λ n. n.0) t.from_trip_id ∷ option_map (λ n. n.0) t.to_trip_id ∷ []

-- each is that of one of these ids
abbrev pub names_ends : List (List ℕ) → List (List ℕ) → List (List ℕ) → TransferRow → Bool
names_ends stops routes trips t = is_number_within (length stops) (option_map (λ n. n.0) t.from_stop_id) && is_number_within (length stops) (option_map (λ n. n.0) t.to_stop_id)
    && is_number_within (length routes) (option_map (λ n. n.0) t.from_route_id) && is_number_within (length routes) (option_map (λ n. n.0) t.to_route_id)
    && is_number_within (length trips) (option_map (λ n. n.0) t.from_trip_id) && is_number_within (length trips) (option_map (λ n. n.0) t.to_trip_id)
