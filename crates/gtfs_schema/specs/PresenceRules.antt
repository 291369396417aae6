-- Problems of values that are missing or forbidden beside others, and of zones: E12 and E13.
-- GTFS Schedule Reference, the conditionally required and the conditionally forbidden fields of agency.txt, stops.txt,
-- routes.txt and transfers.txt; `agency_timezone` of agency.txt. Each column of a rule is judged by itself.
use Rattle.std.specs.Prelude.{ℕ, ◌&&◌, ◌||◌, not, Bool, nat_lt, List, [], ◌∷◌, length, bytes_eq, find, Option, option_and_then}
use Prim.Native.String.{String as Literal}
use Rattle.gtfs_table.specs.Tables.{Dataset}
use Rattle.gtfs_table.specs.declared.file.File.{File}
use Rattle.gtfs_table.specs.declared.file.File.TheVariants as file
use Rattle.gtfs_schema.specs.FieldValues.{if_there, if_both, is_count_between}
use Rattle.gtfs_table.specs.Rows.{rows}
use Rattle.gtfs_schema.specs.RowConditions.{is_readable_in, is_empty_in, word_in, choice_in, Rule, Condition, reported_at, any_of}

-- ---- E12 value missing or forbidden

-- the row's choice is a number from low to high
abbrev pub is_choice : ℕ → ℕ → File → Literal → Rule
is_choice low high x column d n = if_there (choice_in d x n column) (is_count_between low high)

abbrev pub is_of_type : ℕ → ℕ → Rule
is_of_type low high = is_choice low high file.Stops "location_type"

-- stops, stations and entrances have a name and a site
abbrev pub lacks_name_or_position : Literal → Rule
lacks_name_or_position column d n = is_of_type 0 2 d n && is_empty_in d file.Stops n column

-- a station has no parent; an entrance, a node and a boarding area have one
abbrev pub has_wrong_parent : Rule
has_wrong_parent d n = (is_of_type 1 1 d n && is_readable_in d file.Stops n "parent_station")
    || (is_of_type 2 4 d n && is_empty_in d file.Stops n "parent_station")

-- of two agencies or more each has an id, and each route names one
abbrev pub has_many_agencies : Dataset → Bool
has_many_agencies d = nat_lt 1 (length (rows d file.Agency))

abbrev pub lacks_agency : File → Rule
lacks_agency x d n = has_many_agencies d && is_empty_in d x n "agency_id"

-- a route has a name, a short one or a long one
abbrev pub lacks_name : Rule
lacks_name d n = is_empty_in d file.Routes n "route_short_name" && is_empty_in d file.Routes n "route_long_name"

-- a transfer between stops names both; one that stays in the vehicle names both trips
abbrev pub lacks_end : ℕ → ℕ → Literal → Rule
lacks_end low high column d n = is_choice low high file.Transfers "transfer_type" d n && is_empty_in d file.Transfers n column

abbrev pub value_missing_or_forbidden : Condition
value_missing_or_forbidden = any_of
    (reported_at file.Agency "agency_id" (lacks_agency file.Agency)
    ∷ reported_at file.Stops "stop_name" (lacks_name_or_position "stop_name")
    ∷ reported_at file.Stops "stop_lat" (lacks_name_or_position "stop_lat")
    ∷ reported_at file.Stops "stop_lon" (lacks_name_or_position "stop_lon")
    ∷ reported_at file.Stops "parent_station" has_wrong_parent
    ∷ reported_at file.Routes "route_short_name" lacks_name
    ∷ reported_at file.Routes "agency_id" (lacks_agency file.Routes)
    ∷ reported_at file.Transfers "from_stop_id" (lacks_end 1 3 "from_stop_id")
    ∷ reported_at file.Transfers "to_stop_id" (lacks_end 1 3 "to_stop_id")
    ∷ reported_at file.Transfers "from_trip_id" (lacks_end 4 5 "from_trip_id")
    ∷ reported_at file.Transfers "to_trip_id" (lacks_end 4 5 "to_trip_id")
    ∷ [])

-- ---- E13 zones differ

-- the zone of the first agency that has a readable one
abbrev pub first_zone : Dataset → Option (List ℕ)
first_zone d = option_and_then (λ m. word_in d file.Agency m "agency_timezone")
    (find (λ m. is_readable_in d file.Agency m "agency_timezone") (rows d file.Agency))

abbrev pub has_other_zone : Rule
has_other_zone d n = if_both (word_in d file.Agency n "agency_timezone") (first_zone d) (λ zone first. not (bytes_eq zone first))

abbrev pub zones_differ : Condition
zones_differ = reported_at file.Agency "agency_timezone" has_other_zone
