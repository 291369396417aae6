-- Problems of the kinds of stops that rows name: E11.
-- GTFS Schedule Reference, `location_type` and `parent_station` of stops.txt, `stop_id` of stop_times.txt, `from_stop_id` and
-- `to_stop_id` of transfers.txt.
use Rattle.std.specs.Prelude.{ℕ, ◌&&◌, ◌||◌, not, List, [], ◌∷◌, codes, Option, option_and_then, ℤ}
use Prim.Native.String.{String as Literal}
use Rattle.gtfs_table.specs.Tables.{Dataset}
use Rattle.gtfs_table.specs.declared.file.File.{File}
use Rattle.gtfs_table.specs.declared.file.File.TheVariants as file
use Rattle.gtfs_schema.specs.FieldValues.{if_there, is_one_of}
use Rattle.gtfs_schema.specs.RowConditions.{word_in, choice_in, row_with, Rule, Condition, reported_at, any_of}

-- the location type of the stop that a column names: that of the first row with its id
abbrev pub type_named : Dataset → File → ℕ → Literal → Option ℤ
type_named d x n column = option_and_then (λ m. choice_in d file.Stops m "location_type")
    (option_and_then (row_with d file.Stops (codes "stop_id")) (word_in d x n column))

-- the stop that a column names has none of these location types
abbrev pub names_none_of : List ℕ → File → Literal → Rule
names_none_of wanted x column d n = if_there (type_named d x n column) (λ t. not (is_one_of wanted t))

-- the parent of a stop, an entrance and a node is a station (1), that of a boarding area is a stop or platform (0)
abbrev pub has_parent_of_other_type : Rule
has_parent_of_other_type d n = if_there (choice_in d file.Stops n "location_type") (λ own.
    (is_one_of (0 ∷ 2 ∷ 3 ∷ []) own && names_none_of (1 ∷ []) file.Stops "parent_station" d n)
    || (is_one_of (4 ∷ []) own && names_none_of (0 ∷ []) file.Stops "parent_station" d n))

-- E11 wrong kind of stop: vehicles stop at stops and platforms, and one changes there or at a station
abbrev pub wrong_kind_of_stop : Condition
wrong_kind_of_stop = any_of
    (reported_at file.StopTimes "stop_id" (names_none_of (0 ∷ []) file.StopTimes "stop_id")
    ∷ reported_at file.Stops "parent_station" has_parent_of_other_type
    ∷ reported_at file.Transfers "from_stop_id" (names_none_of (0 ∷ 1 ∷ []) file.Transfers "from_stop_id")
    ∷ reported_at file.Transfers "to_stop_id" (names_none_of (0 ∷ 1 ∷ []) file.Transfers "to_stop_id")
    ∷ [])
