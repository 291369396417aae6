-- The report of a merge, as the names tell it.
use Rattle.std.specs.Prelude.{ℕ, ◌+◌, if◌then◌else◌, List, [], ◌++◌, length, flat_map, bytes_eq, codes, decimal, Option, Some, None}
use Rattle.gtfs_merge.specs.NearStops.{near_line}
use Rattle.gtfs_merge.specs.Names.{AllNames, in_kind, new_id, of_side}
use Rattle.gtfs_merge.specs.MergeReport.{joined_line, kind_name, kinds, renamed_line, side_name}
use Rattle.gtfs_merge.specs.declared.kind.Kind.{Kind}
use Rattle.gtfs_merge.specs.declared.kind.Side.{Side}
use Rattle.gtfs_merge.specs.declared.kind.Side.TheVariants as side
use Rattle.gtfs_cli.specs.declared.report.merge_line.MergeLine.{MergeLine}
use Rattle.gtfs_cli.specs.declared.report.merge_line.MergeLine.TheVariants.{Renamed, Joined, Near}

-- the line of so many near stops
abbrev pub near_text : ℕ → List ℕ
near_text count = codes "near stop " ++ decimal count ++ codes "\n"

-- a line of the report: of an id that changes, of how many ids of a kind are joined, or of how many stops are near
abbrev pub line_text : MergeLine → List ℕ
line_text (Renamed s k old new) = renamed_line s k old.now new.now
line_text (Joined k count) = joined_line k count
line_text (Near count) = near_text count

-- how many bytes of the line of an id are names or ids
abbrev pub renamed_len : Side → Kind → List ℕ → List ℕ → ℕ
renamed_len s k old new = length (side_name s) + length (kind_name k) + length old + length new

-- how many bytes a line has, at most; a number has 20
abbrev pub line_room : MergeLine → ℕ
line_room (Renamed s k old new) = 4 + renamed_len s k old.now new.now
line_room (Joined k count) = 29 + length (kind_name k)
line_room (Near count) = 31

-- the line of an id by what it became, if that is another
abbrev pub named_line : Side → Kind → List ℕ → Option (List ℕ) → List ℕ
named_line s k old None = []
named_line s k old (Some new) = if bytes_eq new old then [] else renamed_line s k old new

-- the line of an id, if it changes
abbrev pub id_line : AllNames → Side → Kind → List ℕ → List ℕ
id_line n s k id = named_line s k id (new_id (of_side (in_kind n k) s) id)

-- the lines of the ids of a side
abbrev pub side_lines : AllNames → Side → Kind → List ℕ
side_lines n s k = flat_map (id_line n s k) (of_side (in_kind n k) s).ids

-- those of both sides
abbrev pub both_lines : AllNames → Kind → List ℕ
both_lines n k = side_lines n side.A k ++ side_lines n side.B k

abbrev pub count_line : AllNames → Kind → List ℕ
count_line n k = joined_line k (length (in_kind n k).joined)

abbrev pub ids_report : AllNames → List ℕ
ids_report n = flat_map (both_lines n) kinds ++ flat_map (count_line n) kinds

-- the last line comes only where a distance of near stops is given
abbrev pub names_report : Option ℕ → AllNames → List ℕ
names_report near n = ids_report n ++ near_line near (length n.near)
