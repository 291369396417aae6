-- A small feed as tables, and the lines that a report has of a feed.
use Rattle.std.proofs.Common.{◌∷◌, [], codes, ℕ, List, map}
use Rattle.std.specs.Prelude.{◌==◌, ◌+◌, ◌++◌, ◌&&◌, not, length, filter, flat_map}
use Rattle.std.specs.List.{range_with_len, slice_split}
use Rattle.std.specs.FinMap.Entries.{put}
use Prim.Native.String.{String as Literal}
use Rattle.gtfs_table.specs.TablesRead.{kept_files}
use Rattle.gtfs_table.specs.Tables.{Table, Dataset, empty_dataset, of_records}
use Rattle.gtfs_table.specs.declared.file.File.{File}
use Rattle.gtfs_schema.specs.Codes.{all_codes}
use Rattle.gtfs_schema.specs.Columns.{columns_of}
use Rattle.gtfs_table.specs.Rows.{records_in, is_empty}
use Rattle.gtfs_schema.specs.RowConditions.{header, is_kept_column}
use Rattle.gtfs_schema.specs.Problems.{Problem, kept, other, is_problem, problem_cmp}
use Rattle.gtfs_rules.specs.Report.{report_text}

-- a file of these lines, with fields between commas and no quotes
abbrev pub fields : Literal → List (List ℕ)
fields line = slice_split (λ b. b == 44) (codes line)

abbrev pub file : List Literal → Table
file lines = of_records (map fields lines)

abbrev pub calendar_header : Literal
calendar_header = "service_id,monday,tuesday,wednesday,thursday,friday,saturday,sunday,start_date,end_date"

-- one agency, three stops, one route, and one trip on 1 April 2024
abbrev pub small_feed : Dataset
small_feed = record empty_dataset {
  agency = file ("agency_name,agency_url,agency_timezone" ∷ "Metro,http://m.example,UTC" ∷ []);
  stops = file ("stop_id,stop_name,stop_lat,stop_lon" ∷ "S1,Mill,52.5,13.4" ∷ "S2,Lake,52.6,13.5" ∷ "S3,Hill,52.7,13.6" ∷ []);
  routes = file ("route_id,route_short_name,route_type" ∷ "R1,10,3" ∷ []);
  trips = file ("route_id,service_id,trip_id" ∷ "R1,C1,T1" ∷ []);
  stop_times = file ("trip_id,arrival_time,departure_time,stop_id,stop_sequence" ∷ "T1,08:00:00,08:00:00,S1,1" ∷ "T1,08:10:00,08:10:00,S2,2" ∷ []);
  calendar = file (calendar_header ∷ "C1,1,1,1,1,1,1,1,20240401,20240401" ∷ []);
}

-- ---- the problems of a feed: every code is tried at every row, at no column, each kept column and each other name of the header

abbrev pub names_tried : Dataset → File → List (List ℕ)
names_tried d x = [] ∷ (map (λ c. c.name) (columns_of x)
    ++ filter (λ name. not (is_empty name) && not (is_kept_column x name)) (header (records_in d x)))

abbrev pub problems_tried : Dataset → File → ℕ → List Problem
problems_tried d x n =
    flat_map (λ c. map (λ name. record { file = kept x; row = n; code = c; column = name }) (names_tried d x)) all_codes

abbrev pub problems_of_others : Dataset → List Problem
problems_of_others d =
    flat_map (λ name. map (λ c. record { file = other name; row = 0; code = c; column = [] }) all_codes) d.others

abbrev pub rows_tried : Dataset → File → List ℕ
rows_tried d x = range_with_len 0 (length (records_in d x) + 1)

abbrev pub tried : Dataset → List Problem
tried d = flat_map (λ x. flat_map (problems_tried d x) (rows_tried d x)) kept_files ++ problems_of_others d

-- ---- the report of a feed: each problem once, in the order of reports

abbrev pub entered : List Problem → List (Problem × Unit {0})
entered [] = []
entered (p ∷ ps) = put problem_cmp p tt (entered ps)

abbrev pub problems_in : Dataset → List Problem
problems_in d = map (λ e. e.0) (entered (filter (is_problem d) (tried d)))

abbrev pub reported : Dataset → List ℕ
reported d = report_text (problems_in d)

-- a text of lines
abbrev pub lines : List Literal → List ℕ
lines ls = flat_map (λ l. codes l ++ codes "\n") ls
