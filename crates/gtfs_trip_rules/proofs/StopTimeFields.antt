-- What is reported of the length of a row of stop_times.txt and of its fields.
use Rattle.std.proofs.Common.{◌≡◌, ℕ, List, [], ◌∷◌, true, false, Bool, refl, sym, ap, ◌∙◌, codes, map, Option, Some, None}
use Rattle.std.specs.Prelude.{◌&&◌, ◌||◌, if◌then◌else◌, is_some}
use Rattle.std.specs.List.{list_any}
use Rattle.std.proofs.Math.Bool.{or-false}
use Rattle.gtfs_field.proofs.ListFacts.{any_mapped}
use Rattle.gtfs_table.specs.Tables.{Dataset}
use Rattle.gtfs_table.specs.declared.file.File.TheVariants as file
use Rattle.gtfs_schema.specs.declared.code.Code.{Code}
use Rattle.gtfs_schema.specs.declared.code.Code.TheVariants as code
use Rattle.gtfs_trip_rules.specs.declared.stop_times.columns.ReadStopTime.{ReadStopTime}
use Rattle.gtfs_trip_rules.specs.declared.stop_times.columns.StopTimeColumns.{StopTimeColumns}
use Rattle.gtfs_trip_rules.specs.declared.stop_times.reading.Reading.{Reading}
use Rattle.gtfs_trip_rules.specs.declared.stop_times.reading.Reading.TheVariants as reading
use Rattle.gtfs_schema.specs.steps.CellFaults.{fault_code, is_found, when}
use Rattle.gtfs_schema.specs.Columns.{Column, Kind, columns_of, column_named, id, count, time, up_to}
use Rattle.gtfs_schema.specs.steps.FieldCodes.{field_codes, in_file_of, is_found_at, is_in_row, length_code}
use Rattle.gtfs_schema.specs.steps.FoundProblems.{Adds}
use Rattle.gtfs_schema.specs.Problems.{Problem, lists_problem, is_problem}
use Rattle.gtfs_trip_rules.specs.StopTimeFields.{code_in, fault_in, is_blank}
use Rattle.gtfs_schema.specs.RowConditions.{is_named}
use Rattle.gtfs_trip_rules.specs.StopTimePicks.{at_row}
use Rattle.gtfs_trip_rules.specs.StopTimes.{cells_of, fields_report, stop_time_text, AreStopTimeColumns, IsReading, IsRow, ReportsOfRow}
use Rattle.gtfs_schema.specs.FieldValues.{Value, if_there}
use Rattle.gtfs_table.specs.Rows.{is_empty}
use Rattle.gtfs_schema.proofs.FieldRowFacts.{cell_at, cell_reported, empty_is, here_reported, length_reported}
use Rattle.gtfs_schema.proofs.NamedFacts.{kept_any, kept_name_is, named_located}
use Rattle.gtfs_schema.proofs.AddFacts.{adds_alike}

-- ---- one field after the other

joined : (l r a b : Bool) → ((l || (r && a)) || (r && b)) ≡ (l || (r && (a || b)))
joined true r a b = refl
joined false true a b = refl
joined false false a b = refl

pub adds_then : (r a b : Problem → Bool) (xs ys zs : List Problem) → Adds (λ p. r p && a p) xs ys → Adds (λ p. r p && b p) ys zs → Adds (λ p. r p && (a p || b p)) xs zs
adds_then r a b xs ys zs before now p = now p ∙ ap (λ l. l || (r p && b p)) (before p) ∙ joined (lists_problem xs p) (r p) (a p) (b p)

abbrev Cell : Type 0
Cell = List ℕ × Option Code

abbrev is_at : Problem → Cell → Bool
is_at p cell = is_found_at cell.1 cell.0 p

-- first one test, and then each field
abbrev pub reported_cells : (Problem → Bool) → List Cell → Problem → Bool
reported_cells first [] p = first p
reported_cells first (c ∷ cs) p = reported_cells (λ q. first q || is_at q c) cs p

or_later : (a b c : Bool) → ((a || b) || c) ≡ (a || (b || c))
or_later true b c = refl
or_later false b c = refl

pub all_cells : (first : Problem → Bool) (cells : List Cell) (p : Problem) → reported_cells first cells p ≡ (first p || list_any (is_at p) cells)
all_cells first [] p = sym (or-false (first p))
all_cells first (c ∷ cs) p = all_cells (λ q. first q || is_at q c) cs p ∙ or_later (first p) (is_at p c) (list_any (is_at p) cs)

-- ---- a field and its column

code_as : {V : Type 0} (b : Bool) (r : Reading V) → code_in b r ≡ (if is_blank r then when b code.E06 else fault_in r)
code_as b reading.Empty = refl
code_as b (reading.Fault c) = refl
code_as b (reading.Value v) = refl

filled_code : (empty b : Bool) (wanted : Bool) (found : Option Code) → b ≡ wanted
    → (if empty then when b code.E06 else (if empty then None else found)) ≡ (if empty then when wanted code.E06 else found)
filled_code true b wanted found same = ap (λ w. when w code.E06) same
filled_code false b wanted found same = refl

and_true : (a : Bool) → a ≡ (a && true)
and_true true = refl
and_true false = refl

and_false : (a : Bool) → false ≡ (a && false)
and_false true = refl
and_false false = refl

unfilled_code : (empty named : Bool) (found : Option Code) → (if empty then None else found) ≡ (if empty then when (named && false) code.E06 else found)
unfilled_code true true found = refl
unfilled_code true false found = refl
unfilled_code false named found = refl

module _ {V : Type 0} (kind : Kind) (as_value : V → Value) (t : List ℕ) (r : Reading V) (read : IsReading kind as_value t r) where
  read_code : (b wanted : Bool) → b ≡ wanted → code_in b r ≡ (if is_empty t then when wanted code.E06 else fault_code kind t)
  read_code b wanted same = code_as b r
      ∙ (λ i. if read.empty i then when b code.E06 else read.fault i)
      ∙ filled_code (is_empty t) b wanted (fault_code kind t) same

module _ (d : Dataset) (c : StopTimeColumns) (columns : AreStopTimeColumns d c) (s : ReadStopTime) (is : IsRow d s) where
  -- the cells of the kept columns, by the definition
  abbrev cells_in : List Cell
  cells_in = map (λ k. (k.name, cell_at d file.StopTimes s.row k.name k)) (columns_of file.StopTimes)

  trip_named : is_some c.trip_id ≡ (is_named d file.StopTimes (codes "trip_id") && true)
  trip_named = ap is_some columns.trip_id ∙ sym (named_located d file.StopTimes (codes "trip_id") refl) ∙ and_true _

  stop_named : is_some c.stop_id ≡ (is_named d file.StopTimes (codes "stop_id") && true)
  stop_named = ap is_some columns.stop_id ∙ sym (named_located d file.StopTimes (codes "stop_id") refl) ∙ and_true _

  sequence_named : is_some c.stop_sequence ≡ (is_named d file.StopTimes (codes "stop_sequence") && true)
  sequence_named = ap is_some columns.stop_sequence ∙ sym (named_located d file.StopTimes (codes "stop_sequence") refl) ∙ and_true _

  cells_are : cells_of c s ≡ cells_in
  cells_are = λ i.
      (codes "trip_id", read_code id _ _ _ is.says.trip_id _ _ trip_named i)
      ∷ (codes "arrival_time", read_code time _ _ _ is.says.arrival_time _ _ (and_false (is_named d file.StopTimes (codes "arrival_time"))) i)
      ∷ (codes "departure_time", read_code time _ _ _ is.says.departure_time _ _ (and_false (is_named d file.StopTimes (codes "departure_time"))) i)
      ∷ (codes "stop_id", read_code id _ _ _ is.says.stop_id _ _ stop_named i)
      ∷ (codes "stop_sequence", read_code count _ _ _ is.says.stop_sequence _ _ sequence_named i)
      ∷ (codes "stop_headsign", (is.says.stop_headsign ∙ unfilled_code (is_empty (stop_time_text d s.row "stop_headsign")) (is_named d file.StopTimes (codes "stop_headsign")) _) i)
      ∷ (codes "pickup_type", read_code (up_to 3) _ _ _ is.says.pickup_type _ _ (and_false (is_named d file.StopTimes (codes "pickup_type"))) i)
      ∷ (codes "drop_off_type", read_code (up_to 3) _ _ _ is.says.drop_off_type _ _ (and_false (is_named d file.StopTimes (codes "drop_off_type"))) i)
      ∷ (codes "timepoint", read_code (up_to 1) _ _ _ is.says.timepoint _ _ (and_false (is_named d file.StopTimes (codes "timepoint"))) i)
      ∷ []

  same_there : (o : Option Column) (f g : Column → Bool) → ((k : Column) → o ≡ Some k → f k ≡ g k) → if_there o f ≡ if_there o g
  same_there None f g same = refl
  same_there (Some k) f g same = same k refl

  cells_reported : (p : Problem) → list_any (is_at p) (cells_of c s) ≡ cell_reported d file.StopTimes s.row p.column p.code
  cells_reported p =
      ap (list_any (is_at p)) cells_are
      ∙ any_mapped (is_at p) (λ (k : Column). (k.name, cell_at d file.StopTimes s.row k.name k)) (columns_of file.StopTimes)
      ∙ kept_any file.StopTimes p.column (λ k. is_found (cell_at d file.StopTimes s.row k.name k) p.code)
      ∙ same_there (column_named file.StopTimes p.column) _ _
      (λ k there. ap (λ name. is_found (cell_at d file.StopTimes s.row name k) p.code) (kept_name_is file.StopTimes p.column k there))

  length_is : (p : Problem) → is_found_at (length_code c.width s.fields) [] p ≡ length_reported d file.StopTimes s.row p.column p.code
  length_is p = rw (columns.width, is.says.fields, empty_is p.column) refl

  pub fields_reported : (old new : List Problem) → Adds (λ p. is_in_row file.StopTimes s.row p && fields_report c s p) old new
      → ReportsOfRow d (in_file_of field_codes file.StopTimes) s.row old new
  fields_reported old new = adds_alike (λ p. is_in_row file.StopTimes s.row p && fields_report c s p)
      (λ p. at_row (in_file_of field_codes file.StopTimes) s.row p && is_problem d p) old new
      (λ p. (λ i. is_in_row file.StopTimes s.row p && (length_is p i || cells_reported p i)) ∙ here_reported d file.StopTimes s.row is.row p)
