-- References that name no row: what a row's rule says, and where they are reported.
use Rattle.std.proofs.Common.{◌≡◌, ◌++◌, ◌∷◌, ℕ, List, codes, true, false, Bool, refl, sym, ◌∙◌}
use Rattle.std.specs.Prelude.{◌&&◌, ◌||◌, not, bytes_eq, is_some}
use Rattle.std.specs.List.{list_any}
use Rattle.std.proofs.lemmas.Bool.{and_from as and_both}
use Rattle.gtfs_table.specs.Tables.{Dataset}
use Rattle.gtfs_table.specs.declared.file.File.{File}
use Rattle.gtfs_table.specs.declared.file.File.TheVariants as file
use Rattle.gtfs_schema.specs.steps.Ids.{first_rows, FirstRows}
use Rattle.gtfs_schema.specs.KeyRules.{is_known, unknown_reference}
use Rattle.gtfs_schema.specs.References.{Reference, references}
use Rattle.gtfs_schema.specs.steps.ReferencePicks.{route_names, service_names, stop_names, trip_names}
use Rattle.gtfs_schema.specs.ReadFields.{is_id}
use Rattle.gtfs_schema.specs.RowConditions.{is_file, row_with, text_in, value_in}
use Rattle.gtfs_table.specs.Rows.{is_row, records_in}
use Rattle.gtfs_schema.specs.steps.UnknownIds.{is_unknown}
use Rattle.gtfs_schema.proofs.BoolFacts.{and_parts}
use Rattle.gtfs_schema.proofs.IdFacts.{first_row_is}
use Rattle.gtfs_schema.proofs.SiteFacts.{is_site}
use Rattle.gtfs_schema.proofs.EachFacts.{any_follows}
use Rattle.gtfs_schema.proofs.NamedFacts.{text_turned}

-- the rule reads the ids and the text that are asked for
pub read_alike : (reported row : Bool) (i j : FirstRows) (t u : List ℕ) → reported ≡ (row && is_unknown i t) → j ≡ i → u ≡ t → reported ≡ (row && is_unknown j u)
read_alike reported row i j t u rule ids text = rule ∙ (λ k. row && is_unknown (sym ids k) (sym text k))

known_once : (row there known : Bool) → ((row && there) && (not (known || false) || false)) ≡ (row && (there && not known))
known_once true true true = refl
known_once true true false = refl
known_once true false known = refl
known_once false there known = refl

-- a reference to the ids of one file is unknown where no row has the id
pub unknown_in : (d : Dataset) (x : File) (n : ℕ) (name : List ℕ) (y : File) (column : List ℕ) (ids : FirstRows) → ids ≡ first_rows d y column
    → ((is_row (records_in d x) n && is_id (text_in d x n name)) && (not (is_some (row_with d y column (text_in d x n name)) || false) || false))
    ≡ (is_row (records_in d x) n && is_unknown ids (text_in d x n name))
unknown_in d x n name y column ids is =
    let row = is_row (records_in d x) n in
    let t = text_in d x n name in
    known_once row (is_id t) (is_some (row_with d y column t))
    ∙ (λ k. row && (is_id t && not (is_some (sym (first_row_is d y column t) k))))
    ∙ (λ k. row && is_unknown (sym is k) t)

-- each column that names rows, in their order
abbrev pub all_names : List (File × List ℕ)
all_names = (file.Stops, codes "parent_station") ∷ (file.StopTimes, codes "stop_id") ∷ (file.Transfers, codes "from_stop_id") ∷ (file.Transfers, codes "to_stop_id")
    ∷ (file.Routes, codes "agency_id") ∷ (route_names ++ (service_names ++ ((file.StopTimes, codes "trip_id") ∷ trip_names)))

-- those of all files but stop_times.txt
abbrev pub other_names : List (File × List ℕ)
other_names = stop_names ++ ((file.Routes, codes "agency_id") ∷ (route_names ++ (service_names ++ trip_names)))

-- a reference is reported at its column
pub reported_at_names : (d : Dataset) (x : File) (n : ℕ) (name : List ℕ) → unknown_reference d x n name ≡ true → is_site all_names x name ≡ true
reported_at_names d x n name e =
    let known : Reference → Bool = λ r. is_known d r.targets (text_in d x n name) in
    let there = is_row (records_in d x) n && is_some (value_in d x n name) in
    any_follows (λ r. is_file r.file x && bytes_eq r.column name && not (known r)) (λ r. is_file r.file x && bytes_eq name r.column) references
    (λ r here. let site = and_parts (is_file r.file x) (bytes_eq r.column name) (and_parts (is_file r.file x && bytes_eq r.column name) (not (known r)) here).0 in
    and_both (is_file r.file x) (bytes_eq name r.column) site.0 (text_turned name r.column ∙ site.1))
    (and_parts there (list_any (λ r. is_file r.file x && bytes_eq r.column name && not (known r)) references) e).1

-- ---- all files but stop_times.txt

names_alike : (x : File) (name : List ℕ) → not (is_file file.StopTimes x) ≡ true → is_site all_names x name ≡ is_site other_names x name
names_alike file.StopTimes name elsewhere = cc elsewhere
names_alike x name elsewhere = refl

pub reported_at_others : (d : Dataset) (x : File) (n : ℕ) (name : List ℕ) → not (is_file file.StopTimes x) ≡ true → unknown_reference d x n name ≡ true
    → is_site other_names x name ≡ true
reported_at_others d x n name elsewhere e = sym (names_alike x name elsewhere) ∙ reported_at_names d x n name e
