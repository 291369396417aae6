-- Where the problems of rows are reported: a file's problems of the codes that a pass looks at are those of its header's rule and those at
-- some columns.
use Rattle.std.proofs.Common.{◌≡◌, ℕ, List, [], ◌∷◌, Bool, true, false, refl, sym, ap, ◌∙◌, codes}
use Rattle.std.specs.Prelude.{◌&&◌, ◌||◌, not, bytes_eq}
use Rattle.std.specs.List.{AllByRecursion, list_any}
use Rattle.std.proofs.lemmas.Bool.{and_from as and_both}
use Rattle.std.proofs.lemmas.List.Folds.{list_any-append}
use Rattle.gtfs_table.specs.Tables.{Dataset}
use Rattle.gtfs_table.specs.declared.file.File.{File}
use Rattle.gtfs_table.specs.declared.file.File.TheVariants as file
use Rattle.gtfs_schema.specs.declared.code.Code.{Code}
use Rattle.gtfs_schema.specs.declared.code.Code.TheVariants as code
use Rattle.gtfs_schema.specs.steps.FieldCodes.{field_codes, in_file_of}
use Rattle.gtfs_schema.specs.steps.FoundProblems.{Reports}
use Rattle.gtfs_schema.specs.steps.KeptColumns.{at_column, is_kept, of_codes}
use Rattle.gtfs_schema.specs.PeriodRules.{ends_at_start}
use Rattle.gtfs_schema.specs.PresenceRules.{has_other_zone}
use Rattle.gtfs_schema.specs.References.{reported_column}
use Rattle.gtfs_schema.specs.Problems.{Problem, holds, holds_in, is_code, is_problem}
use Rattle.gtfs_schema.specs.RowConditions.{is_file}
use Rattle.gtfs_schema.specs.ServiceRules.{ends_before_start}
use Rattle.gtfs_schema.proofs.BoolFacts.{and_parts, or_left, or_right, same_test}
use Rattle.gtfs_schema.proofs.EachFacts.{any_follows}
use Rattle.gtfs_schema.proofs.ReferenceFacts.{other_names, reported_at_others}
use Rattle.gtfs_schema.proofs.ReportingFacts.{reports_alike}
use Rattle.gtfs_schema.proofs.SiteFacts.{code_is, file_is, is_site}
use Rattle.gtfs_schema.proofs.StepFacts.{Reported, reported_there}
use Rattle.gtfs_row_rules.specs.RowCodes.{beside_codes, in_rows_of, row_codes}
use Rattle.gtfs_row_rules.proofs.PresenceFacts.{presence_rules}
use Rattle.gtfs_row_rules.proofs.SingleKeyFacts.{key_there}
use Rattle.gtfs_row_rules.proofs.StopKindFacts.{other_kinds, reported_at_other_kinds}

-- the codes and columns of the rules that each row of a file is asked for
abbrev pub row_sites : File → List (Code × List ℕ)
row_sites file.Agency = (code.E09, codes "agency_id") ∷ (code.E12, codes "agency_id") ∷ (code.E13, codes "agency_timezone") ∷ []
row_sites file.Stops = (code.E09, codes "stop_id") ∷ (code.E10, codes "parent_station") ∷ (code.E11, codes "parent_station")
    ∷ (code.E12, codes "stop_name") ∷ (code.E12, codes "stop_lat") ∷ (code.E12, codes "stop_lon") ∷ (code.E12, codes "parent_station") ∷ []
row_sites file.Routes = (code.E09, codes "route_id") ∷ (code.E10, codes "agency_id") ∷ (code.E12, codes "route_short_name") ∷ (code.E12, codes "agency_id") ∷ []
row_sites file.Trips = (code.E09, codes "trip_id") ∷ (code.E10, codes "route_id") ∷ (code.E10, codes "service_id") ∷ []
row_sites file.StopTimes = []
row_sites file.Calendar = (code.E09, codes "service_id") ∷ (code.E14, codes "end_date") ∷ []
row_sites file.CalendarDates = (code.E09, codes "date") ∷ []
row_sites file.Frequencies = (code.E09, codes "start_time") ∷ (code.E10, codes "trip_id") ∷ (code.E18, codes "end_time") ∷ []
row_sites file.Transfers = (code.E09, codes "from_stop_id") ∷ (code.E10, codes "from_stop_id") ∷ (code.E10, codes "to_stop_id") ∷ (code.E10, codes "from_route_id") ∷ (code.E10, codes "to_route_id")
    ∷ (code.E10, codes "from_trip_id") ∷ (code.E10, codes "to_trip_id") ∷ (code.E11, codes "from_stop_id") ∷ (code.E11, codes "to_stop_id")
    ∷ (code.E12, codes "from_stop_id") ∷ (code.E12, codes "to_stop_id") ∷ (code.E12, codes "from_trip_id") ∷ (code.E12, codes "to_trip_id") ∷ []

-- what a pass over a file asks of its rows
abbrev pub asked_of : File → Problem → Bool
asked_of x p = in_file_of field_codes x p || list_any (λ site. at_column site.0 x site.1 p) (row_sites x)

-- a file's columns of one code
abbrev is_there : File → Code → List ℕ → Bool
is_there x k name = list_any (λ site. is_code k site.0 && bytes_eq name site.1) (row_sites x)

-- ---- the columns of each code

key_here : (x : File) (name : List ℕ) → not (is_file file.StopTimes x) ≡ true → bytes_eq name (reported_column x) ≡ true → is_there x code.E09 name ≡ true
key_here file.StopTimes name apart e = cc apart
key_here x name apart e = or_left (bytes_eq name (reported_column x)) false e

name_here : (x : File) (name : List ℕ) → is_site other_names x name ≡ true → is_there x code.E10 name ≡ true
name_here file.StopTimes name e = e
name_here x name e = e

kind_here : (x : File) (name : List ℕ) → is_site other_kinds x name ≡ true → is_there x code.E11 name ≡ true
kind_here file.StopTimes name e = e
kind_here x name e = e

abbrev is_reported : List Reported → File → List ℕ → Bool
is_reported rules x name = list_any (λ t. is_file x t.0 && bytes_eq name (codes t.1)) rules

presence_here : (x : File) (name : List ℕ) → is_reported presence_rules x name ≡ true → is_there x code.E12 name ≡ true
presence_here file.StopTimes name e = e
presence_here x name e = e

abbrev zone_rules : List Reported
zone_rules = (file.Agency, "agency_timezone", has_other_zone) ∷ []

zone_here : (x : File) (name : List ℕ) → is_reported zone_rules x name ≡ true → is_there x code.E13 name ≡ true
zone_here file.StopTimes name e = e
zone_here x name e = e

abbrev span_rules : List Reported
span_rules = (file.Calendar, "end_date", ends_before_start) ∷ []

span_here : (x : File) (name : List ℕ) → is_reported span_rules x name ≡ true → is_there x code.E14 name ≡ true
span_here file.StopTimes name e = e
span_here x name e = e

abbrev period_rules : List Reported
period_rules = (file.Frequencies, "end_time", ends_at_start) ∷ []

period_here : (x : File) (name : List ℕ) → is_reported period_rules x name ≡ true → is_there x code.E18 name ≡ true
period_here file.StopTimes name e = e
period_here x name e = e

-- ---- the codes of the columns

-- each is one that a pass looks at
looked_at : (x : File) → AllByRecursion (λ (site : Code × List ℕ). list_any (is_code site.0) beside_codes ≡ true) (row_sites x)
looked_at file.Agency = (refl, (refl, (refl, tt)))
looked_at file.Stops = (refl, (refl, (refl, (refl, (refl, (refl, (refl, tt)))))))
looked_at file.Routes = (refl, (refl, (refl, (refl, tt))))
looked_at file.Trips = (refl, (refl, (refl, tt)))
looked_at file.StopTimes = tt
looked_at file.Calendar = (refl, (refl, tt))
looked_at file.CalendarDates = (refl, tt)
looked_at file.Frequencies = (refl, (refl, (refl, tt)))
looked_at file.Transfers = (refl, (refl, (refl, (refl, (refl, (refl, (refl, (refl, (refl, (refl, (refl, (refl, (refl, tt)))))))))))))

one_of : (a b c : Bool) → (a ≡ true → c ≡ true) → (b ≡ true → c ≡ true) → (a || b) ≡ true → c ≡ true
one_of true b c first later e = first refl
one_of false b c first later e = later e

-- what follows from each element that passes a test and has a property
any_with : {X : Type 0} (P : X → Type 0) (test : X → Bool) (c : Bool) (xs : List X) → AllByRecursion P xs → ((x : X) → P x → test x ≡ true → c ≡ true) → list_any test xs ≡ true → c ≡ true
any_with P test c [] all each e = cc e
any_with P test c (x ∷ xs) all each e = one_of (test x) (list_any test xs) c (each x all.0) (any_with P test c xs all.1 each) e

-- ---- both ways

module _ (d : Dataset) (x : File) (apart : not (is_file file.StopTimes x) ≡ true) where
  is_there_of : (k : Code) (n : ℕ) (name : List ℕ) → list_any (is_code k) beside_codes ≡ true → holds_in k d x n name ≡ true → is_there x k name ≡ true
  is_there_of code.E09 n name own e = key_here x name apart (key_there d x n name e)
  is_there_of code.E10 n name own e = name_here x name (reported_at_others d x n name apart e)
  is_there_of code.E11 n name own e = kind_here x name (reported_at_other_kinds d x n name apart e)
  is_there_of code.E12 n name own e = presence_here x name (reported_there presence_rules d x n name e)
  is_there_of code.E13 n name own e = zone_here x name (reported_there zone_rules d x n name (or_left _ false e))
  is_there_of code.E14 n name own e = span_here x name (reported_there span_rules d x n name (or_left _ false e))
  is_there_of code.E18 n name own e = period_here x name (reported_there period_rules d x n name (or_left _ false e))
  is_there_of k n name own e = cc own

  -- a problem at one of the columns is one that the pass asks for
  asked_at : (p : Problem) → is_kept x p.file ≡ true → is_there x p.code p.column ≡ true → asked_of x p ≡ true
  asked_at p there site = or_right (in_file_of field_codes x p) _
      (any_follows (λ site. is_code p.code site.0 && bytes_eq p.column site.1) (λ site. at_column site.0 x site.1 p) (row_sites x)
      (λ site here. let parts = and_parts (is_code p.code site.0) (bytes_eq p.column site.1) here in
      and_both (is_code p.code site.0 && is_kept x p.file) (bytes_eq p.column site.1) (and_both (is_code p.code site.0) (is_kept x p.file) parts.0 there) parts.1) site)

  -- what holds of the file
  in_file_x : (p : Problem) → is_kept x p.file ≡ true → is_problem d p ≡ true → holds_in p.code d x p.row p.column ≡ true
  in_file_x p there e = sym (λ i. holds p.code d (file_is x p.file there i) p.row p.column) ∙ e

  all_asked : (p : Problem) → in_rows_of x p ≡ true → is_problem d p ≡ true → asked_of x p ≡ true
  all_asked p picked e =
      let parts = and_parts (of_codes row_codes p) (is_kept x p.file) picked in
      one_of (of_codes field_codes p) (of_codes beside_codes p) (asked_of x p)
      (λ of_field. or_left (in_file_of field_codes x p) _ (and_both (of_codes field_codes p) (is_kept x p.file) of_field parts.1))
      (λ beside. asked_at p parts.1 (is_there_of p.code p.row p.column beside (in_file_x p parts.1 e)))
      (sym (list_any-append (is_code p.code) field_codes beside_codes) ∙ parts.0)

  only_asked : (p : Problem) → asked_of x p ≡ true → in_rows_of x p ≡ true
  only_asked p e =
      let coded : (of_codes field_codes p || of_codes beside_codes p) ≡ true → is_kept x p.file ≡ true → in_rows_of x p ≡ true
      = λ of_code there. and_both (of_codes row_codes p) (is_kept x p.file) (list_any-append (is_code p.code) field_codes beside_codes ∙ of_code) there in
      one_of (in_file_of field_codes x p) (list_any (λ site. at_column site.0 x site.1 p) (row_sites x)) (in_rows_of x p)
      (λ of_field. let parts = and_parts (of_codes field_codes p) (is_kept x p.file) of_field in coded (or_left (of_codes field_codes p) _ parts.0) parts.1)
      (any_with (λ (site : Code × List ℕ). list_any (is_code site.0) beside_codes ≡ true) (λ site. at_column site.0 x site.1 p) (in_rows_of x p) (row_sites x) (looked_at x)
      (λ site looked here.
      let at = and_parts (is_code p.code site.0 && is_kept x p.file) (bytes_eq p.column site.1) here in
      let parts = and_parts (is_code p.code site.0) (is_kept x p.file) at.0 in
      coded (or_right (of_codes field_codes p) _ (ap (λ k. list_any (is_code k) beside_codes) (code_is p.code site.0 parts.0) ∙ looked)) parts.1)) e

  pub rows_reported : (xs ys : List Problem) → Reports d (asked_of x) xs ys → Reports d (in_rows_of x) xs ys
  rows_reported xs ys = reports_alike d (asked_of x) (in_rows_of x) xs ys (λ p. same_test (asked_of x p && is_problem d p) (in_rows_of x p && is_problem d p)
      (λ e. let parts = and_parts (asked_of x p) (is_problem d p) e in and_both (in_rows_of x p) (is_problem d p) (only_asked p parts.0) parts.1)
      (λ e. let parts = and_parts (in_rows_of x p) (is_problem d p) e in and_both (asked_of x p) (is_problem d p) (all_asked p parts.0 parts.1) parts.1))
