-- Where the problems of whole files stand.
use Rattle.std.proofs.Common.{◌≡◌, ℕ, [], ◌∷◌, List, true, false, Bool, refl, sym, ap, subst, ◌∙◌}
use Rattle.std.specs.Prelude.{◌&&◌, ◌||◌, ◌==◌, bytes_eq}
use Rattle.std.specs.List.{list_any}
use Rattle.std.proofs.lemmas.Bool.{and_from, eqb-true}
use Rattle.std.proofs.Math.Bool.{and-true}
use Rattle.gtfs_table.specs.TablesRead.{kept_files}
use Rattle.gtfs_table.specs.Tables.{Dataset}
use Rattle.gtfs_table.specs.declared.file.File.{File}
use Rattle.gtfs_table.specs.declared.file.File.TheVariants as file
use Rattle.gtfs_schema.specs.declared.code.Code.{Code}
use Rattle.gtfs_schema.specs.declared.code.Code.TheVariants as code
use Rattle.gtfs_schema.specs.steps.FieldCodes.{in_file_of}
use Rattle.gtfs_schema.specs.FileRules.{file_not_kept, is_at, is_needed, is_read}
use Rattle.gtfs_schema.specs.steps.FoundProblems.{Adds, is_same, Reports}
use Rattle.gtfs_schema.specs.steps.KeptColumns.{in_file, is_kept, of_codes}
use Rattle.gtfs_schema.specs.Problems.{FileName, kept, other, Problem, holds, holds_in, is_code, is_problem}
use Rattle.gtfs_schema.specs.RowConditions.{is_file}
use Rattle.gtfs_table.specs.Rows.{is_empty}
use Rattle.gtfs_table.proofs.BlankFacts.{no_text}
use Rattle.gtfs_schema.proofs.BoolFacts.{same_test, and_parts, or_left}
use Rattle.gtfs_schema.proofs.EachFacts.{any_and, any_follows, any_gives, of_any}
use Rattle.gtfs_schema.proofs.SiteFacts.{code_is, code_itself, file_is, file_itself, is_same_is, problem_at, same_itself, text_is}
use Rattle.gtfs_schema.proofs.ReportingFacts.{reports_alike, reports_none, reports_one, reports_then}

-- ---- a step for each of the nine files

one_of_the_nine : (x : File) → list_any (λ y. is_kept y (kept x)) kept_files ≡ true
one_of_the_nine file.Agency = refl
one_of_the_nine file.Stops = refl
one_of_the_nine file.Routes = refl
one_of_the_nine file.Trips = refl
one_of_the_nine file.StopTimes = refl
one_of_the_nine file.Calendar = refl
one_of_the_nine file.CalendarDates = refl
one_of_the_nine file.Frequencies = refl
one_of_the_nine file.Transfers = refl

-- of another name than the nine only W03 is reported
no_other : (a w k : Bool) → (w ≡ true → a ≡ false) → ((a && false) && (w && k)) ≡ (a && (w && k))
no_other true true k none = cc (none refl)
no_other true false k none = refl
no_other false w k none = refl

module _ (d : Dataset) (cs : List Code) (silent : list_any (is_code code.W03) cs ≡ false) where
  files_hold : (c : Code) (f : FileName) (n : ℕ) (name : List ℕ)
      → (list_any (λ x. list_any (is_code c) cs && is_kept x f) kept_files && holds c d f n name) ≡ (list_any (is_code c) cs && holds c d f n name)
  files_hold c (kept y) n name = ap (λ b. b && holds_in c d y n name)
      (any_and (list_any (is_code c) cs) (λ x. is_kept x (kept y)) kept_files ∙ rw (one_of_the_nine y) (and-true (list_any (is_code c) cs)))
  files_hold c (other t) n name = ap (λ b. b && holds c d (other t) n name) (any_and (list_any (is_code c) cs) (λ x. is_kept x (other t)) kept_files)
      ∙ no_other (list_any (is_code c) cs) (is_code c code.W03) (file_not_kept d t n name)
      (λ e. ap (λ k. list_any (is_code k) cs) (code_is c code.W03 e) ∙ silent)

  pub files_reported : (old new : List Problem) → Reports d (of_any (in_file_of cs) kept_files) old new → Reports d (of_codes cs) old new
  files_reported old new reported = reports_alike d (of_any (in_file_of cs) kept_files) (of_codes cs) old new (λ p. files_hold p.code p.file p.row p.column) reported

-- ---- a step for each code

code_more : (a b k h : Bool) → (((a && k) || (b && k)) && h) ≡ (((a || b) && k) && h)
code_more true true true h = refl
code_more true true false h = refl
code_more true false true h = refl
code_more true false false h = refl
code_more false b k h = refl

module _ (d : Dataset) (x : File) where
  pub no_code_reported : (ps : List Problem) → Reports d (in_file_of [] x) ps ps
  no_code_reported ps = reports_none d ps

  pub code_reported : (c : Code) (cs : List Code) (old mid new : List Problem) → Reports d (in_file c x) old mid → Reports d (in_file_of cs x) mid new → Reports d (in_file_of (c ∷ cs) x) old new
  code_reported c cs old mid new first later = reports_alike d (λ p. in_file c x p || in_file_of cs x p) (in_file_of (c ∷ cs) x) old new
      (λ p. code_more (is_code p.code c) (of_codes cs p) (is_kept x p.file) (is_problem d p))
      (reports_then d (in_file c x) (in_file_of cs x) old mid new first later)

-- ---- problems that stand at certain rows and at no column

-- a problem was reported where it holds
pub asked : (d : Dataset) (q r : Problem) (holds : Bool) (old new : List Problem) → q ≡ r → holds ≡ is_problem d r → Adds (λ p. is_same q p && holds) old new → Reports d (is_same r) old new
asked d q r holds old new site same adds = reports_one d r holds old new same (subst (λ s. Adds (λ p. is_same s p && holds) old new) site adds)

at_no_column : (c : Code) (x : File) (r : ℕ) (p : Problem) → in_file c x p ≡ true → is_at r p.row p.column ≡ true → is_same (problem_at c x [] r) p ≡ true
at_no_column c x r p picked at =
    let site = and_parts (is_code p.code c) (is_kept x p.file) picked in
    let stands = and_parts (p.row == r) (is_empty p.column) at in
    let same : p ≡ problem_at c x [] r = λ i. record {
      file = file_is x p.file site.1 i;
      row = eqb-true p.row r stands.0 i;
      code = code_is p.code c site.0 i;
      column = no_text p.column stands.1 i;
    } in
    ap (is_same (problem_at c x [] r)) same ∙ same_itself (problem_at c x [] r)

pub held : (d : Dataset) (c : Code) (x : File) (p : Problem) → in_file c x p ≡ true → is_problem d p ≡ true → holds_in c d x p.row p.column ≡ true
held d c x p picked holds =
    let site = and_parts (is_code p.code c) (is_kept x p.file) picked in
    let same : record { file = kept x; row = p.row; code = c; column = p.column } ≡ p = λ i. record {
      file = sym (file_is x p.file site.1) i;
      row = p.row;
      code = sym (code_is p.code c site.0) i;
      column = p.column;
    } in
    ap (is_problem d) same ∙ holds

module _ (d : Dataset) (c : Code) (x : File) (rows : List ℕ)
    (only : (n : ℕ) (name : List ℕ) → holds_in c d x n name ≡ true → list_any (λ r. is_at r n name) rows ≡ true) where
  there : (r : ℕ) (p : Problem) → is_same (problem_at c x [] r) p ≡ true → in_file c x p ≡ true
  there r p e = ap (in_file c x) (is_same_is (problem_at c x [] r) p e) ∙ and_from (is_code c c) (is_file x x) (code_itself c) (file_itself x)

  rows_hold : (p : Problem) → (of_any (λ r. is_same (problem_at c x [] r)) rows p && is_problem d p) ≡ (in_file c x p && is_problem d p)
  rows_hold p = same_test (of_any (λ r. is_same (problem_at c x [] r)) rows p && is_problem d p) (in_file c x p && is_problem d p)
      (λ e. let parts = and_parts (of_any (λ r. is_same (problem_at c x [] r)) rows p) (is_problem d p) e in
      and_from (in_file c x p) (is_problem d p) (any_gives (λ r. is_same (problem_at c x [] r) p) (in_file c x p) rows (λ r. there r p) parts.0) parts.1)
      (λ e. let parts = and_parts (in_file c x p) (is_problem d p) e in
      and_from (of_any (λ r. is_same (problem_at c x [] r)) rows p) (is_problem d p)
      (any_follows (λ r. is_at r p.row p.column) (λ r. is_same (problem_at c x [] r) p) rows (λ r at. at_no_column c x r p parts.0 at)
      (only p.row p.column (held d c x p parts.0 parts.1))) parts.1)

  pub at_rows_reported : (old new : List Problem) → Reports d (of_any (λ r. is_same (problem_at c x [] r)) rows) old new → Reports d (in_file c x) old new
  at_rows_reported old new reported = reports_alike d (of_any (λ r. is_same (problem_at c x [] r)) rows) (in_file c x) old new rows_hold reported

module _ (d : Dataset) (c : Code) (x : File) where
  pub at_first_reported : ((n : ℕ) (name : List ℕ) → holds_in c d x n name ≡ true → is_at 0 n name ≡ true)
      → (old new : List Problem) → Reports d (is_same (problem_at c x [] 0)) old new → Reports d (in_file c x) old new
  at_first_reported only old new reported = at_rows_reported d c x (0 ∷ []) (λ n name e. or_left (is_at 0 n name) false (only n name e)) old new
      (reports_then d (is_same (problem_at c x [] 0)) (λ p. false) old new new reported (reports_none d new))

pub missing_reported : (d : Dataset) (x : File) (old new : List Problem) → Reports d (is_same (problem_at code.E01 x [] 0)) old new → Reports d (in_file code.E01 x) old new
missing_reported d x old new reported = at_first_reported d code.E01 x (λ n name e. (and_parts (is_at 0 n name) _ e).0) old new reported

pub not_utf8_reported : (d : Dataset) (x : File) (old new : List Problem) → Reports d (is_same (problem_at code.E02 x [] 0)) old new → Reports d (in_file code.E02 x) old new
not_utf8_reported d x old new reported = at_first_reported d code.E02 x (λ n name e. (and_parts (is_at 0 n name) _ e).0) old new reported

first_or_header : (a b c e f g : Bool) → ((a && b) || (c && e && f && g)) ≡ true → (a || (c || false)) ≡ true
first_or_header true b c e f g h = refl
first_or_header false b true e f g h = refl
first_or_header false b false e f g h = h

pub empty_reported : (d : Dataset) (x : File) (old mid new : List Problem)
    → Reports d (is_same (problem_at code.E05 x [] 0)) old mid → Reports d (is_same (problem_at code.E05 x [] 1)) mid new → Reports d (in_file code.E05 x) old new
empty_reported d x old mid new first header = at_rows_reported d code.E05 x (0 ∷ 1 ∷ [])
    (λ n name e. first_or_header (is_at 0 n name) _ (is_at 1 n name) _ _ _ ((and_parts (is_needed x && is_read d x) _ e).1)) old new
    (reports_then d (is_same (problem_at code.E05 x [] 0)) (λ p. is_same (problem_at code.E05 x [] 1) p || false) old mid new first
    (reports_then d (is_same (problem_at code.E05 x [] 1)) (λ p. false) mid new new header (reports_none d new)))

-- ---- the other names of the folder

abbrev pub other_problem : List ℕ → Problem
other_problem name = record { file = other name; row = 0; code = code.W03; column = [] }

module _ (d : Dataset) where
  another : (name : List ℕ) (n : ℕ) (column : List ℕ) (t : List ℕ) → is_at 0 n column ≡ true → bytes_eq name t ≡ true
      → is_same (other_problem t) (record { file = other name; row = n; code = code.W03; column = column }) ≡ true
  another name n column t at e =
      let stands = and_parts (n == 0) (is_empty column) at in
      let same : record { file = other name; row = n; code = code.W03; column = column } ≡ other_problem t = λ i. record {
        file = other (text_is name t e i);
        row = eqb-true n 0 stands.0 i;
        code = code.W03;
        column = no_text column stands.1 i;
      } in
      ap (is_same (other_problem t)) same ∙ same_itself (other_problem t)

  other_held : (f : FileName) (n : ℕ) (column : List ℕ) → holds code.W03 d f n column ≡ true
      → list_any (λ t. is_same (other_problem t) (record { file = f; row = n; code = code.W03; column = column })) d.others ≡ true
  other_held (kept x) n column e = cc e
  other_held (other name) n column e =
      let parts = and_parts (is_at 0 n column) (list_any (bytes_eq name) d.others) e in
      any_follows (bytes_eq name) (λ t. is_same (other_problem t) (record { file = other name; row = n; code = code.W03; column = column })) d.others
      (λ t. another name n column t parts.0) parts.1

  others_hold : (p : Problem) → (of_any (λ t. is_same (other_problem t)) d.others p && is_problem d p) ≡ (of_codes (code.W03 ∷ []) p && is_problem d p)
  others_hold p = same_test (of_any (λ t. is_same (other_problem t)) d.others p && is_problem d p) (of_codes (code.W03 ∷ []) p && is_problem d p)
      (λ e. let parts = and_parts (of_any (λ t. is_same (other_problem t)) d.others p) (is_problem d p) e in
      and_from (of_codes (code.W03 ∷ []) p) (is_problem d p)
      (any_gives (λ t. is_same (other_problem t) p) (of_codes (code.W03 ∷ []) p) d.others (λ t same. ap (of_codes (code.W03 ∷ [])) (is_same_is (other_problem t) p same)) parts.0) parts.1)
      (λ e. let parts = and_parts (of_codes (code.W03 ∷ []) p) (is_problem d p) e in
      let w03 : p.code ≡ code.W03 = code_is p.code code.W03 (or_none (is_code p.code code.W03) parts.0) in
      and_from (of_any (λ t. is_same (other_problem t)) d.others p) (is_problem d p)
      (ap (λ c. list_any (λ t. is_same (other_problem t) (record { file = p.file; row = p.row; code = c; column = p.column })) d.others) w03
      ∙ other_held p.file p.row p.column (ap (λ c. holds c d p.file p.row p.column) (sym w03) ∙ parts.1)) parts.1)
    where
      or_none : (a : Bool) → (a || false) ≡ true → a ≡ true
      or_none true e = refl
      or_none false e = e

  pub others_reported : (old new : List Problem) → Reports d (of_any (λ t. is_same (other_problem t)) d.others) old new → Reports d (of_codes (code.W03 ∷ [])) old new
  others_reported old new reported = reports_alike d (of_any (λ t. is_same (other_problem t)) d.others) (of_codes (code.W03 ∷ [])) old new others_hold reported

-- ---- both

four_codes : (a b c e h : Bool) → (((a || (b || (c || false))) || (e || false)) && h) ≡ ((a || (b || (c || (e || false)))) && h)
four_codes true b c e h = refl
four_codes false true c e h = refl
four_codes false false true e h = refl
four_codes false false false e h = refl

pub all_files_reported : (d : Dataset) (old mid new : List Problem) → Reports d (of_codes (code.E01 ∷ code.E02 ∷ code.E05 ∷ [])) old mid → Reports d (of_codes (code.W03 ∷ [])) mid new
    → Reports d (of_codes (code.E01 ∷ code.E02 ∷ code.E05 ∷ code.W03 ∷ [])) old new
all_files_reported d old mid new nine others = reports_alike d (λ p. of_codes (code.E01 ∷ code.E02 ∷ code.E05 ∷ []) p || of_codes (code.W03 ∷ []) p)
    (of_codes (code.E01 ∷ code.E02 ∷ code.E05 ∷ code.W03 ∷ [])) old new
    (λ p. four_codes (is_code p.code code.E01) (is_code p.code code.E02) (is_code p.code code.E05) (is_code p.code code.W03) (is_problem d p))
    (reports_then d (of_codes (code.E01 ∷ code.E02 ∷ code.E05 ∷ [])) (of_codes (code.W03 ∷ [])) old mid new nine others)
