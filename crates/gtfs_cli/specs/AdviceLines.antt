-- The lines of advice that `gtfs check --advise` prints of a feed without errors, and its last line.
use Rattle.std.specs.Prelude.{ℕ, ◌==◌, Bool, not, if◌then◌else◌, List, ◌++◌, map, count_by, codes, decimal, Option, None}
use Rattle.gtfs_field.specs.Canonical.{date_text}
use Rattle.gtfs_table.specs.FileNames.{file_name}
use Rattle.gtfs_schema.specs.Codes.{is_error}
use Rattle.gtfs_schema.specs.Problems.{Problem}
use Rattle.gtfs_advice.specs.Advice.{day, nothing, row, About}
use Rattle.gtfs_advice.specs.Codes.{advice_name, advice_rank, advice_text, file_of}
use Rattle.gtfs_advice.specs.declared.code.Code.{Code}
use Rattle.gtfs_cli.specs.CheckLines.{count_shown}
use Rattle.gtfs_cli.specs.FirstOfEachKind.{firsts}

-- a row's id, a date, or a dash
abbrev pub about_text : About → List ℕ
about_text (row id) = id
about_text (day d) = date_text d
about_text nothing = codes "-"

-- CODE FILE, what the advice is about, and its text, with tabs between them; and how many have its code where that is wanted
abbrev pub advice_line : Code × About → Option ℕ → List ℕ
advice_line a count = advice_name a.0 ++ codes " " ++ file_name (file_of a.0) ++ codes "\t" ++ about_text a.1 ++ codes "\t" ++ advice_text a.0
    ++ count_shown count ++ codes "\n"

abbrev pub has_one_code : Code × About → Code × About → Bool
has_one_code a b = advice_rank a.0 == advice_rank b.0

-- a line for each advice, or for the first of each code
abbrev pub advice_lines : Bool → List (Code × About) → List (List ℕ)
advice_lines summary all = if summary then firsts has_one_code advice_line all else map (λ a. advice_line a None) all

-- the last line of a report with so many errors, warnings and pieces of advice
abbrev pub advised_text : ℕ → ℕ → ℕ → List ℕ
advised_text errors warnings count = codes "errors " ++ decimal errors ++ codes " warnings " ++ decimal warnings ++ codes " advice " ++ decimal count ++ codes "\n"

-- that of these problems and so much advice
abbrev pub advised_line : List Problem → ℕ → List ℕ
advised_line ps count = advised_text (count_by (λ p. is_error p.code) ps) (count_by (λ p. not (is_error p.code)) ps) count
