-- How a check goes on once the lines of its problems went out.
use Rattle.std.specs.Prelude.{◌≡◌, ◌&&◌, ℕ, Bool, if◌then◌else◌, List, [], ◌∷◌, ◌++◌, count_by, length, not, option_map, ℤ, Option, None, Some}
use Rattle.gtfs_schema.specs.Codes.{is_error}
use Rattle.gtfs_schema.specs.Problems.{passes, Problem}
use Rattle.gtfs_table.specs.Tables.{Dataset}
use Rattle.gtfs_rows.specs.Content.{Content}
use Rattle.gtfs_rows.specs.ContentRead.{content_of}
use Rattle.gtfs_rows.specs.RowsInMemory.{content_of_parts}
use Rattle.gtfs_advice.specs.Advice.{advice}
use Rattle.gtfs_commands.specs.Words.{CheckTexts}
use Rattle.gtfs_cli.specs.AdviceLines.{advice_lines, advised_text}
use Rattle.gtfs_cli.specs.CheckLines.{counts_text}
use Rattle.gtfs_cli.specs.declared.commands.check.Begun.{Begun}

-- the problems are counted, and the feed is there where it gets advice
pub record IsBegun (asked : CheckTexts) (d : Dataset) (ps : List Problem) (begun : Begun) : Type 0 where
  pub errors : begun.errors ≡ count_by (λ p. is_error p.code) ps
  pub warnings : begun.warnings ≡ count_by (λ p. not (is_error p.code)) ps
  pub feed : option_map content_of_parts begun.draft ≡ (if asked.advise && passes ps then Some (content_of d) else None)

-- the lines of the advice on a feed, and the last line
abbrev pub advised_lines : Bool → Option ℤ → Content → ℕ → ℕ → List (List ℕ)
advised_lines summary day c errors warnings =
    let told = advice c day in advice_lines summary told ++ advised_text errors warnings (length told) ∷ []

-- those that are left
abbrev pub lines_left : Bool → Option ℤ → ℕ → ℕ → Option Content → List (List ℕ)
lines_left summary day errors warnings None = counts_text errors warnings ∷ []
lines_left summary day errors warnings (Some c) = advised_lines summary day c errors warnings

abbrev pub lines_after : Bool → Option ℤ → Begun → List (List ℕ)
lines_after summary day begun = lines_left summary day begun.errors begun.warnings (option_map content_of_parts begun.draft)
