-- Rules about the rows of one file, as a step judges them one after the other.
use Rattle.std.specs.Prelude.{◌≡◌, ◌&&◌, ◌||◌, ◌==◌, ◌++◌, ℕ, Bool, true, false, List, ◌∷◌, refl}
use Rattle.gtfs_table.specs.Tables.{Dataset, record_at}
use Rattle.gtfs_table.specs.declared.file.File.{File}
use Rattle.gtfs_table.specs.Rows.{is_row, records_in, rows}
use Rattle.gtfs_schema.specs.declared.code.Code.{Code}
use Rattle.gtfs_schema.specs.steps.FoundProblems.{Reports}
use Rattle.gtfs_schema.specs.Problems.{Problem, holds_in, is_problem}

-- at this column of a file a code holds of just the rows that pass a test
abbrev pub HoldsWhere : Code → Dataset → File → List ℕ → (ℕ → Bool) → Type 0
HoldsWhere c d x name test = (n : ℕ) → holds_in c d x n name ≡ (is_row (records_in d x) n && test n)

-- which problems a pass looks at
abbrev pub Picks : Type 0
Picks = Problem → Bool

-- the row n, whose record is r, is the next of its file after those before it
pub record IsNext (d : Dataset) (x : File) (before : List ℕ) (n : ℕ) (r : List (List ℕ)) : Type 0 where
  pub after : List ℕ
  pub is_row : is_row (records_in d x) n ≡ true
  pub record_is : r ≡ record_at (records_in d x) n
  pub split : rows d x ≡ before ++ n ∷ after

-- of the picked problems of a row just those that the dataset has were added
abbrev pub ReportsOfRow : Dataset → Picks → ℕ → List Problem → List Problem → Type 0
ReportsOfRow d picks n old new = Reports d (λ p. picks p && (p.row == n)) old new

-- a record that is no row has no picked problem
abbrev pub IsSilent : Dataset → File → Picks → Type 0
IsSilent d x picks = (p : Problem) → picks p ≡ true → is_row (records_in d x) p.row ≡ false → is_problem d p ≡ false

one_of_both : (a b h : Bool) → (a ≡ true → h ≡ false) → (b ≡ true → h ≡ false) → (a || b) ≡ true → h ≡ false
one_of_both true b h first second e = first refl
one_of_both false b h first second e = second e

pub both_silent : (d : Dataset) (x : File) (a b : Picks) → IsSilent d x a → IsSilent d x b → IsSilent d x (λ p. a p || b p)
both_silent d x a b first second p picked none = one_of_both (a p) (b p) (is_problem d p) (λ e. first p e none) (λ e. second p e none) picked
