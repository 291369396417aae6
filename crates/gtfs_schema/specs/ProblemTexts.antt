-- What the problems that the code lends say.
use Rattle.gtfs_schema.specs.declared.file_name.FileName.{FileName as LentName}
use Rattle.gtfs_schema.specs.declared.file_name.FileName.TheVariants as lent
use Rattle.gtfs_schema.specs.declared.problem.Problem.{Problem as LentProblem}
use Rattle.gtfs_schema.specs.Problems.{FileName, kept, other, Problem}

abbrev pub name_of : LentName → FileName
name_of (lent.Kept file) = kept file
name_of (lent.Other name) = other name.now

abbrev pub problem_of : LentProblem → Problem
problem_of p = record { file = name_of p.file; row = p.row; code = p.code; column = p.column.now }
