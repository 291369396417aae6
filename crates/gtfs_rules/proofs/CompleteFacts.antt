-- The steps look at every problem that a dataset can have.
use Rattle.std.proofs.Common.{◌≡◌, ℕ, List, true, refl}
use Rattle.gtfs_table.specs.Tables.{Dataset}
use Rattle.gtfs_table.specs.declared.file.File.TheVariants as file
use Rattle.gtfs_schema.specs.declared.code.Code.{Code}
use Rattle.gtfs_schema.specs.declared.code.Code.TheVariants as code
use Rattle.gtfs_rules.specs.steps.PartsOfCheck.{every}
use Rattle.gtfs_schema.specs.Problems.{FileName, kept, other, Problem, holds, is_problem}

picked : (d : Dataset) (c : Code) (f : FileName) (n : ℕ) (name : List ℕ) → holds c d f n name ≡ true → every (record { file = f; row = n; code = c; column = name }) ≡ true
picked d code.E01 f n name h = refl
picked d code.E02 f n name h = refl
picked d code.E03 f n name h = refl
picked d code.E04 f n name h = refl
picked d code.E05 f n name h = refl
picked d code.E06 (kept file.StopTimes) n name h = refl
picked d code.E06 (kept x) n name h = refl
picked d code.E06 (other x) n name h = cc h
picked d code.E07 (kept file.StopTimes) n name h = refl
picked d code.E07 (kept x) n name h = refl
picked d code.E07 (other x) n name h = cc h
picked d code.E08 (kept file.StopTimes) n name h = refl
picked d code.E08 (kept x) n name h = refl
picked d code.E08 (other x) n name h = cc h
picked d code.E09 (kept file.StopTimes) n name h = refl
picked d code.E09 (kept x) n name h = refl
picked d code.E09 (other x) n name h = cc h
picked d code.E10 (kept file.StopTimes) n name h = refl
picked d code.E10 (kept x) n name h = refl
picked d code.E10 (other x) n name h = cc h
picked d code.E11 (kept file.StopTimes) n name h = refl
picked d code.E11 (kept x) n name h = refl
picked d code.E11 (other x) n name h = cc h
picked d code.E12 (kept file.StopTimes) n name h = cc h
picked d code.E12 (kept x) n name h = refl
picked d code.E12 (other x) n name h = cc h
picked d code.E13 (kept file.StopTimes) n name h = cc h
picked d code.E13 (kept x) n name h = refl
picked d code.E13 (other x) n name h = cc h
picked d code.E14 (kept file.StopTimes) n name h = cc h
picked d code.E14 (kept x) n name h = refl
picked d code.E14 (other x) n name h = cc h
picked d code.E15 f n name h = refl
picked d code.E16 (kept file.StopTimes) n name h = refl
picked d code.E16 (kept x) n name h = cc h
picked d code.E16 (other x) n name h = cc h
picked d code.E17 f n name h = refl
picked d code.E18 (kept file.StopTimes) n name h = cc h
picked d code.E18 (kept x) n name h = refl
picked d code.E18 (other x) n name h = cc h
picked d code.E19 f n name h = refl
picked d code.E20 (kept file.StopTimes) n name h = refl
picked d code.E20 (kept x) n name h = refl
picked d code.E20 (other x) n name h = cc h
picked d code.W01 (kept file.StopTimes) n name h = refl
picked d code.W01 (kept x) n name h = refl
picked d code.W01 (other x) n name h = cc h
picked d code.W02 (kept file.StopTimes) n name h = refl
picked d code.W02 (kept x) n name h = refl
picked d code.W02 (other x) n name h = cc h
picked d code.W03 f n name h = refl
picked d code.W04 f n name h = refl
picked d code.W05 (kept file.StopTimes) n name h = refl
picked d code.W05 (kept x) n name h = refl
picked d code.W05 (other x) n name h = cc h
picked d code.W06 f n name h = refl
picked d code.W07 f n name h = refl
picked d code.W08 (kept file.StopTimes) n name h = refl
picked d code.W08 (kept x) n name h = cc h
picked d code.W08 (other x) n name h = cc h

pub all_picked : (d : Dataset) (p : Problem) → is_problem d p ≡ true → every p ≡ true
all_picked d p h = picked d p.code p.file p.row p.column h
