-- Texts of reports, and lines on the error output.
use Rattle.std.proofs.Common.{◌≡◌, [], ◌∷◌, codes, refl}
use Rattle.std.specs.Fmt.{digits}
use Rattle.gtfs_table.specs.declared.file.File.TheVariants as file
use Rattle.gtfs_schema.specs.declared.code.Code.TheVariants as code
use Rattle.gtfs_schema.specs.Problems.{Problem, kept, other}
use Rattle.gtfs_rules.specs.Report.{counts_line, problem_line, report_text}
use Rattle.gtfs_cli.specs.RefusalMessages.{line_of}

abbrev of_a_field : Problem
of_a_field = record { file = kept file.StopTimes; row = 3; code = code.E07; column = codes "arrival_time" }

abbrev of_a_file : Problem
of_a_file = record { file = other (codes "fare\trules.txt"); row = 0; code = code.W03; column = [] }

field-line : problem_line of_a_field ≡ codes "E07 stop_times.txt:3 arrival_time value unreadable\n"
unfolding digits
field-line = refl

file-line : problem_line of_a_file ≡ codes "W03 fare rules.txt:0 - file not kept\n"
unfolding digits
file-line = refl

no-problems : report_text [] ≡ codes "errors 0 warnings 0\n"
unfolding digits
no-problems = refl

both-counted : counts_line (of_a_field ∷ of_a_file ∷ []) ≡ codes "errors 1 warnings 1\n"
unfolding digits
both-counted = refl

-- what the error output is told
folder-missing : line_of (codes "f2") (codes " is not there") ≡ codes "gtfs: f2 is not there\n"
folder-missing = refl

control-shown : line_of (codes "f\t2") (codes " cannot be read") ≡ codes "gtfs: f 2 cannot be read\n"
control-shown = refl
