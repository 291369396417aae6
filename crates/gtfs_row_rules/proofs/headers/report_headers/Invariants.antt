use Rattle.std.proofs.Common.{[], ◌∷◌, take}
use Rattle.gtfs_table.specs.TablesRead.{kept_files}
use Rattle.gtfs_schema.specs.declared.code.Code.TheVariants as code
use Rattle.gtfs_schema.specs.steps.FieldCodes.{in_file_of}
use Rattle.gtfs_schema.specs.steps.FoundProblems.{Reports}
use Rattle.gtfs_schema.proofs.EachFacts.{of_any}
use Rattle.gtfs_row_rules.proofs.headers.report_headers.Given as goal

-- the files so far
abbrev pub invariant-loop-file : goal.invariant-loop-file
invariant-loop-file l = Reports l.tables (of_any (in_file_of (code.E03 ∷ code.E04 ∷ code.W04 ∷ [])) (take l.file-index kept_files)) l.fn.found l.found
