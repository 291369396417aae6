use Rattle.std.proofs.Common.{take}
use Rattle.gtfs_schema.specs.steps.FoundProblems.{is_same, Reports}
use Rattle.gtfs_schema.proofs.EachFacts.{of_any}
use Rattle.gtfs_row_rules.proofs.FileFacts.{other_problem}
use Rattle.gtfs_row_rules.proofs.files.report_other_files.Given as goal

-- the names so far
abbrev pub invariant-loop-name : goal.invariant-loop-name
invariant-loop-name l = Reports l.tables (of_any (λ name. is_same (other_problem name)) (take l.name-index l.tables.others)) l.fn.found l.found
