use Rattle.std.proofs.Common.{[], length}
use Rattle.gtfs_row_rules.specs.HeaderColumns.{is_found_in}
use Rattle.gtfs_schema.specs.steps.FieldCodes.{is_found_at, is_in_row, length_code}
use Rattle.gtfs_schema.specs.steps.FoundProblems.{Adds}
use Rattle.gtfs_row_rules.proofs.LocatedFacts.{reported_so_far}
use Rattle.gtfs_row_rules.proofs.fields.Header.report_row.Given as goal

-- the length, and the columns so far
abbrev pub invariant-loop-located : goal.invariant-loop-located
invariant-loop-located l =
    let fields = l.«record» in
    let of_length = is_found_at (length_code l.self.width (length fields)) [] in
    Adds (reported_so_far (is_in_row l.self.file l.row) of_length (is_found_in fields) l.located-items l.located-index) l.fn.found l.found
