use Rattle.std.proofs.Common.{◌∙◌, sym}
use Rattle.gtfs_table.proofs.MarkFacts.{past-mark, no-mark}
use Rattle.gtfs_table.proofs.csv_reading.cut_marks.Goals as goal

pub loop-rest-preserved : goal.loop-rest-preserved
loop-rest-preserved c =
    let found = c.in-Some.ensures.cases in
    rw (found.1) (past-mark c.loop-rest.left.now found.0 ∙ c.loop-rest.invariant)

pub returns : goal.returns
returns c = sym (no-mark c.loop-rest.left.now c.in_default.ensures.cases) ∙ c.loop-rest.invariant
