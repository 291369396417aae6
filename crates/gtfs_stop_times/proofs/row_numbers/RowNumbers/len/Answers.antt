use Rattle.std.proofs.Common.{ap, arith, length}
use Rattle.gtfs_stop_times.proofs.RowNumberFacts.{size-numbers}
use Rattle.gtfs_stop_times.proofs.row_numbers.RowNumbers.len.Goals as goal

pub returns : goal.returns
returns c =
    let n = c.self.inside in
    let size = ap length c.self.view_is in
    omega (arith, size, size-numbers n.first n.count n.others.items, c.len.ensures, n.others.ok.0)
