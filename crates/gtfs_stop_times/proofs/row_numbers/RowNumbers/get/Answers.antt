use Rattle.std.proofs.Common.{◌∙◌, ap, arith, length, sym}
use Rattle.std.specs.Prelude.{slice_get}
use Rattle.gtfs_stop_times.proofs.RowNumberFacts.{number-after, number-that-follows, size-numbers}
use Rattle.gtfs_stop_times.proofs.row_numbers.RowNumbers.get.Goals as goal

pub returns-then-at-count : goal.returns-then-at-count
returns-then-at-count c =
    let n = c.self.inside in
    ap (λ l. slice_get l c.args.at) (sym c.self.view_is) ∙ number-that-follows n.first n.count n.others.items c.args.at c.if-at-count.true

pub index-requires : goal.index-requires
index-requires c =
    let n = c.self.inside in
    let size = ap length c.self.view_is in
    omega (arith, size, size-numbers n.first n.count n.others.items, c.requires, c.if-at-count.false, n.others.ok.0)

pub returns : goal.returns
returns c =
    let n = c.self.inside in
    let size = ap length c.self.view_is in
    ap (λ l. slice_get l c.args.at) (sym c.self.view_is)
    ∙ number-after n.first n.count n.others.items c.args.at c.index.result.now c.if-at-count.false (omega (arith, size, c.requires)) c.index.ensures
