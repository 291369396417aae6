use Rattle.std.proofs.lemmas.Result.{on_ok_weaker}
use Rattle.gtfs_row_rules.proofs.RowSteps.{reports_both}
use Rattle.gtfs_row_rules.proofs.rule.Tuple2RowRules.report.Goals as goal

pub returns-clause-reported : goal.returns-clause-reported
returns-clause-reported g c =
    let x = c.args.file in
    on_ok_weaker c.report-2.result (λ second d before held next. reports_both d (g.A.RowRules.picks c.args.self.now.0 x) (g.B.RowRules.picks c.args.self.now.1 x) c.args.row _ _ _
    (c.in_ok-report.ensures.reported d before held.0 next) (second d before held.1 next)) c.report-2.ensures.reported
