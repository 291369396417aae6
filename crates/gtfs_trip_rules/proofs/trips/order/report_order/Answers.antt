use Rattle.gtfs_trip_rules.proofs.trips.order.report_order.Goals as goal

pub returns-clause-reported : goal.returns-clause-reported
returns-clause-reported c = c.in_ok-report_rows.ensures c.args.tables.now (c.in_ok-rows.ensures c.args.tables.now c.requires.notes c.requires.kept).order
