use Rattle.gtfs_trip_rules.proofs.services.report_services.Goals as goal

pub report_both-requires : goal.report_both-requires
report_both-requires c = c.in_ok-services.ensures
