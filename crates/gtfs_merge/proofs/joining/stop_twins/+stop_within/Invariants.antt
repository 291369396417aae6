use Rattle.gtfs_merge.proofs.joining.stop_twins.+stop_within.Given as goal

abbrev pub decreases-stop_within : goal.decreases-stop_within
decreases-stop_within l = l.generations
