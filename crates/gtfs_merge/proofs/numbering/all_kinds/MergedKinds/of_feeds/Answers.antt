use Rattle.gtfs_merge.specs.declared.kind.Kind.TheVariants as kind
use Rattle.gtfs_merge.proofs.numbering.all_kinds.MergedKinds.of_feeds.Goals as goal

pub returns : goal.returns
returns c kind.Agency = c.in_ok-agencies.ensures
returns c kind.Stop = c.in_ok-stops.ensures
returns c kind.Route = c.in_ok-routes.ensures
returns c kind.Service = c.in_ok-services.ensures
returns c kind.Trip = c.in_ok-trips.ensures
