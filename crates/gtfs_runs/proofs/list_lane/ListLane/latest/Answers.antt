use Rattle.std.proofs.Common.{◌∙◌, ap, length, ◌-◌}
use Rattle.std.specs.List.{slice_get}
use Rattle.std.specs.Option.{option_copied}
use Rattle.gtfs_runs.proofs.Latest.{latest-listed, latest-unlisted}
use Rattle.gtfs_runs.proofs.list_lane.ListLane.latest.Goals as goal

pub returns-in-Some : goal.returns-in-Some
returns-in-Some c =
    let lane = c.args.self.now in
    latest-listed lane.events (option_copied c.last.result) c.in-Some.event.now lane.ascending
    (c.last.ensures.value ∙ ap (λ es. slice_get es (length es - 1)) c.as_slice.ensures) (ap option_copied c.in-Some.is)

pub returns-in-None : goal.returns-in-None
returns-in-None c =
    let lane = c.args.self.now in
    latest-unlisted lane.events (option_copied c.last.result)
    (c.last.ensures.value ∙ ap (λ es. slice_get es (length es - 1)) c.as_slice.ensures) (ap option_copied c.in-None.is)
