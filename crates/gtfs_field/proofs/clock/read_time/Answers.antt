use Rattle.std.proofs.Common.{◌∙◌, ap, Ok}
use Rattle.gtfs_field.specs.Kinds.{time_of}
use Rattle.gtfs_field.proofs.Choices.{ok-from}
use Rattle.gtfs_field.proofs.clock.read_time.Goals as goal

pub returns-in-Some : goal.returns-in-Some
returns-in-Some c = ap Ok c.from_seconds.ensures ∙ ok-from (time_of c.args.text.now) c.in-Some.seconds c.in-Some.ensures.value
