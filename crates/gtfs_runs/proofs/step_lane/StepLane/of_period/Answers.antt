use Rattle.std.proofs.Common.{◌≤◌, ◌<◌, ◌+◌, ◌*◌, ◌-◌, arith}
use Rattle.std.proofs.lemmas.Grind.{div_ceil_times}
use Rattle.gtfs_rows.specs.RowsInMemory.{frequency_of}
use Rattle.gtfs_runs.proofs.Counting.{period-tally}
use Rattle.gtfs_runs.proofs.Runs.{runs-ascend}
use Rattle.gtfs_runs.proofs.step_lane.StepLane.of_period.Goals as goal

pub invariant_of-result : goal.invariant_of-result
invariant_of-result c =
    let h = c.args.period.now.headway_secs in
    let d = c.seconds.result - c.seconds-2.result in
    let near = div_ceil_times d h c.requires.moves in
    let n = c.div_ceil.result in
    let short : n * h < d + h = rw (← c.div_ceil.ensures) at near.1 in
    record {
      moves = c.requires.moves;
      within = omega arith;
      starts = c.requires.passes;
      ascending = runs-ascend c.args.first h n c.requires.moves;
    }

pub returns-clause-events : goal.returns-clause-events
returns-clause-events c = λ e.
    let f = frequency_of c.args.period.now in
    let h = c.args.period.now.headway_secs in
    let d = c.seconds.result - c.seconds-2.result in
    let near = div_ceil_times d h c.requires.moves in
    let n = c.div_ceil.result in
    let upto : d ≤ n * h = rw (← c.div_ceil.ensures) at near.0 in
    let short : n * h < d + h = rw (← c.div_ceil.ensures) at near.1 in
    period-tally c.args.first e f n (record {
      begins = c.requires.begins;
      moves = c.requires.moves;
      upto = omega arith;
      short = omega arith;
    })
