use Rattle.std.proofs.Common.{arith, ◌<◌, ◌∙◌}
use Rattle.std.specs.Prelude.{◌&&◌, nat_eq}
use Rattle.gtfs_trip_rules.proofs.SpanFacts.{put_in}
use Rattle.gtfs_trip_rules.proofs.SpanChanges.{absent, or_turned, settled}
use Rattle.gtfs_trip_rules.specs.PeriodSpans.{covers, shares}
use Rattle.gtfs_trip_rules.proofs.periods.covered.Covered.put.Goals as goal

pub invariant_of-self : goal.invariant_of-self
invariant_of-self c =
    let old = c.args.self.now in
    let own : c.args.start < c.args.end = omega arith in
    let both = settled old.spans c.args.trip c.args.start c.args.end old.filled own c.requires
    c.insert.new.self c.insert.result old.apart c.insert.ensures.updates c.insert.ensures.err in
    record { filled = both.0; apart = both.1 }

pub returns : goal.returns
returns c =
    let old = c.args.self.now in
    let own : c.args.start < c.args.end = omega arith in
    let none = absent old.spans c.args.trip c.args.start c.args.end old.filled own c.requires in
    λ t s e. put_in old.spans c.insert.new.self (c.args.trip, c.args.start) c.args.end none c.in_ok-insert.ensures.entries t s e
    ∙ or_turned (nat_eq t c.args.trip && shares c.args.start c.args.end s e) (covers old.spans t s e)
