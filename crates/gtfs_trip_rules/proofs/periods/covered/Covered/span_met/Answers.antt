use Rattle.gtfs_trip_rules.proofs.SpanFacts.{none_shared}
use Rattle.gtfs_trip_rules.proofs.SpanSteps.{last_met, last_missed, none_met, starts_before}
use Rattle.gtfs_trip_rules.proofs.periods.covered.Covered.span_met.Goals as goal

pub range-requires : goal.range-requires
range-requires c = starts_before c.args.trip c.args.end

pub returns-then-start-end : goal.returns-then-start-end
returns-then-start-end c = none_shared c.args.self.now.spans c.args.trip c.args.start c.args.end c.if-start-end.true

pub returns-in-Some : goal.returns-in-Some
returns-in-Some c = let spans = c.args.self.now in
    last_met spans.spans c.range.ensures.ordered spans.filled spans.apart c.args.trip c.args.start c.args.end c.if-start-end.false c.range.result (c.range.ensures.in_range tt)
    (c.in-Some.key.now, c.in-Some.last_end.now) c.next_back.new.self c.in-Some.ensures.steps c.if-last_end-start.true

pub returns-in_default : goal.returns-in_default
returns-in_default c = let spans = c.args.self.now in
    last_missed spans.spans c.range.ensures.ordered spans.filled spans.apart c.args.trip c.args.start c.args.end c.if-start-end.false c.range.result (c.range.ensures.in_range tt)
    (c.in-Some.key.now, c.in-Some.last_end.now) c.next_back.new.self c.in-Some.ensures.steps c.if-last_end-start.false

pub returns-in_default-2 : goal.returns-in_default-2
returns-in_default-2 c = let spans = c.args.self.now in
    none_met spans.spans c.range.ensures.ordered spans.filled spans.apart c.args.trip c.args.start c.args.end c.if-start-end.false c.range.result (c.range.ensures.in_range tt)
    ((rw c.in_default.is at c.next_back.ensures.steps).0)
