use Rattle.std.proofs.lemmas.Result.{on_ok_weaker}
use Rattle.std.proofs.Common.{arith, ◌<◌, ap, ◌∙◌, sym}
use Rattle.std.specs.Prelude.{◌&&◌, ◌||◌, min, nat_eq}
use Rattle.gtfs_trip_rules.proofs.SpanFacts.{taken_out}
use Rattle.gtfs_trip_rules.proofs.SpanChanges.{joined, merged, out_apart, out_filled}
use Rattle.gtfs_trip_rules.proofs.periods.covered.Covered.add.Goals as goal
use Rattle.gtfs_trip_rules.specs.PeriodSpans.{Key, covers, shares}

pub invariant_of-self : goal.invariant_of-self
invariant_of-self c = let old = c.loop-met_start.self in
    let k : Key = (c.args.trip, c.in-Some.met_start) in
    record {
      filled = out_filled old.spans c.remove.new.self k c.remove.ensures.updates.0 old.filled;
      apart = out_apart old.spans c.remove.new.self k c.remove.ensures.updates.0 old.apart;
    }

pub loop-met_start-preserved : goal.loop-met_start-preserved
loop-met_start-preserved c = let old = c.loop-met_start.self in
    let k : Key = (c.args.trip, c.in-Some.met_start) in
    let met = c.in-Some.ensures in
    let a = c.loop-met_start.first in
    let b = c.loop-met_start.past in
    let own : c.in-Some.met_start < c.in-Some.met_end = old.filled k c.in-Some.met_end met.there in
    record {
      filled = omega (arith, own, c.min-first.ensures, c.max-past.ensures, c.loop-met_start.invariant.filled);
      same = λ t s e.
          ap (λ h. covers c.remove.new.self t s e || (nat_eq t c.args.trip && h))
          (ap (λ m. shares m c.max-past.result s e) c.min-first.ensures ∙ ap (λ m. shares (min a c.in-Some.met_start) m s e) c.max-past.ensures
          ∙ merged a b c.in-Some.met_start c.in-Some.met_end s e c.loop-met_start.invariant.filled own met.before met.after)
          ∙ joined (covers c.remove.new.self t s e) (nat_eq t c.args.trip) (shares a b s e) (shares c.in-Some.met_start c.in-Some.met_end s e)
          ∙ ap (λ h. h || (nat_eq t c.args.trip && shares a b s e))
          (sym (taken_out old.spans c.remove.new.self k c.in-Some.met_end met.there c.remove.ensures.entries t s e))
          ∙ c.loop-met_start.invariant.same t s e;
    }

pub returns : goal.returns
returns c = on_ok_weaker c.put.result (λ put. λ t s e. put t s e ∙ c.loop-met_start.invariant.same t s e) c.put.ensures
