use Rattle.std.proofs.Common.{sym}
use Rattle.std.proofs.lemmas.Map.Text.{btree_map_updates_str}
use Rattle.gtfs_trip_rules.proofs.CoveredTripFacts.{next_numbered, next_settled, one_longer}
use Rattle.gtfs_trip_rules.proofs.periods.trip_numbers.TripNumbers.number.Goals as goal

pub invariant_of-self : goal.invariant_of-self
invariant_of-self c = let old = c.args.self.now in
    record {
      distinct = next_settled old.numbers c.insert.new.self c.args.trip c.len-number.result c.len-number.ensures.len (sym c.in_default.ensures.value)
          c.insert.result old.distinct c.insert.ensures.old c.insert.ensures.len c.insert.ensures.updates c.insert.ensures.err;
    }

pub returns : goal.returns
returns c =
    let old = c.args.self.now in
    let none = sym c.in_default.ensures.value in
    let put = c.in_ok-insert.ensures in
    next_numbered old.numbers c.insert.new.self c.args.trip.now c.len-number.result c.len-number.ensures.len none
    (btree_map_updates_str c.args.trip.now old.numbers c.insert.new.self _ put.updates)
    (one_longer old.numbers c.insert.new.self c.args.trip c.len-number.result c.len-number.ensures.len none c.in_ok-insert.field-0 put.old put.len)
