use Rattle.std.proofs.Common.{◌≡◌, ◌∙◌, ◌+◌, arith, ap, length, sym}
use Rattle.std.specs.Option.{option_or}
use Rattle.std.proofs.lemmas.Map.Text.{btree_map_updates_str}
use Rattle.gtfs_schema.specs.steps.Ids.{ids_of, number_with}
use Rattle.gtfs_trip_rules.proofs.TripNumberFacts.{now_named, number_stays, still_named, unchanged}
use Rattle.gtfs_trip_rules.proofs.trips.numbers.number_of_other.Goals as goal

pub returns-in_err-push-clause-named : goal.returns-in_err-push-clause-named
returns-in_err-push-clause-named c = rw c.in_err-push.ensures.items c.requires.named

pub returns-in_err-insert-clause-named : goal.returns-in_err-insert-clause-named
returns-in_err-insert-clause-named c = rw c.in_ok-push.ensures.items (λ id n has.
    still_named (ids_of c.args.trips.now) c.args.numbers.now c.args.names.now.items c.args.id c.requires.named id n
    (ap (option_or (number_with c.args.trips.now id)) (sym (unchanged c.args.numbers.now c.insert.new.self c.in_err-insert.ensures.err id)) ∙ has))

pub returns-clause-named : goal.returns-clause-named
returns-clause-named c =
    let trips = ids_of c.args.trips.now in
    let next : c.len.result + c.len-2.result ≡ length trips + length c.args.names.now.items = omega (arith, c.len.ensures.value, c.len-2.ensures, c.args.names.now.ok.0) in
    rw c.in_ok-push.ensures.items (now_named trips c.args.numbers.now c.insert.new.self c.args.names.now.items c.args.id (c.len.result + c.len-2.result) next c.requires.other (sym c.in_default.ensures.value)
    (btree_map_updates_str c.args.id.now c.args.numbers.now c.insert.new.self _ c.in_ok-insert.ensures.updates) c.requires.named)

pub returns-clause-keeps : goal.returns-clause-keeps
returns-clause-keeps c =
    let trips = ids_of c.args.trips.now in
    let next : c.len.result + c.len-2.result ≡ length trips + length c.args.names.now.items = omega (arith, c.len.ensures.value, c.len-2.ensures, c.args.names.now.ok.0) in
    number_stays trips c.args.numbers.now c.insert.new.self c.args.names.now.items c.args.id (c.len.result + c.len-2.result) next c.requires.other (sym c.in_default.ensures.value)
    (btree_map_updates_str c.args.id.now c.args.numbers.now c.insert.new.self _ c.in_ok-insert.ensures.updates)
