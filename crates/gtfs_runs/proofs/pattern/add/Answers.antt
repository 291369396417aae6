use Rattle.std.proofs.Common.{sym, ◌∙◌}
use Rattle.gtfs_runs.specs.Patterns.{entry_value}
use Rattle.gtfs_runs.proofs.Grouping.{groups-more, same-heading, told-more}
use Rattle.gtfs_runs.proofs.Pushes.{none-done}
use Rattle.gtfs_runs.proofs.pattern.add.Goals as goal

pub returns-in_ok-push-2-clause-told : goal.returns-in_ok-push-2-clause-told
returns-in_ok-push-2-clause-told c =
    let same = same-heading _ _ (sym c.leads.ensures ∙ c.if-leads.true) in
    told-more _ _ c.pop.new.self.items c.in-Some.last _ (entry_value c.args.trip) c.in-Some.ensures.items c.in_ok-push-2.ensures.items
    c.in_ok-with_trip.ensures.heading c.in_ok-with_trip.ensures.trips same

pub returns-in_ok-push-4-clause-groups : goal.returns-in_ok-push-4-clause-groups
returns-in_ok-push-4-clause-groups c =
    groups-more _ _ _ c.pop.new.self.items c.in-Some.last c.in_ok-first_of-2.field-0 (entry_value c.args.trip).heading
    c.in-Some.ensures.items c.in_ok-push-3.ensures.items c.in_ok-push-4.ensures.items (sym c.leads.ensures ∙ c.if-leads.false)
    c.in_ok-first_of-2.ensures.heading c.in_ok-first_of-2.ensures.filled

pub returns-in_err-first_of : goal.returns-in_err-first_of
returns-in_err-first_of c =
    let r = c.from_residual.result in
    let refused = c.from_residual.ensures.1 in
    record { told = none-done r _ _ refused; groups = none-done r _ _ refused }

pub returns-in_err-push : goal.returns-in_err-push
returns-in_err-push c =
    let r = c.from_residual-in_err-push.result in
    let refused = c.from_residual-in_err-push.ensures.1 in
    record { told = none-done r _ _ refused; groups = none-done r _ _ refused }

pub returns-in_err-with_trip : goal.returns-in_err-with_trip
returns-in_err-with_trip c =
    let r = c.from_residual-in_err-with_trip.result in
    let refused = c.from_residual-in_err-with_trip.ensures.1 in
    record { told = none-done r _ _ refused; groups = none-done r _ _ refused }

pub returns-in_err-push-2 : goal.returns-in_err-push-2
returns-in_err-push-2 c =
    let r = c.from_residual-in_err-push-2.result in
    let refused = c.from_residual-in_err-push-2.ensures.1 in
    record { told = none-done r _ _ refused; groups = none-done r _ _ refused }

pub returns-in_err-push-3 : goal.returns-in_err-push-3
returns-in_err-push-3 c =
    let r = c.from_residual-in_err-push-3.result in
    let refused = c.from_residual-in_err-push-3.ensures.1 in
    record { told = none-done r _ _ refused; groups = none-done r _ _ refused }

pub returns-in_err-first_of-2 : goal.returns-in_err-first_of-2
returns-in_err-first_of-2 c =
    let r = c.from_residual-in_err-first_of-2.result in
    let refused = c.from_residual-in_err-first_of-2.ensures.1 in
    record { told = none-done r _ _ refused; groups = none-done r _ _ refused }

pub returns-in_err-push-4 : goal.returns-in_err-push-4
returns-in_err-push-4 c =
    let r = c.from_residual-in_err-push-4.result in
    let refused = c.from_residual-in_err-push-4.ensures.1 in
    record { told = none-done r _ _ refused; groups = none-done r _ _ refused }
