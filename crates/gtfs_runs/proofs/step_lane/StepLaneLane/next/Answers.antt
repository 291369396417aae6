use Rattle.std.proofs.Common.{◌≡◌, ◌∙◌, sym, subst, Bool, to_z, of_z, w64, arith}
use Rattle.std.specs.Prelude.{pos}
use Rattle.std.proofs.lemmas.Int.{ints}
use Rattle.gtfs_runs.specs.declared.event.Event.{Event}
use Rattle.gtfs_runs.specs.EventOrder.{is_later, IsFrom}
use Rattle.gtfs_runs.proofs.Orders.{later-from}
use Rattle.gtfs_runs.proofs.Runs.{first-passes, second-passes, none-passes}
use Rattle.gtfs_runs.proofs.step_lane.StepLaneLane.next.Goals as goal

pub returns-then-is_below-clause-next : goal.returns-then-is_below-clause-next
returns-then-is_below-clause-next c =
    let test : Event → Bool = is_later c.args.event.now in
    let at : to_z w64 (of_z w64 c.from.result) ≡ pos c.args.event.now.at = omega (arith, ints, c.from.ensures) in
    let from-on = c.two_from-first.ensures test (subst (λ t. IsFrom t test) (sym at) (later-from c.args.event.now)) in
    sym (from-on ∙ first-passes test c.in-Some.other _ _ c.in-Some.is (sym c.is_below.ensures ∙ c.if-is_below.true))

pub returns-else-is_below-clause-next : goal.returns-else-is_below-clause-next
returns-else-is_below-clause-next c =
    let test : Event → Bool = is_later c.args.event.now in
    let at : to_z w64 (of_z w64 c.from.result) ≡ pos c.args.event.now.at = omega (arith, ints, c.from.ensures) in
    let from-on = c.two_from-first.ensures test (subst (λ t. IsFrom t test) (sym at) (later-from c.args.event.now)) in
    sym (from-on ∙ second-passes test c.in-Some.other _ _ c.in-Some.is (sym c.is_below.ensures ∙ c.if-is_below.false))

pub returns-in-None-clause-next : goal.returns-in-None-clause-next
returns-in-None-clause-next c =
    let test : Event → Bool = is_later c.args.event.now in
    let at : to_z w64 (of_z w64 c.from.result) ≡ pos c.args.event.now.at = omega (arith, ints, c.from.ensures) in
    let from-on = c.two_from-first.ensures test (subst (λ t. IsFrom t test) (sym at) (later-from c.args.event.now)) in
    sym (from-on ∙ none-passes test _ _ c.in-None.is)
