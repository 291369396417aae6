use Rattle.std.proofs.Common.{rules, ◌≡◌, ◌∙◌, sym, subst, Bool, FitsSigned, to_z, of_z, to_z-of_z, w64}
use Rattle.gtfs_runs.specs.declared.event.Event.{Event}
use Rattle.gtfs_runs.specs.EventOrder.{is_above_moment, IsFrom}
use Rattle.gtfs_runs.proofs.Orders.{above-from}
use Rattle.gtfs_runs.proofs.Runs.{first-passes, second-passes, none-passes}
use Rattle.gtfs_runs.proofs.step_lane.StepLaneLane.first_above.Goals as goal

pub returns-then-is_below-clause-first : goal.returns-then-is_below-clause-first
returns-then-is_below-clause-first c =
    let test : Event → Bool = is_above_moment c.args.moment.now in
    let fits : FitsSigned w64 c.args.moment.now.at = search rules in
    let at : to_z w64 (of_z w64 c.args.moment.now.at) ≡ c.args.moment.now.at = to_z-of_z fits in
    let from-on = c.two_from-first.ensures test (subst (λ t. IsFrom t test) (sym at) (above-from c.args.moment.now)) in
    sym (from-on ∙ first-passes test c.in-Some.event _ _ c.in-Some.is (sym c.is_below.ensures ∙ c.if-is_below.true))

pub returns-else-is_below-clause-first : goal.returns-else-is_below-clause-first
returns-else-is_below-clause-first c =
    let test : Event → Bool = is_above_moment c.args.moment.now in
    let fits : FitsSigned w64 c.args.moment.now.at = search rules in
    let at : to_z w64 (of_z w64 c.args.moment.now.at) ≡ c.args.moment.now.at = to_z-of_z fits in
    let from-on = c.two_from-first.ensures test (subst (λ t. IsFrom t test) (sym at) (above-from c.args.moment.now)) in
    sym (from-on ∙ second-passes test c.in-Some.event _ _ c.in-Some.is (sym c.is_below.ensures ∙ c.if-is_below.false))

pub returns-in-None-clause-first : goal.returns-in-None-clause-first
returns-in-None-clause-first c =
    let test : Event → Bool = is_above_moment c.args.moment.now in
    let fits : FitsSigned w64 c.args.moment.now.at = search rules in
    let at : to_z w64 (of_z w64 c.args.moment.now.at) ≡ c.args.moment.now.at = to_z-of_z fits in
    let from-on = c.two_from-first.ensures test (subst (λ t. IsFrom t test) (sym at) (above-from c.args.moment.now)) in
    sym (from-on ∙ none-passes test _ _ c.in-None.is)
