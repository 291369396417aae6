use Rattle.std.proofs.Common.{◌<◌, ◌∙◌, ap, sym, arith, length}
use Rattle.gtfs_schema.specs.steps.Ids.{first_row_with, number_with}
use Rattle.gtfs_schema.proofs.IdFacts.{found_there}
use Rattle.gtfs_schema.proofs.IdNumberFacts.{numbered_at}
use Rattle.gtfs_schema.proofs.ids.Ids.at.Goals as goal

pub returns-clause-row : goal.returns-clause-row
returns-clause-row c =
    let all = c.self.inside.rows.items in
    let within : c.args.number < length all = omega (arith, c.self.inside.rows.ok.0) in
    sym (found_there c.args.id.now all c.self.invariant.index.ascending c.args.number c.index-found.result.now within c.index-found.ensures (c.has.ensures c.if-not-has.false))
    ∙ c.self.invariant.index.first c.args.id.now ∙ ap (λ i. first_row_with i c.args.id.now) c.self.view_is

pub returns-clause-number : goal.returns-clause-number
returns-clause-number c =
    let all = c.self.inside.rows.items in
    let within : c.args.number < length all = omega (arith, c.self.inside.rows.ok.0) in
    numbered_at _ all c.self.invariant.index c.args.id.now c.args.number c.index-found.result.now within c.index-found.ensures (c.has.ensures c.if-not-has.false)
    ∙ ap (λ i. number_with i c.args.id.now) c.self.view_is
