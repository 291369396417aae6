use Rattle.std.proofs.Common.{◌≡◌, ◌∙◌, ap, arith, length, sym}
use Rattle.std.proofs.lemmas.List.{length-map}
use Rattle.gtfs_schema.specs.steps.IdRows.{id_of}
use Rattle.gtfs_schema.specs.steps.Ids.{ids_of}
use Rattle.gtfs_schema.proofs.IdNumberFacts.{listed_ids}
use Rattle.gtfs_schema.proofs.ids.Ids.len.Goals as goal

pub returns-clause-value : goal.returns-clause-value
returns-clause-value c =
    let all = c.self.inside.rows.items in
    let many : length (ids_of c.args.self.now) ≡ length all =
    ap (λ i. length (ids_of i)) (sym c.self.view_is) ∙ ap length (listed_ids _ all c.self.invariant.index) ∙ length-map all id_of in
    omega (arith, many, c.len.ensures, c.self.inside.rows.ok.0)
