use Rattle.std.proofs.Common.{◌≡◌, ◌<◌, ◌∙◌, ap, arith, get_or, length, sym}
use Rattle.std.proofs.lemmas.List.{get_or-map, length-map}
use Rattle.gtfs_schema.specs.steps.IdRows.{id_of}
use Rattle.gtfs_schema.specs.steps.Ids.{ids_of, rows_by_number}
use Rattle.gtfs_schema.proofs.IdNumberFacts.{listed_ids, listed_rows}
use Rattle.gtfs_schema.proofs.ids.Ids.row.Goals as goal

pub index-requires : goal.index-requires
index-requires c =
    let all = c.self.inside.rows.items in
    let many : length (ids_of c.args.self.now) ≡ length all =
    ap (λ i. length (ids_of i)) (sym c.self.view_is) ∙ ap length (listed_ids _ all c.self.invariant.index) ∙ length-map all id_of in
    omega (arith, c.requires, c.self.inside.rows.ok.0, many)

pub returns : goal.returns
returns c =
    let all = c.self.inside.rows.items in
    let many : length (ids_of c.args.self.now) ≡ length all =
    ap (λ i. length (ids_of i)) (sym c.self.view_is) ∙ ap length (listed_ids _ all c.self.invariant.index) ∙ length-map all id_of in
    let within : c.args.number < length all = omega (arith, c.requires, many) in
    ap (λ r. r.row) c.index.ensures
    ∙ sym (get_or-map (λ r. r.row) all c.args.number c.index.result.now 0 within)
    ∙ ap (λ ns. get_or ns c.args.number 0) (sym (listed_rows _ all c.self.invariant.index))
    ∙ ap (λ i. get_or (rows_by_number i) c.args.number 0) c.self.view_is
