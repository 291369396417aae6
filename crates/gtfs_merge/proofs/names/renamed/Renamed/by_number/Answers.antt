use Rattle.std.proofs.Common.{◌<◌, ◌∙◌, Some, ap, arith, length, sym}
use Rattle.gtfs_merge.proofs.RenamedLists.{name-numbered, name-of}
use Rattle.gtfs_merge.proofs.names.renamed.Renamed.by_number.Goals as goal

pub index-requires : goal.index-requires
index-requires c =
    let r = c.self.inside in
    omega (arith, c.requires, r.ids.ok.0, ap (λ t. length t.ids) c.self.view_is)

pub index-requires-2 : goal.index-requires-2
index-requires-2 c =
    let r = c.self.inside in
    omega (arith, c.requires, r.names.ok.0, c.self.invariant.0, ap (λ t. length t.ids) c.self.view_is)

pub returns-clause-name : goal.returns-clause-name
returns-clause-name c =
    let r = c.self.inside in
    let within : c.args.number < length r.ids.items = omega (arith, c.requires, ap (λ t. length t.ids) c.self.view_is) in
    c.name_or.ensures
    ∙ name-of r.ids.items r.names.items c.self.invariant.0 c.args.self.now c.self.view_is c.args.number within _ _ _ _ (c.as_str.ensures ∙ c.index.ensures) c.index-2.ensures

pub returns-clause-of_id : goal.returns-clause-of_id
returns-clause-of_id c =
    let r = c.self.inside in
    let within : c.args.number < length r.ids.items = omega (arith, c.requires, ap (λ t. length t.ids) c.self.view_is) in
    name-numbered r.ids.items r.names.items c.self.invariant.0 c.args.self.now c.self.view_is c.self.invariant.1 c.args.number within
    ∙ ap Some (sym (c.name_or.ensures
    ∙ name-of r.ids.items r.names.items c.self.invariant.0 c.args.self.now c.self.view_is c.args.number within _ _ _ _ (c.as_str.ensures ∙ c.index.ensures) c.index-2.ensures))
