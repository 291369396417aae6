use Rattle.std.proofs.Common.{◌∙◌, Some, ap, bytes_eq, sym}
use Rattle.std.specs.Prelude.{position}
use Rattle.gtfs_merge.proofs.RenamedLists.{found-within, name-found, name-missing}
use Rattle.gtfs_merge.proofs.names.renamed.Renamed.name.Goals as goal

pub by_number-requires : goal.by_number-requires
by_number-requires c =
    let r = c.self.inside in
    found-within r.ids.items r.names.items c.self.invariant.0 c.args.self.now c.self.view_is c.args.id.now c.in-Some.number
    (ap (position (bytes_eq c.args.id.now)) (sym c.deref.ensures.value) ∙ sym c.number_of.ensures ∙ c.in-Some.is)

pub returns-in-Some : goal.returns-in-Some
returns-in-Some c =
    let r = c.self.inside in
    ap Some c.by_number.ensures.name
    ∙ name-found r.ids.items r.names.items c.self.invariant.0 c.args.self.now c.self.view_is c.args.id.now c.in-Some.number
    (ap (position (bytes_eq c.args.id.now)) (sym c.deref.ensures.value) ∙ sym c.number_of.ensures ∙ c.in-Some.is)

pub returns-in-None : goal.returns-in-None
returns-in-None c =
    let r = c.self.inside in
    name-missing r.ids.items r.names.items c.self.invariant.0 c.args.self.now c.self.view_is c.args.id.now
    (ap (position (bytes_eq c.args.id.now)) (sym c.deref.ensures.value) ∙ sym c.number_of.ensures ∙ c.in-None.is)
