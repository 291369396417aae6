use Rattle.std.proofs.Common.{◌∙◌, ap, arith, get_or, length, []}
use Rattle.gtfs_merge.specs.Names.{of_side}
use Rattle.gtfs_merge.proofs.NamesFacts.{ids-count, name-at}
use Rattle.gtfs_merge.proofs.numbering.sorted_rows.row_of.Goals as goal

pub by_number-requires : goal.by_number-requires
by_number-requires c =
    let count = ap (λ n. length (of_side n c.args.side).ids) (c.requires.names c.args.kind) ∙ ids-count c.args.kind c.args.sides.now c.args.side in
    omega (arith, count, c.requires.within)

pub returns : goal.returns
returns c =
    let own = c.by_number.ensures.name ∙ ap (λ n. get_or (of_side n c.args.side).names c.args.number []) (c.requires.names c.args.kind)
    ∙ name-at c.args.kind c.args.sides.now c.args.side c.args.number c.requires.within in
    λ i. record { id = own i; side = c.args.side; number = c.args.number }
