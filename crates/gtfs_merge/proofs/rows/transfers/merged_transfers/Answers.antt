use Rattle.std.proofs.Common.{◌≡◌, ◌∙◌, [], ap, map, subst, sym}
use Rattle.std.specs.Prelude.{IfOk}
use Rattle.std.proofs.lemmas.Iterator.{items_from_collect}
use Rattle.std.proofs.lemmas.Iterator.Consumers.{YieldsList-from_rest}
use Rattle.gtfs_rows.specs.TransferEnds.{transfer_numbers}
use Rattle.gtfs_merge.specs.Transfers.{ends_cmp, merged_transfers, transfers_on}
use Rattle.gtfs_merge.specs.declared.kind.Side.TheVariants as side
use Rattle.gtfs_merge.proofs.KeyedMaps.{entries-none}
use Rattle.gtfs_merge.proofs.rows.transfers.merged_transfers.Goals as goal

pub returns : goal.returns
returns c =
    let sides = c.args.sides.now in
    let k = c.args.kinds.now in
    let first = c.in_ok-add_new.ensures [] (c.new-by_key.ensures.empty ∙ sym (entries-none ends_cmp transfer_numbers)) in
    let both = c.in_ok-add_new-2.ensures (transfers_on sides k side.A) first in
    c.new.ensures
    ∙ subst (λ r. IfOk r (λ v. v.items ≡ merged_transfers sides k)) c.in_ok-transfers.was
    (items_from_collect c.collect.result c.collect.ensures.ran (YieldsList-from_rest (merged_transfers sides k) (c.into_values.ensures.rest ∙ ap (map (λ e. e.1)) both)))
