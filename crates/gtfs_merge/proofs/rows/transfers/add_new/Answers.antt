use Rattle.std.proofs.Common.{◌∙◌, ◌++◌, map, ap, sym}
use Rattle.std.proofs.lemmas.List.{take_all}
use Rattle.gtfs_rows.specs.TransferEnds.{transfer_numbers}
use Rattle.gtfs_merge.specs.Transfers.{ends_cmp, transfer_on}
use Rattle.gtfs_merge.proofs.KeyedMaps.{entries_of, turn-new, turn-old}
use Rattle.gtfs_merge.proofs.MergedTransfers.{within-index}
use Rattle.gtfs_merge.proofs.TransferOrder.{ends_antisymmetric, ends_total}
use Rattle.gtfs_merge.proofs.rows.transfers.add_new.Goals as goal
use Rattle.gtfs_merge.proofs.rows.transfers.add_new.Goals.{then-not-contains_key+in_ok-insert, else-not-contains_key}

pub renumbered-transfer-requires : goal.renumbered-transfer-requires
renumbered-transfer-requires c =
    within-index c.args.sides.now c.soundness.ensures.a c.soundness.ensures.b c.args.kinds.now c.requires c.args.side c.transfers-transfers.result.now
    (c.transfers-transfers.ensures.value ∙ ap (λ f. f.transfers) c.of.ensures) c.loop-own.own-index _ c.loop-own-test.true

pub loop-own-preserved : goal.loop-own-preserved
loop-own-preserved c = λ xs start.
    elim c.if-not-contains_key.branch [
      | then-not-contains_key+in_ok-insert w ↦
          ap (λ m. m.entries) w.by_key-is ∙ w.in_ok-insert.ensures.entries
          ∙ turn-new ends_cmp ends_total ends_antisymmetric transfer_numbers (transfer_on c.args.kinds.now c.args.side) c.transfers-transfers.result.now c.loop-own.own-index _ xs c.loop-own.by_key.entries
          c.ends-key.result c.renumbered-transfer.result c.loop-own-test.true c.renumbered-transfer.ensures c.ends-key.ensures (c.loop-own.invariant xs start) (sym c.contains_key.ensures ∙ w.if-not-contains_key.true)
      | else-not-contains_key w ↦
          ap (λ m. m.entries) w.by_key-is
          ∙ turn-old ends_cmp ends_total ends_antisymmetric transfer_numbers (transfer_on c.args.kinds.now c.args.side) c.transfers-transfers.result.now c.loop-own.own-index _ xs c.loop-own.by_key.entries
          c.ends-key.result c.renumbered-transfer.result c.loop-own-test.true c.renumbered-transfer.ensures c.ends-key.ensures (c.loop-own.invariant xs start) (sym c.contains_key.ensures ∙ w.if-not-contains_key.false)
    ]

pub returns : goal.returns
returns c = λ xs start.
    c.loop-own.invariant xs start
    ∙ ap (λ ts. entries_of ends_cmp ends_total ends_antisymmetric transfer_numbers (xs ++ map (transfer_on c.args.kinds.now c.args.side) ts))
    (take_all c.loop-own.own-index c.transfers-transfers.result.now c.loop-own-test.false ∙ c.transfers-transfers.ensures.value ∙ ap (λ f. f.transfers) c.of.ensures)
