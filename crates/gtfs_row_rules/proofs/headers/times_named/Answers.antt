use Rattle.std.proofs.Common.{◌≡◌, ◌+◌, ◌<◌, [], get_or, length, sym, ap, ◌∙◌, arith}
use Rattle.std.specs.Prelude.{bytes_eq}
use Rattle.std.proofs.lemmas.List.Sums.{count_by_more_no, count_by_more_yes}
use Rattle.gtfs_schema.specs.RowConditions.{header}
use Rattle.gtfs_table.specs.Rows.{records_in}
use Rattle.gtfs_schema.proofs.NamedFacts.{text_turned}
use Rattle.gtfs_row_rules.proofs.HeaderFacts.{header_at, header_length}
use Rattle.gtfs_row_rules.proofs.headers.times_named.Goals.{then-eq, else-eq}
use Rattle.gtfs_row_rules.proofs.headers.times_named.Goals as goal

pub loop-n-preserved : goal.loop-n-preserved
loop-n-preserved c =
    let records = records_in c.args.tables.now c.args.file in
    let names = header records in
    let name = c.args.name.now in
    let n = c.loop-n.n in
    let within : n < length names = rw (header_length records) (omega arith) in
    let read : bytes_eq name (get_or names n []) ≡ c.eq.result =
    ap (bytes_eq name) (header_at records n (omega arith) ∙ sym c.field.ensures) ∙ text_turned name c.field.result.now ∙ sym c.eq.ensures in
    elim c.if-eq.branch [
      | then-eq w ↦ w.times-is ∙ ap (λ k. k + 1) c.loop-n.invariant ∙ sym (count_by_more_yes (bytes_eq name) names n [] within (read ∙ w.if-eq.true))
      | else-eq w ↦ w.times-is ∙ c.loop-n.invariant ∙ sym (count_by_more_no (bytes_eq name) names n [] within (read ∙ w.if-eq.false))
    ]
