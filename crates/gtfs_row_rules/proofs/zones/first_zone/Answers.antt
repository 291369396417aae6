use Rattle.std.proofs.Common.{◌≡◌, ◌∙◌, Option, List, ℕ, ap, codes, option_map, sym}
use Rattle.gtfs_field.proofs.OptionFacts.{is_some-map}
use Rattle.gtfs_table.specs.Rows.{records_in}
use Rattle.gtfs_table.specs.declared.file.File.TheVariants as file
use Rattle.gtfs_table.proofs.RowFacts.{all_taken, first_row, no_row_yet, turn}
use Rattle.gtfs_table.proofs.RowFacts.{value_is}
use Rattle.gtfs_schema.specs.Columns.{id}
use Rattle.gtfs_schema.specs.ReadFields.{word_of}
use Rattle.gtfs_schema.specs.RowConditions.{word_in}
use Rattle.gtfs_row_rules.proofs.ZoneFacts.{has_zone, has_zone_is, no_zone, zone_here}
use Rattle.gtfs_row_rules.proofs.zones.first_zone.Goals as goal

pub returns-then-is_some : goal.returns-then-is_some
returns-then-is_some c =
    let d = c.args.tables.now in
    let n = c.in-Some.field-0-0 in
    let t = turn d file.Agency _ c.loop-record.yielded _ (c.into_iter-record-iterator.ensures.into_iter_gives ∙ c.rows-record-items.ensures) c.loop-record.yielded_by n c.in-Some.record _ c.in-Some.ensures.steps in
    let zone : Option (List ℕ) = option_map (λ t. t.now) c.id-zone.result in
    let read : zone ≡ word_in d file.Agency n "agency_timezone" = c.id-zone.ensures ∙ ap (word_of id) (c.value.ensures ∙ value_is (records_in d file.Agency) n c.in-Some.record (codes "agency_timezone") c.args.zone t.record_is c.requires) in
    zone_here d n zone read (first_row d file.Agency c.loop-record.yielded n c.in-Some.record _ (has_zone d) t c.loop-record.invariant
    (has_zone_is d n zone read ∙ is_some-map (λ t. t.now) c.id-zone.result ∙ sym c.is_some.ensures ∙ c.if-is_some.true))

pub loop-record-preserved : goal.loop-record-preserved
loop-record-preserved c =
    let d = c.args.tables.now in
    let n = c.in-Some.field-0-0 in
    let t = turn d file.Agency _ c.loop-record.yielded _ (c.into_iter-record-iterator.ensures.into_iter_gives ∙ c.rows-record-items.ensures) c.loop-record.yielded_by n c.in-Some.record _ c.in-Some.ensures.steps in
    let zone : Option (List ℕ) = option_map (λ t. t.now) c.id-zone.result in
    let read : zone ≡ word_in d file.Agency n "agency_timezone" = c.id-zone.ensures ∙ ap (word_of id) (c.value.ensures ∙ value_is (records_in d file.Agency) n c.in-Some.record (codes "agency_timezone") c.args.zone t.record_is c.requires) in
    no_row_yet c.loop-record.yielded n c.in-Some.record (has_zone d) c.loop-record.invariant
    (has_zone_is d n zone read ∙ is_some-map (λ t. t.now) c.id-zone.result ∙ sym c.is_some.ensures ∙ c.if-is_some.false)

pub returns : goal.returns
returns c =
    let d = c.args.tables.now in
    let all = all_taken d file.Agency _ c.loop-record.yielded _ (c.into_iter-record-iterator.ensures.into_iter_gives ∙ c.rows-record-items.ensures) c.loop-record.yielded_by c.in-None.ensures.steps.0 in
    sym (no_zone d (rw all at c.loop-record.invariant))
