use Rattle.std.proofs.Common.{rules, ◌≡◌, ◌∙◌, [], ap, codes, map}
use Rattle.std.proofs.lemmas.List.{map_push, take_all}
use Rattle.std.proofs.lemmas.List.Sorted.{answers_always}
use Rattle.gtfs_table.specs.declared.file.File.TheVariants as file
use Rattle.gtfs_rows.specs.ContentRead.{frequency_in}
use Rattle.gtfs_rows.specs.RowsInMemory.{frequency_of}
use Rattle.gtfs_reading.specs.CalendarRows.{rows_with}
use Rattle.gtfs_reading.proofs.Fields.{read_next}
use Rattle.gtfs_reading.proofs.FrequencyFacts.{frequencies_sorted}
use Rattle.gtfs_reading.proofs.frequencies.FrequencyFile.of_trip.Goals as goal

pub loop-row-init : goal.loop-row-init
loop-row-init c = ap (map frequency_of) c.new-periods.ensures.items

pub loop-row-preserved : goal.loop-row-preserved
loop-row-preserved c = ap (map frequency_of) c.in_ok-push.ensures.items ∙ map_push frequency_of c.loop-row.periods.items _
    ∙ read_next (frequency_in c.args.self.now) c.of-row-items.result.now c.loop-row.row-index (map frequency_of c.loop-row.periods.items) _ (record { ref_ptr = (0, 0); now = [] }, 0) c.loop-row-test.true
    c.loop-row.invariant c.frequency.ensures

pub returns : goal.returns
returns c =
    let d = c.args.self.now in
    let id = c.args.trip_id.now in
    let are : map (λ r. r.1) c.of-row-items.result.now ≡ rows_with d file.Frequencies (codes "trip_id") id =
    c.of-row-items.ensures ∙ c.self.invariant.rows id ∙ ap (λ e. rows_with e file.Frequencies (codes "trip_id") id) c.self.view_is in
    let read = c.loop-row.invariant ∙ ap (λ rs. map (frequency_in d) (map (λ r. r.1) rs)) (take_all c.loop-row.row-index c.of-row-items.result.now c.loop-row-test.false) in
    frequencies_sorted d c.requires id _ c.loop-row.periods.items c.sort_unstable_by_key.new.self.items are
    read c.sort_unstable_by_key.ensures.permutation
    (c.sort_unstable_by_key.ensures.sorted (λ p. p.start_time) (answers_always _ _ _ (λ f a r g called. search rules)))
