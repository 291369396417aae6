use Rattle.std.proofs.Common.{◌∙◌, ◌<◌, ◌≤◌, ◌++◌, ◌∷◌, [], ap, arith, length, map, sym}
use Rattle.std.proofs.lemmas.List.{length-set, map_more, take_all, take_more_set}
use Rattle.std.proofs.lemmas.Simd.{map-map}
use Rattle.gtfs_table.specs.Rows.{records_in}
use Rattle.gtfs_table.specs.Tables.{column_of}
use Rattle.gtfs_schema.specs.declared.columns.Column.{Column}
use Rattle.gtfs_schema.specs.declared.columns.Empty.TheVariants.{Refused}
use Rattle.gtfs_schema.specs.declared.columns.Kind.TheVariants.{Id}
use Rattle.gtfs_schema.specs.steps.ColumnView.{column_of as kept_column}
use Rattle.gtfs_reading.proofs.columns.column_indices.Goals as goal

pub loop-place-preserved : goal.loop-place-preserved
loop-place-preserved g c =
    let indices = c.loop-place.indices in
    let kept = c.args.kept.now in
    let place = c.loop-place.place in
    let within : place < length indices = omega (arith, c.loop-place-test.true, c.loop-place.invariant.count) in
    let among : place < length kept = omega (arith, c.loop-place-test.true, c.requires.count) in
    let none : Column = record { name = record { ref_ptr = (0, 0); now = [] }; kind = Id; empty = Refused } in
    let rs = records_in c.args.tables.now c.args.file in
    record {
      found = take_more_set indices place c.column.result within ∙ (λ i. c.loop-place.invariant.found i ++ c.column.ensures i ∷ [])
          ∙ sym (map_more (λ c. column_of rs c.name.now) kept place none among);
      count = length-set indices place c.column.result ∙ c.loop-place.invariant.count;
    }

pub returns : goal.returns
returns g c =
    let rs = records_in c.args.tables.now c.args.file in
    let place = c.loop-place.place in
    let whole : length c.loop-place.indices ≤ place = omega (arith, c.loop-place-test.false, c.loop-place.invariant.count) in
    let all : length c.args.kept.now ≤ place = omega (arith, c.loop-place-test.false, c.requires.count) in
    sym (take_all place c.loop-place.indices whole) ∙ c.loop-place.invariant.found ∙ ap (map (λ c. column_of rs c.name.now)) (take_all place c.args.kept.now all)
    ∙ sym (map-map (λ c. column_of rs c.name) kept_column c.args.kept.now) ∙ ap (map (λ c. column_of rs c.name)) c.requires.kept
