use Rattle.std.proofs.Common.{◌≡◌, take}
use Rattle.csv.specs.Records.{fields_of}
use Rattle.gtfs_table.proofs.FieldFacts.{OffsetsAdded}
use Rattle.gtfs_table.proofs.offsets.Offsets.append_each.Given as goal

abbrev pub invariant-loop-field : goal.invariant-loop-field
invariant-loop-field l = record {
  row : l.field-iterator.row.now ≡ l.fn.row;
  offsets : OffsetsAdded l.first l.fn.self (take l.field-iterator.at (fields_of l.fn.row)) l.self l.size;
}
