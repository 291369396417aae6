use Rattle.std.proofs.Common.{◌≡◌, ◌+◌, take, vec_len, vec_capacity}
use Rattle.csv.specs.Records.{fields_of}
use Rattle.gtfs_table.proofs.FieldFacts.{OffsetsAdded}
use Rattle.gtfs_table.proofs.blocks.push_starts.Given as goal

abbrev pub invariant-loop-field : goal.invariant-loop-field
invariant-loop-field l = record {
  row : l.field-iterator.row.now ≡ l.fn.row;
  starts : OffsetsAdded l.start l.fn.distances.items (take l.field-iterator.at (fields_of l.fn.row)) l.distances.items l.size;
  count : vec_len l.distances ≡ vec_len l.fn.distances + l.field-iterator.at;
  room : vec_capacity l.distances ≡ vec_capacity l.fn.distances;
}
