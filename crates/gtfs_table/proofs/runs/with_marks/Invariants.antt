use Rattle.std.proofs.Common.{◌≡◌, ◌+◌, length, take, vec_len, vec_capacity}
use Rattle.csv.specs.Records.{fields_of}
use Rattle.gtfs_table.proofs.MarkedFacts.{MarksAdded}
use Rattle.gtfs_table.proofs.runs.with_marks.Given as goal

abbrev pub invariant-loop-field : goal.invariant-loop-field
invariant-loop-field l = record {
  row : l.field-iterator.row.now ≡ l.fn.row;
  marks : MarksAdded l.fn.bytes.items (length (fields_of l.fn.row) + 1) (take l.field-iterator.at (fields_of l.fn.row)) l.bytes.items l.end;
  count : vec_len l.bytes ≡ vec_len l.fn.bytes + l.field-iterator.at + 1;
  room : vec_capacity l.bytes ≡ vec_capacity l.fn.bytes;
}
