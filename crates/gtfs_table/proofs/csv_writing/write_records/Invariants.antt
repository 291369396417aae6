use Rattle.std.proofs.Common.{◌≡◌, Some, false, true, take}
use Rattle.csv.specs.Writing.{default_writer, with_flexible, writer_setup, fields_written, has_written, text_written}
use Rattle.gtfs_table.specs.TableTexts.{text_of_records}
use Rattle.gtfs_table.proofs.csv_writing.write_records.Given as goal

abbrev pub invariant-loop-i : goal.invariant-loop-i
invariant-loop-i l = record {
  setup : writer_setup l.writer ≡ with_flexible default_writer true;
  fields : fields_written l.writer ≡ 0;
  wrote : has_written l.writer ≡ false;
  text : text_written (λ v. Some v.items) l.writer ≡ Some (text_of_records (take l.i l.records));
}
