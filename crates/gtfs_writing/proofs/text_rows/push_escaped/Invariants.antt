use Rattle.std.proofs.Common.{◌≡◌, ◌++◌, string_bytes}
use Rattle.csv.specs.Writing.{default_writer, escaped}
use Rattle.gtfs_writing.proofs.text_rows.push_escaped.Given as goal

abbrev pub invariant-loop-c : goal.invariant-loop-c
invariant-loop-c l = string_bytes l.text ++ escaped default_writer l.c-iterator.rest.now ≡ string_bytes l.initial.text ++ escaped default_writer l.field
