use Rattle.std.proofs.Common.{◌≡◌, ◌++◌, encode_utf8_all, string_bytes}
use Rattle.gtfs_schema.specs.FieldValues.{plain}
use Rattle.gtfs_cli.proofs.report.problem_value.push_beginning.Given as goal

abbrev pub invariant-loop-character : goal.invariant-loop-character
invariant-loop-character l = string_bytes l.text ≡ string_bytes l.initial.text ++ plain (encode_utf8_all l.yielded)
