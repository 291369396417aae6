use Rattle.std.proofs.Common.{rules, ℕ, ◌++◌, ◌<◌, ◌^◌, List, codes, decimal, drop, subst, sym, arith}
use Rattle.std.specs.Str.{IsAscii}
use Rattle.std.proofs.lemmas.Fmt.{IsAscii-decimal}
use Rattle.std.proofs.lemmas.Str.{IsAscii-append, IsAscii-take}
use Rattle.gtfs_field.specs.Canonical.{digits_of_date}
use Rattle.gtfs_field.proofs.Dates.{date-ascii}
use Rattle.gtfs_board.proofs.key.writing.push_run.Goals as goal

slash : IsAscii (codes "/")
slash = search rules

numbered : (n : ℕ) (rest : List ℕ) → n < 2 ^ 64 → IsAscii rest → IsAscii (codes "/" ++ decimal n ++ rest)
numbered n rest fits ascii = IsAscii-append (codes "/" ++ decimal n) rest (IsAscii-append (codes "/") (decimal n) slash (IsAscii-decimal n fits)) ascii

pub push_ascii-requires-clause-ascii : goal.push_ascii-requires-clause-ascii
push_ascii-requires-clause-ascii c =
    let date = subst IsAscii (sym c.date_bytes-bytes.ensures) (IsAscii-append (codes "/") (digits_of_date c.date_of.result) slash (date-ascii c.date_of.result)) in
    let sequence = subst IsAscii (sym c.write_number-end.ensures.written) (numbered c.args.sequence (drop 22 c.date_bytes-bytes.result) (omega (arith, c.ranges.sequence)) date) in
    let run = subst IsAscii (sym c.write_number-start.ensures.written) (numbered c.args.run (drop c.write_number-end.result c.write_number-end.new.bytes) (omega (arith, c.ranges.run)) sequence) in
    IsAscii-take _ _ run
