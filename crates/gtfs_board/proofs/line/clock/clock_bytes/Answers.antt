use Rattle.std.proofs.Common.{codes, refl, set}
use Rattle.std.specs.Str.{IsAscii}
use Rattle.std.proofs.lemmas.Str.Ascii.{IsAscii-set}
use Rattle.gtfs_board.proofs.Joined.{ascii-tested}
use Rattle.gtfs_board.proofs.line.clock.clock_bytes.Goals as goal

template : IsAscii (codes "\t-0000-00-00 00:00:00+00:00:00\t")
template = ascii-tested (codes "\t-0000-00-00 00:00:00+00:00:00\t") refl

pub returns-clause-ascii : goal.returns-clause-ascii
returns-clause-ascii c =
    let year = IsAscii-set (codes "\t-0000-00-00 00:00:00+00:00:00\t") 1 c.before_year.result template c.before_year.ensures.ascii in
    let offset = IsAscii-set (set (codes "\t-0000-00-00 00:00:00+00:00:00\t") 1 c.before_year.result) 21 c.before_offset.result year c.before_offset.ensures.ascii in
    let minutes = IsAscii-set (set (set (codes "\t-0000-00-00 00:00:00+00:00:00\t") 1 c.before_year.result) 21 c.before_offset.result) 27 c.after_minutes.result offset c.after_minutes.ensures.ascii in
    let a = c.write_two_digits-4.ensures.ascii (c.write_two_digits-3.ensures.ascii (c.write_two_digits-2.ensures.ascii (c.write_two_digits.ensures.ascii minutes))) in
    let b = c.write_two_digits-7.ensures.ascii (c.write_two_digits-6.ensures.ascii (c.write_two_digits-5.ensures.ascii a)) in
    c.write_two_digits-10.ensures.ascii (c.write_two_digits-9.ensures.ascii (c.write_two_digits-8.ensures.ascii b))
