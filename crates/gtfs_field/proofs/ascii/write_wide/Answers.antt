use Rattle.std.proofs.Common.{◌<◌, ◌≤◌, ◌-◌, ◌^◌, length, arith, take, drop}
use Rattle.std.specs.Fmt.{decimal}
use Rattle.std.proofs.lemmas.Fmt.{length-decimal-le}
use Rattle.std.proofs.lemmas.List.{length-take-le}
use Rattle.gtfs_field.proofs.Wides.{wide-written, zeroed-field, length-zeroed}
use Rattle.gtfs_field.proofs.ascii.write_wide.Goals as goal

pub write_digits-requires : goal.write_digits-requires
write_digits-requires c =
    let bytes = c.args.bytes.now in
    let within = c.requires.within in
    let fits : c.args.number < 2 ^ 64 = omega arith in
    let short : length (decimal c.args.number) ≤ c.args.width = length-decimal-le c.args.width c.args.number within.0 c.requires.small fits in
    let zeroed = zeroed-field bytes c.fill.new.self c.args.width c.args.end within.1 within.2 (c.fill.ensures.after (λ y e. e)) in
    (omega arith, rw (zeroed, length-zeroed bytes c.args.width c.args.end within.1 within.2) within.2)

pub returns : goal.returns
returns c =
    let bytes = c.args.bytes.now in
    let within = c.requires.within in
    let fits : c.args.number < 2 ^ 64 = omega arith in
    let zeroed = zeroed-field bytes c.fill.new.self c.args.width c.args.end within.1 within.2 (c.fill.ensures.after (λ y e. e)) in
    wide-written (take (c.args.end - c.args.width) bytes) (drop c.args.end bytes) _ c.write_digits.new.buf c.args.width c.args.number c.write_digits.result c.args.end within.0 c.requires.small fits
    (rw (length-take-le (c.args.end - c.args.width) bytes (omega arith)) (omega arith)) zeroed c.write_digits.ensures.start c.write_digits.ensures.written c.write_digits.ensures.before
