use Rattle.std.proofs.Common.{ℕ, ◌≤◌, ◌/◌, ◌%◌, ◌^◌, length, arith, lit<}
use Rattle.std.specs.Fmt.{decimal}
use Rattle.std.proofs.lemmas.Fmt.{length-decimal-le}
use Rattle.gtfs_field.specs.Digits.{wide}
use Rattle.gtfs_field.proofs.Numerals.{digits-ascii}
use Rattle.gtfs_field.proofs.Wides.{wide-digits}
use Rattle.gtfs_field.proofs.Zeros.{without-digits, length-without}
use Rattle.gtfs_field.proofs.coord.push_degrees.Goals as goal

-- at most three digits of degrees, and nine of the fraction
degrees-short : (m : ℕ) → m ≤ 180_000_000_000 → length (decimal (m / 10 ^ 9)) ≤ 3
degrees-short m most = length-decimal-le 3 (m / 10 ^ 9) (lit< tt) (omega arith) (omega arith)

pub unwrap-requires : goal.unwrap-requires
unwrap-requires c = let short = degrees-short c.args.magnitude c.requires.small in c.push_str.ensures.succeeds (rw c.format.ensures.text (omega arith))

pub unwrap-requires-then-not-is_empty : goal.unwrap-requires-then-not-is_empty
unwrap-requires-then-not-is_empty c =
    let short : length c.format.result.now ≤ 3 = rw c.format.ensures.text (degrees-short c.args.magnitude c.requires.small) in
    let len = rw c.unwrap.ensures at c.push_str.ensures.len in
    c.push.ensures.succeeds (omega (arith, len, c.push.ensures.ascii_len, c.push_str.ensures.capacity))

pub push_ascii-requires : goal.push_ascii-requires
push_ascii-requires c =
    let ascii = digits-ascii _ (without-digits (wide 9 (c.args.magnitude % 10 ^ 9)) (wide-digits 9 (c.args.magnitude % 10 ^ 9))) in
    rw (c.without_zeros-fraction.ensures, c.fraction_bytes-digits.ensures) ascii

pub unwrap-requires-then-not-is_empty-2 : goal.unwrap-requires-then-not-is_empty-2
unwrap-requires-then-not-is_empty-2 c =
    let short : length c.format.result.now ≤ 3 = rw c.format.ensures.text (degrees-short c.args.magnitude c.requires.small) in
    let len = rw c.unwrap.ensures at c.push_str.ensures.len in
    let len-point = rw c.unwrap-then-not-is_empty.ensures at c.push.ensures.len in
    let nine : length c.without_zeros-fraction.result.now ≤ 9 =
    rw (c.without_zeros-fraction.ensures, c.fraction_bytes-digits.ensures) (length-without (wide 9 (c.args.magnitude % 10 ^ 9))) in
    c.push_ascii.ensures.room (omega (arith, len, len-point, nine, c.push.ensures.ascii_len, c.push_str.ensures.capacity, c.push.ensures.capacity))
