use Rattle.std.proofs.Common.{◌≡◌, ◌≤◌, ◌+◌, ◌-◌, ◌++◌, ◌∙◌, arith, drop, length, refl, sym, take}
use Rattle.gtfs_stop_times.proofs.RangeFacts.{in-second}
use Rattle.gtfs_stop_times.proofs.by_trip.rows_in.Goals as goal

pub returns-else-range-behind : goal.returns-else-range-behind
returns-else-range-behind c =
    let rows = c.args.rows.now in
    let more = c.args.more.now in
    let r = c.args.range in
    let low : length rows ≤ r.start = c.requires.unbroken (omega (arith, c.if-range-behind.false)) in
    let s : length rows + (r.start - length rows) ≡ r.start = omega (arith, low) in
    let e : length rows + (r.end - length rows) ≡ r.end = omega (arith, c.if-range-behind.false) in
    sym (in-second rows more (length rows) (r.start - length rows) (r.end - length rows) refl)
    ∙ (λ i. take (e i - s i) (drop (s i) (rows ++ more)))
