use Rattle.std.proofs.Common.{◌++◌, ◌∙◌, ap, lit<, string_bytes}
use Rattle.gtfs_board.specs.LentKeys.{listed}
use Rattle.gtfs_board.proofs.Joined.{line-joined}
use Rattle.gtfs_board.proofs.line.write_line.Goals as goal

pub returns : goal.returns
returns c =
    let stop = rw c.unwrap.ensures at c.push_str.ensures.bytes in
    let second = rw c.unwrap-2.ensures at c.push.ensures.bytes ∙ ap (λ k. string_bytes c.push_str.new.self ++ k) (c.push.ensures.ascii (lit< tt)) in
    let route = rw c.unwrap-3.ensures at c.push_str-2.ensures.bytes in
    let third = rw c.unwrap-4.ensures at c.push-2.ensures.bytes ∙ ap (λ k. string_bytes c.push_str-2.new.self ++ k) (c.push-2.ensures.ascii (lit< tt)) in
    let headsign = rw c.unwrap-5.ensures at c.push_str-3.ensures.bytes in
    let last = rw c.unwrap-6.ensures at c.push_str-4.ensures.bytes in
    line-joined _ _ _ _ _ _ _ _ _ _ c.args.civil (listed c.args.departure.now) c.ending.ensures.value
    c.write_key.ensures.appended c.push_clock.ensures.appended stop second route third headsign last
