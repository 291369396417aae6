use Rattle.std.proofs.Common.{◌≡◌, ◌∙◌, ◌+◌, ◌-◌, ◌*◌, ◌/◌, ◌<◌, length, get_or, Some, sym, ap, arith, unwrap_or}
use Rattle.std.proofs.lemmas.List.{get_or_default}
use Rattle.gtfs_stop_times.specs.RowTimes.{left_at, reached_at}
use Rattle.gtfs_times.proofs.FillValue.{fill-value}
use Rattle.gtfs_times.proofs.fill.filled_between.Goals as goal

pub returns : goal.returns
returns c = λ d.
    let rs = c.args.rows.now in
    let i = c.args.span.before in
    let k = c.args.at in
    let j = c.args.span.after in
    let low : i < k = c.requires.after in
    let high : k < j = c.requires.before in
    let far : j < length rs = c.requires.neighbours.within in
    let l : c.left.result ≡ unwrap_or (left_at (get_or rs i d)) 0 =
    c.left.ensures.value ∙ ap (λ r. unwrap_or (left_at r) 0) (c.index-rows-before.is ∙ get_or_default rs i c.index-rows-before.result d (omega arith)) in
    let r : c.reached.result ≡ unwrap_or (reached_at (get_or rs j d)) 0 =
    c.reached.ensures.value ∙ ap (λ r. unwrap_or (reached_at r) 0) (c.index-rows-after.is ∙ get_or_default rs j c.index-rows-after.result d far) in
    let time = c.new-time.ensures ∙ ap Some (c.from_seconds.ensures ∙ c.part_way-seconds.ensures.value ∙ (λ z. l z + ((r z - l z) * (k - i)) / (j - i))) in
    let row = c.index-rows-at.is ∙ get_or_default rs k c.index-rows-at.result d (omega arith) in
    (λ z. record (row z) { arrival_time = time z; departure_time = time z }) ∙ sym (fill-value rs i k j low high c.requires.neighbours d)
