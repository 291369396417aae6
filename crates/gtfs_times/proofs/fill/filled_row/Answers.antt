use Rattle.std.proofs.Common.{◌≡◌, ◌∙◌, ◌+◌, false, get_or, is_some, sym, ap, subst}
use Rattle.std.proofs.lemmas.List.{get_or_default}
use Rattle.gtfs_stop_times.specs.RowTimes.{left_at}
use Rattle.gtfs_times.specs.Spans.{IsSpanAt}
use Rattle.gtfs_times.proofs.FillValue.{open-value}
use Rattle.gtfs_times.proofs.fill.filled_row.Goals as goal

pub returns-in-None : goal.returns-in-None
returns-in-None c = λ d.
    let rs = c.args.rows.now in
    let k = c.args.at in
    let row = c.index-rows-at.is ∙ get_or_default rs k c.index-rows-at.result d c.requires.within in
    let untimed : is_some (left_at (get_or rs k d)) ≡ false = ap (λ r. is_some (left_at r)) (sym row) ∙ sym c.is_timed.ensures ∙ c.if-is_timed.false in
    row ∙ open-value rs k c.requires.within (subst (λ s. IsSpanAt rs s (k + 1)) c.in-None.is c.requires.span) d untimed
