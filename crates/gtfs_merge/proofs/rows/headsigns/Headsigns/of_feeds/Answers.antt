use Rattle.std.proofs.Common.{◌∙◌, ap}
use Rattle.gtfs_merge.proofs.HeadsignNumbers.{both-sides}
use Rattle.gtfs_merge.proofs.rows.headsigns.Headsigns.of_feeds.Goals as goal

pub returns : goal.returns
returns c =
    both-sides c.args.sides.now c.numbers.new.self c.numbers-2.new.self c.in_ok-texts.texts c.as_slice.result.now c.as_slice-2.result.now c.in_ok-of_a.of_a.items c.in_ok-of_b.of_b.items
    (c.as_slice.ensures ∙ ap (λ p. p.headsigns) c.parts.ensures.value) (c.as_slice-2.ensures ∙ ap (λ p. p.headsigns) c.parts-2.ensures.value)
    c.in_ok-of_a.ensures.numbers c.in_ok-of_b.ensures.kept c.in_ok-of_b.ensures.numbers c.in_ok-texts.ensures.texts c.in_ok-texts.ensures.distinct
