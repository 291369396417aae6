use Rattle.std.proofs.Common.{rules, ◌∙◌, sym, w64}
use Rattle.std.specs.Prelude.{◌≤ℤ◌, ◌<ℤ◌}
use Rattle.std.proofs.lemmas.Int.{to_z-of_z}
use Rattle.gtfs_board.specs.LentKeys.{plain_key}
use Rattle.gtfs_board.specs.ShownCandidates.{candidate_key}
use Rattle.gtfs_board.proofs.Floors.{above_after, above_before, from_first}
use Rattle.gtfs_board.proofs.floor.floor_from.Goals as goal

pub returns-then-from-key-clause-value : goal.returns-then-from-key-clause-value
returns-then-from-key-clause-value c x known =
    let since : c.args.from ≤ℤ c.args.key.now.instant = search rules in
    c.floor_after.ensures.value x known ∙ sym (above_after c.args.from (plain_key c.args.key.now) (candidate_key c.args.feed.now x) since)

pub returns-else-from-key-clause-value : goal.returns-else-from-key-clause-value
returns-else-from-key-clause-value c x known =
    let before : c.args.key.now.instant <ℤ c.args.from = search rules in
    let value = rw (to_z-of_z w64 c.args.from c.ranges.from) at c.floor_before.ensures.value in
    value x known.day ∙ from_first c.args.from x.instant x.trip ∙ sym (above_before c.args.from (plain_key c.args.key.now) (candidate_key c.args.feed.now x) before)
