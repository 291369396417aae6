use Rattle.std.proofs.Common.{◌∙◌, sym, ap, w64}
use Rattle.std.specs.Prelude.{option_map}
use Rattle.std.proofs.lemmas.Int.{to_z-of_z}
use Rattle.gtfs_board.specs.Floors.{is_from}
use Rattle.gtfs_board.specs.LentKeys.{plain_key}
use Rattle.gtfs_board.specs.ShownCandidates.{candidate_key}
use Rattle.gtfs_board.proofs.Floors.{above_none, from_first}
use Rattle.gtfs_board.proofs.floor.floor_of.Goals as goal

pub returns-in-None-clause-value : goal.returns-in-None-clause-value
returns-in-None-clause-value c x known =
    let value = rw (to_z-of_z w64 c.args.from c.ranges.from) at c.floor_before.ensures.value in
    value x known.day ∙ from_first c.args.from x.instant x.trip ∙ sym (above_none c.args.from (candidate_key c.args.feed.now x))
    ∙ ap (λ a. is_from c.args.feed.now c.args.from (option_map (λ k. plain_key k.now) a) x) (sym c.in-None.is)
