use Rattle.gtfs_merge.proofs.law.merges_keep_departures.Goals as goal
use Rattle.gtfs_merge.proofs.MergeLaws.{merge-union, merge-shares-exactly, merge-boards}
use Rattle.gtfs_merge.proofs.MergedSound.{merged-sound}
use Rattle.gtfs_merge.proofs.Stops.{is-nearness}

pub returns-clause-union : goal.returns-clause-union
returns-clause-union c times near a b nearness sound_a sound_b few = merge-union times near nearness a b sound_a sound_b few

pub returns-clause-shares : goal.returns-clause-shares
returns-clause-shares c times near a b nearness sound_a sound_b few = merge-shares-exactly times near nearness a b sound_a sound_b few

pub returns-clause-boards : goal.returns-clause-boards
returns-clause-boards c times near a b nearness sound_a sound_b few = merge-boards times near nearness a b sound_a sound_b few

pub returns-clause-sound : goal.returns-clause-sound
returns-clause-sound c near a b nearness sound_a sound_b few = merged-sound near nearness a b sound_a sound_b few

pub returns-clause-nearness : goal.returns-clause-nearness
returns-clause-nearness c near = is-nearness near
