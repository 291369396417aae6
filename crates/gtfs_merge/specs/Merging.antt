-- What a merge answers.
use Rattle.std.specs.Prelude.{◌≡◌, ⊤, ℕ, true, false, List, None, Option, ℤ, length}
use Rattle.std.specs.List.{All}
use Rattle.csv.specs.Records.{Rising}
use Rattle.gtfs_rows.specs.Content.{Content}
use Rattle.gtfs_rows.specs.TrimmedContent.{first_part, second_part}
use Rattle.gtfs_rows.specs.RowsInMemory.{IsSoundParts, content_of_parts}
use Rattle.gtfs_rows.specs.declared.parts.Parts.{Parts}
use Rattle.gtfs_stop_times.specs.JoinedStopTimes.{IsTripOf}
use Rattle.gtfs_merge.specs.Cutoff.{DepartsOn, is_first_day, is_second_day, merged_as}
use Rattle.gtfs_merge.specs.DeparturesOfBoth.{HasBoards, HasUnion}
use Rattle.gtfs_merge.specs.MergedDepartures.{SharesExactly}
use Rattle.gtfs_times.specs.declared.times.Times.{Times}
use Rattle.gtfs_merge.specs.MergedLists.{all_parts}
use Rattle.gtfs_merge.specs.Merged.{is_too_large, zone_texts_differ}
use Rattle.gtfs_merge.specs.Names.{AllNames, AreApart, MeetWhereJoined, in_kind, may_meet, new_id, of_side}
use Rattle.gtfs_merge.specs.NearStops.{near_pairs, nearness}
use Rattle.gtfs_merge.specs.Renaming.{ids, joined_ids, name_of_id, names_a, names_b}
use Rattle.gtfs_merge.specs.declared.kind.Kind.{Kind}
use Rattle.gtfs_merge.specs.declared.kind.Side.{Side}
use Rattle.gtfs_merge.specs.declared.kind.Side.TheVariants as side
use Rattle.gtfs_merge.specs.declared.rows.all_lists.MergedLists.{MergedLists}
use Rattle.gtfs_merge.specs.declared.merging.Merged.{Merged}
use Rattle.gtfs_merge.specs.declared.merging.fault.MergeFault.{MergeFault}
use Rattle.gtfs_merge.specs.declared.merging.fault.MergeFault.TheVariants as fault

-- the most bytes of a file where no other limit is given
abbrev pub default_file_limit : ℕ
default_file_limit = 1_073_741_824

-- the ids of both feeds by their bytes, as those of a content stand, what each became, the joined ids, and the near stops
pub record AreNamesOf (distance : Option ℕ) (first second : Content) (names : AllNames) : Type 0 where
  pub ids_a : (k : Kind) → (in_kind names k).a.ids ≡ ids k first
  pub ids_b : (k : Kind) → (in_kind names k).b.ids ≡ ids k second
  pub a : (k : Kind) (id : List ℕ) → new_id (in_kind names k).a id ≡ name_of_id (names_a first second) k first id
  pub b : (k : Kind) (id : List ℕ) → new_id (in_kind names k).b id ≡ name_of_id (names_b (nearness distance) first second) k second id
  pub apart : (k : Kind) (s : Side) → may_meet distance k s ≡ false → AreApart (of_side (in_kind names k) s)
  pub across : (k : Kind) → may_meet distance k side.B ≡ false → MeetWhereJoined (in_kind names k)
  pub joined : (k : Kind) → (in_kind names k).joined ≡ joined_ids (nearness distance) k first second
  pub near : names.near ≡ near_pairs (nearness distance) first second

-- the merged feed: both feeds have one zone, and no written file is longer than the limit
pub record IsMergeOf (near : Option ℕ) (cutoff : Option ℤ) (a b : Content) (limit : ℕ) (m : Merged) : Type 0 where
  pub zone : zone_texts_differ a b ≡ false
  pub small : is_too_large limit (merged_as near cutoff a b) ≡ false
  pub content : content_of_parts m.feed ≡ merged_as near cutoff a b
  pub names : AreNamesOf near (first_part cutoff a) (second_part cutoff b) m.names

-- why two feeds are not merged; zones are judged first
abbrev pub IsRefusal : Option ℕ → Option ℤ → Content → Content → ℕ → MergeFault → Type 0
IsRefusal near cutoff a b limit fault.ZoneDiffers = zone_texts_differ a b ≡ true
IsRefusal near cutoff a b limit fault.TooLarge = (zone_texts_differ a b ≡ false) × (is_too_large limit (merged_as near cutoff a b) ≡ true)
IsRefusal near cutoff a b limit fault.OutOfMemory = zone_texts_differ a b ≡ false

-- ---- what the parts of the work give

-- the rows of the merged feed, which make a feed, and what the ids of both feeds became
pub record AreRowsOfMerge (near : Option ℕ) (cutoff : Option ℤ) (a b : Content) (rows : Parts × AllNames) : Type 0 where
  pub sound : IsSoundParts rows.0
  pub content : content_of_parts rows.0 ≡ merged_as near cutoff a b
  pub names : AreNamesOf near (first_part cutoff a) (second_part cutoff b) rows.1

-- with the stop times of both feeds these lists are the rows of the merged feed
pub record AreListsOfPair (near : Option ℕ) (a b : Parts) (lists : MergedLists × AllNames) : Type 0 where
  pub first : Rising 0 a.stop_times.starts (length a.stop_times.rows)
  pub second : Rising 0 b.stop_times.starts (length b.stop_times.rows)
  pub trips : All (IsTripOf (length a.stop_times.starts) (length b.stop_times.starts)) lists.0.trips.items
  pub rows : AreRowsOfMerge near None (content_of_parts a) (content_of_parts b) (all_parts lists.0 a.stop_times b.stop_times, lists.1)

-- the feed of these rows, with these names, of which no written file is longer than the limit
pub record IsFeedOf (rows : Parts × AllNames) (limit : ℕ) (m : Merged) : Type 0 where
  pub small : is_too_large limit (content_of_parts rows.0) ≡ false
  pub feed : m.feed ≡ rows.0
  pub names : m.names ≡ rows.1

-- why it is not made
abbrev pub IsLimitFault : Content → ℕ → MergeFault → Type 0
IsLimitFault c limit fault.ZoneDiffers = ⊥
IsLimitFault c limit fault.TooLarge = is_too_large limit c ≡ true
IsLimitFault c limit fault.OutOfMemory = ⊤

-- what the merged content keeps, with times as given and with times filled: every departure of both feeds on the days that the cutoff
-- leaves to each, and every board
pub record KeepsDepartures (near : Option ℕ) (cutoff : Option ℤ) (a b : Content) : Type 0 where
  pub union : (times : Times) → HasUnion times (nearness near) (first_part cutoff a) (second_part cutoff b)
  pub shares : (times : Times) → SharesExactly times (nearness near) (first_part cutoff a) (second_part cutoff b)
  pub boards : (times : Times) → HasBoards times (nearness near) (first_part cutoff a) (second_part cutoff b)
  pub first_days : DepartsOn (is_first_day cutoff) a (first_part cutoff a)
  pub second_days : DepartsOn (is_second_day cutoff) b (second_part cutoff b)
