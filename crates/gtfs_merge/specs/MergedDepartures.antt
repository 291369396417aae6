-- The law of a merge.
use Rattle.std.specs.Prelude.{◌≡◌, ◌↔◌, ◌+◌, ◌<◌, ◌^◌, true, false, length, option_map}
use Rattle.gtfs_merge.specs.declared.kind.Kind.{Kind}
use Rattle.gtfs_rows.specs.Rows.{Stop}
use Rattle.gtfs_rows.specs.Content.{Content}
use Rattle.gtfs_rows.specs.Key.{Key}
use Rattle.gtfs_times.specs.Filling.{timed}
use Rattle.gtfs_times.specs.declared.times.Times.{Times}
use Rattle.gtfs_rows.specs.Departures.{Origins, is_departure}
use Rattle.gtfs_rows.specs.SoundContent.{IsSound}
use Rattle.gtfs_merge.specs.Renaming.{Renaming, Nearness, names_a, names_b, ids, joined_trip}
use Rattle.gtfs_merge.specs.DeparturesOfBoth.{IsImage}
use Rattle.gtfs_merge.specs.Merged.{merged, zone_texts_differ}

-- fewer ids of a kind than the text of a number can tell apart; each feed in memory has fewer than 2 ^ 63
abbrev pub AreFew : Kind → Content → Content → Type 0
AreFew k a b = length (ids k a) + length (ids k b) + 2 < 10 ^ 64

-- what a test of nearness reads of names, and what it tells
pub record IsNearness (near : Nearness) : Type 0 where
  pub reads_parent : (r s : Renaming) (y x : Stop) → option_map r y.parent_station ≡ option_map s y.parent_station → near r y x ≡ near s y x
  pub alike : (r : Renaming) (y x : Stop) → near r y x ≡ true → (x.location_type ≡ y.location_type) × (x.parent_station ≡ option_map r y.parent_station)

-- a departure of the merged feed is one of both feeds exactly where its trip is joined
abbrev pub SharesExactly : Times → Nearness → Content → Content → Type 0
SharesExactly times near a b = (origin : Origins) (k : Key) → is_departure (timed times (merged near a b)) origin k ≡ true
    → ((IsImage (timed times a) origin (names_a a b) k × IsImage (timed times b) origin (names_b near a b) k) ↔ (joined_trip near a b k.trip ≡ true))

-- what holds of each merge of two sound feeds
abbrev pub ForSound : (Nearness → Content → Content → Type 0) → Type 0
ForSound Law = (near : Nearness) (a b : Content) → IsNearness near → IsSound a → IsSound b → ((c : Kind) → AreFew c a b) → Law near a b

abbrev pub IsSoundMerged : Nearness → Content → Content → Type 0
IsSoundMerged near a b = zone_texts_differ a b ≡ false → IsSound (merged near a b)
