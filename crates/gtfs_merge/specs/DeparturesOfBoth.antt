-- The departures of a merged feed: those of both feeds, each trip under its new name. Times may be those that are given, or
-- filled; the merged feed is filled after it is merged.
use Rattle.std.specs.Prelude.{◌≡◌, ◌↔◌, ◌⊎◌, ℕ, ◌&&◌, true, List, Option, ℤ}
use Rattle.gtfs_rows.specs.Content.{Content}
use Rattle.gtfs_rows.specs.Departures.{Origins, is_departure, departs_at, is_listed, is_above, is_within}
use Rattle.gtfs_rows.specs.Key.{Key}
use Rattle.gtfs_times.specs.Filling.{timed}
use Rattle.gtfs_times.specs.declared.times.Times.{Times}
use Rattle.gtfs_merge.specs.declared.kind.Kind.{Kind}
use Rattle.gtfs_merge.specs.declared.kind.Kind.TheVariants as kind
use Rattle.gtfs_merge.specs.Merged.{merged}
use Rattle.gtfs_merge.specs.Renaming.{Renaming, Nearness, Names, names_a, names_b, lists_id, ids, renaming, joined_trip}

abbrev pub key_with : Renaming → Key → Key
key_with rename k = record k { trip = rename k.trip }

-- a departure of the feed, its trip renamed
abbrev pub IsImage : Content → Origins → Names → Key → Type 0
IsImage f origin n k = (k0 : Key) × (is_departure f origin k0 ≡ true) × (k ≡ key_with n.trip k0)

-- the departures of the merged feed are those of both feeds, renamed
abbrev pub HasUnion : Times → Nearness → Content → Content → Type 0
HasUnion times near a b = (origin : Origins) (k : Key)
    → (is_departure (timed times (merged near a b)) origin k ≡ true → (IsImage (timed times a) origin (names_a a b) k ⊎ IsImage (timed times b) origin (names_b near a b) k))
    × (IsImage (timed times a) origin (names_a a b) k → is_departure (timed times (merged near a b)) origin k ≡ true)
    × (IsImage (timed times b) origin (names_b near a b) k → is_departure (timed times (merged near a b)) origin k ≡ true)

-- a departure of A is one of B, too, exactly where its trip is joined
abbrev pub SharesJoined : Times → Nearness → Content → Content → Type 0
SharesJoined times near a b = (origin : Origins) (k : Key) → IsImage (timed times a) origin (names_a a b) k
    → (IsImage (timed times b) origin (names_b near a b) k ↔ (joined_trip near a b k.trip ≡ true))

-- a departure at the place of a stop of the feed that became this stop, its trip renamed
abbrev pub IsImageAt : Content → Origins → Names → List ℕ → Key → Type 0
IsImageAt f origin n s k = (s0 : List ℕ) × (lists_id (ids kind.Stop f) s0 ≡ true) × (n.stop s0 ≡ s)
    × (k0 : Key) × (departs_at f origin s0 k0 ≡ true) × (k ≡ key_with n.trip k0)

-- the board of a stop of the merged feed lists what both feeds list of the stops that became it
abbrev pub HasBoards : Times → Nearness → Content → Content → Type 0
HasBoards times near a b = (origin : Origins) (s : List ℕ) (from until : ℤ) (after : Option Key) (k : Key)
    → lists_id (ids kind.Stop (merged near a b)) s ≡ true
    → (is_listed (timed times (merged near a b)) origin s from until after k ≡ true)
    ↔ ((IsImageAt (timed times a) origin (names_a a b) s k ⊎ IsImageAt (timed times b) origin (names_b near a b) s k)
    × ((is_within from until k.instant && is_above after k) ≡ true))

-- two ids of a kind that a feed has become two ids
abbrev pub StaysApart : Kind → Content → Names → Type 0
StaysApart c f n = (x y : List ℕ) → lists_id (ids c f) x ≡ true → lists_id (ids c f) y ≡ true
    → renaming n c x ≡ renaming n c y → x ≡ y
