-- Areas between two latitudes and two longitudes.
use Rattle.std.specs.Prelude.{ℕ, ◌+◌, ◌-◌, ◌&&◌, Bool, nat_le, max, min}
use Rattle.gtfs_nearby.specs.declared.area.Area.{Area}
use Rattle.gtfs_nearby.specs.declared.placed_stop.PlacedStop.{PlacedStop}

-- all places up to so many units away
abbrev pub area_around : PlacedStop → ℕ → Area
area_around p reach = record { south = p.lat - reach; north = p.lat + reach; west = p.lon - reach; east = p.lon + reach }

abbrev pub area_of : PlacedStop → Area
area_of p = record { south = p.lat; north = p.lat; west = p.lon; east = p.lon }

-- the least area that has both
abbrev pub area_joined : Area → Area → Area
area_joined a b = record { south = min a.south b.south; north = max a.north b.north; west = min a.west b.west; east = max a.east b.east }

abbrev pub has : Area → PlacedStop → Bool
has a p = nat_le a.south p.lat && nat_le p.lat a.north && nat_le a.west p.lon && nat_le p.lon a.east

-- some place may be in both
abbrev pub meets : Area → Area → Bool
meets a b = nat_le a.south b.north && nat_le b.south a.north && nat_le a.west b.east && nat_le b.west a.east

-- each place of the second is in the first
abbrev pub covers : Area → Area → Bool
covers a b = nat_le a.south b.south && nat_le b.north a.north && nat_le a.west b.west && nat_le b.east a.east
