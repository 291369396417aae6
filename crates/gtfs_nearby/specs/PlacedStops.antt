-- What near stops have in common, and where a stop is.
use Rattle.std.specs.Prelude.{◌≡◌, ◌≤◌, ℕ, ◌&&◌, Bool, false, pos, ◌+ℤ◌, ℤ, Option, Some, None, is_some, option_map}
use Rattle.std.specs.Option.{option_cmp}
use Rattle.std.specs.Ordering.{nat_cmp, ordering_then}
use Rattle.std.specs.declared.cmp.Ordering.{Ordering}
use Rattle.gtfs_field.specs.TextOrder.{text_cmp}
use Rattle.gtfs_rows.specs.RowChoices.{location_code}
use Rattle.gtfs_rows.specs.declared.stop.Stop.{Stop}
use Rattle.gtfs_nearby.specs.declared.placed_stop.PlacedStop.{PlacedStop}

-- the units from -180 degrees on of a coordinate
pub record AreUnits (z : ℤ) (m : ℕ) : Type 0 where
  pub value : pos m ≡ z +ℤ pos 180000000000
  pub bound : m ≤ 360000000000

-- those of a coordinate that is there
abbrev pub AreUnitsOf : Option ℤ → ℕ → Type 0
AreUnitsOf None m = ⊥
AreUnitsOf (Some z) m = AreUnits z m

-- a stop under a parent with its name, type and place
pub record IsPlacedStop (s : Stop) (under : Option ℕ) (p : PlacedStop) : Type 0 where
  pub name : s.stop_name ≡ Some p.name.now
  pub kind : p.kind ≡ location_code s.location_type
  pub parent : option_map (λ n. n.0) p.parent ≡ under
  pub lat : AreUnitsOf s.stop_lat p.lat
  pub lon : AreUnitsOf s.stop_lon p.lon

-- it has a name and both coordinates, as near stops have
abbrev pub can_be_near : Stop → Bool
can_be_near s = is_some s.stop_name && is_some s.stop_lat && is_some s.stop_lon

abbrev pub IsPlacedStopIfAny : Stop → Option ℕ → Option PlacedStop → Type 0
IsPlacedStopIfAny s parent None = can_be_near s ≡ false
IsPlacedStopIfAny s parent (Some p) = IsPlacedStop s parent p

-- by name, type and parent
abbrev pub group_cmp : PlacedStop → PlacedStop → Ordering
group_cmp p q = ordering_then (ordering_then (text_cmp p.name.now q.name.now) (nat_cmp p.kind q.kind))
    (option_cmp nat_cmp (option_map (λ n. n.0) p.parent) (option_map (λ n. n.0) q.parent))
