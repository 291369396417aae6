-- Areas: what no place of an area that is missed, and each place of one that is covered, tells.
use Rattle.std.proofs.Common.{◌≡◌, ◌≤◌, Bool, true, false, sym, arith, nat_le, true≢false}
use Rattle.std.specs.Prelude.{◌&&◌}
use Rattle.std.proofs.lemmas.Bool.{and_parts, leb-true, le-leb}
use Rattle.gtfs_nearby.specs.MapAreas.{area_joined, area_of, covers, has}
use Rattle.gtfs_nearby.specs.declared.area.Area.{Area}
use Rattle.gtfs_nearby.specs.declared.placed_stop.PlacedStop.{PlacedStop}

-- the bounds of an area, and the place between them
record IsInside (a : Area) (p : PlacedStop) : Type 0 where
  south : a.south ≤ p.lat
  north : p.lat ≤ a.north
  west : a.west ≤ p.lon
  east : p.lon ≤ a.east

inside : (a : Area) (p : PlacedStop) → has a p ≡ true → IsInside a p
inside a p e =
    let x = and_parts _ (nat_le p.lon a.east) e in
    let y = and_parts _ (nat_le a.west p.lon) x.0 in
    let z = and_parts (nat_le a.south p.lat) (nat_le p.lat a.north) y.0 in
    record { south = leb-true _ _ z.0; north = leb-true _ _ z.1; west = leb-true _ _ y.1; east = leb-true _ _ x.1 }

both-so : (a b : Bool) → a ≡ true → b ≡ true → (a && b) ≡ true
both-so true b e f = f
both-so false b e f = absurd (true≢false (sym e))

has-inside : (a : Area) (p : PlacedStop) → IsInside a p → has a p ≡ true
has-inside a p i = both-so _ _ (both-so _ _ (both-so _ _ (le-leb _ _ i.south) (le-leb _ _ i.north)) (le-leb _ _ i.west)) (le-leb _ _ i.east)

pub covered : (a b : Area) (p : PlacedStop) → covers a b ≡ true → has b p ≡ true → has a p ≡ true
covered a b p e f =
    let x = and_parts _ (nat_le b.east a.east) e in
    let y = and_parts _ (nat_le a.west b.west) x.0 in
    let z = and_parts (nat_le a.south b.south) (nat_le b.north a.north) y.0 in
    let j = inside b p f in
    has-inside a p (record {
      south = omega (arith, leb-true a.south b.south z.0, j.south);
      north = omega (arith, leb-true b.north a.north z.1, j.north);
      west = omega (arith, leb-true a.west b.west y.1, j.west);
      east = omega (arith, leb-true b.east a.east x.1, j.east);
    })

pub joined-has_first : (a b : Area) (p : PlacedStop) → has a p ≡ true → has (area_joined a b) p ≡ true
joined-has_first a b p e =
    let i = inside a p e in
    has-inside (area_joined a b) p (record { south = omega (arith, i.south); north = omega (arith, i.north); west = omega (arith, i.west); east = omega (arith, i.east) })

pub joined-has_second : (a b : Area) (p : PlacedStop) → has b p ≡ true → has (area_joined a b) p ≡ true
joined-has_second a b p e =
    let i = inside b p e in
    has-inside (area_joined a b) p (record { south = omega (arith, i.south); north = omega (arith, i.north); west = omega (arith, i.west); east = omega (arith, i.east) })

pub area_of-has : (p : PlacedStop) → has (area_of p) p ≡ true
area_of-has p = has-inside (area_of p) p (record { south = omega arith; north = omega arith; west = omega arith; east = omega arith })
