-- The row of A that stands for a row of B in the merged feed, its twin: the row that it is joined with, or the stop that it is near.
use Rattle.std.specs.Prelude.{ℕ, Bool, false, if◌then◌else◌, List, [], ◌∷◌, bytes_eq, map, position, slice_index_or, Option, Some, None, option_and_then, option_map, is_some}
use Rattle.gtfs_rows.specs.RowsInMemory.{stop_ids, text_of_number}
use Rattle.gtfs_rows.specs.declared.stop.Stop.{Stop}
use Rattle.gtfs_nearby.specs.NearRows.{NearStops}
use Rattle.gtfs_merge.specs.FeedIds.{known_ids}
use Rattle.gtfs_merge.specs.Renaming.{Renaming, renaming}
use Rattle.gtfs_merge.specs.MergedSides.{side_names, is_joined_id}
use Rattle.gtfs_merge.specs.declared.kind.Kind.{Kind}
use Rattle.gtfs_merge.specs.declared.kind.Kind.TheVariants as kind
use Rattle.gtfs_merge.specs.declared.kind.Side.TheVariants as side
use Rattle.gtfs_merge.specs.declared.sides.Sides.{Sides}

-- the number in A of what an id of B became under new names, if A has that id
abbrev pub became : List (List ℕ) → Renaming → List ℕ → Option ℕ
became ids rename x = position (bytes_eq (rename x)) ids

-- the number of the twin of a row of B, if it has one
abbrev pub twin_number : Kind → Sides → List ℕ → Option ℕ
twin_number k sides x = became (known_ids k sides.a.now) (renaming (side_names side.B sides) k) x

-- the same for each row of B
abbrev pub twin_numbers : Kind → Sides → List (Option ℕ)
twin_numbers k sides = map (twin_number k sides) (known_ids k sides.b.now)

-- ---- stops

-- the same for the parent of a stop of B
abbrev pub parent_became : Sides → Renaming → Stop → Option ℕ
parent_became sides rename y = option_and_then (λ n. became (stop_ids sides.a.now) rename (text_of_number (stop_ids sides.b.now) n.0)) y.parent_station

-- the stops of A among which near ones are looked for, if any are near
abbrev pub near_stops : Sides → Option NearStops
near_stops sides = option_map (λ n. record { stops = sides.a.now.stops; near = n }) sides.near

-- ---- all kinds

-- the twins of all rows of B, and which of its stops are joined
pub record TwinRows : Type 0 where
  pub agencies : List (Option ℕ)
  pub stops : List (Option ℕ)
  pub routes : List (Option ℕ)
  pub services : List (Option ℕ)
  pub trips : List (Option ℕ)
  pub joined_stops : List Bool

abbrev pub joined_flags : Sides → List Bool
joined_flags sides = map (is_joined_id kind.Stop sides) (stop_ids sides.b.now)

abbrev pub twin_rows : Sides → TwinRows
twin_rows sides = record {
  agencies = twin_numbers kind.Agency sides;
  stops = twin_numbers kind.Stop sides;
  routes = twin_numbers kind.Route sides;
  services = twin_numbers kind.Service sides;
  trips = twin_numbers kind.Trip sides;
  joined_stops = joined_flags sides;
}

abbrev pub of_kind : TwinRows → Kind → List (Option ℕ)
of_kind t kind.Agency = t.agencies
of_kind t kind.Stop = t.stops
of_kind t kind.Route = t.routes
of_kind t kind.Service = t.services
of_kind t kind.Trip = t.trips

-- the row of B of this number is joined: it has a twin, which is no near stop
abbrev pub is_joined_at : TwinRows → Kind → ℕ → Bool
is_joined_at t kind.Agency n = is_some (slice_index_or t.agencies n None)
is_joined_at t kind.Stop n = slice_index_or t.joined_stops n false
is_joined_at t kind.Route n = is_some (slice_index_or t.routes n None)
is_joined_at t kind.Service n = is_some (slice_index_or t.services n None)
is_joined_at t kind.Trip n = is_some (slice_index_or t.trips n None)

-- the stop of A that the stop of B of this number is near
abbrev pub near_at : TwinRows → ℕ → Option ℕ
near_at t n = if slice_index_or t.joined_stops n false then None else slice_index_or t.stops n None

-- the ids of the stop of B of this number and of the one of A that it is near
abbrev pub pairs_at : Sides → Option ℕ → ℕ → List (List ℕ × List ℕ)
pairs_at sides None n = []
pairs_at sides (Some m) n = (text_of_number (stop_ids sides.b.now) n, text_of_number (stop_ids sides.a.now) m) ∷ []
