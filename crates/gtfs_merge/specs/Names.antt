-- What ids became.
use Rattle.std.specs.Prelude.{◌≡◌, ℕ, ◌==◌, Bool, true, false, List, length, map, zip, bytes_eq, position, slice_get, Option, Some, None, option_and_then, is_some, String, string_bytes}
use Rattle.gtfs_merge.specs.FeedIds.{known_ids}
use Rattle.gtfs_merge.specs.NearStops.{near_pairs}
use Rattle.gtfs_merge.specs.Renaming.{Renaming, lists_id, joined_ids, renaming}
use Rattle.gtfs_merge.specs.MergedSides.{content_a, content_b, nearness_of, side_names}
use Rattle.gtfs_merge.specs.declared.kind.Kind.{Kind}
use Rattle.gtfs_merge.specs.declared.kind.Kind.TheVariants as kind
use Rattle.gtfs_merge.specs.declared.kind.Side.{Side}
use Rattle.gtfs_merge.specs.declared.kind.Side.TheVariants as side
use Rattle.gtfs_merge.specs.declared.sides.Sides.{Sides}

-- an agency may have an empty id
abbrev pub is_nameless : Kind → List ℕ → Bool
is_nameless kind.Agency x = length x == 0
is_nameless kind.Stop x = false
is_nameless kind.Route x = false
is_nameless kind.Service x = false
is_nameless kind.Trip x = false

-- what an id became: its new text, or itself where it stays
abbrev pub name_or : {A : Type 0} → List ℕ → Option (String A) → List ℕ
name_or id None = id
name_or id (Some name) = string_bytes name

-- what each of these ids became, where these are their other texts
abbrev pub names_or : {A : Type 0} → List (List ℕ) → List (Option (String A)) → List (List ℕ)
names_or ids names = map (λ p. name_or p.0 p.1) (zip ids names)

-- the ids of one kind of a feed, and what each became
pub record NewIds : Type 0 where
  pub ids : List (List ℕ)
  pub names : List (List ℕ)

abbrev pub new_ids : Renaming → List (List ℕ) → NewIds
new_ids rename ids = record { ids = ids; names = map rename ids }

-- what an id became, nothing where it is not there
abbrev pub new_id : NewIds → List ℕ → Option (List ℕ)
new_id n x = option_and_then (slice_get n.names) (position (bytes_eq x) n.ids)

-- no two ids became one
abbrev pub AreApart : NewIds → Type 0
AreApart n = (x y name : List ℕ) → new_id n x ≡ Some name → new_id n y ≡ Some name → x ≡ y

-- ---- both feeds

pub record NamesOfKind : Type 0 where
  pub a : NewIds
  pub b : NewIds
  pub joined : List (List ℕ)

pub record AllNames : Type 0 where
  pub agencies : NamesOfKind
  pub stops : NamesOfKind
  pub routes : NamesOfKind
  pub services : NamesOfKind
  pub trips : NamesOfKind
  -- the near stops of B, with those of A that they are near
  pub near : List (List ℕ × List ℕ)

abbrev pub in_kind : AllNames → Kind → NamesOfKind
in_kind n kind.Agency = n.agencies
in_kind n kind.Stop = n.stops
in_kind n kind.Route = n.routes
in_kind n kind.Service = n.services
in_kind n kind.Trip = n.trips

abbrev pub of_side : NamesOfKind → Side → NewIds
of_side n side.A = n.a
of_side n side.B = n.b

-- an id of A and an id of B became one name only where they are one id that is joined, which stays: a renamed id of B is no name of A
abbrev pub MeetWhereJoined : NamesOfKind → Type 0
MeetWhereJoined n = (x y name : List ℕ) → new_id n.a x ≡ Some name → new_id n.b y ≡ Some name → (x ≡ name) × (y ≡ name) × (lists_id n.joined name ≡ true)

abbrev pub kind_names : Kind → Sides → NamesOfKind
kind_names k sides = record {
  a = new_ids (renaming (side_names side.A sides) k) (known_ids k sides.a.now);
  b = new_ids (renaming (side_names side.B sides) k) (known_ids k sides.b.now);
  joined = joined_ids (nearness_of sides) k (content_a sides) (content_b sides);
}

-- with near stops two stops of B may become one, and a stop of B one that A has under another id
abbrev pub may_meet : Option ℕ → Kind → Side → Bool
may_meet near k side.A = false
may_meet near kind.Agency side.B = false
may_meet near kind.Stop side.B = is_some near
may_meet near kind.Route side.B = false
may_meet near kind.Service side.B = false
may_meet near kind.Trip side.B = false

-- the names of two feeds, of each kind
abbrev pub AreKindNames : Sides → AllNames → Type 0
AreKindNames sides n = (k : Kind) → in_kind n k ≡ kind_names k sides

-- the names of each kind, and the near stops
pub record ArePairedNames (sides : Sides) (n : AllNames) : Type 0 where
  pub kinds : AreKindNames sides n
  pub near : n.near ≡ near_pairs (nearness_of sides) (content_a sides) (content_b sides)
