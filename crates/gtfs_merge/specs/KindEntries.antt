-- The merged rows of each kind with the new numbers of both sides.
use Rattle.std.specs.Prelude.{List}
use Rattle.gtfs_merge.specs.MergeEntries.{Entry}
use Rattle.gtfs_merge.specs.EntryRows.{AreMergedRows}
use Rattle.gtfs_merge.specs.NewNumbers.{AreRenumbered, NewNumbers}
use Rattle.gtfs_merge.specs.declared.kind.Kind.{Kind}
use Rattle.gtfs_merge.specs.declared.kind.Kind.TheVariants as kind
use Rattle.gtfs_merge.specs.declared.sides.Sides.{Sides}

pub record KindEntries : Type 0 where
  pub rows : List Entry
  pub numbers : NewNumbers

pub record AreKindRows (k : Kind) (sides : Sides) (r : KindEntries) : Type 0 where
  pub rows : AreMergedRows k sides r.rows
  pub numbers : AreRenumbered k sides r.numbers

pub record AllEntries : Type 0 where
  pub agencies : KindEntries
  pub stops : KindEntries
  pub routes : KindEntries
  pub services : KindEntries
  pub trips : KindEntries

abbrev pub entries_in : AllEntries → Kind → KindEntries
entries_in m kind.Agency = m.agencies
entries_in m kind.Stop = m.stops
entries_in m kind.Route = m.routes
entries_in m kind.Service = m.services
entries_in m kind.Trip = m.trips

abbrev pub AreMergedKinds : Sides → AllEntries → Type 0
AreMergedKinds sides m = (k : Kind) → AreKindRows k sides (entries_in m k)
