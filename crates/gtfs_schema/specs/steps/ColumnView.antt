-- The columns of the code, as columns of the definitions.
use Rattle.gtfs_schema.specs.declared.columns.Column.{Column as CodeColumn}
use Rattle.gtfs_schema.specs.declared.columns.Empty.{Empty as CodeEmpty}
use Rattle.gtfs_schema.specs.declared.columns.Empty.TheVariants as when_empty
use Rattle.gtfs_schema.specs.declared.columns.Kind.{Kind as CodeKind}
use Rattle.gtfs_schema.specs.declared.columns.Kind.TheVariants as kinds
use Rattle.gtfs_schema.specs.Columns.{Kind, id, text, count, choice, time, date, colour, coordinate, Empty, refused, nothing, means, Column}

abbrev pub kind_of : CodeKind → Kind
kind_of kinds.Id = id
kind_of kinds.Text = text
kind_of kinds.Count = count
kind_of (kinds.Choice ranges) = choice ranges.now
kind_of kinds.Time = time
kind_of kinds.Date = date
kind_of kinds.Colour = colour
kind_of (kinds.Coordinate axis) = coordinate axis

abbrev pub empty_of : CodeEmpty → Empty
empty_of when_empty.Refused = refused
empty_of when_empty.Nothing = nothing
empty_of (when_empty.Means t) = means t.now

abbrev pub column_of : CodeColumn → Column
column_of c = record { name = c.name.now; kind = kind_of c.kind; empty = empty_of c.empty }
