use Rattle.std.proofs.Common.{◌≡◌, codes, length, map, take, true}
use Rattle.std.specs.List.{list_all}
use Rattle.gtfs_table.specs.declared.file.File.TheVariants as file
use Rattle.gtfs_schema.specs.steps.Ids.{first_rows, rows_by_number}
use Rattle.gtfs_rows.specs.ContentRead.{stop_in}
use Rattle.gtfs_reading.specs.NamedTexts.{ids_of}
use Rattle.gtfs_rows.specs.NamedRows.{names_parent, stop_named}
use Rattle.gtfs_reading.proofs.stops.push_stops.Given as goal

-- the rows so far
abbrev pub invariant-loop-number : goal.invariant-loop-number
invariant-loop-number l = record {
  listed : map (stop_named (ids_of l.tables file.Stops "stop_id")) l.stops.items ≡ map (stop_in l.tables) (take l.number (rows_by_number l.ids));
  within : list_all (names_parent (ids_of l.tables file.Stops "stop_id")) l.stops.items ≡ true;
  end : l.number-end ≡ length (rows_by_number l.ids);
  finder : l.finder.ids.now ≡ first_rows l.tables file.Stops (codes "stop_id");
}
