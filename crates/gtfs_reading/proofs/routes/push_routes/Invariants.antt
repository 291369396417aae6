use Rattle.std.proofs.Common.{◌≡◌, codes, length, map, take, true}
use Rattle.std.specs.List.{list_all}
use Rattle.gtfs_table.specs.declared.file.File.TheVariants as file
use Rattle.gtfs_schema.specs.steps.Ids.{first_rows, rows_by_number}
use Rattle.gtfs_rows.specs.ContentRead.{route_in}
use Rattle.gtfs_reading.specs.NamedTexts.{ids_of}
use Rattle.gtfs_rows.specs.NamedRows.{names_agency, route_named}
use Rattle.gtfs_reading.proofs.routes.push_routes.Given as goal

-- the rows so far
abbrev pub invariant-loop-number : goal.invariant-loop-number
invariant-loop-number l = record {
  listed : map (route_named (ids_of l.tables file.Agency "agency_id")) l.routes.items ≡ map (route_in l.tables) (take l.number (rows_by_number l.ids));
  within : list_all (names_agency (ids_of l.tables file.Agency "agency_id")) l.routes.items ≡ true;
  end : l.number-end ≡ length (rows_by_number l.ids);
  finder : l.agencies.ids.now ≡ first_rows l.tables file.Agency (codes "agency_id");
}
