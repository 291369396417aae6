-- What contracts see of a sheet whose texts are lent.
use Rattle.std.specs.Prelude.{map}
use Rattle.gtfs_board.specs.Timetable.{Sheet}
use Rattle.gtfs_board.specs.declared.sheet.Sheet.{Sheet as LentSheet}

abbrev pub plain_sheet : LentSheet → Sheet
plain_sheet s = record {
  route = s.route.now;
  direction = s.direction;
  day = s.day;
  stops = map (λ stop. stop.now) s.stops;
  runs = map (λ run. (run.0, run.1.now)) s.runs;
  times = s.times;
}
