-- A feed on one side of a service day: its services are trimmed, and all else stays.
-- The rule is this project's; services are the rows of calendar.txt and calendar_dates.txt (GTFS Schedule Reference).
use Rattle.std.specs.Prelude.{map, Option, Some, None, ℤ}
use Rattle.gtfs_days.specs.Cut.{trimmed_service}
use Rattle.gtfs_days.specs.declared.cut.Cut.{Cut}
use Rattle.gtfs_days.specs.declared.cut.Cut.TheVariants.{Before, From}
use Rattle.gtfs_rows.specs.Content.{Content}
use Rattle.gtfs_rows.specs.Rows.{ServiceRow}
use Rattle.gtfs_rows.specs.declared.parts.Parts.{Parts}
use Rattle.gtfs_rows.specs.declared.service.ServiceRow.{ServiceRow as ServiceByNumber}

-- a service with what stays of it in the part
abbrev pub trimmed_row : Cut → ServiceRow → ServiceRow
trimmed_row c row = record row { service = trimmed_service c row.service }

-- the feed in the part
abbrev pub trimmed : Cut → Content → Content
trimmed c f = record f { services = map (trimmed_row c) f.services }

-- the days of the first feed that a cutoff leaves to it: those before it, and all where there is none
abbrev pub first_part : Option ℤ → Content → Content
first_part None f = f
first_part (Some d) f = trimmed (Before d) f

-- the days of the second feed: those from the cutoff on, and all where there is none
abbrev pub second_part : Option ℤ → Content → Content
second_part None f = f
second_part (Some d) f = trimmed (From d) f

-- ---- the same of rows as parts hold them

abbrev pub trimmed_by_number : Cut → ServiceByNumber → ServiceByNumber
trimmed_by_number c row = record row { service = trimmed_service c row.service }

abbrev pub trimmed_parts : Cut → Parts → Parts
trimmed_parts c p = record p { services = map (trimmed_by_number c) p.services }
