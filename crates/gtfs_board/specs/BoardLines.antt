-- The lines of a board.
use Rattle.std.specs.Prelude.{◌≡◌, ℕ, ◌+◌, ◌/◌, ◌%◌, ◌==◌, if◌then◌else◌, List, [], ◌++◌, length, unsigned_abs, int_lt, codes, ℤ, pos}
use Rattle.gtfs_field.specs.Digits.{wide}
use Rattle.gtfs_days.specs.Zone.{IsCivil}
use Rattle.gtfs_days.specs.declared.civil.Civil.{Civil}
use Rattle.gtfs_days.specs.declared.zone.Zone.{Zone}
use Rattle.gtfs_board.specs.declared.departure.Mark.{Mark}
use Rattle.gtfs_board.specs.declared.departure.Mark.TheVariants as mark
use Rattle.gtfs_rows.specs.Key.{Key}
use Rattle.gtfs_board.specs.KeyTexts.{key_text}

-- what a line shows of a departure: its key, the stop's id, the route's name, the headsign and the mark
pub record Listed : Type 0 where
  pub key : Key
  pub stop : List ℕ
  pub route : List ℕ
  pub headsign : List ℕ
  pub mark : Mark

-- how many bytes of a departure's line are texts of the feed
abbrev pub texts_len : Listed → ℕ
texts_len d = length d.key.trip + length d.stop + length d.route + length d.headsign

-- ---- the local clock

-- four digits, after `-` where the year is below 0
abbrev pub year_text : ℤ → List ℕ
year_text y = (if int_lt y (pos 0) then codes "-" else []) ++ wide 4 (unsigned_abs y)

-- how far the clock is ahead of UTC: +HH:MM, or -HH:MM where it is behind, and :SS where there are seconds
abbrev pub offset_text : ℤ → List ℕ
offset_text o =
    let n = unsigned_abs o in
    (if int_lt o (pos 0) then codes "-" else codes "+") ++ wide 2 (n / 3600) ++ codes ":" ++ wide 2 (n / 60 % 60)
    ++ (if n % 60 == 0 then [] else codes ":" ++ wide 2 (n % 60))

-- YYYY-MM-DD HH:MM:SS and the offset
abbrev pub clock_text : Civil → List ℕ
clock_text c = year_text c.year ++ codes "-" ++ wide 2 c.month ++ codes "-" ++ wide 2 c.day ++ codes " "
    ++ wide 2 c.hour ++ codes ":" ++ wide 2 c.minute ++ codes ":" ++ wide 2 c.second ++ offset_text c.offset

-- ---- the line

abbrev pub mark_text : Mark → List ℕ
mark_text mark.Scheduled = codes "s"
mark_text mark.Frequency = codes "f"
mark_text mark.ScheduledFilled = codes "si"
mark_text mark.FrequencyFilled = codes "fi"

-- key, clock, stop, route, headsign and mark, one tab between two of them, and a line feed
abbrev pub line_text : Civil → Listed → List ℕ
line_text c d = key_text d.key ++ codes "\t" ++ clock_text c ++ codes "\t" ++ d.stop ++ codes "\t" ++ d.route
    ++ codes "\t" ++ d.headsign ++ codes "\t" ++ mark_text d.mark ++ codes "\n"

-- the text is the departure's line: with what the zone's clock shows at its instant
abbrev pub IsLine : Zone → Listed → List ℕ → Type 0
IsLine z d text = (c : Civil) × IsCivil z d.key.instant c × (text ≡ line_text c d)

-- the text grew by the departure's line
abbrev pub AppendsLine : Zone → Listed → List ℕ → List ℕ → Type 0
AppendsLine z d old new = (line : List ℕ) × IsLine z d line × (new ≡ old ++ line)
