-- What `gtfs timetable` prints: the sheets that the words ask for.
use Rattle.std.specs.Prelude.{◌≡◌, ⊤, ℕ, true, false, List, Option}
use Rattle.std.specs.List.{flat_map}
use Rattle.gtfs_devices.specs.Folder.{Store}
use Rattle.gtfs_table.specs.Tables.{Dataset}
use Rattle.gtfs_schema.specs.Problems.{Passes}
use Rattle.gtfs_rows.specs.Content.{Content}
use Rattle.gtfs_rows.specs.ContentRead.{content_of}
use Rattle.gtfs_times.specs.Filling.{timed}
use Rattle.gtfs_board.specs.Timetable.{is_route, sheet_text, sheets}
use Rattle.gtfs_commands.specs.Words.{TimetableTexts}
use Rattle.gtfs_cli.specs.FilesInFolders.{HoldsTables}
use Rattle.gtfs_cli.specs.SentText.{AreFirst, Begins}
use Rattle.gtfs_cli.specs.TimetableOptions.{judged_timetable, IsTimetableRequest, TimetableRequest}
use Rattle.gtfs_cli.specs.RefusalOrder.{feed, followed_by, sending, values, Judged}
use Rattle.gtfs_cli.specs.CommandPlan.{passed, prints, Plan}
use Rattle.gtfs_cli.specs.declared.commands.refusal.Refusal.{Refusal}
use Rattle.gtfs_cli.specs.declared.commands.refusal.Refusal.TheVariants.{UnknownRoute, OutOfMemory}
use Rattle.gtfs_cli.specs.declared.commands.timetable.options.TimetableRequest.{TimetableRequest as LentRequest}

-- ---- the values of the options

-- the request that values are
abbrev pub timetable_request_of : LentRequest → TimetableRequest
timetable_request_of v = record { day = v.day; direction = v.direction; times = v.times }

-- ---- the text of a timetable

-- the texts of the sheets of a route, one after another, of the feed with the times that are asked for
abbrev pub timetable_text : Content → List ℕ → TimetableRequest → List ℕ
timetable_text f route r = flat_map sheet_text (sheets (timed r.times f) route r.direction r.day)

-- the first sheets of a route that the feed has, whole
abbrev pub AreFirstSheets : Content → List ℕ → TimetableRequest → List ℕ → Type 0
AreFirstSheets f route r text = (is_route f route ≡ true) × AreFirst sheet_text (sheets (timed r.times f) route r.direction r.day) text

-- ---- a folder

-- what a timetable is made of: the dataset that the folder holds and that passes, and the values of the options
pub record TimetableSetting (limit : ℕ) (held : Option Store) (asked : TimetableTexts) : Type 0 where
  pub dataset : Dataset
  pub request : TimetableRequest
  pub holds : HoldsTables limit held asked.dir dataset
  pub passes : Passes dataset
  pub is_request : IsTimetableRequest asked request

-- no route of the dataset has the id
abbrev pub LacksRoute : ℕ → Option Store → TimetableTexts → Type 0
LacksRoute limit held asked = (s : TimetableSetting limit held asked) × (is_route (content_of s.dataset) asked.route ≡ false)

-- the text of the timetable that the words ask for, of a route that the dataset has
pub record IsTimetableText (limit : ℕ) (held : Option Store) (asked : TimetableTexts) (text : List ℕ) : Type 0 where
  pub setting : TimetableSetting limit held asked
  pub known : is_route (content_of setting.dataset) asked.route ≡ true
  pub is_text : text ≡ timetable_text (content_of setting.dataset) asked.route setting.request

-- the first sheets of that timetable, whole
pub record IsTimetablePart (limit : ℕ) (held : Option Store) (asked : TimetableTexts) (text : List ℕ) : Type 0 where
  pub setting : TimetableSetting limit held asked
  pub are_first : AreFirstSheets (content_of setting.dataset) asked.route setting.request text

-- when a route is refused
abbrev pub IsRouteCause : ℕ → Option Store → TimetableTexts → Refusal → Type 0
IsRouteCause limit held asked UnknownRoute = LacksRoute limit held asked
IsRouteCause limit held asked _ = ⊥

abbrev pub route : ℕ → Option Store → TimetableTexts → Judged
route limit held asked = record { Refuses = λ before after. IsRouteCause limit held asked; Holds = ⊤ }

-- the values, the folder and the route are judged in this order
abbrev pub timetable_judges : ℕ → Option Store → TimetableTexts → Judged
timetable_judges limit held asked =
    followed_by (values (judged_timetable asked)) (followed_by (feed limit held asked.dir) (followed_by (route limit held asked) sending))

-- the timetable of a route on a date
abbrev pub timetable_plan : ℕ → Option Store → TimetableTexts → Plan
timetable_plan limit held asked = prints held (timetable_judges limit held asked) (passed (IsTimetableText limit held asked))
    (Begins (IsTimetableText limit held asked)) (IsTimetablePart limit held asked) 10

-- ---- what the parts of the work give

-- why there are no sheets of a feed; memory runs out only where the feed has the route
abbrev pub IsSheetsCause : Content → List ℕ → Refusal → Type 0
IsSheetsCause f route UnknownRoute = is_route f route ≡ false
IsSheetsCause f route OutOfMemory = is_route f route ≡ true
IsSheetsCause f route _ = ⊥

-- the text of the sheets of a route that the feed has
abbrev pub AreSheets : Content → List ℕ → TimetableRequest → List ℕ → Type 0
AreSheets f route r text = (is_route f route ≡ true) × (text ≡ timetable_text f route r)
