-- Questions as the code has them, with lent texts.
use Rattle.std.specs.Prelude.{◌≡◌, option_map}
use Rattle.gtfs_times.specs.declared.times.Times.{Times}
use Rattle.gtfs_cli.specs.LentBoardRequests.{stop_request_of}
use Rattle.gtfs_cli.specs.ServeQuestions.{Question, RouteRequest, RouteTexts}
use Rattle.gtfs_cli.specs.ServeQuestions as questions
use Rattle.gtfs_cli.specs.BoardOptions.{IsSound}
use Rattle.gtfs_cli.specs.TimetableCommand.{timetable_request_of}
use Rattle.gtfs_cli.specs.declared.commands.serve.questions.Question.{Question as LentQuestion}
use Rattle.gtfs_cli.specs.declared.commands.serve.questions.Question.TheVariants.{Board, Timetable}
use Rattle.gtfs_cli.specs.declared.commands.serve.questions.RouteRequest.{RouteRequest as LentRequest}
use Rattle.gtfs_cli.specs.declared.commands.serve.questions.RouteTexts.{RouteTexts as LentTexts}

abbrev pub route_texts_of : LentTexts → RouteTexts
route_texts_of t = record { route = t.route.now; date = t.date.now; direction = option_map (λ x. x.now) t.direction }

abbrev pub route_request_of : LentRequest → RouteRequest
route_request_of r = record { route = r.route.now; values = timetable_request_of r.values }

abbrev pub question_of : LentQuestion → Question
question_of (Board q) = questions.Board (stop_request_of q)
question_of (Timetable r) = questions.Timetable (route_request_of r)

-- its times are these, and its instants and service days are such that a board can have them
abbrev pub IsSoundQuestion : Times → LentQuestion → Type 0
IsSoundQuestion times (Board q) = (q.values.times ≡ times) × IsSound q.values.from × IsSound q.values.until
IsSoundQuestion times (Timetable r) = r.values.times ≡ times
