-- What a request of `gtfs serve` asks for. Its first field is the word of a command. Behind it stand the fields of a line of `gtfs boards`, or the
-- route, the date and perhaps the direction of a timetable; an empty direction is none.
use Rattle.std.specs.Prelude.{◌≡◌, ◌⊎◌, ◌++◌, ℕ, codes, IsUtf8, List, [], ◌∷◌, Option, Some, None, option_map}
use Rattle.std.specs.Option.{option_and_then}
use Rattle.std.specs.Result.{result_ok}
use Rattle.gtfs_field.specs.Kinds.{date_of}
use Rattle.gtfs_times.specs.declared.times.Times.{Times}
use Rattle.gtfs_cli.specs.BoardsRequests.{fields_of, stop_request, text_if_any, StopRequest}
use Rattle.gtfs_cli.specs.TimetableOptions.{direction_of, TimetableRequest}

-- ---- a timetable

-- the texts of a timetable, as they stand in its line
pub record RouteTexts : Type 0 where
  pub route : List ℕ
  pub date : List ℕ
  pub direction : Option (List ℕ)

-- those of two or three fields
abbrev pub route_texts_in : List (List ℕ) → Option RouteTexts
route_texts_in [] = None
route_texts_in (route ∷ []) = None
route_texts_in (route ∷ date ∷ []) = Some (record { route = route; date = date; direction = None })
route_texts_in (route ∷ date ∷ direction ∷ []) = Some (record { route = route; date = date; direction = text_if_any direction })
route_texts_in (route ∷ date ∷ direction ∷ more ∷ rest) = None

abbrev pub route_texts : List ℕ → Option RouteTexts
route_texts line = route_texts_in (fields_of line)

-- their values, which are those of the options of `gtfs timetable`
abbrev pub route_values : Times → RouteTexts → Option TimetableRequest
route_values times t = option_and_then (λ day. option_map (λ direction. record { day = day; direction = direction; times = times })
    (direction_of t.direction)) (result_ok (date_of t.date))

-- the timetable of a route that is asked for
pub record RouteRequest : Type 0 where
  pub route : List ℕ
  pub values : TimetableRequest

-- what fields ask for, where there are as many as wanted and none has a bad value
abbrev pub route_request : Times → List ℕ → Option RouteRequest
route_request times line = option_and_then (λ t. option_map (λ v. record { route = t.route; values = v }) (route_values times t)) (route_texts line)

-- ---- a line

-- a board or a timetable
pub data Question : Type 0 where
  Board : StopRequest → Question
  Timetable : RouteRequest → Question

-- the line is the word of the command, a tab and the fields of what it asks for
abbrev pub AsksFor : Times → List ℕ → Question → Type 0
AsksFor times line (Board q) = (fields : List ℕ) × (line ≡ codes "board" ++ 9 ∷ fields) × (stop_request times fields ≡ Some q)
AsksFor times line (Timetable r) = (fields : List ℕ) × (line ≡ codes "timetable" ++ 9 ∷ fields) × (route_request times fields ≡ Some r)

-- it is not UTF-8, or asks for neither
abbrev pub AsksForNothing : Times → List ℕ → Type 0
AsksForNothing times line = (IsUtf8 line → ⊥) ⊎ ((q : Question) → AsksFor times line q → ⊥)
