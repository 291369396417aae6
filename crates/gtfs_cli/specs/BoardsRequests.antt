-- What a file of requests asks for: on each line that is not empty a board, and which line is refused first.
-- A line ends in LF or CRLF, and the last one also where the text ends. Lines are numbered from 1, empty ones too. The fields of a
-- line stand between tabs: the stop, from and until, and then perhaps a limit and a key, of which an empty one is none.
use Rattle.std.specs.Prelude.{ℕ, ◌==◌, ◌++◌, not, int_lt, codes, filter, if◌then◌else◌, length, List, [], ◌∷◌, map, Option, Some, None, option_map, Result, Ok, Err}
use Rattle.std.specs.List.{enumerate_from, slice_split}
use Rattle.std.specs.Option.{option_and_then}
use Rattle.std.specs.Str.Lines.{lines}
use Rattle.gtfs_table.specs.Tables.{without_marks}
use Rattle.gtfs_rows.specs.Content.{Content}
use Rattle.gtfs_rows.specs.Departures.{Origins}
use Rattle.gtfs_board.specs.Board.{is_stop}
use Rattle.gtfs_times.specs.declared.times.Times.{Times}
use Rattle.gtfs_cli.specs.BoardOptions.{after_of, instant_at, limit_of, moment_of, BoardRequest}
use Rattle.gtfs_cli.specs.declared.commands.boards.request_fault.RequestFault.{RequestFault}
use Rattle.gtfs_cli.specs.declared.commands.boards.request_fault.RequestFault.TheVariants.{BadRequest, UnknownStop, UntilBeforeFrom}

-- ---- lines and fields

-- those of some lines that are not empty, each with its number, where the first has this one
abbrev pub numbered_from : ℕ → List (List ℕ) → List (ℕ × List ℕ)
numbered_from first ls = filter (λ l. not (length l.1 == 0)) (enumerate_from first ls)

-- the lines that are not empty, each with its number
abbrev pub numbered_lines : List ℕ → List (ℕ × List ℕ)
numbered_lines bytes = numbered_from 1 (lines (without_marks bytes))

-- the texts of a request, as they stand in its line
pub record RequestTexts : Type 0 where
  pub stop : List ℕ
  pub from : List ℕ
  pub until : List ℕ
  pub limit : Option (List ℕ)
  pub after : Option (List ℕ)

-- an empty text is none
abbrev pub text_if_any : List ℕ → Option (List ℕ)
text_if_any [] = None
text_if_any (b ∷ bs) = Some (b ∷ bs)

-- those of three to five fields
abbrev pub texts_in : List (List ℕ) → Option RequestTexts
texts_in [] = None
texts_in (stop ∷ []) = None
texts_in (stop ∷ from ∷ []) = None
texts_in (stop ∷ from ∷ until ∷ []) = Some (record { stop = stop; from = from; until = until; limit = None; after = None })
texts_in (stop ∷ from ∷ until ∷ limit ∷ []) = Some (record { stop = stop; from = from; until = until; limit = text_if_any limit; after = None })
texts_in (stop ∷ from ∷ until ∷ limit ∷ key ∷ []) =
    Some (record { stop = stop; from = from; until = until; limit = text_if_any limit; after = text_if_any key })
texts_in (stop ∷ from ∷ until ∷ limit ∷ key ∷ more ∷ rest) = None

abbrev pub fields_of : List ℕ → List (List ℕ)
fields_of line = slice_split (λ b. b == 9) line

abbrev pub request_texts : List ℕ → Option RequestTexts
request_texts line = texts_in (fields_of line)

-- ---- values, which are those of the options of `gtfs board`

abbrev pub request_from : Times → RequestTexts → Option BoardRequest
request_from times t = option_and_then (λ from. option_and_then (λ until. option_and_then (λ limit.
    option_map (λ after. record { from = from; until = until; limit = limit; after = after; times = times }) (after_of t.after))
    (limit_of t.limit)) (moment_of t.until)) (moment_of t.from)

-- a stop's board that is asked for
pub record StopRequest : Type 0 where
  pub texts : RequestTexts
  pub values : BoardRequest

-- what a line asks for, where it has as many fields as wanted and none has a bad value
abbrev pub stop_request : Times → List ℕ → Option StopRequest
stop_request times line = option_and_then (λ t. option_map (λ r. record { texts = t; values = r }) (request_from times t)) (request_texts line)

-- ---- in a feed and a zone

-- until does not lie before from, and the feed has the stop
abbrev pub judged : Content → Origins → ℕ → Option StopRequest → Result StopRequest RequestFault
judged f origin number None = Err (BadRequest number)
judged f origin number (Some r) = if not (is_stop f r.texts.stop) then Err (UnknownStop number)
    else if int_lt (instant_at origin r.values.until) (instant_at origin r.values.from) then Err (UntilBeforeFrom number) else Ok r

abbrev pub onto_all : {A E : Type 0} → A → Result (List A) E → Result (List A) E
onto_all x (Ok xs) = Ok (x ∷ xs)
onto_all x (Err e) = Err e

-- all, or the first fault
abbrev pub all_or_first : {A E : Type 0} → List (Result A E) → Result (List A) E
all_or_first [] = Ok []
all_or_first (Ok x ∷ rest) = onto_all x (all_or_first rest)
all_or_first (Err e ∷ rest) = Err e

-- what some lines that are not empty ask for in their order, each with its number, or what is the matter with the first that is refused
abbrev pub requests_in : Content → Origins → Times → List (ℕ × List ℕ) → Result (List StopRequest) RequestFault
requests_in f origin times ls = all_or_first (map (λ l. judged f origin l.0 (stop_request times l.1)) ls)

-- the requests of a file in their order, or what is the matter with the first line that is refused
abbrev pub requests_of : Content → Origins → Times → List ℕ → Result (List StopRequest) RequestFault
requests_of f origin times bytes = requests_in f origin times (numbered_lines bytes)

-- what is the matter, if anything is
abbrev pub fault_in : {A : Type 0} → Result A RequestFault → Option RequestFault
fault_in (Ok x) = None
fault_in (Err fault) = Some fault

-- ---- what goes out before a board

abbrev pub request_heading : RequestTexts → List ℕ
request_heading t = codes "== " ++ t.stop ++ codes " " ++ t.from ++ codes " " ++ t.until ++ codes "\n"
