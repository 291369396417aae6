-- The values of a board's options and the requests of a file as the code has them, with lent texts.
use Rattle.std.specs.Prelude.{option_map}
use Rattle.gtfs_board.specs.LentKeys.{plain_key}
use Rattle.gtfs_commands.specs.Words.{BoardTexts}
use Rattle.gtfs_cli.specs.BoardOptions.{BoardRequest, IsBoardRequest, IsSound}
use Rattle.gtfs_cli.specs.BoardsRequests.{RequestTexts, StopRequest}
use Rattle.gtfs_cli.specs.declared.commands.board.options.BoardRequest.{BoardRequest as LentValues}
use Rattle.gtfs_cli.specs.declared.commands.boards.requests.StopRequest.{StopRequest as LentRequest}
use Rattle.gtfs_cli.specs.declared.commands.board.options.RequestTexts.{RequestTexts as LentTexts}

-- the request that values are
abbrev pub board_request_of : LentValues → BoardRequest
board_request_of v = record { from = v.from; until = v.until; limit = v.limit; after = option_map plain_key v.after; times = v.times }

-- each value is that of its text, and each instant or service day one that a board can have
pub record AreBoardValues (asked : BoardTexts) (v : LentValues) : Type 0 where
  pub request : IsBoardRequest asked (board_request_of v)
  pub from_sound : IsSound v.from
  pub until_sound : IsSound v.until

-- the texts of a request
abbrev pub request_texts_of : LentTexts → RequestTexts
request_texts_of t = record {
  stop = t.stop.now;
  from = t.from.now;
  until = t.until.now;
  limit = option_map (λ x. x.now) t.limit;
  after = option_map (λ x. x.now) t.after;
}

-- what a line asks for
abbrev pub stop_request_of : LentRequest → StopRequest
stop_request_of q = record { texts = request_texts_of q.texts; values = board_request_of q.values }
