-- What is the matter with a line of a file of requests.
use Rattle.std.proofs.Common.{◌≡◌, ℕ, true, false, List, Option, Some, None, refl, sym}
use Rattle.std.specs.Prelude.{bytes_eq, int_lt, is_some, option_map, position}
use Rattle.gtfs_rows.specs.Content.{Content}
use Rattle.gtfs_rows.specs.Departures.{Origins}
use Rattle.gtfs_rows.specs.RowsInMemory.{content_of_parts, stop_ids}
use Rattle.gtfs_rows.specs.declared.parts.Parts.{Parts}
use Rattle.gtfs_board.specs.Board.{is_stop}
use Rattle.gtfs_board.proofs.Opened.{stop_none, stop_some}
use Rattle.gtfs_times.specs.declared.times.Times.{Times}
use Rattle.gtfs_cli.specs.BoardsRequests.{fault_in, judged, stop_request, StopRequest}
use Rattle.gtfs_cli.specs.BoardOptions.{instant_at}
use Rattle.gtfs_cli.specs.declared.commands.boards.request_fault.RequestFault.TheVariants.{UnknownStop, UntilBeforeFrom}

-- the feed has the stop whose number is found, and no other
pub has_stop : {N : Type 0} (p : Parts) (s : List ℕ) (number : N → ℕ) (o : Option N) → option_map number o ≡ position (bytes_eq s) (stop_ids p) → is_stop (content_of_parts p) s ≡ is_some o
has_stop p s number None at = stop_none p s (sym at)
has_stop p s number (Some n) at = (stop_some p s (number n) (sym at)).1.1

-- ---- what a line asks for

-- ---- what is the matter with it

module _ (times : Times) (line : List ℕ) (q : StopRequest) (asks : Some q ≡ stop_request times line) (f : Content) (origin : Origins) (n : ℕ) where
  pub stop_unknown : is_stop f q.texts.stop ≡ false → Some (UnknownStop n) ≡ fault_in (judged f origin n (stop_request times line))
  stop_unknown unknown = rw (sym asks, unknown) refl

  pub ends_before : is_stop f q.texts.stop ≡ true → int_lt (instant_at origin q.values.until) (instant_at origin q.values.from) ≡ true
      → Some (UntilBeforeFrom n) ≡ fault_in (judged f origin n (stop_request times line))
  ends_before known before = rw (sym asks, known, before) refl

  pub nothing_wrong : is_stop f q.texts.stop ≡ true → int_lt (instant_at origin q.values.until) (instant_at origin q.values.from) ≡ false
      → None ≡ fault_in (judged f origin n (stop_request times line))
  nothing_wrong known forward = rw (sym asks, known, forward) refl
