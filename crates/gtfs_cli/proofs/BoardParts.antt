-- From the parts of a board to what is printed of the folders that the words name.
use Rattle.std.proofs.Common.{◌≡◌, ◌⊎◌, ◌++◌, ℕ, true, false, List, [], Option, None, Some, Result, inl, inr, refl, sym, subst}
use Rattle.std.specs.Prelude.{⊤}
use Rattle.std.specs.Io.KnownBytes.{Appends}
use Rattle.gtfs_days.specs.declared.zone.Zone.{Zone}
use Rattle.gtfs_devices.specs.Folder.{Store}
use Rattle.gtfs_rows.specs.Content.{Content}
use Rattle.gtfs_rows.specs.RowsInMemory.{content_of_parts}
use Rattle.gtfs_rows.specs.declared.parts.Parts.{Parts as Feed}
use Rattle.gtfs_board.specs.Board.{is_stop}
use Rattle.gtfs_board.specs.BoardPage.{AreWritten, IsCutShort, IsPage, IsStopped}
use Rattle.gtfs_board.specs.BoardLines.{Listed}
use Rattle.gtfs_commands.specs.Words.{BoardTexts}
use Rattle.gtfs_cli.specs.BoardCommand.{BoardSetting, board_judges, GoesOut, IsBoardText, IsOpeningCause, IsStopCause, IsTextOf, ListsBoard}
use Rattle.gtfs_cli.specs.LentBoardRequests.{board_request_of, AreBoardValues}
use Rattle.gtfs_cli.specs.FilesInFolders.{HoldsFeed, HoldsZone}
use Rattle.gtfs_cli.specs.Failures.{FailedNowhere, Failures}
use Rattle.gtfs_cli.specs.BoardOptions.{first_bad_board, IsBoardRequest, BoardRequest}
use Rattle.gtfs_cli.specs.CommandPlan.{IsRefusedIn}
use Rattle.gtfs_cli.specs.DevicesSeen.{Output}
use Rattle.gtfs_cli.specs.SentText.{or_none, IsSendingCause, PrintsText}
use Rattle.gtfs_cli.specs.declared.commands.refusal.Refusal.{Refusal}
use Rattle.gtfs_cli.specs.declared.commands.refusal.Refusal.TheVariants.{UnknownStop, UntilBeforeFrom, OutOfMemory}
use Rattle.gtfs_cli.specs.declared.commands.board.options.BoardRequest.{BoardRequest as LentRequest}
pub use Rattle.gtfs_cli.proofs.FoldersRead.{has-passing}
use Rattle.gtfs_cli.proofs.Plans.{as-it-is, no-cause, or-none, prints-as}

-- no value is bad
pub none-bad : (asked : BoardTexts) (r : BoardRequest) → IsBoardRequest asked r → first_bad_board asked ≡ None
none-bad asked r is = rw (is.from, is.until, is.limit, is.after) refl

-- ---- the text of a page, with nothing before it

module _ (f : Content) (z : Zone) (stop : List ℕ) (r : BoardRequest) (limit : ℕ) (same : r.limit ≡ limit) (ds left : List Listed) (n : ℕ) (lists : ListsBoard f z stop r ds) (a b : Option (List ℕ)) where
  alone : (others : List Listed) (count : ℕ) (w : AreWritten z ds others a b count) → AreWritten z ds others (Some []) (Some w.text) count
  alone others count w = record { shown = w.shown; text = w.text; split = w.split; count = w.count; are_lines = w.are_lines; out = refl }

  pub page-sent : IsPage z limit ds left a b n → (text : List ℕ) × IsTextOf IsPage f z stop r text × Appends a b text
  page-sent p = let page = subst (λ (m : ℕ). IsPage z m ds left a b n) (sym same) p in (
    page.written.text,
    record {
      departures = ds;
      left = left;
      lines = n;
      lists = lists;
      out = record { written = alone left n page.written; within = page.within; ends = page.ends };
    },
    page.written.out,
  )

  pub page-cut : IsCutShort z limit ds left a b n → (text : List ℕ) × IsTextOf IsCutShort f z stop r text × Appends a b text
  page-cut p = let w = subst (λ (m : ℕ). IsCutShort z m ds left a b n) (sym same) p in (
    w.text ++ w.sent,
    record {
      departures = ds;
      left = left;
      lines = n;
      lists = lists;
      out = record {
        shown = w.shown;
        text = w.text;
        next = w.next;
        line = w.line;
        sent = w.sent;
        unsent = w.unsent;
        split = w.split;
        count = w.count;
        within = w.within;
        are_lines = w.are_lines;
        is_line = w.is_line;
        cut = w.cut;
        not_whole = w.not_whole;
        out = refl;
      };
    },
    w.out,
  )

  pub page-stopped : IsStopped z limit ds left a b n → (text : List ℕ) × IsTextOf IsStopped f z stop r text × Appends a b text
  page-stopped p = let w = subst (λ (m : ℕ). IsStopped z m ds left a b n) (sym same) p in (
    w.written.text,
    record {
      departures = ds;
      left = left;
      lines = n;
      lists = lists;
      out = record { others = w.others; written = alone w.others n w.written; within = w.within; lacks = w.lacks };
    },
    w.written.out,
  )

-- a page of the board that was opened in the zone is one of the board in that zone, and what no one is to blame for but the output is so of
-- any cause
pub printed-in : {A : Type 0} (f : Content) (stop : List ℕ) (r : BoardRequest) (y z : Zone) → y ≡ z → (ds : List Listed) (before after : Output) (ended : Result A Refusal)
    → (ListsBoard f y stop r ds → PrintsText (IsTextOf IsPage f y stop r) (IsTextOf IsCutShort f y stop r) (IsTextOf IsStopped f y stop r) (λ _. ⊥) before after ended)
    → ListsBoard f z stop r ds
    → PrintsText (IsTextOf IsPage f z stop r) (IsTextOf IsCutShort f z stop r) (or_none (IsTextOf IsStopped f z stop r)) (IsOpeningCause f z stop r) before after ended
printed-in f stop r y z same ds before after ended prints lists =
    let p = prints (subst (λ (w : Zone). ListsBoard f w stop r ds) (sym same) lists) in
    prints-as _ _ _ _ _ _ _ _ before after ended (as-it-is (IsTextOf IsPage f z stop r)) (as-it-is (IsTextOf IsCutShort f z stop r)) (or-none (IsTextOf IsStopped f z stop r))
    (no-cause (IsOpeningCause f z stop r))
    (subst (λ (w : Zone). PrintsText (IsTextOf IsPage f w stop r) (IsTextOf IsCutShort f w stop r) (IsTextOf IsStopped f w stop r) (λ _. ⊥) before after ended) same p)

-- ---- of the folders

module _ (limit : ℕ) (held : Option Store) (asked : BoardTexts) (feed : Feed) (z : Zone) (v : LentRequest) (h : HoldsFeed limit held asked.dir feed) (hz : HoldsZone limit held asked.zone z)
    (are : AreBoardValues asked v) where
  abbrev setting : BoardSetting limit held asked
  setting = record {
    dataset = h.dataset;
    zone = z;
    request = board_request_of v;
    holds = h.holds;
    passes = h.is_feed.0;
    holds_zone = hz;
    is_request = are.request;
  }

  pub text-of : (Out : GoesOut) (text : List ℕ) → IsTextOf Out (content_of_parts feed) z asked.stop (board_request_of v) text → IsBoardText Out limit held asked text
  text-of Out text is = (setting, subst (λ (f : Content). IsTextOf Out f z asked.stop (board_request_of v) text) h.is_feed.1 is)

  module _ (x y : Failures) where
    -- all that is judged before the stop was found good
    after : (e : Refusal) → IsStopCause limit held asked e ⊎ (⊤ × IsSendingCause x.output y.output e) → IsRefusedIn (board_judges limit held asked) x y e
    after e cause = inl (inr (none-bad asked (board_request_of v) are.request, inr (has-passing limit held asked.dir feed h, inr ((z, hz), cause))))

    pub cause-of : (e : Refusal) → (e ≡ OutOfMemory → FailedNowhere x y)
        → IsOpeningCause (content_of_parts feed) z asked.stop (board_request_of v) e ⊎ IsSendingCause x.output y.output e
        → IsRefusedIn (board_judges limit held asked) x y e
    cause-of UnknownStop nowhere (inl c) = after UnknownStop (inl (setting, subst (λ (f : Content). is_stop f asked.stop ≡ false) h.is_feed.1 c))
    cause-of UntilBeforeFrom nowhere (inl c) =
        after UntilBeforeFrom (inl (setting, subst (λ (f : Content). is_stop f asked.stop ≡ true) h.is_feed.1 c.0, c.1))
    cause-of OutOfMemory nowhere (inl c) = inr (refl, nowhere refl)
    cause-of _ nowhere (inl c) = absurd c
    cause-of e nowhere (inr c) = after e (inr (tt, c))
