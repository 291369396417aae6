-- What was printed of the boards of a file of requests, and why there are none.
use Rattle.std.proofs.Common.{◌≡◌, ◌⊎◌, ℕ, List, Option, Result, Err, inl, inr, subst}
use Rattle.std.specs.Prelude.{⊤, IsUtf8}
use Rattle.gtfs_days.specs.Zone.{zone_origin}
use Rattle.gtfs_days.specs.declared.zone.Zone.{Zone}
use Rattle.gtfs_devices.specs.Folder.{Store}
use Rattle.gtfs_table.specs.Tables.{without_marks}
use Rattle.gtfs_rows.specs.Content.{Content}
use Rattle.gtfs_rows.specs.RowsInMemory.{content_of_parts}
use Rattle.gtfs_rows.specs.declared.parts.Parts.{Parts as Feed}
use Rattle.gtfs_commands.specs.Words.{BoardsTexts}
use Rattle.gtfs_cli.specs.FilesInFolders.{HoldsFeed, HoldsBytes, HoldsZone}
use Rattle.gtfs_cli.specs.SentText.{IsSendingCause}
use Rattle.gtfs_cli.specs.BoardsCommand.{boards_judges, of_utf8, AreAllBoards, BoardsSetting, IsBoardsPart, IsBoardsText, IsFileFault, IsLinesCause, IsRequestsFault, StopsInAll}
use Rattle.gtfs_cli.specs.SharedOptions.{times_of}
use Rattle.gtfs_cli.specs.CommandPlan.{IsRefusedIn}
use Rattle.gtfs_cli.specs.BoardsRequests.{requests_of, StopRequest}
use Rattle.gtfs_cli.specs.Failures.{FailedNowhere, Failures}
use Rattle.gtfs_cli.specs.declared.commands.refusal.Refusal.{Refusal}
use Rattle.gtfs_cli.specs.declared.commands.refusal.Refusal.TheVariants.{Unreadable, Line, OutOfMemory}
use Rattle.gtfs_cli.specs.declared.commands.boards.request_fault.RequestFault.{RequestFault}
use Rattle.gtfs_cli.proofs.BoardParts.{has-passing}

-- ---- lines

-- what keeps the lines of a text from being sent
pub lines-fault : (path bytes : List ℕ) (asked : Result (List StopRequest) RequestFault) → IsUtf8 (without_marks bytes) → (r : Refusal) → IsRequestsFault asked r
    → IsFileFault path bytes asked r
lines-fault path bytes asked utf8 (Unreadable named) h = absurd h
lines-fault path bytes asked utf8 _ h = (utf8, h)

-- ---- from a feed, a zone and bytes to what the folders hold

module _ (limit : ℕ) (held : Option Store) (asked : BoardsTexts) (feed : Feed) (z : Zone) (bytes : List ℕ) (h : HoldsFeed limit held asked.dir feed) (hz : HoldsZone limit held asked.zone z)
    (hb : HoldsBytes limit held asked.requests bytes) where
  abbrev requests_by : Content → Result (List StopRequest) RequestFault
  requests_by f = requests_of f (zone_origin z) (times_of asked.interpolate) bytes

  abbrev setting : IsUtf8 (without_marks bytes) → BoardsSetting limit held asked
  setting utf8 = record {
    dataset = h.dataset;
    zone = z;
    bytes = bytes;
    holds = h.holds;
    passes = h.is_feed.0;
    holds_zone = hz;
    holds_requests = (hb, utf8);
  }

  pub boards-of : (text : List ℕ) → of_utf8 bytes (AreAllBoards (content_of_parts feed) z (requests_by (content_of_parts feed))) text → IsBoardsText limit held asked text
  boards-of text (utf8, are) = (setting utf8, subst (λ (f : Content). AreAllBoards f z (requests_by f) text) h.is_feed.1 are)

  pub part-of : (Part : Content → Zone → StopRequest → List ℕ → Type 0) (text : List ℕ)
      → of_utf8 bytes (StopsInAll Part (content_of_parts feed) z (requests_by (content_of_parts feed))) text → IsBoardsPart Part limit held asked text
  part-of Part text (utf8, is) = (setting utf8, subst (λ (f : Content). StopsInAll Part f z (requests_by f) text) h.is_feed.1 is)

  module _ (x y : Failures) where
    -- all that is judged before the text of the file was found good
    after : (e : Refusal) → IsLinesCause limit held asked e ⊎ (⊤ × IsSendingCause x.output y.output e) → IsRefusedIn (boards_judges limit held asked) x y e
    after e cause = inl (inr (has-passing limit held asked.dir feed h, inr ((z, hz), inr ((bytes, hb), cause))))

    pub fault-of : (e : Refusal) → (e ≡ OutOfMemory → FailedNowhere x y)
        → IsFileFault asked.requests bytes (requests_by (content_of_parts feed)) e ⊎ IsSendingCause x.output y.output e
        → IsRefusedIn (boards_judges limit held asked) x y e
    fault-of (Unreadable named) nowhere (inl fault) = after (Unreadable named) (inl (fault.0, (bytes, hb, fault.1)))
    fault-of (Line fault) nowhere (inl (utf8, is)) = after (Line fault) (inl (setting utf8, subst (λ (f : Content). requests_by f ≡ Err fault) h.is_feed.1 is))
    fault-of _ nowhere (inl fault) = absurd fault.1
    fault-of e nowhere (inr cause) = after e (inr (tt, cause))
