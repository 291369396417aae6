-- Boards have one outcome.
use Rattle.std.proofs.Common.{◌≡◌, ◌∙◌, ap, ap₂, sym, subst, refl, ℕ, Bool, List, [], ◌∷◌, ◌++◌, Option, Some, Result, Ok, Err, codes, decimal}
use Rattle.std.specs.Prelude.{IsOkAnd, IsUtf8}
use Rattle.gtfs_days.specs.Zone.{zone_origin, SaysSame}
use Rattle.gtfs_days.specs.declared.zone.Zone.{Zone}
use Rattle.gtfs_devices.specs.Folder.{Store}
use Rattle.gtfs_table.specs.Tables.{without_marks, Dataset}
use Rattle.gtfs_rows.specs.Content.{Content}
use Rattle.gtfs_rows.specs.Departures.{Origins}
use Rattle.gtfs_rows.specs.ContentRead.{content_of}
use Rattle.gtfs_commands.specs.Words.{BoardsTexts}
use Rattle.gtfs_cli.specs.FilesInFolders.{HoldsNoUtf8, HoldsSomeZone, HoldsBytes, HoldsPassing}
use Rattle.gtfs_cli.specs.RefusalOrder.{feed, followed_by, sending, zone, Judged}
use Rattle.gtfs_cli.specs.BoardsCommand.{boards_judges, boards_plan, request_file, request_lines, requests_at, AreBoards, BeginsBoard, BeginsWhole, BoardsSetting, IsBoardsPart, IsBoardsText, IsLinesCause}
use Rattle.gtfs_cli.specs.RefusalMessages.{line_of, request_line, request_text}
use Rattle.gtfs_cli.specs.SharedOptions.{times_of}
use Rattle.gtfs_cli.specs.CommandPlan.{passed}
use Rattle.gtfs_cli.specs.Refusals.{request_status}
use Rattle.gtfs_cli.specs.BoardsRequests.{request_heading, requests_of, StopRequest}
use Rattle.gtfs_cli.specs.declared.commands.boards.request_fault.RequestFault.{RequestFault}
use Rattle.gtfs_cli.specs.declared.commands.refusal.Refusal.{Refusal}
use Rattle.gtfs_cli.specs.declared.commands.refusal.Refusal.TheVariants.{Line, Unreadable}
use Rattle.gtfs_cli.proofs.FolderEnds.{excludes-feed, one_dataset, one-feed, quiet-feed}
use Rattle.gtfs_cli.proofs.OneBoard.{one_origin, one_text}
use Rattle.gtfs_cli.proofs.OneOutcome.{one-printed, IsOne}
use Rattle.gtfs_cli.proofs.OneRefusal.{excludes-by, excludes-chain, excludes-last, one-chain, one-last, quiet-chain, quiet-last, Alike, Excludes, One, Quiet}
use Rattle.gtfs_cli.proofs.ZoneEnds.{excludes-file, excludes-zone, one-file, one-zone, quiet-file, quiet-zone, same_bytes, same_zones}

-- ---- the text, in zones that say the same

one_boards_text : (y z : Zone) → SaysSame y z → (f : Content) (qs : List StopRequest) (t u : List ℕ) → AreBoards f y qs t → AreBoards f z qs u → t ≡ u
one_boards_text y z same f [] t u a b = a ∙ sym b
one_boards_text y z same f (q ∷ qs) t u a b =
    let page = one_text y z same f q.texts.stop q.values a.0 b.0 a.2 b.2 in
    let more = one_boards_text y z same f qs a.1 b.1 a.3 b.3 in
    a.4 ∙ ap₂ (λ (x w : List ℕ). request_heading q.texts ++ x ++ w) page more ∙ sym b.4

-- what is there
there : {A E : Type 0} (r : Result A E) (P : A → Type 0) → IsOkAnd r P → (x : A) × (r ≡ Ok x) × P x
there (Ok x) P h = (x, refl, h)
there (Err e) P h = absurd h

-- ---- of the folders

module _ (limit : ℕ) (store : Store) (asked : BoardsTexts) where
  abbrev held : Option Store
  held = Some store

  abbrev Set : Type 0
  Set = BoardsSetting limit held asked

  module _ (s t : Set) where
    same_dataset : s.dataset ≡ t.dataset
    same_dataset = one_dataset limit store asked.dir s.dataset t.dataset s.holds t.holds

    one_zone_of : SaysSame s.zone t.zone
    one_zone_of = same_zones limit store asked.zone s.zone t.zone s.holds_zone t.holds_zone

    one_bytes : s.bytes ≡ t.bytes
    one_bytes = same_bytes limit store asked.requests s.bytes t.bytes s.holds_requests.0 t.holds_requests.0

    one_judgement : requests_at limit held asked s ≡ requests_at limit held asked t
    one_judgement =
        ap (λ (d : Dataset). requests_of (content_of d) (zone_origin s.zone) (times_of asked.interpolate) s.bytes) same_dataset
        ∙ ap (λ (origin : Origins). requests_of (content_of t.dataset) origin (times_of asked.interpolate) s.bytes) (one_origin s.zone t.zone one_zone_of)
        ∙ ap (λ (bytes : List ℕ). requests_of (content_of t.dataset) (zone_origin t.zone) (times_of asked.interpolate) bytes) one_bytes

  one-boards-text : (x y : List ℕ) (f g : Bool) → passed (IsBoardsText limit held asked) x f → passed (IsBoardsText limit held asked) y g → (x ≡ y) × (f ≡ g)
  one-boards-text x y f g a b =
      let s = a.1.0 in
      let t = b.1.0 in
      let p = there (requests_at limit held asked s) _ a.1.1 in
      let q = there (requests_at limit held asked t) _ b.1.1 in
      let is : Ok p.0 ≡ Ok q.0 = sym p.1 ∙ one_judgement s t ∙ q.1 in
      let same : p.0 ≡ q.0 = cc is in
      let of_dataset = subst (λ (d : Dataset). AreBoards (content_of d) s.zone p.0 x) (same_dataset s t) p.2 in
      let of_requests = subst (λ (qs : List StopRequest). AreBoards (content_of t.dataset) s.zone qs x) same of_dataset in
      (one_boards_text s.zone t.zone (one_zone_of s t) (content_of t.dataset) q.0 x y of_requests q.2, a.0 ∙ sym b.0)

  -- ---- the lines

  -- bytes are UTF-8 or they are not
  not-utf8 : HoldsNoUtf8 limit held asked.requests → Set → ⊥
  not-utf8 none s =
      let same = same_bytes limit store asked.requests s.bytes none.0 s.holds_requests.0 none.1 in
      none.2 (subst (λ (bytes : List ℕ). IsUtf8 (without_marks bytes)) same s.holds_requests.1)

  one-lines-cause : (r s : Refusal) → IsLinesCause limit held asked r → IsLinesCause limit held asked s → Alike r s
  one-lines-cause (Unreadable p) (Unreadable q) a b = (ap (λ (t : List ℕ). line_of t (codes " cannot be read")) (a.0 ∙ sym b.0), refl)
  one-lines-cause (Unreadable p) (Line g) a b = absurd (not-utf8 a.1 b.0)
  one-lines-cause (Line f) (Unreadable q) a b = absurd (not-utf8 b.1 a.0)
  one-lines-cause (Line f) (Line g) a b =
      let is : Err f ≡ Err g = sym a.1 ∙ one_judgement a.0 b.0 ∙ b.1 in
      let same : f ≡ g = cc is in
      (ap (λ (x : RequestFault). line_of (request_text x) (decimal (request_line x))) same, ap request_status same)
  one-lines-cause (Unreadable p) _ a b = absurd b
  one-lines-cause (Line f) _ a b = absurd b
  one-lines-cause _ s a b = absurd a

  one-lines : One (request_lines limit held asked)
  one-lines r s g h = one-lines-cause r s g.cause h.cause

  abbrev Text : Type 0
  Text = (text : List ℕ) × IsBoardsText limit held asked text

  no-lines-cause : Text → (r : Refusal) → IsLinesCause limit held asked r → ⊥
  no-lines-cause (text, is) (Unreadable p) a = not-utf8 a.1 is.0
  no-lines-cause (text, is) (Line f) a =
      let q = there (requests_at limit held asked is.0) _ is.1 in
      let e : Err f ≡ Ok q.0 = sym a.1 ∙ one_judgement a.0 is.0 ∙ q.1 in
      cc e
  no-lines-cause (text, is) _ a = absurd a

  excludes-lines : Excludes Text (request_lines limit held asked)
  excludes-lines text r h = no-lines-cause text r h.cause

  quiet-lines : Quiet (request_lines limit held asked)
  quiet-lines h = h.cause

  -- ---- all that is judged

  abbrev last : Judged
  last = followed_by (request_lines limit held asked) sending

  abbrev after_zone : Judged
  after_zone = followed_by (request_file limit held asked.requests) last

  abbrev after_feed : Judged
  after_feed = followed_by (zone limit held asked.zone) after_zone

  one-judges : One (boards_judges limit held asked)
  one-judges = one-chain (feed limit held asked.dir) after_feed (one-feed limit store asked.dir) (excludes-feed limit store asked.dir)
      (one-chain (zone limit held asked.zone) after_zone (one-zone limit store asked.zone) (excludes-zone limit store asked.zone)
      (one-chain (request_file limit held asked.requests) last (one-file limit store asked.requests) (excludes-file limit store asked.requests)
      (one-last (request_lines limit held asked) one-lines)))

  excludes-judges : Excludes Text (boards_judges limit held asked)
  excludes-judges = excludes-chain (feed limit held asked.dir) after_feed Text
      (excludes-by Text (HoldsPassing limit held asked.dir) (feed limit held asked.dir) (λ text. (text.1.0.dataset, text.1.0.holds, text.1.0.passes)) (excludes-feed limit store asked.dir))
      (excludes-chain (zone limit held asked.zone) after_zone Text
      (excludes-by Text (HoldsSomeZone limit held asked.zone) (zone limit held asked.zone) (λ text. (text.1.0.zone, text.1.0.holds_zone)) (excludes-zone limit store asked.zone))
      (excludes-chain (request_file limit held asked.requests) last Text
      (excludes-by Text ((bytes : List ℕ) × HoldsBytes limit held asked.requests bytes) (request_file limit held asked.requests)
      (λ text. (text.1.0.bytes, text.1.0.holds_requests.0)) (excludes-file limit store asked.requests))
      (excludes-last Text (request_lines limit held asked) excludes-lines)))

  quiet-judges : Quiet (boards_judges limit held asked)
  quiet-judges = quiet-chain (feed limit held asked.dir) after_feed (quiet-feed limit store asked.dir)
      (quiet-chain (zone limit held asked.zone) after_zone (quiet-zone limit store asked.zone)
      (quiet-chain (request_file limit held asked.requests) last (quiet-file limit store asked.requests) (quiet-last (request_lines limit held asked) quiet-lines)))

  pub one-boards : IsOne (boards_plan limit held asked) held
  one-boards = one-printed held (boards_judges limit held asked) (passed (IsBoardsText limit held asked)) (IsBoardsPart BeginsBoard limit held asked)
      (IsBoardsPart BeginsWhole limit held asked) 12 one-boards-text one-judges (λ t f is. excludes-judges (t, is.1)) quiet-judges
