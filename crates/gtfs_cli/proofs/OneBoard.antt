-- A board has one outcome.
use Rattle.std.proofs.Common.{◌≡◌, ◌∙◌, ap, sym, subst, refl, ℕ, true, false, Bool, List, [], Option, Some, None}
use Rattle.std.specs.Prelude.{◌<ℤ◌}
use Rattle.std.proofs.lemmas.Option.{same_Some}
use Rattle.gtfs_days.specs.Zone.{zone_origin, SaysSame}
use Rattle.gtfs_days.specs.declared.zone.Zone.{Zone}
use Rattle.gtfs_devices.specs.Folder.{Store}
use Rattle.gtfs_table.specs.Tables.{Dataset}
use Rattle.gtfs_rows.specs.Content.{Content}
use Rattle.gtfs_rows.specs.ContentRead.{content_of}
use Rattle.gtfs_board.specs.Board.{is_stop, keys_of}
use Rattle.gtfs_rows.specs.Departures.{IsBoard, Origins}
use Rattle.gtfs_rows.specs.Key.{Key}
use Rattle.gtfs_times.specs.Filling.{timed}
use Rattle.gtfs_board.specs.BoardPage.{IsCutShort, IsPage, IsStopped}
use Rattle.gtfs_board.proofs.OneBoard.{one-board as one-list-of-keys}
use Rattle.gtfs_commands.specs.Words.{BoardTexts}
use Rattle.gtfs_cli.specs.BoardCommand.{LiesBefore, BoardSetting, board_judges, board_plan, stop_and_span, IsBoardText, IsStopCause, IsTextOf}
use Rattle.gtfs_cli.specs.FilesInFolders.{HoldsSomeZone, HoldsPassing}
use Rattle.gtfs_cli.specs.RefusalOrder.{feed, followed_by, sending, values, zone, Judged}
use Rattle.gtfs_cli.specs.BoardOptions.{first_bad_board, instant_at, judged_board, IsBoardRequest, BoardRequest}
use Rattle.gtfs_cli.specs.CommandPlan.{passed}
use Rattle.gtfs_cli.specs.declared.commands.refusal.Refusal.{Refusal}
use Rattle.gtfs_cli.specs.declared.commands.refusal.Refusal.TheVariants.{UnknownStop, UntilBeforeFrom}
use Rattle.gtfs_cli.proofs.BoardParts.{none-bad}
use Rattle.gtfs_cli.proofs.FolderEnds.{excludes-feed, one_dataset, one-feed, quiet-feed}
use Rattle.gtfs_cli.proofs.OneOutcome.{one-printed, IsOne}
use Rattle.gtfs_cli.proofs.OnePage.{one_list, one_page}
use Rattle.gtfs_cli.proofs.OneRefusal.{excludes-by, excludes-chain, excludes-last, excludes-values, one-chain, one-last, one-values, quiet-chain, quiet-last, quiet-values, Alike, Excludes, One, Quiet}
use Rattle.gtfs_cli.proofs.ZoneEnds.{excludes-zone, one-zone, quiet-zone, same_zones}

one_request : (asked : BoardTexts) (p q : BoardRequest) → IsBoardRequest asked p → IsBoardRequest asked q → p ≡ q
one_request asked p q a b =
    let from : p.from ≡ q.from = same_Some p.from q.from (sym a.from ∙ b.from) in
    let until : p.until ≡ q.until = same_Some p.until q.until (sym a.until ∙ b.until) in
    let limit : p.limit ≡ q.limit = same_Some p.limit q.limit (sym a.limit ∙ b.limit) in
    let after : p.after ≡ q.after = same_Some p.after q.after (sym a.after ∙ b.after) in
    let times : p.times ≡ q.times = sym a.times ∙ b.times in
    λ i. record { from = from i; until = until i; limit = limit i; after = after i; times = times i }

-- ---- the page of a board, in zones that say the same

module _ (y z : Zone) (same : SaysSame y z) where
  pub one_origin : zone_origin y ≡ zone_origin z
  one_origin = λ i n. same.origin n i

  lies_before : (r : BoardRequest) → LiesBefore y r → LiesBefore z r
  lies_before r before = subst (λ (origin : Origins). instant_at origin r.until <ℤ instant_at origin r.from) one_origin before

  one_keys : (f : Content) (stop : List ℕ) (r : BoardRequest) (xs ys : List Key) → IsBoard f (zone_origin y) stop (instant_at (zone_origin y) r.from) (instant_at (zone_origin y) r.until) r.after xs
      → IsBoard f (zone_origin z) stop (instant_at (zone_origin z) r.from) (instant_at (zone_origin z) r.until) r.after ys → xs ≡ ys
  one_keys f stop r xs ys a b =
      let moved = subst (λ (origin : Origins). IsBoard f origin stop (instant_at origin r.from) (instant_at origin r.until) r.after xs) one_origin a in
      one-list-of-keys f (zone_origin z) stop (instant_at (zone_origin z) r.from) (instant_at (zone_origin z) r.until) r.after xs ys moved b

  pub one_text : (f : Content) (stop : List ℕ) (r : BoardRequest) (t u : List ℕ) → IsTextOf IsPage f y stop r t → IsTextOf IsPage f z stop r u → t ≡ u
  one_text f stop r t u a b =
      let keys = one_keys (timed r.times f) stop r (keys_of a.departures) (keys_of b.departures) a.lists.board b.lists.board in
      let listed = one_list f a.departures b.departures keys a.lists.shown b.lists.shown in
      one_page y z r.limit b.departures a.left b.left t u a.lines b.lines same
      (subst (λ ds. IsPage y r.limit ds a.left (Some []) (Some t) a.lines) listed a.out) b.out

-- ---- of the folders

module _ (limit : ℕ) (store : Store) (asked : BoardTexts) where
  abbrev held : Option Store
  held = Some store

  module _ (s t : BoardSetting limit held asked) where
    same_dataset : s.dataset ≡ t.dataset
    same_dataset = one_dataset limit store asked.dir s.dataset t.dataset s.holds t.holds

    same_request : s.request ≡ t.request
    same_request = one_request asked s.request t.request s.is_request t.is_request

    one_zone_of : SaysSame s.zone t.zone
    one_zone_of = same_zones limit store asked.zone s.zone t.zone s.holds_zone t.holds_zone

    -- a stop is known or it is not
    not_unknown : is_stop (content_of s.dataset) asked.stop ≡ false → is_stop (content_of t.dataset) asked.stop ≡ true → ⊥
    not_unknown lacks known = cc (sym lacks ∙ ap (λ (d : Dataset). is_stop (content_of d) asked.stop) same_dataset ∙ known)

    -- a span ends before it begins or it does not
    not_backward : LiesBefore s.zone s.request → (LiesBefore t.zone t.request → ⊥) → ⊥
    not_backward before forward =
        forward (lies_before s.zone t.zone one_zone_of t.request (subst (λ (r : BoardRequest). LiesBefore s.zone r) same_request before))

    same_text : (x y : List ℕ) → IsTextOf IsPage (content_of s.dataset) s.zone asked.stop s.request x
        → IsTextOf IsPage (content_of t.dataset) t.zone asked.stop t.request y → x ≡ y
    same_text x y a b =
        let of_dataset = subst (λ (d : Dataset). IsTextOf IsPage (content_of d) s.zone asked.stop s.request x) same_dataset a in
        let of_request = subst (λ (r : BoardRequest). IsTextOf IsPage (content_of t.dataset) s.zone asked.stop r x) same_request of_dataset in
        one_text s.zone t.zone one_zone_of (content_of t.dataset) asked.stop t.request x y of_request b

  one-board-text : (t u : List ℕ) (f g : Bool) → passed (IsBoardText IsPage limit held asked) t f → passed (IsBoardText IsPage limit held asked) u g → (t ≡ u) × (f ≡ g)
  one-board-text t u f g a b = (same_text a.1.0 b.1.0 t u a.1.1 b.1.1, a.0 ∙ sym b.0)

  -- ---- the stop and the span

  one-stop-cause : (r s : Refusal) → IsStopCause limit held asked r → IsStopCause limit held asked s → Alike r s
  one-stop-cause UnknownStop UnknownStop a b = (refl, refl)
  one-stop-cause UnknownStop UntilBeforeFrom a b = absurd (not_unknown a.0 b.0 a.1 b.1)
  one-stop-cause UntilBeforeFrom UnknownStop a b = absurd (not_unknown b.0 a.0 b.1 a.1)
  one-stop-cause UntilBeforeFrom UntilBeforeFrom a b = (refl, refl)
  one-stop-cause UnknownStop _ a b = absurd b
  one-stop-cause UntilBeforeFrom _ a b = absurd b
  one-stop-cause _ s a b = absurd a

  one-stop : One (stop_and_span limit held asked)
  one-stop r s g h = one-stop-cause r s g.cause h.cause

  abbrev Text : Type 0
  Text = (text : List ℕ) × IsBoardText IsPage limit held asked text

  no-stop-cause : Text → (r : Refusal) → IsStopCause limit held asked r → ⊥
  no-stop-cause (text, is) UnknownStop a = not_unknown a.0 is.0 a.1 is.1.lists.known
  no-stop-cause (text, is) UntilBeforeFrom a = not_backward a.0 is.0 a.2 is.1.lists.forward
  no-stop-cause (text, is) _ a = absurd a

  excludes-stop : Excludes Text (stop_and_span limit held asked)
  excludes-stop text r h = no-stop-cause text r h.cause

  quiet-stop : Quiet (stop_and_span limit held asked)
  quiet-stop h = h.cause

  -- ---- all that is judged

  abbrev last : Judged
  last = followed_by (stop_and_span limit held asked) sending

  abbrev after_feed : Judged
  after_feed = followed_by (zone limit held asked.zone) last

  abbrev after_values : Judged
  after_values = followed_by (feed limit held asked.dir) after_feed

  one-judges : One (board_judges limit held asked)
  one-judges = one-chain (values (judged_board asked)) after_values (one-values (judged_board asked)) (excludes-values (judged_board asked))
      (one-chain (feed limit held asked.dir) after_feed (one-feed limit store asked.dir) (excludes-feed limit store asked.dir)
      (one-chain (zone limit held asked.zone) last (one-zone limit store asked.zone) (excludes-zone limit store asked.zone) (one-last (stop_and_span limit held asked) one-stop)))

  excludes-judges : Excludes Text (board_judges limit held asked)
  excludes-judges = excludes-chain (values (judged_board asked)) after_values Text
      (excludes-by Text (first_bad_board asked ≡ None) (values (judged_board asked)) (λ text. none-bad asked text.1.0.request text.1.0.is_request) (excludes-values (judged_board asked)))
      (excludes-chain (feed limit held asked.dir) after_feed Text
      (excludes-by Text (HoldsPassing limit held asked.dir) (feed limit held asked.dir) (λ text. (text.1.0.dataset, text.1.0.holds, text.1.0.passes)) (excludes-feed limit store asked.dir))
      (excludes-chain (zone limit held asked.zone) last Text
      (excludes-by Text (HoldsSomeZone limit held asked.zone) (zone limit held asked.zone) (λ text. (text.1.0.zone, text.1.0.holds_zone)) (excludes-zone limit store asked.zone))
      (excludes-last Text (stop_and_span limit held asked) excludes-stop)))

  quiet-judges : Quiet (board_judges limit held asked)
  quiet-judges = quiet-chain (values (judged_board asked)) after_values (quiet-values (judged_board asked))
      (quiet-chain (feed limit held asked.dir) after_feed (quiet-feed limit store asked.dir)
      (quiet-chain (zone limit held asked.zone) last (quiet-zone limit store asked.zone) (quiet-last (stop_and_span limit held asked) quiet-stop)))

  pub one-board : IsOne (board_plan limit held asked) held
  one-board = one-printed held (board_judges limit held asked) (passed (IsBoardText IsPage limit held asked)) (IsBoardText IsCutShort limit held asked)
      (IsBoardText IsStopped limit held asked) 11 one-board-text one-judges (λ t f is. excludes-judges (t, is.1)) quiet-judges
