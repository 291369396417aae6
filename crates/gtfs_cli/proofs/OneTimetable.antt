-- A timetable has one outcome.
use Rattle.std.proofs.Common.{◌≡◌, ◌∙◌, ap, sym, refl, ℕ, Bool, List, [], Option, Some, None, Result, ℤ, codes}
use Rattle.std.specs.Prelude.{unwrap_or}
use Rattle.std.specs.Result.{result_ok}
use Rattle.gtfs_devices.specs.Folder.{Store}
use Rattle.gtfs_table.specs.Tables.{Dataset}
use Rattle.gtfs_field.specs.declared.fault.FieldFault.{FieldFault}
use Rattle.gtfs_rows.specs.ContentRead.{content_of}
use Rattle.gtfs_board.specs.Timetable.{is_route}
use Rattle.gtfs_commands.specs.Words.{TimetableTexts}
use Rattle.gtfs_cli.specs.FilesInFolders.{HoldsPassing}
use Rattle.gtfs_cli.specs.RefusalOrder.{feed, followed_by, sending, values, Judged}
use Rattle.gtfs_cli.specs.RefusalMessages.{line_of}
use Rattle.gtfs_cli.specs.CommandPlan.{passed}
use Rattle.gtfs_cli.specs.SentText.{Begins}
use Rattle.gtfs_cli.specs.TimetableOptions.{first_bad_timetable, judged_timetable, IsTimetableRequest, TimetableRequest}
use Rattle.gtfs_cli.specs.TimetableCommand.{route, timetable_judges, timetable_plan, timetable_text, IsRouteCause, IsTimetablePart, IsTimetableText}
use Rattle.gtfs_cli.specs.declared.commands.refusal.Refusal.{Refusal}
use Rattle.gtfs_cli.specs.declared.commands.refusal.Refusal.TheVariants.{UnknownRoute}
use Rattle.gtfs_cli.proofs.FolderEnds.{excludes-feed, one_dataset, one-feed, quiet-feed}
use Rattle.gtfs_cli.proofs.OneOutcome.{one-printed, IsOne}
use Rattle.gtfs_cli.proofs.OneRefusal.{alike, excludes-by, excludes-chain, excludes-last, excludes-values, one-chain, one-last, one-values, quiet-chain, quiet-last, quiet-values, Excludes, One, Quiet, Says}
use Rattle.gtfs_cli.proofs.Tabled.{none-bad-timetable}

one-request : (asked : TimetableTexts) (p q : TimetableRequest) → IsTimetableRequest asked p → IsTimetableRequest asked q → p ≡ q
one-request asked p q a b =
    let day : p.day ≡ q.day = ap (λ (r : Result ℤ FieldFault). unwrap_or (result_ok r) p.day) (sym a.day ∙ b.day) in
    let direction : p.direction ≡ q.direction = ap (λ (o : Option (Option ℕ)). unwrap_or o p.direction) (sym a.direction ∙ b.direction) in
    let times : p.times ≡ q.times = sym a.times ∙ b.times in
    λ i. record { day = day i; direction = direction i; times = times i }

module _ (limit : ℕ) (store : Store) (asked : TimetableTexts) where
  abbrev held : Option Store
  held = Some store

  abbrev Text : Type 0
  Text = (text : List ℕ) × IsTimetableText limit held asked text

  one-text : (t u : List ℕ) (f g : Bool) → passed (IsTimetableText limit held asked) t f → passed (IsTimetableText limit held asked) u g → (t ≡ u) × (f ≡ g)
  one-text t u f g a b =
      let s = a.1.setting in
      let r = b.1.setting in
      let same = one_dataset limit store asked.dir s.dataset r.dataset s.holds r.holds in
      let asks = one-request asked s.request r.request s.is_request r.is_request in (
        a.1.is_text ∙ ap (λ (d : Dataset). timetable_text (content_of d) asked.route s.request) same
            ∙ ap (λ (q : TimetableRequest). timetable_text (content_of r.dataset) asked.route q) asks ∙ sym b.1.is_text,
        a.0 ∙ sym b.0,
      )

  -- ---- the route

  route-says : (r : Refusal) → IsRouteCause limit held asked r → Says r (line_of (codes "unknown route") []) 1
  route-says UnknownRoute h = (refl, refl)
  route-says _ h = absurd h

  one-route : One (route limit held asked)
  one-route r s g h = alike r s (line_of (codes "unknown route") []) 1 (route-says r g.cause) (route-says s h.cause)

  excludes-route : Excludes Text (route limit held asked)
  excludes-route (text, is) UnknownRoute h =
      let lacks = h.cause in
      let same = one_dataset limit store asked.dir lacks.0.dataset is.setting.dataset lacks.0.holds is.setting.holds in
      cc (sym lacks.1 ∙ ap (λ (d : Dataset). is_route (content_of d) asked.route) same ∙ is.known)
  excludes-route (text, is) _ h = absurd h.cause

  quiet-route : Quiet (route limit held asked)
  quiet-route h = h.cause

  -- ---- all that is judged

  abbrev after_values : Judged
  after_values = followed_by (feed limit held asked.dir) (followed_by (route limit held asked) sending)

  one-judges : One (timetable_judges limit held asked)
  one-judges = one-chain (values (judged_timetable asked)) after_values (one-values (judged_timetable asked)) (excludes-values (judged_timetable asked))
      (one-chain (feed limit held asked.dir) (followed_by (route limit held asked) sending) (one-feed limit store asked.dir) (excludes-feed limit store asked.dir)
      (one-last (route limit held asked) one-route))

  text-passing : Text → HoldsPassing limit held asked.dir
  text-passing (text, is) = (is.setting.dataset, is.setting.holds, is.setting.passes)

  text-values : Text → first_bad_timetable asked ≡ None
  text-values (text, is) = none-bad-timetable asked is.setting.request is.setting.is_request

  excludes-judges : Excludes Text (timetable_judges limit held asked)
  excludes-judges = excludes-chain (values (judged_timetable asked)) after_values Text
      (excludes-by Text (first_bad_timetable asked ≡ None) (values (judged_timetable asked)) text-values (excludes-values (judged_timetable asked)))
      (excludes-chain (feed limit held asked.dir) (followed_by (route limit held asked) sending) Text
      (excludes-by Text (HoldsPassing limit held asked.dir) (feed limit held asked.dir) text-passing (excludes-feed limit store asked.dir))
      (excludes-last Text (route limit held asked) excludes-route))

  quiet-judges : Quiet (timetable_judges limit held asked)
  quiet-judges = quiet-chain (values (judged_timetable asked)) after_values (quiet-values (judged_timetable asked))
      (quiet-chain (feed limit held asked.dir) (followed_by (route limit held asked) sending) (quiet-feed limit store asked.dir) (quiet-last (route limit held asked) quiet-route))

  pub one-timetable : IsOne (timetable_plan limit held asked) held
  one-timetable = one-printed held (timetable_judges limit held asked) (passed (IsTimetableText limit held asked)) (Begins (IsTimetableText limit held asked))
      (IsTimetablePart limit held asked) 10 one-text one-judges (λ t f is. excludes-judges (t, is.1)) quiet-judges
