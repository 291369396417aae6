use Rattle.std.proofs.Common.{◌≡◌, ◌∙◌, ap, subst, sym}
use Rattle.std.proofs.lemmas.Result.{IfOk-weaker}
use Rattle.gtfs_feed.specs.FeedDrafts.{parts_with}
use Rattle.gtfs_rows.specs.RowsInMemory.{IsSoundParts}
use Rattle.gtfs_feed.proofs.draft.FeedDraft.into_feed.Goals as goal

pub assemble-requires : goal.assemble-requires
assemble-requires c = subst IsSoundParts (sym (c.joined.ensures.whole ∙ ap (parts_with c.self.inside.rows) c.in_ok-stop_times.ensures)) c.self.invariant

pub returns : goal.returns
returns c = IfOk-weaker c.assemble.result (λ feed. feed ≡ c.joined.result) (λ feed. feed ≡ c.args.self)
    (λ feed same. same ∙ c.joined.ensures.whole ∙ ap (parts_with c.self.inside.rows) c.in_ok-stop_times.ensures ∙ c.self.view_is) c.assemble.ensures.value
