use Rattle.std.proofs.Common.{◌∙◌, ℕ, Option, arith, inl, inr, subst, sym}
use Rattle.std.proofs.lemmas.Result.{IfErr-weaker, IfOk-weaker}
use Rattle.gtfs_devices.specs.Folder.{Store}
use Rattle.gtfs_rows.specs.declared.parts.Parts.{Parts as Feed}
use Rattle.gtfs_commands.specs.Words.{merge_texts_of}
use Rattle.gtfs_cli.specs.FilesInFolders.{HoldsFeed}
use Rattle.gtfs_cli.specs.MergeParts.{merge_request_of}
use Rattle.gtfs_cli.specs.MergeCommand.{IsFoldersCause}
use Rattle.gtfs_cli.specs.ReadingCauses.{IsReadingCause}
use Rattle.gtfs_cli.specs.declared.commands.refusal.Refusal.TheVariants.{OutOfMemory}
use Rattle.gtfs_cli.proofs.FoldersRead.{has-passing}
use Rattle.gtfs_cli.proofs.MergeValues.{cutoff-day, near-bound}
use Rattle.gtfs_cli.proofs.ReadsThen.{reads-back, reads-done, reads-then, reads-up, told-up}
use Rattle.gtfs_cli.proofs.Unmerged.{is-merged, unmerged-by}
use Rattle.gtfs_cli.proofs.commands.merge.merge_folders.Goals as goal

pub merge_feeds-requires : goal.merge_feeds-requires
merge_feeds-requires g c = record {
  near = near-bound (merge_texts_of c.args.words.now).near c.args.values.now.near c.requires.near;
  cutoff = cutoff-day (merge_texts_of c.args.words.now).cutoff c.args.values.now.cutoff c.requires.cutoff;
}

-- ---- the first folder

pub returns-in_err-draft-clause-refused : goal.returns-in_err-draft-clause-refused
returns-in_err-draft-clause-refused g c =
    let F = g.F.Folders in
    let old = c.args.folders.now in
    let r = c.in_err-draft.field-0.0 in
    told-up c.from_residual.result r (IsFoldersCause (F.limit old) (F.held old) (merge_texts_of c.args.words.now) (F.failure_count old) (F.failure_count c.read_draft.new.folders))
    c.from_residual.ensures.1 (inl c.in_err-draft.ensures.refused)

pub returns-in_err-a-clause-refused : goal.returns-in_err-a-clause-refused
returns-in_err-a-clause-refused g c =
    let F = g.F.Folders in
    let old = c.args.folders.now in
    told-up c.from_residual-in_err-a.result OutOfMemory
    (IsFoldersCause (F.limit old) (F.held old) (merge_texts_of c.args.words.now) (F.failure_count old) (F.failure_count c.read_draft.new.folders)) c.from_residual-in_err-a.ensures.1
    (inl c.in_ok-draft.ensures.reads.asks.no_failure)

-- ---- the second

pub returns-in_err-draft-2-clause-refused : goal.returns-in_err-draft-2-clause-refused
returns-in_err-draft-2-clause-refused g c =
    let F = g.F.Folders in
    let old = c.args.folders.now in
    let y = F.failure_count c.read_draft-2.new.folders in
    let asked = merge_texts_of c.args.words.now in
    let r = c.in_err-draft-2.field-0.0 in
    told-up c.from_residual-in_err-draft-2.result r (IsFoldersCause (F.limit old) (F.held old) asked (F.failure_count old) y) c.from_residual-in_err-draft-2.ensures.1
    (inr (
      has-passing (F.limit old) (F.held old) asked.a c.in_ok-draft.draft c.in_ok-draft.ensures.read,
      inl (reads-back 10 _ _ _ (λ (l : ℕ) (h : Option Store) (n : ℕ). IsReadingCause l h asked.b n y r) c.in_ok-draft.ensures.reads c.in_err-draft-2.ensures.refused),
    ))

pub returns-in_err-draft-2-clause-reads : goal.returns-in_err-draft-2-clause-reads
returns-in_err-draft-2-clause-reads g c =
    reads-then 10 10 _ _ _ _ _ c.in_ok-draft.ensures.reads
    (reads-up 10 10 _ _ _ c.in_err-draft-2.field-0.0 (omega arith) c.from_residual-in_err-draft-2.ensures.1 c.in_err-draft-2.ensures.reads)

pub returns-in_err-b-clause-refused : goal.returns-in_err-b-clause-refused
returns-in_err-b-clause-refused g c =
    let F = g.F.Folders in
    let old = c.args.folders.now in
    told-up c.from_residual-in_err-b.result OutOfMemory
    (IsFoldersCause (F.limit old) (F.held old) (merge_texts_of c.args.words.now) (F.failure_count old) (F.failure_count c.read_draft-2.new.folders)) c.from_residual-in_err-b.ensures.1
    (inl (c.in_ok-draft-2.ensures.reads.asks.no_failure ∙ c.in_ok-draft.ensures.reads.asks.no_failure))

pub returns-in_err-b-clause-reads : goal.returns-in_err-b-clause-reads
returns-in_err-b-clause-reads g c = reads-done 20 _ _ _ _ (reads-then 10 10 _ _ _ _ _ c.in_ok-draft.ensures.reads c.in_ok-draft-2.ensures.reads)

-- ---- the merge

pub returns-clause-merged : goal.returns-clause-merged
returns-clause-merged g c =
    let F = g.F.Folders in
    let old = c.args.folders.now in
    let asked = merge_texts_of c.args.words.now in
    let first = subst (λ (f : Feed). HoldsFeed (F.limit old) (F.held old) asked.a f) (sym c.in_ok-a.ensures) c.in_ok-draft.ensures.read in
    let second = subst (λ (f : Feed). HoldsFeed (F.limit old) (F.held old) asked.b f) (sym c.in_ok-b.ensures)
    (reads-back 10 _ _ _ (λ (l : ℕ) (h : Option Store) (n : ℕ). HoldsFeed l h asked.b c.in_ok-draft-2.draft) c.in_ok-draft.ensures.reads c.in_ok-draft-2.ensures.read) in
    IfOk-weaker c.merge_feeds.result _ _
    (λ m is. is-merged (F.limit old) (F.held old) asked c.in_ok-a.a c.in_ok-b.b first second (merge_request_of c.args.values.now) c.requires m is
    c.merge_feeds.ensures.departures)
    c.merge_feeds.ensures.merged

pub returns-clause-refused : goal.returns-clause-refused
returns-clause-refused g c =
    let F = g.F.Folders in
    let old = c.args.folders.now in
    let asked = merge_texts_of c.args.words.now in
    let first = subst (λ (f : Feed). HoldsFeed (F.limit old) (F.held old) asked.a f) (sym c.in_ok-a.ensures) c.in_ok-draft.ensures.read in
    let second = subst (λ (f : Feed). HoldsFeed (F.limit old) (F.held old) asked.b f) (sym c.in_ok-b.ensures)
    (reads-back 10 _ _ _ (λ (l : ℕ) (h : Option Store) (n : ℕ). HoldsFeed l h asked.b c.in_ok-draft-2.draft) c.in_ok-draft.ensures.reads c.in_ok-draft-2.ensures.read) in
    IfErr-weaker c.merge_feeds.result _ _
    (unmerged-by (F.limit old) (F.held old) asked c.in_ok-a.a c.in_ok-b.b first second (merge_request_of c.args.values.now) c.requires
    (F.failure_count old) (F.failure_count c.read_draft-2.new.folders) (c.in_ok-draft-2.ensures.reads.asks.no_failure ∙ c.in_ok-draft.ensures.reads.asks.no_failure))
    c.merge_feeds.ensures.refused

pub returns-clause-reads : goal.returns-clause-reads
returns-clause-reads g c = reads-done 20 _ _ _ _ (reads-then 10 10 _ _ _ _ _ c.in_ok-draft.ensures.reads c.in_ok-draft-2.ensures.reads)
