use Rattle.std.proofs.Common.{◌≡◌, ◌∙◌, ◌+◌, ◌<◌, List, length, refl, sym, subst, arith}
use Rattle.std.specs.List.{All}
use Rattle.std.proofs.lemmas.Bool.{eqb-false}
use Rattle.std.proofs.lemmas.List.{take_all}
use Rattle.std.proofs.lemmas.List.Elements.{All-more, All-nil}
use Rattle.gtfs_table.specs.TablesRead.{kept_files}
use Rattle.gtfs_table.proofs.FolderFacts.{calls-none}
use Rattle.gtfs_table.specs.declared.file.File.{File}
use Rattle.gtfs_table.specs.declared.file.File.TheVariants as file
use Rattle.gtfs_rows.specs.RowsInMemory.{content_of_parts}
use Rattle.gtfs_cli.specs.MergeParts.{ReadsAs}
use Rattle.gtfs_cli.specs.MergeCommand.{IsWritingEnd}
use Rattle.gtfs_cli.proofs.Filed.{file-ends, file-held, files-held, none-held}
use Rattle.gtfs_cli.proofs.ReadsThen.{asks-as, asks-made, asks-then, asks-up, told-up}
use Rattle.gtfs_cli.proofs.commands.merge.write_feed.Goals as goal

pub loop-file-init : goal.loop-file-init
loop-file-init g c = record {
  holds = none-held (content_of_parts c.args.feed.now) c.args.dir.now (g.F.Folders.held c.args.folders.now);
  read = All-nil (ReadsAs (content_of_parts c.args.feed.now));
  asks = asks-made 0 _ _ _ refl (calls-none (g.F.Folders.calls c.args.folders.now));
  within = omega arith;
}

pub loop-file-preserved : goal.loop-file-preserved
loop-file-preserved g c = record {
  holds = file-held (content_of_parts c.args.feed.now) c.args.dir.now _ _ _ c.loop-file.file-index file.Agency (omega (arith, c.loop-file-test.true)) c.loop-file.invariant.holds
      c.in_ok-write_file.ensures.written;
  read = All-more (ReadsAs (content_of_parts c.args.feed.now)) kept_files c.loop-file.file-index file.Agency (omega (arith, c.loop-file-test.true)) c.loop-file.invariant.read c.in_ok-write_file.ensures.read;
  asks = asks-then c.loop-file.file-index 1 _ _ _ _ _ c.loop-file.invariant.asks c.in_ok-write_file.ensures.asks;
  within = omega (arith, c.loop-file-test.true);
}

pub returns-clause-written : goal.returns-clause-written
returns-clause-written g c =
    files-held (content_of_parts c.args.feed.now) c.args.dir.now _ _ c.loop-file.file-index (omega (arith, c.loop-file-test.false)) c.loop-file.invariant.holds

pub returns-clause-read : goal.returns-clause-read
returns-clause-read g c =
    subst (λ (xs : List File). All (ReadsAs (content_of_parts c.args.feed.now)) xs) (take_all c.loop-file.file-index kept_files (omega (arith, c.loop-file-test.false))) c.loop-file.invariant.read

pub returns-clause-asks : goal.returns-clause-asks
returns-clause-asks g c =
    let all : c.loop-file.file-index ≡ 9 = omega (arith, c.loop-file.invariant.within, c.loop-file-test.false) in
    asks-as c.loop-file.file-index 9 _ _ _ all c.loop-file.invariant.asks

pub returns-in_err-write_file-clause-refused : goal.returns-in_err-write_file-clause-refused
returns-in_err-write_file-clause-refused g c =
    let F = g.F.Folders in
    let old = c.args.folders.now in
    let mid = c.loop-file.folders in
    let new = c.write_file.new.folders in
    let f = content_of_parts c.args.feed.now in
    let r = c.in_err-write_file.field-0.0 in
    let named : 0 < length c.args.dir.now = omega (arith, eqb-false (length c.args.dir.now) 0 (sym c.is_empty.ensures ∙ c.if-is_empty.false)) in
    told-up c.from_residual.result r (IsWritingEnd (F.held old) (F.held new) (F.failure_count old) (F.failure_count new) c.args.dir.now f) c.from_residual.ensures.1
    (file-ends f c.args.dir.now (F.held old) (F.held mid) (F.held new) (F.failure_count old) (F.failure_count mid) (F.failure_count new) c.loop-file.file-index file.Agency named
    (omega (arith, c.loop-file-test.true)) c.loop-file.invariant.holds c.loop-file.invariant.asks.no_failure r c.in_err-write_file.ensures.refused)

pub returns-in_err-write_file-clause-asks : goal.returns-in_err-write_file-clause-asks
returns-in_err-write_file-clause-asks g c =
    asks-up (c.loop-file.file-index + 1) 9 _ _ c.from_residual.result c.in_err-write_file.field-0.0 (omega (arith, c.loop-file-test.true)) c.from_residual.ensures.1
    (asks-then c.loop-file.file-index 1 _ _ _ _ _ c.loop-file.invariant.asks c.in_err-write_file.ensures.asks)
