use Rattle.std.proofs.Common.{Bool, Err, Option, inl, refl, subst, arith}
use Rattle.gtfs_devices.specs.Folder.{Store}
use Rattle.gtfs_table.specs.TablesRead.{kept_files}
use Rattle.gtfs_rows.specs.RowsInMemory.{content_of_parts}
use Rattle.gtfs_rows.proofs.Passing.{written_form}
use Rattle.gtfs_commands.specs.Words.{merge_texts_of}
use Rattle.gtfs_cli.specs.RefusalOrder.{IsFirstBad}
use Rattle.gtfs_cli.specs.MergeOptions.{judged_merge}
use Rattle.gtfs_cli.specs.MergeParts.{merge_request_of}
use Rattle.gtfs_cli.specs.MergeCommand.{merge_plan, HoldsFiles, IsFoldersCause, IsWritingEnd}
use Rattle.gtfs_cli.specs.MergeReport.{names_report}
use Rattle.gtfs_cli.specs.CommandPlan.{Ends}
use Rattle.gtfs_cli.specs.Refusals.{TellsFolders}
use Rattle.gtfs_cli.specs.declared.commands.refusal.Refusal.{Refusal}
use Rattle.gtfs_cli.proofs.Plans.{ends-refused, err-up}
use Rattle.gtfs_cli.proofs.ReadBack.{reads-again}
use Rattle.gtfs_cli.proofs.ReadsThen.{asks-done, asks-none, asks-then}
use Rattle.gtfs_cli.proofs.Unmerged.{ends-merged, folders-cause, no-folders-cause, no-written-folders, none-bad-merge, none-merged, writing-cause, writing-left}
use Rattle.gtfs_cli.proofs.commands.merge.print_merge.Goals as goal

pub returns-in_err-values : goal.returns-in_err-values
returns-in_err-values g c =
    let limit = g.F.Folders.limit c.args.folders.now in
    let held = g.F.Folders.held c.args.folders.now in
    let asked = merge_texts_of c.args.words.now in
    let r = c.in_err-values.field-0.0 in
    let bad = c.in_err-values.ensures.refused in
    err-up c.from_residual.result r (Ends (merge_plan limit held asked) _ _) c.from_residual.ensures.1
    (ends-refused (merge_plan limit held asked) _ _ _ r
    (none-merged limit held asked held refl r (λ is. subst (λ (e : Refusal). IsFirstBad (judged_merge asked) e) is bad)
    (λ path is. subst (λ (e : Refusal). IsFirstBad (judged_merge asked) e) is bad))
    (inl (inl bad)) {T = Bool} 0 (omega arith) (asks-none 0 _ (Err r) r refl))

pub returns-in_err-merged : goal.returns-in_err-merged
returns-in_err-merged g c =
    let limit = g.F.Folders.limit c.args.folders.now in
    let held = g.F.Folders.held c.args.folders.now in
    let asked = merge_texts_of c.args.words.now in
    let x = g.F.Folders.failure_count c.args.folders.now in
    let y = g.F.Folders.failure_count c.merge_folders.new.folders in
    let r = c.in_err-merged.field-0.0 in
    let bad = c.in_err-merged.ensures.refused in
    let reads = c.in_err-merged.ensures.reads in
    let none = none-bad-merge asked (merge_request_of c.in_ok-values.values) c.in_ok-values.ensures.read in
    err-up c.from_residual-in_err-merged.result r (Ends (merge_plan limit held asked) _ _) c.from_residual-in_err-merged.ensures.1
    (ends-refused (merge_plan limit held asked) _ _ _ r
    (none-merged limit held asked _ reads.unchanged r (λ is. no-folders-cause limit held asked x y (subst (λ (e : Refusal). IsFoldersCause limit held asked x y e) is bad))
    (λ path is. no-written-folders limit held asked x y path (subst (λ (e : Refusal). IsFoldersCause limit held asked x y e) is bad)))
    (folders-cause limit held asked _ _ none r bad) 20 (omega arith) reads.asks)

pub returns-in_err-write_feed : goal.returns-in_err-write_feed
returns-in_err-write_feed g c =
    let limit = g.F.Folders.limit c.args.folders.now in
    let held = g.F.Folders.held c.args.folders.now in
    let asked = merge_texts_of c.args.words.now in
    let now = g.F.Folders.held c.write_feed.new.folders in
    let x = g.F.Folders.failure_count c.args.folders.now in
    let y = g.F.Folders.failure_count c.write_feed.new.folders in
    let m = c.in_ok-merged.merged in
    let f = content_of_parts m.feed in
    let report = names_report c.in_ok-values.values.near m.names in
    let r = c.in_err-write_feed.field-0.0 in
    let reads = c.in_ok-merged.ensures.reads in
    let asks = c.in_err-write_feed.ensures.asks in
    let none = none-bad-merge asked (merge_request_of c.in_ok-values.values) c.in_ok-values.ensures.read in
    let ends = subst (λ (h : Option Store). IsWritingEnd h now x y asked.out f r) reads.unchanged
    (subst (λ n. IsWritingEnd (g.F.Folders.held c.merge_folders.new.folders) now n y asked.out f r) reads.asks.no_failure c.in_err-write_feed.ensures.refused) in
    let all = asks-then 20 9 _ _ _ m (Err r) reads.asks asks in
    err-up c.from_residual-in_err-write_feed.result r (Ends (merge_plan limit held asked) _ _) c.from_residual-in_err-write_feed.ensures.1
    (ends-refused (merge_plan limit held asked) _ _ _ r (writing-left limit held asked f report c.in_ok-merged.ensures.merged x y now r ends)
    (writing-cause limit held asked _ _ none f report c.in_ok-merged.ensures.merged held now r
    (λ is. (subst (λ (e : Refusal). TellsFolders x y e) is all.told, refl)) ends) 29 (omega arith) all)

pub returns : goal.returns
returns g c =
    let limit = g.F.Folders.limit c.args.folders.now in
    let held = g.F.Folders.held c.args.folders.now in
    let asked = merge_texts_of c.args.words.now in
    let now = g.F.Folders.held c.write_feed.new.folders in
    let m = c.in_ok-merged.merged in
    let f = content_of_parts m.feed in
    let reads = c.in_ok-merged.ensures.reads in
    let files = subst (λ (h : Option Store). HoldsFiles h now asked.out f kept_files) reads.unchanged c.in_ok-write_feed.ensures.written in
    let again = reads-again f held now asked.out (written_form f c.soundness.ensures.content) c.in_ok-write_feed.ensures.read files in
    ends-merged limit held asked f (names_report c.in_ok-values.values.near m.names) c.in_ok-merged.ensures.merged now c.in_ok-write_feed.ensures.named files again _ _ _ _ refl refl
    (none-bad-merge asked (merge_request_of c.in_ok-values.values) c.in_ok-values.ensures.read) c.print_names.result
    (asks-done 29 _ _ _ c.print_names.result (asks-then 20 9 _ _ _ m _ reads.asks c.in_ok-write_feed.ensures.asks)) c.print_names.ensures.sent
