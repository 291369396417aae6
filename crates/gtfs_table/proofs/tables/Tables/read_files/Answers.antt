use Rattle.std.proofs.Common.{◌≡◌, ◌∙◌, ◌+◌, ℕ, Option, get_or, take, subst, refl, arith}
use Rattle.gtfs_devices.specs.Device.{MakesSomeCalls}
use Rattle.gtfs_devices.specs.Folder.{CountsFault, Store}
use Rattle.gtfs_table.specs.TablesRead.{AllHoldWithin, HoldsTable, HoldsWithin, RefusesDataset, kept_files}
use Rattle.gtfs_table.specs.declared.file.File.TheVariants as file
use Rattle.gtfs_table.specs.ReadingEnds.{EndsAtFile}
use Rattle.gtfs_table.specs.FileNames.{file_name}
use Rattle.gtfs_table.proofs.EndingFacts.{ends-at, of-fault, refused-from}
use Rattle.gtfs_table.proofs.FolderFacts.{calls-more, calls-none, calls-some, on_err-always, refused-read, sets-none, sets-more, within-more, within-none}
use Rattle.gtfs_table.proofs.tables.Tables.read_files.Goals as goal

pub loop-file-init : goal.loop-file-init
loop-file-init g c = record {
  same = refl;
  bound = refl;
  none = refl;
  called = calls-none (g.F.Folders.calls c.args.folders.now);
  sets = sets-none (g.F.Folders.held c.args.folders.now) c.args.dir.now c.args.self.now;
  within = within-none (g.F.Folders.limit c.args.folders.now) (g.F.Folders.held c.args.folders.now) c.args.dir.now;
}

pub loop-file-preserved : goal.loop-file-preserved
loop-file-preserved g c =
    let inv = c.loop-file.invariant in
    let held = g.F.Folders.held c.args.folders.now in
    let limit = g.F.Folders.limit c.args.folders.now in
    let x = get_or kept_files c.loop-file.file-index file.Agency in
    let holds = subst (λ (told : Option Store). HoldsTable told c.args.dir.now x c.in_ok-table.table) inv.same c.in_ok-table.ensures.reads in
    let short = subst (λ (n : ℕ). HoldsWithin n held c.args.dir.now x) inv.bound
    (subst (λ (told : Option Store). HoldsWithin (g.F.Folders.limit c.loop-file.folders) told c.args.dir.now x) inv.same c.in_ok-table.ensures.within) in
    record {
      same = c.read_file.ensures.unchanged ∙ inv.same;
      bound = c.read_file.ensures.same_limit ∙ inv.bound;
      none = c.in_ok-table.ensures.no_failure ∙ inv.none;
      called = calls-more c.loop-file.file-index 1 _ _ _ inv.called c.read_file.ensures.called;
      sets = sets-more held c.args.dir.now c.loop-file.file-index file.Agency c.args.self.now c.loop-file.self c.set.new.self c.in_ok-table.table inv.sets
          (omega (arith, c.loop-file-test.true)) holds c.set.ensures;
      within = within-more limit held c.args.dir.now c.loop-file.file-index file.Agency inv.within (omega (arith, c.loop-file-test.true)) short;
    }

pub returns-in_err-table-clause-called_until : goal.returns-in_err-table-clause-called_until
returns-in_err-table-clause-called_until g c =
    let before = g.F.Folders.calls c.args.folders.now in
    let after = g.F.Folders.calls c.read_file.new.folders in
    let count = c.loop-file.file-index in
    let made = calls-more count 1 before (g.F.Folders.calls c.loop-file.folders) after c.loop-file.invariant.called c.read_file.ensures.called in
    on_err-always c.from_residual.result (MakesSomeCalls 9 before after)
    (calls-some 9 (count + 1) before after (omega arith) (omega (arith, c.loop-file-test.true)) made)

pub returns-clause-within : goal.returns-clause-within
returns-clause-within g c =
    let all : c.loop-file.file-index ≡ 9 = omega (arith, c.loop-file-test.false, c.loop-file.auto.file-index-end) in
    subst (λ (n : ℕ). AllHoldWithin (g.F.Folders.limit c.args.folders.now) (g.F.Folders.held c.args.folders.now) c.args.dir.now (take n kept_files)) all c.loop-file.invariant.within

pub returns-in_err-table-clause-stopped : goal.returns-in_err-table-clause-stopped
returns-in_err-table-clause-stopped g c =
    let inv = c.loop-file.invariant in
    let n = c.loop-file.file-index in
    let dir = c.args.dir.now in
    let held = g.F.Folders.held c.args.folders.now in
    let limit = g.F.Folders.limit c.args.folders.now in
    let before = g.F.Folders.failure_count c.args.folders.now in
    let after = g.F.Folders.failure_count c.read_file.new.folders in
    let a = g.F.Folders.calls c.args.folders.now in
    let b = g.F.Folders.calls c.read_file.new.folders in
    let fault = c.in_err-table.field-0.0 in
    let name = file_name (get_or kept_files n file.Agency) in
    let refused = refused-from fault limit _ held _ dir name before _ after inv.bound inv.same inv.none c.in_err-table.ensures.refused in
    of-fault c.from_residual.result (λ e. EndsAtFile e limit held dir before after a b) fault c.from_residual.ensures.1
    (ends-at fault limit held dir before after n file.Agency a _ b (omega (arith, c.loop-file-test.true)) inv.within refused inv.called c.read_file.ensures.called)

pub returns-in_err-table-clause-counts_fault : goal.returns-in_err-table-clause-counts_fault
returns-in_err-table-clause-counts_fault g c =
    let before = g.F.Folders.failure_count c.args.folders.now in
    let after = g.F.Folders.failure_count c.read_file.new.folders in
    let fault = c.in_err-table.field-0.0 in
    of-fault c.from_residual.result (λ e. CountsFault e before after) fault c.from_residual.ensures.1
    (subst (λ (n : ℕ). CountsFault fault n after) c.loop-file.invariant.none c.in_err-table.ensures.counts_fault)

pub returns-in_err-table-clause-refused : goal.returns-in_err-table-clause-refused
returns-in_err-table-clause-refused g c =
    let inv = c.loop-file.invariant in
    let x = get_or kept_files c.loop-file.file-index file.Agency in
    let dir = c.args.dir.now in
    let held = g.F.Folders.held c.args.folders.now in
    let limit = g.F.Folders.limit c.args.folders.now in
    let before = g.F.Folders.failure_count c.args.folders.now in
    let after = g.F.Folders.failure_count c.read_file.new.folders in
    let fault = c.in_err-table.field-0.0 in
    let refused = refused-from fault limit _ held _ dir (file_name x) before _ after inv.bound inv.same inv.none c.in_err-table.ensures.refused in
    of-fault c.from_residual.result (λ e. RefusesDataset e limit held dir before after) fault c.from_residual.ensures.1
    (refused-read fault limit held dir x before before after (omega arith) refused)
