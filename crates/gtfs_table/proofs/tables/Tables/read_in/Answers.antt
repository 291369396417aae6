use Rattle.std.proofs.Common.{ℕ, sym, subst, inl, inr}
use Rattle.gtfs_devices.specs.Device.{MakesSomeCalls}
use Rattle.gtfs_devices.specs.Folder.{CountsFault}
use Rattle.gtfs_table.specs.ReadingEnds.{EndsReading}
use Rattle.gtfs_table.specs.TablesRead.{AreOthers}
use Rattle.gtfs_devices.specs.declared.folders.FolderFault.{FolderFault}
use Rattle.gtfs_devices.specs.declared.folders.FolderFault.TheVariants.{OutOfMemory}
use Rattle.gtfs_table.proofs.EndingFacts.{ends-from, of-fault}
use Rattle.gtfs_table.proofs.FolderFacts.{calls-then, on_err-always, sets-all}
use Rattle.gtfs_table.proofs.OtherNames.{others-of}
use Rattle.gtfs_table.proofs.tables.Tables.read_in.Goals as goal

pub of_names-tables-requires : goal.of_names-tables-requires
of_names-tables-requires g c =
    let names = c.in_ok-names.names.items in
    subst AreOthers (sym c.in_ok-other_names.ensures) (others-of names c.in_ok-names.ensures.ordered)

pub returns-clause-reads : goal.returns-clause-reads
returns-clause-reads g c =
    let names = c.in_ok-names.names.items in
    let told = g.F.Folders.held c.args.folders.now in
    let sets = rw (c.names.ensures.unchanged) at c.in_ok-read_files.ensures.sets in
    sets-all told c.args.dir.now names c.of_names-tables.result c.read_files.new.self c.in_ok-names.ensures.lists (rw (← c.in_ok-other_names.ensures) c.of_names-tables.ensures) sets

pub returns-in_err-read_files-clause-called_until : goal.returns-in_err-read_files-clause-called_until
returns-in_err-read_files-clause-called_until g c =
    let most = MakesSomeCalls 10 (g.F.Folders.calls c.args.folders.now) (g.F.Folders.calls c.read_files.new.folders) in
    on_err-always c.from_residual-in_err-read_files.result most
    (calls-then 9 _ _ _ c.names.ensures.called c.in_err-read_files.ensures.called_until)

pub returns-in_err-names-clause-stopped : goal.returns-in_err-names-clause-stopped
returns-in_err-names-clause-stopped g c =
    let held = g.F.Folders.held c.args.folders.now in
    let limit = g.F.Folders.limit c.args.folders.now in
    let before = g.F.Folders.failure_count c.args.folders.now in
    let after = g.F.Folders.failure_count c.names.new.self in
    let a = g.F.Folders.calls c.args.folders.now in
    let b = g.F.Folders.calls c.names.new.self in
    let ends = λ (e : FolderFault). EndsReading e limit held c.args.dir.now before after a b in
    of-fault c.from_residual.result ends c.in_err-names.field-0.0 c.from_residual.ensures.1
    (inl (record { refused = c.in_err-names.ensures.refused; called = c.names.ensures.called }))

pub returns-in_err-other_names-clause-stopped : goal.returns-in_err-other_names-clause-stopped
returns-in_err-other_names-clause-stopped g c =
    let held = g.F.Folders.held c.args.folders.now in
    let limit = g.F.Folders.limit c.args.folders.now in
    let before = g.F.Folders.failure_count c.args.folders.now in
    let after = g.F.Folders.failure_count c.names.new.self in
    let a = g.F.Folders.calls c.args.folders.now in
    let b = g.F.Folders.calls c.names.new.self in
    let ends = λ (e : FolderFault). EndsReading e limit held c.args.dir.now before after a b in
    of-fault c.from_residual-in_err-other_names.result ends OutOfMemory c.from_residual-in_err-other_names.ensures.1
    (inl (record { refused = tt; called = c.names.ensures.called }))

pub returns-in_err-read_files-clause-stopped : goal.returns-in_err-read_files-clause-stopped
returns-in_err-read_files-clause-stopped g c =
    let held = g.F.Folders.held c.args.folders.now in
    let limit = g.F.Folders.limit c.args.folders.now in
    let before = g.F.Folders.failure_count c.args.folders.now in
    let after = g.F.Folders.failure_count c.read_files.new.folders in
    let a = g.F.Folders.calls c.args.folders.now in
    let b = g.F.Folders.calls c.read_files.new.folders in
    let ends = λ (e : FolderFault). EndsReading e limit held c.args.dir.now before after a b in
    let fault = c.in_err-read_files.field-0.0 in
    let file = ends-from fault limit _ held _ c.args.dir.now before _ after _ b c.names.ensures.same_limit c.names.ensures.unchanged c.in_ok-names.ensures.no_failure
    c.in_err-read_files.ensures.stopped in
    of-fault c.from_residual-in_err-read_files.result ends fault c.from_residual-in_err-read_files.ensures.1
    (inr (g.F.Folders.calls c.names.new.self, c.names.ensures.called, file))

pub returns-in_err-read_files-clause-counts_fault : goal.returns-in_err-read_files-clause-counts_fault
returns-in_err-read_files-clause-counts_fault g c =
    let before = g.F.Folders.failure_count c.args.folders.now in
    let after = g.F.Folders.failure_count c.read_files.new.folders in
    let fault = c.in_err-read_files.field-0.0 in
    of-fault c.from_residual-in_err-read_files.result (λ e. CountsFault e before after) fault c.from_residual-in_err-read_files.ensures.1
    (subst (λ (n : ℕ). CountsFault fault n after) c.in_ok-names.ensures.no_failure c.in_err-read_files.ensures.counts_fault)
