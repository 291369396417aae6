use Rattle.std.proofs.Common.{◌≡◌, Some, ap, subst, ◌∙◌}
use Rattle.std.proofs.lemmas.Result.{MatchResult-weaker}
use Rattle.gtfs_devices.specs.Folder.{RefusesRead}
use Rattle.gtfs_devices.specs.Held.{Held}
use Rattle.gtfs_devices.proofs.HeldLemmas.{read-refused}
use Rattle.gtfs_devices.proofs.memory_folders.MemoryFoldersFolders.read.Goals as goal

pub returns-clause-refused : goal.returns-clause-refused
returns-clause-refused c =
    let kept : c.self.inside.store ≡ c.args.self.now.store = ap (λ (h : Held). h.store) (c.self.view_is ∙ c.fails.ensures.after) in
    let bound : c.self.inside.limit ≡ c.args.self.now.limit = ap (λ (h : Held). h.limit) (c.self.view_is ∙ c.fails.ensures.after) in
    MatchResult-weaker c.read.result c.read.ensures (λ file e. tt) (λ fault r.
    subst (λ s. RefusesRead fault c.args.self.now.limit (Some s) c.args.dir.now c.args.name.now c.args.self.now.failures c.fails.new.self.failures) kept
    (subst (λ n. RefusesRead fault n (Some c.self.inside.store) c.args.dir.now c.args.name.now c.args.self.now.failures c.fails.new.self.failures) bound
    (read-refused c.self.inside.limit c.self.inside.store c.args.dir.now c.args.name.now c.args.self.now.failures c.fails.new.self.failures fault r)))
