use Rattle.std.proofs.Common.{refl, sym, ◌∙◌, ap}
use Rattle.gtfs_devices.specs.Held.{Held}
use Rattle.gtfs_devices.proofs.HeldLemmas.{rises, differs-nowhere}
use Rattle.gtfs_devices.proofs.memory_folders.MemoryFoldersFolders.write.Goals as goal

pub returns-then-fails-clause-refused : goal.returns-then-fails-clause-refused
returns-then-fails-clause-refused c =
    let after = c.fails.ensures.after in (
      rises c.args.self.now c.fails.new.self (sym c.fails.ensures.which ∙ c.if-fails.true) after,
      (c.fails.new.self.store, refl, differs-nowhere c.args.self.now.store c.fails.new.self.store c.args.dir.now c.args.name.now (ap (λ (h : Held). h.store) after)),
    )
