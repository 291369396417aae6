use Rattle.gtfs_devices.proofs.ByTextLemmas.{by_text-inserted}
use Rattle.gtfs_devices.proofs.memory_store.MemoryStore.insert.Goals as goal

pub returns-clause-ok : goal.returns-clause-ok
returns-clause-ok c =
    cc (by_text-inserted c.in_ok-dir.dir c.args.files c.self.inside.folders c.insert.new.self c.in_ok-insert.ensures.updates, c.self.view_is, c.in_ok-dir.ensures.ok)
