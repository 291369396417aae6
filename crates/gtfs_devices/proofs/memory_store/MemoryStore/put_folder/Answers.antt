use Rattle.std.proofs.Common.{sym}
use Rattle.gtfs_devices.proofs.ByTextLemmas.{put_folder-present}
use Rattle.gtfs_devices.proofs.memory_store.MemoryStore.put_folder.Goals as goal

pub returns-in-Some-clause-ok : goal.returns-in-Some-clause-ok
returns-in-Some-clause-ok c = sym (put_folder-present c.args.self.now c.args.dir.now c.in-Some.field-0.now (sym c.in-Some.ensures))
