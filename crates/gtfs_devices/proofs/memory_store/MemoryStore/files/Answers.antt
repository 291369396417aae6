use Rattle.std.proofs.Common.{ap, sym, ◌∙◌}
use Rattle.std.specs.FinMap as finite
use Rattle.gtfs_devices.proofs.ByTextLemmas.{get-by_text}
use Rattle.gtfs_devices.proofs.memory_store.MemoryStore.files.Goals as goal

pub returns : goal.returns
returns c =
    c.get.ensures.value ∙ sym (get-by_text c.self.inside.folders c.args.dir.now)
    ∙ ap (λ store. finite.get store c.args.dir.now) c.self.view_is
