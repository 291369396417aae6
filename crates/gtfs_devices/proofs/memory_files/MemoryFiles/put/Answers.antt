use Rattle.std.proofs.Common.{ap, ◌∙◌, string_bytes}
use Rattle.std.specs.FinMap as finite
use Rattle.gtfs_devices.proofs.ByTextLemmas.{by_text-inserted}
use Rattle.gtfs_devices.proofs.memory_files.MemoryFiles.put.Goals as goal

pub returns-clause-ok : goal.returns-clause-ok
returns-clause-ok c =
    by_text-inserted c.args.name c.args.bytes c.self.inside.files c.insert.new.self c.in_ok-insert.ensures.updates
    ∙ ap (λ files. finite.insert files (string_bytes c.args.name) c.args.bytes) c.self.view_is
