use Rattle.std.proofs.Common.{ap, sym, ◌∙◌, Some}
use Rattle.std.specs.FinMap as finite
use Rattle.gtfs_devices.proofs.ByTextLemmas.{get-by_text}
use Rattle.gtfs_devices.proofs.memory_files.MemoryFiles.get.Goals as goal

pub returns-in-Some : goal.returns-in-Some
returns-in-Some c =
    ap Some c.as_slice.ensures ∙ c.in-Some.ensures.value ∙ sym (get-by_text c.self.inside.files c.args.name.now)
    ∙ ap (λ files. finite.get files c.args.name.now) c.self.view_is

pub returns-in-None : goal.returns-in-None
returns-in-None c =
    c.in-None.ensures.value ∙ sym (get-by_text c.self.inside.files c.args.name.now)
    ∙ ap (λ files. finite.get files c.args.name.now) c.self.view_is
