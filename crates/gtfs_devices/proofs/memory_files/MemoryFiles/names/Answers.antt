use Rattle.std.proofs.Common.{◌≡◌, rules, map, ap, sym, subst, ◌∙◌, string_bytes}
use Rattle.std.specs.BTreeMap as tree
use Rattle.std.specs.FinMap as finite
use Rattle.std.specs.Map.Iter.{deref}
use Rattle.std.proofs.lemmas.Map.Iter.{iter_end}
use Rattle.gtfs_devices.specs.Folder.{IsByBytes}
use Rattle.gtfs_devices.proofs.ByTextLemmas.{keys-by_text, map-deref}
use Rattle.gtfs_devices.proofs.NameLemmas.{keys-by_bytes}
use Rattle.gtfs_devices.proofs.memory_files.MemoryFiles.names.Goals as goal

pub returns : goal.returns
returns c =
    let all : map deref c.loop-name.yielded ≡ tree.keys c.self.inside.files = search (rules, iter_end) in
    let names : c.loop-name.names.items ≡ map string_bytes (tree.keys c.self.inside.files) =
    c.loop-name.invariant ∙ map-deref c.loop-name.yielded ∙ ap (map string_bytes) all in
    record {
      all = names ∙ sym (keys-by_text c.self.inside.files c.keys-name-items.ensures.ordered) ∙ ap (λ files. finite.keys files) c.self.view_is;
      ordered = subst IsByBytes (sym names) (keys-by_bytes (tree.keys c.self.inside.files) c.keys-name-items.ensures.ordered);
    }
