use Rattle.std.proofs.Common.{◌≡◌, string_bytes, None, ap, sym, ◌∙◌}
use Rattle.std.specs.FinMap as finite
use Rattle.gtfs_devices.specs.ByText.{by_text}
use Rattle.gtfs_devices.proofs.ByTextLemmas.{put-through, kept-through, put-absent, get-by_text}
use Rattle.std.proofs.lemmas.Result.{on_ok_weaker, on_err_weaker}
use Rattle.gtfs_devices.proofs.memory_store.MemoryStore.put.Goals as goal

pub returns-in-Some-clause-ok : goal.returns-in-Some-clause-ok
returns-in-Some-clause-ok c =
    let through = put-through c.args.self.now c.self.inside.folders (c.get_mut.follows.lender c.put.new.self) c.args.dir.now c.args.name.now c.args.bytes.now c.in-Some.files.now c.put.new.self
    c.self.view_is (sym c.in-Some.ensures.value) (c.get_mut.follows.holds c.put.new.self).3 in
    let same : finite.insert c.in-Some.files.now (string_bytes c.in_ok-name.name) c.new-bytes.result ≡ finite.insert c.in-Some.files.now c.args.name.now c.args.bytes.now
    = cc (c.in_ok-name.ensures.ok, c.new-bytes.ensures, c.in_ok-from_slice.ensures.items) in
    on_ok_weaker c.put.result (λ written. through (written ∙ same)) c.put.ensures.ok

pub returns-in-Some-clause-err : goal.returns-in-Some-clause-err
returns-in-Some-clause-err c =
    let through = kept-through c.args.self.now c.self.inside.folders (c.get_mut.follows.lender c.put.new.self) c.args.dir.now c.in-Some.files.now c.put.new.self
    c.self.view_is (sym c.in-Some.ensures.value) (c.get_mut.follows.holds c.put.new.self).3 in
    on_err_weaker c.put.result through c.put.ensures.err

pub returns-in_ok-put-in-None-clause-ok : goal.returns-in_ok-put-in-None-clause-ok
returns-in_ok-put-in-None-clause-ok c =
    let none : finite.get c.args.self.now c.args.dir.now ≡ None
    = ap (λ store. finite.get store c.args.dir.now) (sym c.self.view_is) ∙ get-by_text c.self.inside.folders c.args.dir.now ∙ sym c.in-None.ensures.value in
    let absent = put-absent c.args.self.now c.args.dir.now c.args.name.now c.args.bytes.now none in
    let before : by_text c.get_mut.follows.lender-at-none.entries ≡ c.args.self.now = ap (λ m. by_text m.entries) c.get_mut.follows.holds-at-none ∙ c.self.view_is in
    let files : c.put-in-None.new.self ≡ finite.insert finite.empty c.args.name.now c.args.bytes.now
    = cc (c.in_ok-put-in-None.ensures.ok, c.new-files.ensures, c.in_ok-name.ensures.ok, c.new-bytes.ensures, c.in_ok-from_slice.ensures.items) in
    on_ok_weaker c.insert.result (λ added. cc (added, absent, before, files)) c.insert.ensures.ok
