use Rattle.std.proofs.lemmas.List.{take_rest}
use Rattle.gtfs_table.proofs.NearFacts.{texts-told}
use Rattle.gtfs_table.proofs.texts.Texts.near.Goals as goal

pub returns : goal.returns
returns c =
    let told = texts-told c.self.inside.starts c.self.inside.bytes.items c.args.self.now c.near-base.result.0 c.near-base.result.1.now c.args.start c.args.end c.self.view_is c.self.invariant.rising
    c.requires.start c.requires.end c.near-base.ensures.few c.near-base.ensures.told in
    rw (c.as_slice-bytes.ensures.value, take_rest c.self.inside.bytes.items c.near-base.result.0) told
