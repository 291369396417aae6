use Rattle.std.proofs.Common.{◌≡◌, ◌∙◌, ◌+◌, refl, ap, Bor, arith}
use Rattle.csv.specs.Records.{fields_of}
use Rattle.csv.specs.declared.record.ByteRecord.{ByteRecord}
use Rattle.gtfs_table.proofs.FieldFacts.{first-there, offsets-more, offsets-none, offsets-all, concat-fields, concat-take}
use Rattle.gtfs_table.proofs.blocks.push_starts.Goals as goal

pub loop-field-init : goal.loop-field-init
loop-field-init c =
    let e = c.into_iter-field-iterator.ensures.into_iter_gives in
    record { row = e.0; starts = rw (e.1) (offsets-none c.args.start c.args.distances.items (fields_of c.args.row.now)); count = omega (arith, e.1); room = refl }

pub push_reserved-requires : goal.push_reserved-requires
push_reserved-requires c =
    let inv = c.loop-field.invariant in
    let at = rw (inv.row) at c.in-Some.ensures.steps.1 in
    let there = first-there (fields_of c.args.row.now) c.loop-field.field-iterator.at c.in-Some.field.now at in
    omega arith

pub loop-field-preserved : goal.loop-field-preserved
loop-field-preserved c =
    let inv = c.loop-field.invariant in
    let step = c.in-Some.ensures.steps in
    let at = rw (inv.row) at step.1 in
    let more = offsets-more c.args.start c.args.distances.items (fields_of c.args.row.now) c.loop-field.field-iterator.at c.in-Some.field.now c.loop-field.distances.items
    c.push_reserved.new.self.items c.loop-field.size inv.starts at c.push_reserved.ensures.items in
    let row : c.next.new.self.row.now ≡ c.args.row.now = ap (λ (r : Bor ByteRecord). r.now) step.0 ∙ inv.row in
    record { row = row; starts = rw (step.2) more; count = omega (arith, step.2); room = omega arith }

pub returns-clause-starts : goal.returns-clause-starts
returns-clause-starts c =
    let inv = c.loop-field.invariant in
    let at = rw (inv.row) at c.in-None.ensures.steps.1 in
    (offsets-all c.args.start c.args.distances.items (fields_of c.args.row.now) c.loop-field.field-iterator.at c.loop-field.distances.items c.loop-field.size inv.starts at).0

pub returns-clause-size : goal.returns-clause-size
returns-clause-size c =
    let inv = c.loop-field.invariant in
    let at = rw (inv.row) at c.in-None.ensures.steps.1 in
    (offsets-all c.args.start c.args.distances.items (fields_of c.args.row.now) c.loop-field.field-iterator.at c.loop-field.distances.items c.loop-field.size inv.starts at).1

pub overflow_add-start : goal.overflow_add-start
overflow_add-start c =
    let small = concat-take c.loop-field.field-iterator.at (fields_of c.args.row.now) in
    let whole = (concat-fields c.args.row.now.ends c.args.row.now.bytes c.requires.whole).1 in
    omega arith

pub overflow_cast-start : goal.overflow_cast-start
overflow_cast-start c =
    let small = concat-take c.loop-field.field-iterator.at (fields_of c.args.row.now) in
    let whole = (concat-fields c.args.row.now.ends c.args.row.now.bytes c.requires.whole).1 in
    omega arith

pub overflow_add-size : goal.overflow_add-size
overflow_add-size c =
    let small = concat-take (c.loop-field.field-iterator.at + 1) (fields_of c.args.row.now) in
    let whole = (concat-fields c.args.row.now.ends c.args.row.now.bytes c.requires.whole).1 in
    let inv = c.loop-field.invariant in
    let at = rw (inv.row) at c.in-Some.ensures.steps.1 in
    let size = (offsets-more c.args.start c.args.distances.items (fields_of c.args.row.now) c.loop-field.field-iterator.at c.in-Some.field.now c.loop-field.distances.items _ c.loop-field.size
    inv.starts at refl).1 in
    omega arith
