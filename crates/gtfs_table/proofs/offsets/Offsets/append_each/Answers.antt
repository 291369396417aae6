use Rattle.std.proofs.Common.{◌≡◌, ◌∙◌, ◌+◌, refl, ap, Bor, arith}
use Rattle.csv.specs.Records.{fields_of}
use Rattle.csv.specs.declared.record.ByteRecord.{ByteRecord}
use Rattle.gtfs_table.proofs.FieldFacts.{offsets-more, offsets-none, offsets-all, concat-fields, concat-take}
use Rattle.gtfs_table.proofs.offsets.Offsets.append_each.Goals as goal

pub loop-field-init : goal.loop-field-init
loop-field-init c =
    let e = c.into_iter-field-iterator.ensures.into_iter_gives in
    record { row = e.0; offsets = rw (e.1) (offsets-none c.args.first c.args.self.now (fields_of c.args.row.now)) }

pub overflow_add-first : goal.overflow_add-first
overflow_add-first c =
    let small = concat-take c.loop-field.field-iterator.at (fields_of c.args.row.now) in
    let whole = (concat-fields c.args.row.now.ends c.args.row.now.bytes c.requires.whole).1 in
    let size = c.loop-field.invariant.offsets.1 in
    omega arith

pub overflow_add-size : goal.overflow_add-size
overflow_add-size c =
    let small = concat-take (c.loop-field.field-iterator.at + 1) (fields_of c.args.row.now) in
    let whole = (concat-fields c.args.row.now.ends c.args.row.now.bytes c.requires.whole).1 in
    let inv = c.loop-field.invariant in
    let at = rw (inv.row) at c.in-Some.ensures.steps.1 in
    let size = (offsets-more c.args.first c.args.self.now (fields_of c.args.row.now) c.loop-field.field-iterator.at c.in-Some.field.now c.loop-field.self _ c.loop-field.size inv.offsets at refl).1 in
    omega arith

pub loop-field-preserved : goal.loop-field-preserved
loop-field-preserved c =
    let inv = c.loop-field.invariant in
    let step = c.in-Some.ensures.steps in
    let at = rw (inv.row) at step.1 in
    let more = offsets-more c.args.first c.args.self.now (fields_of c.args.row.now) c.loop-field.field-iterator.at c.in-Some.field.now c.loop-field.self c.push.new.self c.loop-field.size inv.offsets
    at c.in_ok-push.ensures.ok in
    let row : c.next.new.self.row.now ≡ c.args.row.now = ap (λ (r : Bor ByteRecord). r.now) step.0 ∙ inv.row in
    record { row = row; offsets = rw (step.2) more }

pub returns-clause-starts : goal.returns-clause-starts
returns-clause-starts c =
    let inv = c.loop-field.invariant in
    let at = rw (inv.row) at c.in-None.ensures.steps.1 in
    (offsets-all c.args.first c.args.self.now (fields_of c.args.row.now) c.loop-field.field-iterator.at c.loop-field.self c.loop-field.size inv.offsets at).0

pub returns-clause-size : goal.returns-clause-size
returns-clause-size c =
    let inv = c.loop-field.invariant in
    let at = rw (inv.row) at c.in-None.ensures.steps.1 in
    (offsets-all c.args.first c.args.self.now (fields_of c.args.row.now) c.loop-field.field-iterator.at c.loop-field.self c.loop-field.size inv.offsets at).1
