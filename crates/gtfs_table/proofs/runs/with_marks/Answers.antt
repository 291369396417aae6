use Rattle.std.proofs.Common.{◌≡◌, ◌∙◌, ◌+◌, length, ap, Bor, arith}
use Rattle.csv.specs.Records.{fields_of}
use Rattle.csv.specs.declared.record.ByteRecord.{ByteRecord}
use Rattle.gtfs_table.proofs.FieldFacts.{first-there}
use Rattle.gtfs_table.proofs.MarkedFacts.{mark-more, mark-next, marks-all, marks-none}
use Rattle.gtfs_table.proofs.runs.with_marks.Goals as goal

pub loop-field-init : goal.loop-field-init
loop-field-init c =
    let e = c.into_iter-field-iterator.ensures.into_iter_gives in
    let first = rw (c.len-end.ensures) at c.push_reserved.ensures.items in
    record {
      row = e.0;
      marks = rw (e.1, c.len-end.ensures) (marks-none c.args.bytes.items c.push_reserved.new.self.items (length (fields_of c.args.row.now) + 1) (fields_of c.args.row.now) first);
      count = omega (arith, e.1);
      room = omega arith;
    }

pub overflow_add-end-in-loop-field : goal.overflow_add-end-in-loop-field
overflow_add-end-in-loop-field c =
    let inv = c.loop-field.invariant in
    let at = rw (inv.row) at c.in-Some.ensures.steps.1 in
    let next = mark-next (length (fields_of c.args.row.now) + 1) c.args.row.now.ends c.args.row.now.bytes c.loop-field.field-iterator.at c.in-Some.field.now c.args.bytes.items
    c.loop-field.bytes.items c.loop-field.end inv.marks c.requires.whole at in
    omega (arith, next, c.requires.short)

pub overflow_cast-end-in-loop-field : goal.overflow_cast-end-in-loop-field
overflow_cast-end-in-loop-field c =
    let inv = c.loop-field.invariant in
    let at = rw (inv.row) at c.in-Some.ensures.steps.1 in
    let next = mark-next (length (fields_of c.args.row.now) + 1) c.args.row.now.ends c.args.row.now.bytes c.loop-field.field-iterator.at c.in-Some.field.now c.args.bytes.items
    c.loop-field.bytes.items c.loop-field.end inv.marks c.requires.whole at in
    omega (arith, next, c.requires.short)

pub push_reserved-requires-in-loop-field : goal.push_reserved-requires-in-loop-field
push_reserved-requires-in-loop-field c =
    let inv = c.loop-field.invariant in
    let at = rw (inv.row) at c.in-Some.ensures.steps.1 in
    let there = first-there (fields_of c.args.row.now) c.loop-field.field-iterator.at c.in-Some.field.now at in
    omega (arith, there, inv.count, inv.room, c.requires.room)

pub loop-field-preserved : goal.loop-field-preserved
loop-field-preserved c =
    let inv = c.loop-field.invariant in
    let step = c.in-Some.ensures.steps in
    let at = rw (inv.row) at step.1 in
    let more = mark-more c.args.bytes.items (length (fields_of c.args.row.now) + 1) (fields_of c.args.row.now) c.loop-field.field-iterator.at c.in-Some.field.now c.loop-field.bytes.items
    c.push_reserved-in-loop-field.new.self.items c.loop-field.end inv.marks at c.push_reserved-in-loop-field.ensures.items in
    let row : c.next.new.self.row.now ≡ c.args.row.now = ap (λ (r : Bor ByteRecord). r.now) step.0 ∙ inv.row in
    record { row = row; marks = rw (step.2) more; count = omega (arith, step.2); room = omega arith }

pub returns-clause-marks : goal.returns-clause-marks
returns-clause-marks c =
    let inv = c.loop-field.invariant in
    let at = rw (inv.row) at c.in-None.ensures.steps.1 in
    marks-all c.args.bytes.items (length (fields_of c.args.row.now) + 1) (fields_of c.args.row.now) c.loop-field.field-iterator.at c.loop-field.bytes.items c.loop-field.end inv.marks at
