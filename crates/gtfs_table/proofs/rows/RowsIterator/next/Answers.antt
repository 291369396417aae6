use Rattle.std.proofs.Common.{◌≡◌, ◌∙◌, ◌+◌, ◌∷◌, sym, arith, rules}
use Rattle.gtfs_table.specs.Rows.{rows_past}
use Rattle.gtfs_table.proofs.RowFacts.{row_next, row_passed}
use Rattle.gtfs_table.proofs.rows.RowsIterator.next.Goals as goal

pub returns-then-has_value-clause-steps : goal.returns-then-has_value-clause-steps
returns-then-has_value-clause-steps c =
    let rs = c.loop-self.self-inside.records.now in
    sym c.loop-self.invariant.left ∙ row_next rs c.loop-self.self-inside.passed c.loop-self.invariant.passed (omega (arith, c.loop-self-test.true, c.loop-self.invariant.counted))
    c.record_after-record.result c.record_after-record.ensures (sym c.has_value.ensures ∙ c.if-has_value.true)

pub returns-then-has_value-clause-goes : goal.returns-then-has_value-clause-goes
returns-then-has_value-clause-goes c =
    let rs = c.loop-self.self-inside.records.now in
    let e : c.args.self.now ≡ (c.loop-self.self-inside.passed + 1, c.record_after-record.result) ∷ rows_past rs (c.loop-self.self-inside.passed + 1) =
    sym c.loop-self.invariant.left ∙ row_next rs c.loop-self.self-inside.passed c.loop-self.invariant.passed (omega (arith, c.loop-self-test.true, c.loop-self.invariant.counted))
    c.record_after-record.result c.record_after-record.ensures (sym c.has_value.ensures ∙ c.if-has_value.true) in
    rw e (search rules)

pub loop-self-preserved : goal.loop-self-preserved
loop-self-preserved c =
    let rs = c.loop-self.self-inside.records.now in
    record {
      left = sym (row_passed rs c.loop-self.self-inside.passed c.loop-self.invariant.passed (omega (arith, c.loop-self-test.true, c.loop-self.invariant.counted))
          c.record_after-record.result c.record_after-record.ensures (sym c.has_value.ensures ∙ c.if-has_value.false)) ∙ c.loop-self.invariant.left;
      passed = omega arith;
      counted = c.loop-self.invariant.counted;
      small = c.loop-self.invariant.small;
    }

pub overflow_add-self : goal.overflow_add-self
overflow_add-self c = omega (arith, c.loop-self-test.true, c.loop-self.invariant.small)
