use Rattle.std.proofs.Common.{[], ◌∙◌, refl}
use Rattle.gtfs_table.proofs.RowFacts.{all_taken, numbers_more, turn}
use Rattle.gtfs_schema.proofs.RowFacts.{reported_all, reported_more, reported_none}
use Rattle.gtfs_table.specs.Rows.{numbers}
use Rattle.gtfs_row_rules.specs.RowRules.{IsNext}
use Rattle.gtfs_row_rules.proofs.rule.judge_rows.Goals as goal

pub loop-row-init : goal.loop-row-init
loop-row-init g c = record {
  holding = c.requires;
  same = refl;
  reported = reported_none c.args.tables.now (g.R.RowRules.picks c.args.rules.now c.args.file) c.args.found.now;
}

pub loop-row-preserved : goal.loop-row-preserved
loop-row-preserved g c =
    let d = c.args.tables.now in
    let x = c.args.file in
    let taken = c.loop-row.yielded in
    let n = c.in-Some.row in
    let t = turn d x _ taken _ (c.into_iter-row-iterator.ensures.into_iter_gives ∙ c.rows-row-items.ensures) c.loop-row.yielded_by n c.in-Some.record _ c.in-Some.ensures.steps in
    let next : IsNext d x (numbers taken) n c.in-Some.record = record { after = numbers _; is_row = t.is_row; record_is = t.record_is; split = t.split } in
    record {
      holding = rw (numbers_more taken n c.in-Some.record) (c.in_ok-report.ensures.holding d (numbers taken) c.loop-row.invariant.holding next);
      same = c.report.ensures.same ∙ c.loop-row.invariant.same;
      reported = reported_more d (g.R.RowRules.picks c.args.rules.now x) taken n _ _ _ _ c.loop-row.invariant.reported
          (rw (← c.loop-row.invariant.same) (c.in_ok-report.ensures.reported d (numbers taken) c.loop-row.invariant.holding next));
    }

pub returns : goal.returns
returns g c =
    let d = c.args.tables.now in
    let x = c.args.file in
    let all = all_taken d x _ c.loop-row.yielded _ (c.into_iter-row-iterator.ensures.into_iter_gives ∙ c.rows-row-items.ensures) c.loop-row.yielded_by c.in-None.ensures.steps.0 in
    reported_all d x (g.R.RowRules.picks c.args.rules.now x) _ _
    (g.met.R.RowRules.silent c.args.rules.now d x [] c.requires) (rw all at c.loop-row.invariant.reported)
