use Rattle.std.proofs.Common.{◌∙◌}
use Rattle.std.specs.BTreeSet.{contains}
use Rattle.std.proofs.lemmas.Result.{on_ok_weaker}
use Rattle.gtfs_schema.specs.declared.code.Code.TheVariants as code
use Rattle.gtfs_schema.proofs.RuleFacts.{row_reported}
use Rattle.gtfs_row_rules.specs.RowKeys.{repeats_key}
use Rattle.gtfs_row_rules.proofs.KeyFacts.{has_more, repeated_among, seen_here}
use Rattle.gtfs_row_rules.proofs.keys.RepeatedKeyRowRules.report.Goals as goal

pub returns-clause-reported : goal.returns-clause-reported
returns-clause-reported g c =
    let x = c.args.file in
    let n = c.args.row in
    let rule = c.args.self.now in
    let key = g.K.Keys.key_at rule.keys in
    on_ok_weaker c.report_if.result (λ adds d before held next.
    let repeats = c.in_ok-repeats.ensures.answer ∙ seen_here g.K.Keys.parts key before n c.key.result _ held.1 c.key.ensures
    ∙ repeated_among key d x n before next.after next.split in
    row_reported d code.E09 x rule.column.now (repeats_key key d x) held.0 n _ _ next.is_row (rw (← repeats) adds)) c.report_if.ensures

pub returns-clause-holding : goal.returns-clause-holding
returns-clause-holding g c =
    let key = g.K.Keys.key_at c.args.self.now.keys in
    on_ok_weaker c.report_if.result (λ adds d before held next. (
      held.0,
      (λ q. has_more g.K.Keys.parts key before c.args.row g.K.Key.Ord.cmp g.met.K.Key.Ord.total g.met.K.Keys.alike
          c.key.result c.key.ensures q (contains g.K.Key.Ord.cmp c.args.self.now.seen q) (contains g.K.Key.Ord.cmp c.was_seen.new.seen q) (held.1 q) (c.in_ok-repeats.ensures.added q)),
    )) c.report_if.ensures
