use Rattle.std.proofs.Common.{rules, tests, sym, ◌∙◌}
use Rattle.std.specs.Prelude.{is_some}
use Rattle.std.proofs.lemmas.Iterator.{YieldsList-from_slice}
use Rattle.std.proofs.lemmas.Iterator.Search.{all_from_yields_List}
use Rattle.gtfs_stop_times.specs.RowTimes.{left_at}
use Rattle.gtfs_advice.proofs.Rows.{at_one_moment}
use Rattle.gtfs_advice.proofs.stop_times.is_at_one_moment.Goals as goal

pub returns-then-eq : goal.returns-then-eq
returns-then-eq c p =
    let rows = c.args.rows.now in
    all_from_yields_List (λ r. is_some (left_at r)) _ _ c.all.result c.all.ensures.ran (YieldsList-from_slice rows c.iter.ensures.rest) (λ x b q k. search (rules, tests))
    ∙ at_one_moment p rows c.in-Some-Some.left c.in-Some-Some.reached (sym (c.first_left_at.ensures p) ∙ c.in-Some-Some.is-0) (sym (c.last_reached_at.ensures p) ∙ c.in-Some-Some.is-1) (sym c.eq.ensures ∙ c.if-eq.true)
