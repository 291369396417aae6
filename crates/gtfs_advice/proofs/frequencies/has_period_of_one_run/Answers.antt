use Rattle.std.proofs.Common.{rules, tests, ap, sym, ◌∙◌}
use Rattle.std.specs.List.{list_any}
use Rattle.std.proofs.lemmas.Iterator.{YieldsList-from_slice}
use Rattle.std.proofs.lemmas.Iterator.Search.{any_from_yields_List}
use Rattle.gtfs_field.proofs.ListFacts.{any_mapped}
use Rattle.gtfs_rows.specs.RowsInMemory.{frequency_of}
use Rattle.gtfs_advice.specs.Trips.{has_single_run}
use Rattle.gtfs_advice.proofs.frequencies.has_period_of_one_run.Goals as goal

pub returns : goal.returns
returns c t is =
    let periods = c.args.periods.now in
    any_from_yields_List (λ f. has_single_run (frequency_of f)) _ _ c.any.result c.any.ensures.ran (YieldsList-from_slice periods c.iter.ensures.rest) (λ x b q k. search (rules, tests))
    ∙ sym (any_mapped has_single_run frequency_of periods) ∙ ap (list_any has_single_run) (sym is)
