use Rattle.std.proofs.Common.{rules, tests, ap, sym, ◌∙◌, ◌≡◌, true, Bool, Option, Some, None, not, refl}
use Rattle.std.specs.Prelude.{◌&&◌, is_none, is_some}
use Rattle.std.specs.List.{list_any}
use Rattle.std.proofs.lemmas.Iterator.{YieldsList-from_slice}
use Rattle.std.proofs.lemmas.Iterator.Search.{any_from_yields_List}
use Rattle.gtfs_rows.specs.Runs.{is_not_last}
use Rattle.gtfs_advice.proofs.LastRows.{without_last}
use Rattle.gtfs_advice.proofs.trips.lacks_headsign.Goals as goal

is_missing : {X : Type 0} (o : Option X) (r : Bool) → is_some o ≡ not r → r ≡ true → is_none o ≡ true
is_missing None r other is = refl
is_missing (Some x) r other is = sym (other ∙ ap not is)

pub returns-then-is_none : goal.returns-then-is_none
returns-then-is_none c p t along headsign =
    let rest = c.in-Some.rows_before.now in
    let none : is_none t.trip_headsign ≡ true = ap is_none headsign ∙ is_missing c.args.trip.now.trip_headsign c.is_none.result c.is_none.ensures c.if-is_none.true in
    any_from_yields_List (λ r. is_none r.stop_headsign) _ _ c.any.result c.any.ensures.ran (YieldsList-from_slice rest c.iter.ensures.rest) (λ x b q k. search (rules, tests))
    ∙ without_last p c.args.rows.now rest c.in-Some.field-0-0.now t along c.in-Some.ensures.cases.0
    ∙ sym (ap (λ b. b && list_any (λ row. is_not_last t row && is_none row.stop_headsign) t.stop_rows) none)
