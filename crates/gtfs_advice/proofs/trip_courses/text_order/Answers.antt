use Rattle.std.proofs.Common.{ap, sym, ◌∙◌}
use Rattle.std.specs.Cmp.{tied_itself}
use Rattle.std.proofs.lemmas.Bool.{eqb-true}
use Rattle.gtfs_field.proofs.TextOrderFacts.{texts_total}
use Rattle.gtfs_field.specs.TextOrder.{text_cmp}
use Rattle.gtfs_rows.specs.NamedRows.{text_of_number}
use Rattle.gtfs_advice.proofs.trip_courses.text_order.Goals as goal

pub returns-then-eq : goal.returns-then-eq
returns-then-eq c =
    let texts = c.args.headsigns.now in
    let a = c.args.a.0 in
    let b = c.args.b.0 in
    let same = eqb-true a b (sym c.eq.ensures ∙ c.if-eq.true) in
    sym (tied_itself texts_total (text_of_number texts a)) ∙ ap (λ n. text_cmp (text_of_number texts a) (text_of_number texts n)) same
