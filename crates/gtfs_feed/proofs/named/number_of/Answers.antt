use Rattle.std.proofs.Common.{rules, of_calls, ◌∙◌}
use Rattle.std.proofs.lemmas.Fn.{always_returns_same}
use Rattle.gtfs_field.specs.TextOrder.{text_cmp}
use Rattle.gtfs_feed.proofs.Found.{searched}
use Rattle.gtfs_feed.proofs.named.number_of.Goals as goal

pub returns : goal.returns
returns g c =
    let name = g.R.Named.name in
    let id = c.args.id.now in
    c.ok.ensures.value
    ∙ searched name id c.args.rows.now c.requires c.binary_search_by.result c.binary_search_by.ensures.bound
    (c.binary_search_by.ensures.position (λ r. text_cmp (name r) id) (always_returns_same _ _ _ (λ a r f k. search (rules, of_calls))))
