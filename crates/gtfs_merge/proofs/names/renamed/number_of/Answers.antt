use Rattle.std.proofs.Common.{rules, of_calls, ◌∙◌, ap, bytes_eq}
use Rattle.std.specs.Prelude.{position}
use Rattle.std.proofs.lemmas.Fn.{always_returns_same}
use Rattle.std.proofs.lemmas.List.{map-id}
use Rattle.gtfs_field.specs.TextOrder.{text_cmp}
use Rattle.gtfs_feed.proofs.Found.{searched}
use Rattle.gtfs_merge.proofs.names.renamed.number_of.Goals as goal

pub returns : goal.returns
returns c =
    let id = c.args.id.now in
    c.ok.ensures.value
    ∙ searched (λ text. text) id c.args.ids.now c.requires c.binary_search_by.result c.binary_search_by.ensures.bound
    (c.binary_search_by.ensures.position (λ text. text_cmp text id) (always_returns_same _ _ _ (λ a r f k. search (rules, of_calls))))
    ∙ ap (position (bytes_eq id)) (map-id c.args.ids.now)
