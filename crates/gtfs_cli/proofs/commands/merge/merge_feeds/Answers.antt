use Rattle.std.proofs.Common.{◌∙◌, ap, subst, sym}
use Rattle.gtfs_rows.specs.RowsInMemory.{content_of_parts}
use Rattle.gtfs_merge.specs.Cutoff.{merged_as}
use Rattle.gtfs_merge.specs.Merged.{is_too_large}
use Rattle.gtfs_merge.specs.Merging.{IsRefusal}
use Rattle.gtfs_cli.proofs.commands.merge.merge_feeds.Goals as goal

pub returns-in-Err-TooLarge-clause-refused : goal.returns-in-Err-TooLarge-clause-refused
returns-in-Err-TooLarge-clause-refused c =
    let v = c.args.values.now in
    let a = content_of_parts c.args.a in
    let b = content_of_parts c.args.b in
    let refused = subst (IsRefusal v.near v.cutoff a b c.default.result.file_limit) c.in-Err-TooLarge.field-0-is c.in-Err-TooLarge.ensures.refused in
    (refused.0, ap (λ limit. is_too_large limit (merged_as v.near v.cutoff a b)) (sym c.default.ensures.0) ∙ refused.1)
