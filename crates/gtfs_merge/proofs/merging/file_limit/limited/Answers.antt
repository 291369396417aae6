use Rattle.std.proofs.Common.{◌≡◌, ◌∙◌, ℕ, Bool, ap, refl, sym}
use Rattle.std.specs.List.{list_any}
use Rattle.gtfs_rows.specs.Content.{Content}
use Rattle.gtfs_rows.specs.FileTexts.{is_longer}
use Rattle.gtfs_rows.specs.RowsInMemory.{content_of_parts}
use Rattle.gtfs_table.specs.TablesRead.{kept_files}
use Rattle.gtfs_merge.specs.Merged.{is_too_large}
use Rattle.gtfs_merge.proofs.merging.file_limit.limited.Goals as goal

-- what was told of the feed's files is told of those of the merged content
told : (m c : Content) (limit : ℕ) (large answer : Bool) → c ≡ m → large ≡ list_any (is_longer c limit) kept_files → large ≡ answer → is_too_large limit m ≡ answer
told m c limit large answer same is so = ap (λ x. list_any (is_longer x limit) kept_files) (sym same) ∙ sym is ∙ so

pub returns-then-is_too_large-clause-refused : goal.returns-then-is_too_large-clause-refused
returns-then-is_too_large-clause-refused c =
    told (content_of_parts c.args.rows.0) (content_of_parts c.in_ok-feed.feed) c.args.file_limit c.in_ok-is_too_large.is_too_large _
    (ap content_of_parts c.in_ok-feed.ensures.value) c.in_ok-is_too_large.ensures c.if-is_too_large.true

pub returns-clause-merged : goal.returns-clause-merged
returns-clause-merged c = record {
  small = told (content_of_parts c.args.rows.0) (content_of_parts c.in_ok-feed.feed) c.args.file_limit c.in_ok-is_too_large.is_too_large _
      (ap content_of_parts c.in_ok-feed.ensures.value) c.in_ok-is_too_large.ensures c.if-is_too_large.false;
  feed = c.in_ok-feed.ensures.value;
  names = refl;
}
