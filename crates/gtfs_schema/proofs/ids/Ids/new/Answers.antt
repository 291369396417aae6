use Rattle.std.proofs.lemmas.List.Filters.{dedup_is}
use Rattle.std.proofs.Common.{◌∙◌}
use Rattle.gtfs_schema.specs.References.{id_column}
use Rattle.gtfs_schema.specs.steps.Ids.{first_rows, IsIdIndex, ListsFirstRows}
use Rattle.gtfs_schema.proofs.IdFacts.{as_listed, ascending_once, listed_sorted}
use Rattle.gtfs_schema.proofs.ids.Ids.new.Goals as goal

-- sorted by their ids, and each id once, the rows are those of the column
index : (c : goal.In_ok-slots) → IsIdIndex (first_rows c.args.tables.now c.args.file (id_column c.args.file)) c.dedup.new.self.items
index c =
    let rows : ListsFirstRows (first_rows c.args.tables.now c.args.file (id_column c.args.file)) c.in_ok-rows.rows.items = rw c.first_key_column.ensures at c.in_ok-rows.ensures in
    rw (dedup_is _ _ _ c.dedup.ensures.filtered) (record {
      ascending = ascending_once _ c.in_ok-sort.ensures.sorted;
      first = λ id. listed_sorted id _ _ c.in_ok-sort.ensures.stable ∙ rows id;
    })

pub invariant_of-result : goal.invariant_of-result
invariant_of-result c = rw (as_listed _ _ (index c).first) (record {
  index = index c;
  clear = rw c.deref.ensures.value at c.are_clear-are_clear.ensures;
  answers = c.in_ok-slots.ensures _ (rw (← c.deref-2.ensures.value) at (index c));
})

pub returns : goal.returns
returns c = as_listed _ _ (index c).first
