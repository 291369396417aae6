-- What the slots of listed rows say is true.
use Rattle.std.proofs.Common.{◌≡◌, ℕ, ◌<◌, List, length, get_or, bytes_eq, true, Some, sym, ap, ◌∙◌}
use Rattle.gtfs_schema.specs.declared.id_row.IdRow.{IdRow}
use Rattle.gtfs_schema.specs.steps.Ids.{AnswersRow, FirstRows, IsIdIndex}
use Rattle.gtfs_schema.specs.steps.IdRows.{id_of}
use Rattle.gtfs_schema.specs.steps.IdSlots.{held_id}
use Rattle.gtfs_schema.proofs.IdFacts.{found_there}
use Rattle.gtfs_schema.proofs.IdNumberFacts.{numbered_at}
use Rattle.gtfs_schema.proofs.SiteFacts.{text_itself}

-- the slot of a listed row
pub row_answers : (i : FirstRows) (listed : List IdRow) → IsIdIndex i listed → (at : ℕ) (r : IdRow) → at < length listed → r ≡ get_or listed at r → AnswersRow i r at
row_answers i listed index at r within is s of there =
    let h = of there in
    let id = held_id s in
    let same : bytes_eq (id_of r) id ≡ true = ap (λ k. bytes_eq k id) (sym h.held) ∙ text_itself id in
    record {
      row = ap Some h.row ∙ sym (found_there id listed index.ascending at r within is same) ∙ index.first id;
      number = ap Some h.number ∙ numbered_at i listed index id at r within is same;
    }
