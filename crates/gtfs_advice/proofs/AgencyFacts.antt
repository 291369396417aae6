-- Agencies of sound parts, by their numbers and by their ids.
use Rattle.std.proofs.Common.{◌≡◌, ◌∙◌, ◌+◌, ◌<◌, ◌++◌, ℕ, Bool, true, false, List, Some, length, get_or, take, sym, ap, subst, arith}
use Rattle.std.specs.Prelude.{◌==◌, not, bytes_eq, nat_lt}
use Rattle.std.specs.List.{list_all, list_any, slice_get}
use Rattle.std.specs.declared.cmp.Ordering.TheVariants.{Less}
use Rattle.std.proofs.lemmas.List.{length-map}
use Rattle.std.proofs.lemmas.Option.{get_or_from_slice_get, slice_get_within}
use Rattle.gtfs_field.specs.TextOrder.{text_cmp}
use Rattle.gtfs_field.proofs.ListFacts.{any_mapped, mapped_at}
use Rattle.gtfs_rows.specs.declared.agency.Agency.{Agency}
use Rattle.gtfs_rows.specs.declared.parts.Parts.{Parts}
use Rattle.gtfs_rows.specs.Content.{Content}
use Rattle.gtfs_rows.specs.NamedRows.{text_of_number}
use Rattle.gtfs_rows.specs.TransferOrder.{Ascends}
use Rattle.gtfs_rows.specs.RowsInMemory.{IsSoundParts, agency_ids, agency_of, content_of_parts, route_of}
use Rattle.gtfs_rows.proofs.SameElements.{pairs-map}
use Rattle.gtfs_rows.proofs.SoundOrder.{in_order}
use Rattle.gtfs_advice.specs.declared.advice.Advice.{Advice}
use Rattle.gtfs_advice.specs.declared.advice.Subject.TheVariants as subject
use Rattle.gtfs_advice.specs.declared.code.Code.{Code}
use Rattle.gtfs_advice.specs.Advice.{Tells, advice_on, agency_rules, answers_of, row, said}
use Rattle.gtfs_advice.specs.Agencies.{has_no_route}
use Rattle.gtfs_advice.specs.NumberMarks.{AreMarks}
use Rattle.gtfs_advice.proofs.Marking.{named}
use Rattle.gtfs_advice.proofs.Telling.{told-more}

module _ (p : Parts) (sound : IsSoundParts p) where
  ascend : Ascends text_cmp (agency_ids p)
  ascend = pairs-map (λ a. a.agency_id) (λ a b. text_cmp a b ≡ Less) p.agencies (in_order p sound).agencies

  count : length (agency_ids p) ≡ length p.agencies
  count = length-map p.agencies (λ a. a.agency_id)

  abbrev pub IsMarked : List Bool → Type 0
  IsMarked marks = AreMarks (length p.agencies) (λ k. list_any (λ r. r.agency_id.0 == k) p.routes) marks

  module _ (n : ℕ) (a : Agency) (there : slice_get p.agencies n ≡ Some a) where
    within : n < length p.agencies
    within = slice_get_within p.agencies n a there

    id : text_of_number (agency_ids p) n ≡ a.agency_id
    id = get_or_from_slice_get (agency_ids p) n a.agency_id _ (mapped_at (λ a. a.agency_id) p.agencies n a there)

    no_route : (marks : List Bool) → IsMarked marks → has_no_route (content_of_parts p) (agency_of a) ≡ not (get_or marks n false)
    no_route marks are =
        let known = subst (λ k. list_all (λ r. nat_lt r.agency_id.0 k) p.routes ≡ true) (sym count) sound.names_rows.routes in
        let routes = named (λ r. Some r.agency_id.0) (agency_ids p) ascend p.routes known n (omega (arith, count, within)) in
        ap not (any_mapped (λ r. bytes_eq r.agency_id a.agency_id) (route_of p) p.routes
        ∙ ap (λ t. list_any (λ r. bytes_eq (route_of p r).agency_id t) p.routes) (sym id) ∙ sym routes ∙ sym (are.at n within))

    pub told : (marks : List Bool) → IsMarked marks → (answers : List (Code × Bool))
        → ((c : Content) → has_no_route c (agency_of a) ≡ not (get_or marks n false) → answers ≡ answers_of (agency_rules c) (agency_of a))
        → (old before after : List Advice) → after ≡ before ++ said (subject.Agency (record { 0 = n })) answers
        → let c = content_of_parts p in Tells p (advice_on (λ x. x.agency_id) (agency_rules c) (take n c.agencies)) old before
        → Tells p (advice_on (λ x. x.agency_id) (agency_rules c) (take (n + 1) c.agencies)) old after
    told marks are answers right old before after behind so_far =
        let c = content_of_parts p in
        told-more p (λ x. x.agency_id) (agency_rules c) c.agencies n (agency_of a) (subject.Agency (record { 0 = n })) answers old before after (mapped_at agency_of p.agencies n a there) (ap row id) within
        (right c (no_route marks are)) behind so_far
