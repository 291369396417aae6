-- The content of a written content is the content.
use Rattle.std.proofs.Common.{◌≡◌, ◌+◌, ◌<◌, ℕ, List, [], ◌∷◌, length, get_or, map, true, false, Some, None, refl, sym, ap, ◌∙◌, arith, inl, inr}
use Rattle.std.specs.Prelude.{◌==◌, ◌||◌, not, bytes_eq, codes, option_and_then, unwrap_or, is_some}
use Rattle.std.specs.FinMap as table
use Rattle.std.specs.Cmp.{IsTotalOrder}
use Rattle.std.specs.Cmp.Lexicographic.{nat_list_cmp_total, lists_total, options_total}
use Rattle.std.specs.List.{list_all, range_with_len}
use Rattle.std.specs.Option.{option_cmp}
use Rattle.std.specs.declared.cmp.Ordering.{Ordering}
use Rattle.std.proofs.lemmas.Bool.{and_parts, or_cases, cases_Bool, not-true, eqb-true}
use Rattle.std.proofs.lemmas.List.{map-id}
use Rattle.gtfs_field.specs.TextOrder.{text_cmp}
use Rattle.gtfs_table.specs.declared.file.File.TheVariants as file
use Rattle.gtfs_table.specs.Rows.{rows, is_empty}
use Rattle.gtfs_table.proofs.BlankFacts.{no_text}
use Rattle.gtfs_schema.specs.RowConditions.{word_in}
use Rattle.gtfs_schema.specs.FieldValues.{as_word}
use Rattle.gtfs_schema.proofs.SiteFacts.{text_is}
use Rattle.gtfs_rows.specs.Content.{Content}
use Rattle.gtfs_rows.specs.TransferOrder.{by_key, transfer_key, transfer_key_cmp}
use Rattle.gtfs_rows.specs.ContentRead.{text_at, first_agency, agency_in, route_in, transfer_in, content_of}
use Rattle.gtfs_rows.specs.RowCells.{agency_cells, route_cells, transfer_cells, id_cell}
use Rattle.gtfs_rows.specs.Rows.{Agency, Route, Transfer}
use Rattle.gtfs_rows.specs.SoundContent.{IsSound, has_id, is_sound_agency, is_sound_route}
use Rattle.gtfs_rows.specs.WrittenContent.{written_beside}
use Rattle.gtfs_rows.proofs.Held.{text_antisymmetric}
use Rattle.gtfs_rows.proofs.RangeLists.{map_range}
use Rattle.gtfs_rows.proofs.RowTexts.{all_at}
use Rattle.gtfs_rows.proofs.ServicesAgain.{services_again}
use Rattle.gtfs_rows.proofs.TripsAgain.{by_key_again, stops_again, trips_again}
use Rattle.gtfs_rows.proofs.Views.{rows_are, value_at, word_at, number_in_at, given_at, choice_at}

-- ---- the order of transfers

pub same_option : {K : Type 0} {R : K → K → Ordering} → table.IsAntisymmetric R → table.IsAntisymmetric (option_cmp R)
same_option anti None None e = refl
same_option anti None (Some y) e = cc
same_option anti (Some x) None e = cc
same_option anti (Some x) (Some y) e = ap Some (anti x y e)

pub transfer_total : IsTotalOrder transfer_key_cmp
transfer_total = lists_total (options_total nat_list_cmp_total)

pub transfer_antisymmetric : table.IsAntisymmetric transfer_key_cmp
transfer_antisymmetric = table.slice_cmp-IsAntisymmetric (same_option text_antisymmetric)

-- ---- ids that may be empty

-- the id in a cell, and else another
id_or : (t other : List ℕ) → (is_empty t ≡ true → other ≡ t) → unwrap_or (option_and_then as_word (id_cell t)) other ≡ t
id_or t other same = elim (cases_Bool (is_empty t)) [
  | inl empty ↦ rw empty (same empty)
  | inr filled ↦ rw filled refl
]

module _ (others : List (List ℕ)) (c : Content) (sound : IsSound c) where
  agency_id_again : (k : ℕ) (e : Agency) → k < length c.agencies → text_at (written_beside others c) file.Agency (k + 2) "agency_id" ≡ (get_or c.agencies k e).agency_id
  agency_id_again k e within =
      ap (λ v. unwrap_or (option_and_then as_word v) []) (value_at others c file.Agency c.agencies agency_cells refl (sound.cells file.Agency) k e within (codes "agency_id") refl)
      ∙ id_or (get_or c.agencies k e).agency_id [] (λ empty. sym (no_text (get_or c.agencies k e).agency_id empty))

  agency_again : (k : ℕ) (e : Agency) → k < length c.agencies → agency_in (written_beside others c) (k + 2) ≡ get_or c.agencies k e
  agency_again k e within =
      let a = get_or c.agencies k e in
      λ i. record {
        agency_id = agency_id_again k e within i;
        agency_name = given_at others c file.Agency c.agencies agency_cells refl (sound.cells file.Agency) k e within "agency_name" refl a.agency_name refl i;
        agency_url = given_at others c file.Agency c.agencies agency_cells refl (sound.cells file.Agency) k e within "agency_url" refl a.agency_url refl i;
        agency_timezone = given_at others c file.Agency c.agencies agency_cells refl (sound.cells file.Agency) k e within "agency_timezone" refl a.agency_timezone refl i;
        agency_lang = word_at others c file.Agency c.agencies agency_cells refl (sound.cells file.Agency) k e within "agency_lang" refl a.agency_lang refl i;
        agency_phone = word_at others c file.Agency c.agencies agency_cells refl (sound.cells file.Agency) k e within "agency_phone" refl a.agency_phone refl i;
        agency_fare_url = word_at others c file.Agency c.agencies agency_cells refl (sound.cells file.Agency) k e within "agency_fare_url" refl a.agency_fare_url refl i;
        agency_email = word_at others c file.Agency c.agencies agency_cells refl (sound.cells file.Agency) k e within "agency_email" refl a.agency_email refl i;
      }

  pub agencies_again : by_key text_cmp (λ a. a.agency_id) (map (agency_in (written_beside others c)) (rows (written_beside others c) file.Agency)) ≡ c.agencies
  agencies_again =
      ap (λ ns. by_key text_cmp (λ a. a.agency_id) (map (agency_in (written_beside others c)) ns)) (rows_are others c file.Agency c.agencies agency_cells refl (sound.cells file.Agency))
      ∙ ap (by_key text_cmp (λ a. a.agency_id)) (map_range (agency_in (written_beside others c)) (λ a. a) 2 c.agencies (record { at = agency_again }) ∙ map-id c.agencies)
      ∙ by_key_again text_cmp nat_list_cmp_total text_antisymmetric (λ a. a.agency_id) c.agencies sound.in_order.agencies

  -- an empty id of an agency is that of the only one
  pub only_agency : (rest : List Agency) (q : List ℕ) → list_all (is_sound_agency c) rest ≡ true → has_id (λ a. a.agency_id) rest q ≡ true → is_empty q ≡ true → length c.agencies ≡ 1
  only_agency [] q fine has empty = cc
  only_agency (a ∷ rest) q fine has empty =
      let parts = and_parts (is_sound_agency c a) (list_all (is_sound_agency c) rest) fine in
      elim (or_cases (bytes_eq a.agency_id q) (has_id (λ b. b.agency_id) rest q) has) [
        | inl here ↦
            let none : is_empty a.agency_id ≡ true = ap is_empty (text_is a.agency_id q here) ∙ empty in
            elim (or_cases (not (is_empty a.agency_id)) (length c.agencies == 1) (and_parts (not (is_empty a.agency_id) || (length c.agencies == 1)) _ parts.0).0) [
              | inl filled ↦ absurd (let no = not-true (is_empty a.agency_id) filled in differ (sym none ∙ no))
              | inr one ↦ eqb-true (length c.agencies) 1 one
            ]
        | inr later ↦ only_agency rest q parts.1 later empty
      ]
    where
      differ : true ≡ false → ⊥
      differ e = cc

  first_is : (rest : List Agency) (q : List ℕ) → length rest ≡ 1 → has_id (λ a. a.agency_id) rest q ≡ true → (d : Agency) → (get_or rest 0 d).agency_id ≡ q
  first_is [] q one has d = absurd (omega arith)
  first_is (a ∷ []) q one has d = elim (or_cases (bytes_eq a.agency_id q) false has) [
    | inl here ↦ text_is a.agency_id q here
    | inr later ↦ cc
  ]
  first_is (a ∷ b ∷ rest) q one has d = absurd (omega arith)

  nobody : Agency
  nobody = record { agency_id = []; agency_name = []; agency_url = []; agency_timezone = []; agency_lang = None; agency_phone = None; agency_fare_url = None; agency_email = None }

  first_again : (q : List ℕ) → has_id (λ a. a.agency_id) c.agencies q ≡ true → is_empty q ≡ true → first_agency (written_beside others c) (rows (written_beside others c) file.Agency) ≡ q
  first_again q has empty =
      let one = only_agency c.agencies q sound.agencies has empty in
      ap (first_agency (written_beside others c)) (rows_are others c file.Agency c.agencies agency_cells refl (sound.cells file.Agency) ∙ ap (range_with_len 2) one)
      ∙ agency_id_again 0 nobody (omega (arith, one))
      ∙ first_is c.agencies q one has nobody

  route_again : (k : ℕ) (e : Route) → k < length c.routes → route_in (written_beside others c) (k + 2) ≡ get_or c.routes k e
  route_again k e within =
      let r = get_or c.routes k e in
      let known = (and_parts (has_id (λ a. a.agency_id) c.agencies r.agency_id) (is_some r.route_short_name || is_some r.route_long_name) (all_at (is_sound_route c) c.routes k e sound.routes within)).0 in
      let agency : unwrap_or (word_in (written_beside others c) file.Routes (k + 2) "agency_id") (first_agency (written_beside others c) (rows (written_beside others c) file.Agency)) ≡ r.agency_id =
      ap (λ v. unwrap_or (option_and_then as_word v) (first_agency (written_beside others c) (rows (written_beside others c) file.Agency))) (value_at others c file.Routes c.routes route_cells refl (sound.cells file.Routes) k e within (codes "agency_id") refl)
      ∙ id_or r.agency_id (first_agency (written_beside others c) (rows (written_beside others c) file.Agency)) (first_again r.agency_id known) in
      λ i. record {
        route_id = given_at others c file.Routes c.routes route_cells refl (sound.cells file.Routes) k e within "route_id" refl r.route_id refl i;
        agency_id = agency i;
        route_short_name = word_at others c file.Routes c.routes route_cells refl (sound.cells file.Routes) k e within "route_short_name" refl r.route_short_name refl i;
        route_long_name = word_at others c file.Routes c.routes route_cells refl (sound.cells file.Routes) k e within "route_long_name" refl r.route_long_name refl i;
        route_desc = word_at others c file.Routes c.routes route_cells refl (sound.cells file.Routes) k e within "route_desc" refl r.route_desc refl i;
        route_type = choice_at others c file.Routes c.routes route_cells refl (sound.cells file.Routes) k e within "route_type" refl r.route_type refl i;
        route_url = word_at others c file.Routes c.routes route_cells refl (sound.cells file.Routes) k e within "route_url" refl r.route_url refl i;
        route_color = choice_at others c file.Routes c.routes route_cells refl (sound.cells file.Routes) k e within "route_color" refl r.route_color refl i;
        route_text_color = choice_at others c file.Routes c.routes route_cells refl (sound.cells file.Routes) k e within "route_text_color" refl r.route_text_color refl i;
        route_sort_order = number_in_at others c file.Routes c.routes route_cells refl (sound.cells file.Routes) k e within "route_sort_order" refl r.route_sort_order refl i;
      }

  pub routes_again : by_key text_cmp (λ r. r.route_id) (map (route_in (written_beside others c)) (rows (written_beside others c) file.Routes)) ≡ c.routes
  routes_again =
      ap (λ ns. by_key text_cmp (λ r. r.route_id) (map (route_in (written_beside others c)) ns)) (rows_are others c file.Routes c.routes route_cells refl (sound.cells file.Routes))
      ∙ ap (by_key text_cmp (λ r. r.route_id)) (map_range (route_in (written_beside others c)) (λ r. r) 2 c.routes (record { at = route_again }) ∙ map-id c.routes)
      ∙ by_key_again text_cmp nat_list_cmp_total text_antisymmetric (λ r. r.route_id) c.routes sound.in_order.routes

  transfer_again : (k : ℕ) (e : Transfer) → k < length c.transfers → transfer_in (written_beside others c) (k + 2) ≡ get_or c.transfers k e
  transfer_again k e within =
      let t = get_or c.transfers k e in
      λ i. record {
        from_stop_id = word_at others c file.Transfers c.transfers transfer_cells refl (sound.cells file.Transfers) k e within "from_stop_id" refl t.from_stop_id refl i;
        to_stop_id = word_at others c file.Transfers c.transfers transfer_cells refl (sound.cells file.Transfers) k e within "to_stop_id" refl t.to_stop_id refl i;
        from_route_id = word_at others c file.Transfers c.transfers transfer_cells refl (sound.cells file.Transfers) k e within "from_route_id" refl t.from_route_id refl i;
        to_route_id = word_at others c file.Transfers c.transfers transfer_cells refl (sound.cells file.Transfers) k e within "to_route_id" refl t.to_route_id refl i;
        from_trip_id = word_at others c file.Transfers c.transfers transfer_cells refl (sound.cells file.Transfers) k e within "from_trip_id" refl t.from_trip_id refl i;
        to_trip_id = word_at others c file.Transfers c.transfers transfer_cells refl (sound.cells file.Transfers) k e within "to_trip_id" refl t.to_trip_id refl i;
        transfer_type = choice_at others c file.Transfers c.transfers transfer_cells refl (sound.cells file.Transfers) k e within "transfer_type" refl t.transfer_type refl i;
        min_transfer_time = number_in_at others c file.Transfers c.transfers transfer_cells refl (sound.cells file.Transfers) k e within "min_transfer_time" refl t.min_transfer_time refl i;
      }

  pub transfers_again : by_key transfer_key_cmp transfer_key (map (transfer_in (written_beside others c)) (rows (written_beside others c) file.Transfers)) ≡ c.transfers
  transfers_again =
      ap (λ ns. by_key transfer_key_cmp transfer_key (map (transfer_in (written_beside others c)) ns)) (rows_are others c file.Transfers c.transfers transfer_cells refl (sound.cells file.Transfers))
      ∙ ap (by_key transfer_key_cmp transfer_key) (map_range (transfer_in (written_beside others c)) (λ t. t) 2 c.transfers (record { at = transfer_again }) ∙ map-id c.transfers)
      ∙ by_key_again transfer_key_cmp transfer_total transfer_antisymmetric transfer_key c.transfers sound.in_order.transfers

  -- the content read again is the same
  pub content_again : content_of (written_beside others c) ≡ c
  content_again = λ i. record {
    agencies = agencies_again i;
    stops = stops_again others c sound i;
    routes = routes_again i;
    services = services_again others c sound i;
    trips = trips_again others c sound i;
    transfers = transfers_again i;
  }
