-- Transfers stand in one order by the numbers of what they name and by its ids.
use Rattle.std.proofs.Common.{◌≡◌, ◌<◌, ◌∙◌, ℕ, List, [], Bool, true, Option, Some, None, length, refl, sym, ap, inl, inr, arith}
use Rattle.std.specs.Prelude.{◌&&◌, option_map}
use Rattle.std.specs.Cmp.{IsTotalOrder, nat_cmp_total, tied_itself}
use Rattle.std.specs.Cmp.Lexicographic.{lists_total, nat_list_cmp_total, options_total}
use Rattle.std.specs.FinMap as table
use Rattle.std.specs.Option.{option_cmp}
use Rattle.std.specs.Ordering.{nat_cmp, ordering_reverse, ordering_then}
use Rattle.std.specs.declared.cmp.Ordering.TheVariants.{Less, Equal, Greater}
use Rattle.std.proofs.lemmas.Bool.{and_parts, cases_lt, ltb-true}
use Rattle.std.proofs.lemmas.Bool.Decides.{nat_tests}
use Rattle.gtfs_rows.specs.TransferEnds.{names_ends, transfer_named, transfer_numbers}
use Rattle.gtfs_rows.specs.TransferOrder.{Ascends, transfer_key, transfer_key_cmp}
use Rattle.gtfs_rows.specs.RowsInMemory.{is_number_within, text_of_number}
use Rattle.gtfs_rows.specs.declared.transfer.Transfer.{Transfer as ByNumber}
use Rattle.gtfs_field.specs.TextOrder.{text_cmp}
use Rattle.gtfs_rows.proofs.ContentAgain.{same_option}
use Rattle.gtfs_merge.specs.Transfers.{ends_cmp}

-- ---- the orders of keys

pub ends_total : IsTotalOrder ends_cmp
ends_total = lists_total (options_total nat_cmp_total)

pub ends_antisymmetric : table.IsAntisymmetric ends_cmp
ends_antisymmetric = table.slice_cmp-IsAntisymmetric (same_option table.nat_cmp-IsAntisymmetric)

-- ---- numbers stand in the order of ids

module _ (ids : List (List ℕ)) (up : Ascends text_cmp ids) where
  abbrev text : ℕ → List ℕ
  text = text_of_number ids

  later_greater : (m n : ℕ) → n < m → m < length ids → text_cmp (text m) (text n) ≡ Greater
  later_greater m n h within = nat_list_cmp_total.antisymm (text m) (text n) ∙ ap ordering_reverse (up n m [] h within)

  number-order : (m n : ℕ) → m < length ids → n < length ids → nat_cmp m n ≡ text_cmp (text m) (text n)
  number-order m n hm hn = elim (cases_lt m n) [
    | inl before ↦ (let less : nat_cmp m n ≡ Less = grind (arith, nat_tests, before) in less ∙ sym (up m n [] before hn))
    | inr past ↦ elim (cases_lt n m) [
      | inl after ↦ (let greater : nat_cmp m n ≡ Greater = grind (arith, nat_tests, after) in greater ∙ sym (later_greater m n after hm))
      | inr none ↦
          let same : m ≡ n = omega (arith, past, none) in
          ap (λ k. nat_cmp k n) same ∙ tied_itself nat_cmp_total n ∙ sym (ap (λ k. text_cmp (text k) (text n)) same ∙ tied_itself nat_list_cmp_total (text n))
    ]
  ]

  below : (n : ℕ) → is_number_within (length ids) (Some n) ≡ true → n < length ids
  below n h = ltb-true n (length ids) h

  end-order : {N : Type 0} (number : N → ℕ) (o p : Option N) → is_number_within (length ids) (option_map number o) ≡ true → is_number_within (length ids) (option_map number p) ≡ true
      → option_cmp nat_cmp (option_map number o) (option_map number p)
      ≡ option_cmp text_cmp (option_map (λ n. text (number n)) o) (option_map (λ n. text (number n)) p)
  end-order number None None g h = refl
  end-order number None (Some n) g h = refl
  end-order number (Some m) None g h = refl
  end-order number (Some m) (Some n) g h = number-order (number m) (number n) (below (number m) g) (below (number n) h)

-- six tests
record AreSix (a b c d e f : Bool) : Type 0 where
  pub from_stop : a ≡ true
  pub to_stop : b ≡ true
  pub from_route : c ≡ true
  pub to_route : d ≡ true
  pub from_trip : e ≡ true
  pub to_trip : f ≡ true

all-six : (a b c d e f : Bool) → (a && b && c && d && e && f) ≡ true → AreSix a b c d e f
all-six a b c d e f h =
    let p = and_parts (a && b && c && d && e) f h in
    let q = and_parts (a && b && c && d) e p.0 in
    let r = and_parts (a && b && c) d q.0 in
    let s = and_parts (a && b) c r.0 in
    let t = and_parts a b s.0 in
    record { from_stop = t.0; to_stop = t.1; from_route = s.1; to_route = r.1; from_trip = q.1; to_trip = p.1 }

module _ (stops routes trips : List (List ℕ)) (stops_up : Ascends text_cmp stops) (routes_up : Ascends text_cmp routes) (trips_up : Ascends text_cmp trips) where
  pub key-order : (t u : ByNumber) → names_ends stops routes trips t ≡ true → names_ends stops routes trips u ≡ true
      → ends_cmp (transfer_numbers t) (transfer_numbers u) ≡ transfer_key_cmp (transfer_key (transfer_named stops routes trips t)) (transfer_key (transfer_named stops routes trips u))
  key-order t u g h =
      let ts = all-six _ _ _ _ _ _ g in
      let us = all-six _ _ _ _ _ _ h in
      λ i. ordering_then (end-order stops stops_up (λ n. n.0) t.from_stop_id u.from_stop_id ts.from_stop us.from_stop i)
      (ordering_then (end-order stops stops_up (λ n. n.0) t.to_stop_id u.to_stop_id ts.to_stop us.to_stop i)
      (ordering_then (end-order routes routes_up (λ n. n.0) t.from_route_id u.from_route_id ts.from_route us.from_route i)
      (ordering_then (end-order routes routes_up (λ n. n.0) t.to_route_id u.to_route_id ts.to_route us.to_route i)
      (ordering_then (end-order trips trips_up (λ n. n.0) t.from_trip_id u.from_trip_id ts.from_trip us.from_trip i)
      (ordering_then (end-order trips trips_up (λ n. n.0) t.to_trip_id u.to_trip_id ts.to_trip us.to_trip i) Equal)))))
