-- Rows of equal content are equal.
use Rattle.std.proofs.Common.{◌≡◌, Bool, true, false, [], ◌∷◌, Some, None, refl, sym, ap, bytes_eq, nat_eq, int_eq, eqb-true, true≢false}
use Rattle.std.specs.Option.{option_eq}
use Rattle.std.specs.Cmp.Lexicographic.{pointwise}
use Rattle.std.proofs.lemmas.Bool.{and_parts}
use Rattle.std.proofs.lemmas.Bool.Decides.{Decides-int_eq}
use Rattle.gtfs_days.specs.Service.{is_added}
use Rattle.gtfs_days.specs.declared.exception.Exception.{Exception}
use Rattle.gtfs_days.specs.declared.exception.Exception.TheVariants.{Added, Removed}
use Rattle.gtfs_schema.proofs.SiteFacts.{text_is as same_bytes}
use Rattle.gtfs_rows.specs.Rows.{Stop, Trip}
use Rattle.gtfs_merge.specs.SameRows.{same_flag, same_stop, same_week, same_exception, same_service, same_stop_row, same_frequency, same_trip}

-- a test that only equal values pass
abbrev pub IsExact : {X : Type 0} → (X → X → Bool) → Type 0
IsExact {X} E = (x y : X) → E x y ≡ true → x ≡ y

exact-option : {X : Type 0} (E : X → X → Bool) → IsExact E → IsExact (option_eq E)
exact-option E s None None h = refl
exact-option E s None (Some y) h = absurd (true≢false (sym h))
exact-option E s (Some x) None h = absurd (true≢false (sym h))
exact-option E s (Some x) (Some y) h = ap Some (s x y h)

exact-list : {X : Type 0} (E : X → X → Bool) → IsExact E → IsExact (pointwise E)
exact-list E s [] [] h = refl
exact-list E s [] (y ∷ ys) h = absurd (true≢false (sym h))
exact-list E s (x ∷ xs) [] h = absurd (true≢false (sym h))
exact-list E s (x ∷ xs) (y ∷ ys) h = let p = and_parts _ _ h in λ i. s x y p.0 i ∷ exact-list E s xs ys p.1 i

pub exact-text : IsExact (option_eq bytes_eq)
exact-text = exact-option bytes_eq same_bytes

pub exact-nat : IsExact nat_eq
exact-nat x y h = eqb-true x y h

exact-number : IsExact (option_eq nat_eq)
exact-number = exact-option nat_eq exact-nat

exact-int : IsExact int_eq
exact-int x y h = (Decides-int_eq x y).0 h

exact-flag : IsExact same_flag
exact-flag true true h = refl
exact-flag true false h = absurd (true≢false (sym h))
exact-flag false true h = absurd (true≢false (sym h))
exact-flag false false h = refl

exact-type : (x y : Exception) → same_flag (is_added x) (is_added y) ≡ true → x ≡ y
exact-type Added Added h = refl
exact-type Added Removed h = absurd (true≢false (sym h))
exact-type Removed Added h = absurd (true≢false (sym h))
exact-type Removed Removed h = refl

exact-week : IsExact same_week
exact-week a b h =
    let p = and_parts _ _ h in
    let q = and_parts _ _ p.0 in
    λ i. record { days = exact-list same_flag exact-flag a.days b.days q.0 i; start = exact-int a.start b.start q.1 i; end = exact-int a.end b.end p.1 i }

exact-exception : IsExact same_exception
exact-exception a b h =
    let p = and_parts _ _ h in
    λ i. (exact-int a.0 b.0 p.0 i, exact-type a.1 b.1 p.1 i)

pub exact-service : IsExact same_service
exact-service a b h =
    let p = and_parts _ _ h in
    λ i. record { week = exact-option same_week exact-week a.week b.week p.0 i; exceptions = exact-list same_exception exact-exception a.exceptions b.exceptions p.1 i }

pub exact-stop_row : IsExact same_stop_row
exact-stop_row a b h =
    let p = and_parts _ _ h in
    let q = and_parts _ _ p.0 in
    let r = and_parts _ _ q.0 in
    let s = and_parts _ _ r.0 in
    let t = and_parts _ _ s.0 in
    let u = and_parts _ _ t.0 in
    let v = and_parts _ _ u.0 in
    λ i. record {
      arrival_time = exact-number a.arrival_time b.arrival_time v.0 i;
      departure_time = exact-number a.departure_time b.departure_time v.1 i;
      stop_id = same_bytes a.stop_id b.stop_id u.1 i;
      stop_sequence = eqb-true a.stop_sequence b.stop_sequence t.1 i;
      stop_headsign = exact-text a.stop_headsign b.stop_headsign s.1 i;
      pickup_type = exact-nat a.pickup_type b.pickup_type r.1 i;
      drop_off_type = exact-nat a.drop_off_type b.drop_off_type q.1 i;
      timepoint = exact-number a.timepoint b.timepoint p.1 i;
    }

exact-frequency : IsExact same_frequency
exact-frequency a b h =
    let p = and_parts _ _ h in
    let q = and_parts _ _ p.0 in
    let r = and_parts _ _ q.0 in
    λ i. record {
      start_time = eqb-true a.start_time b.start_time r.0 i;
      end_time = eqb-true a.end_time b.end_time r.1 i;
      headway_secs = eqb-true a.headway_secs b.headway_secs q.1 i;
      exact_times = exact-nat a.exact_times b.exact_times p.1 i;
    }

pub exact-trip : (a b : Trip) → a.trip_id ≡ b.trip_id → same_trip a b ≡ true → a ≡ b
exact-trip a b e h =
    let p = and_parts _ _ h in
    let q = and_parts _ _ p.0 in
    let r = and_parts _ _ q.0 in
    let s = and_parts _ _ r.0 in
    let t = and_parts _ _ s.0 in
    let u = and_parts _ _ t.0 in
    let v = and_parts _ _ u.0 in
    let w = and_parts _ _ v.0 in
    λ i. record {
      route_id = same_bytes a.route_id b.route_id w.0 i;
      service_id = same_bytes a.service_id b.service_id w.1 i;
      trip_id = e i;
      trip_headsign = exact-text a.trip_headsign b.trip_headsign v.1 i;
      trip_short_name = exact-text a.trip_short_name b.trip_short_name u.1 i;
      direction_id = exact-number a.direction_id b.direction_id t.1 i;
      wheelchair_accessible = exact-nat a.wheelchair_accessible b.wheelchair_accessible s.1 i;
      bikes_allowed = exact-nat a.bikes_allowed b.bikes_allowed r.1 i;
      stop_rows = exact-list same_stop_row exact-stop_row a.stop_rows b.stop_rows q.1 i;
      frequencies = exact-list same_frequency exact-frequency a.frequencies b.frequencies p.1 i;
    }

-- of stops the laws of departures read the type and the parent alone
pub alike-stop : (a b : Stop) → same_stop a b ≡ true → (a.location_type ≡ b.location_type) × (a.parent_station ≡ b.parent_station)
alike-stop a b h =
    let p = and_parts _ _ h in
    let q = and_parts _ _ p.0 in
    let r = and_parts _ _ q.0 in
    let s = and_parts _ _ r.0 in
    (exact-nat a.location_type b.location_type s.1, exact-text a.parent_station b.parent_station r.1)
