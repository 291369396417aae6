-- Patterns that take one trip more.
use Rattle.std.proofs.Common.{◌≡◌, ◌<◌, ◌+◌, ◌==◌, ◌&&◌, ◌++◌, ℕ, suc, Bool, true, false, not, List, [], ◌∷◌, map, filter, length, get_or, Option, Some, None, is_lt, refl, sym, ap, subst, ◌∙◌, arith}
use Rattle.std.specs.List.{flat_map, list_all, range_with_len}
use Rattle.std.specs.List.Sorted.{IsPermutation, IsSorted}
use Rattle.std.specs.Option.{option_eq}
use Rattle.std.specs.Cmp.Lexicographic.{pointwise}
use Rattle.std.proofs.lemmas.Bool.{and_from as join, and_parts as both, eqb-true as same_number, true≢false}
use Rattle.std.proofs.lemmas.Grind.{flat_map-append}
use Rattle.std.proofs.lemmas.List.{map-append, get_or-map, length-map, append_assoc as append-assoc}
use Rattle.std.proofs.lemmas.List.Elements.{filter-append}
use Rattle.std.proofs.lemmas.List.Folds.{list_all-append}
use Rattle.gtfs_field.proofs.ListFacts.{range-push as range-more}
use Rattle.gtfs_stop_times.specs.declared.numbers.StopNo.{StopNo}
use Rattle.gtfs_rows.specs.declared.numbers.TripNo.{TripNo}
use Rattle.gtfs_rows.specs.declared.parts.Parts.{Parts}
use Rattle.gtfs_runs.specs.declared.pattern.Headed.{Headed}
use Rattle.gtfs_runs.specs.declared.pattern.Pattern.{Pattern}
use Rattle.gtfs_runs.specs.Patterns.{ArePatterns, AreGroups, Entry, Heading, headings_change, entries_of, entries_under, entry_cmp, entry_value, heading_of, has_a_trip, is_same_heading}

append-nil : {X : Type 0} (xs : List X) → xs ++ [] ≡ xs
append-nil [] = refl
append-nil (x ∷ xs) = ap (λ ys. x ∷ ys) (append-nil xs)

-- ---- a new pattern after the last

apart-more : (hs : List Heading) (l h : Heading) → is_same_heading l h ≡ false → headings_change (hs ++ l ∷ []) ≡ true → headings_change ((hs ++ l ∷ []) ++ h ∷ []) ≡ true
apart-more [] l h differs apart = join (not (is_same_heading l h)) true (ap not differs) refl
apart-more (x ∷ []) l h differs apart =
    let parts = both (not (is_same_heading x l)) true apart in
    join (not (is_same_heading x l)) (not (is_same_heading l h) && true) parts.0 (join (not (is_same_heading l h)) true (ap not differs) refl)
apart-more (x ∷ y ∷ hs) l h differs apart =
    let parts = both (not (is_same_heading x y)) (headings_change ((y ∷ hs) ++ l ∷ [])) apart in
    join (not (is_same_heading x y)) (headings_change (((y ∷ hs) ++ l ∷ []) ++ h ∷ [])) parts.0 (apart-more (y ∷ hs) l h differs parts.1)

pub groups-more : (olds mids news xs : List Pattern) (l n : Pattern) (h : Heading) → olds ≡ xs ++ l ∷ [] → mids ≡ xs ++ l ∷ [] → news ≡ mids ++ n ∷ []
    → is_same_heading (heading_of l) h ≡ false → heading_of n ≡ h → has_a_trip n ≡ true → AreGroups olds → AreGroups news
groups-more olds mids news xs l n h old mid new differs same has_trip groups =
    let was : list_all has_a_trip (xs ++ l ∷ []) ≡ true = ap (list_all has_a_trip) (sym old) ∙ groups.filled in
    let were : headings_change (map heading_of xs ++ heading_of l ∷ []) ≡ true =
    ap headings_change (sym (map-append heading_of xs (l ∷ []))) ∙ ap (λ ys. headings_change (map heading_of ys)) (sym old) ∙ groups.apart in
    let whole : news ≡ (xs ++ l ∷ []) ++ n ∷ [] = new ∙ ap (λ ys. ys ++ n ∷ []) mid in
    let headings : map heading_of ((xs ++ l ∷ []) ++ n ∷ []) ≡ (map heading_of xs ++ heading_of l ∷ []) ++ h ∷ [] =
    map-append heading_of (xs ++ l ∷ []) (n ∷ []) ∙ ap (λ hs. hs ++ heading_of n ∷ []) (map-append heading_of xs (l ∷ []))
    ∙ ap (λ g. (map heading_of xs ++ heading_of l ∷ []) ++ g ∷ []) same in
    record {
      filled = ap (list_all has_a_trip) whole ∙ list_all-append has_a_trip (xs ++ l ∷ []) (n ∷ [])
          ∙ join (list_all has_a_trip (xs ++ l ∷ [])) (has_a_trip n && true) was (join (has_a_trip n) true has_trip refl);
      apart = ap (λ ys. headings_change (map heading_of ys)) whole ∙ ap headings_change headings
          ∙ apart-more (map heading_of xs) (heading_of l) h differs were;
    }

-- ---- a further trip of the last pattern

abbrev headed : Heading → TripNo → Entry
headed h t = record { heading = h; trip = t }

under-last : (xs : List Pattern) (l : Pattern) → flat_map entries_under (xs ++ l ∷ []) ≡ flat_map entries_under xs ++ entries_under l
under-last xs l = flat_map-append entries_under xs (l ∷ []) ∙ ap (λ ys. flat_map entries_under xs ++ ys) (append-nil (entries_under l))

pub told-more : (olds news xs : List Pattern) (l n : Pattern) (e : Entry) → olds ≡ xs ++ l ∷ [] → news ≡ xs ++ n ∷ []
    → heading_of n ≡ heading_of l → n.trips ≡ l.trips ++ e.trip ∷ [] → heading_of l ≡ e.heading
    → flat_map entries_under news ≡ flat_map entries_under olds ++ e ∷ []
told-more olds news xs l n e old new same trips under =
    let more : entries_under n ≡ entries_under l ++ e ∷ [] =
    ap (λ h. map (headed h) n.trips) same
    ∙ ap (map (headed (heading_of l))) trips
    ∙ map-append (headed (heading_of l)) l.trips (e.trip ∷ [])
    ∙ ap (λ h. entries_under l ++ headed h e.trip ∷ []) under in
    ap (flat_map entries_under) new ∙ under-last xs n ∙ ap (λ es. flat_map entries_under xs ++ es) more
    ∙ sym (append-assoc (flat_map entries_under xs) (entries_under l) (e ∷ []))
    ∙ ap (λ es. es ++ e ∷ []) (sym (under-last xs l) ∙ ap (flat_map entries_under) (sym old))

-- ---- numbers of trips

pub trips-more : {X : Type 0} (p : ℕ → Bool) (f : ℕ → X) (n : ℕ) (olds news : List X) → olds ≡ map f (filter p (range_with_len 0 n))
    → news ≡ olds ++ map f (filter p (n ∷ [])) → news ≡ map f (filter p (range_with_len 0 (n + 1)))
trips-more p f n olds news old new =
    let next : n + 1 ≡ suc n = omega arith in
    let last : 0 + n ≡ n = omega arith in
    let range : range_with_len 0 (n + 1) ≡ range_with_len 0 n ++ n ∷ [] =
    ap (range_with_len 0) next ∙ range-more 0 n ∙ ap (λ j. range_with_len 0 n ++ j ∷ []) last in
    new ∙ ap (λ l. l ++ map f (filter p (n ∷ []))) old
    ∙ sym (map-append f (filter p (range_with_len 0 n)) (filter p (n ∷ [])))
    ∙ ap (map f) (sym (filter-append p (range_with_len 0 n) (n ∷ [])) ∙ ap (filter p) (sym range))

-- ---- order

pub sorted-values : (xs : List Headed) → IsSorted (λ x y. entry_cmp (entry_value x) (entry_value y)) xs → IsSorted entry_cmp (map entry_value xs)
sorted-values [] up k d from within = let none : k + 1 < 0 = within in absurd (omega (arith, none))
sorted-values (x ∷ xs) up k d from within =
    let inside : k + 1 < length (x ∷ xs) = subst (λ m. k + 1 < m) (length-map (x ∷ xs) entry_value) within in
    let before : k < length (x ∷ xs) = omega (arith, inside) in
    let first = get_or-map entry_value (x ∷ xs) (k + 1) x d inside in
    let second = get_or-map entry_value (x ∷ xs) k x d before in
    ap (λ a. is_lt (entry_cmp a (get_or (map entry_value (x ∷ xs)) k d))) first
    ∙ ap (λ b. is_lt (entry_cmp (entry_value (get_or (x ∷ xs) (k + 1) x)) b)) second
    ∙ up k x from inside

-- ---- headings

same-direction : (a b : Option ℕ) → option_eq (λ x y. x == y) a b ≡ true → a ≡ b
same-direction None None h = refl
same-direction None (Some b) h = absurd (true≢false (sym h))
same-direction (Some a) None h = absurd (true≢false (sym h))
same-direction (Some a) (Some b) h = ap Some (same_number a b h)

abbrev stop_no : ℕ → StopNo
stop_no n = record { 0 = n }

same-stops : (xs ys : List StopNo) → pointwise (λ s t. s.0 == t.0) xs ys ≡ true → xs ≡ ys
same-stops [] [] h = refl
same-stops [] (y ∷ ys) h = absurd (true≢false (sym h))
same-stops (x ∷ xs) [] h = absurd (true≢false (sym h))
same-stops (x ∷ xs) (y ∷ ys) h =
    let parts = both (x.0 == y.0) (pointwise (λ s t. s.0 == t.0) xs ys) h in
    ap (λ n. stop_no n ∷ xs) (same_number x.0 y.0 parts.0) ∙ ap (λ zs. y ∷ zs) (same-stops xs ys parts.1)

abbrev made : Option ℕ → List StopNo → Heading
made d stops = record { direction = d; stops = stops }

pub same-heading : (x y : Heading) → is_same_heading x y ≡ true → x ≡ y
same-heading x y h =
    let parts = both (option_eq (λ a b. a == b) x.direction y.direction) (pointwise (λ s t. s.0 == t.0) x.stops y.stops) h in
    ap (λ d. made d x.stops) (same-direction x.direction y.direction parts.0) ∙ ap (made y.direction) (same-stops x.stops y.stops parts.1)

-- ---- all together

pub are-patterns : (p : Parts) (route : ℕ) (every rising : List Entry) (xs : List Pattern) → every ≡ entries_of p route → IsPermutation every rising
    → IsSorted entry_cmp rising → flat_map entries_under xs ≡ rising → AreGroups xs → ArePatterns p route xs
are-patterns p route every rising xs these same up told grouped = record {
  each_once = subst (λ es. IsPermutation es (flat_map entries_under xs)) these (subst (λ es. IsPermutation every es) (sym told) same);
  in_order = subst (λ es. IsSorted entry_cmp es) (sym told) up;
  groups = grouped;
}
