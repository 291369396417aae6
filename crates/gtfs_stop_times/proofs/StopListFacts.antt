-- Lists that lie at ranges of another one.
use Rattle.std.proofs.Common.{◌≡◌, ◌≤◌, ◌-◌, ◌++◌, ◌∷◌, ◌∙◌, [], ℕ, zero, suc, List, Vec, Global, length, map, take, drop, refl, sym, ap, arith, length-append}
use Rattle.std.specs.List.{All}
use Rattle.std.proofs.Math.Seq.{drop-append_seam}
use Rattle.std.proofs.lemmas.List.{map_push, take-append-drop, take_all}
use Rattle.std.proofs.lemmas.List.Elements.{All-push}
use Rattle.std.proofs.lemmas.Simd.{map-map}
use Rattle.gtfs_table.specs.FieldOffsets.{parts}
use Rattle.gtfs_stop_times.specs.StopTimesByTrip.{AreWithin, StopTimesOfTrips, at_places, items_in, rows_in}
use Rattle.gtfs_stop_times.specs.StopLists.{LiesIn, stops_in}
use Rattle.gtfs_stop_times.specs.declared.by_trip.Places.TheVariants as places
use Rattle.gtfs_stop_times.specs.declared.by_trip.Places.{Places}
use Rattle.gtfs_stop_times.specs.declared.by_trip.RowRange.{RowRange}
use Rattle.gtfs_stop_times.specs.declared.stop_row.StopRow.{StopRow}
use Rattle.gtfs_stop_times.proofs.Places.{lists-are}
use Rattle.gtfs_stop_times.proofs.RangeFacts.{in-first, items-map}

pub none-within : (size : ℕ) → AreWithin size []
none-within size = λ k d h. absurd (omega (arith, h))

-- ---- one more list behind the others

module _ (old more : List ℕ) where
  pub same-lists : (ranges : List RowRange) → AreWithin (length old) ranges → map (items_in (old ++ more)) ranges ≡ map (items_in old) ranges
  same-lists [] within = refl
  same-lists (r ∷ rs) within =
      let here = within 0 r (omega arith) in
      ap (λ x. x ∷ map (items_in (old ++ more)) rs) (in-first old more r here.0 here.1)
      ∙ ap (λ xs. items_in old r ∷ xs) (same-lists rs (λ k d h. within (suc k) d (omega (arith, h))))

  pub items-behind : (start end : ℕ) → start ≡ length old → end ≡ length (old ++ more) → items_in (old ++ more) (record { start = start; end = end }) ≡ more
  items-behind start end is ends =
      ap (λ n. take (end - n) (drop n (old ++ more))) is
      ∙ ap (take (end - length old)) (drop-append_seam old more)
      ∙ take_all (end - length old) more (omega (arith, ends, length-append old more))

  pub one-more-within : (ranges : List RowRange) (start end : ℕ) → AreWithin (length old) ranges → start ≡ length old → end ≡ length (old ++ more)
      → AreWithin (length (old ++ more)) (ranges ++ record { start = start; end = end } ∷ [])
  one-more-within ranges start end within is ends =
      let size = length-append old more in
      All-push (λ r. (r.start ≤ r.end) × (r.end ≤ length (old ++ more))) ranges (record { start = start; end = end })
      (λ k d h. let here = within k d h in (here.0, omega (arith, here.1, size)))
      (omega (arith, is, ends, size), omega (arith, ends))

  pub one-more-list : (ranges : List RowRange) (start end : ℕ) → AreWithin (length old) ranges → start ≡ length old → end ≡ length (old ++ more)
      → map (items_in (old ++ more)) (ranges ++ record { start = start; end = end } ∷ []) ≡ map (items_in old) ranges ++ more ∷ []
  one-more-list ranges start end within is ends =
      map_push (items_in (old ++ more)) ranges (record { start = start; end = end })
      ∙ (λ i. same-lists ranges within i ++ items-behind start end is ends i ∷ [])

-- ---- lists lie in the one that they are cut from

pub cut-lies : (all : List ℕ) (r : RowRange) → LiesIn all (items_in all r)
cut-lies all r =
    let count = r.end - r.start in
    let later = drop r.start all in
    record {
      before = take r.start all;
      after = drop count later;
      is = sym (take-append-drop r.start all) ∙ ap (λ l. take r.start all ++ l) (sym (take-append-drop count later));
    }

lie-first : (all list : List ℕ) (lists : List (List ℕ)) → LiesIn all list → All (LiesIn all) lists → All (LiesIn all) (list ∷ lists)
lie-first all list lists is are zero d h = is
lie-first all list lists is are (suc k) d h = are k d (omega (arith, h))

pub all-lie : (all : List ℕ) (ranges : List RowRange) → All (LiesIn all) (map (items_in all) ranges)
all-lie all [] = λ k d h. absurd (omega (arith, h))
all-lie all (r ∷ rs) = lie-first all (items_in all r) (map (items_in all) rs) (cut-lies all r) (all-lie all rs)

-- ---- the stops of rows are cut as the rows are

pub stops-cut : (rows : List StopRow) (stops : List ℕ) (ranges : List RowRange) → stops ≡ stops_in rows → map (items_in stops) ranges ≡ map stops_in (map (rows_in rows) ranges)
stops-cut rows stops ranges are =
    ap (λ (g : RowRange → List ℕ). map g ranges) (λ i s. (ap (λ xs. items_in xs s) are ∙ items-map (λ row. row.stop_id.0) rows s) i)
    ∙ sym (map-map stops_in (rows_in rows) ranges)

module _ (rows : List StopRow) (p : Places) (t : StopTimesOfTrips) (seen : at_places rows p ≡ t) (stops : List ℕ) where
  pub in-turn-stops : (starts : Vec ℕ Global) (ranges : List RowRange) → p ≡ places.InTurn starts → stops ≡ stops_in rows → map (rows_in rows) ranges ≡ parts starts.items rows
      → map (items_in stops) ranges ≡ map stops_in (parts t.starts t.rows)
  in-turn-stops starts ranges is are cut =
      stops-cut rows stops ranges are ∙ ap (map stops_in) cut
      ∙ ap (λ x. map stops_in (parts x.starts x.rows)) (ap (at_places rows) (sym is) ∙ seen)

  pub in-ranges-stops : (more : Vec StopRow Global) (ranges : Vec RowRange Global) (len : ℕ) → p ≡ places.Anywhere more ranges len → stops ≡ stops_in (rows ++ more.items)
      → map (items_in stops) ranges.items ≡ map stops_in (parts t.starts t.rows)
  in-ranges-stops more ranges len is are =
      stops-cut (rows ++ more.items) stops ranges.items are ∙ ap (map stops_in) (lists-are rows p more ranges len is t seen)
