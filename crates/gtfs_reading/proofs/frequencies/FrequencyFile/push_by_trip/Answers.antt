use Rattle.std.proofs.Common.{◌≡◌, ◌∙◌, ◌<◌, ◌≤◌, ◌++◌, ◌∷◌, [], ℕ, List, ap, arith, get_or, length, map, subst, sym}
use Rattle.std.proofs.lemmas.List.{length-append, length-map}
use Rattle.csv.specs.Records.{Rising}
use Rattle.gtfs_table.specs.FieldOffsets.{parts}
use Rattle.gtfs_table.proofs.PartFacts.{length-parts, parts-push}
use Rattle.gtfs_schema.specs.steps.Ids.{rows_by_number}
use Rattle.gtfs_rows.specs.declared.frequency.Frequency.{Frequency as FrequencyRow}
use Rattle.gtfs_rows.specs.ContentRead.{trip_in}
use Rattle.gtfs_rows.specs.RowsInMemory.{frequency_of}
use Rattle.gtfs_reading.proofs.ByIds.{as_many}
use Rattle.gtfs_rows.proofs.Cuts.{first_push, no_parts, rising_none, rising_push}
use Rattle.gtfs_reading.proofs.Fields.{listed_all, listed_next}
use Rattle.gtfs_reading.proofs.frequencies.FrequencyFile.push_by_trip.Goals as goal

pub loop-number-init : goal.loop-number-init
loop-number-init c =
    let no_starts = c.requires.no_starts in
    let no_rows = c.requires.no_rows in
    let fs = c.args.rows.now.items in
    record {
      listed = ap (λ ss. map (map frequency_of) (parts ss fs)) no_starts ∙ ap (map (map frequency_of)) (no_parts fs);
      rising = subst (λ (p : List ℕ × List FrequencyRow). Rising 0 p.0 (length p.1)) (λ i. (sym no_starts i, sym no_rows i)) rising_none;
      first = ap (λ ss. get_or ss 0 (length fs)) no_starts ∙ ap length no_rows;
      end = c.len-number-end.ensures.value ∙ as_many c.args.trips.now;
    }

pub loop-number-preserved : goal.loop-number-preserved
loop-number-preserved c =
    let d = c.args.self.now in
    let ns = rows_by_number c.args.trips.now in
    let k = c.loop-number.number in
    let below : k < length ns = omega (arith, c.loop-number-test.true, c.loop-number.invariant.end) in
    let said : map frequency_of c.in_ok-periods.periods.items ≡ (trip_in d (get_or ns k 0)).frequencies =
    c.in_ok-periods.ensures in
    let starts = c.loop-number.starts.items in
    let fs = c.loop-number.rows.items in
    let ys = c.in_ok-periods.periods.items in
    let start_is : c.len.result ≡ length fs = omega (arith, c.len.ensures, c.loop-number.rows.ok.0) in
    let starts_are = c.in_ok-push.ensures.items ∙ ap (λ n. starts ++ n ∷ []) start_is in
    let rows_are = c.in_ok-extend_from_slice.ensures.items ∙ ap (λ zs. fs ++ zs) c.deref-in-loop-number.ensures.value in
    record {
      listed = (λ i. map (map frequency_of) (parts (starts_are i) (rows_are i)))
          ∙ ap (map (map frequency_of)) (parts-push 0 starts fs ys c.loop-number.invariant.rising)
          ∙ listed_next (map frequency_of) (λ n. (trip_in d n).frequencies) ns k (parts starts fs) ys below c.loop-number.invariant.listed said;
      rising = subst (λ (p : List ℕ × List FrequencyRow). Rising 0 p.0 (length p.1)) (λ i. (sym starts_are i, sym rows_are i))
          (rising_push 0 starts (length fs) (length (fs ++ ys)) c.loop-number.invariant.rising (omega (arith, length-append fs ys)));
      first = (λ i. get_or (starts_are i) 0 (length (rows_are i))) ∙ first_push starts (length fs) (length (fs ++ ys)) c.loop-number.invariant.first;
      end = c.loop-number.invariant.end;
    }

pub returns : goal.returns
returns c =
    let d = c.args.self.now in
    let ns = rows_by_number c.args.trips.now in
    let starts = c.loop-number.starts.items in
    let fs = c.loop-number.rows.items in
    let whole : length ns ≤ c.loop-number.number = omega (arith, c.loop-number-test.false, c.loop-number.invariant.end) in
    let listed = listed_all (map frequency_of) (λ n. (trip_in d n).frequencies) ns c.loop-number.number (parts starts fs) whole c.loop-number.invariant.listed in
    record {
      rows = listed;
      cut = (
        sym (length-parts starts fs) ∙ sym (length-map (parts starts fs) (map frequency_of)) ∙ ap length listed
            ∙ length-map ns (λ n. (trip_in d n).frequencies) ∙ sym (as_many c.args.trips.now),
        c.loop-number.invariant.rising,
        c.loop-number.invariant.first,
      );
    }
