use Rattle.std.proofs.Common.{◌≡◌, ◌<◌, ◌∙◌, ℕ, ap, get_or, length, map, subst, sym}
use Rattle.std.specs.List.{All}
use Rattle.std.specs.Prelude.{IfSome}
use Rattle.csv.specs.Records.{Rising}
use Rattle.gtfs_stop_times.specs.StopTimesByTrip.{AreWithin}
use Rattle.gtfs_table.specs.FieldOffsets.{parts}
use Rattle.gtfs_stop_times.specs.HeadsignedRows.{numbers_in, rows_at}
use Rattle.gtfs_stop_times.proofs.HeadsignedFacts.{in-ranges, whole}
use Rattle.gtfs_stop_times.proofs.headsigned.HeadsignedStopTimes.into_by_trip.Goals as goal

pub at_ranges-requires-clause-within : goal.at_ranges-requires-clause-within
at_ranges-requires-clause-within c =
    let k = c.self.inside in
    let starts = c.args.starts in
    let ranges = c.in-Some.ranges.items in
    let same = whole k.rows.items k.notes.items k.order k.given c.args.self c.self.view_is c.requires.all_given in
    let found : map numbers_in ranges ≡ parts starts k.order =
    rw (← c.as_slice.ensures) (subst (λ o. IfSome o (λ rs. map numbers_in rs.items ≡ parts c.as_slice.result.now k.order)) c.in-Some.is c.in_ok-ranges.ensures.numbers) in
    let within : (size : ℕ) → All (λ n. n < size) k.order → AreWithin size ranges =
    subst (λ o. IfSome o (λ rs. (size : ℕ) → All (λ n. n < size) k.order → AreWithin size rs.items)) c.in-Some.is c.in_ok-ranges.ensures.within in
    let rising = subst (λ rs. Rising 0 starts (length rs)) (sym same) c.requires.rising in
    let first = ap (λ rs. get_or starts 0 (length rs)) same ∙ c.requires.from_first in
    let have = in-ranges k.rows.items k.order starts ranges c.self.invariant.in_rows found within rising first in
    have.within

pub at_ranges-requires-clause-len : goal.at_ranges-requires-clause-len
at_ranges-requires-clause-len c =
    let k = c.self.inside in
    let starts = c.args.starts in
    let ranges = c.in-Some.ranges.items in
    let same = whole k.rows.items k.notes.items k.order k.given c.args.self c.self.view_is c.requires.all_given in
    let found : map numbers_in ranges ≡ parts starts k.order =
    rw (← c.as_slice.ensures) (subst (λ o. IfSome o (λ rs. map numbers_in rs.items ≡ parts c.as_slice.result.now k.order)) c.in-Some.is c.in_ok-ranges.ensures.numbers) in
    let within : (size : ℕ) → All (λ n. n < size) k.order → AreWithin size ranges =
    subst (λ o. IfSome o (λ rs. (size : ℕ) → All (λ n. n < size) k.order → AreWithin size rs.items)) c.in-Some.is c.in_ok-ranges.ensures.within in
    let rising = subst (λ rs. Rising 0 starts (length rs)) (sym same) c.requires.rising in
    let first = ap (λ rs. get_or starts 0 (length rs)) same ∙ c.requires.from_first in
    let have = in-ranges k.rows.items k.order starts ranges c.self.invariant.in_rows found within rising first in
    have.len ∙ c.self.invariant.all

pub returns-in-Some-clause-rows : goal.returns-in-Some-clause-rows
returns-in-Some-clause-rows c =
    let k = c.self.inside in
    let starts = c.args.starts in
    let ranges = c.in-Some.ranges.items in
    let same = whole k.rows.items k.notes.items k.order k.given c.args.self c.self.view_is c.requires.all_given in
    let found : map numbers_in ranges ≡ parts starts k.order =
    rw (← c.as_slice.ensures) (subst (λ o. IfSome o (λ rs. map numbers_in rs.items ≡ parts c.as_slice.result.now k.order)) c.in-Some.is c.in_ok-ranges.ensures.numbers) in
    let within : (size : ℕ) → All (λ n. n < size) k.order → AreWithin size ranges =
    subst (λ o. IfSome o (λ rs. (size : ℕ) → All (λ n. n < size) k.order → AreWithin size rs.items)) c.in-Some.is c.in_ok-ranges.ensures.within in
    let rising = subst (λ rs. Rising 0 starts (length rs)) (sym same) c.requires.rising in
    let first = ap (λ rs. get_or starts 0 (length rs)) same ∙ c.requires.from_first in
    let have = in-ranges k.rows.items k.order starts ranges c.self.invariant.in_rows found within rising first in
    ap (λ t. t.rows) c.at_ranges.ensures ∙ have.rows ∙ same

pub returns-in-Some-clause-starts : goal.returns-in-Some-clause-starts
returns-in-Some-clause-starts c =
    let k = c.self.inside in
    let starts = c.args.starts in
    let ranges = c.in-Some.ranges.items in
    let same = whole k.rows.items k.notes.items k.order k.given c.args.self c.self.view_is c.requires.all_given in
    let found : map numbers_in ranges ≡ parts starts k.order =
    rw (← c.as_slice.ensures) (subst (λ o. IfSome o (λ rs. map numbers_in rs.items ≡ parts c.as_slice.result.now k.order)) c.in-Some.is c.in_ok-ranges.ensures.numbers) in
    let within : (size : ℕ) → All (λ n. n < size) k.order → AreWithin size ranges =
    subst (λ o. IfSome o (λ rs. (size : ℕ) → All (λ n. n < size) k.order → AreWithin size rs.items)) c.in-Some.is c.in_ok-ranges.ensures.within in
    let rising = subst (λ rs. Rising 0 starts (length rs)) (sym same) c.requires.rising in
    let first = ap (λ rs. get_or starts 0 (length rs)) same ∙ c.requires.from_first in
    let have = in-ranges k.rows.items k.order starts ranges c.self.invariant.in_rows found within rising first in
    ap (λ t. t.starts) c.at_ranges.ensures ∙ have.starts

pub returns-clause-rows : goal.returns-clause-rows
returns-clause-rows c =
    let k = c.self.inside in
    c.new-in-None.ensures.rows ∙ c.new.ensures ∙ c.in_ok-rows-in-None.ensures ∙ ap (λ rows. rows_at rows k.order) c.deref.ensures.value
    ∙ whole k.rows.items k.notes.items k.order k.given c.args.self c.self.view_is c.requires.all_given
