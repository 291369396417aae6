use Rattle.std.proofs.Common.{◌≡◌, ◌∙◌, ◌+◌, ◌-◌, ◌<◌, ◌++◌, ◌∷◌, ap, arith, codes, drop, length, map, refl, subst, sym, take}
use Rattle.std.specs.Prelude.{not, replicate}
use Rattle.std.proofs.lemmas.List.{drop_more, length-drop, length-take-le, nil_from_length, take_all}
use Rattle.gtfs_table.specs.Rows.{is_empty, records_in}
use Rattle.gtfs_table.specs.Tables.{record_at}
use Rattle.gtfs_table.specs.declared.file.File.TheVariants as file
use Rattle.gtfs_table.proofs.RowFacts.{value_is}
use Rattle.gtfs_schema.specs.Columns as kind
use Rattle.gtfs_schema.specs.ReadFields.{word_of}
use Rattle.gtfs_reading.specs.GatheredStopTimes.{AreGathered}
use Rattle.gtfs_rows.specs.Headsigns.{NamesHeadsign}
use Rattle.gtfs_rules.specs.StopTimes.{SaysStopTime}
use Rattle.gtfs_reading.specs.HeadsignIndex.{with_headsign}
use Rattle.gtfs_stop_times.specs.HeadsignedRows.{with_headsign_at}
use Rattle.gtfs_reading.proofs.Gathers.{count-rows, gathered-next, gathered-none, stop-time-left}
use Rattle.gtfs_reading.proofs.TripRows.{trip_below}
use Rattle.gtfs_reading.proofs.gathered.Gathered.push_all.Goals as goal

pub peek-stop_time-requires : goal.peek-stop_time-requires
peek-stop_time-requires c =
    let ss = c.args.self.now.stop_times.left in
    omega (arith, c.loop-at-test.true, c.len-at-end.ensures, ap length c.requires.empty.rows, ap length c.loop-at.invariant.left, length-drop c.loop-at.at ss)

pub text-requires : goal.text-requires
text-requires c =
    let d = c.args.tables.now in
    let ss = c.args.self.now.stop_times.left in
    let at = c.loop-at.at in
    let s = c.peek-stop_time.result in
    let within : at < length ss = omega (arith, c.loop-at-test.true, c.len-at-end.ensures, ap length c.requires.empty.rows) in
    let here = stop-time-left ss at s within c.loop-at.self.stop_times.left c.loop-at.invariant.left c.peek-stop_time.ensures in
    let said : SaysStopTime d s = subst (SaysStopTime d) here (c.requires.stop_times.say at s within) in
    said.has_headsign
    ∙ ap (λ t. not (is_empty t)) (sym (value_is (records_in d file.StopTimes) s.row (record_at (records_in d file.StopTimes) s.row) (codes "stop_headsign") c.column-column.result refl c.column-column.ensures))

pub overflow_add-stop_time : goal.overflow_add-stop_time
overflow_add-stop_time c =
    let d = c.args.tables.now in
    let ss = c.args.self.now.stop_times.left in
    let at = c.loop-at.at in
    let s = c.peek-stop_time.result in
    let within : at < length ss = omega (arith, c.loop-at-test.true, c.len-at-end.ensures, ap length c.requires.empty.rows) in
    let here = stop-time-left ss at s within c.loop-at.self.stop_times.left c.loop-at.invariant.left c.peek-stop_time.ensures in
    let said : SaysStopTime d s = subst (SaysStopTime d) here (c.requires.stop_times.say at s within) in
    let below = trip_below d ss c.requires.stop_times c.requires.passes s said in
    omega (arith, below, c.requires.empty.trips)

pub give-requires : goal.give-requires
give-requires c =
    let ss = c.args.self.now.stop_times.left in
    omega (arith, c.loop-at-test.true, c.len-at-end.ensures, ap length c.requires.empty.rows, ap length c.loop-at.invariant.left, length-drop c.loop-at.at ss)

pub loop-at-init : goal.loop-at-init
loop-at-init c = record { so_far = gathered-none c.args.tables.now c.args.self.now c.requires.empty; left = refl }

pub loop-at-preserved : goal.loop-at-preserved
loop-at-preserved c =
    let d = c.args.tables.now in
    let ss = c.args.self.now.stop_times.left in
    let at = c.loop-at.at in
    let s = c.peek-stop_time.result in
    let within : at < length ss = omega (arith, c.loop-at-test.true, c.len-at-end.ensures, ap length c.requires.empty.rows) in
    let g = c.loop-at.self in
    let inv = c.loop-at.invariant in
    let here = stop-time-left ss at s within g.stop_times.left inv.left c.peek-stop_time.ensures in
    let text = c.text.ensures ∙ value_is (records_in d file.StopTimes) s.row (record_at (records_in d file.StopTimes) s.row) (codes "stop_headsign") c.column-column.result refl c.column-column.ensures in
    let next : g.stop_times.left ≡ s ∷ drop (at + 1) ss = inv.left ∙ drop_more ss at s within ∙ ap (λ r. r ∷ drop (at + 1) ss) here in
    let given : at ≡ length g.stop_times.rows =
    omega (arith, count-rows d (take at ss) g.headsigns.texts g.stop_times.rows inv.so_far.named, length-take-le at ss (omega (arith, within))) in
    record {
      so_far = gathered-next d c.requires.passes ss c.requires.stop_times at s within s here _ _ inv.so_far (record {
        headsign = c.in_ok-number.number;
        trips = refl;
        added = c.in_ok-number.ensures.added;
        kept = c.in_ok-number.ensures.kept;
        texts = subst (λ t. c.number.new.self.texts ≡ with_headsign g.headsigns.texts (word_of kind.text t)) text c.in_ok-number.ensures.texts;
        names = subst (λ t. NamesHeadsign c.number.new.self.texts c.in_ok-number.number (word_of kind.text t)) text c.in_ok-number.ensures.named;
        starts = c.in_ok-begin.ensures ∙ (λ j. take (s.trip + 1) g.starts.items ++ replicate (s.trip + 1 - length g.starts.items) (given j));
        rows = c.give.ensures.given ∙ ap (λ rs. g.stop_times.rows ++ map (λ r. with_headsign_at r c.in_ok-number.number) (take 1 rs)) next;
      });
      left = c.give.ensures.left ∙ ap (drop 1) next;
    }

pub returns-clause-gathered : goal.returns-clause-gathered
returns-clause-gathered c =
    let ss = c.args.self.now.stop_times.left in
    subst (λ s. AreGathered c.args.tables.now ss (record c.loop-at.self { stop_times = s })) (sym c.drop_notes.ensures)
    (subst (λ rs. AreGathered c.args.tables.now rs c.loop-at.self)
    (take_all c.loop-at.at ss (omega (arith, c.loop-at-test.false, c.len-at-end.ensures, ap length c.requires.empty.rows))) c.loop-at.invariant.so_far)

pub returns-clause-all_given : goal.returns-clause-all_given
returns-clause-all_given c =
    let ss = c.args.self.now.stop_times.left in
    ap (λ s. s.left) c.drop_notes.ensures
    ∙ nil_from_length c.loop-at.self.stop_times.left
    (omega (arith, c.loop-at-test.false, c.len-at-end.ensures, ap length c.requires.empty.rows, ap length c.loop-at.invariant.left, length-drop c.loop-at.at ss))

pub drop_notes-requires : goal.drop_notes-requires
drop_notes-requires c =
    let ss = c.args.self.now.stop_times.left in
    nil_from_length c.loop-at.self.stop_times.left
    (omega (arith, c.loop-at-test.false, c.len-at-end.ensures, ap length c.requires.empty.rows, ap length c.loop-at.invariant.left, length-drop c.loop-at.at ss))
