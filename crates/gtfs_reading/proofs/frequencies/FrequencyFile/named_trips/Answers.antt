use Rattle.std.proofs.Common.{◌≡◌, ◌∙◌, ◌++◌, ◌∷◌, [], Bool, List, ℕ, ap, length, subst, sym, true}
use Rattle.std.specs.List.{All}
use Rattle.gtfs_table.proofs.RowFacts.{all_taken, numbers_more, turn}
use Rattle.gtfs_table.specs.Rows.{numbers, rows}
use Rattle.gtfs_table.specs.declared.file.File.TheVariants as file
use Rattle.gtfs_schema.specs.steps.Ids.{number_with}
use Rattle.gtfs_reading.specs.NamedTrips.{is_marked, named_trip, with_mark}
use Rattle.gtfs_reading.proofs.Fields.{field_at}
use Rattle.gtfs_reading.proofs.NamedTrips.{as-many, marked-more}
use Rattle.gtfs_reading.proofs.frequencies.FrequencyFile.named_trips.Goals as goal

pub loop-record-preserved : goal.loop-record-preserved
loop-record-preserved c =
    let d = c.args.self.now in
    let trips = c.args.trips.now in
    let own = c.self.inside.tables.now in
    let from = c.into_iter-record-iterator.ensures.into_iter_gives ∙ c.rows-record-items.ensures in
    let n = c.in-Some.field-0-0 in
    let t = turn own file.Frequencies _ c.loop-record.yielded _ from c.loop-record.yielded_by n c.in-Some.record _ c.in-Some.ensures.steps in
    let id = c.value.ensures ∙ field_at own file.Frequencies n _ _ t.record_is c.self.invariant.columns 0 in
    let trip : c.number.result ≡ named_trip d trips n =
    c.number.ensures.number ∙ (λ i. number_with (c.loop-record.invariant.ids i) (id i)) ∙ ap (λ e. named_trip e trips n) c.self.view_is in
    let marks : c.mark.new.named.items ≡ with_mark c.loop-record.named.items (named_trip d trips n) = c.mark.ensures ∙ ap (with_mark c.loop-record.named.items) trip in
    record {
      ids = c.number.ensures.same ∙ c.loop-record.invariant.ids;
      count = ap (λ (ms : List Bool). length ms) marks ∙ as-many c.loop-record.named.items (named_trip d trips n) ∙ c.loop-record.invariant.count;
      marked = subst (λ (ms : List Bool). All (λ m. is_marked ms (named_trip d trips m) ≡ true) (numbers (c.loop-record.yielded ++ (n, c.in-Some.record) ∷ []))) (sym marks)
          (subst (λ (ns : List ℕ). All (λ m. is_marked (with_mark c.loop-record.named.items (named_trip d trips n)) (named_trip d trips m) ≡ true) ns)
          (sym (numbers_more c.loop-record.yielded n c.in-Some.record))
          (marked-more d trips (numbers c.loop-record.yielded) n c.loop-record.named.items c.loop-record.invariant.count c.loop-record.invariant.marked));
    }

pub returns : goal.returns
returns c =
    let own = c.self.inside.tables.now in
    let from = c.into_iter-record-iterator.ensures.into_iter_gives ∙ c.rows-record-items.ensures in
    let all = all_taken own file.Frequencies _ c.loop-record.yielded _ from c.loop-record.yielded_by c.in-None.ensures.steps.0 in
    record {
      count = c.loop-record.invariant.count;
      marked = subst (λ (ns : List ℕ). All (λ m. is_marked c.loop-record.named.items (named_trip c.args.self.now c.args.trips.now m) ≡ true) ns)
          (all ∙ ap (λ e. rows e file.Frequencies) c.self.view_is) c.loop-record.invariant.marked;
    }
