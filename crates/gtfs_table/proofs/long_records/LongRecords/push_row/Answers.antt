use Rattle.std.proofs.Common.{◌≡◌, ◌++◌, ◌∷◌, ◌∙◌, [], false, sym}
use Rattle.csv.specs.Records.{fields_of}
use Rattle.std.specs.Result.{is_err}
use Rattle.csv.proofs.ReadFacts.{on-ok}
use Rattle.gtfs_table.proofs.StoreFacts.{IsRecordPush, record-push, on_ok-map}
use Rattle.gtfs_table.proofs.long_records.LongRecords.push_row.Goals as goal

pushed : (c : goal.Else-is_err) → IsRecordPush c.push.new.self c.append-pushed.new.self (c.args.self.now ++ fields_of c.args.row.now ∷ [])
pushed c =
    let starts = rw c.len.ensures at c.in_ok-push.ensures.ok in
    let good : is_err c.append-pushed.result ≡ false = sym c.is_err.ensures.value ∙ c.if-is_err.false in
    let fields = on-ok c.append-pushed.result good c.append-pushed.ensures.ok in
    record-push c.self.inside.starts c.push.new.self c.self.inside.fields (fields_of c.args.row.now) c.append-pushed.new.self c.args.self.now c.self.view_is c.self.invariant.rising
    c.self.invariant.filled c.requires.filled starts fields

pub invariant_of-self-else-is_err : goal.invariant_of-self-else-is_err
invariant_of-self-else-is_err c = record { rising = (pushed c).rising; filled = (pushed c).filled }

pub returns-else-is_err-clause-ok : goal.returns-else-is_err-clause-ok
returns-else-is_err-clause-ok c = on_ok-map c.append-pushed.result _ _ (λ e. (pushed c).value) c.append-pushed.ensures.ok
