use Rattle.std.proofs.Common.{◌≡◌, ◌++◌, ◌∷◌, []}
use Rattle.csv.proofs.RecordFacts.{by_outcome}
use Rattle.gtfs_table.specs.FieldOffsets.{add_to_last}
use Rattle.gtfs_table.proofs.StoreFacts.{IsRecordPush, field-push, on_ok-map}
use Rattle.gtfs_table.proofs.long_records.LongRecords.push_field.Goals as goal

pushed : (c : goal.After-push) → c.push.new.self ≡ c.self.inside.fields ++ c.args.field.now ∷ []
    → IsRecordPush c.self.inside.starts c.push.new.self (add_to_last c.args.self.now c.args.field.now)
pushed c e = field-push c.self.inside.starts c.self.inside.fields c.push.new.self c.args.field.now c.args.self.now c.self.view_is c.self.invariant.rising c.self.invariant.filled e

pub invariant_of-self : goal.invariant_of-self
invariant_of-self c =
    by_outcome c.push.result _ _ _ c.push.ensures.ok c.push.ensures.err
    (λ e. record { rising = (pushed c e).rising; filled = (pushed c e).filled })
    (λ e. rw e (record { rising = c.self.invariant.rising; filled = c.self.invariant.filled }))

pub returns-clause-ok : goal.returns-clause-ok
returns-clause-ok c = on_ok-map c.push.result _ _ (λ e. (pushed c e).value) c.push.ensures.ok
