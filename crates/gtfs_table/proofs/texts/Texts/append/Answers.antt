use Rattle.std.proofs.Common.{◌≡◌, ◌++◌, ◌∙◌, false, sym}
use Rattle.std.specs.Result.{is_err}
use Rattle.csv.specs.Records.{fields_of}
use Rattle.csv.proofs.ReadFacts.{on-ok}
use Rattle.gtfs_table.proofs.FieldFacts.{AreAdded, texts-added}
use Rattle.gtfs_table.proofs.StoreFacts.{on_ok-map}
use Rattle.gtfs_table.proofs.texts.Texts.append.Goals as goal

added : (c : goal.Else-is_err) → AreAdded c.append_fields-appended.new.starts c.append_fields-appended.new.bytes.items (c.args.self.now ++ fields_of c.args.row.now)
added c =
    let good : is_err c.append_fields-appended.result ≡ false = sym c.is_err.ensures.value ∙ c.if-is_err.false in
    let starts = on-ok c.append_fields-appended.result good c.append_fields-appended.ensures.starts in
    let bytes = on-ok c.append_fields-appended.result good c.append_fields-appended.ensures.bytes in
    rw (starts, bytes) (texts-added (fields_of c.args.row.now) c.self.inside.starts c.self.inside.bytes.items c.args.self.now
    (record { rising = c.self.invariant.rising; utf8 = c.self.invariant.utf8; value = c.self.view_is }) c.requires.text)

pub invariant_of-self-else-is_err : goal.invariant_of-self-else-is_err
invariant_of-self-else-is_err c = record { rising = (added c).rising; utf8 = (added c).utf8 }

pub returns-else-is_err-clause-ok : goal.returns-else-is_err-clause-ok
returns-else-is_err-clause-ok c = on_ok-map c.append_fields-appended.result _ _ (λ e. (added c).value) c.append_fields-appended.ensures.starts
