use Rattle.std.proofs.Common.{◌∙◌, ◌++◌, ◌∷◌, [], ap, sym}
use Rattle.csv.specs.Machine.{line_feed}
use Rattle.csv.specs.Writing.{default_writer, fields_text}
use Rattle.gtfs_writing.specs.TakenRecords.{choice_fields}
use Rattle.gtfs_writing.proofs.TextFacts.{pushed-last}
use Rattle.gtfs_writing.proofs.text_rows.TextRowsSink.choices.Goals as goal

pub returns-in-Some : goal.returns-in-Some
returns-in-Some c =
    pushed-last c.push_str.result _ _ c.args.self.now _ (choice_fields c.args.pickup c.args.drop_off c.args.timepoint) c.push_str.ensures.bytes c.self.view_is
    (c.as_text.ensures ∙ c.choices_with_timepoint-bytes.ensures.text ∙ ap (λ t. fields_text default_writer (choice_fields c.args.pickup c.args.drop_off t) ++ line_feed ∷ []) (sym c.in-Some.is))

pub returns-in-None : goal.returns-in-None
returns-in-None c =
    pushed-last c.push_str-in-None.result _ _ c.args.self.now _ (choice_fields c.args.pickup c.args.drop_off c.args.timepoint) c.push_str-in-None.ensures.bytes c.self.view_is
    (c.as_text-in-None.ensures ∙ c.choices.ensures.text ∙ ap (λ t. fields_text default_writer (choice_fields c.args.pickup c.args.drop_off t) ++ line_feed ∷ []) (sym c.in-None.is))
