use Rattle.std.proofs.Common.{◌∙◌, ap, sym}
use Rattle.std.specs.Prelude.{option_map}
use Rattle.gtfs_schema.proofs.IdNumberFacts.{clear_numbered}
use Rattle.gtfs_trip_rules.proofs.stop_times.named.holds_control.Goals as goal

-- a text that is found is one of the ids, none of which has a control character
pub returns-in-Some : goal.returns-in-Some
returns-in-Some c =
    sym (clear_numbered c.args.ids.now (sym c.are_clear.ensures ∙ c.if-are_clear.true) c.args.text.now c.in-Some.field-0.number
    (sym c.requires ∙ ap (option_map (λ f. f.number)) c.in-Some.is))
