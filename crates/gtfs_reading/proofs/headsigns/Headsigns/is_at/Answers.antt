use Rattle.std.proofs.Common.{◌≡◌, ◌∙◌, ap, sym, string_bytes, map, Some}
use Rattle.std.specs.Prelude.{option_map}
use Rattle.std.specs.List.{slice_get}
use Rattle.std.proofs.lemmas.Option.{slice_get-map}
use Rattle.gtfs_schema.proofs.SiteFacts.{text_is}
use Rattle.gtfs_reading.proofs.headsigns.Headsigns.is_at.Goals as goal

pub returns-in-Some : goal.returns-in-Some
returns-in-Some c = λ same.
    let there : slice_get (map string_bytes c.self.inside.texts.keys) c.args.index ≡ Some (string_bytes c.in-Some.found.now) =
    slice_get-map string_bytes c.self.inside.texts.keys c.args.index ∙ ap (λ o. option_map string_bytes o) (sym c.in-Some.ensures.key) in
    let is : c.as_str.result.now ≡ c.args.text.now = text_is c.as_str.result.now c.args.text.now (sym c.eq.ensures ∙ same) in
    rw (← c.self.view_is) (there ∙ ap Some (sym c.as_str.ensures.value ∙ is))
