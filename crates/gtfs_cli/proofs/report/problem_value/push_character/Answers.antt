use Rattle.std.proofs.Common.{◌≡◌, ◌++◌, ℕ, List, string_bytes, subst}
use Rattle.std.specs.Prelude.{OnOk}
use Rattle.gtfs_cli.proofs.ShownValues.{plain-one, pushed}
use Rattle.gtfs_cli.proofs.report.problem_value.push_character.Goals as goal

pub returns : goal.returns
returns c =
    subst (λ (t : List ℕ). OnOk c.push.result (string_bytes c.push.new.self ≡ string_bytes c.args.text.now ++ t))
    (plain-one c.args.character c.shown_character.result c.shown_character.ensures) (pushed c.push.result _ _ _ c.push.ensures.bytes)
