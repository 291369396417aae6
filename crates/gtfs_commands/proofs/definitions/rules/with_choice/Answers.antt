use Rattle.std.proofs.Common.{◌≡◌, ◌∙◌, subst, IfOk}
use Rattle.std.proofs.lemmas.Result.{IfOk-weaker}
use Rattle.clap.specs.Words.{app_of, with_rule}
use Rattle.gtfs_commands.proofs.definitions.rules.with_choice.Goals as goal

pub returns : goal.returns
returns c app is_app =
    let is : app_of c.in_ok-command.field-0 ≡ app = subst (λ r. IfOk r (λ made. app_of made ≡ app)) c.in_ok-command.was is_app in
    IfOk-weaker c.arg.result _ _ (λ made adds. adds.shape c.free_option.ensures.local ∙ (λ i. with_rule (is i) (c.free_option.ensures.rule i))) c.arg.ensures
