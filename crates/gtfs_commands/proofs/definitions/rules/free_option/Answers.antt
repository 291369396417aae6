use Rattle.std.proofs.Common.{◌∙◌, ap, Some}
use Rattle.clap.specs.Words.{Rule, rule_of}
use Rattle.gtfs_commands.proofs.definitions.rules.free_option.Goals as goal

pub returns : goal.returns
returns c = record {
  rule = ap rule_of c.value_name.ensures
      ∙ ap (λ (r : Rule). record r { value_names = 1 }) (ap rule_of c.long.ensures
      ∙ ap (λ (r : Rule). record r { long = Some c.args.id.now }) c.text.ensures.rule);
  local = ap (λ a. a.global) c.value_name.ensures ∙ ap (λ a. a.global) c.long.ensures ∙ c.text.ensures.local;
}
