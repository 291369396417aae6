use Rattle.std.proofs.Common.{◌∙◌, ap, Some}
use Rattle.clap.specs.Words.{Rule, rule_of}
use Rattle.clap.specs.declared.builder.ArgAction.TheVariants.{Set}
use Rattle.gtfs_commands.proofs.definitions.rules.text.Goals as goal

pub returns : goal.returns
returns c = record {
  rule = ap rule_of c.help.ensures ∙ ap rule_of c.action.ensures ∙ ap (λ (r : Rule). record r { action = Some Set }) c.new.ensures.rule;
  local = ap (λ a. a.global) c.help.ensures ∙ ap (λ a. a.global) c.action.ensures ∙ c.new.ensures.optional.1;
}
