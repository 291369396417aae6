use Rattle.std.proofs.Common.{◌∙◌, ap, true}
use Rattle.clap.specs.Words.{Rule, rule_of}
use Rattle.gtfs_commands.proofs.definitions.rules.needed_option.Goals as goal

pub returns : goal.returns
returns c = record {
  rule = ap rule_of c.required.ensures ∙ ap (λ (r : Rule). record r { required = true }) c.free_option.ensures.rule;
  local = ap (λ a. a.global) c.required.ensures ∙ c.free_option.ensures.local;
}
