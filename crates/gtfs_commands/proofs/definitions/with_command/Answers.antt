use Rattle.std.proofs.Common.{◌≡◌, true, sym, subst, IfOk}
use Rattle.std.proofs.lemmas.Result.{IfOk-weaker}
use Rattle.clap.specs.Words.{App, app_of, with_subcommand}
use Rattle.clap.proofs.SimpleLemmas.{plain_fields}
use Rattle.gtfs_commands.proofs.definitions.with_command.Goals as goal

-- a plain command has no argument that holds for all commands, so it is added as it is
pub returns : goal.returns
returns c added if_added is_plain =
    let is_added : app_of c.in_ok-command.field-0 ≡ added = subst (λ r. IfOk r (λ made. app_of made ≡ added)) c.in_ok-command.was if_added in
    subst (λ (a : App). IfOk c.subcommand.result (λ made. app_of made ≡ with_subcommand (app_of c.args.program) a.top)) is_added
    (IfOk-weaker c.subcommand.result _ _
    (λ made adds. adds.shape (plain_fields c.in_ok-command.field-0 (subst (λ (a : App). a.top.is_plain ≡ true) (sym is_added) is_plain)).globals)
    c.subcommand.ensures)
