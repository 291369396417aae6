use Rattle.std.proofs.Common.{map, subst}
use Rattle.std.specs.Prelude.{IfSome}
use Rattle.clap.specs.Words.{app_of, kind_of, subcommand_rows_of}
use Rattle.gtfs_commands.specs.AskedTexts.{IsCommandOf}
use Rattle.gtfs_commands.proofs.GtfsWords.{fault_by, memory_by, read_by, taken_by, whole_by}
use Rattle.gtfs_commands.proofs.read.read_words.Goals as goal

pub unwrap-requires : goal.unwrap-requires
unwrap-requires g c =
    c.command_of.ensures.given
    (whole_by (app_of c.in_ok-definition.definition) (map g.S.AsStr.text c.args.words.now) c.in_ok-definition.ensures
    c.in-Ok.matches c.in-Ok.ensures.matches c.in-Ok.ensures.kinds)

pub returns-in-Ok-clause-read : goal.returns-in-Ok-clause-read
returns-in-Ok-clause-read g c =
    let read = read_by (app_of c.in_ok-definition.definition) (map g.S.AsStr.text c.args.words.now) c.in_ok-definition.ensures
    c.in-Ok.matches c.in-Ok.ensures.matches in
    subst (λ x. IsCommandOf x c.unwrap.result) read
    (subst (λ r. IfSome r (IsCommandOf (subcommand_rows_of c.in-Ok.matches))) c.unwrap.ensures c.command_of.ensures.value)

pub returns-in-Ok-clause-taken : goal.returns-in-Ok-clause-taken
returns-in-Ok-clause-taken g c =
    taken_by (app_of c.in_ok-definition.definition) (map g.S.AsStr.text c.args.words.now) c.in_ok-definition.ensures c.in-Ok.ensures.kinds

pub returns-in-Err-clause-fault : goal.returns-in-Err-clause-fault
returns-in-Err-clause-fault g c =
    fault_by (app_of c.in_ok-definition.definition) (map g.S.AsStr.text c.args.words.now) c.in_ok-definition.ensures
    (kind_of c.in-Err.error) c.fault_of.result c.fault_of.ensures c.in-Err.ensures.passes c.in-Err.ensures.kinds

pub returns-in-Err-clause-memory : goal.returns-in-Err-clause-memory
returns-in-Err-clause-memory g c =
    memory_by (app_of c.in_ok-definition.definition) (map g.S.AsStr.text c.args.words.now) c.in_ok-definition.ensures
    (kind_of c.in-Err.error) c.fault_of.result c.fault_of.ensures c.in-Err.ensures.passes
