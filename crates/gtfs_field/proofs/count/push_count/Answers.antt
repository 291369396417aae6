use Rattle.std.proofs.lemmas.Fmt.{decimal_injective}
use Rattle.std.proofs.Common.{arith}
use Rattle.gtfs_field.proofs.Texts.{count_of-text}
use Rattle.gtfs_field.proofs.count.push_count.Goals as goal

pub returns-clause-reads_back : goal.returns-clause-reads_back
returns-clause-reads_back c = count_of-text c.args.count

pub returns-clause-unique : goal.returns-clause-unique
returns-clause-unique c = λ other small same. decimal_injective other c.args.count (omega arith) (omega arith) same
