use Rattle.gtfs_cli.proofs.Sent.{sent-both, sent-first}
use Rattle.gtfs_cli.proofs.commands.merge.printed_names.print_kind.Goals as goal

pub returns-in_err-print_side : goal.returns-in_err-print_side
returns-in_err-print_side g c = record { sent = sent-first _ _ _ _ _ c.from_residual.result c.from_residual.ensures.1 c.in_err-print_side.ensures.sent }

pub returns : goal.returns
returns g c = record { sent = sent-both _ _ _ _ _ _ c.print_side-2.result c.in_ok-print_side.ensures.sent c.print_side-2.ensures.sent }
