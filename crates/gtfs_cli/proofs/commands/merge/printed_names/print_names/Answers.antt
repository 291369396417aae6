use Rattle.gtfs_cli.proofs.Sent.{sent-both, sent-first}
use Rattle.gtfs_cli.proofs.commands.merge.printed_names.print_names.Goals as goal

pub returns-in_err-print_ids : goal.returns-in_err-print_ids
returns-in_err-print_ids g c = record { sent = sent-first _ _ _ _ _ c.from_residual.result c.from_residual.ensures.1 c.in_err-print_ids.ensures.sent }

pub returns : goal.returns
returns g c = record { sent = sent-both _ _ _ _ _ _ c.print_near.result c.in_ok-print_ids.ensures.sent c.print_near.ensures.sent }
