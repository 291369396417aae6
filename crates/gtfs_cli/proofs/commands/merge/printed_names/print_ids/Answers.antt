use Rattle.gtfs_cli.proofs.Sent.{sent-both, sent-first}
use Rattle.gtfs_cli.proofs.commands.merge.printed_names.print_ids.Goals as goal

pub returns-in_err-print_renamed : goal.returns-in_err-print_renamed
returns-in_err-print_renamed g c = record { sent = sent-first _ _ _ _ _ c.from_residual.result c.from_residual.ensures.1 c.in_err-print_renamed.ensures.sent }

pub returns : goal.returns
returns g c = record { sent = sent-both _ _ _ _ _ _ c.print_joined.result c.in_ok-print_renamed.ensures.sent c.print_joined.ensures.sent }
