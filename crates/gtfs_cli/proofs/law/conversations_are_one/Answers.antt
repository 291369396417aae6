use Rattle.gtfs_cli.proofs.OneAnswer.{one-conversation}
use Rattle.gtfs_cli.proofs.law.conversations_are_one.Goals as goal

pub returns : goal.returns
returns c = λ limit store asked lines one other x y waits too served answered. one-conversation limit store asked lines one other waits too x y served answered
