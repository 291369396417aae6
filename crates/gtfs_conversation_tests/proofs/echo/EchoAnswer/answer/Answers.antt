use Rattle.gtfs_conversation_tests.proofs.PartLemmas.{part_after}
use Rattle.gtfs_conversation_tests.proofs.echo.EchoAnswer.answer.Goals as goal

pub returns-clause-part : goal.returns-clause-part
returns-clause-part g c = part_after _ _ _ _ _ c.in_ok-say.ensures.whole c.say-2.ensures.part
