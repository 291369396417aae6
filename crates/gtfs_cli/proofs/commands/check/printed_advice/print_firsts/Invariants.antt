use Rattle.std.proofs.Common.{◌≡◌, false, length, map, slice_index_or, take}
use Rattle.std.specs.List.{list_any}
use Rattle.gtfs_advice.specs.Advice.{advice_of, About}
use Rattle.gtfs_advice.specs.Codes.{advice_rank}
use Rattle.gtfs_advice.specs.declared.code.Code.{Code}
use Rattle.gtfs_cli.specs.AdviceLines.{advice_line, has_one_code}
use Rattle.gtfs_cli.specs.FirstOfEachKind.{firsts}
use Rattle.gtfs_cli.specs.SentText.{joined}
use Rattle.gtfs_cli.proofs.Sent.{output, SentWhole}
use Rattle.gtfs_cli.proofs.commands.check.printed_advice.print_firsts.Given as goal

abbrev pub invariant-loop-one : goal.invariant-loop-one
invariant-loop-one g l = record {
  count : length l.told ≡ 28;
  told : (a : Code × About) → slice_index_or l.told (advice_rank a.0) false ≡ list_any (has_one_code a) (take l.one-index (map (advice_of l.feed) l.advice));
  sent : SentWhole (joined (take l.one-index (firsts has_one_code advice_line (map (advice_of l.feed) l.advice)))) (output (g.O.Out.told l.initial.out) (g.O.Out.failure_count l.initial.out))
      (output (g.O.Out.told l.out) (g.O.Out.failure_count l.out));
}
