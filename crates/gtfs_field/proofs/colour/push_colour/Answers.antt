use Rattle.std.proofs.Common.{◌≤◌}
use Rattle.gtfs_field.proofs.Colours.{colour_of-text, colour_text-unique}
use Rattle.gtfs_field.proofs.colour.push_colour.Goals as goal

pub returns-clause-reads_back : goal.returns-clause-reads_back
returns-clause-reads_back c =
    let most : c.args.colour ≤ 0xFF_FFFF = rw (← c.bits.ensures.value) c.bits.ensures.bound in colour_of-text c.args.colour most

pub returns-clause-unique : goal.returns-clause-unique
returns-clause-unique c =
    let most : c.args.colour ≤ 0xFF_FFFF = rw (← c.bits.ensures.value) c.bits.ensures.bound in
    λ other small same. colour_text-unique other c.args.colour small most same
