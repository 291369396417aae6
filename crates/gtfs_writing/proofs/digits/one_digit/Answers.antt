use Rattle.std.proofs.Common.{◌∷◌, ap, sym}
use Rattle.std.proofs.lemmas.Fmt.{decimal_digit}
use Rattle.gtfs_writing.proofs.digits.one_digit.Goals as goal

pub returns : goal.returns
returns c = ap (λ t. 44 ∷ t) (sym (decimal_digit c.args.number c.requires))
