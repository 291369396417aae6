use Rattle.std.proofs.Common.{◌∷◌, ap}
use Rattle.gtfs_writing.proofs.PlainTexts.{two-digits}
use Rattle.gtfs_writing.proofs.digits.two_digits.Goals as goal

pub returns : goal.returns
returns c = ap (λ t. 44 ∷ t) (two-digits c.args.number _ _ c.requires.ten c.requires.hundred c.digit.ensures c.digit-2.ensures)
