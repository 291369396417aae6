use Rattle.gtfs_board.proofs.Slashes.{shape-none, shape-one, shape-two, shape-three, parts}
use Rattle.gtfs_board.proofs.key.reading.parts_of.Goals as goal

pub returns-in_err-instant : goal.returns-in_err-instant
returns-in_err-instant c = rw c.from_residual-in_err-instant.ensures (shape-none _ _ c.in_ok-after_at.ensures c.in_err-instant.ensures)

pub returns-in_err-rest : goal.returns-in_err-rest
returns-in_err-rest c =
    rw c.from_residual-in_err-rest.ensures (shape-one _ _ _ _ c.in_ok-after_at.ensures c.in_ok-instant.ensures c.in_err-rest.ensures)

pub returns-in_err-rest-2 : goal.returns-in_err-rest-2
returns-in_err-rest-2 c =
    rw c.from_residual-in_err-rest-2.ensures
    (shape-two _ _ _ _ _ _ c.in_ok-after_at.ensures c.in_ok-instant.ensures c.in_ok-rest.ensures c.in_err-rest-2.ensures)

pub returns-in_err-trip : goal.returns-in_err-trip
returns-in_err-trip c =
    rw c.from_residual-in_err-trip.ensures
    (shape-three _ _ _ _ _ _ _ _ c.in_ok-after_at.ensures c.in_ok-instant.ensures c.in_ok-rest.ensures c.in_ok-rest-2.ensures c.in_err-trip.ensures)

pub returns : goal.returns
returns c =
    parts _ _ _ _ _ _ _ _ _ _ c.in_ok-after_at.ensures c.in_ok-instant.ensures c.in_ok-rest.ensures c.in_ok-rest-2.ensures c.in_ok-trip.ensures
