-- Exceptions by day.
use Rattle.std.proofs.Common.{◌≡◌, List, get_or}
use Rattle.std.specs.Prelude.{ℤ}
use Rattle.std.specs.Cmp.{int_cmp_total}
use Rattle.std.specs.FinMap as table
use Rattle.std.specs.List.Sorted.{IsPermutation}
use Rattle.std.specs.Ordering.{int_cmp}
use Rattle.gtfs_field.proofs.OrderingFacts.{int-less}
use Rattle.gtfs_days.specs.Service.{IsByDay}
use Rattle.gtfs_days.specs.declared.exception.Exception.{Exception}
use Rattle.gtfs_rows.specs.TransferOrder.{by_key}
use Rattle.gtfs_rows.proofs.ByKey.{by_key_is}
use Rattle.gtfs_rows.proofs.SameElements.{same-from_permutation}

-- exceptions that were put in the order of their days are the list by that key
pub by_day : (es fs : List (ℤ × Exception)) → IsPermutation es fs → IsByDay fs → by_key int_cmp (λ e. e.0) es ≡ fs
by_day es fs moved up =
    by_key_is int_cmp int_cmp_total (λ e. e.0) table.int_cmp-IsAntisymmetric es fs (same-from_permutation es fs moved) (λ i j d h l. int-less (get_or fs i d).0 (get_or fs j d).0 (up i j d h l))
