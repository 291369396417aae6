-- The exceptions of a service, sorted once more, are the same.
use Rattle.std.proofs.Common.{◌≡◌, ◌∙◌, List, arith, sym}
use Rattle.std.specs.Prelude.{ℤ}
use Rattle.std.specs.List.Sorted.{IsPermutation}
use Rattle.std.proofs.lemmas.List.Sorted.{IsPermutation-refl}
use Rattle.jiff_core.proofs.SignedLemmas.{signed_arith}
use Rattle.gtfs_days.specs.Service.{IsByDay, NamesEachDayOnce}
use Rattle.gtfs_days.specs.declared.exception.Exception.{Exception}
use Rattle.gtfs_rows.proofs.Exceptions.{by_day}

pub same-exceptions : (es fs : List (ℤ × Exception)) → IsPermutation es fs → IsByDay es → IsByDay fs → fs ≡ es
same-exceptions es fs moved up up_fs = sym (by_day es fs moved up_fs) ∙ by_day es es (IsPermutation-refl es) up

pub once-by_day : (es : List (ℤ × Exception)) → IsByDay es → NamesEachDayOnce es
once-by_day es up i j d before within same = let after = up i j d before within in omega (arith, signed_arith)
