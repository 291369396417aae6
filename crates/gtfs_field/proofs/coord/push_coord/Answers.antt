use Rattle.std.proofs.Common.{◌≡◌, ◌≤◌, ◌≤ℤ◌, ◌++◌, ◌∷◌, [], ℤ, ℕ, List, pos, negsuc, unsigned_abs, int_lt, arith, ◌∙◌, ap, FitsSigned, w64, append_assoc, if◌then◌else◌}
use Rattle.std.proofs.lemmas.Int.{to_z-of_z}
use Rattle.jiff_core.proofs.SignedLemmas.{signed_arith}
use Rattle.gtfs_field.specs.Canonical.{coordinate_text, degrees_text}
use Rattle.gtfs_field.proofs.CoordinateTexts.{coordinate_of-text, coordinate_text-unique}
use Rattle.gtfs_field.proofs.coord.push_coord.Goals as goal

bound : (v : ℤ) → negsuc 179_999_999_999 ≤ℤ v → v ≤ℤ pos 180_000_000_000 → unsigned_abs v ≤ 180_000_000_000
bound (pos n) low high = omega (arith, signed_arith)
bound (negsuc n) low high = omega (arith, signed_arith)

within : (v w : ℤ) → w ≡ v → negsuc 179_999_999_999 ≤ℤ w → w ≤ℤ pos 180_000_000_000 → unsigned_abs v ≤ 180_000_000_000
within v w same low high = rw (← same) (bound w low high)

pub returns-in_err-reserve-clause-reads_back : goal.returns-in_err-reserve-clause-reads_back
returns-in_err-reserve-clause-reads_back c =
    let given = c.nanodegrees-nanodegrees.ensures in
    λ axis inside. coordinate_of-text axis c.args.coord (within c.args.coord _ given.value given.low given.high) inside

pub returns-in_err-reserve-clause-unique : goal.returns-in_err-reserve-clause-unique
returns-in_err-reserve-clause-unique c =
    let given = c.nanodegrees-nanodegrees.ensures in
    λ other small same. coordinate_text-unique other c.args.coord small (within c.args.coord _ given.value given.low given.high) same

-- the sign of a number, as a text
sign_text : ℤ → List ℕ
sign_text z = if int_lt z (pos 0) then 45 ∷ [] else []

joined : (text reserved signed whole : List ℕ) (v w : ℤ) (m : ℕ) → reserved ≡ text → w ≡ v → signed ≡ reserved ++ sign_text w → whole ≡ signed ++ degrees_text m → m ≡ unsigned_abs w → whole ≡ text ++ coordinate_text v
unfolding sign_text
joined text reserved signed whole v w m kept same with_sign with_degrees size =
    with_degrees
    ∙ ap (λ s. s ++ degrees_text m) with_sign
    ∙ append_assoc reserved (sign_text w) (degrees_text m)
    ∙ ap (λ t. t ++ (sign_text w ++ degrees_text m)) kept
    ∙ ap (λ k. text ++ (sign_text w ++ degrees_text k)) size
    ∙ ap (λ z. text ++ (sign_text z ++ degrees_text (unsigned_abs z))) same

pub returns-clause-appended : goal.returns-clause-appended
unfolding sign_text
returns-clause-appended c =
    let given = c.nanodegrees-nanodegrees.ensures in
    let number = c.nanodegrees-nanodegrees.result in
    let fits : FitsSigned w64 number = omega (arith, signed_arith, given.low, given.high) in
    joined _ _ _ _ c.args.coord _ _ c.in_ok-reserve.ensures.bytes (to_z-of_z w64 number fits ∙ given.value) c.push_sign.ensures.appended c.push_degrees.ensures c.unsigned_abs.ensures.value

pub returns-clause-reads_back : goal.returns-clause-reads_back
returns-clause-reads_back c =
    let given = c.nanodegrees-nanodegrees.ensures in
    λ axis inside. coordinate_of-text axis c.args.coord (within c.args.coord _ given.value given.low given.high) inside

pub returns-clause-unique : goal.returns-clause-unique
returns-clause-unique c =
    let given = c.nanodegrees-nanodegrees.ensures in
    λ other small same. coordinate_text-unique other c.args.coord small (within c.args.coord _ given.value given.low given.high) same
