-- Instants of at most twelve digits.
use Rattle.std.proofs.Common.{◌≡◌, ℕ, ◌<◌, ◌≤◌, ◌^◌, Bool, true, false, ◌&&◌, not, List, [], ◌∷◌, length, drop, Some, None, Result, Ok, Err, refl, sym, subst, ◌∙◌, arith, ℤ, pos, negsuc, neg_ℤ, ◌<ℤ◌, ◌≤ℤ◌, ◌-ℤ◌, ◌*ℤ◌, unsigned_abs, if◌then◌else◌, slice_index}
use Rattle.std.specs.Prelude.{nat_le, ◌==◌, IfOk}
use Rattle.std.specs.Result.{result_ok}
use Rattle.std.specs.Str.{all_ascii_digits}
use Rattle.std.proofs.lemmas.Int.{ints}
use Rattle.std.proofs.lemmas.Bool.{and_parts}
use Rattle.std.proofs.lemmas.Bool.Decides.{nat_tests}
use Rattle.std.proofs.lemmas.Int.Digits.{digits_value-lt}
use Rattle.std.proofs.Math.Nat.{pow-le-pow_right}
use Rattle.jiff_core.specs.Calendar.{IsWithin}
use Rattle.gtfs_field.specs.Digits.{number, is_number}
use Rattle.gtfs_field.specs.Kinds.{instant_of, is_minus, is_plain_number, shaped, within}
use Rattle.gtfs_field.specs.declared.fault.FieldFault.{FieldFault}
use Rattle.gtfs_days.specs.Service.{first_service_day, is_service_day, last_service_day}
use Rattle.clap.specs.Lexer.{strip_byte}
use Rattle.gtfs_field.proofs.Numerals.{numerals}
use Rattle.gtfs_cli.specs.SharedOptions.{service_day}
use Rattle.gtfs_cli.specs.BoardOptions.{after_at}
use Rattle.gtfs_board.specs.BoardSpan.{is_span}
use Rattle.gtfs_board.specs.declared.span.Span.{Span}

shaped-ok : {V : Type 0} (b : Bool) (r : Result V FieldFault) (v : V) → shaped b r ≡ Ok v → (b ≡ true) × (r ≡ Ok v)
shaped-ok true r v h = (refl, h)
shaped-ok false r v h = cc h

within-ok : {V : Type 0} (b : Bool) (w v : V) → within b w ≡ Ok v → (b ≡ true) × (w ≡ v)
within-ok true w v h = (refl, cc h)
within-ok false w v h = cc h

digits-small : (ds : List ℕ) → is_plain_number ds ≡ true → length ds ≤ 12 → number ds < 10 ^ 12
digits-small ds plain few =
    let digits = (and_parts (not (length ds == 0)) (all_ascii_digits ds) (and_parts (is_number ds) _ plain).0).1 in
    let below = digits_value-lt 10 ds (numerals.to ds digits) in
    let most : 10 ^ length ds ≤ 10 ^ 12 = pow-le-pow_right {n = 10} (omega arith) {i = length ds} {j = 12} few in
    omega (arith, most, below)

signed-small : (negative : Bool) (n : ℕ) (x : ℤ) → n < 10 ^ 12 → (if negative then neg_ℤ (pos n) else pos n) ≡ x → unsigned_abs x < 10 ^ 12
signed-small true n x small is = rw (← is) (omega (arith, ints, small))
signed-small false n x small is = rw (← is) (omega (arith, ints, small))

-- an instant that can be written has at most twelve digits
pub instant-small : (t : List ℕ) (x : ℤ) → instant_of t ≡ Ok x → unsigned_abs x < 10 ^ 12
instant-small t x is =
    let negative = is_minus (slice_index t 0) in
    let ds = if negative then drop 1 t else t in
    let outer = shaped-ok (is_plain_number ds && not (negative && (slice_index ds 0 == 48))) _ x is in
    let inner = within-ok (nat_le (length ds) 12) _ x outer.1 in
    let few : length ds ≤ 12 = grind (arith, nat_tests, inner.0) in
    signed-small negative (number ds) x (digits-small ds (and_parts (is_plain_number ds) _ outer.0).0 few) inner.1

abs-small : (x : ℤ) → (negsuc 999_999_999_998 ≤ℤ x) → (x ≤ℤ pos 999_999_999_999) → unsigned_abs x < 10 ^ 12
abs-small (pos n) low high = omega (arith, ints, high)
abs-small (negsuc n) low high = omega (arith, ints, low)

-- so has the origin of a service day
pub origin-small : (d x : ℤ) → is_service_day d ≡ true → IsWithin 93_599 ((d *ℤ pos 86_400) -ℤ x) → unsigned_abs x < 10 ^ 12
origin-small d x service near =
    let low : first_service_day ≤ℤ d = grind (arith, ints) in
    let high : d ≤ℤ last_service_day = grind (arith, ints) in
    abs-small x (omega (arith, ints, near, low, high)) (omega (arith, ints, near, low, high))

-- a span of such instants is bad only where it ends before it begins
pub ends-before : (s : Span) → is_span s ≡ false → unsigned_abs s.from < 10 ^ 12 → unsigned_abs s.until < 10 ^ 12 → s.until <ℤ s.from
ends-before s bad from until = grind (arith, ints, nat_tests)

-- what follows an `@` is the text without it
pub after_at-strips : (t : List ℕ) → strip_byte 64 t ≡ after_at t
after_at-strips [] = refl
after_at-strips (b ∷ t) = refl

-- ---- of what is read and asked for

pub read-small : (t : List ℕ) (r : Result ℤ FieldFault) (x : ℤ) → r ≡ instant_of t → result_ok r ≡ Some x → unsigned_abs x < 10 ^ 12
read-small t (Ok y) x is some = instant-small t x (sym is ∙ cc some)
read-small t (Err fault) x is some = cc some

pub service-sound : (r : Result ℤ FieldFault) (d : ℤ) → service_day r ≡ Some d → is_service_day d ≡ true
service-sound (Err fault) d some = cc some
service-sound (Ok e) d some = step (is_service_day e) refl some
  where
    step : (b : Bool) → is_service_day e ≡ b → (if b then Some e else None) ≡ Some d → is_service_day d ≡ true
    step true is h = let same : e ≡ d = cc h in subst (λ x. is_service_day x ≡ true) same is
    step false is h = cc h

pub origins-small : {E : Type 0} (d : ℤ) (r : Result ℤ E) → is_service_day d ≡ true → IfOk r (λ x. IsWithin 93_599 ((d *ℤ pos 86_400) -ℤ x)) → IfOk r (λ x. unsigned_abs x < 10 ^ 12)
origins-small d (Ok x) service near = origin-small d x service near
origins-small d (Err e) service near = near

pub ends-at : (s : Span) (x y from until : ℤ) → s.from ≡ x → s.until ≡ y → x ≡ from → y ≡ until → is_span s ≡ false → unsigned_abs x < 10 ^ 12 → unsigned_abs y < 10 ^ 12 → until <ℤ from
ends-at s x y from until from_x until_y x_from y_until bad short_x short_y =
    let P : ℤ → Type 0 = λ z. unsigned_abs z < 10 ^ 12 in
    let before : s.until <ℤ s.from = ends-before s bad (subst P (sym from_x) short_x) (subst P (sym until_y) short_y) in
    rw (← y_until, ← x_from, ← until_y, ← from_x) before
