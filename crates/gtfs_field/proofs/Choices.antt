-- Answers that are there exactly where a test passes, and results that go by tests.
use Rattle.std.proofs.Common.{◌≡◌, Bool, true, false, Some, None, Result, Ok, Err, if◌then◌else◌, refl, ap, List, ℕ}
use Rattle.std.specs.Result.{result_ok}
use Rattle.gtfs_field.specs.Kinds.{shaped, within}
use Rattle.gtfs_field.specs.declared.fault.FieldFault.{FieldFault}
use Rattle.gtfs_field.specs.declared.fault.FieldFault.TheVariants.{Form}

pub test-some : {V : Type 0} (b : Bool) (x y : V) → Some x ≡ (if b then Some y else None) → (b ≡ true) × (x ≡ y)
test-some true x y h = (refl, cc)
test-some false x y h = (cc, cc)

pub test-none : {V : Type 0} (b : Bool) (y : V) → None ≡ (if b then Some y else None) → b ≡ false
test-none true y h = cc
test-none false y h = refl

pub shaped-true : {V : Type 0} (b : Bool) (r : Result V FieldFault) → b ≡ true → shaped b r ≡ r
shaped-true b r h = rw h refl

pub shaped-false : {V : Type 0} (b : Bool) (r : Result V FieldFault) → b ≡ false → shaped b r ≡ Err Form
shaped-false b r h = rw h refl

pub within-true : {V : Type 0} (b : Bool) (v : V) → b ≡ true → within b v ≡ Ok v
within-true b v h = rw h refl

pub some-test : {V : Type 0} (b : Bool) (x y : V) → b ≡ true → x ≡ y → Some x ≡ (if b then Some y else None)
some-test b x y passes same = rw (passes, same) refl

pub none-test : {V : Type 0} (b : Bool) (y : V) → b ≡ false → None ≡ (if b then Some y else None)
none-test b y fails = rw fails refl

-- the value of a text that has one
pub ok-from : {V : Type 0} (r : Result V FieldFault) (v : V) → Some v ≡ result_ok r → Ok v ≡ r
ok-from (Ok w) v h = cc
ok-from (Err e) v h = cc

-- equal texts have equal values
pub same-value : {V : Type 0} (read : List ℕ → Result V FieldFault) {t u : List ℕ} {v w : V} → read t ≡ Ok v → read u ≡ Ok w → t ≡ u → v ≡ w
same-value read first second same = cc (ap read same)
