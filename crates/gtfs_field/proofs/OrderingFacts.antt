-- What a comparison says, and what one that goes by two comparisons says of each.
use Rattle.std.proofs.Common.{◌≡◌, ◌<◌, ◌≤◌, ℕ, true, T, ℤ, ◌<ℤ◌, int_cmp, refl, arith}
use Rattle.std.specs.Ordering.{is_eq, is_lt, nat_cmp, ordering_then}
use Rattle.std.specs.declared.cmp.Ordering.{Ordering}
use Rattle.std.specs.declared.cmp.Ordering.TheVariants.{Less, Equal, Greater}
use Rattle.std.proofs.lemmas.Bool.{lt-ltb}
use Rattle.std.proofs.lemmas.Bool.Decides.{nat_tests}
use Rattle.std.proofs.lemmas.Int.{ints}

pub equal : (r : Ordering) → is_eq r ≡ true → r ≡ Equal
equal Less e = cc e
equal Equal e = refl
equal Greater e = cc e

pub less : (r : Ordering) → is_lt r ≡ true → r ≡ Less
less Less e = refl
less Equal e = cc e
less Greater e = cc e

pub less_so : (r : Ordering) → T (is_lt r) → r ≡ Less
less_so Less h = refl
less_so Equal h = absurd h
less_so Greater h = absurd h

-- ---- one comparison after another

pub tied : (r s : Ordering) → ordering_then r s ≡ Equal → (r ≡ Equal) × (s ≡ Equal)
tied Less s e = cc e
tied Equal s e = (refl, e)
tied Greater s e = cc e

pub tied_first : (r s : Ordering) → ordering_then r s ≡ Equal → r ≡ Equal
tied_first r s e = (tied r s e).0

pub tied_second : (r s : Ordering) → ordering_then r s ≡ Equal → s ≡ Equal
tied_second r s e = (tied r s e).1

-- ---- numbers

pub nat-less : (a b : ℕ) → a < b → nat_cmp a b ≡ Less
nat-less a b h = rw (lt-ltb a b h) refl

pub nat-greater : (a b : ℕ) → b < a → nat_cmp a b ≡ Greater
nat-greater a b h = grind (arith, nat_tests)

pub int-less : (a b : ℤ) → a <ℤ b → int_cmp a b ≡ Less
int-less a b h = grind (arith, ints)

-- a number that is compared first, and comes first, is no greater
pub first_at_most : (a b : ℕ) (r : Ordering) → ordering_then (nat_cmp a b) r ≡ Less → a ≤ b
first_at_most a b r h = by (nat_cmp a b) refl h
  where
    by : (s : Ordering) → nat_cmp a b ≡ s → ordering_then s r ≡ Less → a ≤ b
    by Less is h = grind (arith, nat_tests)
    by Equal is h = grind (arith, nat_tests)
    by Greater is h = absurd (cc)
