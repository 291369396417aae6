-- The headsigns that were met so far, each at its number.
use Rattle.std.specs.Prelude.{ℕ, List, Option, Some, None, bytes_eq}
use Rattle.std.specs.declared.random_state.RandomState.{RandomState}
use Rattle.indexmap.specs.IndexSet.{insert_key}

pub record HeadsignIndex : Type 0 where
  pub texts : List (List ℕ)
  -- what the texts are hashed by
  pub random : RandomState

-- the texts once this headsign, if there is one, is met: a new one goes last
abbrev pub with_headsign : List (List ℕ) → Option (List ℕ) → List (List ℕ)
with_headsign ts None = ts
with_headsign ts (Some t) = insert_key bytes_eq ts t
