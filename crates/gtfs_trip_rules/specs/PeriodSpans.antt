-- What a map of spans says: which seconds of each trip it covers. A span is kept by its trip's number and its start, and holds its start and not its end.
use Rattle.std.specs.Prelude.{◌≡◌, ℕ, ◌<◌, ◌≤◌, ◌&&◌, Bool, Option, Some, pos, nat_eq}
use Rattle.std.specs.BTreeMap.{BTreeMap, get}
use Rattle.std.specs.List.{list_any}
use Rattle.std.specs.Ordering.{nat_cmp, ordering_then}
use Rattle.std.specs.declared.cmp.Ordering.{Ordering}
use Rattle.gtfs_schema.specs.PeriodRules.{share_second}

-- the number of a trip, and the start of a span
abbrev pub Key : Type 0
Key = ℕ × ℕ

abbrev pub key_cmp : Key → Key → Ordering
key_cmp a b = ordering_then (nat_cmp a.0 b.0) (nat_cmp a.1 b.1)

abbrev pub Spans : Type 0
Spans = BTreeMap Key ℕ

abbrev pub span_end : Spans → Key → Option ℕ
span_end spans key = get key_cmp spans key

-- some second lies in both of these, in seconds from the origin
abbrev pub shares : ℕ → ℕ → ℕ → ℕ → Bool
shares start end start' end' = share_second (pos start) (pos end) (pos start') (pos end')

-- a span of the trip shares a second with this period
abbrev pub covers : Spans → ℕ → ℕ → ℕ → Bool
covers spans trip start end = list_any (λ s. nat_eq trip s.0.0 && shares s.0.1 s.1 start end) spans.entries

-- no span is empty
abbrev pub AreFilled : Spans → Type 0
AreFilled spans = (k : Key) (end : ℕ) → span_end spans k ≡ Some end → k.1 < end

-- a span ends before a later one of its trip starts
abbrev pub AreApart : Spans → Type 0
AreApart spans = (j k : Key) (end end' : ℕ) → span_end spans j ≡ Some end → span_end spans k ≡ Some end' → j.0 ≡ k.0 → j.1 < k.1 → end ≤ k.1

-- the trip has this span, which shares a second with a period
pub record IsMet (spans : Spans) (trip : ℕ) (start end : ℕ) (met : ℕ × ℕ) : Type 0 where
  pub filled : start < end
  pub there : span_end spans (trip, met.0) ≡ Some met.1
  pub before : met.0 < end
  pub after : start < met.1
