-- Rows that stand by their ids, one by one from entries that ascend by them.
use Rattle.std.proofs.Common.{◌≡◌, ℕ, List, [], ◌∷◌, Some, Option, refl, sym, ap, ◌∙◌, subst, map}
use Rattle.std.specs.List.{AllPairs, Contains}
use Rattle.std.specs.Ordering.{on}
use Rattle.std.specs.declared.cmp.Ordering.TheVariants.{Less}
use Rattle.std.proofs.lemmas.Option.{same_Some as some-is}
use Rattle.gtfs_field.proofs.ListFacts.{pairs-from_map}
use Rattle.gtfs_field.specs.TextOrder.{text_cmp}
use Rattle.gtfs_field.proofs.TextOrderFacts.{texts_total}
use Rattle.gtfs_rows.specs.TransferOrder.{Ascends}
use Rattle.gtfs_rows.proofs.ByKey.{by_key_is}
use Rattle.gtfs_rows.proofs.Held.{text_antisymmetric}
use Rattle.gtfs_rows.proofs.SameElements.{contains-first, contains-from_map, contains-later, contains-map, pairs-map}
use Rattle.gtfs_merge.specs.Merged.{by_id}

module _ {E X : Type 0} (entry_id : E → List ℕ) (id : X → List ℕ) (value : E → Option X) where
  -- a row of these for an entry
  pub record IsRow (rows : List X) (e : E) : Type 0 where
    pub row : X
    pub among : Contains rows row
    pub is : value e ≡ Some row
    pub own : id row ≡ entry_id e

  -- the rows of entries
  record AreRows (es : List E) : Type 0 where
    pub rows : List X
    pub are : map Some rows ≡ map value es
    pub own : map id rows ≡ map entry_id es

  collected : (all : List X) (es : List E) → ((e : E) → Contains es e → IsRow all e) → AreRows es
  collected all [] each = record { rows = []; are = refl; own = refl }
  collected all (e ∷ es) each =
      let first = each e (contains-first e e es refl) in
      let rest = collected all es (λ f at. each f (contains-later f e es at)) in
      record {
        rows = first.row ∷ rest.rows;
        are = λ i. sym first.is i ∷ rest.are i;
        own = λ i. first.own i ∷ rest.own i;
      }

  -- the entry of a row
  pub record HasEntry (es : List E) (x : X) : Type 0 where
    pub entry : E
    pub among : Contains es entry
    pub is : value entry ≡ Some x

  pub record AreById (rows : List X) (es : List E) : Type 0 where
    pub listed : map Some (by_id id rows) ≡ map value es
    pub ids : map entry_id es ≡ map id (by_id id rows)

  pub by_id-from : (rows : List X) (es : List E) → Ascends (on entry_id text_cmp) es → ((e : E) → Contains es e → IsRow rows e) → ((x : X) → Contains rows x → HasEntry es x) → AreById rows es
  by_id-from rows es up each back =
      let own = collected rows es each in
      let there : (x : X) → Contains rows x → Contains own.rows x = λ x at.
      (let h = back x at in
      let some = contains-from_map Some own.rows (Some x) (subst (λ os. Contains os (Some x)) (sym own.are) (subst (Contains (map value es)) h.is (contains-map value es h.entry h.among))) in
      subst (Contains own.rows) (some-is some.0 x some.1.1) some.1.0) in
      let from : (x : X) → Contains own.rows x → Contains rows x = λ x at.
      (let e = contains-from_map value es (Some x) (subst (λ os. Contains os (Some x)) own.are (contains-map Some own.rows x at)) in
      let r = each e.0 e.1.0 in
      subst (Contains rows) (some-is r.row x (sym r.is ∙ e.1.1)) r.among) in
      let ordered : Ascends (on id text_cmp) own.rows = pairs-from_map id (λ s t. text_cmp s t ≡ Less) own.rows
      (subst (AllPairs (λ s t. text_cmp s t ≡ Less)) (sym own.own) (pairs-map entry_id (λ s t. text_cmp s t ≡ Less) es up)) in
      let same : by_id id rows ≡ own.rows = by_key_is text_cmp texts_total id text_antisymmetric rows own.rows (record { there = there; back = from }) ordered in
      record { listed = ap (map Some) same ∙ own.are; ids = sym own.own ∙ ap (map id) (sym same) }
