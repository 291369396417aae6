-- Boards that were opened.
use Rattle.std.proofs.Common.{◌≡◌, ◌∙◌, ap, sym, subst, true, false, List, ℕ, All, Option, Some, None, option_map, option_copied, ℤ, ◌<ℤ◌, arith}
use Rattle.std.specs.Borrow.{Bor}
use Rattle.std.proofs.lemmas.Int.{ints}
use Rattle.std.proofs.lemmas.Bool.{true_from_ne_false}
use Rattle.gtfs_days.specs.Zone.{zone_origin}
use Rattle.gtfs_days.specs.declared.zone.Zone.{Zone}
use Rattle.gtfs_rows.specs.Content.{Content}
use Rattle.gtfs_board.specs.Board.{is_stop, keys_of}
use Rattle.gtfs_rows.specs.Departures.{IsBoard}
use Rattle.gtfs_rows.specs.Key.{Key}
use Rattle.gtfs_times.specs.Filling.{timed}
use Rattle.gtfs_board.specs.LentKeys.{plain_key}
use Rattle.gtfs_board.specs.BoardLines.{Listed}
use Rattle.gtfs_board.specs.ShownTrips.{IsShown}
use Rattle.gtfs_board.specs.BoardSpan.{is_span}
use Rattle.gtfs_board.specs.declared.key.Key.{Key as LentKey}
use Rattle.gtfs_board.specs.declared.span.Span.{Span}
use Rattle.gtfs_cli.specs.BoardCommand.{ListsBoard}
use Rattle.gtfs_cli.specs.BoardOptions.{instant_at, BoardRequest}

-- a span that ends before it begins is bad
backward : (s : Span) → s.until <ℤ s.from → is_span s ≡ false
backward s before = grind (arith, ints)

-- the key is lent
pub after-lent : (o : Option (Bor LentKey)) (s : Option LentKey) → option_copied o ≡ s → option_map (λ k. plain_key k.now) o ≡ option_map plain_key s
after-lent None s is = ap (option_map plain_key) is
after-lent (Some k) s is = ap (option_map plain_key) is

-- a board over the instants of the values, that was not refused
pub lists-board : (f : Content) (z : Zone) (stop : List ℕ) (r : BoardRequest) (s : Span) (x y : ℤ) (after : Option Key) (ds : List Listed) → s.from ≡ x → s.until ≡ y
    → x ≡ instant_at (zone_origin z) r.from → y ≡ instant_at (zone_origin z) r.until → after ≡ r.after → (is_stop f stop ≡ false → ⊥)
    → ((is_stop f stop ≡ true) × (is_span s ≡ false) → ⊥) → IsBoard (timed r.times f) (zone_origin z) stop s.from s.until after (keys_of ds) → All (IsShown f) ds
    → ListsBoard f z stop r ds
lists-board f z stop r s x y after ds from_x until_y x_from y_until same_after never forward board shown =
    let known = true_from_ne_false (is_stop f stop) never in
    let from = instant_at (zone_origin z) r.from in
    let until = instant_at (zone_origin z) r.until in
    let from_is : s.from ≡ from = from_x ∙ x_from in
    let until_is : s.until ≡ until = until_y ∙ y_until in
    record {
      known = known;
      forward = λ before. forward (
        known,
        backward s
            (subst (λ (u : ℤ). u <ℤ s.from) (sym until_is) (subst (λ (u : ℤ). until <ℤ u) (sym from_is) before)),
      );
      board = subst (λ (k : Option Key). IsBoard (timed r.times f) (zone_origin z) stop from until k (keys_of ds)) same_after
          (subst (λ (u : ℤ). IsBoard (timed r.times f) (zone_origin z) stop from u after (keys_of ds)) until_is
          (subst (λ (u : ℤ). IsBoard (timed r.times f) (zone_origin z) stop u s.until after (keys_of ds)) from_is board));
      shown = shown;
    }
