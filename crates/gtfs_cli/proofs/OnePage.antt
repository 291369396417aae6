-- A page of a board has one text.
use Rattle.std.proofs.Common.{◌≡◌, ◌∙◌, sym, ap, ap₂, subst, refl, ℕ, suc, zero, ◌+◌, ◌<◌, ◌≤◌, ltb, Bool, true, false, List, [], ◌∷◌, ◌++◌, length, length-append, Some, arith}
use Rattle.std.specs.List.{All}
use Rattle.std.proofs.lemmas.List.Elements.{All-head, All-tail}
use Rattle.std.proofs.lemmas.Bool.{ltb-false, ltb-true}
use Rattle.std.proofs.lemmas.Option.{same_Some}
use Rattle.gtfs_days.specs.Zone.{SaysSame}
use Rattle.gtfs_days.specs.declared.zone.Zone.{Zone}
use Rattle.gtfs_rows.specs.Content.{Content}
use Rattle.gtfs_board.specs.Board.{keys_of}
use Rattle.gtfs_board.specs.BoardLines.{line_text, IsLine, Listed}
use Rattle.gtfs_board.specs.BoardPage.{AreLines, IsPage}
use Rattle.gtfs_board.specs.ShownTrips.{shown, IsShown}

-- ---- what is listed

one_listed : (f : Content) (d e : Listed) → d.key ≡ e.key → IsShown f d → IsShown f e → d ≡ e
one_listed f d e key a b = same_Some d e (sym a ∙ ap (shown f) key ∙ b)

-- departures of the same keys are shown as the same lines
pub one_list : (f : Content) (ds es : List Listed) → keys_of ds ≡ keys_of es → All (IsShown f) ds → All (IsShown f) es → ds ≡ es
one_list f [] [] keys a b = refl
one_list f [] (e ∷ es) keys a b = cc keys
one_list f (d ∷ ds) [] keys a b = cc keys
one_list f (d ∷ ds) (e ∷ es) keys a b =
    let key : d.key ≡ e.key = cc keys in
    let others : keys_of ds ≡ keys_of es = cc keys in
    let first = one_listed f d e key (All-head (IsShown f) d ds a) (All-head (IsShown f) e es b) in
    let rest = one_list f ds es others (All-tail (IsShown f) d ds a) (All-tail (IsShown f) e es b) in
    ap₂ (λ (x : Listed) (xs : List Listed). x ∷ xs) first rest

-- ---- the lines

one_line : (y z : Zone) → SaysSame y z → (d : Listed) (t u : List ℕ) → IsLine y d t → IsLine z d u → t ≡ u
one_line y z same d t u a b = a.2 ∙ ap (λ c. line_text c d) (same.clock d.key.instant a.0 b.0 a.1 b.1) ∙ sym b.2

one_lines : (y z : Zone) → SaysSame y z → (ds : List Listed) (t u : List ℕ) → AreLines y ds t → AreLines z ds u → t ≡ u
one_lines y z same [] t u a b = a ∙ sym b
one_lines y z same (d ∷ ds) t u a b =
    a.4 ∙ ap₂ (λ (x w : List ℕ). x ++ w) (one_line y z same d a.0 b.0 a.2 b.2) (one_lines y z same ds a.1 b.1 a.3 b.3) ∙ sym b.4

-- ---- how many

-- as many first elements of one list are the same
one_front : (xs ls ys ms : List Listed) → length xs ≡ length ys → xs ++ ls ≡ ys ++ ms → xs ≡ ys
one_front [] ls [] ms same is = refl
one_front [] ls (y ∷ ys) ms same is = absurd (omega (arith, same))
one_front (x ∷ xs) ls [] ms same is = absurd (omega (arith, same))
one_front (x ∷ xs) ls (y ∷ ys) ms same is =
    let first : x ≡ y = cc is in
    let others : xs ++ ls ≡ ys ++ ms = cc is in
    let count : length xs ≡ length ys = omega (arith, same) in
    ap₂ (λ (d : Listed) (ds : List Listed). d ∷ ds) first (one_front xs ls ys ms count others)

full : (n l limit : ℕ) → (n < limit → suc l ≡ 0) → (b : Bool) → ltb n limit ≡ b → limit ≤ n
full n l limit ends true is = absurd (omega (arith, ends (ltb-true n limit is)))
full n l limit ends false is = ltb-false n limit is

no_more : (n m l k limit : ℕ) → n + l ≡ m + k → m ≤ limit → (n < limit → l ≡ 0) → m ≤ n
no_more n m zero k limit same within ends = omega (arith, same)
no_more n m (suc l) k limit same within ends = omega (arith, within, full n l limit ends (ltb n limit) refl)

one_count : (xs ls ys ms : List Listed) (n m limit : ℕ) → length xs ≡ n → length ys ≡ m → xs ++ ls ≡ ys ++ ms → n ≤ limit → m ≤ limit → (n < limit → ls ≡ []) → (m < limit → ms ≡ [])
    → length xs ≡ length ys
one_count xs ls ys ms n m limit first second same low high ends stops =
    let whole : n + length ls ≡ m + length ms = omega (arith, first, second, sym (length-append xs ls) ∙ ap (λ (t : List Listed). length t) same ∙ length-append ys ms) in
    let none = λ (more : n < limit). ap (λ (t : List Listed). length t) (ends more) in
    let empty = λ (more : m < limit). ap (λ (t : List Listed). length t) (stops more) in
    omega (arith, first, second, no_more n m (length ls) (length ms) limit whole high none, no_more m n (length ms) (length ls) limit (sym whole) low empty)

-- the pages of one list in zones that say the same have one text
pub one_page : (y z : Zone) (limit : ℕ) (ds left rest : List Listed) (t u : List ℕ) (lines many : ℕ) → SaysSame y z → IsPage y limit ds left (Some []) (Some t) lines
    → IsPage z limit ds rest (Some []) (Some u) many → t ≡ u
one_page y z limit ds left rest t u lines many same a b =
    let x = a.written in
    let w = b.written in
    let split = sym x.split ∙ w.split in
    let count = one_count x.shown left w.shown rest lines many limit x.count w.count split a.within b.within a.ends b.ends in
    let shown = one_front x.shown left w.shown rest count split in
    x.out ∙ one_lines y z same w.shown x.text w.text (subst (λ (es : List Listed). AreLines y es x.text) shown x.are_lines) w.are_lines ∙ sym w.out
