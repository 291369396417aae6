-- Lines that grow by a field at a time.
use Rattle.std.proofs.Common.{codes, ◌≡◌, ◌<◌, ◌≤◌, ◌+◌, ◌++◌, ◌∙◌, ℕ, zero, suc, List, [], ◌∷◌, length, map, take, get_or, add-one, append_assoc, append-nil, cond, Option, Result, Ok, Err, refl, sym, ap, arith}
use Rattle.std.specs.Prelude.{OnOk, is_ok, min, zip}
use Rattle.std.specs.List.{flat_map}
use Rattle.std.proofs.Math.Seq.{take-suc}
use Rattle.std.proofs.lemmas.List.{take_all}
use Rattle.std.proofs.lemmas.List.Folds.{flat_map-map as each-mapped}
use Rattle.gtfs_field.specs.Canonical.{date_text}
use Rattle.gtfs_board.specs.Timetable.{Run, Sheet, direction_shown, sheet_text, stop_text, tabbed, title_text, trips_text}
use Rattle.gtfs_board.proofs.Joined.{joined}

each-append : {X : Type 0} (f : X → List ℕ) (xs : List X) (x : X) → flat_map f (xs ++ x ∷ []) ≡ flat_map f xs ++ f x
each-append f [] x = append-nil (f x)
each-append f (y ∷ ys) x = ap (λ t. f y ++ t) (each-append f ys x) ∙ sym (append_assoc (f y) (flat_map f ys) (f x))

pub nothing-yet : (old start new : List ℕ) → new ≡ old ++ start → new ≡ old ++ (start ++ [])
nothing-yet old start new is = is ∙ ap (λ t. old ++ t) (sym (append-nil start))

-- one more
pub field-more : {X : Type 0} (f : X → List ℕ) (xs : List X) (n : ℕ) (x : X) (old start mid new : List ℕ) → n < length xs → x ≡ get_or xs n x
    → mid ≡ old ++ (start ++ flat_map f (take n xs)) → new ≡ mid ++ f x → new ≡ old ++ (start ++ flat_map f (take (n + 1) xs))
field-more f xs n x old start mid new within item so_far more =
    let taken : flat_map f (take n xs) ++ f x ≡ flat_map f (take (n + 1) xs) =
    ap (λ y. flat_map f (take n xs) ++ f y) item ∙ sym (each-append f (take n xs) (get_or xs n x)) ∙ rw (add-one, take-suc xs n x within) refl in
    more ∙ ap (λ t. t ++ f x) so_far ∙ append_assoc old (start ++ flat_map f (take n xs)) (f x)
    ∙ ap (λ t. old ++ t) (append_assoc start (flat_map f (take n xs)) (f x)) ∙ ap (λ t. old ++ (start ++ t)) taken

-- all of them, and the end of the line
pub line-ends : {X Y : Type 0} (f : Y → List ℕ) (g : X → Y) (xs ys : List X) (old start mid new end : List ℕ) → ys ≡ xs
    → mid ≡ old ++ (start ++ flat_map (λ x. f (g x)) ys) → new ≡ mid ++ end → new ≡ old ++ (start ++ (flat_map f (map g xs) ++ end))
line-ends f g xs ys old start mid new end all so_far last =
    let shown : flat_map (λ x. f (g x)) ys ≡ flat_map f (map g xs) = ap (flat_map (λ x. f (g x))) all ∙ sym (each-mapped f g xs) in
    last ∙ ap (λ t. t ++ end) so_far ∙ append_assoc old (start ++ flat_map (λ x. f (g x)) ys) end
    ∙ ap (λ t. old ++ t) (append_assoc start (flat_map (λ x. f (g x)) ys) end) ∙ ap (λ t. old ++ (start ++ (t ++ end))) shown

-- ---- pieces

-- the last piece, where there is memory for it
pub pushed : {A E : Type 0} (r : Result A E) (P : Type 0) (mid new piece : List ℕ) → new ≡ cond (is_ok r) (mid ++ piece) mid → (new ≡ mid ++ piece → P) → OnOk r P
pushed (Ok x) P mid new piece is whole = whole is
pushed (Err e) P mid new piece is whole = tt

pub after : {A E : Type 0} (r : Result A E) (old start mid new piece : List ℕ) → mid ≡ old ++ start → OnOk r (new ≡ mid ++ piece) → OnOk r (new ≡ old ++ (start ++ piece))
after (Ok x) old start mid new piece so_far more = joined old mid new start piece so_far more
after (Err e) old start mid new piece so_far more = tt

-- ---- the first line

pub title-joined : (s : Sheet) (old a b c d e f new : List ℕ)
    → a ≡ old ++ codes "== " → b ≡ a ++ s.route → c ≡ b ++ codes " " → d ≡ c ++ direction_shown s.direction → e ≡ d ++ codes " " → f ≡ e ++ date_text s.day
    → new ≡ f ++ codes "\n" → new ≡ old ++ title_text s
title-joined s old a b c d e f new marked routed spaced directed parted dated ended =
    let route : List ℕ = codes "== " ++ s.route in
    let space : List ℕ = route ++ codes " " in
    let direction : List ℕ = space ++ direction_shown s.direction in
    let part : List ℕ = direction ++ codes " " in
    let date : List ℕ = part ++ date_text s.day in
    joined old f new date (codes "\n")
    (joined old e f part (date_text s.day)
    (joined old d e direction (codes " ")
    (joined old c d space (direction_shown s.direction)
    (joined old b c route (codes " ")
    (joined old a b (codes "== ") s.route marked routed) spaced) directed) parted) dated) ended

-- ---- two lists side by side

pub field-at : {X : Type 0} (f : X → List ℕ) (xs : List X) (n : ℕ) (d : X) (old start mid new : List ℕ) → n < length xs
    → mid ≡ old ++ (start ++ flat_map f (take n xs)) → new ≡ mid ++ f (get_or xs n d) → new ≡ old ++ (start ++ flat_map f (take (n + 1) xs))
field-at f xs n d old start mid new within so_far more =
    let taken : flat_map f (take n xs) ++ f (get_or xs n d) ≡ flat_map f (take (n + 1) xs) =
    sym (each-append f (take n xs) (get_or xs n d)) ∙ rw (add-one, take-suc xs n d within) refl in
    more ∙ ap (λ t. t ++ f (get_or xs n d)) so_far ∙ append_assoc old (start ++ flat_map f (take n xs)) (f (get_or xs n d))
    ∙ ap (λ t. old ++ t) (append_assoc start (flat_map f (take n xs)) (f (get_or xs n d))) ∙ ap (λ t. old ++ (start ++ t)) taken

module _ {A : Type 0} (f : A → List ℕ) where
  length-zipped : (xs : List A) (ys : List (List (Option ℕ))) (n : ℕ) → n < length xs → n < length ys → n < length (zip (map f xs) ys)
  length-zipped [] ys n in_first in_second = absurd (omega arith)
  length-zipped (x ∷ xs) [] n in_first in_second = absurd (omega arith)
  length-zipped (x ∷ xs) (y ∷ ys) zero in_first in_second = omega arith
  length-zipped (x ∷ xs) (y ∷ ys) (suc n) in_first in_second = omega (arith, length-zipped xs ys n (omega arith) (omega arith))

  taken-zipped : (xs : List A) (ys : List (List (Option ℕ))) (n : ℕ) → min (length xs) (length ys) ≤ n → length (zip (map f xs) ys) ≤ n
  taken-zipped [] ys n past = omega arith
  taken-zipped (x ∷ xs) [] n past = omega arith
  taken-zipped (x ∷ xs) (y ∷ ys) zero past = absurd (omega arith)
  taken-zipped (x ∷ xs) (y ∷ ys) (suc n) past = omega (arith, taken-zipped xs ys n (omega arith))

  zipped-at : (xs : List A) (ys : List (List (Option ℕ))) (n : ℕ) (d : A) (e : List (Option ℕ)) (z : List ℕ × List (Option ℕ)) → n < length xs → n < length ys
      → (f (get_or xs n d), get_or ys n e) ≡ get_or (zip (map f xs) ys) n z
  zipped-at [] ys n d e z in_first in_second = absurd (omega arith)
  zipped-at (x ∷ xs) [] n d e z in_first in_second = absurd (omega arith)
  zipped-at (x ∷ xs) (y ∷ ys) zero d e z in_first in_second = refl
  zipped-at (x ∷ xs) (y ∷ ys) (suc n) d e z in_first in_second = zipped-at xs ys n d e z (omega arith) (omega arith)

  line-more : (stops : List A) (times : List (List (Option ℕ))) (n : ℕ) (d : A) (t : List (Option ℕ)) (old mid new : List ℕ) → n < min (length stops) (length times) → t ≡ get_or times n t
      → mid ≡ old ++ flat_map stop_text (take n (zip (map f stops) times)) → new ≡ mid ++ stop_text (f (get_or stops n d), t)
      → new ≡ old ++ flat_map stop_text (take (n + 1) (zip (map f stops) times))
  line-more stops times n d t old mid new within item so_far more =
      let z : List ℕ × List (Option ℕ) = (f (get_or stops n d), t) in
      let lines = zip (map f stops) times in
      let same : z ≡ get_or lines n z = (λ i. (f (get_or stops n d), item i)) ∙ zipped-at stops times n d t z (omega arith) (omega arith) in
      field-more stop_text lines n z old [] mid new (length-zipped stops times n (omega arith) (omega arith)) same so_far more

  pub lines-more : (stops ss : List A) (times ts : List (List (Option ℕ))) (n count : ℕ) (d : A) (t : List (Option ℕ)) (cells : List (Option ℕ)) (old mid new : List ℕ)
      → n < count → count ≡ min (length ss) (length ts) → ss ≡ stops → ts ≡ times → t ≡ get_or ts n t → cells ≡ t
      → mid ≡ old ++ flat_map stop_text (take n (zip (map f stops) times)) → new ≡ mid ++ stop_text (f (get_or ss n d), cells)
      → new ≡ old ++ flat_map stop_text (take (n + 1) (zip (map f stops) times))
  lines-more stops ss times ts n count d t cells old mid new before count-is stops-are times-are item cells-are so_far more =
      let same-count : count ≡ min (length stops) (length times) = count-is ∙ (λ i. min (length (stops-are i)) (length (times-are i))) in
      line-more stops times n d t old mid new (omega (arith, same-count)) (item ∙ ap (λ us. get_or us n t) times-are) so_far
      (more ∙ (λ i. mid ++ stop_text (f (get_or (stops-are i) n d), cells-are i)))

  pub lines-all : (stops ss : List A) (times ts : List (List (Option ℕ))) (n count : ℕ) (old new : List ℕ)
      → count ≤ n → count ≡ min (length ss) (length ts) → ss ≡ stops → ts ≡ times
      → new ≡ old ++ flat_map stop_text (take n (zip (map f stops) times)) → new ≡ old ++ flat_map stop_text (zip (map f stops) times)
  lines-all stops ss times ts n count old new past count-is stops-are times-are so_far =
      let same-count : count ≡ min (length stops) (length times) = count-is ∙ (λ i. min (length (stops-are i)) (length (times-are i))) in
      so_far ∙ ap (λ ls. old ++ flat_map stop_text ls) (take_all n (zip (map f stops) times) (taken-zipped stops times n (omega (arith, same-count))))

-- ---- the whole text

abbrev named : {A : Type 0} → (A → List ℕ) → ℕ × A → Run
named now run = (run.0, now run.1)

abbrev id_of : Run → List ℕ
id_of r = r.1

abbrev id_shown : {A : Type 0} → (A → List ℕ) → ℕ × A → List ℕ
id_shown now run = now run.1

ids-shown : {A : Type 0} (now : A → List ℕ) (runs : List (ℕ × A)) → map (id_shown now) runs ≡ map id_of (map (named now) runs)
ids-shown now [] = refl
ids-shown now (x ∷ xs) = ap (λ ids. now x.1 ∷ ids) (ids-shown now xs)

pub sheet-joined : {A : Type 0} (now : A → List ℕ) (runs rs : List (ℕ × A)) (s : Sheet) (old empty title trips stops whole new : List ℕ)
    → s.runs ≡ map (named now) runs → rs ≡ runs → empty ≡ [] → title ≡ empty ++ title_text s
    → trips ≡ title ++ (codes "trip" ++ tabbed (map (id_shown now) rs)) → stops ≡ trips ++ flat_map stop_text (zip s.stops s.times)
    → whole ≡ stops → new ≡ old ++ whole → new ≡ old ++ sheet_text s
sheet-joined now runs rs s old empty title trips stops whole new shown all none first second third is last =
    let ids : map (id_shown now) rs ≡ map id_of s.runs = ap (map (id_shown now)) all ∙ ids-shown now runs ∙ ap (map id_of) (sym shown) in
    let lines = flat_map stop_text (zip s.stops s.times) in
    let titled : title ≡ title_text s = first ∙ ap (λ t. t ++ title_text s) none in
    let line : codes "trip" ++ tabbed (map (id_shown now) rs) ≡ trips_text s = ap (λ t. codes "trip" ++ tabbed t) ids in
    let listed : trips ≡ title_text s ++ trips_text s = second ∙ (λ i. titled i ++ line i) in
    let joined : whole ≡ sheet_text s = is ∙ third ∙ ap (λ t. t ++ lines) listed in
    last ∙ ap (λ t. old ++ t) joined
