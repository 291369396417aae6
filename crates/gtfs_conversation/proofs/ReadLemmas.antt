-- The bytes of a line, one by one, and the line that is heard of them.
use Rattle.std.proofs.Common.{ℕ, zero, suc, ◌+◌, ◌-◌, ◌≡◌, ◌==◌, ◌<◌, ◌≤◌, ◌⊎◌, ◌||◌, inl, inr, not, Bool, true, false, List, [], ◌∷◌, ◌++◌, length, map, take, if◌then◌else◌, Option, Some, None, IfSome, refl, ap, sym, subst, ◌∙◌, append_assoc, arith}
use Rattle.std.specs.Prelude.{option_map, slice_index}
use Rattle.std.specs.List.{slice_split}
use Rattle.std.specs.Str.Lines.{lines, lines_of_parts, strip_carriage_return}
use Rattle.std.proofs.lemmas.Bool.Decides.{nat_tests}
use Rattle.std.proofs.lemmas.Grind.{common_steps}
use Rattle.std.proofs.lemmas.List.{length-take, take-take, take_all}
use Rattle.std.proofs.lemmas.List.Elements.{All-push}
use Rattle.std.proofs.lemmas.List.Splits.{length-slice_split, slice_split_at, slice_split_none}
use Rattle.gtfs_conversation.specs.Conversation.{Hears}
use Rattle.gtfs_conversation.specs.HeardLines.{heard_lines, longest_line}
use Rattle.gtfs_conversation.specs.HeardInput.{GivesByte, HasNoFeed, ReadsRaw, heard_of}

-- ---- a line that is heard, of the first of its bytes

either : (i j : ℕ) → (i ≤ j) ⊎ (j < i)
either i j = grind arith

-- a carriage return far behind changes nothing of the beginning
stripped : (n : ℕ) (xs : List ℕ) (b : Bool) → n < length xs → take n (if b then take (length xs - 1) xs else xs) ≡ take n xs
stripped n xs true lt = take-take n (length xs - 1) xs (omega arith)
stripped n xs false lt = refl

beginning_stripped : (n : ℕ) (xs : List ℕ) → n < length xs → take n (strip_carriage_return xs) ≡ take n xs
beginning_stripped n xs lt = stripped n xs (slice_index xs (length xs - 1) == 13) lt

first_enough : (n : ℕ) (raw : List ℕ) → (length raw ≤ suc n) ⊎ (suc n < length raw)
    → take n (strip_carriage_return (take (suc n) raw)) ≡ take n (strip_carriage_return raw)
first_enough n raw (inl le) = ap (λ l. take n (strip_carriage_return l)) (take_all (suc n) raw le)
first_enough n raw (inr lt) =
    let few : n < length (take (suc n) raw) = omega (arith, length-take (suc n) raw) in
    let all : n < length raw = omega arith in
    beginning_stripped n (take (suc n) raw) few ∙ take-take n (suc n) raw (omega arith) ∙ sym (beginning_stripped n raw all)

-- one byte more than are heard tells whether a line is too long or CR ends it
pub heard_of_first : (most more : ℕ) (fed : Bool) (raw : List ℕ) → more ≡ suc (most + 1) → heard_of most fed (take more raw) ≡ heard_of most fed raw
heard_of_first most more true raw is =
    ap (λ n. heard_of most true (take n raw)) is ∙ first_enough (most + 1) raw (either (length raw) (suc (most + 1)))
heard_of_first most more false raw is = take-take (most + 1) more raw (omega arith)

-- ---- the lines of bytes

lines_of_more : (x : List ℕ) (parts : List (List ℕ)) → 0 < length parts → lines_of_parts (x ∷ parts) ≡ strip_carriage_return x ∷ lines_of_parts parts
lines_of_more x [] some = absurd (omega arith)
lines_of_more x (y ∷ parts) some = refl

-- a first line that LF ends
lines_feed : (raw rest : List ℕ) → HasNoFeed raw → lines (raw ++ 10 ∷ rest) ≡ strip_carriage_return raw ∷ lines rest
lines_feed raw rest none =
    ap lines_of_parts (slice_split_at (λ b. b == 10) raw 10 rest none refl)
    ∙ lines_of_more raw (slice_split (λ b. b == 10) rest) (omega (arith, length-slice_split (λ b. b == 10) rest))

-- the only line, which nothing ends
lines_end : (x : ℕ) (raw : List ℕ) → HasNoFeed (x ∷ raw) → lines (x ∷ raw) ≡ (x ∷ raw) ∷ []
lines_end x raw none =
    let some : (length (x ∷ raw) == 0) ≡ false = grind (arith, nat_tests) in
    ap lines_of_parts (slice_split_none (λ b. b == 10) (x ∷ raw) none) ∙ ap (λ b. if b then [] else (x ∷ raw) ∷ []) some

-- ---- byte by byte

-- of the bytes so many were seen, and the first of them kept
pub record Reads (most : ℕ) (bytes line : List ℕ) (left : Option (List ℕ)) : Type 0 where
  pub seen : List ℕ
  pub rest : List ℕ
  pub split : bytes ≡ seen ++ rest
  pub no_feed : HasNoFeed seen
  pub kept : line ≡ take most seen
  pub waits : left ≡ Some rest

-- where the first bytes are known
abbrev pub ReadsIf : ℕ → Option (List ℕ) → List ℕ → Option (List ℕ) → Type 0
ReadsIf most first line left = IfSome first (λ bytes. Reads most bytes line left)

-- what the next byte was
abbrev pub Gives : Option (List ℕ) → Option ℕ → Option (List ℕ) → Type 0
Gives left byte left_now = IfSome left (λ bytes. GivesByte bytes byte left_now)

gives : (left : Option (List ℕ)) (rest : List ℕ) (byte byte_is : Option ℕ) (left_now : Option (List ℕ)) → left ≡ Some rest → byte ≡ byte_is
    → Gives left byte left_now → GivesByte rest byte_is left_now
gives None rest byte byte_is left_now is same p = absurd cc
gives (Some xs) rest byte byte_is left_now is same p =
    let whole : xs ≡ rest = cc is in
    subst (λ o. GivesByte rest o left_now) same (subst (λ l. GivesByte l byte left_now) whole p)

kept_more : (n : ℕ) (xs : List ℕ) (x : ℕ) → take n (take n xs ++ x ∷ []) ≡ take n (xs ++ x ∷ [])
kept_more zero xs x = grind (arith, common_steps)
kept_more (suc n) [] x = refl
kept_more (suc n) (y ∷ ys) x = ap (λ l. y ∷ l) (kept_more n ys x)

-- no more are kept than are to be
pub is_short : (n : ℕ) (xs line : List ℕ) → line ≡ take n xs → length line ≤ n
is_short n xs line is = subst (λ l. length l ≤ n) (sym is) (omega (arith, length-take n xs))

pub reads_more : (most : ℕ) (first : Option (List ℕ)) (line line_now : List ℕ) (left left_now : Option (List ℕ)) (byte : Option ℕ) (x : ℕ)
    → ReadsIf most first line left → Gives left byte left_now → byte ≡ Some x → (x ≡ 10 → ⊥) → line_now ≡ take most (line ++ x ∷ [])
    → ReadsIf most first line_now left_now
reads_more most None line line_now left left_now byte x r shown same other keeps = tt
reads_more most (Some bytes) line line_now left left_now byte x r shown same other keeps =
    let next : GivesByte r.rest (Some x) left_now = gives left r.rest byte (Some x) left_now r.waits same shown in
    let is : (x == 10) ≡ false = grind (arith, nat_tests) in
    record {
      seen = r.seen ++ x ∷ [];
      rest = next.0;
      split = r.split ∙ (ap (λ l. r.seen ++ l) next.1 ∙ sym (append_assoc r.seen (x ∷ []) next.0));
      no_feed = All-push (λ b. (b == 10) ≡ false) r.seen x r.no_feed is;
      kept = keeps ∙ (ap (λ l. take most (l ++ x ∷ [])) r.kept ∙ kept_more most r.seen x);
      waits = next.2;
    }

-- ---- a line, where one of more than this many bytes is heard by its beginning

abbrev heard_within : ℕ → List ℕ → List (List ℕ)
heard_within most bytes = map (λ l. take (most + 1) l) (lines bytes)

-- the lines that are left, and whether a line was heard and these are left
abbrev left_within : ℕ → Option (List ℕ) → Option (List (List ℕ))
left_within most left = option_map (heard_within most) left

abbrev HearsWithin : ℕ → Bool → List ℕ → List ℕ → Option (List ℕ) → Type 0
HearsWithin most more bytes line left = Hears more (heard_within most bytes) line (left_within most left)

heard_feed : (most more : ℕ) (kept bytes : List ℕ) (left : Option (List ℕ)) → more ≡ suc (most + 1) → ReadsRaw more true bytes kept left
    → HearsWithin most true bytes (heard_of most true kept) left
heard_feed most more kept bytes left is r =
    let line : heard_of most true kept ≡ heard_of most true r.raw =
    ap (heard_of most true) r.beginning ∙ heard_of_first most more true r.raw is in
    let rest : List ℕ = r.end.0 in
    let all : heard_within most bytes ≡ heard_of most true r.raw ∷ heard_within most rest =
    ap (heard_within most) r.end.1 ∙ ap (λ ls. map (λ l. take (most + 1) l) ls) (lines_feed r.raw rest r.no_feed) in
    (heard_within most rest, all ∙ ap (λ l. l ∷ heard_within most rest) (sym line), ap (λ o. left_within most o) r.end.2)

some_kept : (more : ℕ) (x : ℕ) (raw kept : List ℕ) → 0 < more → kept ≡ take more (x ∷ raw) → not (length kept == 0) ≡ true
some_kept more x raw kept lt is =
    let long : length kept ≡ length (take more (x ∷ raw)) = ap (λ l. length l) is in
    let some : 0 < length kept = omega (arith, long, length-take more (x ∷ raw)) in
    grind (arith, nat_tests)

none_kept : (more : ℕ) (kept : List ℕ) → kept ≡ take more [] → kept ≡ []
none_kept more kept is = is ∙ grind (arith, common_steps)

heard_end : (most more : ℕ) (raw kept : List ℕ) (left : Option (List ℕ)) → more ≡ suc (most + 1) → HasNoFeed raw → kept ≡ take more raw
    → left ≡ Some []
    → HearsWithin most (not (length kept == 0)) raw (heard_of most false kept) left
heard_end most more [] kept left is none beginning ends =
    let empty : kept ≡ [] = none_kept more kept beginning in
    let no : not (length kept == 0) ≡ false = ap (λ l. not (length l == 0)) empty in
    subst (λ b. HearsWithin most b [] (heard_of most false kept) left) (sym no) (refl, ap (λ o. left_within most o) ends)
heard_end most more (x ∷ raw) kept left is none beginning ends =
    let line : heard_of most false kept ≡ heard_of most false (x ∷ raw) =
    ap (heard_of most false) beginning ∙ heard_of_first most more false (x ∷ raw) is in
    let all : heard_within most (x ∷ raw) ≡ heard_of most false (x ∷ raw) ∷ [] =
    ap (λ ls. map (λ l. take (most + 1) l) ls) (lines_end x raw none) in
    let yes : not (length kept == 0) ≡ true = some_kept more x raw kept (omega arith) beginning in
    subst (λ b. HearsWithin most b (x ∷ raw) (heard_of most false kept) left) (sym yes)
    ([], all ∙ ap (λ l. l ∷ []) (sym line), ap (λ o. left_within most o) ends)

heard_raw : (most more : ℕ) (fed : Bool) (kept bytes : List ℕ) (left : Option (List ℕ)) → more ≡ suc (most + 1) → ReadsRaw more fed bytes kept left
    → HearsWithin most (fed || not (length kept == 0)) bytes (heard_of most fed kept) left
heard_raw most more true kept bytes left is r = heard_feed most more kept bytes left is r
heard_raw most more false kept bytes left is r =
    subst (λ bs. HearsWithin most (not (length kept == 0)) bs (heard_of most false kept) left) (sym r.end.0)
    (heard_end most more r.raw kept left is r.no_feed r.beginning r.end.1)

heard_within_line : (most more : ℕ) (first left : Option (List ℕ)) (fed is_more : Bool) (kept line : List ℕ) → more ≡ suc (most + 1)
    → IfSome first (λ bytes. ReadsRaw more fed bytes kept left) → is_more ≡ (fed || not (length kept == 0)) → line ≡ heard_of most fed kept
    → IfSome first (λ bytes. HearsWithin most is_more bytes line left)
heard_within_line most more None left fed is_more kept line is r whether heard = tt
heard_within_line most more (Some bytes) left fed is_more kept line is r whether heard =
    subst (λ b. HearsWithin most b bytes line left) (sym whether)
    (subst (λ l. HearsWithin most (fed || not (length kept == 0)) bytes l left) (sym heard) (heard_raw most more fed kept bytes left is r))

-- what was read to the end of a line is the first line, or there was none
pub heard_line : (first left : Option (List ℕ)) (fed more : Bool) (kept line : List ℕ)
    → IfSome first (λ bytes. ReadsRaw (longest_line + 2) fed bytes kept left)
    → more ≡ (fed || not (length kept == 0)) → line ≡ heard_of longest_line fed kept
    → IfSome first (λ bytes. Hears more (heard_lines bytes) line (option_map heard_lines left))
heard_line first left fed more kept line r whether heard = heard_within_line longest_line (longest_line + 2) first left fed more kept line (omega arith) r whether heard
