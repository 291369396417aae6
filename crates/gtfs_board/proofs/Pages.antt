-- Pages, line by line.
use Rattle.std.proofs.Common.{◌≡◌, ◌∙◌, ap, sym, subst, refl, inl, inr, ℕ, ◌+◌, ◌<◌, ◌≤◌, List, [], ◌∷◌, ◌++◌, append-nil, append_assoc, length, take, drop, take-append-drop, length-append, length-drop, Option, Result, Ok, Err, false, arith}
use Rattle.std.specs.Result.{OnOk, IfErr, IsErrAnd, is_err}
use Rattle.std.specs.Io.KnownBytes.{Appends}
use Rattle.std.proofs.KnownBytes.{Appends-nil, Appends-trans}
use Rattle.gtfs_days.specs.Zone.{IsCivil}
use Rattle.gtfs_days.specs.declared.civil.Civil.{Civil}
use Rattle.gtfs_days.specs.declared.zone.Zone.{Zone}
use Rattle.gtfs_board.specs.Board.{AreStepsWithin, BoardValue, SameSettings, StepCount}
use Rattle.gtfs_board.specs.BoardLines.{AppendsLine, IsLine, Listed, line_text}
use Rattle.gtfs_board.specs.BoardPage.{AreLines, AreWritten, IsCutShort, IsPage, IsStopped}
use Rattle.gtfs_board.specs.PageFaults.{AreFaultSteps, AreLineFaultSteps, EndsLine, EndsPage, IsCounted}
use Rattle.gtfs_board.specs.declared.page.PageFault.{PageFault}
use Rattle.gtfs_board.specs.declared.page.PageFault.TheVariants.{Out, OutOfMemory}

-- ---- lines that went out

none-written : (z : Zone) (rest left : List Listed) (a : Option (List ℕ)) → rest ≡ left → AreWritten z rest left a a 0
none-written z rest left a same = record { shown = []; text = []; split = same; count = refl; are_lines = refl; out = Appends-nil a }

pub all-left : (z : Zone) (rest : List Listed) (a : Option (List ℕ)) → AreWritten z rest rest a a 0
all-left z rest a = none-written z rest rest a refl

one-written : (z : Zone) (rest left : List Listed) (d : Listed) (line : List ℕ) (a b : Option (List ℕ)) → rest ≡ d ∷ left → IsLine z d line → Appends a b line
    → AreWritten z rest left a b 1
one-written z rest left d line a b first is out = record {
  shown = d ∷ [];
  text = line;
  split = first;
  count = refl;
  are_lines = (line, [], is, refl, sym (append-nil line));
  out = out;
}

lines-append : (z : Zone) (ds es : List Listed) (text more : List ℕ) → AreLines z ds text → AreLines z es more → AreLines z (ds ++ es) (text ++ more)
lines-append z [] es text more none then = subst (λ (t : List ℕ). AreLines z es (t ++ more)) (sym none) then
lines-append z (d ∷ ds) es text more first then =
    (first.0, first.1 ++ more, first.2, lines-append z ds es first.1 more first.3 then, ap (λ (t : List ℕ). t ++ more) first.4 ∙ append_assoc first.0 first.1 more)

pub written-more : (z : Zone) (rest mid left : List Listed) (a b c : Option (List ℕ)) (n m : ℕ) → AreWritten z rest mid a b n → AreWritten z mid left b c m
    → AreWritten z rest left a c (n + m)
written-more z rest mid left a b c n m h k = record {
  shown = h.shown ++ k.shown;
  text = h.text ++ k.text;
  split = h.split ∙ ap (λ (ds : List Listed). h.shown ++ ds) k.split ∙ sym (append_assoc h.shown k.shown left);
  count = length-append h.shown k.shown ∙ omega (arith, h.count, k.count);
  are_lines = lines-append z h.shown k.shown h.text k.text h.are_lines k.are_lines;
  out = Appends-trans a b c h.text k.text h.out k.out;
}

-- ---- a page

pub page-full : (z : Zone) (limit : ℕ) (rest left : List Listed) (a b : Option (List ℕ)) (n : ℕ) → AreWritten z rest left a b n → n ≤ limit → limit ≤ n → IsPage z limit rest left a b n
page-full z limit rest left a b n h most full = record { written = h; within = most; ends = λ less. absurd (omega arith) }

pub page-ends : (z : Zone) (limit : ℕ) (rest mid left : List Listed) (a b c : Option (List ℕ)) (n : ℕ) → AreWritten z rest mid a b n → IsPage z 1 mid left b c 0 → n < limit
    → IsPage z limit rest left a c n
page-ends z limit rest mid left a b c n h k less = record {
  written = let none : n + 0 ≡ n = omega arith in subst (AreWritten z rest left a c) none (written-more z rest mid left a b c n 0 h k.written);
  within = omega arith;
  ends = λ l. k.ends (omega arith);
}

pub page-cut : (z : Zone) (limit : ℕ) (rest mid left : List Listed) (a b c : Option (List ℕ)) (n : ℕ) → AreWritten z rest mid a b n → IsCutShort z 1 mid left b c 0 → n < limit
    → IsCutShort z limit rest left a c n
page-cut z limit rest mid left a b c n h k less = record {
  shown = h.shown ++ k.shown;
  text = h.text ++ k.text;
  next = k.next;
  line = k.line;
  sent = k.sent;
  unsent = k.unsent;
  split = h.split ∙ ap (λ (ds : List Listed). h.shown ++ ds) k.split ∙ sym (append_assoc h.shown k.shown (k.next ∷ left));
  count = length-append h.shown k.shown ∙ omega (arith, h.count, k.count);
  within = less;
  are_lines = lines-append z h.shown k.shown h.text k.text h.are_lines k.are_lines;
  is_line = k.is_line;
  cut = k.cut;
  not_whole = k.not_whole;
  out = subst (Appends a c) (sym (append_assoc h.text k.text k.sent)) (Appends-trans a b c h.text (k.text ++ k.sent) h.out k.out);
}

pub page-stopped : (z : Zone) (limit : ℕ) (rest mid left : List Listed) (a b c : Option (List ℕ)) (n : ℕ) → AreWritten z rest mid a b n → IsStopped z 1 mid left b c 0 → n < limit
    → IsStopped z limit rest left a c n
page-stopped z limit rest mid left a b c n h k less = record {
  others = k.others;
  written = let none : n + 0 ≡ n = omega arith in subst (AreWritten z rest k.others a c) none (written-more z rest mid k.others a b c n 0 h k.written);
  within = less;
  lacks = k.lacks;
}

-- a page ends as its next line does
page-fault : (z y : Zone) (limit : ℕ) (rest mid left : List Listed) (a b c : Option (List ℕ)) (n : ℕ) (fault : PageFault) → AreWritten z rest mid a b n → y ≡ z → n < limit
    → EndsLine y n mid left b c fault → EndsPage z limit rest left a c fault
page-fault z y limit rest mid left a b c n (Out m) h same less end =
    let cut = subst (λ (w : Zone). IsCutShort w 1 mid left b c 0) same end.1 in
    subst (λ k. IsCutShort z limit rest left a c k) (sym end.0) (page-cut z limit rest mid left a b c n h cut less)
page-fault z y limit rest mid left a b c n (OutOfMemory m) h same less end =
    let stopped = subst (λ (w : Zone). IsStopped w 1 mid left b c 0) same end.1 in
    subst (λ k. IsStopped z limit rest left a c k) (sym end.0) (page-stopped z limit rest mid left a b c n h stopped less)

pub page-faults : {A : Type 0} (r : Result A PageFault) (z y : Zone) (limit : ℕ) (rest mid left : List Listed) (a b c : Option (List ℕ)) (n : ℕ) (fault : PageFault)
    → IsErrAnd r (λ e. e ≡ fault) → AreWritten z rest mid a b n → y ≡ z → n < limit
    → EndsLine y n mid left b c fault → IfErr r (EndsPage z limit rest left a c)
page-faults (Ok x) z y limit rest mid left a b c n fault given h same less end = tt
page-faults (Err e) z y limit rest mid left a b c n fault given h same less end =
    subst (EndsPage z limit rest left a c) (sym given) (page-fault z y limit rest mid left a b c n fault h same less end)

pub rises-since : (start before after : ℕ) → before ≡ start → before ≤ after → start ≤ after
rises-since start before after same rises = omega arith

-- the count of failures, which was what it was until then
pub counted-faults : {A : Type 0} (r : Result A PageFault) (start before after : ℕ) (fault : PageFault)
    → IsErrAnd r (λ e. e ≡ fault) → before ≡ start → IsCounted before after fault → IfErr r (IsCounted start after)
counted-faults (Ok x) start before after fault given same counted = tt
counted-faults (Err e) start before after fault given same counted =
    subst (IsCounted start after) (sym given) (subst (λ (n : ℕ). IsCounted n after fault) same counted)

-- ---- the steps of a page

pub steps-more : (n m : ℕ) (s t u : StepCount) → AreStepsWithin n s t → AreStepsWithin m t u → AreStepsWithin (n + m) s u
steps-more n m s t u so_far more = omega (arith, so_far, more)

pub steps-done : (n : ℕ) (s t u : StepCount) → AreStepsWithin n s t → AreStepsWithin 0 t u → AreStepsWithin n s u
steps-done n s t u so_far last = omega (arith, so_far, last)

-- the steps until then, and those of the line with which it ended
fault-steps : (z y : Zone) (rest mid left : List Listed) (a b c : Option (List ℕ)) (n : ℕ) (s t u : StepCount) (fault : PageFault) → AreWritten z rest mid a b n → AreStepsWithin n s t
    → EndsLine y n mid left b c fault → AreLineFaultSteps mid left t u fault → AreFaultSteps rest left s u fault
fault-steps z y rest mid left a b c n s t u (Out m) h so_far end last =
    let same : m ≡ n = end.0 in
    omega (arith, so_far, last, same)
fault-steps z y rest mid left a b c n s t u (OutOfMemory m) h so_far end last = λ gone.
    let same : m ≡ n = end.0 in
    let long : length rest ≡ length h.shown + length mid = ap (λ (ds : List Listed). length ds) h.split ∙ length-append h.shown mid in
    let shown : length h.shown ≡ n = h.count in
    let one : length mid ≡ 1 + length left = omega (arith, gone, long, shown, same) in
    let within = last one in
    omega (arith, so_far, within, same)

pub faults-steps : {A : Type 0} (r : Result A PageFault) (z y : Zone) (rest mid left : List Listed) (a b c : Option (List ℕ)) (n : ℕ) (s t u : StepCount) (fault : PageFault)
    → IsErrAnd r (λ e. e ≡ fault) → AreWritten z rest mid a b n → AreStepsWithin n s t
    → EndsLine y n mid left b c fault → AreLineFaultSteps mid left t u fault → IfErr r (AreFaultSteps rest left s u)
faults-steps (Ok x) z y rest mid left a b c n s t u fault given h so_far end last = tt
faults-steps (Err e) z y rest mid left a b c n s t u fault given h so_far end last =
    subst (AreFaultSteps rest left s u) (sym given) (fault-steps z y rest mid left a b c n s t u fault h so_far end last)

-- where none was taken, the steps have no bound
pub refused-steps : (rest left : List Listed) (s t : StepCount) → left ≡ rest → length rest ≡ 1 + length left → AreStepsWithin 1 s t
refused-steps rest left s t same = λ gone.
    let long : length left ≡ length rest = ap (λ (ds : List Listed). length ds) same in
    absurd (omega (arith, gone, long))

-- ---- what a board was opened with

pub same-settings : (b : BoardValue) → SameSettings b b
same-settings b = record { lanes = refl; latest = refl; start = refl; until = refl; zone = refl }

pub settings-since : (a b c : BoardValue) → SameSettings a b → SameSettings b c → SameSettings a c
settings-since a b c before after = record {
  lanes = after.lanes ∙ before.lanes;
  latest = after.latest ∙ before.latest;
  start = after.start ∙ before.start;
  until = after.until ∙ before.until;
  zone = after.zone ∙ before.zone;
}

-- ---- one line

-- what a call promises where it did not fail
pub on-ok : {A E : Type 0} (r : Result A E) (P : Type 0) → false ≡ is_err r → OnOk r P → P
on-ok (Ok x) P fine h = h
on-ok (Err e) P fine h = cc fine

-- a line with what the zone's clock shows is the departure's
pub line-appended : {A E : Type 0} (r : Result A E) (z : Zone) (d : Listed) (c : Civil) (old new : List ℕ) → IsCivil z d.key.instant c → OnOk r (new ≡ old ++ line_text c d) → OnOk r (AppendsLine z d old new)
line-appended (Ok x) z d c old new shown is = (line_text c d, (c, shown, refl), is)
line-appended (Err e) z d c old new shown is = tt

pub line-none : (z : Zone) (rest left : List Listed) (a : Option (List ℕ)) → rest ≡ [] → left ≡ [] → IsPage z 1 rest left a a 0
line-none z rest left a none end = record { written = none-written z rest left a (none ∙ sym end); within = omega arith; ends = λ less. end }

pub line-refused : (z : Zone) (rest left : List Listed) (a : Option (List ℕ)) → left ≡ rest → IsStopped z 1 rest left a a 0
line-refused z rest left a same = record { others = rest; written = all-left z rest a; within = omega arith; lacks = inl same }

pub line-unmade : (z : Zone) (rest left : List Listed) (d : Listed) (a : Option (List ℕ)) → rest ≡ d ∷ left → IsStopped z 1 rest left a a 0
line-unmade z rest left d a first = record { others = rest; written = all-left z rest a; within = omega arith; lacks = inr (d, first) }

-- the line that was made in place of what the text held
made : (z y : Zone) (d : Listed) (cleared bytes : List ℕ) → y ≡ z → cleared ≡ [] → AppendsLine y d cleared bytes → IsLine z d bytes
made z y d cleared bytes same empty line =
    let whole : line.0 ≡ bytes = sym (line.2 ∙ ap (λ (t : List ℕ). t ++ line.0) empty) in
    subst (λ (w : Zone). IsLine w d bytes) same (subst (IsLine y d) whole line.1)

pub line-sent : (z y : Zone) (rest left : List Listed) (d : Listed) (a b : Option (List ℕ)) (cleared bytes text : List ℕ) → rest ≡ d ∷ left → y ≡ z → cleared ≡ []
    → AppendsLine y d cleared bytes → text ≡ bytes → Appends a b text → IsPage z 1 rest left a b 1
line-sent z y rest left d a b cleared bytes text first same empty line is out = record {
  written = one-written z rest left d bytes a b first (made z y d cleared bytes same empty line) (subst (Appends a b) is out);
  within = omega arith;
  ends = λ less. absurd (omega arith);
}

pub line-cut : (z y : Zone) (rest left : List Listed) (d : Listed) (a b : Option (List ℕ)) (cleared bytes text : List ℕ) (n : ℕ) → rest ≡ d ∷ left → y ≡ z → cleared ≡ []
    → AppendsLine y d cleared bytes → text ≡ bytes → Appends a b (take n text) → n < length text → IsCutShort z 1 rest left a b 0
line-cut z y rest left d a b cleared bytes text n first same empty line is out less = record {
  shown = [];
  text = [];
  next = d;
  line = bytes;
  sent = take n text;
  unsent = drop n text;
  split = first;
  count = refl;
  within = omega arith;
  are_lines = refl;
  is_line = made z y d cleared bytes same empty line;
  cut = sym is ∙ sym (take-append-drop n text);
  not_whole = omega (arith, length-drop n text);
  out = out;
}
