-- Values that a call fills: what the call promised of them, where it succeeded.
use Rattle.std.proofs.Common.{◌≡◌, List, IfOk, OnOk, sym, subst}
use Rattle.std.specs.Prelude.{Result, Ok, Err}
use Rattle.std.specs.Result.{result_and}
use Rattle.std.proofs.lemmas.Result.{on_ok_weaker}

-- a value that a call filled
of_call : {X T E : Type 0} (P : X → Type 0) (x : X) (call : Result T E) → OnOk call (P x) → IfOk (result_and call (Ok x)) P
of_call P x (Ok u) h = h
of_call P x (Err e) h = tt

pub filled : {X T E Q : Type 0} (P : X → Type 0) (call : Result T E) (r : Result X E) (x : X) → r ≡ result_and call (Ok x) → OnOk call Q → (Q → P x) → IfOk r P
filled P call r x is h f = subst (λ r. IfOk r P) (sym is) (of_call P x call (on_ok_weaker call f h))

-- a list whose vector a call filled
pub list_filled : {X T E Q : Type 0} (P : List X → Type 0) (call : Result T E) (r : Result (List X) E) (items xs : List X)
    → r ≡ result_and call (Ok xs) → xs ≡ items → OnOk call Q → (Q → P items) → IfOk r P
list_filled P call r items xs is same h f = filled P call r xs is h (λ q. subst P (sym same) (f q))
