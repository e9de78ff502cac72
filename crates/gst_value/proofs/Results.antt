-- What is told of an answer and of its fault.
use Rattle.std.proofs.Common.{Err, Ok, Result, false, subst, sym, ◌≡◌}
use Rattle.std.specs.Prelude.{IfErr, OnOk}
use Rattle.std.specs.Result.{IsErrAnd, is_err}

-- a fault that is handed on
pub handed_on : {T E : Type 0} (r : Result T E) (x : E) (P : E → Type 0) → IsErrAnd r (λ fault. fault ≡ x) → P x → IfErr r P
handed_on (Ok y) x P h k = tt
handed_on (Err e) x P h k = subst P (sym h) k

pub if_err : {A E : Type 0} (r : Result A E) (P R : E → Type 0) → ((e : E) → P e → R e) → IfErr r P → IfErr r R
if_err (Ok x) P R f p = tt
if_err (Err e) P R f p = f e p

-- a call that did not fail promises what it promises where it succeeds
pub on_ok : {T X : Type 0} (r : Result T X) (P : Type 0) → is_err r ≡ false → OnOk r P → P
on_ok (Ok t) P q p = p
on_ok (Err x) P q p = absurd cc

pub then_ok : {A E : Type 0} (r : Result A E) (P Q : Type 0) → (P → Q) → OnOk r P → OnOk r Q
then_ok (Ok x) P Q f h = f h
then_ok (Err e) P Q f h = h
