-- What a call answered, handed on.
use Rattle.std.proofs.Common.{Result, Ok, Err, IfOk, OnErr}

pub if_ok : {A E : Type 0} (r : Result A E) (P R : A → Type 0) → ((x : A) → P x → R x) → IfOk r P → IfOk r R
if_ok (Ok x) P R f p = f x p
if_ok (Err e) P R f p = tt

-- what holds whatever was answered
pub whatever : {A E : Type 0} (r : Result A E) (P : Type 0) → P → OnErr r P
whatever (Ok x) P p = tt
whatever (Err e) P p = p
