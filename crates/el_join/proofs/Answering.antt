-- What a call answered, handed on.
use Rattle.std.proofs.Common.{Result, Ok, Err, OnErr}

-- where it was answered with a fault
pub on_err : {A E : Type 0} (r : Result A E) (P R : Type 0) → (P → R) → OnErr r P → OnErr r R
on_err (Ok x) P R f p = tt
on_err (Err e) P R f p = f p
