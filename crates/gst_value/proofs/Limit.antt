-- A fault that is handed on, and the limit that it means.
use Rattle.std.proofs.Common.{◌≡◌, Result, Ok, Err, IsErrAnd, IfErr, subst, sym}
use Rattle.gst_value.specs.Limit.{IsFaultWhere, TooManyWhere}
use Rattle.gst_value.specs.declared.fault.CapsFault.{CapsFault}
use Rattle.gst_value.specs.declared.fault.CapsFault.TheVariants.{TooMany, OutOfMemory}

pub wider : (e : CapsFault) (P Q : Type 0) → IsFaultWhere e Q → (Q → P) → IsFaultWhere e P
wider (TooMany n) P Q q f = (f q.0, q.1)
wider OutOfMemory P Q q f = tt

-- a call hands on the fault of another call
pub over_from : {T : Type 0} (r : Result T CapsFault) (e : CapsFault) (P Q : Type 0) → IsErrAnd r (λ y. y ≡ e) → IsFaultWhere e Q → (Q → P) → TooManyWhere r P
over_from (Ok x) e P Q h q f = absurd h
over_from (Err y) e P Q h q f =
    let F : CapsFault → Type 0 = λ z. IsFaultWhere z P in
    subst F (sym h) (wider e P Q q f)

-- the same, where nothing is said of an `Ok`
pub err_from : {T : Type 0} (r : Result T CapsFault) (e : CapsFault) (P Q : Type 0) → IsErrAnd r (λ y. y ≡ e) → IsFaultWhere e Q → (Q → P) → IfErr r (λ fault. IsFaultWhere fault P)
err_from (Ok x) e P Q h q f = tt
err_from (Err y) e P Q h q f =
    let F : CapsFault → Type 0 = λ z. IsFaultWhere z P in
    subst F (sym h) (wider e P Q q f)
