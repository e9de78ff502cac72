-- Two things that are so of one answer.
use Rattle.std.proofs.Common.{Result, Ok, Err}
use Rattle.std.specs.Prelude.{IfErr, OnOk}

pub ok_both : {A B : Type 0} (result : Result A B) (P Q : Type 0) → OnOk result P → OnOk result Q → OnOk result (P × Q)
ok_both (Ok a) P Q p q = (p, q)
ok_both (Err b) P Q p q = tt

pub err_both : {A B : Type 0} (result : Result A B) (P Q : B → Type 0) → IfErr result P → IfErr result Q → IfErr result (λ b. P b × Q b)
err_both (Ok a) P Q p q = tt
err_both (Err b) P Q p q = (p, q)
