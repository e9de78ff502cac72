-- What is known of an answer that is handed on.
use Rattle.std.proofs.Common.{◌≡◌, ℕ, Result, Ok, Err, IsOk, IfOk, IfErr}
use Rattle.el_src.specs.Cause.{IsSrcCause}
use Rattle.el_src.specs.declared.answer.Next.{Next}
use Rattle.el_src.specs.declared.fault.SrcFault.{SrcFault}
use Rattle.el_src.specs.declared.fault.SrcFault.TheVariants.{OutOfMemory as Wanting}

-- an answer that is no fault
pub never_err : (P : SrcFault → Type 0) (answer : Result Next SrcFault) → IsOk answer → IfErr answer P
never_err P (Ok n) ok = tt
never_err P (Err fault) ok = absurd (cc)

-- what follows from what is known of it
pub on_ok : {P Q : Next → Type 0} (answer : Result Next SrcFault) → ((n : Next) → P n → Q n) → IfOk answer P → IfOk answer Q
on_ok (Ok n) step known = step n known
on_ok (Err fault) step known = tt

pub on_err : {P Q : SrcFault → Type 0} (answer : Result Next SrcFault) → ((fault : SrcFault) → P fault → Q fault) → IfErr answer P → IfErr answer Q
on_err (Ok n) step known = tt
on_err (Err fault) step known = step fault known

-- what is so for each fault
pub at_fault : {P : SrcFault → Type 0} (answer : Result Next SrcFault) → ((fault : SrcFault) → P fault) → IfErr answer P
at_fault (Ok n) each = tt
at_fault (Err fault) each = each fault

-- where memory was wanting the count stayed
pub wanting_cause : (fault : SrcFault) (before after : ℕ) → fault ≡ Wanting → after ≡ before → IsSrcCause fault before after
wanting_cause fault before after is stays = rw is stays
