use Rattle.std.proofs.Common.{ℕ, refl, sym, ◌∙◌, subst, arith}
use Rattle.flow_model.specs.declared.fault.ElementFault.TheVariants.{OutOfMemory as Wanting}
use Rattle.flow_model.specs.Item.{Ev, Eos}
use Rattle.el_join.specs.Joins.{HasNoEos}
use Rattle.el_join.proofs.Keeping.{end_is}
use Rattle.el_join.proofs.Taking.{puts_as, fault_as}
use Rattle.el_join.proofs.concat.Concat.take.Goals as goal
use Rattle.gst_value.proofs.Results.{handed_on}

pub returns-then-pad-self-clause-puts : goal.returns-then-pad-self-clause-puts
returns-then-pad-self-clause-puts c = c.in_ok-keep.ensures.puts c.args.out.now

pub returns-in_err-keep-clause-fault : goal.returns-in_err-keep-clause-fault
returns-in_err-keep-clause-fault c = handed_on c.from_residual.result Wanting _ c.from_residual.ensures.1 (λ took put j. tt)

pub end-requires-clause-turn : goal.end-requires-clause-turn
end-requires-clause-turn c = omega (arith, c.requires.pad, c.if-pad-self.false)

pub end-requires-clause-runs : goal.end-requires-clause-runs
end-requires-clause-runs c = subst (λ (k : ℕ). HasNoEos c.args.self.now k) c.if-pad-self.false c.requires.runs

pub returns-then-is_eos-clause-puts : goal.returns-then-is_eos-clause-puts
returns-then-is_eos-clause-puts c =
    puts_as c.end.result c.args.self.now c.end.new.self c.args.pad c.args.item (Ev Eos) c.args.out.now c.end.new.out c.if-pad-self.false (end_is c.args.item (sym c.is_eos.ensures ∙ c.if-is_eos.true)) c.end.ensures.puts

pub returns-then-is_eos-clause-fault : goal.returns-then-is_eos-clause-fault
returns-then-is_eos-clause-fault c =
    fault_as c.end.result c.args.self.now c.args.pad c.args.item (Ev Eos) c.if-pad-self.false (end_is c.args.item (sym c.is_eos.ensures ∙ c.if-is_eos.true)) c.end.ensures.fault

pub pass-requires-clause-turn : goal.pass-requires-clause-turn
pass-requires-clause-turn c = omega (arith, c.requires.pad, c.if-pad-self.false)

pub pass-requires-clause-runs : goal.pass-requires-clause-runs
pass-requires-clause-runs c = subst (λ (k : ℕ). HasNoEos c.args.self.now k) c.if-pad-self.false c.requires.runs

pub returns-clause-puts : goal.returns-clause-puts
returns-clause-puts c = puts_as c.pass.result c.args.self.now c.pass.new.self c.args.pad c.args.item c.args.item c.args.out.now c.pass.new.out c.if-pad-self.false refl c.pass.ensures.puts

pub returns-clause-fault : goal.returns-clause-fault
returns-clause-fault c = fault_as c.pass.result c.args.self.now c.args.pad c.args.item c.args.item c.if-pad-self.false refl c.pass.ensures.fault
