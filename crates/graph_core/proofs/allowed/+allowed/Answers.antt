use Rattle.std.proofs.Common.{◌≡◌, ℕ, Option, Some, refl, sym, ap, ◌∙◌, arith, subst}
use Rattle.gst_caps.specs.declared.caps.Caps.{Caps}
use Rattle.graph_core.specs.Allowed.{Allows, Answers, all_common}
use Rattle.graph_core.specs.Elements.{all_made}
use Rattle.graph_core.proofs.Answering.{answers_fault, answers_memory, answers_split, answers_through, fault_through, sink_there, takes}
use Rattle.graph_core.proofs.Common.{AllowsSome, allows_some, fault_behind, fault_common, more_common}
use Rattle.graph_core.proofs.LinkedOnce.{place_of}
use Rattle.graph_core.proofs.allowed.+allowed.Goals as goal

pub allowed_within-returns-in_default : goal.allowed_within-returns-in_default
allowed_within-returns-in_default t c = λ rank pads counted falls less. Allows.unlinked c.args.source (sym c.sink_behind.ensures ∙ c.in_default.is)

pub allowed_within-returns-in_default-taker : goal.allowed_within-returns-in_default-taker
allowed_within-returns-in_default-taker t c = λ rank pads counted falls less.
    absurd (sink_there (all_made c.args.elements.now) c.args.links.now c.args.source c.in-Some.sink pads (sym c.sink_behind.ensures ∙ c.in-Some.is) (c.taker.ensures.none c.in_default-taker.is))

pub allowed_within-returns-then-makes_sources : goal.allowed_within-returns-then-makes_sources
allowed_within-returns-then-makes_sources t c = λ rank pads counted falls less.
    let made = all_made c.args.elements.now in
    let linked = sym c.sink_behind.ensures ∙ c.in-Some.is in
    let falls_here = falls c.args.source c.in-Some.sink linked in
    let some : (k : ℕ) → AllowsSome made c.args.links.now (place_of c.in-Some.sink.element k) = λ k. allows_some made c.args.links.now pads rank falls c.args.limit (place_of c.in-Some.sink.element k) (omega (arith, less, falls_here)) in
    let each : ℕ → Option Caps = λ k. (some k).0 in
    let common = c.common_caps.ensures rank pads counted falls (omega (arith, less, falls_here)) each (λ k w. (some k).1) in
    answers_split made c.args.links.now c.args.source c.in-Some.sink c.in-Some-taker.settings.now linked c.in-Some-taker.ensures.there.0 (sym c.makes_sources.ensures ∙ c.if-makes_sources.true) counted each (λ k w. (some k).1) c.common_caps.result
    (subst (λ (n : ℕ). Answers (λ answer. answer ≡ all_common each n) c.common_caps.result) c.source_pads-pads.ensures common)

pub allowed_within-returns-in_err-template : goal.allowed_within-returns-in_err-template
allowed_within-returns-in_err-template t c = λ rank pads counted falls less. answers_memory (Allows (all_made c.args.elements.now) c.args.links.now c.args.source) c.from_residual.result c.from_residual.ensures.1

pub allowed_within-returns-then-not-hands_on : goal.allowed_within-returns-then-not-hands_on
allowed_within-returns-then-not-hands_on t c = λ rank pads counted falls less.
    let hands = sym c.hands_on.ensures ∙ c.if-not-hands_on.true in
    let makes_none = sym c.makes_sources.ensures ∙ c.if-makes_sources.false in
    let allows = takes (all_made c.args.elements.now) c.args.links.now c.args.source c.in-Some.sink c.in-Some-taker.settings.now (sym c.sink_behind.ensures ∙ c.in-Some.is) c.in-Some-taker.ensures.there.0 hands makes_none in
    subst (λ (caps : Caps). Allows (all_made c.args.elements.now) c.args.links.now c.args.source (Some caps)) (sym c.in_ok-template.ensures) allows

pub allowed_within-returns-in_err-behind : goal.allowed_within-returns-in_err-behind
allowed_within-returns-in_err-behind t c = λ rank pads counted falls less.
    let linked = sym c.sink_behind.ensures ∙ c.in-Some.is in
    let falls_here = falls c.args.source c.in-Some.sink linked in
    let made = all_made c.args.elements.now in
    answers_fault (Allows made c.args.links.now c.args.source) c.from_residual-in_err-behind.result c.in_err-behind.field-0.0 c.from_residual-in_err-behind.ensures.1
    (fault_through made c.args.links.now c.args.source c.in-Some.sink c.in-Some-taker.settings.now linked c.in-Some-taker.ensures.there.0
    (sym c.hands_on.ensures ∙ c.if-not-hands_on.false) c.in_err-behind.field-0.0 (c.in_err-behind.ensures rank pads counted falls (omega (arith, less, falls_here))))

pub allowed_within-returns : goal.allowed_within-returns
allowed_within-returns t c = λ rank pads counted falls less.
    let linked = sym c.sink_behind.ensures ∙ c.in-Some.is in
    let falls_here = falls c.args.source c.in-Some.sink linked in
    answers_through (all_made c.args.elements.now) c.args.links.now c.args.source c.in-Some.sink c.in-Some-taker.settings.now linked c.in-Some-taker.ensures.there.0
    (sym c.hands_on.ensures ∙ c.if-not-hands_on.false) c.in_ok-behind.behind (c.in_ok-behind.ensures rank pads counted falls (omega (arith, less, falls_here))) c.allowed_before.result c.allowed_before.ensures

pub common_caps-loop-pad-init : goal.common_caps-loop-pad-init
common_caps-loop-pad-init t c = λ rank pads counted falls less each allows. refl

pub common_caps-returns-in_err-behind : goal.common_caps-returns-in_err-behind
common_caps-returns-in_err-behind t c = λ rank pads counted falls less each allows.
    let here = c.loop-pad.invariant rank pads counted falls less each allows in
    answers_fault (λ answer. answer ≡ all_common each c.args.pads) c.from_residual.result c.in_err-behind.field-0.0 c.from_residual.ensures.1
    (fault_behind (all_made c.args.elements.now) c.args.links.now c.args.element c.loop-pad.pad each c.loop-pad.common here (allows c.loop-pad.pad c.loop-pad-test.true) c.args.pads c.loop-pad-test.true c.in_err-behind.field-0.0
    (c.in_err-behind.ensures rank pads counted falls less))

pub common_caps-returns-in_err-common : goal.common_caps-returns-in_err-common
common_caps-returns-in_err-common t c = λ rank pads counted falls less each allows.
    let here = c.loop-pad.invariant rank pads counted falls less each allows in
    answers_fault (λ answer. answer ≡ all_common each c.args.pads) c.from_residual-in_err-common.result c.in_err-common.field-0.0 c.from_residual-in_err-common.ensures.1
    (fault_common (all_made c.args.elements.now) c.args.links.now c.args.element c.loop-pad.pad each c.loop-pad.common here (allows c.loop-pad.pad c.loop-pad-test.true) c.args.pads c.loop-pad-test.true c.in_ok-behind.behind
    (c.in_ok-behind.ensures rank pads counted falls less) c.in_err-common.field-0.0 c.in_err-common.ensures.too_many)

pub common_caps-loop-pad-preserved : goal.common_caps-loop-pad-preserved
common_caps-loop-pad-preserved t c = λ rank pads counted falls less each allows.
    let here = c.loop-pad.invariant rank pads counted falls less each allows in
    more_common (all_made c.args.elements.now) c.args.links.now c.args.element c.loop-pad.pad each c.loop-pad.common here (allows c.loop-pad.pad c.loop-pad-test.true) c.in_ok-behind.behind c.in_ok-common.common
    (c.in_ok-behind.ensures rank pads counted falls less) c.in_ok-common.ensures.order c.in_ok-common.ensures.too_many

pub common_caps-returns : goal.common_caps-returns
common_caps-returns t c = λ rank pads counted falls less each allows.
    let all : c.loop-pad.pad ≡ c.args.pads = omega (arith, c.loop-pad-test.false, c.loop-pad.auto.pad-end) in
    sym (ap (all_common each) (sym all) ∙ c.loop-pad.invariant rank pads counted falls less each allows)
