use Rattle.std.proofs.Common.{◌∙◌, List, true, false, arith, sym, subst}
use Rattle.gst_value.proofs.Basics.{some_same}
use Rattle.task_pads.proofs.Lists.{some_at}
use Rattle.task_pads.specs.declared.pad.Pad.{Pad}
use Rattle.task_parts.specs.declared.part.Part.{Part}
use Rattle.net_groups.specs.Behind.{LeadFlagged}
use Rattle.net_groups.proofs.Flags.{flag_at}
use Rattle.net_groups.proofs.behind.other_leads.Goals as goal

pub returns-then-flags-place-clause-none : goal.returns-then-flags-place-clause-none
returns-then-flags-place-clause-none g c = λ none h. let e = sym (flag_at c.args.flags.now c.args.place true (let size = c.requires.len in let low = c.requires.place in omega (arith, size, low)) c.if-flags-place.true) ∙ h.flag in cc

pub returns-clause-led : goal.returns-clause-led
returns-clause-led g c = λ is.
    let z = c.lead_flagged.ensures.led is in
    record { part = c.index-parts-place.result; at = some_at c.args.parts.now c.args.place c.index-parts-place.result c.requires.place c.index-parts-place.is; flag = flag_at c.args.flags.now c.args.place false (let size = c.requires.len in let low = c.requires.place in omega (arith, size, low)) c.if-flags-place.false; port = z.0; lead = subst (λ (ps : List (Pad _)). LeadFlagged c.args.parts.now c.args.flags.now ps z.0) c.pads.ensures z.1 }

pub returns-clause-none : goal.returns-clause-none
returns-clause-none g c = λ none h.
    c.lead_flagged.ensures.none none h.port (subst (λ (ps : List (Pad _)). LeadFlagged c.args.parts.now c.args.flags.now ps h.port) (sym c.pads.ensures) (subst (λ (q : Part _ _ _). LeadFlagged c.args.parts.now c.args.flags.now q.pads.items h.port) (some_same (sym h.at ∙ some_at c.args.parts.now c.args.place c.index-parts-place.result c.requires.place c.index-parts-place.is)) h.lead))
