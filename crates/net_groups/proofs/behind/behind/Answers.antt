use Rattle.std.proofs.Common.{◌∙◌, Bool, List, true, refl, subst}
use Rattle.task_pads.proofs.Lists.{set_length}
use Rattle.task_parts.specs.declared.part.Part.{Part}
use Rattle.net_groups.specs.Behind.{IsBehind, IsNext, NoneIsNext}
use Rattle.net_groups.proofs.Flags.{all_told, marked_fewer, next_behind, set_sound}
use Rattle.net_groups.proofs.behind.behind.Goals as goal

pub loop-place-smaller : goal.loop-place-smaller
loop-place-smaller g c = marked_fewer c.loop-place.flags.items c.in-Some.place (subst (λ (fs : List Bool). IsNext c.args.parts.now fs c.args.element c.in-Some.place) c.as_slice.ensures.value c.in-Some.ensures.there).flag

pub loop-place-preserved : goal.loop-place-preserved
loop-place-preserved g c = record {
  size = set_length c.loop-place.flags.items c.in-Some.place true ∙ c.loop-place.invariant.size;
  sound = set_sound (λ (part : Part _ _ _). IsBehind c.args.parts.now c.args.element part.number) c.args.parts.now c.loop-place.flags.items c.in-Some.place _ (subst (λ (fs : List Bool). IsNext c.args.parts.now fs c.args.element c.in-Some.place) c.as_slice.ensures.value c.in-Some.ensures.there).at (next_behind c.args.parts.now c.args.element c.loop-place.flags.items c.in-Some.place c.loop-place.invariant.sound (subst (λ (fs : List Bool). IsNext c.args.parts.now fs c.args.element c.in-Some.place) c.as_slice.ensures.value c.in-Some.ensures.there)) c.loop-place.invariant.sound;
}

pub loop-place-init : goal.loop-place-init
loop-place-init g c = record {
  size = c.unset-flags.ensures.len;
  sound = λ place part at flag. absurd (c.unset-flags.ensures.none place flag);
}

pub returns-clause-tell : goal.returns-clause-tell
returns-clause-tell g c =
    all_told c.args.parts.now c.args.element c.loop-place.flags.items c.loop-place.invariant.size (subst (λ (fs : List Bool). NoneIsNext c.args.parts.now fs c.args.element) c.as_slice.ensures.value (c.in_default.ensures.none refl)) c.loop-place.invariant.sound
