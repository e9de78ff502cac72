use Rattle.std.proofs.Common.{List, refl, subst}
use Rattle.task_parts.specs.Found.{IsAt}
use Rattle.task_parts.specs.declared.part.Part.{Part}
use Rattle.task_edits.proofs.Elements.{found_at}
use Rattle.task_edits.proofs.feeding.feed_in.Goals as goal

pub returns-in-Ok-clause-took : goal.returns-in-Ok-clause-took
returns-in-Ok-clause-took g c =
    let z = found_at c.args.parts.now.items c.args.element c.in-Some.place c.index_mut.result.now (subst (λ (ps : List (Part _ _ _)). IsAt ps c.args.element c.in-Some.place) c.as_slice.ensures.value c.in-Some.ensures.there) c.index_mut.ensures.value in
    record { place = c.in-Some.place; was = c.index_mut.result.now; is = c.feed_part.new.part; number = z.1; set = record { at = z.0; set = refl }; took = c.in-Ok.ensures.took }

pub returns-in-Err-clause-stopped : goal.returns-in-Err-clause-stopped
returns-in-Err-clause-stopped g c =
    let z = found_at c.args.parts.now.items c.args.element c.in-Some.place c.index_mut.result.now (subst (λ (ps : List (Part _ _ _)). IsAt ps c.args.element c.in-Some.place) c.as_slice.ensures.value c.in-Some.ensures.there) c.index_mut.ensures.value in
    record {
      place = c.in-Some.place;
      was = c.index_mut.result.now;
      is = c.feed_part.new.part;
      number = z.1;
      set = record { at = z.0; set = refl };
      refusal = c.in-Err.refusal;
      stopped = c.in-Err.ensures.stopped;
      fault_is = c.refused.ensures;
    }
