-- What is due to the source pads of a run, of those too whose element was taken away.
use Rattle.std.proofs.Common.{◌≡◌, ℕ, Bool, true, false, if◌then◌else◌, List, Option, Some, drop, refl, sym, ap, subst}
use Rattle.flow_model.specs.Item.{Item}
use Rattle.flow_model.specs.Prefix.{IsPrefix}
use Rattle.flow_model.proofs.Prefixes.{prefix_refl}
use Rattle.gst_value.specs.declared.name.PadName.{PadName}
use Rattle.graph_core.specs.GraphPlan.{pad_id}
use Rattle.graph_pads.specs.declared.pad.Direction.TheVariants.{Source}
use Rattle.graph_pads.specs.declared.pad.PadPlace.{PadPlace}
use Rattle.script_text.specs.declared.answer.Answer.{Answer}
use Rattle.script_text.specs.declared.command.Command.{Command}
use Rattle.script_text.specs.declared.command.When.{When}
use Rattle.graph_edits.specs.Edited.{Edited, is_there}
use Rattle.graph_edits.specs.Lawful.{IsAnswered, Reaches, begins_with_buffer}
use Rattle.graph_edits.specs.Names.{pad_named}

-- what is owed to a source pad that is there by what is owed now, and else what was
abbrev pub still_due : Edited → (ℕ → ℕ) → (ℕ → List Item) → (ℕ → List Item) → ℕ → List Item
still_due g owner due now p = if is_there g (owner p) then now p else due p

pub due_now : (g : Edited) (owner : ℕ → ℕ) (due now : ℕ → List Item) (p : ℕ) → is_there g (owner p) ≡ true → still_due g owner due now p ≡ now p
due_now g owner due now p there = ap (λ (b : Bool). if b then now p else due p) there

-- more is due, where more is owed to each pad whose element is there
pub due_more : (g : Edited) (owner : ℕ → ℕ) (due now : ℕ → List Item) → ((p : ℕ) → is_there g (owner p) ≡ true → IsPrefix (due p) (now p)) → (p : ℕ) → IsPrefix (due p) (still_due g owner due now p)
due_more g owner due now more p = by (is_there g (owner p)) refl
  where
    by : (b : Bool) → is_there g (owner p) ≡ b → IsPrefix (due p) (if b then now p else due p)
    by true there = more p there
    by false gone = prefix_refl (due p)

-- Where the same is owed to each source pad that is named, an answer is lawful by one as by the other.
module _ (g : Edited) (h owed due : ℕ → List Item) (same : (pad : PadName) (source : PadPlace) → pad_named Source g pad ≡ Some source → due (pad_id source) ≡ owed (pad_id source)) where
  reaches_so : (when : When) (p : Option PadPlace) (place : ℕ) → Reaches g h owed when p place → Reaches g h due when p place
  reaches_so _ _ _ (Reaches.at pad n place source named is) =
      Reaches.at pad n place source named
      (record { crossed = is.crossed; counted = is.counted; next = subst (λ (l : List Item). begins_with_buffer (drop place l) ≡ true) (sym (same pad source named)) is.next })
  reaches_so _ _ _ (Reaches.now_pad pad place source named is) = Reaches.now_pad pad place source named is
  reaches_so _ _ _ Reaches.now = Reaches.now

  pub answered_so : (c : Command) (answer : Answer) (next : Edited) → IsAnswered g h owed c answer next → IsAnswered g h due c answer next
  answered_so _ _ _ (IsAnswered.done when act p place after reaches makes) = IsAnswered.done when act p place after (reaches_so when p place reaches) makes
  answered_so _ _ _ (IsAnswered.unreached c all over) = IsAnswered.unreached c all over
  answered_so _ _ _ (IsAnswered.nameless c missing) = IsAnswered.nameless c missing
  answered_so _ _ _ (IsAnswered.refused when act p place reason all reaches refused) = IsAnswered.refused when act p place reason all (reaches_so when p place reaches) refused
