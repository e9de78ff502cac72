-- The element of each sink pad that is linked is there, behind each answer too.
use Rattle.std.proofs.Common.{◌≡◌, ◌⊎◌, ◌++◌, ℕ, true, List, [], ◌∷◌, Option, sym, subst, inl, inr}
use Rattle.flow_model.specs.Item.{Item}
use Rattle.graph_core.specs.GraphPlan.{IsIn}
use Rattle.graph_pads.specs.declared.pad.Direction.TheVariants.{Sink}
use Rattle.graph_pads.specs.declared.pad.PadLink.{PadLink}
use Rattle.graph_pads.specs.declared.pad.PadPlace.{PadPlace}
use Rattle.script_text.specs.declared.answer.Answer.{Answer}
use Rattle.script_text.specs.declared.command.Act.{Act}
use Rattle.script_text.specs.declared.command.Command.{Command}
use Rattle.graph_edits.specs.Edited.{Edited, is_there, link_between, without}
use Rattle.graph_edits.specs.Lawful.{IsAnswered, Makes}
use Rattle.edit_core.proofs.Finding.{named_there}
use Rattle.edit_acts.specs.Controlled.{SinksAreThere}
use Rattle.edit_acts.proofs.Gone.{more_there, not_sink, still_there}
use Rattle.edit_acts.proofs.Runs.{left}

in_more : (links : List PadLink) (more link : PadLink) → IsIn link (links ++ more ∷ []) → IsIn link links ⊎ (link ≡ more)
in_more [] more link (inl same) = inr same
in_more [] more link (inr none) = absurd none
in_more (one ∷ links) more link (inl same) = inl (inl same)
in_more (one ∷ links) more link (inr is) = go (in_more links more link is)
  where
    go : IsIn link links ⊎ (link ≡ more) → IsIn link (one ∷ links) ⊎ (link ≡ more)
    go (inl old) = inl (inr old)
    go (inr new) = inr new

acted : (h : ℕ → List Item) (g : Edited) (p : Option PadPlace) (place : ℕ) (act : Act) (after : Edited) → Makes g h p place act after → SinksAreThere g → SinksAreThere after
acted h g p place act after (Makes.relinks sink source to at is linkable) there = λ link in_links. by link (in_more (without source g.links) (link_between source to) link in_links)
  where
    by : (link : PadLink) → IsIn link (without source g.links) ⊎ (link ≡ link_between source to) → is_there g link.sink.element ≡ true
    by link (inl old) = there link (left source g.links link old)
    by link (inr new) = subst (λ (one : PadLink). is_there g one.sink.element ≡ true) (sym new) (named_there Sink g sink to is)
acted h g p place act after (Makes.unlinks eos source to at behind) there = λ link in_links. there link (left source g.links link in_links)
acted h g p place act after (Makes.adds q at kind props m is plain) there = λ link in_links. more_there g m link.sink.element (there link in_links)
acted h g p place act after (Makes.removes q at name n is loose) there = λ link in_links. still_there g n link.sink.element (not_sink g n link loose in_links) (there link in_links)

pub sinks_stay : (h owed : ℕ → List Item) (g after : Edited) (c : Command) (a : Answer) → IsAnswered g h owed c a after → SinksAreThere g → SinksAreThere after
sinks_stay h owed g after c a (IsAnswered.done when act p place next reaches makes) there = acted h g p place act next makes there
sinks_stay h owed g after c a (IsAnswered.unreached one all is) there = there
sinks_stay h owed g after c a (IsAnswered.nameless one none) there = there
sinks_stay h owed g after c a (IsAnswered.refused when act p place reason all reaches is) there = there
