-- No link of an element that was taken away stands: what it was given stays, when commands are answered and while more crosses.
use Rattle.std.proofs.Common.{◌≡◌, ◌⊎◌, ◌++◌, ℕ, suc, Bool, true, false, if◌then◌else◌, eqb, get_or, List, [], ◌∷◌, Option, None, Some, length, map, refl, sym, ap, ◌∙◌, subst, inl, inr, arith}
use Rattle.std.proofs.lemmas.Bool.{true≢false}
use Rattle.std.proofs.lemmas.Bool.Decides.{eqb_tells}
use Rattle.std.proofs.lemmas.List.{length_push}
use Rattle.flow_model.specs.Call.{Call}
use Rattle.flow_model.specs.Edit.{push_span, undo}
use Rattle.flow_model.specs.Item.{Item}
use Rattle.flow_model.specs.Link.{Span, Linked, WasLinked, Flushed, Given, input_of}
use Rattle.flow_model.specs.Moment.{Moment}
use Rattle.flow_model.specs.Prefix.{IsPrefix}
use Rattle.flow_model.specs.Standing.{is_linked}
use Rattle.flow_model.specs.declared.element.TaskElement as elements
use Rattle.flow_model.specs.declared.source.TaskSource as sources
use Rattle.gst_value.proofs.Basics.{none_some}
use Rattle.lane_core.specs.declared.ends.Inlet as inlets
use Rattle.lane_core.specs.declared.ends.Outlet as outlets
use Rattle.script_text.specs.declared.answer.Answer.{Answer}
use Rattle.script_text.specs.declared.command.Act.{Act}
use Rattle.script_text.specs.declared.command.Command.{Command}
use Rattle.graph_core.specs.Elements.{Made}
use Rattle.graph_core.specs.GraphPlan.{IsIn, pad_id, sink_at}
use Rattle.graph_core.proofs.LinkedOnce.{same_or_other}
use Rattle.graph_pads.specs.Links.{is_same, source_before}
use Rattle.graph_pads.specs.declared.pad.Direction.TheVariants.{Sink}
use Rattle.graph_pads.specs.declared.pad.PadLink.{PadLink}
use Rattle.graph_pads.specs.declared.pad.PadPlace.{PadPlace}
use Rattle.graph_edits.specs.Edited.{Edited, is_there, linked_at, unlinked_at}
use Rattle.graph_edits.specs.Growing.{AreWithin}
use Rattle.graph_edits.specs.Lawful.{IsAnswered, Makes}
use Rattle.graph_edits.proofs.Grown.{unlinked_same}
use Rattle.graph_edits.proofs.Keeping.{free_at}
use Rattle.edit_core.proofs.Finding.{named_there}
use Rattle.edit_acts.specs.Scripted.{Has, ScriptRun}
use Rattle.edit_acts.proofs.Gone.{was_there}

-- no link of the sink pads of an element stands
abbrev AreFree : List (List Span) → Type 0
AreFree sss = (k : ℕ) → is_linked (get_or sss k []) ≡ false

-- ---- no link leads to an element that is gone

record LinksTo (links : List PadLink) (sink : PadPlace) : Type 0 where
  link : PadLink
  is : IsIn link links
  to : link.sink ≡ sink

link_to : (links : List PadLink) (sink source : PadPlace) → source_before links sink ≡ Some source → LinksTo links sink
link_to [] sink source e = absurd (none_some e)
link_to (link ∷ links) sink source e = go (same_or_other link.sink sink) (link_to links sink source)
  where
    go : ((is_same link.sink sink ≡ true) × (link.sink ≡ sink)) ⊎ (is_same link.sink sink ≡ false) → (source_before links sink ≡ Some source → LinksTo links sink) → LinksTo (link ∷ links) sink
    go (inl t) rest = record { link = link; is = inl refl; to = t.1 }
    go (inr other) rest =
        let later = rest (subst (λ (b : Bool). (if b then Some link.source else source_before links sink) ≡ Some source) other e) in
        record { link = later.link; is = inr later.is; to = later.to }

module _ {S E I O L : Type 0} {s : sources.Ghosts S} {e : elements.Ghosts E} {i : inlets.Ghosts I L O} {o : outlets.Ghosts O L} (g : Edited) (m : Moment) (run : ScriptRun s e i o) (has : Has run g m)
    (a : ℕ) (gone : is_there g a ≡ false) where
  no_source : (k : ℕ) (found : Option PadPlace) → source_before g.links (sink_at a k) ≡ found → source_before g.links (sink_at a k) ≡ None
  no_source k None e = e
  no_source k (Some source) e =
      let l = link_to g.links (sink_at a k) source e in
      absurd (true≢false (sym (has.sinks l.link l.is) ∙ ap (λ (sink : PadPlace). is_there g sink.element) l.to ∙ gone))

  pub gone_free : AreFree (g.spans a)
  gone_free k = free_at m.history g (sink_at a k) has.current.kept (no_source k (source_before g.links (sink_at a k)) refl)

-- ---- what it was given stays

undo_same : (p place : ℕ) (eos : Bool) (ss : List Span) → is_linked ss ≡ false → map (undo p place eos) ss ≡ ss
undo_same p place eos [] free = refl
undo_same p place eos (Linked source from marks ∷ ss) free = absurd (true≢false free)
undo_same p place eos (WasLinked source from to ended marks ∷ ss) free = ap (λ (l : List Span). WasLinked source from to ended marks ∷ l) (undo_same p place eos ss free)
undo_same p place eos (Flushed number ∷ ss) free = ap (λ (l : List Span). Flushed number ∷ l) (undo_same p place eos ss free)
undo_same p place eos (Given calls ∷ ss) free = ap (λ (l : List Span). Given calls ∷ l) (undo_same p place eos ss free)

all_undo_same : (p place : ℕ) (eos : Bool) (sss : List (List Span)) → AreFree sss → map (map (undo p place eos)) sss ≡ sss
all_undo_same p place eos [] free = refl
all_undo_same p place eos (ss ∷ sss) free =
    ap (λ (l : List Span). l ∷ map (map (undo p place eos)) sss) (undo_same p place eos ss (free 0)) ∙ ap (λ (l : List (List Span)). ss ∷ l) (all_undo_same p place eos sss (λ k. free (suc k)))

-- histories that grow give the same over links that were undone
pub inputs_stay : (h h' : ℕ → List Item) → ((p : ℕ) → IsPrefix (h p) (h' p)) → (sss : List (List Span)) → ((k : ℕ) → AreWithin h (get_or sss k [])) → AreFree sss
    → map (input_of h') sss ≡ map (input_of h) sss
inputs_stay h h' longer [] within free = refl
inputs_stay h h' longer (ss ∷ sss) within free =
    ap (λ (cs : List Call). cs ∷ map (input_of h') sss) (unlinked_same h h' longer ss (within 0) (free 0))
    ∙ ap (λ (css : List (List Call)). input_of h ss ∷ css) (inputs_stay h h' longer sss (λ k. within (suc k)) (λ k. free (suc k)))

-- ---- behind answers

none_added : (made : List Made) (m : Made) → made ++ m ∷ [] ≡ made → ⊥
none_added made m same = let long = length_push made m in let size : length (made ++ m ∷ []) ≡ length made = ap length same in omega (arith, long, size)

module _ (g : Edited) (a : ℕ) where
  linked_elsewhere : (source : PadPlace) (place : ℕ) (sink : PadPlace) → (a ≡ sink.element → ⊥) → (linked_at source place sink g).spans a ≡ g.spans a
  linked_elsewhere source place sink other = go (eqb_tells a sink.element)
    where
      go : ((eqb a sink.element ≡ true) × (a ≡ sink.element)) ⊎ ((eqb a sink.element ≡ false) × (a ≡ sink.element → ⊥)) → (linked_at source place sink g).spans a ≡ g.spans a
      go (inl t) = absurd (other t.1)
      go (inr t) = ap (λ (b : Bool). if b then push_span sink.pad (Linked (pad_id source) place []) (g.spans a) else g.spans a) t.0

-- the element is given the same as before
module _ (h owed : ℕ → List Item) (g : Edited) (a : ℕ) (free : is_there g a ≡ false → AreFree (g.spans a)) where
  unlinked_spans : (source : PadPlace) (place : ℕ) (eos : Bool) → is_there g a ≡ false → (unlinked_at source place eos g).spans a ≡ g.spans a
  unlinked_spans source place eos gone = all_undo_same (pad_id source) place eos (g.spans a) (free gone)

  acted_spans : (p : Option PadPlace) (place : ℕ) (act : Act) (next : Edited) → Makes g h p place act next → next.made ≡ g.made → is_there next a ≡ false → next.spans a ≡ g.spans a
  acted_spans _ _ _ _ (Makes.relinks name source to place named linkable) made gone =
      linked_elsewhere (unlinked_at source place false g) a source place to (λ same. true≢false (sym (named_there Sink g name to named) ∙ ap (is_there g) (sym same) ∙ gone))
      ∙ unlinked_spans source place false gone
  acted_spans _ _ _ _ (Makes.unlinks eos source to place behind) made gone = unlinked_spans source place eos gone
  acted_spans _ _ _ _ (Makes.adds p place kind props m is plain) made gone = absurd (none_added g.made m made)
  acted_spans _ _ _ _ (Makes.removes p place name n named none) made gone = refl

  -- what it is given stays where a command is answered behind which it is not there
  pub answered_spans : (c : Command) (answer : Answer) (next : Edited) → IsAnswered g h owed c answer next → next.made ≡ g.made → is_there next a ≡ false → next.spans a ≡ g.spans a
  answered_spans _ _ _ (IsAnswered.done when act p place after reaches makes) made gone = acted_spans p place act after makes made gone
  answered_spans _ _ _ (IsAnswered.unreached c all over) made gone = refl
  answered_spans _ _ _ (IsAnswered.nameless c missing) made gone = refl
  answered_spans _ _ _ (IsAnswered.refused when act p place reason all reaches refused) made gone = refl

module _ (h owed : ℕ → List Item) (g : Edited) (a : ℕ) where
  acted_there : (p : Option PadPlace) (place : ℕ) (act : Act) (next : Edited) → Makes g h p place act next → next.made ≡ g.made → is_there next a ≡ true → is_there g a ≡ true
  acted_there _ _ _ _ (Makes.relinks name source to place named linkable) made there = there
  acted_there _ _ _ _ (Makes.unlinks eos source to place behind) made there = there
  acted_there _ _ _ _ (Makes.adds p place kind props m is plain) made there = absurd (none_added g.made m made)
  acted_there _ _ _ _ (Makes.removes p place name n named none) made there = (was_there g n a there).0

  -- what is there behind an answer that adds no element was there
  pub answered_there : (c : Command) (answer : Answer) (next : Edited) → IsAnswered g h owed c answer next → next.made ≡ g.made → is_there next a ≡ true → is_there g a ≡ true
  answered_there _ _ _ (IsAnswered.done when act p place after reaches makes) made there = acted_there p place act after makes made there
  answered_there _ _ _ (IsAnswered.unreached c all over) made there = there
  answered_there _ _ _ (IsAnswered.nameless c missing) made there = there
  answered_there _ _ _ (IsAnswered.refused when act p place reason all reaches refused) made there = there
