-- In a net that stands each sink pad has one link at the most, so what stands behind an element is a tree.
use Rattle.std.proofs.Common.{◌≡◌, ◌⊎◌, ℕ, zero, suc, true, false, eqb, if◌then◌else◌, List, [], ◌∷◌, Some, sym, ap, Option, ◌∙◌, subst, inl, inr}
use Rattle.std.specs.Prelude.{slice_get}
use Rattle.std.proofs.lemmas.Bool.Decides.{eqb_tells}
use Rattle.flow_model.specs.Item.{Item}
use Rattle.flow_model.specs.Link.{Span, Linked, WasLinked, Flushed, Given}
use Rattle.lane_core.specs.declared.ends.Inlet as inlets
use Rattle.lane_core.specs.declared.ends.Outlet as outlets
use Rattle.flow_model.specs.Edit.{IsFree}
use Rattle.flow_model.specs.Moment.{Moment}
use Rattle.flow_model.specs.Standing.{AllStanding, LinksAt, Standing, is_linked, links_from}
use Rattle.flow_model.specs.Step.{Leads}
use Rattle.flow_model.specs.declared.element.TaskElement as elements
use Rattle.flow_model.specs.declared.source.TaskSource as sources
use Rattle.task_pads.specs.Behind.{Goes, inside, over}
use Rattle.task_parts.specs.declared.head.Head.{Head}
use Rattle.task_parts.specs.declared.head.Head.TheVariants.{Source, Inlets}
use Rattle.task_parts.specs.declared.part.Part.{Part}
use Rattle.net_task.specs.Frame.{HeadFrame, by_inlets, by_source, PartFrame, Wire, IsWire, WireAt, frame_in, head_frame, head_wire, part_frame, wire_of}
use Rattle.net_task.specs.Frame.IsWire.{of_head, of_part}
use Rattle.net_task.specs.Ties.{AreTied, HeadTied, LeadsAs, Stands, nothing_lost}
use Rattle.net_groups.specs.Behind.{IsTree}
use Rattle.gst_value.proofs.Basics.{some_same}
use Rattle.gst_value.proofs.Places.{map_got}
use Rattle.edit_core.specs.Trees.{TreesStand}

-- ---- one link stands at a sink pad

last_link : (p q source : ℕ) → (if eqb source p then true else false) ≡ true → (if eqb source q then true else false) ≡ true → p ≡ q
last_link p q source a b = by (eqb_tells source p) (eqb_tells source q) a b
  where
    by : ((eqb source p ≡ true) × (source ≡ p)) ⊎ ((eqb source p ≡ false) × (source ≡ p → ⊥)) → ((eqb source q ≡ true) × (source ≡ q)) ⊎ ((eqb source q ≡ false) × (source ≡ q → ⊥))
        → (if eqb source p then true else false) ≡ true → (if eqb source q then true else false) ≡ true → p ≡ q
    by (inl t) (inl u) a b = sym t.1 ∙ u.1
    by (inl t) (inr u) a b = absurd (let none = rw u.0 at b in cc)
    by (inr t) u a b = absurd (let none = rw t.0 at a in cc)

one_link : (h : ℕ → List Item) (p q : ℕ) (spans : List Span) → Standing h spans → links_from p spans ≡ true → links_from q spans ≡ true → p ≡ q
one_link h p q [] s a b = absurd cc
one_link h p q (Linked source from marks ∷ spans) s a b = last_link p q source (rw s.2 at a) (rw s.2 at b)
one_link h p q (WasLinked source from to eos marks ∷ spans) s a b = one_link h p q spans s.2 a b
one_link h p q (Flushed number ∷ spans) s a b = one_link h p q spans s a b
one_link h p q (Given calls ∷ spans) s a b = one_link h p q spans s a b

one_source : (h : ℕ → List Item) (p q i : ℕ) (sss : List (List Span)) → AllStanding h sss → LinksAt p i sss → LinksAt q i sss → p ≡ q
one_source h p q i [] s a b = absurd a
one_source h p q zero (ss ∷ sss) s a b = one_link h p q ss s.0 a.0 b.0
one_source h p q (suc i) (ss ∷ sss) s a b = one_source h p q i sss s.1 a.1 b.1

-- none does at a free one
no_link : (p : ℕ) (spans : List Span) → is_linked spans ≡ false → links_from p spans ≡ true → ⊥
no_link p [] free from = cc
no_link p (Linked source from marks ∷ spans) free is = cc
no_link p (WasLinked source from to eos marks ∷ spans) free is = no_link p spans free is
no_link p (Flushed number ∷ spans) free is = no_link p spans free is
no_link p (Given calls ∷ spans) free is = no_link p spans free is

pub no_source : (p i : ℕ) (sss : List (List Span)) → IsFree i sss → LinksAt p i sss → ⊥
no_source p i [] free at = at
no_source p zero (ss ∷ sss) free at = no_link p ss free at.0
no_source p (suc i) (ss ∷ sss) free at = no_source p i sss free at.1

-- ---- pads of a task

abbrev frame_wire : Wire → HeadFrame → Wire
frame_wire other (by_source n file wire) = wire
frame_wire other (by_inlets n rows) = other

abbrev frame_number : HeadFrame → ℕ
frame_number (by_source n file wire) = n
frame_number (by_inlets n rows) = n

module _ {S E I O L : Type 0} {s : sources.Ghosts S} {e : elements.Ghosts E} (i : inlets.Ghosts I L O) (o : outlets.Ghosts O L) (m : Moment) (head : Head S I O s) (parts : List (Part E O e))
    (tied : AreTied i o (Stands m) nothing_lost m head parts) where
  -- a wire at a place, with what the moment tells of its pad
  record PadAt (j k : ℕ) (wire : Wire) : Type 0 where
    part : Part E O e
    at : slice_get parts j ≡ Some part
    owner : m.plan.owner wire.number ≡ part.number
    port : m.plan.port wire.number ≡ k
    leads : LeadsAs m wire.number wire.leads

  part_pad : (j k : ℕ) (wire : Wire) → WireAt (frame_in o head parts) j k wire → PadAt j k wire
  part_pad j k wire w =
      let a = map_got (part_frame o) parts j w.part w.at in
      let b = map_got (wire_of o) a.0.pads.items k wire (ap (λ (one : PartFrame). slice_get one.wires k) (sym a.2) ∙ w.pad_at) in
      let port = (tied.parts_tied.each j a.0 a.1).pads k b.0 b.1 in
      record {
        part = a.0;
        at = a.1;
        owner = ap (λ (x : Wire). m.plan.owner x.number) b.2 ∙ port.owner;
        port = ap (λ (x : Wire). m.plan.port x.number) b.2 ∙ port.port_is;
        leads = subst (λ (x : Wire). LeadsAs m x.number x.leads) (sym b.2) port.linked.leads;
      }

  -- the pad of a source
  record SourceAt (wire : Wire) : Type 0 where
    owner : ℕ
    owner_is : m.plan.owner wire.number ≡ owner
    apart : (j : ℕ) (part : Part E O e) → slice_get parts j ≡ Some part → part.number ≡ owner → ⊥
    leads : LeadsAs m wire.number wire.leads

  source_pad : (one : Head S I O s) → HeadTied i o nothing_lost m one parts → (wire : Wire) → head_wire (head_frame o one) ≡ Some wire → SourceAt wire
  source_pad (Source source) t wire is =
      let same : wire_of o source.pad ≡ wire = some_same is in
      record {
        owner = source.number;
        owner_is = ap (λ (x : Wire). m.plan.owner x.number) (sym same) ∙ t.owner;
        apart = λ j part at eq. t.apart j part at eq;
        leads = subst (λ (x : Wire). LeadsAs m x.number x.leads) same t.linked.leads;
      }
  source_pad (Inlets fed) t wire is = absurd cc

  pub wire_leads_as : (wire : Wire) → IsWire (frame_in o head parts) wire → LeadsAs m wire.number wire.leads
  wire_leads_as wire (of_part j k w) = (part_pad j k wire w).leads
  wire_leads_as wire (of_head at) = (source_pad head tied.head_tied wire at).leads

  pub wire_leads : (wire : Wire) → IsWire (frame_in o head parts) wire → (n sink : ℕ) → wire.leads ≡ inside n sink → Leads m.plan wire.number n sink
  wire_leads wire is n sink leads = (subst (λ (g : Goes). LeadsAs m wire.number g) leads (wire_leads_as wire is)).0

  pub wire_leads_over : (wire : Wire) → IsWire (frame_in o head parts) wire → (lane n sink from : ℕ) → wire.leads ≡ over lane n sink from → Leads m.plan wire.number n sink
  wire_leads_over wire is lane n sink from leads = subst (λ (g : Goes). LeadsAs m wire.number g) leads (wire_leads_as wire is)

  -- whose pad a wire is
  pub wire_owner : (j k : ℕ) (wire : Wire) (w : WireAt (frame_in o head parts) j k wire) → m.plan.owner wire.number ≡ w.part.number
  wire_owner j k wire w =
      let a = map_got (part_frame o) parts j w.part w.at in
      let b = map_got (wire_of o) a.0.pads.items k wire (ap (λ (one : PartFrame). slice_get one.wires k) (sym a.2) ∙ w.pad_at) in
      ap (λ (x : Wire). m.plan.owner x.number) b.2 ∙ ((tied.parts_tied.each j a.0 a.1).pads k b.0 b.1).owner ∙ sym (ap (λ (one : PartFrame). one.number) a.2)

  pub source_owner : (one : Head S I O s) → HeadTied i o nothing_lost m one parts → (n : ℕ) (file : Option (Option (List ℕ))) (wire : Wire) → head_frame o one ≡ by_source n file wire → m.plan.owner wire.number ≡ n
  source_owner (Source source) t n file wire is =
      ap (λ (h : HeadFrame). m.plan.owner (frame_wire (wire_of o source.pad) h).number) (sym is) ∙ t.owner ∙ ap (λ (h : HeadFrame). frame_number h) is
  source_owner (Inlets fed) t n file wire is = absurd cc

  -- two pads of one number are one
  module _ (cells : (n : ℕ) → AllStanding m.history (m.plan.sinks n)) (first : (wire : Wire) → IsWire (frame_in o head parts) wire → (n port : ℕ) → wire.leads ≡ inside n port → port ≡ 0) where
    to_first : (wire : Wire) → IsWire (frame_in o head parts) wire → (n port : ℕ) → wire.leads ≡ inside n port → LinksAt wire.number 0 (m.plan.sinks n)
    to_first wire is n port leads = subst (λ (k : ℕ). LinksAt wire.number k (m.plan.sinks n)) (first wire is n port leads) (wire_leads wire is n port leads).here

    one_number : (one other : Wire) → IsWire (frame_in o head parts) one → IsWire (frame_in o head parts) other → (n port port' : ℕ) → one.leads ≡ inside n port → other.leads ≡ inside n port' → one.number ≡ other.number
    one_number one other is is' n port port' leads leads' = one_source m.history one.number other.number 0 (m.plan.sinks n) (cells n) (to_first one is n port leads) (to_first other is' n port' leads')

    one_place : (j k j' k' n port port' : ℕ) (one other : Wire) → WireAt (frame_in o head parts) j k one → WireAt (frame_in o head parts) j' k' other → one.leads ≡ inside n port → other.leads ≡ inside n port'
        → (j ≡ j') × (k ≡ k')
    one_place j k j' k' n port port' one other w w' leads leads' =
        let same = one_number one other (of_part j k w) (of_part j' k' w') n port port' leads leads' in
        let a = part_pad j k one w in
        let b = part_pad j' k' other w' in
        (tied.parts_tied.once j j' a.part b.part a.at b.at (sym a.owner ∙ ap m.plan.owner same ∙ b.owner), sym a.port ∙ ap m.plan.port same ∙ b.port)

    not_both : (j k n port port' : ℕ) (one other : Wire) → WireAt (frame_in o head parts) j k one → head_wire (head_frame o head) ≡ Some other → one.leads ≡ inside n port → other.leads ≡ inside n port' → ⊥
    not_both j k n port port' one other w at leads leads' =
        let same = one_number one other (of_part j k w) (of_head at) n port port' leads leads' in
        let a = part_pad j k one w in
        let b = source_pad head tied.head_tied other at in
        b.apart j a.part a.at (sym a.owner ∙ ap m.plan.owner same ∙ b.owner_is)

    pub is_tree : (n : ℕ) → IsFree 0 (m.plan.sinks n) → IsTree (frame_in o head parts) n
    is_tree n free = record {
      unfed = λ wire port is leads. no_source wire.number 0 (m.plan.sinks n) free (to_first wire is n port leads);
      once = λ j k j' k' n' port port' one other w w' leads leads'. one_place j k j' k' n' port port' one other w w' leads leads';
      source = λ j k n' port port' one other w at leads leads'. not_both j k n' port port' one other w at leads leads';
    }

pub trees_stand : {S E I O L : Type 0} (s : sources.Ghosts S) (e : elements.Ghosts E) (i : inlets.Ghosts I L O) (o : outlets.Ghosts O L) → TreesStand s e i o
trees_stand s e i o m tasks tells n stands first free = λ k has.
    is_tree i o m has.task.head has.task.parts.items (stands.tied k has.task has.at) (λ d. (stands.cells d).standing) (λ wire is d port leads. first k has.task has.at wire is d port leads) n free
