-- Where EOS is in what sink pads were given, and the links that stand.
use Rattle.std.proofs.Common.{◌≡◌, ◌⊎◌, ◌≤◌, ℕ, Bool, true, false, if◌then◌else◌, List, [], ◌∷◌, Option, None, Some, length, map, refl, sym, ap, ◌∙◌, subst, inl, inr, arith}
use Rattle.std.specs.Prelude.{get_or}
use Rattle.std.specs.Option.{option_map_or}
use Rattle.el_settings.proofs.Padded.{one_sink}
use Rattle.el_settings.specs.Asked.{makes_sinks}
use Rattle.flow_model.specs.Call.{Call, items}
use Rattle.flow_model.specs.Item.{Item}
use Rattle.flow_model.specs.Link.{Span, input_of}
use Rattle.flow_model.specs.Over.{AllEnded, list_ended}
use Rattle.flow_model.specs.Split.{AreSplit}
use Rattle.flow_model.specs.Split as splits
use Rattle.graph_core.proofs.LinkedOnce.{itself, same_or_other}
use Rattle.graph_core.specs.Elements.{Made}
use Rattle.graph_core.specs.GraphPlan.{IsIn, sink_count}
use Rattle.graph_core.specs.Links.{ways}
use Rattle.graph_edits.specs.Growing.{AreSingle}
use Rattle.graph_order.specs.Links.{IsLink}
use Rattle.graph_pads.specs.Links.{is_same, source_before}
use Rattle.graph_pads.specs.declared.pad.PadLink.{PadLink}
use Rattle.gst_value.proofs.Basics.{none_some}

-- ---- lists

-- where no list was taken, none was given
pub none_given : {ts hs ws : List (List Call)} → AreSplit ts hs ws → ts ≡ [] → ts ≡ ws
none_given splits.none is = refl
none_given (splits.pad e s) is = absurd (cc)

pub split_size : {ts hs ws : List (List Call)} → AreSplit ts hs ws → length ts ≡ length ws
split_size splits.none = refl
split_size (splits.pad e s) = let more = split_size s in omega (arith, more)

-- where EOS is in what its only sink pad was given
pub one_ended : (h : ℕ → List Item) (sss : List (List Span)) → length sss ≤ 1 → list_ended (items (input_of h (get_or sss 0 []))) ≡ true → AllEnded (map (input_of h) sss)
one_ended h [] one is = tt
one_ended h (ss ∷ []) one is = (is, tt)
one_ended h (ss ∷ other ∷ more) one is = absurd (omega (arith, one))

-- an element that does not join streams has one sink pad at the most
pub few_sinks : (found : Option Made) → option_map_or (λ (one : Made). makes_sinks one.settings) found false ≡ false → sink_count found ≤ 1
few_sinks None apart = omega arith
few_sinks (Some one) apart = one_sink one.settings apart

-- ---- links

-- what goes from one element to another is a link
pub link_between : (links : List PadLink) (a b : ℕ) → IsLink a b (ways links) → (link : PadLink) × IsIn link links × (link.source.element ≡ a) × (link.sink.element ≡ b)
link_between [] a b is = absurd is
link_between (link ∷ links) a b (inl same) = (link, inl refl, same.0, same.1)
link_between (link ∷ links) a b (inr is) = let one = link_between links a b is in (one.0, inr one.1, one.2, one.3)

-- each sink pad has one link
pub before_it : (links : List PadLink) → AreSingle links → (link : PadLink) → IsIn link links → source_before links link.sink ≡ Some link.source
before_it [] single link is = absurd is
before_it (one ∷ links) single link (inl same) =
    subst (λ (l : PadLink). source_before (one ∷ links) l.sink ≡ Some l.source) (sym same) (ap (λ (b : Bool). if b then Some one.source else source_before links one.sink) (itself one.sink))
before_it (one ∷ links) single link (inr is) = by (before_it links single.2 link is) (same_or_other one.sink link.sink)
  where
    by : source_before links link.sink ≡ Some link.source → ((is_same one.sink link.sink ≡ true) × (one.sink ≡ link.sink)) ⊎ (is_same one.sink link.sink ≡ false) → source_before (one ∷ links) link.sink ≡ Some link.source
    by later (inl same) = absurd (none_some (sym (ap (source_before links) (sym same.1) ∙ single.1) ∙ later))
    by later (inr other) = ap (λ (b : Bool). if b then Some one.source else source_before links link.sink) other ∙ later
