-- The evaluation of an edited graph at a moment of its run.
use Rattle.std.proofs.Common.{◌≡◌, ◌⊎◌, ◌<◌, ◌%◌, ◌++◌, ℕ, Bool, true, false, if◌then◌else◌, List, [], ◌∷◌, Option, None, Some, length, refl, sym, ap, ◌∙◌, subst, inl, inr, arith}
use Rattle.std.specs.Prelude.{slice_get}
use Rattle.std.specs.Option.{option_map_or}
use Rattle.std.proofs.lemmas.Bool.{ltb-true}
use Rattle.std.proofs.lemmas.List.{append-nil}
use Rattle.std.proofs.lemmas.Option.{slice_get_within}
use Rattle.flow_model.specs.Item.{Item}
use Rattle.flow_model.specs.Call.{Call}
use Rattle.flow_model.specs.Rule.{Rule}
use Rattle.flow_model.specs.Account.{GoesForward, IsMember as IsListed}
use Rattle.flow_model.specs.Eval.{PadLog}
use Rattle.flow_model.proofs.Whole.{all_sources_weaker}
use Rattle.flow_model.specs.Step.{planned}
use Rattle.flow_model.proofs.Splits.{split_all}
use Rattle.flow_model.proofs.Wholes.{moment_is_eval}
use Rattle.el_settings.specs.Asked.{is_sink, source_pads}
use Rattle.el_settings.proofs.Roles.{end_no_source_pad}
use Rattle.task_elements.specs.Stands.{owes_nothing}
use Rattle.graph_core.specs.Elements.{Made, has}
use Rattle.graph_core.specs.GraphPlan.{IsIn, owner_of}
use Rattle.graph_core.specs.Links.{ways}
use Rattle.graph_core.proofs.NumberedPads.{owner_at}
use Rattle.graph_core.proofs.Orders.{listed, member, pads_at_link}
use Rattle.graph_order.specs.Forward.{GoForward, IsMember, StandsBefore}
use Rattle.graph_order.proofs.Once.{Once, behind_member, once_by, within}
use Rattle.graph_pads.specs.declared.pad.PadLink.{PadLink}
use Rattle.graph_parts.specs.Links.{source_count}
use Rattle.graph_parts.specs.Pads.{IsThere, is_pad}
use Rattle.graph_parts.proofs.Owners.{FromPads, eval_alike}
use Rattle.graph_parts.proofs.Sources.{few_there, place_is_pad}
use Rattle.graph_edits.specs.Edited.{Edited}
use Rattle.graph_edits.specs.Plans.{IsOrder, edited_plan, edited_rule}
use Rattle.edit_core.specs.Whole.{AreMade, ComesFrom, EditedIsEval, EditedIsWhole, moment_plan, owner_in}

-- a link that was made leads from an earlier element to a later one
made_before : (links : List PadLink) (order : List ℕ) → GoForward (ways links) order → (link : PadLink) → IsIn link links → StandsBefore link.source.element link.sink.element order
made_before [] order goes link is = absurd is
made_before (l ∷ ls) order goes link (inl same) = subst (λ (k : PadLink). StandsBefore k.source.element k.sink.element order) (sym same) goes.0
made_before (l ∷ ls) order goes link (inr is) = made_before ls order goes.1 link is

-- the element of a source pad is there, and is no sink
pad_there : (found : Option Made) (n : ℕ) → n < option_map_or (λ (m : Made). source_pads m.settings) found 0 → (m : Made) × (found ≡ Some m) × (is_sink m.settings ≡ false)
pad_there None n low = absurd (omega (arith, low))
pad_there (Some m) n low = (m, refl, by (is_sink m.settings) refl)
  where
    by : (b : Bool) → is_sink m.settings ≡ b → b ≡ false
    by true is = absurd (let none = end_no_source_pad m.settings is in omega (arith, low, none))
    by false is = refl

module _ (g : Edited) (p : ℕ) (pad : is_pad g.made p ≡ true) where
  low : p % 64 < source_count g.made (owner_of p)
  low = ltb-true (p % 64) (source_count g.made (owner_of p)) pad

  pub element_there : owner_of p < length g.made
  element_there = let one = pad_there (slice_get g.made (owner_of p)) (p % 64) low in slice_get_within g.made (owner_of p) one.0 one.1

  no_sink : has is_sink g.made (owner_of p) ≡ false
  no_sink = let one = pad_there (slice_get g.made (owner_of p)) (p % 64) low in ap (λ o. option_map_or (λ (m : Made). is_sink m.settings) o false) one.1 ∙ one.2

  pub owner_is : owner_in g.made p ≡ owner_of p
  owner_is = rw pad refl

module _ (contents : ℕ → List ℕ) (g : Edited) where
  rule : ℕ → Rule
  rule e = if has is_sink g.made e then owes_nothing else edited_rule contents g e

  rule_is : (p : ℕ) → is_pad g.made p ≡ true → (if has is_sink g.made (owner_of p) then owes_nothing else edited_rule contents g (owner_of p)) ≡ edited_rule contents g (owner_of p)
  rule_is p pad = rw (no_sink g p pad) refl

  module _ (made : AreMade g) where
    source_there : (e p : ℕ) (from : ComesFrom g e p) → IsThere g.made from.link.source
    source_there e p from = (pads_at_link g.made g.ever made.pads from.link from.is).0

    from_pad : (e p : ℕ) → ComesFrom g e p → is_pad g.made p ≡ true
    from_pad e p from = subst (λ (q : ℕ). is_pad g.made q ≡ true) from.number (place_is_pad g.made from.link.source (source_there e p from))

    from_owner : (e p : ℕ) (from : ComesFrom g e p) → owner_in g.made p ≡ from.link.source.element
    from_owner e p from =
        owner_is g p (from_pad e p from) ∙ ap owner_of (sym from.number) ∙ owner_at from.link.source (few_there g.made from.link.source (source_there e p from))

    from_pads : (forward : List ℕ) (count : ℕ → ℕ) → FromPads (λ p. is_pad g.made p ≡ true) (edited_plan contents g forward count)
    unfolding edited_plan
    from_pads forward count e = all_sources_weaker (ComesFrom g e) (λ p. is_pad g.made p ≡ true) (λ p from. from_pad e p from) (g.spans e) (made.spans e)

    -- each span comes from an element that stands earlier
    Comes : List ℕ → List ℕ → Type 0
    Comes seen es = (e p : ℕ) → IsMember e es → ComesFrom g e p → IsListed (owner_in g.made p) seen ⊎ StandsBefore (owner_in g.made p) e es

    along : (seen es : List ℕ) → Once es → Comes seen es → GoesForward (moment_plan contents g) seen es
    unfolding edited_plan Comes
    along seen [] once comes = tt
    along seen (e ∷ es) once comes = (
      all_sources_weaker (ComesFrom g e) (λ p. IsListed (owner_in g.made p) seen) (λ p from. first p (comes e p (inl refl) from)) (g.spans e) (made.spans e),
      along (e ∷ seen) es once.1 (λ d p m from. later d p (comes d p (inr m) from)),
    )
      where
        first : (p : ℕ) → IsListed (owner_in g.made p) seen ⊎ StandsBefore (owner_in g.made p) e (e ∷ es) → IsListed (owner_in g.made p) seen
        first p (inl m) = m
        first p (inr (inl h)) = absurd (once.0 h.1)
        first p (inr (inr h)) = absurd (once.0 (behind_member (owner_in g.made p) e es h))

        later : (d p : ℕ) → IsListed (owner_in g.made p) seen ⊎ StandsBefore (owner_in g.made p) d (e ∷ es) → IsListed (owner_in g.made p) (e ∷ seen) ⊎ StandsBefore (owner_in g.made p) d es
        later d p (inl m) = inl (inr m)
        later d p (inr (inl h)) = inl (inl (sym h.0))
        later d p (inr (inr h)) = inr h

    module _ (forward : List ℕ) (order : IsOrder g forward) where
      goes : GoesForward (moment_plan contents g) [] forward
      unfolding Comes
      goes = along [] forward (once_by (length g.made) [] forward order.whole order.size) (λ e p m from.
          inr (subst (λ (a : ℕ). StandsBefore a e forward) (sym (from_owner e p from))
          (subst (λ (b : ℕ). StandsBefore from.link.source.element b forward) from.sink (made_before g.ever forward order.goes from.link from.is))))

      of_order : (e : ℕ) → IsListed e forward → e < length g.made
      of_order e is = within (length g.made) forward order.whole order.size e (member e forward is)

      in_order : (p : ℕ) → is_pad g.made p ≡ true → IsListed (owner_in g.made p) forward
      in_order p pad = subst (λ (n : ℕ). IsListed n forward) (sym (owner_is g p pad)) (listed (owner_of p) forward (order.whole (owner_of p) (element_there g p pad)))

pub edited_is_eval : EditedIsEval
unfolding edited_plan
edited_is_eval contents g forward m order made few begins p pad =
    let count : ℕ → ℕ = λ q. length (m.history q) in
    let log : ℕ → PadLog = λ q. record { cuts = []; count = count q } in
    sym (eval_alike (λ q. is_pad g.made q ≡ true) (owner_in g.made) (λ e. if has is_sink g.made e then owes_nothing else edited_rule contents g e) log (edited_plan contents g forward count)
    (from_pads contents g made forward count) (λ q is. owner_is g q is) (λ q is. rule_is contents g q is) (λ q is. refl) forward (λ q. []) (λ q. []) (λ q is. refl) p pad)
    ∙ moment_is_eval (planned (moment_plan contents g) m) forward (goes contents g made forward order) (λ e is. begins e (of_order contents g made forward order e is)) p (in_order contents g made forward order p pad)

pub edited_is_whole : EditedIsWhole
unfolding edited_plan
edited_is_whole contents g forward m p pad stands empty idle =
    let own = owner_is g p pad in
    let rule : ℕ → Rule = λ e. if has is_sink g.made e then owes_nothing else edited_rule contents g e in
    ap (λ (calls : List (List Call)). edited_rule contents g (owner_of p) calls (p % 64) 0) (sym (split_all empty stands.input))
    ∙ ap (λ (r : Rule). r (m.took (owner_of p)) (p % 64) 0) (sym (rule_is contents g p pad))
    ∙ ap (λ (e : ℕ). rule e (m.took e) (p % 64) 0) (sym own)
    ∙ stands.pads p own
    ∙ ap (λ (items : List Item). m.history p ++ items) idle
    ∙ append-nil (m.history p)
