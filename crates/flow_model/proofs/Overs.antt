-- When a run is over, EOS has come to each live element; and moments that are the same at each number stand for the same.
use Rattle.std.proofs.Common.{◌≡◌, ℕ, Bool, true, List, [], ◌∷◌, ◌++◌, map, refl, sym, ap, ◌∙◌, subst, inl, inr, append-nil}
use Rattle.flow_model.specs.Item.{Item}
use Rattle.flow_model.specs.Call.{items, feeds}
use Rattle.flow_model.specs.Feeding.{has_eos}
use Rattle.flow_model.specs.Link.{Span, input_of}
use Rattle.flow_model.specs.Eval.{Plan}
use Rattle.flow_model.specs.Account.{EachSource, EachSourceOf, GoesForward, IsMember}
use Rattle.flow_model.proofs.Links.{link_input}
use Rattle.flow_model.specs.Moment.{Moment, CellStands, owed_at}
use Rattle.flow_model.specs.Pad.{Holds}
use Rattle.flow_model.specs.Whole.{IsOver}
use Rattle.flow_model.specs.Over.{list_ended, AllEnded, FromStart, IsLive, EosComes}
use Rattle.flow_model.proofs.Splits.{split_all}
use Rattle.flow_model.proofs.Items.{items_feeds as items_of}

-- EOS at the sources of an element's sink pads is EOS in what these are given
ended_inputs : (live : ℕ → Bool) (plan : Plan) (h : ℕ → List Item) (seen : List ℕ) → ((p : ℕ) → IsMember (plan.owner p) seen → live (plan.owner p) ≡ true → list_ended (h p) ≡ true)
    → (sss : List (List Span)) → FromStart live plan sss → EachSourceOf (λ p. IsMember (plan.owner p) seen) sss → AllEnded (map (input_of h) sss)
ended_inputs live plan h seen so_far [] f e = tt
ended_inputs live plan h seen so_far (ss ∷ sss) f e =
    let p = f.0.0 in
    let here : IsMember (plan.owner p) seen = (subst (λ (s : List Span). EachSource (λ q. IsMember (plan.owner q) seen) s) f.0.1 e.0).0 in
    let given : input_of h ss ≡ feeds (h p) = ap (input_of h) f.0.1 ∙ link_input h p in
    let ended : list_ended (items (feeds (h p))) ≡ true = ap list_ended (items_of (h p)) ∙ so_far p here f.0.2 in
    (ap has_eos given ∙ ended, ended_inputs live plan h seen so_far sss f.1 e.1)

module _ (m : Moment) (forward : List ℕ) (live : ℕ → Bool) (s : (e : ℕ) → IsMember e forward → CellStands m e) (over : IsOver m forward) (uncut : (p : ℕ) → (m.plan.log p).cuts ≡ [])
    (lives : (e : ℕ) → IsMember e forward → live e ≡ true → IsLive live m e) where
  took_ended : (seen : List ℕ) → ((p : ℕ) → IsMember (m.plan.owner p) seen → live (m.plan.owner p) ≡ true → list_ended (m.history p) ≡ true)
      → (e : ℕ) → IsMember e forward → live e ≡ true → EachSourceOf (λ p. IsMember (m.plan.owner p) seen) (m.plan.sinks e) → AllEnded (m.took e)
  took_ended seen so_far e i l near =
      subst AllEnded (sym (split_all (over.empty e i) (s e i).input)) (ended_inputs live m.plan m.history seen so_far (m.plan.sinks e) (lives e i l).linked near)

  pad_ended : (e : ℕ) → IsMember e forward → live e ≡ true → AllEnded (m.took e) → (p : ℕ) → m.plan.owner p ≡ e → list_ended (m.history p) ≡ true
  pad_ended e i l t p o =
      let holds : owed_at m p 0 ≡ m.history p ++ m.waits p = subst (λ cs. Holds 0 0 cs (owed_at m p) (m.history p) (m.waits p)) (uncut p) ((s e i).pads p o) in
      let whole : owed_at m p 0 ≡ m.history p = holds ∙ ap (λ ys. m.history p ++ ys) (over.idle p (subst (λ d. IsMember d forward) (sym o) i)) ∙ append-nil (m.history p) in
      ap list_ended (sym whole) ∙ subst (λ d. list_ended (m.plan.rule d (m.took d) (m.plan.port p) 0) ≡ true) (sym o) ((lives e i l).passes t p o)

  ended_along : (seen es : List ℕ) → ((d : ℕ) → IsMember d es → IsMember d forward) → GoesForward m.plan seen es
      → ((p : ℕ) → IsMember (m.plan.owner p) seen → live (m.plan.owner p) ≡ true → list_ended (m.history p) ≡ true)
      → (e : ℕ) → IsMember e es → live e ≡ true → AllEnded (m.took e)
  ended_along seen [] part f so_far e i l = absurd i
  ended_along seen (d ∷ es) part f so_far e (inl i) l =
      subst (λ k. AllEnded (m.took k)) (sym i) (took_ended seen so_far d (part d (inl refl)) (subst (λ k. live k ≡ true) i l) f.0)
  ended_along seen (d ∷ es) part f so_far e (inr i) l = ended_along (d ∷ seen) es (λ k j. part k (inr j)) f.1 more e i l
    where
      more : (p : ℕ) → IsMember (m.plan.owner p) (d ∷ seen) → live (m.plan.owner p) ≡ true → list_ended (m.history p) ≡ true
      more p (inl o) k =
          let alive : live d ≡ true = subst (λ n. live n ≡ true) o k in
          pad_ended d (part d (inl refl)) alive (took_ended seen so_far d (part d (inl refl)) alive f.0) p o
      more p (inr o) k = so_far p o k

pub eos_comes : EosComes
eos_comes m forward live f s over uncut lives e i l = ended_along m forward live s over uncut lives [] forward (λ d j. j) f (λ p j k. absurd j) e i l
