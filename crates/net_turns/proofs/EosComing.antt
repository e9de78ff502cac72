-- Behind an EOS nothing stands in an inlet; and where nothing is left in a net, EOS has come at each sink pad of each live element,
-- if it has come at those that join streams.
use Rattle.std.proofs.Common.{◌≡◌, ◌⊎◌, ℕ, Bool, true, false, List, [], ◌∷◌, ◌++◌, map, refl, sym, ap, ◌∙◌, subst, inl, inr, append_assoc, append-nil}
use Rattle.std.proofs.lemmas.Bool.{false≢true}
use Rattle.flow_model.specs.Item.{Item}
use Rattle.flow_model.specs.Call.{Call, Feed, items, feeds}
use Rattle.flow_model.specs.Feeding.{has_eos}
use Rattle.flow_model.specs.Link.{Span, Linked, input_of}
use Rattle.flow_model.specs.Eval.{Plan}
use Rattle.flow_model.specs.Account.{EachSource, EachSourceOf, GoesForward, IsMember}
use Rattle.flow_model.proofs.Links.{link_input}
use Rattle.flow_model.specs.Moment.{Moment, CellStands, owed_at}
use Rattle.flow_model.specs.Over.{AllEnded, FromStart, PassesEos, list_ended}
use Rattle.flow_model.specs.Pad.{Holds}
use Rattle.flow_model.specs.Split.{AreEmpty, AreSplit, none, pad}
use Rattle.flow_model.proofs.Splits.{split_all}
use Rattle.net_turns.specs.Ends.{AreFromStart, NothingLeft}
use Rattle.net_turns.specs.Net.{IsPlain}
use Rattle.net_turns.proofs.Behind.{none_behind, owed_all}
use Rattle.flow_model.proofs.Items.{items_feeds as items_of}

-- items that were given in two parts
record InParts (xs : List Item) (t h : List Call) : Type 0 where
  first : List Item
  second : List Item
  whole : xs ≡ first ++ second
  first_is : t ≡ feeds first
  second_is : h ≡ feeds second

in_parts : (xs : List Item) (t h : List Call) → feeds xs ≡ t ++ h → InParts xs t h
in_parts xs [] h e = record { first = []; second = xs; whole = refl; first_is = refl; second_is = sym e }
in_parts [] (c ∷ t) h e = absurd (nil_cons e)
  where
    nil_cons : {c : Call} {cs : List Call} → [] ≡ c ∷ cs → ⊥
    nil_cons e = cc
in_parts (x ∷ xs) (c ∷ t) h e =
    let more = in_parts xs t h (tail_same e) in
    record {
      first = x ∷ more.first;
      second = more.second;
      whole = ap (λ (ys : List Item). x ∷ ys) more.whole;
      first_is = ap (λ (d : Call). d ∷ t) (sym (head_same e)) ∙ ap (λ (cs : List Call). Feed x ∷ cs) more.first_is;
      second_is = more.second_is;
    }
  where
    head_same : {c d : Call} {cs ds : List Call} → c ∷ cs ≡ d ∷ ds → c ≡ d
    head_same e = cc

    tail_same : {c d : Call} {cs ds : List Call} → c ∷ cs ≡ d ∷ ds → cs ≡ ds
    tail_same e = cc

nil_first : (t h : List Call) → t ++ h ≡ [] → t ≡ []
nil_first [] h e = refl
nil_first (c ∷ t) h e = absurd (cons_nil e)
  where
    cons_nil : {c : Call} {cs : List Call} → c ∷ cs ≡ [] → ⊥
    cons_nil e = cc

-- Behind an EOS that was taken nothing stands in an inlet.
module _ (m : Moment) (cells : (n : ℕ) → CellStands m n) (plain : IsPlain m.plan) where
  held_none : (p : ℕ) (first second : List Item) → m.history p ≡ first ++ second → list_ended first ≡ true → second ≡ []
  held_none p first [] whole over = refl
  held_none p first (x ∷ rest) whole over =
      absurd (none_behind m p first x (rest ++ m.waits p) plain
      (owed_all m p plain (cells (m.plan.owner p)) ∙ ap (λ (l : List Item). l ++ m.waits p) whole ∙ append_assoc first (x ∷ rest) (m.waits p))
      over)

  inlet_none : (ss : List Span) (t h : List Call) → (ss ≡ []) ⊎ ((p : ℕ) × (ss ≡ Linked p 0 [] ∷ [])) → input_of m.history ss ≡ t ++ h → has_eos t ≡ true → h ≡ []
  inlet_none ss t h (inl bare) e over =
      absurd (false≢true (sym (ap has_eos (nil_first t h (sym e ∙ ap (input_of m.history) bare))) ∙ over))
  inlet_none ss t h (inr one) e over =
      let parts = in_parts (m.history one.0) t h (sym (link_input m.history one.0) ∙ ap (input_of m.history) (sym one.1) ∙ e) in
      let ended : list_ended parts.first ≡ true = ap list_ended (sym (items_of parts.first)) ∙ ap has_eos (sym parts.first_is) ∙ over in
      parts.second_is ∙ ap feeds (held_none one.0 parts.first parts.second parts.whole ended)

  inlets_none : (sss : List (List Span)) {ts hs ws : List (List Call)} → ws ≡ map (input_of m.history) sss → AreFromStart sss → AreSplit ts hs ws → AllEnded ts → AreEmpty hs
  inlets_none sss is f none over = tt
  inlets_none [] is f (pad e s) over = absurd (cons_nil is)
    where
      cons_nil : {c : List Call} {cs : List (List Call)} → c ∷ cs ≡ [] → ⊥
      cons_nil e = cc
  inlets_none (ss ∷ sss) is f (pad {t = t} {h = h} e s) over = (inlet_none ss t h f.0 (sym (head_same is) ∙ e) over.0, inlets_none sss (tail_same is) f.1 s over.1)
    where
      head_same : {c d : List Call} {cs ds : List (List Call)} → c ∷ cs ≡ d ∷ ds → c ≡ d
      head_same e = cc

      tail_same : {c d : List Call} {cs ds : List (List Call)} → c ∷ cs ≡ d ∷ ds → cs ≡ ds
      tail_same e = cc

  pub inlets_empty : (n : ℕ) → AreFromStart (m.plan.sinks n) → AllEnded (m.took n) → AreEmpty (m.held n)
  inlets_empty n f over = inlets_none (m.plan.sinks n) refl f (cells n).input over

-- EOS has come over the pads of live elements among some
abbrev HasCome : (ℕ → Bool) → Plan → (ℕ → List Item) → List ℕ → Type 0
HasCome live plan h seen = (p : ℕ) → IsMember (plan.owner p) seen → live (plan.owner p) ≡ true → list_ended (h p) ≡ true

-- it is in what the sink pads are given that are linked to them
ended_inputs : (live : ℕ → Bool) (plan : Plan) (h : ℕ → List Item) (seen : List ℕ) → HasCome live plan h seen
    → (sss : List (List Span)) → FromStart live plan sss → EachSourceOf (λ p. IsMember (plan.owner p) seen) sss → AllEnded (map (input_of h) sss)
ended_inputs live plan h seen come [] f near = tt
ended_inputs live plan h seen come (ss ∷ sss) f near =
    let p = f.0.0 in
    let here : IsMember (plan.owner p) seen = (subst (λ (s : List Span). EachSource (λ q. IsMember (plan.owner q) seen) s) f.0.1 near.0).0 in
    let given : input_of h ss ≡ feeds (h p) = ap (input_of h) f.0.1 ∙ link_input h p in
    let ended : list_ended (items (feeds (h p))) ≡ true = ap list_ended (items_of (h p)) ∙ come p here f.0.2 in
    (ap has_eos given ∙ ended, ended_inputs live plan h seen come sss f.1 near.1)

module _ (live joins : ℕ → Bool) (m : Moment) (cells : (n : ℕ) → CellStands m n) (uncut : (p : ℕ) → (m.plan.log p).cuts ≡ []) (left : NothingLeft m)
    (passes : (n : ℕ) → live n ≡ true → PassesEos m n) (linked : (n : ℕ) → live n ≡ true → joins n ≡ false → FromStart live m.plan (m.plan.sinks n))
    (joined : (n : ℕ) → live n ≡ true → joins n ≡ true → AllEnded (m.took n)) where
  took_ended : (seen : List ℕ) → HasCome live m.plan m.history seen → (n : ℕ) → live n ≡ true → EachSourceOf (λ p. IsMember (m.plan.owner p) seen) (m.plan.sinks n) → AllEnded (m.took n)
  took_ended seen come n alive near = by (joins n) refl
    where
      by : (b : Bool) → joins n ≡ b → AllEnded (m.took n)
      by true is = joined n alive is
      by false is = subst AllEnded (sym (split_all (left.empty n) (cells n).input)) (ended_inputs live m.plan m.history seen come (m.plan.sinks n) (linked n alive is) near)

  pad_ended : (n : ℕ) → live n ≡ true → AllEnded (m.took n) → (p : ℕ) → m.plan.owner p ≡ n → list_ended (m.history p) ≡ true
  pad_ended n alive took p own =
      let holds : owed_at m p 0 ≡ m.history p ++ m.waits p = subst (λ cs. Holds 0 0 cs (owed_at m p) (m.history p) (m.waits p)) (uncut p) ((cells n).pads p own) in
      let whole : owed_at m p 0 ≡ m.history p = holds ∙ ap (λ ys. m.history p ++ ys) (left.idle p) ∙ append-nil (m.history p) in
      ap list_ended (sym whole) ∙ subst (λ d. list_ended (m.plan.rule d (m.took d) (m.plan.port p) 0) ≡ true) (sym own) (passes n alive took p own)

  come_along : (seen es : List ℕ) → GoesForward m.plan seen es → HasCome live m.plan m.history seen → (n : ℕ) → IsMember n es → live n ≡ true → AllEnded (m.took n)
  come_along seen [] f come n is alive = absurd is
  come_along seen (d ∷ es) f come n (inl is) alive =
      subst (λ k. AllEnded (m.took k)) (sym is) (took_ended seen come d (subst (λ k. live k ≡ true) is alive) f.0)
  come_along seen (d ∷ es) f come n (inr is) alive = come_along (d ∷ seen) es f.1 more n is alive
    where
      more : HasCome live m.plan m.history (d ∷ seen)
      more p (inl own) k =
          let now : live d ≡ true = subst (λ n. live n ≡ true) own k in
          pad_ended d now (took_ended seen come d now f.0) p own
      more p (inr own) k = come p own k

  pub eos_came : (forward : List ℕ) → GoesForward m.plan [] forward → (n : ℕ) → IsMember n forward → live n ≡ true → AllEnded (m.took n)
  eos_came forward goes n is alive = come_along [] forward goes (λ p own k. absurd own) n is alive
