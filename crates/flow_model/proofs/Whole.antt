-- From the parts to the whole.
use Rattle.std.proofs.Common.{◌≡◌, ◌⊎◌, ℕ, suc, ◌-◌, true, false, eqb, List, [], ◌∷◌, ◌++◌, take, map, refl, sym, ap, ◌∙◌, inl, inr}
use Rattle.std.proofs.lemmas.Bool.Decides.{eqb_tells}
use Rattle.flow_model.specs.Item.{Item, Ev, FlushStop}
use Rattle.flow_model.specs.Prefix.{IsPrefix, next}
use Rattle.flow_model.specs.Call.{Feed}
use Rattle.flow_model.specs.Rule.{Owed}
use Rattle.flow_model.specs.Link.{Span, Linked, WasLinked, Flushed, Given, input_of}
use Rattle.flow_model.specs.Eval.{PadLog, Plan, cut_at, crossed, inputs, with_element, eval_over, eval}
use Rattle.flow_model.specs.Account.{CutsWithin, PadAccount, Agrees, IsMember, EachSource, EachSourceOf, GoesForward, Each}
use Rattle.flow_model.proofs.Prefixes.{append_prefix, take_prefix}

-- with the cuts within what is owed, a beginning of what is owed gives a beginning
pub cut_at_prefix : (base j : ℕ) (cs : List (ℕ × ℕ)) (w w' : Owed) → ((i : ℕ) → IsPrefix (w i) (w' i)) → CutsWithin base j cs w → IsPrefix (cut_at base j cs w) (cut_at base j cs w')
cut_at_prefix base j [] w w' p h = p j
cut_at_prefix base j (c ∷ cs) w w' p h =
    rw (take_prefix (c.1 - base) (p j) h.0)
    (append_prefix (take (c.1 - base) (w' j)) (next (cut_at_prefix (suc c.1) (suc j) cs w w' p h.1)))

-- a pad's history is also what is owed in the whole, up to its cuts and its count
pub account_whole : (log : PadLog) (w w' : Owed) (h : List Item) → ((i : ℕ) → IsPrefix (w i) (w' i)) → PadAccount log w h → h ≡ crossed log w'
account_whole log w w' h p a = a.is ∙ take_prefix log.count (cut_at_prefix 0 0 log.cuts w w' p a.cuts) a.count

pub input_same : (m h : ℕ → List Item) (ss : List Span) → EachSource (λ p. m p ≡ h p) ss → input_of m ss ≡ input_of h ss
input_same m h [] e = refl
input_same m h (Linked source from marks ∷ ss) e = rw (e.0, input_same m h ss e.1) refl
input_same m h (WasLinked source from to eos marks ∷ ss) e = rw (e.0, input_same m h ss e.1) refl
input_same m h (Flushed number ∷ ss) e = ap (λ zs. Feed (Ev (FlushStop number)) ∷ zs) (input_same m h ss e)
input_same m h (Given calls ∷ ss) e = ap (λ zs. calls ++ zs) (input_same m h ss e)

pub inputs_same : (m h : ℕ → List Item) (ss : List (List Span)) → EachSourceOf (λ p. m p ≡ h p) ss → map (input_of m) ss ≡ map (input_of h) ss
inputs_same m h [] e = refl
inputs_same m h (s ∷ ss) e = rw (input_same m h s e.0, inputs_same m h ss e.1) refl

pub sources_weaker : (P Q : ℕ → Type 0) → ((p : ℕ) → P p → Q p) → (ss : List Span) → EachSource P ss → EachSource Q ss
sources_weaker P Q f [] e = tt
sources_weaker P Q f (Linked source from marks ∷ ss) e = (f source e.0, sources_weaker P Q f ss e.1)
sources_weaker P Q f (WasLinked source from to eos marks ∷ ss) e = (f source e.0, sources_weaker P Q f ss e.1)
sources_weaker P Q f (Flushed number ∷ ss) e = sources_weaker P Q f ss e
sources_weaker P Q f (Given calls ∷ ss) e = sources_weaker P Q f ss e

pub all_sources_weaker : (P Q : ℕ → Type 0) → ((p : ℕ) → P p → Q p) → (ss : List (List Span)) → EachSourceOf P ss → EachSourceOf Q ss
all_sources_weaker P Q f [] e = tt
all_sources_weaker P Q f (s ∷ ss) e = (sources_weaker P Q f s e.0, all_sources_weaker P Q f ss e.1)

-- an element that agrees gets its given lists
pub element_same : (plan : Plan) (m h : ℕ → List Item) (e : ℕ) → Agrees plan h e → inputs plan m e ≡ inputs plan h e → (p : ℕ) → plan.owner p ≡ e → crossed (plan.log p) (plan.rule e (inputs plan m e) (plan.port p)) ≡ h p
element_same plan m h e a same p o =
    rw same
    (sym (account_whole (plan.log p) (plan.rule e a.fed (plan.port p)) (plan.rule e (inputs plan h e) (plan.port p)) (h p) (a.begins p o) (a.accounts p o)))

pub step_same : (plan : Plan) (m h : ℕ → List Item) (e : ℕ) (seen : List ℕ) → Agrees plan h e → inputs plan m e ≡ inputs plan h e
    → ((p : ℕ) → IsMember (plan.owner p) seen → m p ≡ h p)
    → (p : ℕ) → IsMember (plan.owner p) (e ∷ seen) → with_element plan e m p ≡ h p
step_same plan m h e seen a same so_far p member = go (eqb_tells (plan.owner p) e) member
  where
    go : ((eqb (plan.owner p) e ≡ true) × (plan.owner p ≡ e)) ⊎ ((eqb (plan.owner p) e ≡ false) × (plan.owner p ≡ e → ⊥)) → IsMember (plan.owner p) (e ∷ seen) → with_element plan e m p ≡ h p
    go (inl t) member = rw t.0 (element_same plan m h e a same p t.1)
    go (inr t) (inl o) = absurd (t.1 o)
    go (inr t) (inr s) = rw t.0 (so_far p s)

pub eval_same : (plan : Plan) (h : ℕ → List Item) (seen es : List ℕ) (m : ℕ → List Item) → GoesForward plan seen es → Each (Agrees plan h) es
    → ((p : ℕ) → IsMember (plan.owner p) seen → m p ≡ h p)
    → (p : ℕ) → (IsMember (plan.owner p) seen ⊎ IsMember (plan.owner p) es) → eval_over plan es m p ≡ h p
eval_same plan h seen [] m f a so_far p (inl s) = so_far p s
eval_same plan h seen [] m f a so_far p (inr s) = absurd s
eval_same plan h seen (e ∷ es) m f a so_far p member =
    eval_same plan h (e ∷ seen) es (with_element plan e m) f.1 a.1
    (step_same plan m h e seen a.0 (inputs_same m h (plan.sinks e) (all_sources_weaker _ _ so_far (plan.sinks e) f.0)) so_far) p (turn member)
  where
    turn : (IsMember (plan.owner p) seen ⊎ IsMember (plan.owner p) (e ∷ es)) → (IsMember (plan.owner p) (e ∷ seen) ⊎ IsMember (plan.owner p) es)
    turn (inl s) = inl (inr s)
    turn (inr (inl o)) = inl (inl o)
    turn (inr (inr s)) = inr s

-- Lists that agree at each element are the histories of the evaluation.
pub parts_to_whole : (plan : Plan) (h : ℕ → List Item) → GoesForward plan [] plan.forward → Each (Agrees plan h) plan.forward
    → (p : ℕ) → IsMember (plan.owner p) plan.forward → eval plan p ≡ h p
parts_to_whole plan h f a p member = eval_same plan h [] plan.forward (λ q. []) f a (λ q s. absurd s) p (inr member)
