-- Plans that differ in the owners and the counts of numbers that are no pads, and in the rules of elements without pads.
use Rattle.std.proofs.Common.{◌≡◌, ◌⊎◌, ℕ, Bool, true, false, eqb, if◌then◌else◌, List, [], ◌∷◌, refl, sym, ap, ◌∙◌, subst, inl, inr}
use Rattle.std.proofs.lemmas.Bool.Decides.{eqb_tells}
use Rattle.flow_model.specs.Item.{Item}
use Rattle.flow_model.specs.Rule.{Rule}
use Rattle.flow_model.specs.Link.{Span, Linked, WasLinked, Flushed, Given}
use Rattle.flow_model.specs.Eval.{Plan, PadLog, cut_at, crossed, inputs, with_element, eval_over, with_whole, whole_over}
use Rattle.flow_model.specs.Account.{EachSource, EachSourceOf, GoesForward, IsMember}
use Rattle.flow_model.proofs.Whole.{inputs_same, all_sources_weaker}

-- the plan with other owners, rules and logs
abbrev pub owned : (ℕ → ℕ) → (ℕ → Rule) → (ℕ → PadLog) → Plan → Plan
owned owner rule log plan = record plan { owner = owner; rule = rule; log = log }

both_sources : (P Q : ℕ → Type 0) (ss : List Span) → EachSource P ss → EachSource Q ss → EachSource (λ p. P p × Q p) ss
both_sources P Q [] a b = tt
both_sources P Q (Linked source from marks ∷ ss) a b = ((a.0, b.0), both_sources P Q ss a.1 b.1)
both_sources P Q (WasLinked source from to eos marks ∷ ss) a b = ((a.0, b.0), both_sources P Q ss a.1 b.1)
both_sources P Q (Flushed number ∷ ss) a b = both_sources P Q ss a b
both_sources P Q (Given calls ∷ ss) a b = both_sources P Q ss a b

all_both_sources : (P Q : ℕ → Type 0) (sss : List (List Span)) → EachSourceOf P sss → EachSourceOf Q sss → EachSourceOf (λ p. P p × Q p) sss
all_both_sources P Q [] a b = tt
all_both_sources P Q (ss ∷ sss) a b = (both_sources P Q ss a.0 b.0, all_both_sources P Q sss a.1 b.1)

-- links come from pads
abbrev pub FromPads : (ℕ → Type 0) → Plan → Type 0
FromPads IsPad plan = (e : ℕ) → EachSourceOf IsPad (plan.sinks e)

-- at pads the owners are the same
abbrev pub OwnersAlike : (ℕ → Type 0) → (ℕ → ℕ) → Plan → Type 0
OwnersAlike IsPad owner plan = (p : ℕ) → IsPad p → owner p ≡ plan.owner p

-- and the rules of their owners
abbrev pub RulesAlike : (ℕ → Type 0) → (ℕ → Rule) → Plan → Type 0
RulesAlike IsPad rule plan = (p : ℕ) → IsPad p → rule (plan.owner p) ≡ plan.rule (plan.owner p)

pub goes_owned : (IsPad : ℕ → Type 0) (owner : ℕ → ℕ) (rule : ℕ → Rule) (log : ℕ → PadLog) (plan : Plan) → FromPads IsPad plan → OwnersAlike IsPad owner plan
    → (seen es : List ℕ) → GoesForward plan seen es → GoesForward (owned owner rule log plan) seen es
goes_owned IsPad owner rule log plan from same seen [] g = tt
goes_owned IsPad owner rule log plan from same seen (e ∷ es) g = (
  all_sources_weaker (λ p. IsPad p × IsMember (plan.owner p) seen) (λ p. IsMember (owner p) seen) (λ p both. subst (λ n. IsMember n seen) (sym (same p both.0)) both.1) (plan.sinks e)
      (all_both_sources IsPad (λ p. IsMember (plan.owner p) seen) (plan.sinks e) (from e) g.0),
  goes_owned IsPad owner rule log plan from same (e ∷ seen) es g.1,
)

module _ (IsPad : ℕ → Type 0) (owner : ℕ → ℕ) (rule : ℕ → Rule) (log : ℕ → PadLog) (plan : Plan) (from : FromPads IsPad plan) (same : OwnersAlike IsPad owner plan)
    (rules : RulesAlike IsPad rule plan) where
  -- histories that are the same at pads
  abbrev Alike : (ℕ → List Item) → (ℕ → List Item) → Type 0
  Alike h k = (p : ℕ) → IsPad p → h p ≡ k p

  inputs_alike : (h k : ℕ → List Item) → Alike h k → (e : ℕ) → inputs plan h e ≡ inputs plan k e
  inputs_alike h k a e = inputs_same h k (plan.sinks e) (all_sources_weaker IsPad (λ p. h p ≡ k p) a (plan.sinks e) (from e))

  -- the rule of the owner of a pad
  rule_alike : {A : Type 0} (f : Rule → A) (other : A) (e p : ℕ) → IsPad p → (if eqb (plan.owner p) e then f (rule e) else other) ≡ (if eqb (plan.owner p) e then f (plan.rule e) else other)
  rule_alike {A} f other e p pad = go (eqb_tells (plan.owner p) e)
    where
      go : ((eqb (plan.owner p) e ≡ true) × (plan.owner p ≡ e)) ⊎ ((eqb (plan.owner p) e ≡ false) × (plan.owner p ≡ e → ⊥))
          → (if eqb (plan.owner p) e then f (rule e) else other) ≡ (if eqb (plan.owner p) e then f (plan.rule e) else other)
      go (inl t) = rw t.0 (ap f (subst (λ (n : ℕ). rule n ≡ plan.rule n) t.1 (rules p pad)))
      go (inr t) = rw t.0 refl

  element_alike : ((p : ℕ) → IsPad p → log p ≡ plan.log p) → (h k : ℕ → List Item) → Alike h k → (e : ℕ) → Alike (with_element (owned owner rule log plan) e h) (with_element plan e k)
  element_alike logs h k a e p pad =
      ap (λ n. if eqb n e then crossed (log p) (rule e (inputs plan h e) (plan.port p)) else h p) (same p pad)
      ∙ rule_alike (λ r. crossed (log p) (r (inputs plan h e) (plan.port p))) (h p) e p pad
      ∙ ap (λ l. if eqb (plan.owner p) e then crossed l (plan.rule e (inputs plan h e) (plan.port p)) else h p) (logs p pad)
      ∙ ap (λ zs. if eqb (plan.owner p) e then crossed (plan.log p) (plan.rule e zs (plan.port p)) else h p) (inputs_alike h k a e)
      ∙ ap (λ zs. if eqb (plan.owner p) e then crossed (plan.log p) (plan.rule e (inputs plan k e) (plan.port p)) else zs) (a p pad)

  pub eval_alike : ((p : ℕ) → IsPad p → log p ≡ plan.log p) → (es : List ℕ) (h k : ℕ → List Item) → Alike h k → Alike (eval_over (owned owner rule log plan) es h) (eval_over plan es k)
  eval_alike logs [] h k a = a
  eval_alike logs (e ∷ es) h k a = eval_alike logs es (with_element (owned owner rule log plan) e h) (with_element plan e k) (element_alike logs h k a e)

  whole_element_alike : ((p : ℕ) → IsPad p → (log p).cuts ≡ (plan.log p).cuts) → (h k : ℕ → List Item) → Alike h k → (e : ℕ)
      → Alike (with_whole (owned owner rule log plan) e h) (with_whole plan e k)
  whole_element_alike cuts h k a e p pad =
      ap (λ n. if eqb n e then cut_at 0 0 (log p).cuts (rule e (inputs plan h e) (plan.port p)) else h p) (same p pad)
      ∙ rule_alike (λ r. cut_at 0 0 (log p).cuts (r (inputs plan h e) (plan.port p))) (h p) e p pad
      ∙ ap (λ c. if eqb (plan.owner p) e then cut_at 0 0 c (plan.rule e (inputs plan h e) (plan.port p)) else h p) (cuts p pad)
      ∙ ap (λ zs. if eqb (plan.owner p) e then cut_at 0 0 (plan.log p).cuts (plan.rule e zs (plan.port p)) else h p) (inputs_alike h k a e)
      ∙ ap (λ zs. if eqb (plan.owner p) e then cut_at 0 0 (plan.log p).cuts (plan.rule e (inputs plan k e) (plan.port p)) else zs) (a p pad)

  pub whole_alike : ((p : ℕ) → IsPad p → (log p).cuts ≡ (plan.log p).cuts) → (es : List ℕ) (h k : ℕ → List Item) → Alike h k
      → Alike (whole_over (owned owner rule log plan) es h) (whole_over plan es k)
  whole_alike cuts [] h k a = a
  whole_alike cuts (e ∷ es) h k a = whole_alike cuts es (with_whole (owned owner rule log plan) e h) (with_whole plan e k) (whole_element_alike cuts h k a e)

-- a number of which nothing is counted has no history
pub uncounted : (plan : Plan) (p : ℕ) → (plan.log p).count ≡ 0 → (plan.log p).cuts ≡ [] → (es : List ℕ) (h : ℕ → List Item) → h p ≡ [] → eval_over plan es h p ≡ []
uncounted plan p none uncut [] h empty = empty
uncounted plan p none uncut (e ∷ es) h empty = uncounted plan p none uncut es (with_element plan e h) (here (eqb (plan.owner p) e))
  where
    here : (b : Bool) → (if b then crossed (plan.log p) (plan.rule e (inputs plan h e) (plan.port p)) else h p) ≡ []
    here true = rw none refl
    here false = empty
