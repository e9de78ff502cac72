-- A tee that takes an item puts out on each of its source pads what it owes more there.
use Rattle.std.proofs.Common.{◌≡◌, ◌<◌, ◌≤◌, ◌⊎◌, ℕ, zero, suc, Bool, true, false, eqb, if◌then◌else◌, List, [], ◌∷◌, ◌++◌, map, replicate, refl, sym, ap, ◌∙◌, subst, inl, inr, append-nil, arith}
use Rattle.std.proofs.lemmas.Bool.Decides.{eqb_tells}
use Rattle.gst_item.specs.declared.flow.Flow.{Flow}
use Rattle.gst_item.specs.declared.out.Out.{Out}
use Rattle.flow_model.specs.Item.{Item, is_flush_stop}
use Rattle.flow_model.specs.Sticky.{has_flush_stop, stickies}
use Rattle.flow_model.specs.Section.{counted}
use Rattle.flow_model.specs.Call.{Call, Feed, items}
use Rattle.flow_model.specs.Rule.{Rule, owed_for, single, passes}
use Rattle.flow_model.specs.Feeding.{on_pad, passed}
use Rattle.flow_model.specs.SinkPads.{push_calls}
use Rattle.flow_model.specs.Moment.{Behavior}
use Rattle.flow_model.specs.Pad.{Grows}
use Rattle.flow_model.specs.Takes.{on_port, AreWithin, OwesMore, Takes}
use Rattle.el_basic.specs.declared.tee.Tee.{Tee}
use Rattle.el_basic.specs.Spread.{Spread, pad_count, pad_list, on_pads}
use Rattle.el_basic.proofs.Spreading.{first_list}
use Rattle.task_elements.specs.Stands.{TeeTook}
use Rattle.task_elements.proofs.Filters.{passed_none}
use Rattle.task_elements.proofs.Growing.{OwesNoStop, single_grows}

pub passes_no_stop : OwesNoStop passes
passes_no_stop fed x h = rw h refl

-- what passes owes is what counts
pub counted_owed : (calls : List Call) → counted (items calls) ≡ owed_for passes calls
unfolding stickies
counted_owed calls = first_list calls

-- of what is put out on each source pad all of it crosses each
port_append : (port : ℕ) (os ps : List Out) → on_port port (os ++ ps) ≡ on_port port os ++ on_port port ps
port_append port [] ps = refl
port_append port (o ∷ os) ps = go (eqb o.pad port) (port_append port os ps)
  where
    go : (b : Bool) → on_port port (os ++ ps) ≡ on_port port os ++ on_port port ps
        → (if b then o.item ∷ on_port port (os ++ ps) else on_port port (os ++ ps)) ≡ (if b then o.item ∷ on_port port os else on_port port os) ++ on_port port ps
    go true e = ap (λ zs. o.item ∷ zs) e
    go false e = e

on_one : (pad port : ℕ) (b : Bool) → eqb pad port ≡ b → (xs : List Item) → on_port port (on_pad pad xs) ≡ (if b then xs else [])
on_one pad port true e [] = refl
on_one pad port false e [] = refl
on_one pad port true e (x ∷ xs) = rw e (ap (λ zs. x ∷ zs) (on_one pad port true e xs))
on_one pad port false e (x ∷ xs) = rw e (on_one pad port false e xs)

none_past : (pads port : ℕ) (xs : List Item) → pads ≤ port → on_port port (on_pads pads xs) ≡ []
none_past zero port xs h = refl
none_past (suc pads) port xs h =
    port_append port (on_pads pads xs) (on_pad pads xs) ∙ ap (λ zs. zs ++ on_port port (on_pad pads xs)) (none_past pads port xs (omega (arith, h))) ∙ go (eqb_tells pads port)
  where
    go : ((eqb pads port ≡ true) × (pads ≡ port)) ⊎ ((eqb pads port ≡ false) × (pads ≡ port → ⊥)) → on_port port (on_pad pads xs) ≡ []
    go (inl t) = absurd (let e = t.1 in omega (arith, h, e))
    go (inr f) = on_one pads port false f.0 xs

pub on_each : (pads port : ℕ) (xs : List Item) → port < pads → on_port port (on_pads pads xs) ≡ xs
on_each zero port xs h = absurd (omega (arith, h))
on_each (suc pads) port xs h = port_append port (on_pads pads xs) (on_pad pads xs) ∙ go (eqb_tells pads port) (on_each pads port xs)
  where
    go : ((eqb pads port ≡ true) × (pads ≡ port)) ⊎ ((eqb pads port ≡ false) × (pads ≡ port → ⊥)) → (port < pads → on_port port (on_pads pads xs) ≡ xs)
        → on_port port (on_pads pads xs) ++ on_port port (on_pad pads xs) ≡ xs
    go (inl t) rest =
        ap (λ zs. zs ++ on_port port (on_pad pads xs)) (none_past pads port xs (let e = t.1 in omega (arith, e))) ∙ on_one pads port true t.0 xs
    go (inr f) rest =
        ap (λ zs. on_port port (on_pads pads xs) ++ zs) (on_one pads port false f.0 xs) ∙ append-nil (on_port port (on_pads pads xs)) ∙ rest (earlier f.1)
      where
        earlier : (pads ≡ port → ⊥) → port < pads
        earlier other = omega (arith, h, other)

within_append : (ports : ℕ) (os ps : List Out) → AreWithin ports os → AreWithin ports ps → AreWithin ports (os ++ ps)
within_append ports [] ps h k = k
within_append ports (o ∷ os) ps h k = (h.0, h.1, within_append ports os ps h.2 k)

one_within : (pad ports : ℕ) (xs : List Item) → pad < ports → has_flush_stop xs ≡ false → AreWithin ports (on_pad pad xs)
one_within pad ports [] w h = tt
one_within pad ports (x ∷ xs) w h = go (is_flush_stop x) refl h (one_within pad ports xs w)
  where
    go : (b : Bool) → is_flush_stop x ≡ b → (if b then true else has_flush_stop xs) ≡ false → (has_flush_stop xs ≡ false → AreWithin ports (on_pad pad xs)) → AreWithin ports (on_pad pad (x ∷ xs))
    go true e h rest = absurd (cc)
    go false e h rest = (w, e, rest h)

each_within : (pads ports : ℕ) (xs : List Item) → pads ≤ ports → has_flush_stop xs ≡ false → AreWithin ports (on_pads pads xs)
each_within zero ports xs w h = tt
each_within (suc pads) ports xs w h =
    within_append ports (on_pads pads xs) (on_pad pads xs) (each_within pads ports xs (omega (arith, w)) h) (one_within pads ports xs (omega (arith, w)) h)

-- what is owed more where there is a source pad
first_same : (a b : List Item) (cs ds : List (List Item)) → a ∷ cs ≡ b ∷ ds → a ≡ b
first_same a b cs ds e = cc

first_list_more : (pads port : ℕ) → port < pads → (fed fed' more : List Item)
    → map (λ put. put ++ more) (map (λ place. pad_list place fed) (replicate pads 0)) ≡ map (λ place. pad_list place fed') (replicate pads 0)
    → pad_list 0 fed ++ more ≡ pad_list 0 fed'
first_list_more zero port w fed fed' more e = absurd (omega (arith, w))
first_list_more (suc pads) port w fed fed' more e = first_same (pad_list 0 fed ++ more) (pad_list 0 fed') _ _ e

passes_more : (old new : Tee) (pads port : ℕ) (calls : List Call) (puts : List (List Item)) (x : Item) (more : List Item) → port < pads → Spread old (replicate pads 0) calls puts
    → Spread new (replicate pads 0) (calls ++ Feed x ∷ []) (map (λ put. put ++ more) puts) → owed_for passes (calls ++ Feed x ∷ []) ≡ owed_for passes calls ++ more
passes_more old new pads port calls puts x more w s s' =
    sym (first_list (calls ++ Feed x ∷ []))
    ∙ sym (first_list_more pads port w (items calls) (items (calls ++ Feed x ∷ [])) more (ap (map (λ put. put ++ more)) (sym s.owed) ∙ s'.owed))
    ∙ ap (λ zs. zs ++ more) (first_list calls)

module _ (old new : Tee) (x : Item) (flow : Flow) (plain : is_flush_stop x ≡ false)
    (fed : (places : List ℕ) (calls : List Call) (puts : List (List Item)) → Spread old places calls puts → Spread new places (calls ++ Feed x ∷ []) (map (λ put. put ++ passed flow x) puts))
    (pads : pad_count new ≡ pad_count old) where
  tee_stands : (behavior : Behavior) (took : List (List Call)) → TeeTook old behavior took → TeeTook new behavior (push_calls 0 (Feed x ∷ []) took)
  tee_stands behavior took t =
      record {
        calls = t.calls ++ Feed x ∷ [];
        puts = map (λ put. put ++ passed flow x) t.puts;
        behavior_is = t.behavior_is;
        took_is = ap (λ css. push_calls 0 (Feed x ∷ []) css) t.took_is;
        spread = subst (λ (n : ℕ). Spread new (replicate n 0) (t.calls ++ Feed x ∷ []) (map (λ put. put ++ passed flow x) t.puts)) (sym pads)
            (fed (replicate (pad_count old) 0) t.calls t.puts t.spread);
      }

  tee_owes : (behavior : Behavior) (took : List (List Call)) → TeeTook old behavior took
      → OwesMore (pad_count old) behavior.owes took (push_calls 0 (Feed x ∷ []) took) (on_pads (pad_count old) (passed flow x))
  tee_owes behavior took t =
      subst (λ (r : Rule). OwesMore (pad_count old) r took (push_calls 0 (Feed x ∷ []) took) outs) (sym (ap (λ (b : Behavior). b.owes) t.behavior_is))
      (subst (λ (css : List (List Call)). OwesMore (pad_count old) (single passes) css (push_calls 0 (Feed x ∷ []) css) outs) (sym t.took_is) all)
    where
      outs : List Out
      outs = on_pads (pad_count old) (passed flow x)

      all : OwesMore (pad_count old) (single passes) (t.calls ∷ []) ((t.calls ++ Feed x ∷ []) ∷ []) (on_pads (pad_count old) (passed flow x))
      all cuts inside port within =
          subst (λ (ys : List Item). Grows 0 cuts (single passes (t.calls ∷ []) port) (single passes ((t.calls ++ Feed x ∷ []) ∷ []) port) ys)
          (sym (on_each (pad_count old) port (passed flow x) within))
          (single_grows passes passes_no_stop cuts t.calls x (passed flow x) inside.0 (passed_none flow x plain)
          (passes_more old new (pad_count old) port t.calls t.puts x (passed flow x) within t.spread (fed (replicate (pad_count old) 0) t.calls t.puts t.spread)) port)

  pub tee_takes : (out out' : List Out) → out' ≡ out ++ on_pads (pad_count old) (passed flow x) → Takes (TeeTook old) (TeeTook new) (pad_count old) 0 x out out'
  tee_takes out out' appended =
      record {
        more = on_pads (pad_count old) (passed flow x);
        appended = appended;
        within = each_within (pad_count old) (pad_count old) (passed flow x) (omega arith) (passed_none flow x plain);
        stands_now = tee_stands;
        owes = tee_owes;
      }
