-- An element with several sink pads that takes an item puts out what it owes more.
use Rattle.std.proofs.Common.{◌≡◌, ◌<◌, ℕ, zero, suc, ◌+◌, true, false, List, [], ◌∷◌, ◌++◌, length, Some, sym, ap, ◌∙◌, subst, arith, Result, Ok, Err, OnOk, OnErr}
use Rattle.std.proofs.Math.Logic.{∥∥₁_elim, ∥∥₁_map}
use Rattle.gst_item.specs.declared.flow.Flow.{Flow}
use Rattle.gst_item.specs.declared.out.Out.{Out}
use Rattle.flow_model.specs.declared.fault.ElementFault.{ElementFault}
use Rattle.flow_model.specs.Item.{Item, is_flush_stop}
use Rattle.flow_model.specs.Call.{Call, Feed}
use Rattle.flow_model.specs.Rule.{Owed, Rule, Answers}
use Rattle.flow_model.specs.Feeding.{on_pad}
use Rattle.flow_model.specs.SinkPads.{push_calls}
use Rattle.flow_model.specs.Moment.{Behavior}
use Rattle.flow_model.specs.Pad.{Grows}
use Rattle.flow_model.specs.Takes.{OwesMore, Takes}
use Rattle.el_set.specs.declared.join.JoinElement.{JoinElement}
use Rattle.el_set.specs.Joins.{JoinPuts, JoinStands, OpenGrows, join_answers, join_pads, join_rule, join_wanted, may_take}
use Rattle.el_set.proofs.JoinRules.{joins_grow, joins_have_pads, joins_want_in_order}
use Rattle.task_elements.specs.Ruled.{IsJoined}
use Rattle.task_elements.specs.Stands.{JoinTook, joins}
use Rattle.task_elements.proofs.Filters.{known}
use Rattle.task_elements.proofs.Growing.{all_on_port, all_within}

-- from sections to a pad with its cuts
grows_of : (j : ℕ) (cuts : List (ℕ × ℕ)) (owed owed' : Owed) (more : List Item) → ((i : ℕ) → i < j + length cuts → owed' i ≡ owed i)
    → owed' (j + length cuts) ≡ owed (j + length cuts) ++ more → Grows j cuts owed owed' more
grows_of j [] owed owed' more over now =
    let same : j + 0 ≡ j = omega arith in subst (λ (i : ℕ). owed' i ≡ owed i ++ more) same now
grows_of j (c ∷ cuts) owed owed' more over now =
    let same : j + suc (length cuts) ≡ suc j + length cuts = omega arith in
    (over j (omega arith), grows_of (suc j) cuts owed owed' more (λ i below. over i (omega (arith, below))) (subst (λ (i : ℕ). owed' i ≡ owed i ++ more) same now))

join_owes : (join : JoinElement) (pad : ℕ) (x : Item) (more : List Item) (took : List (List Call)) (put : List Item) → JoinStands join took put → pad < join_pads join
    → is_flush_stop x ≡ false → join_answers join took pad x ≡ Ok more → OwesMore 1 (join_rule join) took (push_calls pad (Feed x ∷ []) took) (on_pad 0 more)
join_owes join pad x more took put s within plain answer cuts inside zero few =
    let count = joins_have_pads join took put s in
    let g : OpenGrows (join_rule join) took (push_calls pad (Feed x ∷ []) took) (length cuts) more =
    joins_grow join pad x more took put (length cuts) s (omega (arith, within, count)) plain inside answer in
    let same : length cuts ≡ 0 + length cuts = omega arith in
    subst (λ (ys : List Item). Grows 0 cuts (join_rule join took 0) (join_rule join (push_calls pad (Feed x ∷ []) took) 0) ys) (sym (all_on_port more))
    (grows_of 0 cuts (join_rule join took 0) (join_rule join (push_calls pad (Feed x ∷ []) took) 0) more (λ i below. g.over 0 i (omega (arith, below)))
    (subst (λ (i : ℕ). join_rule join (push_calls pad (Feed x ∷ []) took) 0 i ≡ join_rule join took 0 i ++ more) same (g.now 0)))
join_owes join pad x more took put s within plain answer cuts inside (suc port) few = absurd (omega (arith, few))

-- it does what it did
same_joins : (old new : JoinElement) → join_rule new ≡ join_rule old → join_answers new ≡ join_answers old → joins old ≡ joins new
same_joins old new rule answers =
    ap (λ (r : Rule). let b : Behavior = record { owes = r; answers = join_answers old } in b) (sym rule)
    ∙ ap (λ (a : Answers). let b : Behavior = record { owes = join_rule new; answers = a } in b) (sym answers)

pub join_takes : (old new : JoinElement) (pad : ℕ) (x : Item) (out out' : List Out) → is_flush_stop x ≡ false → pad < join_pads old → JoinPuts old new pad x out out'
    → Takes (JoinTook old) (JoinTook new) 1 pad x out out'
join_takes old new pad x out out' plain within p =
    record {
      more = on_pad 0 p.more;
      appended = p.outs;
      within = all_within p.more p.free;
      stands_now = λ behavior took t.
          record { put = t.put ++ p.more; behavior_is = t.behavior_is ∙ same_joins old new p.rule p.answers; stands = p.stands took t.put t.stands };
      owes = λ behavior took t.
          subst (λ (r : Rule). OwesMore 1 r took (push_calls pad (Feed x ∷ []) took) (on_pad 0 p.more)) (sym (ap (λ (b : Behavior). b.owes) t.behavior_is))
          (join_owes old pad x p.more took t.put t.stands within plain (p.owed took t.put t.stands));
    }

-- it stands for some lists still
with_item : (old new : JoinElement) (pad : ℕ) (x : Item) (out out' : List Out) → JoinPuts old new pad x out out' → IsJoined old → IsJoined new
with_item old new pad x out out' p s =
    record { took = push_calls pad (Feed x ∷ []) s.took; put = s.put ++ p.more; stands = p.stands s.took s.put s.stands }

pub joined_still : (old new : JoinElement) (pad : ℕ) (x : Item) (out out' : List Out) (r : Result Flow ElementFault) → ∥ IsJoined old ∥₁ → OnOk r (JoinPuts old new pad x out out')
    → OnErr r ((new ≡ old) × (out' ≡ out)) → ∥ IsJoined new ∥₁
joined_still old new pad x out out' (Ok flow) joined puts stays = ∥∥₁_map joined (with_item old new pad x out out' puts)
joined_still old new pad x out out' (Err fault) joined puts stays = subst (λ (join : JoinElement). ∥ IsJoined join ∥₁) (sym stays.0) joined

-- so it may take an item on the pad that it wants
pub wanted_is : (join : JoinElement) (wanted pad : ℕ) → Some wanted ≡ join_wanted join → wanted ≡ pad → join_wanted join ≡ Some pad
wanted_is join wanted pad e same = sym e ∙ ap (λ (n : ℕ). Some n) same

pub may_take_wanted : (join : JoinElement) (pad : ℕ) → ∥ IsJoined join ∥₁ → join_wanted join ≡ Some pad → may_take pad join ≡ true
may_take_wanted join pad joined e =
    ∥∥₁_elim joined (known (may_take pad join) true) (λ s. joins_want_in_order join s.took s.put pad s.stands e)
