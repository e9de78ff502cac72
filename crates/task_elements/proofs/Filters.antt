-- A filter that takes an item puts out what it owes more.
use Rattle.std.proofs.Common.{◌≡◌, zero, suc, Bool, false, List, [], ◌∷◌, ◌++◌, refl, sym, ap, ◌∙◌, subst, arith, Result, Ok, Err, IfOk, OnErr}
use Rattle.std.proofs.lemmas.List.{append_cancel_left}
use Rattle.std.proofs.Math.Logic.{∥∥₁_elim, ∥∥₁_map}
use Rattle.std.proofs.Props.{props}
use Rattle.gst_item.specs.declared.out.Out.{Out}
use Rattle.gst_item.specs.declared.flow.Flow.{Flow}
use Rattle.gst_item.specs.declared.flow.Flow.TheVariants.{Ok as Taken, NotLinked, Flushing, Eos as BehindEos, NotNegotiated, Error, NotSupported}
use Rattle.flow_model.specs.declared.fault.ElementFault.{ElementFault}
use Rattle.flow_model.specs.Item.{Item, is_flush_stop}
use Rattle.flow_model.specs.Sticky.{has_flush_stop}
use Rattle.flow_model.specs.Call.{Call, Feed}
use Rattle.flow_model.specs.Rule.{Rule, Response, owed_for, single, passes}
use Rattle.flow_model.specs.Feeding.{on_pad, next_owed, passed, flow_behind, IsFaultOf}
use Rattle.flow_model.specs.Moment.{Behavior}
use Rattle.flow_model.specs.Pad.{Grows}
use Rattle.flow_model.specs.SinkPads.{push_calls}
use Rattle.flow_model.specs.Takes.{on_port, OwesMore, Takes}
use Rattle.flow_model.specs.Refuses.{RefusesBy}
use Rattle.flow_model.specs.declared.refusal.Refusal.TheVariants.{Fault}
use Rattle.el_basic.specs.declared.identity.Identity.{Identity}
use Rattle.el_basic.specs.Passed.{Passed}
use Rattle.el_set.specs.declared.filter.FilterElement.{FilterElement}
use Rattle.el_set.specs.Stands.{Stands, StandsAs, PutsOut}
use Rattle.el_set.proofs.Elements.{elements_owe, identity_feeds}
use Rattle.task_elements.specs.Ruled.{IsRuled}
use Rattle.task_elements.specs.Stands.{FilterTook, behaves, passing}
use Rattle.el_set.proofs.EachEnding.{is_ending}
use Rattle.task_elements.proofs.Plain.{ending_quiet}
use Rattle.task_elements.proofs.Growing.{OwesNoStop, single_grows, next_none, all_on_port, all_within}

-- an equation of truth values has one proof
pub known : (b c : Bool) → IsProp (b ≡ c)
known b c = hlevel props

owes_no_stop : (respond : Response) (element : FilterElement) (calls : List Call) (put : List Item) → Stands respond element calls put → OwesNoStop respond
owes_no_stop respond element calls put s = ending_quiet respond (is_ending respond element calls put s)

-- a filter that stands for some rule puts out no FLUSH_STOP
pub put_none : (old new : FilterElement) (x : Item) (out out' : List Out) → ∥ IsRuled old ∥₁ → is_flush_stop x ≡ false → (p : PutsOut old new (Feed x) out out') → has_flush_stop p.more ≡ false
put_none old new x out out' ruled h p =
    ∥∥₁_elim ruled (known (has_flush_stop p.more) false)
    (λ s. next_none s.respond (owes_no_stop s.respond old s.calls s.put s.stands) s.calls x p.more h (p.owed s.respond s.calls s.put s.stands))

-- and it stands for that rule behind a call
with_call : (old new : FilterElement) (call : Call) (out out' : List Out) → PutsOut old new call out out' → IsRuled old → IsRuled new
with_call old new call out out' p s =
    record { respond = s.respond; calls = s.calls ++ call ∷ []; put = s.put ++ p.more; stands = p.stands s.respond s.calls s.put s.stands }

pub ruled_still : (old new : FilterElement) (call : Call) (out out' : List Out) (r : Result Flow ElementFault) → ∥ IsRuled old ∥₁ → IfOk r (λ flow. PutsOut old new call out out')
    → OnErr r (StandsAs old new) → ∥ IsRuled new ∥₁
ruled_still old new call out out' (Ok flow) ruled put stays = ∥∥₁_map ruled (with_call old new call out out' put)
ruled_still old new call out out' (Err fault) ruled put stays =
    ∥∥₁_map ruled (λ s. record { respond = s.respond; calls = s.calls; put = s.put; stands = stays s.respond s.calls s.put s.stands })

-- what is owed more, whatever rule it is and whatever list was taken
grown : (rule : Rule) (respond : Response) (took : List (List Call)) (calls : List Call) (x : Item) (more : List Item) → rule ≡ single respond → took ≡ calls ∷ [] → OwesNoStop respond
    → has_flush_stop more ≡ false → owed_for respond (calls ++ Feed x ∷ []) ≡ owed_for respond calls ++ more
    → OwesMore 1 rule took (push_calls 0 (Feed x ∷ []) took) (on_pad 0 more)
grown rule respond took calls x more is one none h e =
    subst (λ (r : Rule). OwesMore 1 r took (push_calls 0 (Feed x ∷ []) took) (on_pad 0 more)) (sym is)
    (subst (λ (t : List (List Call)). OwesMore 1 (single respond) t (push_calls 0 (Feed x ∷ []) t) (on_pad 0 more)) (sym one) all)
  where
    all : OwesMore 1 (single respond) (calls ∷ []) ((calls ++ Feed x ∷ []) ∷ []) (on_pad 0 more)
    all cuts inside zero within =
        subst (λ (ys : List Item). Grows 0 cuts (single respond (calls ∷ []) 0) (single respond ((calls ++ Feed x ∷ []) ∷ []) 0) ys) (sym (all_on_port more))
        (single_grows respond none cuts calls x more inside.0 h e 0)
    all cuts inside (suc port) within = absurd (omega (arith, within))

-- it stands for one item more
took_more : (old new : FilterElement) (x : Item) (out out' : List Out) → PutsOut old new (Feed x) out out' → (behavior : Behavior) (took : List (List Call)) → FilterTook old behavior took
    → FilterTook new behavior (push_calls 0 (Feed x ∷ []) took)
took_more old new x out out' p behavior took t =
    record {
      respond = t.respond;
      calls = t.calls ++ Feed x ∷ [];
      put = t.put ++ p.more;
      behavior_is = t.behavior_is;
      took_is = ap (λ css. push_calls 0 (Feed x ∷ []) css) t.took_is;
      stands = p.stands t.respond t.calls t.put t.stands;
    }

pub filter_takes : (old new : FilterElement) (x : Item) (out out' : List Out) (p : PutsOut old new (Feed x) out out') → has_flush_stop p.more ≡ false
    → Takes (FilterTook old) (FilterTook new) 1 0 x out out'
filter_takes old new x out out' p h =
    record {
      more = on_pad 0 p.more;
      appended = p.outs;
      within = all_within p.more h;
      stands_now = took_more old new x out out' p;
      owes = λ behavior took t.
          grown behavior.owes t.respond took t.calls x p.more (ap (λ (b : Behavior). b.owes) t.behavior_is) t.took_is (owes_no_stop t.respond old t.calls t.put t.stands) h
          (sym (elements_owe t.respond new (t.calls ++ Feed x ∷ []) (t.put ++ p.more) (p.stands t.respond t.calls t.put t.stands))
          ∙ ap (λ ys. ys ++ p.more) (elements_owe t.respond old t.calls t.put t.stands));
    }

-- what it puts out is known where the list of all that was put out is
pub more_is : (old new : FilterElement) (x : Item) (out out' : List Out) (more : List Item) (p : PutsOut old new (Feed x) out out') → out' ≡ out ++ on_pad 0 more → p.more ≡ more
more_is old new x out out' more p e =
    let same : on_pad 0 p.more ≡ on_pad 0 more = append_cancel_left out (on_pad 0 p.more) (on_pad 0 more) (sym p.outs ∙ e) in
    sym (all_on_port p.more) ∙ ap (on_port 0) same ∙ all_on_port more

-- a queue puts out the item, or nothing behind EOS
pub passed_none : (flow : Flow) (x : Item) → is_flush_stop x ≡ false → has_flush_stop (passed flow x) ≡ false
passed_none Taken x h = rw h refl
passed_none NotLinked x h = refl
passed_none Flushing x h = refl
passed_none BehindEos x h = refl
passed_none NotNegotiated x h = refl
passed_none Error x h = refl
passed_none NotSupported x h = refl

pub queue_takes : (old new : Identity) (x : Item) (flow : Flow) (out out' : List Out) → is_flush_stop x ≡ false → out' ≡ out ++ on_pad 0 (passed flow x)
    → ((calls : List Call) (put : List Item) → Passed old calls put → Passed new (calls ++ Feed x ∷ []) (put ++ passed flow x))
    → ((calls : List Call) (put : List Item) → Passed old calls put → flow ≡ flow_behind calls) → Takes (FilterTook (passing old)) (FilterTook (passing new)) 1 0 x out out'
queue_takes old new x flow out out' h outs fed answer =
    let put : PutsOut (passing old) (passing new) (Feed x) out out' = identity_feeds (Ok flow) (passing old) old new x out out' refl h outs fed answer in
    filter_takes (passing old) (passing new) x out out' put
    (ap has_flush_stop (more_is (passing old) (passing new) x out out' (passed flow x) put outs) ∙ passed_none flow x h)

-- it refuses an item for its fault
pub refuses_by : (old : FilterElement) (x : Item) (fault : ElementFault)
    → ((respond : Response) (calls : List Call) (put : List Item) → Stands respond old calls put → IsFaultOf (next_owed respond calls x) fault)
    → (behavior : Behavior) (took : List (List Call)) → FilterTook old behavior took → RefusesBy behavior took 0 x (Fault fault)
refuses_by old x fault faults behavior took t =
    subst (λ (b : Behavior). RefusesBy b took 0 x (Fault fault)) (sym t.behavior_is)
    (subst (λ (css : List (List Call)). RefusesBy (behaves t.respond) css 0 x (Fault fault)) (sym t.took_is) (faults t.respond t.calls t.put t.stands))

pub queue_refuses : (old : Identity) (x : Item) (fault : ElementFault)
    → ((calls : List Call) (put : List Item) → Passed old calls put → IsFaultOf (next_owed passes calls x) fault)
    → (behavior : Behavior) (took : List (List Call)) → FilterTook (passing old) behavior took → RefusesBy behavior took 0 x (Fault fault)
queue_refuses old x fault faults =
    refuses_by (passing old) x fault
    (λ respond calls put s. subst (λ (r : Response). IsFaultOf (next_owed r calls x) fault) (sym s.0) (faults calls put s.1))
