-- The elements between one sink pad and one source pad, kind by kind.
use Rattle.std.proofs.Common.{◌≡◌, ◌⊎◌, ℕ, Bool, true, false, List, [], ◌∷◌, ◌++◌, length, refl, sym, ap, ◌∙◌, inl, inr, append-nil, Result, Ok, Err, IfOk, IfErr, OnOk, arith}
use Rattle.std.proofs.lemmas.List.{append_cancel_left, length_push}
use Rattle.gst_caps.specs.declared.caps.Caps.{Caps}
use Rattle.gst_item.specs.declared.flow.Flow.{Flow}
use Rattle.gst_item.specs.declared.flow.Flow.TheVariants.{Ok as Taken, Eos as BehindEos}
use Rattle.gst_item.specs.declared.out.Out.{Out}
use Rattle.flow_model.specs.declared.fault.ElementFault.{ElementFault}
use Rattle.flow_model.specs.Item.{Item, is_flush_stop, eos_among}
use Rattle.flow_model.specs.Sticky.{has_flush_stop, in_force}
use Rattle.flow_model.specs.Section.{section, counted, IsPlain}
use Rattle.flow_model.specs.Call.{Call, Feed, Act, Drain, items, feeds}
use Rattle.flow_model.specs.Rule.{Response, Fault, Fed, unfed, all_called, owed_for, passes}
use Rattle.flow_model.specs.Feeding.{has_eos, flow_behind, passed, on_pad, next_owed, IsFaultOf}
use Rattle.flow_model.proofs.Sections.{called_push}
use Rattle.el_basic.specs.Passed.{Passed}
use Rattle.el_basic.specs.Filters.{filters}
use Rattle.el_basic.specs.Filtered.{IsFilteredBy}
use Rattle.el_basic.specs.declared.identity.Identity.{Identity}
use Rattle.el_basic.specs.declared.caps_filter.CapsFilter.{CapsFilter}
use Rattle.el_set.specs.declared.filter.FilterElement.{FilterElement}
use Rattle.el_set.specs.declared.filter.FilterElement.TheVariants as elements
use Rattle.el_set.specs.Stands.{Stands, PutsOut, MeetsNone}
use Rattle.el_set.specs.Ends.{MeetsNoFault, EndsWithEos}
use Rattle.el_set.proofs.Ends.{counted_eos, counted_eos_since, sections_plain, IsPassing, passes_is_passing, filters_is_passing, passing_ends, passing_meets_no_fault}
use Rattle.el_set.proofs.Ending.{IsEnding, ending_eos, ending_sections, ending_among, ending_ends, met_none}
use Rattle.el_set.proofs.Rules.{valves_ending, converts_ending, recodes_ending, raw_ending, splits_ending, wav_ending, encodes_ending}
use Rattle.flow_model.proofs.Items.{items_feeds, none_owed as drained_none}
use Rattle.gst_item.specs.Item.{has_item}

-- what an element stands for is owed by its rule
pub elements_owe : (respond : Response) (element : FilterElement) (calls : List Call) (put : List Item) → Stands respond element calls put → put ≡ owed_for respond calls
elements_owe respond (elements.Identity identity) calls put s = rw s.0 s.1.owed
elements_owe respond (elements.CapsFilter filter) calls put s = rw s.1 s.2.owed
elements_owe respond (elements.Valve valve) calls put s = rw s.1 s.2.owed
elements_owe respond (elements.Convert convert) calls put s = rw s.1 s.2.owed
elements_owe respond (elements.Law law) calls put s = rw s.1 s.2.owed
elements_owe respond (elements.RawParse parser) calls put s = rw s.1 s.2.owed
elements_owe respond (elements.Split split) calls put s = rw s.1 s.2.owed
elements_owe respond (elements.WavParse parser) calls put s = rw s.1 s.2.owed
elements_owe respond (elements.WavEnc encoder) calls put s = rw s.1 s.2.owed

pub sections_end_by_eos : (respond : Response) (element : FilterElement) (calls : List Call) (put : List Item) → Stands respond element calls put
    → (all_called respond unfed calls).over ≡ has_eos calls
sections_end_by_eos respond (elements.Identity identity) calls put s = rw s.0 (s.1.over ∙ sym s.1.eos)
sections_end_by_eos respond (elements.CapsFilter filter) calls put s = rw s.1 (s.2.over ∙ sym s.2.eos)
sections_end_by_eos respond (elements.Valve valve) calls put s = rw s.1 (s.2.over ∙ sym s.2.eos)
sections_end_by_eos respond (elements.Convert convert) calls put s = rw s.1 (s.2.over ∙ sym s.2.eos)
sections_end_by_eos respond (elements.Law law) calls put s = rw s.1 (s.2.over ∙ sym s.2.eos)
sections_end_by_eos respond (elements.RawParse parser) calls put s = rw s.1 (s.2.over ∙ sym s.2.eos)
sections_end_by_eos respond (elements.Split split) calls put s = rw s.1 (s.2.over ∙ sym s.2.eos)
sections_end_by_eos respond (elements.WavParse parser) calls put s = rw s.1 (s.2.over ∙ sym s.2.eos)
sections_end_by_eos respond (elements.WavEnc encoder) calls put s = rw s.1 (s.2.over ∙ sym s.2.eos)

pub nothing_behind_eos : (respond : Response) (element : FilterElement) (calls : List Call) (put : List Item) (x : Item) → Stands respond element calls put
    → has_eos calls ≡ true → next_owed respond calls x ≡ Ok []
nothing_behind_eos respond element calls put x s ended = rw (sections_end_by_eos respond element calls put s ∙ ended) refl

-- An element puts out what counts of what it was given, and its rule passes or refuses; or its rule owes EOS behind all
-- else for EOS, and it met no fault.
record PutsCounted (respond : Response) (calls : List Call) (put : List Item) : Type 0 where
  passing : IsPassing respond
  counts : put ≡ counted (items calls)

record PutsOwed (respond : Response) (calls : List Call) : Type 0 where
  ending : IsEnding respond
  none : MeetsNone respond calls

puts_by : (respond : Response) (element : FilterElement) (calls : List Call) (put : List Item) → Stands respond element calls put → PutsCounted respond calls put ⊎ PutsOwed respond calls
puts_by respond (elements.Identity identity) calls put s = inl (record { passing = rw s.0 passes_is_passing; counts = s.1.all })
puts_by respond (elements.CapsFilter filter) calls put s = inl (record { passing = rw s.1 (filters_is_passing s.0); counts = s.2.all })
puts_by respond (elements.Valve valve) calls put s = inr (record { ending = rw s.1 (valves_ending s.0); none = s.3 })
puts_by respond (elements.Convert convert) calls put s = inr (record { ending = rw s.1 (converts_ending s.0); none = s.3 })
puts_by respond (elements.Law law) calls put s = inr (record { ending = rw s.1 (recodes_ending s.0); none = s.3 })
puts_by respond (elements.RawParse parser) calls put s = inr (record { ending = rw s.1 (raw_ending s.0); none = s.3 })
puts_by respond (elements.Split split) calls put s = inr (record { ending = rw s.1 (splits_ending s.0); none = s.3 })
puts_by respond (elements.WavParse parser) calls put s = inr (record { ending = rw s.1 wav_ending; none = s.3 })
puts_by respond (elements.WavEnc encoder) calls put s = inr (record { ending = rw s.1 encodes_ending; none = s.3 })

-- EOS goes through an element, and nothing behind it
pub eos_goes_through : (respond : Response) (element : FilterElement) (calls : List Call) (put : List Item) → Stands respond element calls put
    → has_item (in_force put).eos ≡ has_eos calls
eos_goes_through respond element calls put s = go (puts_by respond element calls put s)
  where
    go : PutsCounted respond calls put ⊎ PutsOwed respond calls → has_item (in_force put).eos ≡ has_eos calls
    go (inl p) = ap (λ (xs : List Item). has_item (in_force xs).eos) p.counts ∙ counted_eos_since (items calls)
    go (inr p) =
        ap (λ (xs : List Item). has_item (in_force xs).eos) (elements_owe respond element calls put s) ∙ ending_eos respond calls p.ending p.none
        ∙ sections_end_by_eos respond element calls put s

pub nothing_goes_behind_eos : (respond : Response) (element : FilterElement) (calls : List Call) (put : List Item) (j : ℕ) → Stands respond element calls put
    → IsPlain (section j put)
nothing_goes_behind_eos respond element calls put j s = go (puts_by respond element calls put s)
  where
    go : PutsCounted respond calls put ⊎ PutsOwed respond calls → IsPlain (section j put)
    go (inl p) = rw p.counts (sections_plain j (items calls))
    go (inr p) = rw (elements_owe respond element calls put s) (ending_sections respond calls j p.ending p.none)

-- the same for one section
pub put_has_eos : (respond : Response) (element : FilterElement) (list put : List Item) → Stands respond element (feeds list) put → eos_among put ≡ eos_among list
put_has_eos respond element list put s = go (puts_by respond element (feeds list) put s)
  where
    go : PutsCounted respond (feeds list) put ⊎ PutsOwed respond (feeds list) → eos_among put ≡ eos_among list
    go (inl p) = ap eos_among (p.counts ∙ ap counted (items_feeds list)) ∙ counted_eos list
    go (inr p) = ap eos_among (elements_owe respond element (feeds list) put s) ∙ ending_among respond list p.ending p.none

-- and of the rule alone
pub rules_end_with_eos : (respond : Response) (element : FilterElement) (calls : List Call) (put : List Item) → Stands respond element calls put → EndsWithEos respond
rules_end_with_eos respond element calls put s = go (puts_by respond element calls put s)
  where
    go : PutsCounted respond calls put ⊎ PutsOwed respond calls → EndsWithEos respond
    go (inl p) = passing_ends respond p.passing
    go (inr p) = ending_ends respond p.ending

pub put_is_plain : (respond : Response) (element : FilterElement) (list put : List Item) → has_flush_stop list ≡ false → Stands respond element (feeds list) put → IsPlain put
put_is_plain respond element list put h s =
    rw (elements_owe respond element (feeds list) put s) ((rules_end_with_eos respond element (feeds list) put s).plain list h)

pub no_fault_was_met : (respond : Response) (element : FilterElement) (list put : List Item) → has_flush_stop list ≡ false → Stands respond element (feeds list) put → MeetsNoFault respond list
no_fault_was_met respond element list put h s = go (puts_by respond element (feeds list) put s)
  where
    go : PutsCounted respond (feeds list) put ⊎ PutsOwed respond (feeds list) → MeetsNoFault respond list
    go (inl p) =
        passing_meets_no_fault respond p.passing list h (sym (elements_owe respond element (feeds list) put s) ∙ p.counts ∙ ap counted (items_feeds list))
    go (inr p) = met_none respond list p.none

-- an element that puts out an item which it takes puts out what it owes
owed_taken : (respond : Response) (calls : List Call) (x : Item) (put : List Item) (flow : Flow) → is_flush_stop x ≡ false
    → put ≡ owed_for respond calls → put ++ passed flow x ≡ owed_for respond (calls ++ Feed x ∷ []) → flow ≡ flow_behind calls
    → has_eos calls ≡ (all_called respond unfed calls).over
    → next_owed respond calls x ≡ Ok (passed flow x)
owed_taken respond calls x put flow plain owed more answer same =
    go (all_called respond unfed calls).over refl (respond (all_called respond unfed calls) x) refl
  where
    taken : (all_called respond unfed calls).over ≡ false → flow ≡ Taken
    taken begun = answer ∙ rw (same ∙ begun) refl

    behind : (all_called respond unfed calls).over ≡ true → flow ≡ BehindEos
    behind over = answer ∙ rw (same ∙ over) refl

    longer : (xs : List Item) → xs ++ x ∷ [] ≡ xs → ⊥
    longer xs e = let n = length_push xs x in let m = ap (λ (ys : List Item). length ys) e in omega (arith, n, m)

    with_item : (all_called respond unfed calls).over ≡ false → put ++ x ∷ [] ≡ owed_for respond (calls ++ Feed x ∷ [])
    with_item begun = ap (λ f. put ++ passed f x) (sym (taken begun)) ∙ more

    go : (over : Bool) → (all_called respond unfed calls).over ≡ over → (r : Result (List Item) Fault) → respond (all_called respond unfed calls) x ≡ r
        → next_owed respond calls x ≡ Ok (passed flow x)
    go true e r a = rw (e, behind e) refl
    go false e (Ok ys) a =
        let all : owed_for respond (calls ++ Feed x ∷ []) ≡ owed_for respond calls ++ ys =
        ap (λ (s : Fed). s.out) (called_push respond unfed calls (Feed x)) ∙ rw (plain, e, a) refl
        in let one : put ++ x ∷ [] ≡ put ++ ys = with_item e ∙ all ∙ ap (λ zs. zs ++ ys) (sym owed) in
        rw (e, a, taken e) (ap (λ zs. Ok zs) (sym (append_cancel_left put (x ∷ []) ys one)))
    go false e (Err f) a =
        let all : owed_for respond (calls ++ Feed x ∷ []) ≡ owed_for respond calls =
        ap (λ (s : Fed). s.out) (called_push respond unfed calls (Feed x)) ∙ rw (plain, e, a) refl
        in absurd (longer put (with_item e ∙ all ∙ sym owed))

-- the identity
identity_fed : (old new : Identity) (x : Item) (flow : Flow) (out out' : List Out) → is_flush_stop x ≡ false → out' ≡ out ++ on_pad 0 (passed flow x)
    → ((calls : List Call) (put : List Item) → Passed old calls put → Passed new (calls ++ Feed x ∷ []) (put ++ passed flow x))
    → ((calls : List Call) (put : List Item) → Passed old calls put → flow ≡ flow_behind calls)
    → PutsOut (elements.Identity old) (elements.Identity new) (Feed x) out out'
identity_fed old new x flow out out' plain outs fed answer =
    record {
      more = passed flow x;
      outs = outs;
      owed = λ respond calls put s.
          rw s.0 (owed_taken passes calls x put flow plain s.1.owed (fed calls put s.1).owed (answer calls put s.1) (s.1.eos ∙ sym s.1.over));
      stands = λ respond calls put s. (s.0, fed calls put s.1);
    }

-- the filter of caps
filter_fed : (old new : CapsFilter) (x : Item) (flow : Flow) (out out' : List Out) → is_flush_stop x ≡ false → out' ≡ out ++ on_pad 0 (passed flow x)
    → ((first : Caps) (calls : List Call) (put : List Item) → IsFilteredBy first old calls put → IsFilteredBy first new (calls ++ Feed x ∷ []) (put ++ passed flow x))
    → ((first : Caps) (calls : List Call) (put : List Item) → IsFilteredBy first old calls put → flow ≡ flow_behind calls)
    → PutsOut (elements.CapsFilter old) (elements.CapsFilter new) (Feed x) out out'
filter_fed old new x flow out out' plain outs fed answer =
    record {
      more = passed flow x;
      outs = outs;
      owed = λ respond calls put s.
          let first = s.0 in let stood = s.2 in
          rw s.1 (owed_taken (filters first) calls x put flow plain stood.owed (fed first calls put stood).owed (answer first calls put stood) (stood.eos ∙ sym stood.over));
      stands = λ respond calls put s. (s.0, s.1, fed s.0 calls put s.2);
    }

-- by the answer of the call
pub identity_feeds : (r : Result Flow ElementFault) (element : FilterElement) (old new : Identity) (x : Item) (out out' : List Out) → element ≡ elements.Identity old → is_flush_stop x ≡ false
    → IfOk r (λ flow. out' ≡ out ++ on_pad 0 (passed flow x))
    → IfOk r (λ flow. (calls : List Call) (put : List Item) → Passed old calls put → Passed new (calls ++ Feed x ∷ []) (put ++ passed flow x))
    → IfOk r (λ flow. (calls : List Call) (put : List Item) → Passed old calls put → flow ≡ flow_behind calls)
    → IfOk r (λ flow. PutsOut element (elements.Identity new) (Feed x) out out')
identity_feeds (Ok flow) element old new x out out' is plain outs fed answer = rw is (identity_fed old new x flow out out' plain outs fed answer)
identity_feeds (Err fault) element old new x out out' is plain outs fed answer = tt

pub filter_feeds : (r : Result Flow ElementFault) (element : FilterElement) (old new : CapsFilter) (x : Item) (out out' : List Out) → element ≡ elements.CapsFilter old → is_flush_stop x ≡ false
    → IfOk r (λ flow. out' ≡ out ++ on_pad 0 (passed flow x))
    → IfOk r (λ flow. (first : Caps) (calls : List Call) (put : List Item) → IsFilteredBy first old calls put → IsFilteredBy first new (calls ++ Feed x ∷ []) (put ++ passed flow x))
    → IfOk r (λ flow. (first : Caps) (calls : List Call) (put : List Item) → IsFilteredBy first old calls put → flow ≡ flow_behind calls)
    → IfOk r (λ flow. PutsOut element (elements.CapsFilter new) (Feed x) out out')
filter_feeds (Ok flow) element old new x out out' is plain outs fed answer = rw is (filter_fed old new x flow out out' plain outs fed answer)
filter_feeds (Err fault) element old new x out out' is plain outs fed answer = tt

pub filter_faults : (r : Result Flow ElementFault) (element : FilterElement) (old : CapsFilter) (x : Item) → element ≡ elements.CapsFilter old
    → IfErr r (λ fault. (first : Caps) (calls : List Call) (put : List Item) → IsFilteredBy first old calls put → IsFaultOf (next_owed (filters first) calls x) fault)
    → IfErr r (λ fault. (respond : Response) (calls : List Call) (put : List Item) → Stands respond element calls put → IsFaultOf (next_owed respond calls x) fault)
filter_faults (Ok flow) element old x is h = tt
filter_faults (Err fault) element old x is h = rw is (λ respond calls put s. rw s.1 (h s.0 calls put s.2))

pub identity_drains : (r : Result (Unit {0}) ElementFault) (element : FilterElement) (old new : Identity) (out out' : List Out) → element ≡ elements.Identity old → out' ≡ out
    → ((calls : List Call) (put : List Item) → Passed old calls put → Passed new (calls ++ Act Drain ∷ []) put)
    → OnOk r (PutsOut element (elements.Identity new) (Act Drain) out out')
identity_drains (Ok done) element old new out out' is outs drained =
    rw is (record {
      more = [];
      outs = outs ∙ sym (append-nil out);
      owed = λ respond calls put s. rw s.0 (drained_none (all_called passes unfed calls).over);
      stands = λ respond calls put s. (s.0, rw (append-nil put) (drained calls put s.1));
    })
identity_drains (Err fault) element old new out out' is outs drained = tt

pub filter_drains : (r : Result (Unit {0}) ElementFault) (element : FilterElement) (old new : CapsFilter) (out out' : List Out) → element ≡ elements.CapsFilter old → out' ≡ out
    → ((first : Caps) (calls : List Call) (put : List Item) → IsFilteredBy first old calls put → IsFilteredBy first new (calls ++ Act Drain ∷ []) put)
    → OnOk r (PutsOut element (elements.CapsFilter new) (Act Drain) out out')
filter_drains (Ok done) element old new out out' is outs drained =
    rw is (record {
      more = [];
      outs = outs ∙ sym (append-nil out);
      owed = λ respond calls put s. rw s.1 (drained_none (all_called (filters s.0) unfed calls).over);
      stands = λ respond calls put s. (s.0, s.1, rw (append-nil put) (drained s.0 calls put s.2));
    })
filter_drains (Err fault) element old new out out' is outs drained = tt
