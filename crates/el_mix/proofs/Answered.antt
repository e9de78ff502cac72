-- What an element answers and puts out for an item, and what it stands for then.
use Rattle.std.proofs.Common.{◌≡◌, ◌<◌, ℕ, zero, suc, ◌+◌, ◌^◌, Bool, true, false, if◌then◌else◌, List, [], ◌∷◌, ◌++◌, Option, Some, None, Result, Ok, length, drop, map, set, refl, sym, ap, ◌∙◌, subst, inl, inr, append-nil, append_assoc, arith}
use Rattle.std.specs.Prelude.{slice_get}
use Rattle.std.proofs.lemmas.List.{drop_at}
use Rattle.std.proofs.lemmas.Option.{same_Some as some_is}
use Rattle.gst_item.proofs.Kept.{latest_push}
use Rattle.gst_value.specs.Description.{Description}
use Rattle.gst_value.specs.declared.one.One.{One}
use Rattle.gst_item.specs.declared.out.Out.{Out}
use Rattle.flow_model.specs.declared.fault.ElementFault.{ElementFault}
use Rattle.flow_model.specs.declared.fault.ElementFault.TheVariants.{NotNegotiated as Refused, BadStream as Broken, TooLong as Passing, OutOfMemory as Wanting}
use Rattle.flow_model.specs.Item.{Item, Buf, Ev, StreamStart, NewCaps, NewSegment, Tag, Gap, FlushStop, Eos, is_flush_stop, is_buffer, body_of}
use Rattle.flow_model.specs.Call.{Call, Feed, items}
use Rattle.flow_model.specs.Rule.{Fault}
use Rattle.flow_model.specs.Feeding.{has_eos, IsFaultOf}
use Rattle.flow_model.specs.SinkPads.{push_calls, calls_at, flush_stops_given, InSection}
use Rattle.el_mix.specs.declared.channel.Channel.{Channel}
use Rattle.el_mix.specs.declared.mix.Mix.{Mix}
use Rattle.el_mix.specs.Agreed.{is_there, caps_in, pad_caps, lowest_caps, first_refusal}
use Rattle.el_mix.specs.Reopened.{reopened, reopenings}
use Rattle.el_mix.specs.Mixes.{interleaved, mixes}
use Rattle.el_mix.specs.Order.{IsKnown, InOrder}
use Rattle.el_mix.specs.Answer.{reached, more_or, answer_in, mix_answer}
use Rattle.el_mix.specs.Sections.{BelowKnown}
use Rattle.el_mix.specs.Due.{IsDue}
use Rattle.el_mix.specs.Judging.{lowest_to, inherited_refusal, own_refusal, verdict, IsFine}
use Rattle.el_mix.specs.Taking.{hears, bare}
use Rattle.el_mix.specs.Putting.{ended_by}
use Rattle.el_mix.specs.Standing.{CountEach, known, lower_known, Holds, Behind, rest_owed}
use Rattle.el_mix.specs.Calls.{Takes}
use Rattle.el_mix.specs.Relation.{KnowEach, section_of, Mixes, MixPuts}
use Rattle.el_mix.proofs.Answering.{section_at}
use Rattle.el_mix.proofs.Opening.{still_in, pad_goes_on}
use Rattle.el_mix.proofs.Ordering.{open_in_order, keeps_order}
use Rattle.el_mix.proofs.Refusing.{push_item, item_at, push_lists, list_at, push_at}
use Rattle.el_mix.proofs.Judged.{neither, own_below, agreed_at, first_agrees, caps_agree}
use Rattle.el_mix.proofs.Calling.{fine_at, verdict_push, new_behind, new_owed, place_below}
use Rattle.el_mix.proofs.Knowing.{knows_took, know_push, know_at, know_length}
use Rattle.flow_model.specs.Inherited.{start_event, caps_event}
use Rattle.flow_model.specs.Looking.{end_of}

differ : true ≡ false → ⊥
differ e = absurd (cc)

abbrev done : List Item → Result (List Item) Fault
done ys = Ok ys

-- the section that is open
pub section_is : (n i : ℕ) (x : Item) (took : List (List Call)) → InSection n took → is_flush_stop x ≡ false → section_of took ≡ n → section_of (push_calls i (Feed x ∷ []) took) ≡ n
section_is n i x [] s plain e = e
section_is n zero x (calls ∷ took) s plain e = (still_in n zero (calls ∷ took) x plain s).0
section_is n (suc i) x (calls ∷ took) s plain e = e

pub still_level : (i : ℕ) (x : Item) (took : List (List Call)) → is_flush_stop x ≡ false → InSection (section_of took) took
    → InSection (section_of (push_calls i (Feed x ∷ []) took)) (push_calls i (Feed x ∷ []) took)
still_level i x took plain s =
    subst (λ n. InSection n (push_calls i (Feed x ∷ []) took)) (sym (section_is (section_of took) i x took s plain refl)) (still_in (section_of took) i took x plain s)

-- the pads below are known
pub below_known : (i : ℕ) (cs : List Channel) (xss : List (List Item)) → CountEach cs xss → lower_known i cs ≡ true → BelowKnown i xss
below_known i [] [] k e = tt
below_known i [] (xs ∷ xss) k e = absurd k
below_known i (c ∷ cs) [] k e = tt
below_known zero (c ∷ cs) (xs ∷ xss) k e = tt
below_known (suc i) (c ∷ cs) (xs ∷ xss) k e = go (known c) refl e (λ l. below_known i cs xss k.1 l)
  where
    is_known : (b : Bool) → c.progress.ended ≡ b → (if b then true else is_there (hears c)) ≡ true → IsKnown xs
    is_known true b e = inr (sym k.0.ended ∙ b)
    is_known false b e = inl (ap is_there (sym k.0.caps) ∙ e)

    go : (b : Bool) → known c ≡ b → (if b then lower_known i cs else false) ≡ true → (lower_known i cs ≡ true → BelowKnown i xss) → IsKnown xs × BelowKnown i xss
    go true is e later = (is_known c.progress.ended refl is, later e)
    go false is e later = absurd (differ (sym e))

-- the time of the end of the last buffer
reached_one : (xs : List Item) (y : Item) → reached (xs ++ y ∷ []) ≡ ended_by (reached xs) (y ∷ [])
reached_one xs (Buf b) = ap end_of (latest_push is_buffer xs (Buf b))
reached_one xs (Ev e) = ap end_of (latest_push is_buffer xs (Ev e))

ended_first : (t : ℕ) (y : Item) (ys : List Item) → ended_by t (y ∷ ys) ≡ ended_by (ended_by t (y ∷ [])) ys
ended_first t (Buf b) ys = refl
ended_first t (Ev e) ys = refl

pub reached_more : (xs ys : List Item) → reached (xs ++ ys) ≡ ended_by (reached xs) ys
reached_more xs [] = ap reached (append-nil xs)
reached_more xs (y ∷ ys) =
    ap reached (sym (append_assoc xs (y ∷ []) ys)) ∙ reached_more (xs ++ y ∷ []) ys ∙ ap (λ t. ended_by t ys) (reached_one xs y) ∙ sym (ended_first (reached xs) y ys)

-- the answer of the rule
pub answer_is : (n i : ℕ) (x : Item) (took : List (List Call)) (put : List Item) → InSection n took → is_flush_stop x ≡ false → i < length took → has_eos (calls_at i took) ≡ false
    → mixes took 0 n ≡ put
    → mix_answer took i x ≡ more_or (first_refusal (reached put) (lowest_caps (push_item i x (reopenings n took))) [] (item_at i (reopenings n took) ++ x ∷ [])) put (mixes (push_calls i (Feed x ∷ []) took) 0 n)
answer_is n i x took put s plain lt unended owed =
    ap (λ (b : Bool). if b then Ok [] else answer_in (flush_stops_given (calls_at i took)) took (push_calls i (Feed x ∷ []) took) i) unended
    ∙ ap (λ m. answer_in m took (push_calls i (Feed x ∷ []) took) i) (section_at n i took s lt)
    ∙ ap (λ ys. more_or (first_refusal (reached ys) (lowest_caps (reopenings n (push_calls i (Feed x ∷ []) took))) [] (reopened n (items (calls_at i (push_calls i (Feed x ∷ []) took))))) ys
    (mixes (push_calls i (Feed x ∷ []) took) 0 n)) owed
    ∙ ap (λ zss. more_or (first_refusal (reached put) (lowest_caps zss) [] (reopened n (items (calls_at i (push_calls i (Feed x ∷ []) took))))) put (mixes (push_calls i (Feed x ∷ []) took) 0 n))
    (push_lists n i took x s plain unended)
    ∙ ap (λ zs. more_or (first_refusal (reached put) (lowest_caps (push_item i x (reopenings n took))) [] zs) put (mixes (push_calls i (Feed x ∷ []) took) 0 n)) last
  where
    last : reopened n (items (calls_at i (push_calls i (Feed x ∷ []) took))) ≡ item_at i (reopenings n took) ++ x ∷ []
    last =
        ap (λ cs. reopened n (items cs)) (push_at i took (Feed x ∷ []) lt)
        ∙ ap (λ k. reopened k (items (calls_at i took ++ Feed x ∷ []))) (sym (section_at n i took s lt))
        ∙ pad_goes_on.taken (calls_at i took) x plain unended
        ∙ ap (λ k. reopened k (items (calls_at i took)) ++ x ∷ []) (section_at n i took s lt)
        ∙ ap (λ zs. zs ++ x ∷ []) (sym (list_at n i took lt))

-- a fault that is due is that of the rule
due_fault : (answer : Result (List Item) Fault) (v : Option Fault) (ys zs : List Item) (fault : ElementFault) → answer ≡ more_or v ys zs → IsDue v fault → IsFaultOf answer fault
due_fault answer v ys zs (Refused offered wanted) e d = e ∙ ap (λ (o : Option Fault). more_or o ys zs) d
due_fault answer v ys zs (Broken place kind) e d = e ∙ ap (λ (o : Option Fault). more_or o ys zs) d
due_fault answer v ys zs (Passing a b) e d = e ∙ ap (λ (o : Option Fault). more_or o ys zs) d
due_fault answer v ys zs Wanting e d = tt

-- what the channels know, where only what waits differs
know_same : (cs ds : List Channel) (took : List (List Call)) → map bare ds ≡ map bare cs → KnowEach cs took → KnowEach ds took
know_same [] [] took e k = k
know_same [] (d ∷ ds) took e k = absurd (cc)
know_same (c ∷ cs) [] took e k = absurd (cc)
know_same (c ∷ cs) (d ∷ ds) [] e k = absurd k
know_same (c ∷ cs) (d ∷ ds) (calls ∷ took) e k = (
  record {
    stream_start = ap (λ (z : Channel). start_event z.progress.last_id) parts.0 ∙ k.0.stream_start;
    caps = ap (λ (z : Channel). caps_event (hears z)) parts.0 ∙ k.0.caps;
    eos = k.0.eos ∙ sym (ap (λ (z : Channel). z.progress.ended) parts.0);
  },
  know_same cs ds took parts.1 k.1,
)
  where
    heads : (a b : Channel) (ps qs : List Channel) → a ∷ ps ≡ b ∷ qs → (a ≡ b) × (ps ≡ qs)
    heads a b ps qs e = (cc, cc)

    parts : (bare d ≡ bare c) × (map bare ds ≡ map bare cs)
    parts = heads (bare d) (bare c) (map bare ds) (map bare cs) e

-- CAPS that are not refused are those that the pad had
caps_same : (low : Option (Description One)) (r : ℕ) (c : Channel) (xs : List Item) (x : Item) → hears c ≡ pad_caps xs → (low ≡ None → hears c ≡ None)
    → (c.progress.begun ≡ true → first_refusal 0 low [] xs ≡ None) → verdict r low c x ≡ None
    → (had found : Description One) → hears c ≡ Some had → caps_in x ≡ Some found → had ≡ found
caps_same low r c xs x caps own agrees v had found is in_x = go low refl
  where
    both : ((if c.progress.begun then None else inherited_refusal low (hears c)) ≡ None) × (own_refusal r low (hears c) c.progress.got x ≡ None)
    both = neither (if c.progress.begun then None else inherited_refusal low (hears c)) (own_refusal r low (hears c) c.progress.got x) v

    none_some : (d : Description One) → Some d ≡ None → ⊥
    none_some d e = absurd (cc)

    this : (l : Description One) (y : Item) → caps_in y ≡ Some found → own_refusal r (Some l) (hears c) c.progress.got y ≡ None → l ≡ found
    this l (Buf b) e n = absurd (cc)
    this l (Ev (StreamStart id)) e n = absurd (cc)
    this l (Ev (NewCaps caps)) e n = (caps_agree l caps n).0 ∙ some_is caps found e
    this l (Ev (NewSegment s)) e n = absurd (cc)
    this l (Ev (Tag title)) e n = absurd (cc)
    this l (Ev (Gap pts duration)) e n = absurd (cc)
    this l (Ev (FlushStop number)) e n = absurd (cc)
    this l (Ev Eos) e n = absurd (cc)

    before : (l : Description One) → low ≡ Some l → (b : Bool) → c.progress.begun ≡ b → l ≡ had
    before l e true b = (first_agrees 0 l had [] xs (ap (λ o. first_refusal 0 o [] xs) (sym e) ∙ agrees b) (sym caps ∙ is)).0
    before l e false b =
        (caps_agree l had (ap (λ o. inherited_refusal (Some l) o) (sym is) ∙ ap (λ o. inherited_refusal o (hears c)) (sym e)
        ∙ ap (λ (z : Bool). if z then None else inherited_refusal low (hears c)) (sym b) ∙ both.0)).0

    go : (o : Option (Description One)) → low ≡ o → had ≡ found
    go None e = absurd (none_some had (sym is ∙ own e))
    go (Some l) e = sym (before l e c.progress.begun refl) ∙ this l x in_x (ap (λ o. own_refusal r o (hears c) c.progress.got x) (sym e) ∙ both.1)

-- An item that is taken.
module _ (old new : Mix) (pad : ℕ) (x : Item) (out out' : List Out) (plain : is_flush_stop x ≡ false) (low : lower_known pad old.channels.items ≡ true)
    (judged : (c : Channel) → slice_get old.channels.items pad ≡ Some c → IsFine c → verdict old.at.reached (lowest_to pad (map hears old.channels.items)) c x ≡ None)
    (small : (c : Channel) → slice_get old.channels.items pad ≡ Some c → IsFine c → c.progress.got + length (body_of x) < 2 ^ 62)
    (unended : (c : Channel) → slice_get old.channels.items pad ≡ Some c → c.progress.ended ≡ false)
    (t : Takes old.at old.channels.items pad x new.at new.channels.items out out') where
  module _ (took : List (List Call)) (put : List Item) (m : Mixes old took put) where
    eos_not : has_eos (calls_at pad took) ≡ false
    eos_not = (know_at pad old.channels.items took t.before t.here m.remembers.each).eos ∙ unended t.before t.here

    within : pad < length took
    within =
        let less = place_below pad old.channels.items t.before t.here in
        let same = know_length old.channels.items took m.remembers.each in
        omega (arith, less, same)

    fine : IsFine t.before
    fine = fine_at old.at pad old.channels.items (reopenings (section_of took) took) t.before t.here m.holds

    verdict_none : verdict old.at.reached (lowest_to pad (map hears old.channels.items)) t.before x ≡ None
    verdict_none = judged t.before t.here fine

    in_order : InOrder (reopenings (section_of took) took)
    in_order = open_in_order (section_of took) took m.remembers.level (m.fed (section_of took))

    behind : Behind old.at (set old.channels.items pad t.after) (push_item pad x (reopenings (section_of took) took))
    behind =
        new_behind old.at pad x old.channels.items (reopenings (section_of took) took) t.before t.here m.holds t.after old.at.reached (unended t.before t.here) verdict_none (small t.before t.here fine) low t.took in_order

    pushed : reopenings (section_of took) (push_calls pad (Feed x ∷ []) took) ≡ push_item pad x (reopenings (section_of took) took)
    pushed = push_lists (section_of took) pad took x m.remembers.level plain eos_not

    goes_on : mixes (push_calls pad (Feed x ∷ []) took) 0 (section_of took) ≡ put ++ t.moves.more
    goes_on =
        ap interleaved pushed
        ∙ new_owed old.at pad x old.channels.items (reopenings (section_of took) took) t.before t.here m.holds t.after old.at.reached (unended t.before t.here) verdict_none (small t.before t.here fine) low t.took in_order
        ∙ ap (λ ys. ys ++ rest_owed old.at (push_item pad x (reopenings (section_of took) took))) m.owed
        ∙ ap (λ ys. put ++ ys) (sym (t.moves.owed (push_item pad x (reopenings (section_of took) took)) behind))

    refused_none : first_refusal (reached put) (lowest_caps (push_item pad x (reopenings (section_of took) took))) [] (item_at pad (reopenings (section_of took) took) ++ x ∷ []) ≡ None
    refused_none =
        verdict_push old.at pad x old.channels.items (reopenings (section_of took) took) t.before t.here m.holds (reached put)
        ∙ ap (λ r. verdict r (lowest_to pad (map hears old.channels.items)) t.before x) m.ends ∙ verdict_none

    pub taken_answer : mix_answer took pad x ≡ Ok t.moves.more
    taken_answer =
        answer_is (section_of took) pad x took put m.remembers.level plain within eos_not m.owed
        ∙ ap (λ (o : Option Fault). more_or o put (mixes (push_calls pad (Feed x ∷ []) took) 0 (section_of took))) refused_none
        ∙ ap done (ap (drop (length put)) goes_on ∙ drop_at put t.moves.more (length put) refl)

    same_section : section_of (push_calls pad (Feed x ∷ []) took) ≡ section_of took
    same_section = section_is (section_of took) pad x took m.remembers.level plain refl

    pub taken_stands : Mixes new (push_calls pad (Feed x ∷ []) took) (put ++ t.moves.more)
    taken_stands = record {
      remembers = record {
        each = know_same (set old.channels.items pad t.after) new.channels.items (push_calls pad (Feed x ∷ []) took) t.moves.same
            (know_push pad (Feed x ∷ []) old.channels.items took t.before t.after t.here (λ k. knows_took t.before t.after (calls_at pad took) x plain (unended t.before t.here) same t.took k) m.remembers.each);
        level = still_level pad x took plain m.remembers.level;
      };
      fed = keeps_order.fed took pad (section_of took) x m.remembers.level plain (below_known pad old.channels.items (reopenings (section_of took) took) m.holds.each.counts low) m.fed;
      holds = subst (λ n. Holds new.at new.channels.items (reopenings n (push_calls pad (Feed x ∷ []) took))) (sym same_section)
          (subst (λ zss. Holds new.at new.channels.items zss) (sym pushed) (t.moves.holds (push_item pad x (reopenings (section_of took) took)) behind));
      owed = ap (λ n. mixes (push_calls pad (Feed x ∷ []) took) 0 n) same_section ∙ goes_on;
      ends = reached_more put t.moves.more ∙ ap (λ r. ended_by r t.moves.more) m.ends ∙ t.moves.ends (push_item pad x (reopenings (section_of took) took)) behind;
    }
      where
        same : (had found : Description One) → hears t.before ≡ Some had → caps_in x ≡ Some found → had ≡ found
        same =
            let known_at = agreed_at None pad old.channels.items (reopenings (section_of took) took) t.before t.here m.holds.each.counts m.holds.each.agrees in
            caps_same (lowest_to pad (map hears old.channels.items)) old.at.reached t.before (item_at pad (reopenings (section_of took) took)) x known_at.0.caps (own_below pad old.channels.items t.before t.here) known_at.1 verdict_none

  pub puts_taken : MixPuts old new pad x out out'
  puts_taken = record {
    more = t.moves.more;
    outs = t.moves.outs;
    free = t.moves.free;
    owed = taken_answer;
    stands = taken_stands;
  }

-- A fault of an item that is judged.
pub fault_told : (old : Mix) (pad : ℕ) (x : Item) (c : Channel) (fault : ElementFault) → is_flush_stop x ≡ false → slice_get old.channels.items pad ≡ Some c → c.progress.ended ≡ false
    → (IsFine c → IsDue (verdict old.at.reached (lowest_to pad (map hears old.channels.items)) c x) fault) → (took : List (List Call)) (put : List Item) → Mixes old took put
    → IsFaultOf (mix_answer took pad x) fault
fault_told old pad x c fault plain here unended due took put m =
    let eos_not : has_eos (calls_at pad took) ≡ false = (know_at pad old.channels.items took c here m.remembers.each).eos ∙ unended in
    let less = place_below pad old.channels.items c here in
    let same = know_length old.channels.items took m.remembers.each in
    due_fault (mix_answer took pad x) (verdict old.at.reached (lowest_to pad (map hears old.channels.items)) c x) put (mixes (push_calls pad (Feed x ∷ []) took) 0 (section_of took)) fault
    (answer_is (section_of took) pad x took put m.remembers.level plain (omega (arith, less, same)) eos_not m.owed
    ∙ ap (λ (o : Option Fault). more_or o put (mixes (push_calls pad (Feed x ∷ []) took) 0 (section_of took)))
    (verdict_push old.at pad x old.channels.items (reopenings (section_of took) took) c here m.holds (reached put)
    ∙ ap (λ r. verdict r (lowest_to pad (map hears old.channels.items)) c x) m.ends))
    (due (fine_at old.at pad old.channels.items (reopenings (section_of took) took) c here m.holds))
