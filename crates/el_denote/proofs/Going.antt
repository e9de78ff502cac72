-- An element with several sink pads, turn by turn.
use Rattle.std.proofs.Common.{◌≡◌, ◌<◌, ℕ, suc, ◌+◌, Bool, true, false, if◌then◌else◌, List, [], ◌∷◌, ◌++◌, length, map, take, replicate, None, Some, Result, Ok, Err, refl, sym, ap, ◌∙◌, subst, arith}
use Rattle.std.proofs.lemmas.List.{take_all, length-map}
use Rattle.gst_item.specs.declared.out.Out.{Out}
use Rattle.flow_model.specs.declared.fault.ElementFault.{ElementFault}
use Rattle.flow_model.specs.declared.fault.ElementFault.TheVariants.{NotNegotiated as Refused, BadStream as Broken, TooLong as Passing, OutOfMemory as Wanting}
use Rattle.flow_model.specs.Item.{Item, Ev, StreamStart, FlushStop, Eos, is_flush_stop, is_segment}
use Rattle.flow_model.specs.Call.{Call, Feed}
use Rattle.flow_model.specs.Rule.{Rule, Fault}
use Rattle.flow_model.specs.Feeding.{on_pad, IsFaultOf}
use Rattle.flow_model.specs.SinkPads.{push_calls, push_each}
use Rattle.el_join.specs.declared.concat.Concat.{Concat as ConcatElement}
use Rattle.el_join.specs.Concats.{concat_rule}
use Rattle.el_join.specs.Joins.{Joins, Remembers as JoinRemembers, sink_pads as concat_pads}
use Rattle.el_join.specs.Sections.{open_section}
use Rattle.el_join.proofs.Sectioning.{puts_in_order}
use Rattle.el_mix.specs.declared.mix.Mix.{Mix as MixElement}
use Rattle.el_mix.specs.Mixes.{mixes}
use Rattle.el_mix.specs.Relation.{Mixes, Remembers as MixRemembers, section_of, sink_pads as mix_pads}
use Rattle.el_mix.proofs.Opening.{still_in, next_in}
use Rattle.el_settings.specs.declared.settings.Settings.{Settings}
use Rattle.el_settings.specs.Asked.{sink_pads}
use Rattle.el_set.specs.declared.join.JoinElement.{JoinElement}
use Rattle.el_set.specs.declared.join.JoinElement.TheVariants.{Concat, Mix}
use Rattle.el_set.specs.Denoted.{rule_of, answers_of}
use Rattle.el_set.specs.Joins.{JoinStands, JoinPuts, join_rule, join_answers, join_pads, may_take}
use Rattle.el_set.specs.Made.{MadeJoin}
use Rattle.el_set.proofs.JoinRules.{joins_have_pads, concat_open, mix_open as section_is}
use Rattle.el_denote.specs.Denoted.{fault_of, answered}
use Rattle.el_denote.specs.Joined.{first_fault_in, nothing_given}
use Rattle.el_denote.specs.Turns.{Turn, Give, Flush, all_turned}
use Rattle.el_denote.specs.Near.{Mark, both, gaps_of, with_gap, owed_count, restored}
use Rattle.el_denote.specs.Running.{MixStood, Stood, Runs}
use Rattle.el_denote.proofs.WholeLists.{on_pad_append, items_on_pad}
use Rattle.el_denote.proofs.Nearing.{each_push, each_known, each_close, each_flush, each_in, each_new, lowest_unknown}
use Rattle.el_denote.proofs.GapOwed.{owed_near}
use Rattle.el_denote.proofs.GapAnswers.{answers_near}
use Rattle.el_denote.proofs.Turns.{turned_behind, none_then}
use Rattle.flow_model.proofs.Items.{none_in}

-- the two rules differ
pub mix_apart : mixes ≡ concat_rule → ⊥
mix_apart e = nothing_owed (ap (λ (r : Rule). r ((Feed (Ev (StreamStart 0)) ∷ []) ∷ []) 0 0) e)
  where
    nothing_owed : {x : Item} {xs : List Item} → [] ≡ x ∷ xs → ⊥
    nothing_owed e = cc

-- with an item that was taken
stood_fed : (old new : JoinElement) (j : ℕ) (marks : List Mark) (begun : Bool) (given : List (List Call)) (put more : List Item) (x : Item) → is_flush_stop x ≡ false
    → join_rule new ≡ join_rule old
    → ((took : List (List Call)) (put : List Item) → JoinStands old took put → JoinStands new (push_calls (length marks) (Feed x ∷ []) took) (put ++ more))
    → Stood old j marks begun given put → Stood new j marks (if begun then true else is_segment x) (push_calls (length marks) (Feed x ∷ []) given) (put ++ more)
stood_fed (Concat a) (Concat b) j marks begun given put more x plain same stands s = (stands given put s.0, still_in j (length marks) given x plain s.1, s.2)
stood_fed (Mix a) (Mix b) j marks begun given put more x plain same stands s = record {
  took = push_calls (length marks) (Feed x ∷ []) s.took;
  mixes = stands s.took put s.mixes;
  near = each_push j x plain s.near;
}
stood_fed (Concat a) (Mix b) j marks begun given put more x plain same stands s = absurd (mix_apart same)
stood_fed (Mix a) (Concat b) j marks begun given put more x plain same stands s = absurd (mix_apart (sym same))

fault_none : (r : Result (List Item) Fault) (more : List Item) → r ≡ Ok more → fault_of r ≡ None
fault_none r more e = rw e refl

stood_ok : (join : JoinElement) (j : ℕ) (marks : List Mark) (begun : Bool) (given : List (List Call)) (put more : List Item) (x : Item) → is_flush_stop x ≡ false
    → length marks < join_pads join → ((took : List (List Call)) (put : List Item) → JoinStands join took put → join_answers join took (length marks) x ≡ Ok more)
    → Stood join j marks begun given put → fault_of (join_answers join given (length marks) x) ≡ None
stood_ok (Concat a) j marks begun given put more x plain within owed s = fault_none _ more (owed given put s.0)
stood_ok (Mix a) j marks begun given put more x plain within owed s =
    let many : length s.took ≡ mix_pads a = joins_have_pads (Mix a) s.took put s.mixes in
    let near = answers_near a s.took given put j marks begun x s.mixes s.near plain (subst (λ n. length marks < n) (sym many) within) in
    let ok = near.0 more (owed s.took put s.mixes) in
    fault_none _ ok.0 ok.1

pub runs_fed : (settings : Settings) (j : ℕ) (gaps : Mark) (old new : JoinElement) (pad : ℕ) (marks : List Mark) (begun : Bool) (turns : List Turn) (x copy : Item) (out out' : List Out)
    → copy ≡ x → length marks ≡ pad → pad < join_pads old → is_flush_stop x ≡ false → JoinPuts old new pad copy out out' → Runs settings j gaps old marks begun turns out
    → Runs settings j gaps new marks (if begun then true else is_segment x) (turns ++ Give pad x ∷ []) out'
runs_fed settings j gaps old new pad marks begun turns x copy out out' same is within plain puts r =
    let p : JoinPuts old new (length marks) x out out' = rw (← is, same) at puts in
    let given = all_turned (nothing_given settings) turns in
    let w : length marks < join_pads old = rw is within in
    let behind : all_turned (nothing_given settings) (turns ++ Give (length marks) x ∷ []) ≡ push_calls (length marks) (Feed x ∷ []) given =
    turned_behind (nothing_given settings) turns (Give (length marks) x ∷ []) in
    subst (λ n. Runs settings j gaps new marks (if begun then true else is_segment x) (turns ++ Give n x ∷ []) out') is
    (record {
      put = r.put ++ p.more;
      stands = subst (λ g. Stood new j marks (if begun then true else is_segment x) g (r.put ++ p.more)) (sym behind) (stood_fed old new j marks begun given r.put p.more x plain p.rule p.stands r.stands);
      outs = p.outs ∙ ap (λ os. os ++ on_pad 0 p.more) r.outs ∙ sym (on_pad_append 0 r.put p.more);
      whole = none_then settings turns (Give (length marks) x) r.whole
          ∙ subst (λ (a : List (List Call) → ℕ → Item → Result (List Item) Fault). fault_of (a given (length marks) x) ≡ None) r.answers (stood_ok old j marks begun given r.put p.more x plain w p.owed r.stands);
      rule = p.rule ∙ r.rule;
      answers = p.answers ∙ r.answers;
      pads = p.pads ∙ r.pads;
      found = r.found;
    })

-- with a fault
pub answered_fault : (r : Result (List Item) Fault) (fault : ElementFault) → IsFaultOf r fault → IsFaultOf (answered (fault_of r)) fault
answered_fault (Ok xs) (Refused offered wanted) h = absurd (cc)
answered_fault (Ok xs) (Broken place kind) h = absurd (cc)
answered_fault (Ok xs) (Passing a b) h = absurd (cc)
answered_fault (Ok xs) Wanting h = tt
answered_fault (Err f) fault h = h

restored_none : (gaps : Mark) (fault : ElementFault) → gaps ≡ None → restored gaps fault ≡ fault
restored_none None fault e = refl
restored_none (Some b) fault e = absurd (cc)

stood_err : (join : JoinElement) (j : ℕ) (marks : List Mark) (begun : Bool) (given : List (List Call)) (put : List Item) (x : Item) (fault : ElementFault) → is_flush_stop x ≡ false
    → length marks < join_pads join → ((took : List (List Call)) (put : List Item) → JoinStands join took put → IsFaultOf (join_answers join took (length marks) x) fault)
    → Stood join j marks begun given put → IsFaultOf (join_answers join given (length marks) x) (restored (gaps_of marks) fault)
stood_err (Concat a) j marks begun given put x fault plain within is s =
    subst (λ f. IsFaultOf (join_answers (Concat a) given (length marks) x) f) (sym (restored_none (gaps_of marks) fault s.2)) (is given put s.0)
stood_err (Mix a) j marks begun given put x fault plain within is s =
    let many : length s.took ≡ mix_pads a = joins_have_pads (Mix a) s.took put s.mixes in
    let near = answers_near a s.took given put j marks begun x s.mixes s.near plain (subst (λ n. length marks < n) (sym many) within) in
    near.1 fault (is s.took put s.mixes)

pub runs_refused : (settings : Settings) (j : ℕ) (gaps : Mark) (old : JoinElement) (pad : ℕ) (marks : List Mark) (begun : Bool) (turns : List Turn) (x copy : Item) (out : List Out) (fault : ElementFault)
    → copy ≡ x → length marks ≡ pad → pad < join_pads old → is_flush_stop x ≡ false
    → ((took : List (List Call)) (put : List Item) → JoinStands old took put → IsFaultOf (join_answers old took pad copy) fault)
    → Runs settings j gaps old marks begun turns out → IsFaultOf (answered (first_fault_in settings (turns ++ Give pad x ∷ []))) (restored gaps fault)
runs_refused settings j gaps old pad marks begun turns x copy out fault same is within plain fails r =
    let given = all_turned (nothing_given settings) turns in
    let f : (took : List (List Call)) (put : List Item) → JoinStands old took put → IsFaultOf (join_answers old took (length marks) x) fault = rw (← is, same) at fails in
    let w : length marks < join_pads old = rw is within in
    let h : IsFaultOf (join_answers old given (length marks) x) (restored (gaps_of marks) fault) = stood_err old j marks begun given r.put x fault plain w f r.stands in
    let a : IsFaultOf (answers_of settings given (length marks) x) (restored gaps fault) =
    subst (λ (a : List (List Call) → ℕ → Item → Result (List Item) Fault). IsFaultOf (a given (length marks) x) (restored gaps fault)) r.answers
    (subst (λ g. IsFaultOf (join_answers old given (length marks) x) (restored g fault)) r.found h) in
    subst (λ n. IsFaultOf (answered (first_fault_in settings (turns ++ Give n x ∷ []))) (restored gaps fault)) is
    (subst (λ o. IsFaultOf (answered o) (restored gaps fault)) (sym (none_then settings turns (Give (length marks) x) r.whole)) (answered_fault (answers_of settings given (length marks) x) (restored gaps fault) a))

-- behind a pad's items
gaps_known : (marks : List Mark) → gaps_of (marks ++ None ∷ []) ≡ gaps_of marks
gaps_known [] = refl
gaps_known (None ∷ marks) = gaps_known marks
gaps_known (Some b ∷ marks) = ap (both b) (gaps_known marks)

gaps_more : (marks : List Mark) (b : Bool) → gaps_of (marks ++ Some b ∷ []) ≡ with_gap (gaps_of marks) b
gaps_more [] b = refl
gaps_more (None ∷ marks) b = gaps_more marks b
gaps_more (Some a ∷ marks) b = ap (both a) (gaps_more marks b) ∙ go a (gaps_of marks)
  where
    go : (a : Bool) (m : Mark) → both a (with_gap m b) ≡ with_gap (both a m) b
    go a None = refl
    go true (Some c) = refl
    go false (Some c) = refl

stood_known : (join : JoinElement) (j : ℕ) (marks : List Mark) (begun : Bool) (given : List (List Call)) (put : List Item) → length marks < join_pads join
    → Stood join j marks begun given put → Stood join j (marks ++ None ∷ []) false given put
stood_known (Concat a) j marks begun given put within s = (s.0, s.1, gaps_known marks ∙ s.2)
stood_known (Mix a) j marks begun given put within s =
    let many : length s.took ≡ mix_pads a = joins_have_pads (Mix a) s.took put s.mixes in
    record { took = s.took; mixes = s.mixes; near = each_known j (subst (λ n. length marks < n) (sym many) within) s.near }

pub runs_known : (settings : Settings) (j : ℕ) (gaps : Mark) (join : JoinElement) (pad : ℕ) (marks : List Mark) (begun : Bool) (turns : List Turn) (out : List Out)
    → length marks ≡ pad → pad < join_pads join → Runs settings j gaps join marks begun turns out
    → (mark : Mark) × Runs settings j gaps join (marks ++ mark ∷ []) false turns out
runs_known settings j gaps join pad marks begun turns out is within r = (
  None,
  record {
    put = r.put;
    stands = stood_known join j marks begun (all_turned (nothing_given settings) turns) r.put (rw is within) r.stands;
    outs = r.outs;
    whole = r.whole;
    rule = r.rule;
    answers = r.answers;
    pads = r.pads;
    found = gaps_known marks ∙ r.found;
  },
)

stood_closed : (old new : JoinElement) (j : ℕ) (marks : List Mark) (begun : Bool) (given : List (List Call)) (put more : List Item)
    → length marks < join_pads old → may_take (length marks) old ≡ true → may_take (suc (length marks)) old ≡ false → join_rule new ≡ join_rule old
    → ((took : List (List Call)) (put : List Item) → JoinStands old took put → JoinStands new (push_calls (length marks) (Feed (Ev Eos) ∷ []) took) (put ++ more))
    → Stood old j marks begun given put → Stood new j (marks ++ Some begun ∷ []) false given (put ++ more)
stood_closed (Concat a) new j marks begun given put more within below here same stands s = absurd (cc)
stood_closed (Mix a) (Concat b) j marks begun given put more within below here same stands s = absurd (mix_apart (sym same))
stood_closed (Mix a) (Mix b) j marks begun given put more within below here same stands s =
    let many : length s.took ≡ mix_pads a = joins_have_pads (Mix a) s.took put s.mixes in
    let w : length marks < length s.took = subst (λ n. length marks < n) (sym many) within in
    let is : section_of s.took ≡ j = section_is j s.took (omega (arith, w)) (each_in j s.near).0 in
    let unknown = lowest_unknown (length marks) (section_of s.took) a.at.next a.channels.items s.took s.mixes.remembers.each s.mixes.holds.waits below here in
    record {
      took = push_calls (length marks) (Feed (Ev Eos) ∷ []) s.took;
      mixes = stands s.took put s.mixes;
      near = each_close j w unknown.0 (rw is at unknown.1) s.near;
    }

pub runs_closed : (settings : Settings) (j : ℕ) (gaps : Mark) (old new : JoinElement) (pad : ℕ) (marks : List Mark) (begun : Bool) (turns : List Turn) (out out' : List Out) (b : Bool)
    → length marks ≡ pad → pad < join_pads old → may_take pad old ≡ true → false ≡ may_take (pad + 1) old → Some b ≡ with_gap gaps begun → JoinPuts old new pad (Ev Eos) out out'
    → Runs settings j gaps old marks begun turns out
    → (mark : Mark) × Runs settings j (Some b) new (marks ++ mark ∷ []) false turns out'
runs_closed settings j gaps old new pad marks begun turns out out' b is within below here gap puts r =
    let p : JoinPuts old new (length marks) (Ev Eos) out out' = rw (← is) at puts in
    let w : length marks < join_pads old = rw is within in
    let lower : may_take (length marks) old ≡ true = rw is below in
    let next : may_take (suc (length marks)) old ≡ false = ap (λ n. may_take (suc n) old) is ∙ ap (λ n. may_take n old) (add-one_back pad) ∙ sym here in (
      Some begun,
      record {
        put = r.put ++ p.more;
        stands = stood_closed old new j marks begun (all_turned (nothing_given settings) turns) r.put p.more w lower next p.rule p.stands r.stands;
        outs = p.outs ∙ ap (λ os. os ++ on_pad 0 p.more) r.outs ∙ sym (on_pad_append 0 r.put p.more);
        whole = r.whole;
        rule = p.rule ∙ r.rule;
        answers = p.answers ∙ r.answers;
        pads = p.pads ∙ r.pads;
        found = gaps_more marks begun ∙ ap (λ g. with_gap g begun) r.found ∙ sym gap;
      },
    )
  where
    add-one_back : (n : ℕ) → suc n ≡ n + 1
    add-one_back n = omega arith

-- behind a flush
pub concat_flushed : (settings : Settings) (join : JoinElement) (a b : ConcatElement) → join ≡ Concat a → concat_pads b ≡ concat_pads a
    → ((took : List (List Call)) (number : ℕ) → JoinRemembers a took → Joins b (push_each (Feed (Ev (FlushStop number)) ∷ []) took) [])
    → (j : ℕ) (gaps : Mark) (marks : List Mark) (turns : List Turn) (out : List Out) (number : ℕ) → Runs settings j gaps join marks false turns out
    → Runs settings (suc j) None (Concat b) [] false (turns ++ Flush number ∷ []) []
concat_flushed settings join a b is pads flushed j gaps marks turns out number r =
    let given = all_turned (nothing_given settings) turns in
    let s : Stood (Concat a) j marks false given r.put = subst (λ e. Stood e j marks false given r.put) is r.stands in
    record {
      put = [];
      stands = subst (λ g. Stood (Concat b) (suc j) [] false g []) (sym (turned_behind (nothing_given settings) turns (Flush number ∷ [])))
          (flushed given number s.0.remembers, next_in j number given s.1, refl);
      outs = refl;
      whole = none_then settings turns (Flush number) r.whole;
      rule = sym (ap join_rule is) ∙ r.rule;
      answers = sym (ap join_answers is) ∙ r.answers;
      pads = pads ∙ sym (ap join_pads is) ∙ r.pads;
      found = refl;
    }

pub mix_flushed : (settings : Settings) (join : JoinElement) (a b : MixElement) → join ≡ Mix a → mix_pads b ≡ mix_pads a
    → ((took : List (List Call)) (number : ℕ) → MixRemembers a took → Mixes b (push_each (Feed (Ev (FlushStop number)) ∷ []) took) [])
    → (j : ℕ) (gaps : Mark) (marks : List Mark) (turns : List Turn) (out : List Out) (number : ℕ) → Runs settings j gaps join marks false turns out
    → Runs settings (suc j) None (Mix b) [] false (turns ++ Flush number ∷ []) []
mix_flushed settings join a b is pads flushed j gaps marks turns out number r =
    let given = all_turned (nothing_given settings) turns in
    let s : Stood (Mix a) j marks false given r.put = subst (λ e. Stood e j marks false given r.put) is r.stands in
    let stood : MixStood b (suc j) [] false (push_each (Feed (Ev (FlushStop number)) ∷ []) given) [] =
    record { took = push_each (Feed (Ev (FlushStop number)) ∷ []) s.took; mixes = flushed s.took number s.mixes.remembers; near = each_flush j number s.near } in
    record {
      put = [];
      stands = subst (λ g. Stood (Mix b) (suc j) [] false g []) (sym (turned_behind (nothing_given settings) turns (Flush number ∷ []))) stood;
      outs = refl;
      whole = none_then settings turns (Flush number) r.whole;
      rule = sym (ap join_rule is) ∙ r.rule;
      answers = sym (ap join_answers is) ∙ r.answers;
      pads = pads ∙ sym (ap join_pads is) ∙ r.pads;
      found = refl;
    }

stood_owed : (join : JoinElement) (j : ℕ) (marks : List Mark) (begun : Bool) (given : List (List Call)) (put : List Item) → 0 < join_pads join → Stood join j marks begun given put
    → take (owed_count (length put) (gaps_of marks)) put ≡ join_rule join given 0 j
stood_owed (Concat a) j marks begun given put some s =
    let many : length given ≡ concat_pads a = joins_have_pads (Concat a) given put s.0 in
    let is : open_section given ≡ j = concat_open j given (subst (λ n. 0 < n) (sym many) some) s.1 in
    ap (λ g. take (owed_count (length put) g) put) s.2 ∙ take_all (length put) put (omega arith) ∙ sym (puts_in_order.all a given put s.0 0) ∙ ap (λ n. concat_rule given 0 n) is
stood_owed (Mix a) j marks begun given put some s =
    let many : length s.took ≡ mix_pads a = joins_have_pads (Mix a) s.took put s.mixes in
    owed_near a s.took given put j marks begun s.mixes s.near (subst (λ n. 0 < n) (sym many) some)

pub runs_owed : (settings : Settings) (j : ℕ) (gaps : Mark) (join : JoinElement) (marks : List Mark) (turns : List Turn) (out : List Out) → 0 < join_pads join
    → Runs settings j gaps join marks false turns out
    → take (owed_count (length out) gaps) (map (λ (o : Out). o.item) out) ≡ rule_of settings (all_turned (nothing_given settings) turns) 0 j
runs_owed settings j gaps join marks turns out some r =
    let many : length out ≡ length r.put = ap length r.outs ∙ length-map r.put (λ x. record { pad = 0; item = x }) in
    let items : map (λ (o : Out). o.item) out ≡ r.put = ap (λ (os : List Out). map (λ (o : Out). o.item) os) r.outs ∙ items_on_pad 0 r.put in
    ap (λ n. take (owed_count n gaps) (map (λ (o : Out). o.item) out)) many ∙ ap (λ xs. take (owed_count (length r.put) gaps) xs) items
    ∙ ap (λ g. take (owed_count (length r.put) g) r.put) (sym r.found)
    ∙ stood_owed join j marks false (all_turned (nothing_given settings) turns) r.put some r.stands
    ∙ ap (λ (rule : Rule). rule (all_turned (nothing_given settings) turns) 0 j) r.rule

stood_first : (join : JoinElement) (n : ℕ) → JoinStands join (replicate n []) [] → Stood join 0 [] false (replicate n []) []
stood_first (Concat a) n s = (s, none_in n, refl)
stood_first (Mix a) n s = record { took = replicate n []; mixes = s; near = each_new n }

pub runs_first : (settings : Settings) (join : JoinElement) → MadeJoin settings join → Runs settings 0 None join [] false [] []
runs_first settings join m = record {
  put = [];
  stands = stood_first join (sink_pads settings) m.stands;
  outs = refl;
  whole = refl;
  rule = m.rule;
  answers = m.answers;
  pads = m.pads;
  found = refl;
}
