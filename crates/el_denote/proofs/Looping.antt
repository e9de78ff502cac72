-- The loops over items, pads and sections.
use Rattle.std.proofs.Common.{◌≡◌, ◌<◌, ◌≤◌, ℕ, zero, suc, ◌+◌, ◌-◌, Bool, true, false, List, [], ◌∷◌, ◌++◌, length, map, take, drop, get_or, replicate, None, Ok, Err, refl, sym, ap, ◌∙◌, subst, append_assoc, append-nil, arith}
use Rattle.std.proofs.lemmas.List.{take_all, length-append}
use Rattle.gst_item.specs.declared.out.Out.{Out}
use Rattle.flow_model.specs.declared.fault.ElementFault.{ElementFault}
use Rattle.flow_model.specs.Item.{Item, Ev, FlushStop}
use Rattle.flow_model.specs.Sticky.{has_flush_stop}
use Rattle.flow_model.specs.Section.{section, to_eos}
use Rattle.flow_model.specs.Feeding.{IsFaultOf}
use Rattle.el_join.specs.Concats.{concat, concat_rule}
use Rattle.el_join.specs.Sections.{with_inherited}
use Rattle.el_mix.specs.Mixes.{interleaved, mixes}
use Rattle.el_settings.specs.declared.settings.Settings.{Settings}
use Rattle.el_settings.specs.declared.settings.Settings.TheVariants.{Interleave, Concat}
use Rattle.el_settings.specs.Asked.{makes_sinks, sink_pads}
use Rattle.el_set.specs.declared.join.JoinElement.{JoinElement}
use Rattle.el_set.specs.Joins.{join_pads}
use Rattle.el_set.specs.Made.{MadeJoin}
use Rattle.el_denote.specs.Denoted.{answered}
use Rattle.el_denote.specs.Joined.{first_fault_in, owed_in, IsJoined}
use Rattle.el_denote.specs.Turns.{Turn, Give, Flush, all_turned, section_turns, stop_behind, most_stops, turns_before, turns_to, woven}
use Rattle.el_denote.specs.Near.{Mark, owed_count}
use Rattle.el_denote.specs.Running.{Runs, AtSection, SectionDone, owed_given}
use Rattle.el_denote.proofs.Turns.{fault_stays, give_more, give_split, section_more, section_split}
use Rattle.el_denote.proofs.Going.{runs_first, runs_owed}
use Rattle.el_denote.proofs.WholeGiven.{given_whole}
use Rattle.el_denote.proofs.WholeInherited.{lists_same}
use Rattle.flow_model.proofs.Items.{section_plain}

-- items of a pad
pub items_first : (settings : Settings) (j : ℕ) (gaps : Mark) (join : JoinElement) (marks : List Mark) (turns : List Turn) (pad : ℕ) (items : List Item) (out : List Out)
    → Runs settings j gaps join marks false turns out → Runs settings j gaps join marks false (turns ++ map (Give pad) (take 0 items)) out
items_first settings j gaps join marks turns pad items out r = subst (λ ts. Runs settings j gaps join marks false ts out) (sym (append-nil turns)) r

pub items_next : (settings : Settings) (j : ℕ) (gaps : Mark) (join : JoinElement) (marks : List Mark) (begun : Bool) (turns : List Turn) (pad : ℕ) (items : List Item) (i : ℕ) (x : Item) (out : List Out)
    → i < length items → x ≡ get_or items i x
    → Runs settings j gaps join marks begun ((turns ++ map (Give pad) (take i items)) ++ Give pad x ∷ []) out → Runs settings j gaps join marks begun (turns ++ map (Give pad) (take (i + 1) items)) out
items_next settings j gaps join marks begun turns pad items i x out within is r =
    subst (λ ts. Runs settings j gaps join marks begun ts out) (sym (give_more pad turns items i x within is)) r

pub items_all : (settings : Settings) (j : ℕ) (gaps : Mark) (join : JoinElement) (marks : List Mark) (begun : Bool) (turns : List Turn) (pad : ℕ) (items : List Item) (i : ℕ) (out : List Out)
    → length items ≤ i → Runs settings j gaps join marks begun (turns ++ map (Give pad) (take i items)) out → Runs settings j gaps join marks begun (turns ++ map (Give pad) items) out
items_all settings j gaps join marks begun turns pad items i out end r =
    subst (λ xs. Runs settings j gaps join marks begun (turns ++ map (Give pad) xs) out) (take_all i items end) r

pub items_fault : (settings : Settings) (turns : List Turn) (pad : ℕ) (items : List Item) (i : ℕ) (x : Item) (fault : ElementFault) → i < length items → x ≡ get_or items i x
    → IsFaultOf (answered (first_fault_in settings ((turns ++ map (Give pad) (take i items)) ++ Give pad x ∷ []))) fault
    → IsFaultOf (answered (first_fault_in settings (turns ++ map (Give pad) items))) fault
items_fault settings turns pad items i x fault within is p =
    subst (λ ts. IsFaultOf (answered (first_fault_in settings ts)) fault) (sym (give_split pad turns items i x within is))
    (fault_stays settings ((turns ++ map (Give pad) (take i items)) ++ Give pad x ∷ []) (map (Give pad) (drop (i + 1) items)) fault p)

-- pads of a section
abbrev pub Padded : Settings → ℕ → Mark → JoinElement → List Turn → List (List Item) → ℕ → List Out → Type 0
Padded settings j gaps join turns inputs i out =
    (marks : List Mark) × (length marks ≡ i) × Runs settings j gaps join marks false (turns ++ section_turns j 0 (take i inputs)) out

pub pads_first : (settings : Settings) (j : ℕ) (join : JoinElement) (turns : List Turn) (inputs : List (List Item)) (out : List Out)
    → Runs settings j None join [] false turns out → Padded settings j None join turns inputs 0 out
pads_first settings j join turns inputs out r = ([], refl, subst (λ ts. Runs settings j None join [] false ts out) (sym (append-nil turns)) r)

pub pads_next : (settings : Settings) (j : ℕ) (gaps : Mark) (join : JoinElement) (marks : List Mark) (turns : List Turn) (inputs : List (List Item)) (i pad : ℕ) (xs : List Item) (out : List Out)
    → length marks ≡ i → pad ≡ i → i < length inputs → xs ≡ get_or inputs i xs
    → (mark : Mark) × Runs settings j gaps join (marks ++ mark ∷ []) false ((turns ++ section_turns j 0 (take i inputs)) ++ map (Give pad) (section j xs)) out
    → Padded settings j gaps join turns inputs (i + 1) out
pads_next settings j gaps join marks turns inputs i pad xs out many at within is r =
    let here : 0 + i ≡ pad = omega (arith, at) in
    let more : (turns ++ section_turns j 0 (take i inputs)) ++ map (Give pad) (section j xs) ≡ turns ++ section_turns j 0 (take (i + 1) inputs) =
    append_assoc turns (section_turns j 0 (take i inputs)) (map (Give pad) (section j xs))
    ∙ ap (λ n. turns ++ (section_turns j 0 (take i inputs) ++ map (Give n) (section j xs))) (sym here)
    ∙ ap (λ ts. turns ++ ts) (sym (section_more j 0 inputs i xs within is)) in
    let longer = length-append marks (r.0 ∷ []) in
    (marks ++ r.0 ∷ [], longer ∙ ap (λ n. n + 1) many, subst (λ ts. Runs settings j gaps join (marks ++ r.0 ∷ []) false ts out) more r.1)

pub pads_fault : (settings : Settings) (j : ℕ) (turns : List Turn) (inputs : List (List Item)) (i pad : ℕ) (xs : List Item) (fault : ElementFault) → pad ≡ i → i < length inputs → xs ≡ get_or inputs i xs
    → IsFaultOf (answered (first_fault_in settings ((turns ++ section_turns j 0 (take i inputs)) ++ map (Give pad) (section j xs)))) fault
    → IsFaultOf (answered (first_fault_in settings (turns ++ section_turns j 0 inputs))) fault
pads_fault settings j turns inputs i pad xs fault at within is p =
    let here : 0 + i ≡ pad = omega (arith, at) in
    let before : List Turn = section_turns j 0 (take i inputs) ++ map (Give (0 + i)) (section j xs) in
    let first : (turns ++ section_turns j 0 (take i inputs)) ++ map (Give pad) (section j xs) ≡ turns ++ before =
    append_assoc turns (section_turns j 0 (take i inputs)) (map (Give pad) (section j xs))
    ∙ ap (λ n. turns ++ (section_turns j 0 (take i inputs) ++ map (Give n) (section j xs))) (sym here) in
    let whole : (turns ++ before) ++ section_turns j (suc (0 + i)) (drop (i + 1) inputs) ≡ turns ++ section_turns j 0 inputs =
    append_assoc turns before (section_turns j (suc (0 + i)) (drop (i + 1) inputs)) ∙ ap (λ ts. turns ++ ts) (sym (section_split j 0 inputs i xs within is)) in
    subst (λ ts. IsFaultOf (answered (first_fault_in settings ts)) fault) whole
    (fault_stays settings (turns ++ before) (section_turns j (suc (0 + i)) (drop (i + 1) inputs)) fault (subst (λ ts. IsFaultOf (answered (first_fault_in settings ts)) fault) first p))

pub pads_all : (settings : Settings) (j : ℕ) (gaps : Mark) (join : JoinElement) (turns : List Turn) (inputs : List (List Item)) (i : ℕ) (out : List Out) → length inputs ≤ i
    → Padded settings j gaps join turns inputs i out → (marks : List Mark) × Runs settings j gaps join marks false (turns ++ section_turns j 0 inputs) out
pads_all settings j gaps join turns inputs i out end p =
    (p.0, subst (λ xss. Runs settings j gaps join p.0 false (turns ++ section_turns j 0 xss) out) (take_all i inputs end) p.2)

-- a section
pub section_done : (settings : Settings) (inputs : List (List Item)) (j : ℕ) (gaps : Mark) (old join : JoinElement) (put : List Out) (out out' : List Item) → 0 < join_pads join
    → AtSection settings inputs j old out → (marks : List Mark) × Runs settings j gaps join marks false (turns_before j inputs ++ section_turns j 0 inputs) put
    → out' ≡ out ++ take (owed_count (length put) gaps) (map (λ (o : Out). o.item) put) → SectionDone settings inputs j join out'
section_done settings inputs j gaps old join put out out' some at r made = record {
  gaps = gaps;
  marks = r.0;
  put = put;
  runs = r.1;
  outs = made ∙ ap (λ xs. xs ++ take (owed_count (length put) gaps) (map (λ (o : Out). o.item) put)) at.outs
      ∙ ap (λ xs. woven (owed_given settings inputs) inputs j ++ xs) (runs_owed settings j gaps join r.0 (turns_to j inputs) put some r.1);
}

pub section_next : (settings : Settings) (inputs : List (List Item)) (j : ℕ) (old new : JoinElement) (out out' : List Item) (number : ℕ) → number ≡ stop_behind j inputs
    → SectionDone settings inputs j old out → out' ≡ out ++ Ev (FlushStop number) ∷ []
    → ((settings : Settings) (j : ℕ) (gaps : Mark) (marks : List Mark) (turns : List Turn) (put : List Out) (number : ℕ) → Runs settings j gaps old marks false turns put
    → Runs settings (suc j) None new [] false (turns ++ Flush number ∷ []) [])
    → AtSection settings inputs (suc j) new out'
section_next settings inputs j old new out out' number is d made flushed =
    let n = stop_behind j inputs in
    let turns : turns_to j inputs ++ Flush n ∷ [] ≡ turns_before (suc j) inputs = append_assoc (turns_before j inputs) (section_turns j 0 inputs) (Flush n ∷ []) in
    record {
      runs = subst (λ ts. Runs settings (suc j) None new [] false ts []) turns (flushed settings j d.gaps d.marks (turns_to j inputs) d.put n d.runs);
      outs = made ∙ ap (λ k. out ++ Ev (FlushStop k) ∷ []) is ∙ ap (λ xs. xs ++ Ev (FlushStop n) ∷ []) d.outs
          ∙ append_assoc (woven (owed_given settings inputs) inputs j) (owed_given settings inputs j) (Ev (FlushStop n) ∷ []);
    }

-- a fault in a section is the first of all
turns_grow : (j : ℕ) (inputs : List (List Item)) (n : ℕ) → (more : List Turn) × (turns_before (j + n) inputs ≡ turns_before j inputs ++ more)
turns_grow j inputs zero = ([], ap (λ k. turns_before k inputs) (same j) ∙ sym (append-nil (turns_before j inputs)))
  where
    same : (j : ℕ) → j + 0 ≡ j
    same j = omega arith
turns_grow j inputs (suc n) =
    let r = turns_grow j inputs n in
    let last : List Turn = section_turns (j + n) 0 inputs ++ Flush (stop_behind (j + n) inputs) ∷ [] in
    (r.0 ++ last, ap (λ k. turns_before k inputs) (next j n) ∙ ap (λ ts. ts ++ last) r.1 ∙ append_assoc (turns_before j inputs) r.0 last)
  where
    next : (j n : ℕ) → j + suc n ≡ suc (j + n)
    next j n = omega arith

pub fault_first : (settings : Settings) (inputs : List (List Item)) (j last : ℕ) (fault : ElementFault) → j < last
    → IsFaultOf (answered (first_fault_in settings (turns_to j inputs))) fault → IsFaultOf (answered (first_fault_in settings (turns_to last inputs))) fault
fault_first settings inputs j last fault within p =
    let n : ℕ = last - suc j in
    let is : last ≡ suc j + n = omega (arith, within) in
    let r = turns_grow (suc j) inputs n in
    let stop : List Turn = Flush (stop_behind j inputs) ∷ [] in
    let rest : List Turn = stop ++ (r.0 ++ section_turns last 0 inputs) in
    let whole : turns_to last inputs ≡ turns_to j inputs ++ rest =
    ap (λ ts. ts ++ section_turns last 0 inputs) (ap (λ k. turns_before k inputs) is ∙ r.1 ∙ ap (λ ts. ts ++ r.0) (sym (append_assoc (turns_before j inputs) (section_turns j 0 inputs) stop)))
    ∙ append_assoc (turns_to j inputs ++ stop) r.0 (section_turns last 0 inputs) ∙ append_assoc (turns_to j inputs) stop (r.0 ++ section_turns last 0 inputs) in
    subst (λ ts. IsFaultOf (answered (first_fault_in settings ts)) fault) (sym whole) (fault_stays settings (turns_to j inputs) rest fault p)

-- what the pads were given up to the end of a section owes what the whole lists owe in it
pub whole_lists : (settings : Settings) → makes_sinks settings ≡ true → (inputs : List (List Item)) → length inputs ≡ sink_pads settings → (j : ℕ)
    → owed_given settings inputs j ≡ owed_in settings inputs j
whole_lists (Interleave pads) kind inputs many j =
    ap (λ g. mixes g 0 j) (ap (λ n. all_turned (replicate n []) (turns_to j inputs)) (sym many) ∙ given_whole j inputs)
    ∙ ap interleaved (lists_same (λ a b c s. (a ++ (b ++ c)) ++ to_eos s) (λ i. stop_behind i inputs) j inputs)
whole_lists (Concat pads) kind inputs many j =
    ap (λ g. concat_rule g 0 j) (ap (λ n. all_turned (replicate n []) (turns_to j inputs)) (sym many) ∙ given_whole j inputs)
    ∙ ap concat (lists_same (λ a b c s. with_inherited (a ++ (b ++ c)) (to_eos s)) (λ i. stop_behind i inputs) j inputs)
whole_lists _ kind inputs many j = absurd (cc)

woven_same : (f g : ℕ → List Item) → ((j : ℕ) → f j ≡ g j) → (inputs : List (List Item)) (j : ℕ) → woven f inputs j ≡ woven g inputs j
woven_same f g e inputs zero = refl
woven_same f g e inputs (suc j) =
    let stop : List Item = Ev (FlushStop (stop_behind j inputs)) ∷ [] in
    ap (λ xs. xs ++ (f j ++ stop)) (woven_same f g e inputs j) ∙ ap (λ xs. woven g inputs j ++ (xs ++ stop)) (e j)

pub joined_ok : (settings : Settings) (inputs : List (List Item)) (last : ℕ) (join : JoinElement) (out : List Item) → makes_sinks settings ≡ true → length inputs ≡ join_pads join
    → last ≡ most_stops inputs → SectionDone settings inputs last join out → IsJoined settings inputs (Ok out)
joined_ok settings inputs last join out kind many is d =
    let same : (j : ℕ) → owed_given settings inputs j ≡ owed_in settings inputs j = whole_lists settings kind inputs (many ∙ d.runs.pads) in
    let whole : out ≡ woven (owed_in settings inputs) inputs last ++ owed_in settings inputs last =
    d.outs ∙ ap (λ xs. xs ++ owed_given settings inputs last) (woven_same (owed_given settings inputs) (owed_in settings inputs) same inputs last)
    ∙ ap (λ xs. woven (owed_in settings inputs) inputs last ++ xs) (same last) in
    rw (← is) (d.runs.whole, whole)

pub joined_err : (settings : Settings) (inputs : List (List Item)) (j last : ℕ) (fault : ElementFault) → last ≡ most_stops inputs → j < last
    → IsFaultOf (answered (first_fault_in settings (turns_to j inputs))) fault → IsJoined settings inputs (Err fault)
joined_err settings inputs j last fault is within p = rw (← is) (fault_first settings inputs j last fault within p)

-- a pad's items in a section
pub part_plain : (j : ℕ) (list made slice : List Item) → slice ≡ made → made ≡ section j list → has_flush_stop slice ≡ false
part_plain j list made slice same is = rw (same, is) (section_plain j list)

pub pad_closed : (j : ℕ) (list made slice : List Item) → slice ≡ made → made ≡ section j list → (settings : Settings) (gaps : Mark) (join : JoinElement) (pad : ℕ) (marks : List Mark) (turns : List Turn) (out : List Out)
    → (mark : Mark) × Runs settings j gaps join (marks ++ mark ∷ []) false (turns ++ map (Give pad) slice) out
    → (mark : Mark) × Runs settings j gaps join (marks ++ mark ∷ []) false (turns ++ map (Give pad) (section j list)) out
pad_closed j list made slice same is settings gaps join pad marks turns out r =
    (r.0, subst (λ xs. Runs settings j gaps join (marks ++ r.0 ∷ []) false (turns ++ map (Give pad) xs) out) (same ∙ is) r.1)

pub pad_fault : (j : ℕ) (list made slice : List Item) → slice ≡ made → made ≡ section j list → (settings : Settings) (pad : ℕ) (turns : List Turn) (fault : ElementFault)
    → IsFaultOf (answered (first_fault_in settings (turns ++ map (Give pad) slice))) fault → IsFaultOf (answered (first_fault_in settings (turns ++ map (Give pad) (section j list)))) fault
pad_fault j list made slice same is settings pad turns fault p =
    subst (λ xs. IsFaultOf (answered (first_fault_in settings (turns ++ map (Give pad) xs))) fault) (same ∙ is) p

pub from_empty : (settings : Settings) (j : ℕ) (join : JoinElement) (turns : List Turn) (out : List Out) → out ≡ [] → Runs settings j None join [] false turns [] → Runs settings j None join [] false turns out
from_empty settings j join turns out is r = subst (λ os. Runs settings j None join [] false turns os) (sym is) r

pub at_empty : (settings : Settings) (inputs : List (List Item)) (join : JoinElement) (out : List Item) → out ≡ [] → AtSection settings inputs 0 join [] → AtSection settings inputs 0 join out
at_empty settings inputs join out is at = subst (λ xs. AtSection settings inputs 0 join xs) (sym is) at

pub at_next : (settings : Settings) (inputs : List (List Item)) (j : ℕ) (join : JoinElement) (out : List Item) → AtSection settings inputs (suc j) join out → AtSection settings inputs (j + 1) join out
at_next settings inputs j join out at = subst (λ n. AtSection settings inputs n join out) (next j) at
  where
    next : (n : ℕ) → suc n ≡ n + 1
    next n = omega arith

pub at_last : (settings : Settings) (inputs : List (List Item)) (j last : ℕ) (join : JoinElement) (out : List Item) → j ≤ last → last ≤ j → AtSection settings inputs j join out
    → AtSection settings inputs last join out
at_last settings inputs j last join out a b at = let is : j ≡ last = omega (arith, a, b) in subst (λ n. AtSection settings inputs n join out) is at

-- at first
pub few_sinks : (s : Settings) → makes_sinks s ≡ true → sink_pads s ≤ 64
few_sinks (Interleave pads) e = pads.few
few_sinks (Concat pads) e = pads.few
few_sinks _ e = absurd (cc)

pub first_at : (settings : Settings) (inputs : List (List Item)) (element : JoinElement) → MadeJoin settings element → AtSection settings inputs 0 element []
first_at settings inputs element made = record { runs = runs_first settings element made; outs = refl }

pub joined_last : (settings : Settings) (inputs : List (List Item)) (last : ℕ) (fault : ElementFault) → last ≡ most_stops inputs
    → IsFaultOf (answered (first_fault_in settings (turns_to last inputs))) fault → IsJoined settings inputs (Err fault)
joined_last settings inputs last fault is p = rw (← is) p
