-- Elements with one sink pad: what they owe for more, and for a flush.
use Rattle.std.proofs.Common.{◌≡◌, ◌+◌, ℕ, suc, List, [], ◌∷◌, ◌++◌, length, sym, ap, ◌∙◌, subst, append_assoc, arith}
use Rattle.flow_model.specs.Item.{Item, Ev, FlushStop}
use Rattle.flow_model.specs.Call.{Call, Feed}
use Rattle.flow_model.specs.Prefix.{IsPrefix}
use Rattle.flow_model.specs.Rule.{Response, Fed, unfed, owed_for}
use Rattle.flow_model.specs.Section.{section, flush_stops}
use Rattle.flow_model.proofs.Prefixes.{rest_of, prefix_by, prefix_append}
use Rattle.flow_model.proofs.Sections.{section_prefix, owed_for_prefix, called_push, single_prefix}
use Rattle.flow_model.specs.Pad.{Grows, Ends}
use Rattle.flow_model.specs.Single.{SingleInOrder, SingleGrows, SingleEnds}
use Rattle.flow_model.proofs.Items.{section_before, section_flushed as section_next, section_last}

pub single_in_order : SingleInOrder
single_in_order respond took whole begins port j = single_prefix respond begins port j

-- a list grows in its last section
pub grows_last : (j : ℕ) (cs : List (ℕ × ℕ)) (w more : List Item) → flush_stops w ≡ j + length cs → flush_stops more ≡ 0 → Grows j cs (λ i. section i w) (λ i. section i (w ++ more)) more
grows_last j [] w more e n = section_last j w more (e ∙ omega arith) n
grows_last j (c ∷ cs) w more e n = (section_before j w more (omega arith), grows_last (suc j) cs w more (e ∙ omega arith) n)

pub single_grows : SingleGrows
single_grows respond cuts took calls out e n g port =
    subst (λ (zs : List Item). Grows 0 cuts (λ i. section i (owed_for respond took)) (λ i. section i zs) out) (sym g) (grows_last 0 cuts (owed_for respond took) out (e ∙ omega arith) n)

-- a list ends in its last section
pub ends_last : (j : ℕ) (cs : List (ℕ × ℕ)) (w whole : List Item) (k : ℕ) → IsPrefix w whole → flush_stops w ≡ j + length cs → flush_stops whole ≡ j + length cs
    → Ends j cs (λ i. section i w) (λ i. section i (whole ++ Ev (FlushStop k) ∷ [])) []
ends_last j [] w whole k p e f =
    let r = rest_of p in
    let long : w ++ (r.0 ++ Ev (FlushStop k) ∷ []) ≡ whole ++ Ev (FlushStop k) ∷ [] = sym (append_assoc w r.0 (Ev (FlushStop k) ∷ [])) ∙ ap (λ zs. zs ++ Ev (FlushStop k) ∷ []) r.1 in
    (section_prefix j (prefix_by w (r.0 ++ Ev (FlushStop k) ∷ []) long), section_next j whole k (f ∙ omega arith))
ends_last j (c ∷ cs) w whole k p e f =
    let r = rest_of p in
    let long : w ++ (r.0 ++ Ev (FlushStop k) ∷ []) ≡ whole ++ Ev (FlushStop k) ∷ [] = sym (append_assoc w r.0 (Ev (FlushStop k) ∷ [])) ∙ ap (λ zs. zs ++ Ev (FlushStop k) ∷ []) r.1 in
    (ap (section j) (sym long) ∙ section_before j w (r.0 ++ Ev (FlushStop k) ∷ []) (omega arith), ends_last (suc j) cs w whole k p (e ∙ omega arith) (f ∙ omega arith))

-- FLUSH_STOP crosses an element with one sink pad
owed_flush : (respond : Response) (calls : List Call) (k : ℕ) → owed_for respond (calls ++ Feed (Ev (FlushStop k)) ∷ []) ≡ owed_for respond calls ++ Ev (FlushStop k) ∷ []
owed_flush respond calls k = ap (λ (f : Fed). f.out) (called_push respond unfed calls (Feed (Ev (FlushStop k))))

pub single_ends : SingleEnds
single_ends respond cuts took dropped k e f port =
    subst (λ (zs : List Item). Ends 0 cuts (λ i. section i (owed_for respond took)) (λ i. section i zs) []) (sym (owed_flush respond (took ++ dropped) k))
    (ends_last 0 cuts (owed_for respond took) (owed_for respond (took ++ dropped)) k (owed_for_prefix respond (prefix_append took dropped)) (e ∙ omega arith) (f ∙ omega arith))
