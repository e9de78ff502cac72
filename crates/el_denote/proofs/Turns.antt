-- Turns one behind the other, and the first of them that is refused.
use Rattle.std.proofs.Common.{◌≡◌, ℕ, zero, suc, ◌+◌, ◌<◌, List, [], ◌∷◌, ◌++◌, length, map, take, drop, get_or, refl, sym, ap, ◌∙◌, Option, None, Some, append_assoc, append-nil, arith}
use Rattle.std.proofs.lemmas.List.{take_more}
use Rattle.flow_model.specs.declared.fault.ElementFault.{ElementFault}
use Rattle.flow_model.specs.Item.{Item}
use Rattle.flow_model.specs.Section.{section}
use Rattle.flow_model.specs.Call.{Call}
use Rattle.flow_model.specs.Rule.{Fault, Answers}
use Rattle.flow_model.specs.Feeding.{IsFaultOf}
use Rattle.el_settings.specs.declared.settings.Settings.{Settings}
use Rattle.el_settings.specs.Values.{or_else}
use Rattle.el_settings.proofs.Given.{or_else-or_else}
use Rattle.el_set.specs.Denoted.{answers_of}
use Rattle.el_denote.specs.Denoted.{answered}
use Rattle.el_denote.specs.Joined.{refused, first_refused, first_fault_in, nothing_given}
use Rattle.el_denote.specs.Turns.{Turn, Give, turned, all_turned, section_turns}
use Rattle.el_denote.proofs.WholeLists.{moved}

pub turned_behind : (given : List (List Call)) (a b : List Turn) → all_turned given (a ++ b) ≡ all_turned (all_turned given a) b
turned_behind given [] b = refl
turned_behind given (t ∷ a) b = turned_behind (turned given t) a b

pub refused_behind : (answers : Answers) (given : List (List Call)) (a b : List Turn)
    → first_refused answers given (a ++ b) ≡ or_else (first_refused answers given a) (first_refused answers (all_turned given a) b)
refused_behind answers given [] b = refl
refused_behind answers given (t ∷ a) b =
    ap (λ o. or_else (refused answers given t) o) (refused_behind answers (turned given t) a b)
    ∙ sym (or_else-or_else (refused answers given t) (first_refused answers (turned given t) a) (first_refused answers (all_turned (turned given t) a) b))

-- behind turns of which none was refused
pub none_then : (settings : Settings) (a : List Turn) (t : Turn) → first_fault_in settings a ≡ None
    → first_fault_in settings (a ++ t ∷ []) ≡ refused (answers_of settings) (all_turned (nothing_given settings) a) t
none_then settings a t none = refused_behind (answers_of settings) (nothing_given settings) a (t ∷ []) ∙ rw none (last (refused (answers_of settings) (all_turned (nothing_given settings) a) t))
  where
    last : (o : Option Fault) → or_else o None ≡ o
    last None = refl
    last (Some f) = refl

pub fault_stays : (settings : Settings) (a b : List Turn) (fault : ElementFault) → IsFaultOf (answered (first_fault_in settings a)) fault
    → IsFaultOf (answered (first_fault_in settings (a ++ b))) fault
fault_stays settings a b fault p =
    rw (refused_behind (answers_of settings) (nothing_given settings) a b)
    (moved (first_fault_in settings a) (first_refused (answers_of settings) (all_turned (nothing_given settings) a) b) fault p)

-- by the items of a pad, and by the pads
pub give_more : (pad : ℕ) (turns : List Turn) (items : List Item) (i : ℕ) (x : Item) → i < length items → x ≡ get_or items i x
    → turns ++ map (Give pad) (take (i + 1) items) ≡ (turns ++ map (Give pad) (take i items)) ++ Give pad x ∷ []
give_more pad turns items i x within is =
    ap (λ xs. turns ++ map (Give pad) xs) (take_more items i x within ∙ ap (λ y. take i items ++ y ∷ []) (sym is)) ∙ ap (λ ts. turns ++ ts) (map_last (take i items)) ∙ sym (append_assoc turns (map (Give pad) (take i items)) (Give pad x ∷ []))
  where
    map_last : (xs : List Item) → map (Give pad) (xs ++ x ∷ []) ≡ map (Give pad) xs ++ Give pad x ∷ []
    map_last [] = refl
    map_last (y ∷ ys) = ap (λ ts. Give pad y ∷ ts) (map_last ys)

one_more : (k : ℕ) → suc (k + 1) ≡ suc k + 1
one_more k = omega arith

pub give_split : (pad : ℕ) (turns : List Turn) (items : List Item) (i : ℕ) (x : Item) → i < length items → x ≡ get_or items i x
    → turns ++ map (Give pad) items ≡ ((turns ++ map (Give pad) (take i items)) ++ Give pad x ∷ []) ++ map (Give pad) (drop (i + 1) items)
give_split pad turns items i x within is =
    ap (λ ts. turns ++ ts) (go items i within is) ∙ sym (append_assoc turns (map (Give pad) (take i items)) (Give pad x ∷ map (Give pad) (drop (i + 1) items)))
    ∙ sym (append_assoc (turns ++ map (Give pad) (take i items)) (Give pad x ∷ []) (map (Give pad) (drop (i + 1) items)))
  where
    go : (xs : List Item) (k : ℕ) → k < length xs → x ≡ get_or xs k x → map (Give pad) xs ≡ map (Give pad) (take k xs) ++ Give pad x ∷ map (Give pad) (drop (k + 1) xs)
    go [] k w e = absurd (omega (arith, w))
    go (y ∷ ys) zero w e = ap (λ z. Give pad z ∷ map (Give pad) ys) (sym e)
    go (y ∷ ys) (suc k) w e =
        ap (λ ts. Give pad y ∷ ts) (go ys k (omega (arith, w)) e)
        ∙ ap (λ n. Give pad y ∷ (map (Give pad) (take k ys) ++ Give pad x ∷ map (Give pad) (drop n (y ∷ ys)))) (one_more k)

pub section_more : (j pad : ℕ) (inputs : List (List Item)) (i : ℕ) (xs : List Item) → i < length inputs → xs ≡ get_or inputs i xs
    → section_turns j pad (take (i + 1) inputs) ≡ section_turns j pad (take i inputs) ++ map (Give (pad + i)) (section j xs)
section_more j pad [] i xs w e = absurd (omega (arith, w))
section_more j pad (ys ∷ inputs) zero xs w e =
    rw (← e) (append-nil (map (Give pad) (section j xs)) ∙ ap (λ k. map (Give k) (section j xs)) (omega arith))
section_more j pad (ys ∷ inputs) (suc i) xs w e =
    ap (λ n. section_turns j pad (take n (ys ∷ inputs))) (sym (one_more i))
    ∙ ap (λ ts. map (Give pad) (section j ys) ++ ts) (section_more j (suc pad) inputs i xs (omega (arith, w)) e ∙ ap (λ k. section_turns j (suc pad) (take i inputs) ++ map (Give k) (section j xs)) (omega arith))
    ∙ sym (append_assoc (map (Give pad) (section j ys)) (section_turns j (suc pad) (take i inputs)) (map (Give (pad + suc i)) (section j xs)))

pub section_split : (j pad : ℕ) (inputs : List (List Item)) (i : ℕ) (xs : List Item) → i < length inputs → xs ≡ get_or inputs i xs
    → section_turns j pad inputs ≡ (section_turns j pad (take i inputs) ++ map (Give (pad + i)) (section j xs)) ++ section_turns j (suc (pad + i)) (drop (i + 1) inputs)
section_split j pad [] i xs w e = absurd (omega (arith, w))
section_split j pad (ys ∷ inputs) zero xs w e =
    rw (← e) (ap (λ k. map (Give k) (section j xs) ++ section_turns j (suc k) inputs) (omega arith))
section_split j pad (ys ∷ inputs) (suc i) xs w e =
    let a : List Turn = map (Give pad) (section j ys) in
    let b : List Turn = section_turns j (suc pad) (take i inputs) in
    let rest : section_turns j (suc pad) inputs ≡ (b ++ map (Give (pad + suc i)) (section j xs)) ++ section_turns j (suc (pad + suc i)) (drop (i + 1) inputs) =
    section_split j (suc pad) inputs i xs (omega (arith, w)) e ∙ ap (λ k. (b ++ map (Give k) (section j xs)) ++ section_turns j (suc k) (drop (i + 1) inputs)) (omega arith) in
    ap (λ ts. a ++ ts) rest ∙ sym (append_assoc a (b ++ map (Give (pad + suc i)) (section j xs)) (section_turns j (suc (pad + suc i)) (drop (i + 1) inputs)))
    ∙ ap (λ ts. ts ++ section_turns j (suc (pad + suc i)) (drop (i + 1) inputs)) (sym (append_assoc a b (map (Give (pad + suc i)) (section j xs))))
    ∙ ap (λ n. ((a ++ b) ++ map (Give (pad + suc i)) (section j xs)) ++ section_turns j (suc (pad + suc i)) (drop n (ys ∷ inputs))) (one_more i)
