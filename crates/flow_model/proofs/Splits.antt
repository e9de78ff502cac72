-- What was taken and what stands in inlets.
use Rattle.std.proofs.Common.{◌≡◌, ℕ, zero, suc, List, [], ◌∷◌, ◌++◌, refl, sym, ap, ◌∙◌, append_assoc, append-nil}
use Rattle.flow_model.specs.Call.{Call}
use Rattle.flow_model.specs.Prefix.{ArePrefixes}
use Rattle.flow_model.specs.Prefix as prefixes
use Rattle.flow_model.proofs.Prefixes.{prefix_by}
use Rattle.flow_model.specs.Split.{front_calls, joined, emptied, AreSplit, none, pad, NoneAt, AreEmpty}
use Rattle.flow_model.specs.SinkPads.{push_calls}

-- more is given and taken at once
pub split_now : (i : ℕ) (cs : List Call) {ts hs ws : List (List Call)} → NoneAt i hs → AreSplit ts hs ws → AreSplit (push_calls i cs ts) hs (push_calls i cs ws)
split_now i cs n none = none
split_now zero cs n (pad {t = t} {h = h} e s) =
    pad (ap (λ z. z ++ cs) (e ∙ ap (λ z. t ++ z) n ∙ append-nil t) ∙ sym (ap (λ z. (t ++ cs) ++ z) n ∙ append-nil (t ++ cs))) s
split_now (suc i) cs n (pad e s) = pad e (split_now i cs n s)

-- more is given, and stands in the inlet
pub split_later : (i : ℕ) (cs : List Call) {ts hs ws : List (List Call)} → AreSplit ts hs ws → AreSplit ts (push_calls i cs hs) (push_calls i cs ws)
split_later i cs none = none
split_later zero cs (pad {t = t} {h = h} e s) = pad (ap (λ z. z ++ cs) e ∙ append_assoc t h cs) s
split_later (suc i) cs (pad e s) = pad e (split_later i cs s)

-- all that stands in inlets is taken, and more with it
pub split_flushed : {ts hs ws : List (List Call)} (xss : List (List Call)) → AreSplit ts hs ws → AreSplit (joined (joined ts hs) xss) (emptied hs) (joined ws xss)
split_flushed xss none = none
split_flushed [] (pad {t = t} {h = h} e s) = pad (e ∙ sym (append-nil (t ++ h))) (split_flushed [] s)
split_flushed (xs ∷ xss) (pad {t = t} {h = h} e s) = pad (ap (λ z. z ++ xs) e ∙ sym (append-nil ((t ++ h) ++ xs))) (split_flushed xss s)

-- more is given at each sink pad, and stands in the inlets
pub split_joined : {ts hs ws : List (List Call)} (xss : List (List Call)) → AreSplit ts hs ws → AreSplit ts (joined hs xss) (joined ws xss)
split_joined xss none = none
split_joined [] (pad e s) = pad e (split_joined [] s)
split_joined (xs ∷ xss) (pad {t = t} {h = h} e s) = pad (ap (λ z. z ++ xs) e ∙ append_assoc t h xs) (split_joined xss s)

-- the first of an inlet is taken
pub split_taken : (i : ℕ) (c : Call) {ts hs ws : List (List Call)} → AreSplit ts (front_calls i c hs) ws → AreSplit (push_calls i (c ∷ []) ts) hs ws
split_taken i c {hs = []} none = none
split_taken zero c {hs = h ∷ hs} (pad {t = t} e s) = pad (e ∙ sym (append_assoc t (c ∷ []) h)) s
split_taken (suc i) c {hs = h ∷ hs} (pad e s) = pad e (split_taken i c s)

pub split_begins : {ts hs ws : List (List Call)} → AreSplit ts hs ws → ArePrefixes ts ws
split_begins none = prefixes.none
split_begins (pad {t = t} {h = h} e s) = prefixes.pad (prefix_by t h (sym e)) (split_begins s)

pub split_all : {ts hs ws : List (List Call)} → AreEmpty hs → AreSplit ts hs ws → ts ≡ ws
split_all n none = refl
split_all n (pad {t = t} {w = w} {ts = ts} e s) =
    let first : w ≡ t = e ∙ ap (λ z. t ++ z) n.0 ∙ append-nil t in
    ap (λ z. z ∷ ts) (sym first) ∙ ap (λ z. w ∷ z) (split_all n.1 s)
