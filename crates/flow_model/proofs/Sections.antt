-- What is owed for a beginning begins what is owed for the whole.
use Rattle.std.proofs.Common.{◌≡◌, ℕ, zero, suc, Bool, true, false, if◌then◌else◌, List, [], ◌∷◌, ◌++◌, refl, Result, Ok, Err}
use Rattle.std.specs.Prelude.{filter}
use Rattle.flow_model.specs.Item.{Item, Ev, Eos, is_flush_stop}
use Rattle.flow_model.specs.Prefix.{IsPrefix, nothing, next, ArePrefixes, none, pad}
use Rattle.flow_model.specs.Section.{section}
use Rattle.flow_model.specs.Call.{Call, Feed, Act, Drain, Set}
use Rattle.flow_model.specs.Rule.{Response, Fault, Fed, unfed, responded, flushed, fed_item, not_eos, drained, called, all_called, owed_for, only, single}
use Rattle.flow_model.proofs.Prefixes.{prefix_refl, prefix_trans, prefix_append, prefix_if}

pub section_prefix : (j : ℕ) {xs ys : List Item} → IsPrefix xs ys → IsPrefix (section j xs) (section j ys)
section_prefix j nothing = nothing
section_prefix zero (next {x = x} p) = prefix_if (is_flush_stop x) nothing (next (section_prefix zero p))
section_prefix (suc j) (next {x = x} p) = prefix_if (is_flush_stop x) (section_prefix j p) (section_prefix (suc j) p)

out_answered : (s : Fed) (x : Item) (r : Result (List Item) Fault) → IsPrefix s.out (responded s x r).out
out_answered s x (Ok ys) = prefix_append s.out ys
out_answered s x (Err f) = prefix_refl s.out

out_fed : (respond : Response) (s : Fed) (x : Item) → IsPrefix s.out (fed_item respond s x).out
out_fed respond s x = go (is_flush_stop x) s.over
  where
    go : (f o : Bool) → IsPrefix s.out (if f then flushed s x else (if o then s else responded s x (respond s x))).out
    go true o = prefix_append s.out (x ∷ [])
    go false true = prefix_refl s.out
    go false false = out_answered s x (respond s x)

out_drained : (s : Fed) (o : Bool) (r : Result (List Item) Fault) → IsPrefix s.out (if o then s else drained s r).out
out_drained s true r = prefix_refl s.out
out_drained s false (Ok ys) = prefix_append s.out (filter not_eos ys)
out_drained s false (Err f) = prefix_refl s.out

out_called : (respond : Response) (s : Fed) (c : Call) → IsPrefix s.out (called respond s c).out
out_called respond s (Feed x) = out_fed respond s x
out_called respond s (Act Drain) = out_drained s s.over (respond s (Ev Eos))
out_called respond s (Act (Set setting)) = prefix_refl s.out

-- what is owed only grows
out_grows : (respond : Response) (s : Fed) (cs : List Call) → IsPrefix s.out (all_called respond s cs).out
out_grows respond s [] = prefix_refl s.out
out_grows respond s (c ∷ cs) = prefix_trans (out_called respond s c) (out_grows respond (called respond s c) cs)

pub all_called_prefix : (respond : Response) (s : Fed) {cs ds : List Call} → IsPrefix cs ds → IsPrefix (all_called respond s cs).out (all_called respond s ds).out
all_called_prefix respond s (nothing {ys = ds}) = out_grows respond s ds
all_called_prefix respond s (next {x = c} p) = all_called_prefix respond (called respond s c) p

-- one more call
pub called_push : (respond : Response) (s : Fed) (cs : List Call) (c : Call) → all_called respond s (cs ++ c ∷ []) ≡ called respond (all_called respond s cs) c
called_push respond s [] c = refl
called_push respond s (d ∷ cs) c = called_push respond (called respond s d) cs c

pub owed_for_prefix : (respond : Response) {cs ds : List Call} → IsPrefix cs ds → IsPrefix (owed_for respond cs) (owed_for respond ds)
owed_for_prefix respond p = all_called_prefix respond unfed p

only_prefix : {css dss : List (List Call)} → ArePrefixes css dss → IsPrefix (only css) (only dss)
only_prefix none = nothing
only_prefix (pad p ps) = p

-- Every rule of an element with one sink pad is monotone.
pub single_prefix : (respond : Response) {css dss : List (List Call)} → ArePrefixes css dss → (port j : ℕ) → IsPrefix (single respond css port j) (single respond dss port j)
single_prefix respond p port j = section_prefix j (owed_for_prefix respond (only_prefix p))
