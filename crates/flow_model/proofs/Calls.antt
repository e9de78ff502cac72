-- How far a rule has come with one more call.
use Rattle.std.proofs.Common.{◌≡◌, ℕ, Bool, true, false, if◌then◌else◌, List, [], ◌∷◌, ◌++◌, refl, ap, ◌∙◌, Ok}
use Rattle.gst_item.proofs.Kept.{in_force_push}
use Rattle.flow_model.specs.Item.{Item, Ev, Eos, FlushStop, is_flush_stop, is_eos}
use Rattle.flow_model.specs.Sticky.{InForce, in_force}
use Rattle.flow_model.specs.Call.{Call, Feed, Act, Drain, Set, Mark, Setting, feeds, items}
use Rattle.flow_model.specs.Rule.{Response, Fed, unfed, responded, flushed, drained, called, all_called}
use Rattle.flow_model.specs.Feeding.{has_eos}
use Rattle.flow_model.proofs.Sections.{called_push}
use Rattle.gst_item.specs.Item.{has_item}

pub items_push : (calls : List Call) (x : Item) → items (calls ++ Feed x ∷ []) ≡ items calls ++ x ∷ []
items_push [] x = refl
items_push (Feed y ∷ calls) x = ap (λ ys. y ∷ ys) (items_push calls x)
items_push (Act m ∷ calls) x = items_push calls x

pub items_act : (calls : List Call) (mark : Mark) → items (calls ++ Act mark ∷ []) ≡ items calls
items_act [] mark = refl
items_act (Feed y ∷ calls) mark = ap (λ ys. y ∷ ys) (items_act calls mark)
items_act (Act m ∷ calls) mark = items_act calls mark

-- an item in a section that is not over
pub fed_taken : (respond : Response) (calls : List Call) (x : Item) (ys : List Item)
    → (all_called respond unfed calls).over ≡ false → is_flush_stop x ≡ false → respond (all_called respond unfed calls) x ≡ Ok ys
    → all_called respond unfed (calls ++ Feed x ∷ []) ≡ responded (all_called respond unfed calls) x (Ok ys)
fed_taken respond calls x ys begun plain answer = rw (called_push respond unfed calls (Feed x), plain, begun, answer) refl

-- an item behind EOS
pub fed_behind : (respond : Response) (calls : List Call) (x : Item)
    → (all_called respond unfed calls).over ≡ true → is_flush_stop x ≡ false
    → all_called respond unfed (calls ++ Feed x ∷ []) ≡ all_called respond unfed calls
fed_behind respond calls x over plain = rw (called_push respond unfed calls (Feed x), plain, over) refl

pub fed_flush : (respond : Response) (calls : List Call) (number : ℕ)
    → all_called respond unfed (calls ++ Feed (Ev (FlushStop number)) ∷ []) ≡ flushed (all_called respond unfed calls) (Ev (FlushStop number))
fed_flush respond calls number = called_push respond unfed calls (Feed (Ev (FlushStop number)))

pub drained_begun : (respond : Response) (calls : List Call) (ys : List Item)
    → (all_called respond unfed calls).over ≡ false → respond (all_called respond unfed calls) (Ev Eos) ≡ Ok ys
    → all_called respond unfed (calls ++ Act Drain ∷ []) ≡ drained (all_called respond unfed calls) (Ok ys)
drained_begun respond calls ys begun answer = called_push respond unfed calls (Act Drain) ∙ go (all_called respond unfed calls) begun answer
  where
    go : (s : Fed) → s.over ≡ false → respond s (Ev Eos) ≡ Ok ys → called respond s (Act Drain) ≡ drained s (Ok ys)
    go s none owed = rw owed (chosen s.over none)
      where
        chosen : (b : Bool) → b ≡ false → (if b then s else drained s (Ok ys)) ≡ drained s (Ok ys)
        chosen true e = absurd (cc)
        chosen false e = refl

pub drained_behind : (respond : Response) (calls : List Call)
    → (all_called respond unfed calls).over ≡ true
    → all_called respond unfed (calls ++ Act Drain ∷ []) ≡ all_called respond unfed calls
drained_behind respond calls over = rw (called_push respond unfed calls (Act Drain), over) refl

pub set_push : (respond : Response) (calls : List Call) (setting : Setting)
    → all_called respond unfed (calls ++ Act (Set setting) ∷ []) ≡ record (all_called respond unfed calls) { given = (all_called respond unfed calls).given ++ Act (Set setting) ∷ [] }
set_push respond calls setting = called_push respond unfed calls (Act (Set setting))

-- whether EOS was fed since the last FLUSH_STOP
pub eos_behind : (h : List Item) (x : Item) → has_item (in_force (h ++ x ∷ [])).eos ≡ (if is_flush_stop x then false else (if is_eos x then true else has_item (in_force h).eos))
eos_behind h x = ap (λ (s : InForce). has_item s.eos) (in_force_push h x) ∙ go (is_flush_stop x) (is_eos x)
  where
    go : (f e : Bool) → has_item (if f then [] else (if e then x ∷ [] else (in_force h).eos)) ≡ (if f then false else (if e then true else has_item (in_force h).eos))
    go true e = refl
    go false true = refl
    go false false = refl

pub eos_push : (calls : List Call) (x : Item) → has_eos (calls ++ Feed x ∷ []) ≡ (if is_flush_stop x then false else (if is_eos x then true else has_eos calls))
eos_push calls x = rw (items_push calls x) (eos_behind (items calls) x)

-- in a section without EOS, and in one with EOS
pub eos_taken : (calls : List Call) (x : Item) → is_flush_stop x ≡ false → has_eos calls ≡ false → has_eos (calls ++ Feed x ∷ []) ≡ is_eos x
eos_taken calls x plain none = rw (eos_push calls x, plain, none) (go (is_eos x))
  where
    go : (e : Bool) → (if e then true else false) ≡ e
    go true = refl
    go false = refl

pub eos_stays : (calls : List Call) (x : Item) → is_flush_stop x ≡ false → has_eos calls ≡ true → has_eos (calls ++ Feed x ∷ []) ≡ true
eos_stays calls x plain some = rw (eos_push calls x, plain, some) (go (is_eos x))
  where
    go : (e : Bool) → (if e then true else true) ≡ true
    go true = refl
    go false = refl

pub eos_flushed : (calls : List Call) (number : ℕ) → has_eos (calls ++ Feed (Ev (FlushStop number)) ∷ []) ≡ false
eos_flushed calls number = eos_push calls (Ev (FlushStop number))

pub eos_act : (calls : List Call) (mark : Mark) → has_eos (calls ++ Act mark ∷ []) ≡ has_eos calls
eos_act calls mark = rw (items_act calls mark) refl

pub feeds_push : (items : List Item) (x : Item) → feeds (items ++ x ∷ []) ≡ feeds items ++ Feed x ∷ []
feeds_push [] x = refl
feeds_push (y ∷ ys) x = ap (λ cs. Feed y ∷ cs) (feeds_push ys x)
