-- The open section of an interleave, where a pad without CAPS and EOS was given an EOS that its list has not.
use Rattle.std.proofs.Common.{◌≡◌, ℕ, suc, ◌/◌, Bool, true, false, if◌then◌else◌, List, [], ◌∷◌, ◌++◌, length, Option, None, Some, refl, sym, ap, ◌∙◌, subst, append-nil, arith}
use Rattle.std.specs.Prelude.{is_some}
use Rattle.std.proofs.Math.Nat.{zero-div}
use Rattle.gst_value.specs.Description.{Description}
use Rattle.gst_value.specs.declared.one.One.{One}
use Rattle.flow_model.specs.Item.{Item, Ev, Eos, is_eos}
use Rattle.flow_model.specs.Looking.{bytes_of}
use Rattle.flow_model.specs.Call.{Call, items}
use Rattle.el_mix.specs.Mono.{Mono, width}
use Rattle.el_mix.specs.Mixed.{has, frames, lesser, open_limit}
use Rattle.el_mix.specs.Agreed.{or_else, pad_caps, lowest_caps, refusal, is_there, agreed, all_agreed}
use Rattle.el_mix.specs.Reopened.{reopened, reopenings}
use Rattle.el_mix.specs.Mixes.{is_start, all_have, pad_id, least, least_id, eos_if}
use Rattle.el_mix.proofs.Growing.{has_push, or_none, caps_push, id_push}
use Rattle.el_mix.proofs.Refusing.{open_list}
use Rattle.el_denote.specs.Near.{Mark, NearEach, done, later, marked, both, gaps_of}
use Rattle.el_denote.proofs.Nearing.{near_same}
use Rattle.gst_value.proofs.Basics.{if_same}

-- the lists of the open section
pub record PadNear (mark : Mark) (xs' xs : List Item) : Type 0 where
  pub list : xs' ≡ xs ++ eos_if (is_some mark)
  pub none : is_some mark ≡ true → has is_eos xs ≡ false
  pub bare : is_some mark ≡ true → bytes_of xs ≡ []
  pub starts : (b : Bool) → mark ≡ Some b → has is_start xs ≡ b

pub data ListsNear : List Mark → List (List Item) → List (List Item) → Type 0 where
  as_given : {xss : List (List Item)} → ListsNear [] xss xss
  one_pad : {mark : Mark} {marks : List Mark} {xs' xs : List Item} {xss' xss : List (List Item)} → PadNear mark xs' xs → ListsNear marks xss' xss
      → ListsNear (mark ∷ marks) (xs' ∷ xss') (xs ∷ xss)

both_some : (a : Bool) (m : Mark) → both a m ≡ None → ⊥
both_some a None e = absurd (cc)
both_some a (Some b) e = absurd (cc)

pub none_same : (j : ℕ) {marks : List Mark} {begun : Bool} {tooks givens : List (List Call)} → NearEach j marks begun tooks givens → gaps_of marks ≡ None
    → reopenings j tooks ≡ reopenings j givens
none_same j done e = refl
none_same j (later {took = took} {given = given} {tooks = tooks} n s rest) e =
    ap (λ zs. zs ∷ reopenings j tooks) (near_same j took given n) ∙ ap (λ zss. reopened j (items given) ∷ zss) (none_same j rest refl)
none_same j (marked {mark = None} {took = took} {given = given} {tooks = tooks} n rest) e =
    ap (λ zs. zs ∷ reopenings j tooks) (near_same j took given n) ∙ ap (λ zss. reopened j (items given) ∷ zss) (none_same j rest e)
none_same j (marked {mark = Some b} {marks = marks} n rest) e = absurd (both_some b (gaps_of marks) e)

pub lists_near : (j : ℕ) {marks : List Mark} {begun : Bool} {tooks givens : List (List Call)} → NearEach j marks begun tooks givens
    → ListsNear marks (reopenings j tooks) (reopenings j givens)
lists_near j done = as_given
lists_near j (later {took = took} {given = given} {tooks = tooks} {givens = givens} n s rest) =
    subst (λ zss. ListsNear [] zss (reopened j (items given) ∷ reopenings j givens))
    (sym (ap (λ zs. zs ∷ reopenings j tooks) (near_same j took given n) ∙ ap (λ zss. reopened j (items given) ∷ zss) (none_same j rest refl))) as_given
lists_near j (marked {given = given} n rest) =
    one_pad (record { list = n.list; none = λ h. open_list j given n.given_in (n.none h); bare = n.bare; starts = n.starts }) (lists_near j rest)

caps_stay : (m : Bool) (xs : List Item) → pad_caps (xs ++ eos_if m) ≡ pad_caps xs
caps_stay true xs = caps_push xs (Ev Eos) ∙ or_none (pad_caps xs)
caps_stay false xs = ap pad_caps (append-nil xs)

id_stays : (m : Bool) (xs : List Item) → pad_id (xs ++ eos_if m) ≡ pad_id xs
id_stays true xs = id_push xs (Ev Eos) ∙ ap (λ o. if has is_start xs then pad_id xs else o) (or_none (pad_id xs)) ∙ if_same (has is_start xs) (pad_id xs)
id_stays false xs = ap pad_id (append-nil xs)

start_stays : (m : Bool) (xs : List Item) → has is_start xs ≡ true → has is_start (xs ++ eos_if m) ≡ true
start_stays true xs e = has_push is_start xs (Ev Eos) ∙ rw e refl
start_stays false xs e = ap (has is_start) (append-nil xs) ∙ e

tails : {A : Type 0} (x y : A) (xs ys : List A) → x ∷ xs ≡ y ∷ ys → (x ≡ y) × (xs ≡ ys)
tails x y xs ys e = (cc, cc)

agreed_front : (l : Option (Description One)) (h xs ys : List Item) → agreed l h (xs ++ ys) ≡ xs ++ ys → agreed l h xs ≡ xs
agreed_front l h [] ys e = refl
agreed_front l h (x ∷ xs) ys e = go (is_there (refusal 0 l h x)) e (agreed_front l (h ++ x ∷ []) xs ys)
  where
    go : (b : Bool) → (if b then [] else x ∷ agreed l (h ++ x ∷ []) (xs ++ ys)) ≡ x ∷ (xs ++ ys) → (agreed l (h ++ x ∷ []) (xs ++ ys) ≡ xs ++ ys → agreed l (h ++ x ∷ []) xs ≡ xs)
        → (if b then [] else x ∷ agreed l (h ++ x ∷ []) xs) ≡ x ∷ xs
    go true e r = absurd (cc)
    go false e r = ap (λ zs. x ∷ zs) (r (tails x x (agreed l (h ++ x ∷ []) (xs ++ ys)) (xs ++ ys) e).1)

-- all lists
pub caps_near : {marks : List Mark} {xss' xss : List (List Item)} → ListsNear marks xss' xss → lowest_caps xss' ≡ lowest_caps xss
caps_near as_given = refl
caps_near (one_pad {mark = mark} {xs' = xs'} {xs = xs} {xss' = xss'} {xss = xss} p ps) =
    ap (λ o. or_else o (lowest_caps xss')) (ap pad_caps p.list ∙ caps_stay (is_some mark) xs) ∙ ap (λ o. or_else (pad_caps xs) o) (caps_near ps)

pub ids_near : {marks : List Mark} {xss' xss : List (List Item)} → ListsNear marks xss' xss → least_id xss' ≡ least_id xss
ids_near as_given = refl
ids_near (one_pad {mark = mark} {xs' = xs'} {xs = xs} {xss' = xss'} {xss = xss} p ps) =
    ap (λ o. least o (least_id xss')) (ap pad_id p.list ∙ id_stays (is_some mark) xs) ∙ ap (λ o. least (pad_id xs) o) (ids_near ps)

pub length_near : {marks : List Mark} {xss' xss : List (List Item)} → ListsNear marks xss' xss → length xss' ≡ length xss
length_near as_given = refl
length_near (one_pad p ps) = ap suc (length_near ps)

pub agreed_near : (l : Option (Description One)) {marks : List Mark} {xss' xss : List (List Item)} → ListsNear marks xss' xss → all_agreed l xss' ≡ xss' → all_agreed l xss ≡ xss
agreed_near l as_given e = e
agreed_near l (one_pad {mark = mark} {xs' = xs'} {xs = xs} {xss' = xss'} {xss = xss} p ps) e =
    let each = tails (agreed l [] xs') xs' (all_agreed l xss') xss' e in
    let whole : agreed l [] (xs ++ eos_if (is_some mark)) ≡ xs ++ eos_if (is_some mark) = rw p.list at each.0 in
    ap (λ zs. zs ∷ all_agreed l xss) (agreed_front l [] xs (eos_if (is_some mark)) whole) ∙ ap (λ zss. xs ∷ zss) (agreed_near l ps each.1)

pub starts_up : {marks : List Mark} {xss' xss : List (List Item)} → ListsNear marks xss' xss → all_have is_start xss ≡ true → all_have is_start xss' ≡ true
starts_up as_given e = e
starts_up (one_pad {mark = mark} {xs' = xs'} {xs = xs} {xss' = xss'} {xss = xss} p ps) e = go (has is_start xs) refl e (starts_up ps)
  where
    go : (b : Bool) → has is_start xs ≡ b → (if b then all_have is_start xss else false) ≡ true → (all_have is_start xss ≡ true → all_have is_start xss' ≡ true)
        → (if has is_start xs' then all_have is_start xss' else false) ≡ true
    go true is e r = ap (λ (b : Bool). if b then all_have is_start xss' else false) (ap (has is_start) p.list ∙ start_stays (is_some mark) xs is) ∙ r e
    go false is e r = absurd (cc)

-- each marked pad had SEGMENT, and some marked pad had none
abbrev pub fine : Mark → Bool
fine None = true
fine (Some b) = b

both_fine : (a : Bool) (m : Mark) → fine (both a m) ≡ true → (a ≡ true) × (fine m ≡ true)
both_fine true None e = (refl, refl)
both_fine true (Some b) e = (refl, e)
both_fine false None e = absurd (cc)
both_fine false (Some b) e = absurd (cc)

both_not : (m : Mark) → fine (both true m) ≡ false → fine m ≡ false
both_not None e = absurd (cc)
both_not (Some b) e = e

pub starts_same : {marks : List Mark} {xss' xss : List (List Item)} → ListsNear marks xss' xss → fine (gaps_of marks) ≡ true → all_have is_start xss' ≡ all_have is_start xss
starts_same as_given e = refl
starts_same (one_pad {mark = None} {xs' = xs'} {xs = xs} {xss' = xss'} {xss = xss} p ps) e =
    ap (λ zs. if has is_start zs then all_have is_start xss' else false) (p.list ∙ append-nil xs) ∙ ap (λ (b : Bool). if has is_start xs then b else false) (starts_same ps e)
starts_same (one_pad {mark = Some b} {marks = marks} {xs' = xs'} {xs = xs} {xss' = xss'} {xss = xss} p ps) e =
    let f = both_fine b (gaps_of marks) e in
    let s : has is_start xs ≡ true = p.starts b refl ∙ f.0 in
    ap (λ (b : Bool). if b then all_have is_start xss' else false) (ap (has is_start) p.list ∙ start_stays true xs s ∙ sym s) ∙ ap (λ (b : Bool). if has is_start xs then b else false) (starts_same ps f.1)

if_false : (b : Bool) → (if b then false else false) ≡ false
if_false true = refl
if_false false = refl

pub gap_unstarted : {marks : List Mark} {xss' xss : List (List Item)} → ListsNear marks xss' xss → fine (gaps_of marks) ≡ false → all_have is_start xss ≡ false
gap_unstarted as_given e = absurd (cc)
gap_unstarted (one_pad {mark = None} {xs = xs} {xss = xss} p ps) e = ap (λ (b : Bool). if has is_start xs then b else false) (gap_unstarted ps e) ∙ if_false (has is_start xs)
gap_unstarted (one_pad {mark = Some true} {marks = marks} {xs = xs} {xss = xss} p ps) e =
    ap (λ (b : Bool). if has is_start xs then b else false) (gap_unstarted ps (both_not (gaps_of marks) e)) ∙ if_false (has is_start xs)
gap_unstarted (one_pad {mark = Some false} {xs = xs} {xss = xss} p ps) e = ap (λ (b : Bool). if b then all_have is_start xss else false) (p.starts false refl)

-- no frames are owed
least_none : (n : ℕ) → lesser n (Some 0) ≡ 0
least_none n = omega arith

none_least : (o : Option ℕ) → lesser 0 o ≡ 0
none_least None = refl
none_least (Some n) = omega arith

no_frames : (mono : Mono) (xs : List Item) → bytes_of xs ≡ [] → frames mono xs ≡ 0
no_frames mono xs e = ap (λ zs. length zs / width mono) e ∙ zero-div (width mono)

either_some : (b : Bool) (n : ℕ) → (if b then Some 0 else Some (lesser n (Some 0))) ≡ Some 0
either_some true n = refl
either_some false n = ap (λ k. Some k) (least_none n)

pub open_none : (mono : Mono) {marks : List Mark} {xss' xss : List (List Item)} (b : Bool) → ListsNear marks xss' xss → gaps_of marks ≡ Some b → open_limit mono xss ≡ Some 0
open_none mono b as_given e = absurd (cc)
open_none mono b (one_pad {mark = None} {xs = xs} {xss = xss} p ps) e =
    ap (λ o. if has is_eos xs then o else Some (lesser (frames mono xs) o)) (open_none mono b ps e) ∙ either_some (has is_eos xs) (frames mono xs)
open_none mono b (one_pad {mark = Some c} {xs = xs} {xss = xss} p ps) e =
    ap (λ (t : Bool). if t then open_limit mono xss else Some (lesser (frames mono xs) (open_limit mono xss))) (p.none refl)
    ∙ ap (λ k. Some (lesser k (open_limit mono xss))) (no_frames mono xs (p.bare refl)) ∙ ap (λ k. Some k) (none_least (open_limit mono xss))

pub unended : {marks : List Mark} {xss' xss : List (List Item)} (b : Bool) → ListsNear marks xss' xss → gaps_of marks ≡ Some b → all_have is_eos xss ≡ false
unended b as_given e = absurd (cc)
unended b (one_pad {mark = None} {xs = xs} {xss = xss} p ps) e = ap (λ (t : Bool). if has is_eos xs then t else false) (unended b ps e) ∙ if_false (has is_eos xs)
unended b (one_pad {mark = Some c} {xs = xs} {xss = xss} p ps) e = ap (λ (t : Bool). if t then all_have is_eos xss else false) (p.none refl)
