-- In no section anything is owed behind an EOS, nor a FLUSH_STOP; and where nothing was given, nothing is owed.
use Rattle.std.proofs.Common.{◌≡◌, ℕ, zero, suc, Bool, true, false, if◌then◌else◌, List, [], ◌∷◌, ◌++◌, map, replicate, refl, ap, Result, Ok, Err}
use Rattle.flow_model.specs.Item.{Item, Buf, Ev, StreamStart, NewCaps, NewSegment, Tag, Gap, FlushStop, Eos, Segment, is_flush_stop, is_eos, is_stream_start, is_caps, is_tag}
use Rattle.flow_model.specs.Sticky.{first_found, latest, has_flush_stop}
use Rattle.flow_model.specs.Section.{section, before_section, counted, to_eos, IsPlain}
use Rattle.flow_model.specs.Call.{Call, items}
use Rattle.flow_model.specs.Rule.{Fault}
use Rattle.el_join.specs.declared.sums.Sums.{Sums}
use Rattle.el_join.specs.Totals.{no_sums, raised_segment, as_item, raised}
use Rattle.el_join.specs.Sections.{with_inherited, reopened, all_reopened}
use Rattle.el_join.specs.Concats.{before_eos, has_end, behind, joined_from, up_to_fault, concat_rule}
use Rattle.el_join.proofs.Free.{one_free}
use Rattle.flow_model.proofs.Items.{free_append, section_plain as section_free}
use Rattle.flow_model.specs.Inherited.{inherited}

-- what is inherited, and a section, have no FLUSH_STOP
front_free : (z : Item) (zs : List Item) → has_flush_stop (z ∷ zs) ≡ false → has_flush_stop (z ∷ []) ≡ false
front_free z zs h = go (is_flush_stop z) h
  where
    go : (b : Bool) → (if b then true else has_flush_stop zs) ≡ false → (if b then true else false) ≡ false
    go true h = h
    go false h = refl

latest_free : (test : Item → Bool) → ((x : Item) → test x ≡ true → is_flush_stop x ≡ false) → (h : List Item) → has_flush_stop (latest test h) ≡ false
latest_free test free [] = refl
latest_free test free (x ∷ xs) = go (latest test xs) (latest_free test free xs) (test x) refl
  where
    go : (found : List Item) → has_flush_stop found ≡ false → (b : Bool) → test x ≡ b → has_flush_stop (first_found found (if b then x ∷ [] else [])) ≡ false
    go [] h true e = one_free x (free x e)
    go [] h false e = refl
    go (z ∷ zs) h b e = front_free z zs h

start_free : (x : Item) → is_stream_start x ≡ true → is_flush_stop x ≡ false
start_free (Ev (FlushStop number)) e = absurd (cc)
start_free _ e = refl

caps_free : (x : Item) → is_caps x ≡ true → is_flush_stop x ≡ false
caps_free (Ev (FlushStop number)) e = absurd (cc)
caps_free _ e = refl

tag_free : (x : Item) → is_tag x ≡ true → is_flush_stop x ≡ false
tag_free (Ev (FlushStop number)) e = absurd (cc)
tag_free _ e = refl

inherited_free : (h : List Item) → has_flush_stop (inherited h) ≡ false
inherited_free h =
    free_append (latest is_stream_start h) (latest is_caps h ++ latest is_tag h) (latest_free is_stream_start start_free h)
    (free_append (latest is_caps h) (latest is_tag h) (latest_free is_caps caps_free h) (latest_free is_tag tag_free h))

to_eos_free : (xs : List Item) → has_flush_stop xs ≡ false → has_flush_stop (to_eos xs) ≡ false
to_eos_free [] h = refl
to_eos_free (x ∷ xs) h = go (is_flush_stop x) h (to_eos_free xs) (is_eos x)
  where
    go : (f : Bool) → (if f then true else has_flush_stop xs) ≡ false → (has_flush_stop xs ≡ false → has_flush_stop (to_eos xs) ≡ false) → (e : Bool)
        → (if f then true else has_flush_stop (if e then [] else to_eos xs)) ≡ false
    go true h rest e = h
    go false h rest true = refl
    go false h rest false = rest h

with_free : (front xs : List Item) → has_flush_stop front ≡ false → has_flush_stop xs ≡ false → has_flush_stop (with_inherited front xs) ≡ false
with_free front [] h k = refl
with_free front (x ∷ xs) h k = free_append front (x ∷ xs) h k

pub reopened_free : (j : ℕ) (xs : List Item) → has_flush_stop (reopened j xs) ≡ false
reopened_free j xs =
    with_free (inherited (counted (before_section j xs))) (to_eos (section j xs)) (inherited_free (counted (before_section j xs)))
    (to_eos_free (section j xs) (section_free j xs))

-- an item as it goes out is neither FLUSH_STOP nor EOS where it was neither
abbrev IsInner : Result Item Fault → Type 0
IsInner (Ok y) = (is_flush_stop y ≡ false) × (is_eos y ≡ false)
IsInner (Err fault) = Unit {0}

raised_inner : (sums : Sums) (x : Item) → is_flush_stop x ≡ false → is_eos x ≡ false → IsInner (raised sums x)
raised_inner sums (Ev (NewSegment s)) f e = go (raised_segment sums s)
  where
    go : (r : Result Segment Fault) → IsInner (as_item r)
    go (Ok t) = (refl, refl)
    go (Err fault) = tt
raised_inner sums (Buf b) f e = (f, e)
raised_inner sums (Ev (StreamStart id)) f e = (f, e)
raised_inner sums (Ev (NewCaps caps)) f e = (f, e)
raised_inner sums (Ev (Tag title)) f e = (f, e)
raised_inner sums (Ev (Gap pts duration)) f e = (f, e)
raised_inner sums (Ev (FlushStop number)) f e = (f, e)
raised_inner sums (Ev Eos) f e = (f, e)

abbrev Plainly : List (Result Item Fault) → Type 0
Plainly rs = IsPlain (up_to_fault rs)

one_plain : (r : Result Item Fault) (rs : List (Result Item Fault)) → IsInner r → Plainly rs → Plainly (r ∷ rs)
one_plain (Ok y) rs h p = (h.0, (λ e. absurd (differ h.1 e)), p)
  where
    differ : {b : Bool} → b ≡ false → b ≡ true → ⊥
    differ e d = cc
one_plain (Err fault) rs h p = tt

pad_plain : (sums : Sums) (xs : List Item) (rs : List (Result Item Fault)) → has_flush_stop xs ≡ false → Plainly rs → Plainly (map (raised sums) (before_eos xs) ++ rs)
pad_plain sums [] rs h p = p
pad_plain sums (x ∷ xs) rs h p = go (is_flush_stop x) refl (is_eos x) refl h (λ k. pad_plain sums xs rs k p)
  where
    go : (f : Bool) → is_flush_stop x ≡ f → (e : Bool) → is_eos x ≡ e → (if f then true else has_flush_stop xs) ≡ false
        → (has_flush_stop xs ≡ false → Plainly (map (raised sums) (before_eos xs) ++ rs)) → Plainly (map (raised sums) (if e then [] else x ∷ before_eos xs) ++ rs)
    go f is true ends h rest = p
    go true is false ends h rest = absurd (cc)
    go false is false ends h rest = one_plain (raised sums x) (map (raised sums) (before_eos xs) ++ rs) (raised_inner sums x is ends) (rest h)

abbrev AllFree : List (List Item) → Type 0
AllFree [] = Unit {0}
AllFree (xs ∷ xss) = (has_flush_stop xs ≡ false) × AllFree xss

joined_plain : (sums : Sums) (xss : List (List Item)) → AllFree xss → Plainly (joined_from sums xss)
joined_plain sums [] h = (refl, (λ e. refl), tt)
joined_plain sums (xs ∷ xss) h =
    pad_plain sums xs (if has_end xs then joined_from (behind sums xs) xss else []) h.0 (go (has_end xs) (joined_plain (behind sums xs) xss h.1))
  where
    go : (b : Bool) → Plainly (joined_from (behind sums xs) xss) → Plainly (if b then joined_from (behind sums xs) xss else [])
    go true p = p
    go false p = tt

all_free : (j : ℕ) (took : List (List Call)) → AllFree (all_reopened j took)
all_free j [] = tt
all_free j (cs ∷ took) = (reopened_free j (items cs), all_free j took)

pub concat_plain : (took : List (List Call)) (port j : ℕ) → IsPlain (concat_rule took port j)
concat_plain [] port j = tt
concat_plain (cs ∷ took) port j = joined_plain no_sums (all_reopened j (cs ∷ took)) (all_free j (cs ∷ took))

-- for nothing nothing is owed
none_reopened : (j : ℕ) → reopened j [] ≡ []
none_reopened zero = refl
none_reopened (suc j) = refl

pub concat_opens : (pads port j : ℕ) → concat_rule (replicate pads []) port j ≡ []
concat_opens zero port j = refl
concat_opens (suc pads) port j = ap (λ (xs : List Item). up_to_fault (joined_from no_sums (xs ∷ all_reopened j (replicate pads [])))) (none_reopened j)
