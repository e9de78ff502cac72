-- The section that is open, with one more item.
use Rattle.std.proofs.Common.{◌≡◌, ℕ, zero, suc, Bool, true, false, if◌then◌else◌, List, [], ◌∷◌, ◌++◌, refl, sym, ap, ◌∙◌, append_assoc}
use Rattle.flow_model.specs.Item.{Item, Buf, Ev, StreamStart, NewCaps, NewSegment, Tag, Gap, FlushStop, Eos, is_flush_stop, is_eos, is_stream_start, is_caps, is_tag}
use Rattle.flow_model.specs.Sticky.{first_found, latest}
use Rattle.flow_model.specs.Section.{section, counted, before_section, to_eos, flush_stops}
use Rattle.el_join.specs.Sections.{with_inherited, reopened}
use Rattle.el_join.specs.Concats.{has_end}
use Rattle.flow_model.proofs.Items.{section_flushed}
use Rattle.flow_model.specs.Inherited.{inherited}
use Rattle.gst_item.specs.Item.{has_item}

-- the open section has the item, and what stands before it stays
pub section_push : (n : ℕ) (xs : List Item) (x : Item) → is_flush_stop x ≡ false → flush_stops xs ≡ n → section n (xs ++ x ∷ []) ≡ section n xs ++ x ∷ []
section_push zero [] x plain e = ap (λ (b : Bool). if b then [] else x ∷ []) plain
section_push (suc n) [] x plain e = absurd (cc)
section_push zero (y ∷ ys) x plain e = go (is_flush_stop y) e (section_push zero ys x plain)
  where
    go : (b : Bool) → (if b then suc (flush_stops ys) else flush_stops ys) ≡ 0 → (flush_stops ys ≡ 0 → section 0 (ys ++ x ∷ []) ≡ section 0 ys ++ x ∷ [])
        → (if b then [] else y ∷ section 0 (ys ++ x ∷ [])) ≡ (if b then [] else y ∷ section 0 ys) ++ x ∷ []
    go true e rest = absurd (cc)
    go false e rest = ap (λ zs. y ∷ zs) (rest e)
section_push (suc n) (y ∷ ys) x plain e = go (is_flush_stop y) e (section_push n ys x plain) (section_push (suc n) ys x plain)
  where
    go : (b : Bool) → (if b then suc (flush_stops ys) else flush_stops ys) ≡ suc n → (flush_stops ys ≡ n → section n (ys ++ x ∷ []) ≡ section n ys ++ x ∷ [])
        → (flush_stops ys ≡ suc n → section (suc n) (ys ++ x ∷ []) ≡ section (suc n) ys ++ x ∷ [])
        → (if b then section n (ys ++ x ∷ []) else section (suc n) (ys ++ x ∷ [])) ≡ (if b then section n ys else section (suc n) ys) ++ x ∷ []
    go true e past same = past (cc)
    go false e past same = same e

pub before_push : (n : ℕ) (xs : List Item) (x : Item) → flush_stops xs ≡ n → before_section n (xs ++ x ∷ []) ≡ before_section n xs
before_push zero xs x e = refl
before_push (suc n) [] x e = absurd (cc)
before_push (suc n) (y ∷ ys) x e = go (is_flush_stop y) e (before_push n ys x) (before_push (suc n) ys x)
  where
    go : (b : Bool) → (if b then suc (flush_stops ys) else flush_stops ys) ≡ suc n → (flush_stops ys ≡ n → before_section n (ys ++ x ∷ []) ≡ before_section n ys)
        → (flush_stops ys ≡ suc n → before_section (suc n) (ys ++ x ∷ []) ≡ before_section (suc n) ys)
        → y ∷ (if b then before_section n (ys ++ x ∷ []) else before_section (suc n) (ys ++ x ∷ [])) ≡ y ∷ (if b then before_section n ys else before_section (suc n) ys)
    go true e past same = ap (λ zs. y ∷ zs) (past (cc))
    go false e past same = ap (λ zs. y ∷ zs) (same e)

-- where the open section has no item, all stands before it
pub before_whole : (n : ℕ) (xs : List Item) → flush_stops xs ≡ n → section n xs ≡ [] → before_section n xs ≡ xs
before_whole zero [] e none = refl
before_whole (suc n) [] e none = refl
before_whole zero (y ∷ ys) e none = go (is_flush_stop y) e none
  where
    go : (b : Bool) → (if b then suc (flush_stops ys) else flush_stops ys) ≡ 0 → (if b then [] else y ∷ section 0 ys) ≡ [] → [] ≡ y ∷ ys
    go true e none = absurd (cc)
    go false e none = absurd (cc)
before_whole (suc n) (y ∷ ys) e none = go (is_flush_stop y) e none (before_whole n ys) (before_whole (suc n) ys)
  where
    go : (b : Bool) → (if b then suc (flush_stops ys) else flush_stops ys) ≡ suc n → (if b then section n ys else section (suc n) ys) ≡ []
        → (flush_stops ys ≡ n → section n ys ≡ [] → before_section n ys ≡ ys) → (flush_stops ys ≡ suc n → section (suc n) ys ≡ [] → before_section (suc n) ys ≡ ys)
        → y ∷ (if b then before_section n ys else before_section (suc n) ys) ≡ y ∷ ys
    go true e none past same = ap (λ zs. y ∷ zs) (past (cc) none)
    go false e none past same = ap (λ zs. y ∷ zs) (same e none)

-- up to the first EOS
pub to_eos_none : (xs : List Item) → has_end xs ≡ false → to_eos xs ≡ xs
to_eos_none [] h = refl
to_eos_none (x ∷ xs) h = go (is_eos x) h (to_eos_none xs)
  where
    go : (b : Bool) → (if b then true else has_end xs) ≡ false → (has_end xs ≡ false → to_eos xs ≡ xs) → x ∷ (if b then [] else to_eos xs) ≡ x ∷ xs
    go true h rest = absurd (cc)
    go false h rest = ap (λ ys. x ∷ ys) (rest h)

pub to_eos_some : (xs ys : List Item) → has_end xs ≡ true → to_eos (xs ++ ys) ≡ to_eos xs
to_eos_some [] ys h = absurd (cc)
to_eos_some (x ∷ xs) ys h = go (is_eos x) h (to_eos_some xs ys)
  where
    go : (b : Bool) → (if b then true else has_end xs) ≡ true → (has_end xs ≡ true → to_eos (xs ++ ys) ≡ to_eos xs)
        → x ∷ (if b then [] else to_eos (xs ++ ys)) ≡ x ∷ (if b then [] else to_eos xs)
    go true h rest = refl
    go false h rest = ap (λ zs. x ∷ zs) (rest h)

pub to_eos_push : (xs : List Item) (x : Item) → has_end xs ≡ false → to_eos (xs ++ x ∷ []) ≡ xs ++ x ∷ []
to_eos_push [] x h = go (is_eos x)
  where
    go : (b : Bool) → x ∷ (if b then [] else []) ≡ x ∷ []
    go true = refl
    go false = refl
to_eos_push (y ∷ ys) x h = go (is_eos y) h (to_eos_push ys x)
  where
    go : (b : Bool) → (if b then true else has_end ys) ≡ false → (has_end ys ≡ false → to_eos (ys ++ x ∷ []) ≡ ys ++ x ∷ [])
        → y ∷ (if b then [] else to_eos (ys ++ x ∷ [])) ≡ y ∷ (ys ++ x ∷ [])
    go true h rest = absurd (cc)
    go false h rest = ap (λ zs. y ∷ zs) (rest h)

pub end_to_eos : (xs : List Item) → has_end (to_eos xs) ≡ has_end xs
end_to_eos [] = refl
end_to_eos (x ∷ xs) = go (is_eos x) (end_to_eos xs)
  where
    go : (b : Bool) → has_end (to_eos xs) ≡ has_end xs → (if b then true else has_end (if b then [] else to_eos xs)) ≡ (if b then true else has_end xs)
    go true e = refl
    go false e = e

pub end_append : (xs ys : List Item) → has_end xs ≡ false → has_end (xs ++ ys) ≡ has_end ys
end_append [] ys h = refl
end_append (x ∷ xs) ys h = go (is_eos x) h (end_append xs ys)
  where
    go : (b : Bool) → (if b then true else has_end xs) ≡ false → (has_end xs ≡ false → has_end (xs ++ ys) ≡ has_end ys) → (if b then true else has_end (xs ++ ys)) ≡ has_end ys
    go true h rest = absurd (cc)
    go false h rest = rest h

-- what is inherited has no EOS
abbrev IsNoEos : (Item → Bool) → Type 0
IsNoEos passes = (x : Item) → passes x ≡ true → is_eos x ≡ false

start_no_eos : IsNoEos is_stream_start
start_no_eos (Buf b) e = refl
start_no_eos (Ev (StreamStart id)) e = refl
start_no_eos (Ev (NewCaps caps)) e = refl
start_no_eos (Ev (NewSegment s)) e = refl
start_no_eos (Ev (Tag title)) e = refl
start_no_eos (Ev (Gap pts duration)) e = refl
start_no_eos (Ev (FlushStop number)) e = refl
start_no_eos (Ev Eos) e = absurd (cc)

caps_no_eos : IsNoEos is_caps
caps_no_eos (Buf b) e = refl
caps_no_eos (Ev (StreamStart id)) e = refl
caps_no_eos (Ev (NewCaps caps)) e = refl
caps_no_eos (Ev (NewSegment s)) e = refl
caps_no_eos (Ev (Tag title)) e = refl
caps_no_eos (Ev (Gap pts duration)) e = refl
caps_no_eos (Ev (FlushStop number)) e = refl
caps_no_eos (Ev Eos) e = absurd (cc)

tag_no_eos : IsNoEos is_tag
tag_no_eos (Buf b) e = refl
tag_no_eos (Ev (StreamStart id)) e = refl
tag_no_eos (Ev (NewCaps caps)) e = refl
tag_no_eos (Ev (NewSegment s)) e = refl
tag_no_eos (Ev (Tag title)) e = refl
tag_no_eos (Ev (Gap pts duration)) e = refl
tag_no_eos (Ev (FlushStop number)) e = refl
tag_no_eos (Ev Eos) e = absurd (cc)

latest_no_eos : (passes : Item → Bool) → ((x : Item) → passes x ≡ true → is_eos x ≡ false) → (h : List Item) → has_end (latest passes h) ≡ false
latest_no_eos passes none [] = refl
latest_no_eos passes none (x ∷ xs) = go (latest passes xs) (passes x) refl (latest_no_eos passes none xs)
  where
    go : (found : List Item) (b : Bool) → passes x ≡ b → has_end found ≡ false → has_end (first_found found (if b then x ∷ [] else [])) ≡ false
    go [] true is h = ap (λ (b : Bool). if b then true else false) (none x is)
    go [] false is h = refl
    go (y ∷ ys) b is h = first (is_eos y) h
      where
        first : (e : Bool) → (if e then true else has_end ys) ≡ false → (if e then true else false) ≡ false
        first true h = h
        first false h = refl

pub inherited_no_eos : (h : List Item) → has_end (inherited h) ≡ false
inherited_no_eos h =
    end_append (latest is_stream_start h) (latest is_caps h ++ latest is_tag h) (latest_no_eos is_stream_start start_no_eos h)
    ∙ end_append (latest is_caps h) (latest is_tag h) (latest_no_eos is_caps caps_no_eos h)
    ∙ latest_no_eos is_tag tag_no_eos h

end_with : (inh xs : List Item) → has_end inh ≡ false → has_end (with_inherited inh xs) ≡ has_end xs
end_with inh [] h = refl
end_with inh (x ∷ xs) h = end_append inh (x ∷ xs) h

pub reopened_end : (n : ℕ) (xs : List Item) → has_end (reopened n xs) ≡ has_end (section n xs)
reopened_end n xs = end_with (inherited (counted (before_section n xs))) (to_eos (section n xs)) (inherited_no_eos (counted (before_section n xs))) ∙ end_to_eos (section n xs)

-- The open section with one more item: behind its EOS it stays, and else the item is its last, and with the first one comes
-- what is inherited.
pub reopened_behind : (n : ℕ) (xs : List Item) (x : Item) → is_flush_stop x ≡ false → flush_stops xs ≡ n → has_end (reopened n xs) ≡ true → reopened n (xs ++ x ∷ []) ≡ reopened n xs
reopened_behind n xs x plain e h =
    ap (λ zs. with_inherited (inherited (counted zs)) (to_eos (section n (xs ++ x ∷ [])))) (before_push n xs x e)
    ∙ ap (with_inherited (inherited (counted (before_section n xs)))) (ap to_eos (section_push n xs x plain e) ∙ to_eos_some (section n xs) (x ∷ []) (sym (reopened_end n xs) ∙ h))

with_push : (inh : List Item) (ys : List Item) (x : Item) → with_inherited inh (ys ++ x ∷ []) ≡ with_inherited inh ys ++ ((if has_item ys then [] else inh) ++ x ∷ [])
with_push inh [] x = refl
with_push inh (y ∷ ys) x = sym (append_assoc inh (y ∷ ys) (x ∷ []))

item_with : (inh ys : List Item) → has_item (with_inherited inh ys) ≡ has_item ys
item_with inh [] = refl
item_with [] (y ∷ ys) = refl
item_with (z ∷ zs) (y ∷ ys) = refl

pub reopened_push : (n : ℕ) (xs : List Item) (x : Item) → is_flush_stop x ≡ false → flush_stops xs ≡ n → has_end (reopened n xs) ≡ false
    → reopened n (xs ++ x ∷ []) ≡ reopened n xs ++ ((if has_item (reopened n xs) then [] else inherited (counted xs)) ++ x ∷ [])
reopened_push n xs x plain e h =
    ap (λ zs. with_inherited (inherited (counted zs)) (to_eos (section n (xs ++ x ∷ [])))) (before_push n xs x e)
    ∙ ap (with_inherited (inherited (counted (before_section n xs)))) (ap to_eos (section_push n xs x plain e) ∙ to_eos_push (section n xs) x none)
    ∙ with_push (inherited (counted (before_section n xs))) (section n xs) x
    ∙ ap (λ ys. with_inherited (inherited (counted (before_section n xs))) (section n xs) ++ (ys ++ x ∷ [])) (front (section n xs) refl)
    ∙ ap (λ ys. with_inherited (inherited (counted (before_section n xs))) ys ++ ((if has_item (with_inherited (inherited (counted (before_section n xs))) ys) then [] else inherited (counted xs)) ++ x ∷ []))
    (sym (to_eos_none (section n xs) none))
  where
    none : has_end (section n xs) ≡ false
    none = sym (reopened_end n xs) ∙ h

    found : (ys : List Item) → section n xs ≡ ys
        → (if has_item ys then [] else inherited (counted (before_section n xs))) ≡ (if has_item ys then [] else inherited (counted xs))
    found [] is = ap (λ zs. inherited (counted zs)) (before_whole n xs e is)
    found (y ∷ ys) is = refl

    front : (ys : List Item) → section n xs ≡ ys
        → (if has_item ys then [] else inherited (counted (before_section n xs))) ≡ (if has_item (with_inherited (inherited (counted (before_section n xs))) ys) then [] else inherited (counted xs))
    front ys is = found ys is ∙ ap (λ (b : Bool). if b then [] else inherited (counted xs)) (sym (item_with (inherited (counted (before_section n xs))) ys))

-- a new section has no item
pub reopened_flushed : (n : ℕ) (xs : List Item) (number : ℕ) → flush_stops xs ≡ n → reopened (suc n) (xs ++ Ev (FlushStop number) ∷ []) ≡ []
reopened_flushed n xs number e = ap (λ ys. with_inherited (inherited (counted (before_section (suc n) (xs ++ Ev (FlushStop number) ∷ [])))) (to_eos ys)) (section_flushed n xs number e)
