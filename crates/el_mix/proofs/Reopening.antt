-- Sections of a beginning that begin anew.
use Rattle.std.proofs.Common.{◌≡◌, ℕ, zero, suc, Bool, true, false, if◌then◌else◌, List, [], ◌∷◌, ◌++◌, refl, sym, ap, ◌∙◌, subst}
use Rattle.flow_model.specs.Item.{Item, Buf, Ev, StreamStart, NewCaps, NewSegment, Tag, Gap, FlushStop, Eos, is_stream_start, is_caps, is_segment, is_tag, is_flush_stop, is_eos}
use Rattle.flow_model.specs.Sticky.{first_found, latest}
use Rattle.flow_model.specs.Prefix.{IsPrefix, nothing, next, ArePrefixes, none, pad}
use Rattle.flow_model.specs.Section.{section, counted, before_section, to_eos}
use Rattle.flow_model.specs.Call.{Call, items}
use Rattle.flow_model.proofs.Prefixes.{append_prefix}
use Rattle.flow_model.proofs.Sections.{section_prefix}
use Rattle.el_mix.specs.Reopened.{has_section, counted_section, reopened, reopenings}
use Rattle.el_mix.specs.Mixed.{has}
use Rattle.el_mix.specs.Mixes.{is_start, all_have}
use Rattle.el_mix.specs.Order.{AllPast}
use Rattle.el_mix.specs.Pieces.{Goes, AllGo, no_pads, one_pad}
use Rattle.flow_model.proofs.Items.{items_prefix, to_eos_prefix}
use Rattle.flow_model.specs.Inherited.{inherited}

-- what a test finds
pub if_true : (b : Bool) {t u : Bool} → (t ≡ true → u ≡ true) → (if b then true else t) ≡ true → (if b then true else u) ≡ true
if_true true f h = refl
if_true false f h = f h

pub has_settled : (test : Item → Bool) {xs ys : List Item} → IsPrefix xs ys → has test xs ≡ true → has test ys ≡ true
has_settled test nothing h = cc
has_settled test (next {x = x} p) h = if_true (test x) (has_settled test p) h

has_behind : (test : Item → Bool) (xs ys : List Item) → has test xs ≡ false → has test (xs ++ ys) ≡ has test ys
has_behind test [] ys h = refl
has_behind test (x ∷ xs) ys h = go (test x) (has_behind test xs ys) h
  where
    go : (b : Bool) → (has test xs ≡ false → has test (xs ++ ys) ≡ has test ys) → (if b then true else has test xs) ≡ false
        → (if b then true else has test (xs ++ ys)) ≡ has test ys
    go true r h = cc
    go false r h = r h

head_lacks : (b t : Bool) → (if b then true else t) ≡ false → (if b then true else false) ≡ false
head_lacks true t h = h
head_lacks false t h = refl

latest_lacks : (test passes : Item → Bool) → ((x : Item) → passes x ≡ true → test x ≡ false) → (h : List Item) → has test (latest passes h) ≡ false
latest_lacks test passes lacks [] = refl
latest_lacks test passes lacks (x ∷ xs) = go (latest passes xs) (latest_lacks test passes lacks xs) (passes x) refl
  where
    go : (found : List Item) → has test found ≡ false → (b : Bool) → passes x ≡ b → has test (first_found found (if b then x ∷ [] else [])) ≡ false
    go [] r true e = rw (lacks x e) refl
    go [] r false e = refl
    go (z ∷ zs) r b e = head_lacks (test z) (has test zs) r

-- what is inherited starts nothing and ends nothing
start_no_segment : (x : Item) → is_stream_start x ≡ true → is_segment x ≡ false
start_no_segment (Buf b) h = cc
start_no_segment (Ev (StreamStart id)) h = refl
start_no_segment (Ev (NewCaps caps)) h = cc
start_no_segment (Ev (NewSegment s)) h = cc
start_no_segment (Ev (Tag title)) h = cc
start_no_segment (Ev (Gap pts duration)) h = cc
start_no_segment (Ev (FlushStop number)) h = cc
start_no_segment (Ev Eos) h = cc

start_no_eos : (x : Item) → is_stream_start x ≡ true → is_eos x ≡ false
start_no_eos (Buf b) h = cc
start_no_eos (Ev (StreamStart id)) h = refl
start_no_eos (Ev (NewCaps caps)) h = cc
start_no_eos (Ev (NewSegment s)) h = cc
start_no_eos (Ev (Tag title)) h = cc
start_no_eos (Ev (Gap pts duration)) h = cc
start_no_eos (Ev (FlushStop number)) h = cc
start_no_eos (Ev Eos) h = cc

caps_no_segment : (x : Item) → is_caps x ≡ true → is_segment x ≡ false
caps_no_segment (Buf b) h = cc
caps_no_segment (Ev (StreamStart id)) h = cc
caps_no_segment (Ev (NewCaps caps)) h = refl
caps_no_segment (Ev (NewSegment s)) h = cc
caps_no_segment (Ev (Tag title)) h = cc
caps_no_segment (Ev (Gap pts duration)) h = cc
caps_no_segment (Ev (FlushStop number)) h = cc
caps_no_segment (Ev Eos) h = cc

caps_no_eos : (x : Item) → is_caps x ≡ true → is_eos x ≡ false
caps_no_eos (Buf b) h = cc
caps_no_eos (Ev (StreamStart id)) h = cc
caps_no_eos (Ev (NewCaps caps)) h = refl
caps_no_eos (Ev (NewSegment s)) h = cc
caps_no_eos (Ev (Tag title)) h = cc
caps_no_eos (Ev (Gap pts duration)) h = cc
caps_no_eos (Ev (FlushStop number)) h = cc
caps_no_eos (Ev Eos) h = cc

tag_no_segment : (x : Item) → is_tag x ≡ true → is_segment x ≡ false
tag_no_segment (Buf b) h = cc
tag_no_segment (Ev (StreamStart id)) h = cc
tag_no_segment (Ev (NewCaps caps)) h = cc
tag_no_segment (Ev (NewSegment s)) h = cc
tag_no_segment (Ev (Tag title)) h = refl
tag_no_segment (Ev (Gap pts duration)) h = cc
tag_no_segment (Ev (FlushStop number)) h = cc
tag_no_segment (Ev Eos) h = cc

tag_no_eos : (x : Item) → is_tag x ≡ true → is_eos x ≡ false
tag_no_eos (Buf b) h = cc
tag_no_eos (Ev (StreamStart id)) h = cc
tag_no_eos (Ev (NewCaps caps)) h = cc
tag_no_eos (Ev (NewSegment s)) h = cc
tag_no_eos (Ev (Tag title)) h = refl
tag_no_eos (Ev (Gap pts duration)) h = cc
tag_no_eos (Ev (FlushStop number)) h = cc
tag_no_eos (Ev Eos) h = cc

neither : (x : Item) → is_segment x ≡ false → is_eos x ≡ false → is_start x ≡ false
neither x s e = rw s e

inherited_lacks : (test : Item → Bool) → ((x : Item) → is_stream_start x ≡ true → test x ≡ false) → ((x : Item) → is_caps x ≡ true → test x ≡ false)
    → ((x : Item) → is_tag x ≡ true → test x ≡ false) → (h : List Item) → has test (inherited h) ≡ false
inherited_lacks test s c t h =
    has_behind test (latest is_stream_start h) (latest is_caps h ++ latest is_tag h) (latest_lacks test is_stream_start s h)
    ∙ has_behind test (latest is_caps h) (latest is_tag h) (latest_lacks test is_caps c h)
    ∙ latest_lacks test is_tag t h

pub starts_behind : (h xs : List Item) → has is_start (inherited h ++ xs) ≡ has is_start xs
starts_behind h xs =
    has_behind is_start (inherited h) xs
    (inherited_lacks is_start (λ x e. neither x (start_no_segment x e) (start_no_eos x e)) (λ x e. neither x (caps_no_segment x e) (caps_no_eos x e))
    (λ x e. neither x (tag_no_segment x e) (tag_no_eos x e)) h)

pub ends_behind : (h xs : List Item) → has is_eos (inherited h ++ xs) ≡ has is_eos xs
ends_behind h xs = has_behind is_eos (inherited h) xs (inherited_lacks is_eos start_no_eos caps_no_eos tag_no_eos h)

-- sections
if_same : {A : Type 0} (b : Bool) {t t' : Bool} {x x' y y' : A} → (t ≡ true → x ≡ x') → (t' ≡ true → y ≡ y') → (if b then t else t') ≡ true → (if b then x else y) ≡ (if b then x' else y')
if_same true f g h = f h
if_same false f g h = g h

if_none : {A : Type 0} (b : Bool) {t t' : Bool} {x x' : List A} → (t ≡ false → x ≡ []) → (t' ≡ false → x' ≡ []) → (if b then t else t') ≡ false → (if b then x else x') ≡ []
if_none true f g h = f h
if_none false f g h = g h

if_both : (b : Bool) {t t' u u' : Bool} → (t ≡ true → u ≡ true) → (t' ≡ true → u' ≡ true) → (if b then t else t') ≡ true → (if b then u else u') ≡ true
if_both true f g h = f h
if_both false f g h = g h

-- once a beginning has come to a section, what stands before it is settled
pub before_settled : (j : ℕ) {xs ys : List Item} → IsPrefix xs ys → has_section j xs ≡ true → before_section j xs ≡ before_section j ys
before_settled zero p h = refl
before_settled (suc j) nothing h = cc
before_settled (suc j) (next {x = x} p) h = ap (λ zs. x ∷ zs) (if_same (is_flush_stop x) (before_settled j p) (before_settled (suc j) p) h)

pub section_none : (j : ℕ) (xs : List Item) → has_section j xs ≡ false → section j xs ≡ []
section_none zero xs h = cc
section_none (suc j) [] h = refl
section_none (suc j) (x ∷ xs) h = if_none (is_flush_stop x) (section_none j xs) (section_none (suc j) xs) h

to_eos_settled : {xs ys : List Item} → IsPrefix xs ys → has is_eos (to_eos xs) ≡ true → to_eos xs ≡ to_eos ys
to_eos_settled nothing h = cc
to_eos_settled (next {x = x} {xs = xs} {ys = ys} p) h = ap (λ zs. x ∷ zs) (go (is_eos x) (to_eos_settled p) h)
  where
    go : (b : Bool) → (has is_eos (to_eos xs) ≡ true → to_eos xs ≡ to_eos ys) → (if b then true else has is_eos (if b then [] else to_eos xs)) ≡ true
        → (if b then [] else to_eos xs) ≡ (if b then [] else to_eos ys)
    go true r h = refl
    go false r h = r h

-- a section that has started goes on
pub goes_there : (j : ℕ) {xs ys : List Item} → IsPrefix xs ys → has_section j xs ≡ true → Goes (reopened j xs) (reopened j ys)
goes_there j {xs} {ys} p h =
    let same : before_section j xs ≡ before_section j ys = before_settled j p h in
    let front : inherited (counted (before_section j xs)) ≡ inherited (counted (before_section j ys)) = ap (λ zs. inherited (counted zs)) same in
    let longer : IsPrefix (section j xs) (section j ys) = section_prefix j p in
    record {
      begins = subst (λ zs. IsPrefix (reopened j xs) (zs ++ counted_section j ys)) front (append_prefix (inherited (counted (before_section j xs))) (to_eos_prefix longer));
      ends = λ e. ap (λ zs. inherited (counted (before_section j xs)) ++ zs) (to_eos_settled longer (sym (ends_behind (counted (before_section j xs)) (counted_section j xs)) ∙ e))
          ∙ ap (λ zs. zs ++ counted_section j ys) front;
    }

nothing_starts : (j : ℕ) (xs : List Item) → has_section j xs ≡ false → has is_start (reopened j xs) ≡ false
nothing_starts j xs h = starts_behind (counted (before_section j xs)) (counted_section j xs) ∙ ap (λ zs. has is_start (to_eos zs)) (section_none j xs h)

pub reopened_goes : (j : ℕ) {xs ys : List Item} → IsPrefix xs ys → has is_start (reopened j xs) ≡ true → Goes (reopened j xs) (reopened j ys)
reopened_goes j {xs} {ys} p s = go (has_section j xs) refl
  where
    go : (b : Bool) → has_section j xs ≡ b → Goes (reopened j xs) (reopened j ys)
    go true h = goes_there j p h
    go false h = absurd (cc (s, nothing_starts j xs h))

pub all_of : (test : Item → Bool) (xs : List Item) (xss : List (List Item)) → all_have test (xs ∷ xss) ≡ true → (has test xs ≡ true) × (all_have test xss ≡ true)
all_of test xs xss h = go (has test xs) refl h
  where
    go : (b : Bool) → has test xs ≡ b → (if b then all_have test xss else false) ≡ true → (has test xs ≡ true) × (all_have test xss ≡ true)
    go true e h = (e, h)
    go false e h = cc

pub reopenings_go : (j : ℕ) {inputs whole : List (List Call)} → ArePrefixes inputs whole → all_have is_start (reopenings j inputs) ≡ true → AllGo (reopenings j inputs) (reopenings j whole)
reopenings_go j none h = no_pads
reopenings_go j (pad {xs = xs} {xss = xss} p ps) h =
    let both = all_of is_start (reopened j (items xs)) (reopenings j xss) h in
    one_pad (reopened_goes j (items_prefix p) both.0) (reopenings_go j ps both.1)

-- a section that was left is settled
had_section : (j : ℕ) (xs : List Item) → has_section (suc j) xs ≡ true → has_section j xs ≡ true
had_section zero xs h = refl
had_section (suc j) [] h = cc
had_section (suc j) (x ∷ xs) h = if_both (is_flush_stop x) (had_section j xs) (had_section (suc j) xs) h

pub section_settled : (j : ℕ) {xs ys : List Item} → IsPrefix xs ys → has_section (suc j) xs ≡ true → section j xs ≡ section j ys
section_settled j nothing h = cc
section_settled zero (next {x = x} p) h = go (is_flush_stop x) (section_settled zero p) h
  where
    go : (b : Bool) {t : Bool} {us vs : List Item} → (t ≡ true → us ≡ vs) → (if b then true else t) ≡ true → (if b then [] else x ∷ us) ≡ (if b then [] else x ∷ vs)
    go true f h = refl
    go false f h = ap (λ zs. x ∷ zs) (f h)
section_settled (suc j) (next {x = x} p) h = if_same (is_flush_stop x) (section_settled j p) (section_settled (suc j) p) h

pub reopened_settled : (j : ℕ) {xs ys : List Item} → IsPrefix xs ys → has_section (suc j) xs ≡ true → reopened j xs ≡ reopened j ys
reopened_settled j {xs} {ys} p h = rw (before_settled j p (had_section j xs h), section_settled j p h) refl

pub reopenings_settled : (j : ℕ) {inputs whole : List (List Call)} → ArePrefixes inputs whole → AllPast j inputs → reopenings j inputs ≡ reopenings j whole
reopenings_settled j none h = refl
reopenings_settled j (pad p ps) h = rw (reopened_settled j (items_prefix p) h.0, reopenings_settled j ps h.1) refl
