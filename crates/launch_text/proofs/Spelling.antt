-- A text reads tokens exactly where its words spell them.
use Rattle.std.proofs.Common.{◌≡◌, ℕ, ◌<◌, Bool, true, false, eqb, ◌&&◌, not, List, [], ◌∷◌, ◌++◌, map, length, refl, sym, ap, ◌∙◌, subst, arith, append_assoc, append-nil, codes}
use Rattle.std.specs.List.{flat_map, list_all}
use Rattle.text_words.specs.Bytes.{is_run, is_white}
use Rattle.text_words.specs.Words.{is_closed, plain}
use Rattle.text_words.specs.declared.class.Class.TheVariants.{Kind, Name, Property}
use Rattle.launch_text.specs.Grammar.{IsLine, tree_fits}
use Rattle.launch_text.specs.Printed.{reference_text}
use Rattle.launch_text.specs.Reading.{Splits}
use Rattle.launch_text.specs.Tokens.{Token, opens, closes, link, kind, property, caps, reference, tree_tokens}
use Rattle.launch_text.specs.Words.{AreCaps, Reads, ReadsOne, Stands, begins_caps, ends, is_link, is_more, is_pad, is_start, is_word, taken, word_length}
use Rattle.launch_text.specs.declared.printing.Marked.TheVariants.{Value, Caps}
use Rattle.launch_text.specs.declared.tree.Tree.{Tree}
use Rattle.launch_text.proofs.Calm.{calm_closed, calm_length, not_zero, property_closed, reference_calm, reference_some, run_calm, run_some, stops_alone, stops_ends, stops_more, word_all, word_is, word_some}
use Rattle.launch_text.proofs.Splitting.{word_starts}
use Rattle.gst_value.proofs.Basics.{and_left, and_right, and_both as both_true}

-- one word that stands for a token
abbrev pub Means : List ℕ → Token → Type 0
Means word opens = word ≡ codes "("
Means word closes = word ≡ codes ")"
Means word link = word ≡ codes "!"
Means word (kind k) = (word ≡ k) × (is_run Kind k ≡ true)
Means word (property name value) = (spelling : List ℕ) × (word ≡ name ++ 61 ∷ spelling) × (is_run Property name ≡ true) × (is_closed spelling ≡ true) × (value ≡ taken Value plain spelling)
Means word (caps text) = ⊥
Means word (reference name pad) = (word ≡ reference_text name pad) × (is_run Name name ≡ true) × (is_pad pad ≡ true)

abbrev pub caps_word : List ℕ → List ℕ
caps_word w = 32 ∷ taken Caps plain w

abbrev pub no_link : List ℕ → Bool
no_link w = not (is_link w)

-- words that stand for caps
pub record AreCapsWords (words : List (List ℕ)) (text : List ℕ) : Type 0 where
  pub first : List ℕ
  pub more : List (List ℕ)
  pub begun : begins_caps first ≡ true
  pub closed : is_closed first ≡ true
  pub all_closed : list_all is_closed more ≡ true
  pub all_plain : list_all no_link more ≡ true
  pub is : words ≡ first ∷ more
  pub says : text ≡ taken Caps plain first ++ flat_map caps_word more

abbrev pub One : List (List ℕ) → Token → Type 0
One words t = (w : List ℕ) × (words ≡ w ∷ []) × Means w t

-- words that stand for a token
abbrev pub Says : List (List ℕ) → Token → Type 0
Says words opens = One words opens
Says words closes = One words closes
Says words link = One words link
Says words (kind k) = One words (kind k)
Says words (property name value) = One words (property name value)
Says words (caps text) = AreCapsWords words text
Says words (reference name pad) = One words (reference name pad)

-- words that stand for tokens
abbrev pub Spells : List Token → List (List ℕ) → Type 0
Spells [] words = words ≡ []
Spells (t ∷ ts) words = (front back : List (List ℕ)) × (words ≡ front ++ back) × Says front t × Spells ts back

pub spells_append : (xs ys : List Token) (u v : List (List ℕ)) → Spells xs u → Spells ys v → Spells (xs ++ ys) (u ++ v)
spells_append [] ys u v h k = subst (λ l. Spells ys (l ++ v)) (sym h) k
spells_append (x ∷ xs) ys u v h k = (h.0, h.1 ++ v, ap (λ l. l ++ v) h.2 ∙ append_assoc h.0 h.1 v, h.3, spells_append xs ys h.1 v h.4 k)

pub spells_parts : (xs ys : List Token) (w : List (List ℕ)) → Spells (xs ++ ys) w → (u v : List (List ℕ)) × (w ≡ u ++ v) × Spells xs u × Spells ys v
spells_parts [] ys w h = ([], w, refl, refl, h)
spells_parts (x ∷ xs) ys w h =
    let r = spells_parts xs ys h.1 h.4 in
    (h.0 ++ r.0, r.1, h.2 ∙ ap (λ l. h.0 ++ l) r.2 ∙ sym (append_assoc h.0 r.0 r.1), (h.0, r.0, refl, h.3, r.3), r.4)

-- a word that is closed
pub record IsWhole (w : List ℕ) : Type 0 where
  pub some : 0 < length w
  pub all : word_length plain w ≡ length w
  pub closed : is_closed w ≡ true

whole_calm : (w v : List ℕ) → w ≡ v → 0 < length v → word_length plain v ≡ length v → is_closed v ≡ true → IsWhole w
whole_calm w v e some all closed = subst IsWhole (sym e) (record { some = some; all = all; closed = closed })

stands_whole : (w : List ℕ) (t : Token) → Stands w t → Means w t → IsWhole w
stands_whole w opens h m = whole_calm w (codes "(") h (omega arith) refl refl
stands_whole w closes h m = whole_calm w (codes ")") h (omega arith) refl refl
stands_whole w link h m = whole_calm w (codes "!") h (omega arith) refl refl
stands_whole w (kind k) h m = whole_calm w k h.0 (run_some Kind k h.1) (calm_length k (run_calm Kind k h.1)) (calm_closed k (run_calm Kind k h.1))
stands_whole w (property name value) h m = record { some = word_some w h.is_one; all = word_all w h.is_one; closed = ap is_closed h.words ∙ property_closed name h.spelling h.named ∙ h.closed }
stands_whole w (caps text) h m = absurd m
stands_whole w (reference name pad) h m = whole_calm w (reference_text name pad) h.0 (reference_some name pad) (calm_length (reference_text name pad) (reference_calm name pad h.1 h.2)) (calm_closed (reference_text name pad) (reference_calm name pad h.1 h.2))

four : (a b c d : Bool) → (a && b && c && d) ≡ true → (a ≡ true) × (b ≡ true) × (c ≡ true) × (d ≡ true)
four true true true true h = (refl, refl, refl, refl)
four false b c d h = absurd (cc)
four true false c d h = absurd (cc)
four true true false d h = absurd (cc)
four true true true false h = absurd (cc)

four_true : (a b c d : Bool) → a ≡ true → b ≡ true → c ≡ true → d ≡ true → (a && b && c && d) ≡ true
four_true true true true true h i j k = refl
four_true false b c d h i j k = absurd (cc)
four_true true false c d h i j k = absurd (cc)
four_true true true false d h i j k = absurd (cc)
four_true true true true false h i j k = absurd (cc)

abbrev Spaced : Type 0
Spaced = List ℕ × List ℕ

abbrev with_white : Spaced → List ℕ
with_white w = w.0 ++ w.1

abbrev alone : Spaced → List ℕ
alone w = w.1

split_one : (text white w mid : List ℕ) (ws : List (List ℕ)) → text ≡ white ++ (w ++ mid) → list_all is_white white ≡ true → IsWhole w → ends mid ≡ true → Splits ws mid [] → Splits (w ∷ ws) text []
split_one text white w mid ws e h i en k = (white, mid, e, h, i.some, stops_more plain w mid i.all i.closed en, k)

ends_white : (a x : List ℕ) → not (eqb (length a) 0) ≡ true → list_all is_white a ≡ true → ends (a ++ x) ≡ true
ends_white [] x some h = absurd (cc)
ends_white (b ∷ bs) x some h = and_left (is_white b) (list_all is_white bs) h

apart_words : (m : Spaced) (ms : List Spaced) (mid : List ℕ) → flat_map with_white (m ∷ ms) ++ mid ≡ m.0 ++ (m.1 ++ (flat_map with_white ms ++ mid))
apart_words m ms mid = append_assoc (m.0 ++ m.1) (flat_map with_white ms) mid ∙ append_assoc m.0 m.1 (flat_map with_white ms ++ mid)

pub more_facts : (m : Spaced) → is_more m ≡ true → (not (eqb (length m.0) 0) ≡ true) × (list_all is_white m.0 ≡ true) × (is_word m.1 ≡ true) × (is_closed m.1 ≡ true)
more_facts m h = four (not (eqb (length m.0) 0)) (list_all is_white m.0) (is_word m.1) (is_closed m.1) h

more_split : (more : List Spaced) (mid : List ℕ) (ws : List (List ℕ)) → list_all is_more more ≡ true → ends mid ≡ true → Splits ws mid [] → Splits (map alone more ++ ws) (flat_map with_white more ++ mid) [] × (ends (flat_map with_white more ++ mid) ≡ true)
more_split [] mid ws h en k = (k, en)
more_split (m ∷ ms) mid ws h en k =
    let f = more_facts m (and_left (is_more m) (list_all is_more ms) h) in
    let ih = more_split ms mid ws (and_right (is_more m) (list_all is_more ms) h) en k in (
      split_one (flat_map with_white (m ∷ ms) ++ mid) m.0 m.1 (flat_map with_white ms ++ mid) (map alone ms ++ ws) (apart_words m ms mid) f.1 (record { some = word_some m.1 f.2; all = word_all m.1 f.2; closed = f.3 }) ih.1 ih.0,
      ap ends (apart_words m ms mid) ∙ ends_white m.0 (m.1 ++ (flat_map with_white ms ++ mid)) f.0 f.1,
    )

more_closed : (ms : List Spaced) → list_all is_more ms ≡ true → list_all is_closed (map alone ms) ≡ true
more_closed [] h = refl
more_closed (m ∷ ms) h = both_true (is_closed m.1) (list_all is_closed (map alone ms)) (more_facts m (and_left (is_more m) (list_all is_more ms) h)).3 (more_closed ms (and_right (is_more m) (list_all is_more ms) h))

all_alone : (ms : List Spaced) → list_all (λ w. not (is_link w.1)) ms ≡ list_all no_link (map alone ms)
all_alone [] = refl
all_alone (m ∷ ms) = ap (λ t. no_link m.1 && t) (all_alone ms)

said_alone : (ms : List Spaced) → flat_map (λ w. 32 ∷ taken Caps plain w.1) ms ≡ flat_map caps_word (map alone ms)
said_alone [] = refl
said_alone (m ∷ ms) = ap (λ l. caps_word m.1 ++ l) (said_alone ms)

-- the words of a text, which spell tokens
abbrev Spelt : List Token → List ℕ → Type 0
Spelt ts text = (ws : List (List ℕ)) × Splits ws text [] × Spells ts ws

single : (t : Token) (ts : List Token) (text mid : List ℕ) (r : ReadsOne t text mid) → Means r.word t → (One (r.word ∷ []) t → Says (r.word ∷ []) t) → Spelt ts mid → Spelt (t ∷ ts) text
single t ts text mid r m f ih = (r.word ∷ ih.0, split_one text r.white r.word mid ih.0 r.parts r.are_white (stands_whole r.word t r.stands m) r.ended ih.1, (r.word ∷ [], ih.0, refl, f (r.word, refl, m), ih.2))

caps_first : (text : List ℕ) (ts : List Token) (all mid : List ℕ) (r : ReadsOne (caps text) all mid) (a : AreCaps r.word text) → Spelt ts mid → Spelt (caps text ∷ ts) all
caps_first text ts all mid r a ih =
    let k = more_split a.more mid ih.0 a.are_words r.ended ih.1 in
    let is : all ≡ r.white ++ (a.first ++ (flat_map with_white a.more ++ mid)) = r.parts ∙ ap (λ l. r.white ++ (l ++ mid)) a.words ∙ ap (λ l. r.white ++ l) (append_assoc a.first (flat_map with_white a.more) mid) in (
      a.first ∷ (map alone a.more ++ ih.0),
      split_one all r.white a.first (flat_map with_white a.more ++ mid) (map alone a.more ++ ih.0) is r.are_white (record { some = word_some a.first a.is_one; all = word_all a.first a.is_one; closed = a.closed }) k.1 k.0,
      (a.first ∷ map alone a.more, ih.0, refl, record { first = a.first; more = map alone a.more; begun = a.begun; closed = a.closed; all_closed = more_closed a.more a.are_words; all_plain = sym (all_alone a.more) ∙ a.no_link; is = refl; says = a.says ∙ ap (λ l. taken Caps plain a.first ++ l) (said_alone a.more) }, ih.2),
    )

first_reads : (t : Token) (ts : List Token) (text mid : List ℕ) → ReadsOne t text mid → Spelt ts mid → Spelt (t ∷ ts) text
first_reads opens ts text mid r ih = single opens ts text mid r r.stands (λ o. o) ih
first_reads closes ts text mid r ih = single closes ts text mid r r.stands (λ o. o) ih
first_reads link ts text mid r ih = single link ts text mid r r.stands (λ o. o) ih
first_reads (kind k) ts text mid r ih = single (kind k) ts text mid r r.stands (λ o. o) ih
first_reads (property name value) ts text mid r ih = let s = r.stands in single (property name value) ts text mid r (s.spelling, s.words, s.named, s.closed, s.says) (λ o. o) ih
first_reads (caps x) ts text mid r ih = caps_first x ts text mid r r.stands ih
first_reads (reference name pad) ts text mid r ih = single (reference name pad) ts text mid r r.stands (λ o. o) ih

pub reads_spelt : (ts : List Token) (text rest : List ℕ) → Reads ts text rest → list_all is_white rest ≡ true → Spelt ts text
reads_spelt [] text rest h w = ([], (rest, h ∙ sym (append-nil rest), w), refl)
reads_spelt (t ∷ ts) text rest h w = first_reads t ts text h.0 h.1 (reads_spelt ts h.0 rest h.2 w)

-- tokens of a text up to white space
abbrev Told : List Token → List ℕ → Type 0
Told ts text = (rest : List ℕ) × Reads ts text rest × (list_all is_white rest ≡ true)

one_token : (t : Token) (ts : List Token) (w : List ℕ) (back : List (List ℕ)) (text : List ℕ) → Splits (w ∷ back) text [] → (is_word w ≡ true → Stands w t) → ((mid : List ℕ) → Splits back mid [] → Told ts mid) → Told (t ∷ ts) text
one_token t ts w back text h f ih =
    let i = ih h.1 h.6 in
    (i.0, (h.1, record { white = h.0; word = w; are_white = h.3; parts = h.2; stands = f (word_is w h.4 (stops_alone plain w h.1 h.5)); ended = stops_ends w h.1 h.5 }, i.1), i.2)

not_both : (x y : List ℕ) → 0 < length x → ends (x ++ y) ≡ true → is_start (x ++ y) ≡ true → ⊥
not_both [] y some h k = absurd (omega (arith, some))
not_both (b ∷ bs) y some h k = bad (rw h at k)
  where
    bad : not true ≡ true → ⊥
    bad e = cc

white_some : (white w mid : List ℕ) → 0 < length w → ends (white ++ (w ++ mid)) ≡ true → is_start (w ++ mid) ≡ true → not (eqb (length white) 0) ≡ true
white_some [] w mid some h k = absurd (not_both w mid some h k)
white_some (b ∷ bs) w mid some h k = not_zero (length (b ∷ bs)) (omega arith)

record CapsRest (more back : List (List ℕ)) (mid : List ℕ) : Type 0 where
  ms : List Spaced
  end : List ℕ
  is : mid ≡ flat_map with_white ms ++ end
  ended : ends end ≡ true
  rest : Splits back end []
  words : map alone ms ≡ more
  all : list_all is_more ms ≡ true

caps_back : (more back : List (List ℕ)) (mid : List ℕ) → Splits (more ++ back) mid [] → ends mid ≡ true → list_all is_closed more ≡ true → CapsRest more back mid
caps_back [] back mid k en c = record { ms = []; end = mid; is = refl; ended = en; rest = k; words = refl; all = refl }
caps_back (v ∷ vs) back mid k en c =
    let ih = caps_back vs back k.1 k.6 (stops_ends v k.1 k.5) (and_right (is_closed v) (list_all is_closed vs) c) in
    let some : not (eqb (length k.0) 0) ≡ true = white_some k.0 v k.1 k.4 (ap ends (sym k.2) ∙ en) (word_starts v k.1 k.4 k.5) in
    let good : is_more (k.0, v) ≡ true = four_true (not (eqb (length k.0) 0)) (list_all is_white k.0) (is_word v) (is_closed v) some k.3 (word_is v k.4 (stops_alone plain v k.1 k.5)) (and_left (is_closed v) (list_all is_closed vs) c) in
    record {
      ms = (k.0, v) ∷ ih.ms;
      end = ih.end;
      is = k.2 ∙ ap (λ l. k.0 ++ (v ++ l)) ih.is ∙ sym (apart_words (k.0, v) ih.ms ih.end);
      ended = ih.ended;
      rest = ih.rest;
      words = ap (λ l. v ∷ l) ih.words;
      all = both_true (is_more (k.0, v)) (list_all is_more ih.ms) good ih.all;
    }

caps_token : (text : List ℕ) (ts : List Token) (words back : List (List ℕ)) (all : List ℕ) → AreCapsWords words text → Splits (words ++ back) all [] → ((mid : List ℕ) → Splits back mid [] → Told ts mid) → Told (caps text ∷ ts) all
caps_token text ts words back all a h ih =
    let k : Splits (a.first ∷ (a.more ++ back)) all [] = subst (λ l. Splits (l ++ back) all []) a.is h in
    let r = caps_back a.more back k.1 k.6 (stops_ends a.first k.1 k.5) a.all_closed in
    let i = ih r.end r.rest in
    let caps_are : AreCaps (a.first ++ flat_map with_white r.ms) text = record { first = a.first; more = r.ms; begun = a.begun; is_one = word_is a.first k.4 (stops_alone plain a.first k.1 k.5); closed = a.closed; are_words = r.all; no_link = all_alone r.ms ∙ ap (list_all no_link) r.words ∙ a.all_plain; words = refl; says = a.says ∙ ap (λ l. taken Caps plain a.first ++ l) (ap (flat_map caps_word) (sym r.words) ∙ sym (said_alone r.ms)) } in
    (i.0, (r.end, record { white = k.0; word = a.first ++ flat_map with_white r.ms; are_white = k.3; parts = k.2 ∙ ap (λ l. k.0 ++ (a.first ++ l)) r.is ∙ ap (λ l. k.0 ++ l) (sym (append_assoc a.first (flat_map with_white r.ms) r.end)); stands = caps_are; ended = r.ended }, i.1), i.2)

front_one : (front back : List (List ℕ)) (w : List ℕ) (text : List ℕ) → front ≡ w ∷ [] → Splits (front ++ back) text [] → Splits (w ∷ back) text []
front_one front back w text e h = subst (λ l. Splits (l ++ back) text []) e h

first_token : (t : Token) (ts : List Token) (front back : List (List ℕ)) (text : List ℕ) → Says front t → Splits (front ++ back) text [] → ((mid : List ℕ) → Splits back mid [] → Told ts mid) → Told (t ∷ ts) text
first_token opens ts front back text s h ih = one_token opens ts s.0 back text (front_one front back s.0 text s.1 h) (λ w. s.2) ih
first_token closes ts front back text s h ih = one_token closes ts s.0 back text (front_one front back s.0 text s.1 h) (λ w. s.2) ih
first_token link ts front back text s h ih = one_token link ts s.0 back text (front_one front back s.0 text s.1 h) (λ w. s.2) ih
first_token (kind k) ts front back text s h ih = one_token (kind k) ts s.0 back text (front_one front back s.0 text s.1 h) (λ w. s.2) ih
first_token (property name value) ts front back text s h ih = let p = s.2 in one_token (property name value) ts s.0 back text (front_one front back s.0 text s.1 h) (λ w. record { spelling = p.0; words = p.1; named = p.2; is_one = w; closed = p.3; says = p.4 }) ih
first_token (caps x) ts front back text s h ih = caps_token x ts front back text s h ih
first_token (reference name pad) ts front back text s h ih = one_token (reference name pad) ts s.0 back text (front_one front back s.0 text s.1 h) (λ w. s.2) ih

pub spelt_reads : (ts : List Token) (ws : List (List ℕ)) (text : List ℕ) → Splits ws text [] → Spells ts ws → Told ts text
spelt_reads [] ws text h s =
    let k : Splits [] text [] = subst (λ l. Splits l text []) s h in
    (text, refl, subst (λ l. list_all is_white l ≡ true) (sym (k.1 ∙ append-nil k.0)) k.2)
spelt_reads (t ∷ ts) ws text h s = first_token t ts s.0 s.1 text s.3 (subst (λ l. Splits l text []) s.2 h) (λ mid k. spelt_reads ts s.1 mid k s.4)

-- a text is a line where its words spell the tokens of its tree
pub line_spelt : (text : List ℕ) (tree : Tree) → IsLine text tree → Spelt (tree_tokens tree) text
line_spelt text tree h = reads_spelt (tree_tokens tree) text h.rest h.reads h.left

pub spelt_line : (text : List ℕ) (tree : Tree) (ws : List (List ℕ)) → Splits ws text [] → Spells (tree_tokens tree) ws → tree_fits tree 16 ≡ true → IsLine text tree
spelt_line text tree ws h s f = let r = spelt_reads (tree_tokens tree) ws text h s in record { rest = r.0; fits = f; reads = r.1; left = r.2 }
