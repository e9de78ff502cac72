-- What is printed stands for its tree.
use Rattle.std.proofs.Common.{◌≡◌, ℕ, suc, ◌<◌, Bool, true, false, cond, eqb, ◌&&◌, ◌||◌, not, List, [], ◌∷◌, ◌++◌, map, length, inl, inr, refl, sym, ap, ◌∙◌, subst, arith, append_assoc, append-nil, codes}
use Rattle.std.specs.List.{flat_map, fold, list_all}
use Rattle.std.proofs.lemmas.Bool.Decides.{eqb_tells}
use Rattle.text_words.specs.Bytes.{is_run, is_white}
use Rattle.text_words.specs.Words.{after, mode_behind, is_closed, is_plain, plain}
use Rattle.text_words.specs.declared.class.Class.TheVariants.{Kind, Property}
use Rattle.text_words.specs.declared.word.Mode.{Mode}
use Rattle.launch_text.specs.Grammar.{IsLine}
use Rattle.launch_text.specs.Printed.{caps_text, is_marked, line_text, reference_text, token_text, value_text, with_marks, with_word}
use Rattle.launch_text.specs.Reading.{Splits}
use Rattle.launch_text.specs.Tokens.{Token, opens, closes, link, kind, property, caps, reference, tree_tokens}
use Rattle.launch_text.specs.Words.{AreCaps, Reads, Stands, begins_caps, ends, is_more, kept, taken, word_length}
use Rattle.launch_text.specs.declared.printing.Marked.TheVariants.{Value, Caps}
use Rattle.launch_text.specs.declared.tree.Tree.{Tree}
use Rattle.launch_text.proofs.Calm.{calm_behind, calm_closed, calm_length, property_closed, reference_calm, reference_some, run_calm, run_some, some_more, stops_more, word_all}
use Rattle.text_words.proofs.Kept.{behind_append, at_mode as at}
use Rattle.launch_text.proofs.Kept.{taken_append}
use Rattle.launch_text.proofs.Spelling.{IsWhole, Says, Spells, more_facts, spelt_line}
use Rattle.gst_value.proofs.Basics.{and_left, and_right}

plain_at : (q e : Bool) → (not q && not e) ≡ true → at q e ≡ plain
plain_at false false h = refl
plain_at true e h = absurd (cc)
plain_at false true h = absurd (cc)

plain_is : (m : Mode) → is_plain m ≡ true → m ≡ plain
plain_is m h = plain_at m.quoted m.escaped h

pub closed_behind : (w : List ℕ) → is_closed w ≡ true → mode_behind plain w ≡ plain
closed_behind w h = plain_is (mode_behind plain w) h

-- a word behind another
pub wide : (m : Mode) (x y : List ℕ) → word_length m x ≡ length x → word_length (mode_behind m x) y ≡ length y → word_length m (x ++ y) ≡ length (x ++ y)
wide m [] y h k = k
wide m (b ∷ bs) y h k = step (is_plain m && is_white b) h (λ g. wide (after m b) bs y g k)
  where
    step : (t : Bool) → cond t 0 (suc (word_length (after m b) bs)) ≡ suc (length bs) → (word_length (after m b) bs ≡ length bs → word_length (after m b) (bs ++ y) ≡ length (bs ++ y)) → cond t 0 (suc (word_length (after m b) (bs ++ y))) ≡ suc (length (bs ++ y))
    step true g ih = absurd (omega (arith, g))
    step false g ih = ap suc (ih (omega (arith, g)))

-- a word of caps with a backslash before each space
abbrev press : Bool → Bool → List ℕ → List ℕ
press q e w = with_marks Caps (taken Caps (at q e) w)

record Pressed (q e : Bool) (w p : List ℕ) : Type 0 where
  same : taken Caps (at q false) p ≡ taken Caps (at q e) w
  mode : mode_behind (at q false) p ≡ mode_behind (at q e) w
  all : word_length (at q e) w ≡ length w → word_length (at q false) p ≡ length p
  begins : begins_caps p ≡ begins_caps w

press_escaped : (q : Bool) (b : ℕ) (bs : List ℕ) → press q true (b ∷ bs) ≡ 92 ∷ b ∷ press q false bs
press_escaped q b bs = elim (eqb_tells b 32) [
  | inl t ↦ subst (λ x. press q true (x ∷ bs) ≡ 92 ∷ x ∷ press q false bs) (sym t.1) refl
  | inr t ↦ rw t.0 (rw t.0 refl)
]

escaped_all : (q : Bool) (b : ℕ) (bs p : List ℕ) → (word_length (at q false) bs ≡ length bs → word_length (at q false) p ≡ length p) → word_length (at q true) (b ∷ bs) ≡ suc (length bs) → word_length (at q false) (92 ∷ b ∷ p) ≡ suc (suc (length p))
escaped_all true b bs p ih h = ap (λ n. suc (suc n)) (ih (omega (arith, h)))
escaped_all false b bs p ih h = ap (λ n. suc (suc n)) (ih (omega (arith, h)))

slash_all : (q : Bool) (bs p : List ℕ) → (word_length (at q true) bs ≡ length bs → word_length (at q false) p ≡ length p) → word_length (at q false) (92 ∷ bs) ≡ suc (length bs) → word_length (at q false) p ≡ length p
slash_all true bs p ih h = ih (omega (arith, h))
slash_all false bs p ih h = ih (omega (arith, h))

space_all : (q : Bool) (bs p : List ℕ) → (word_length (at q false) bs ≡ length bs → word_length (at q false) p ≡ length p) → word_length (at q false) (32 ∷ bs) ≡ suc (length bs) → word_length (at q false) (92 ∷ 32 ∷ p) ≡ suc (suc (length p))
space_all true bs p ih h = ap (λ n. suc (suc n)) (ih (omega (arith, h)))
space_all false bs p ih h = absurd (omega (arith, h))

pressed_escaped : (q : Bool) (b : ℕ) (bs : List ℕ) → Pressed q false bs (press q false bs) → Pressed q true (b ∷ bs) (press q true (b ∷ bs))
pressed_escaped q b bs i = subst (Pressed q true (b ∷ bs)) (sym (press_escaped q b bs)) (record {
  same = ap (λ l. kept Caps true b (b ∷ []) ++ l) i.same;
  mode = i.mode;
  all = escaped_all q b bs (press q false bs) i.all;
  begins = ap (λ t. cond (eqb b 47) true (cond (eqb b 61) false t)) i.begins;
})

pressed_slash : (q : Bool) (bs : List ℕ) → Pressed q true bs (press q true bs) → Pressed q false (92 ∷ bs) (press q false (92 ∷ bs))
pressed_slash q bs i = record { same = i.same; mode = i.mode; all = slash_all q bs (press q true bs) i.all; begins = i.begins }

pressed_space : (q : Bool) (bs : List ℕ) → Pressed q false bs (press q false bs) → Pressed q false (32 ∷ bs) (press q false (32 ∷ bs))
pressed_space q bs i = record { same = ap (λ l. 32 ∷ l) i.same; mode = i.mode; all = space_all q bs (press q false bs) i.all; begins = i.begins }

abbrev turned : Bool → ℕ → Bool
turned q b = cond (eqb b 34) (not q) q

press_other : (q : Bool) (b : ℕ) (bs : List ℕ) → eqb b 92 ≡ false → eqb b 32 ≡ false → press q false (b ∷ bs) ≡ b ∷ press (turned q b) false bs
press_other q b bs e f = rw e (rw f refl)

after_other : (q : Bool) (b : ℕ) → eqb b 92 ≡ false → after (at q false) b ≡ at (turned q b) false
after_other q b e = ap (λ t. at (turned q b) t) e

other_all : (q : Bool) (b : ℕ) (bs p : List ℕ) → eqb b 92 ≡ false → (word_length (at (turned q b) false) bs ≡ length bs → word_length (at (turned q b) false) p ≡ length p) → word_length (at q false) (b ∷ bs) ≡ suc (length bs) → word_length (at q false) (b ∷ p) ≡ suc (length p)
other_all q b bs p e ih h = step (is_plain (at q false) && is_white b) (ap (λ m. cond (is_plain (at q false) && is_white b) 0 (suc (word_length m bs))) (sym (after_other q b e)) ∙ h)
  where
    tail : (t : Bool) → cond t 0 (suc (word_length (at (turned q b) false) p)) ≡ suc (length p) → cond t 0 (suc (word_length (after (at q false) b) p)) ≡ suc (length p)
    tail t k = ap (λ m. cond t 0 (suc (word_length m p))) (after_other q b e) ∙ k

    step : (t : Bool) → cond t 0 (suc (word_length (at (turned q b) false) bs)) ≡ suc (length bs) → cond t 0 (suc (word_length (after (at q false) b) p)) ≡ suc (length p)
    step true k = absurd (omega (arith, k))
    step false k = tail false (ap suc (ih (omega (arith, k))))

pressed_other : (q : Bool) (b : ℕ) (bs : List ℕ) → eqb b 92 ≡ false → eqb b 32 ≡ false → Pressed (turned q b) false bs (press (turned q b) false bs) → Pressed q false (b ∷ bs) (press q false (b ∷ bs))
pressed_other q b bs e f i = subst (Pressed q false (b ∷ bs)) (sym (press_other q b bs e f)) (record {
  same = ap (λ m. kept Caps false b (b ∷ []) ++ taken Caps m (press (turned q b) false bs)) (after_other q b e) ∙ ap (λ l. kept Caps false b (b ∷ []) ++ l) i.same ∙ ap (λ m. kept Caps false b (b ∷ []) ++ taken Caps m bs) (sym (after_other q b e));
  mode = ap (λ m. mode_behind m (press (turned q b) false bs)) (after_other q b e) ∙ i.mode ∙ ap (λ m. mode_behind m bs) (sym (after_other q b e));
  all = other_all q b bs (press (turned q b) false bs) e i.all;
  begins = ap (λ t. cond (eqb b 47) true (cond (eqb b 61) false t)) i.begins;
})

not_escaped : (q : Bool) → is_plain (at q true) ≡ true → ⊥
not_escaped true h = cc
not_escaped false h = cc

pressed : (q e : Bool) (w : List ℕ) → is_plain (mode_behind (at q e) w) ≡ true → Pressed q e w (press q e w)
pressed q true [] h = absurd (not_escaped q h)
pressed q false [] h = record { same = refl; mode = refl; all = λ k. refl; begins = refl }
pressed q true (b ∷ bs) h = pressed_escaped q b bs (pressed q false bs h)
pressed q false (b ∷ bs) h = elim (eqb_tells b 92) [
  | inl t ↦ subst (λ x. Pressed q false (x ∷ bs) (press q false (x ∷ bs))) (sym t.1) (pressed_slash q bs (pressed q true bs (subst (λ x. is_plain (mode_behind (after (at q false) x) bs) ≡ true) t.1 h)))
  | inr t ↦ elim (eqb_tells b 32) [
    | inl u ↦ subst (λ x. Pressed q false (x ∷ bs) (press q false (x ∷ bs))) (sym u.1) (pressed_space q bs (pressed q false bs (subst (λ x. is_plain (mode_behind (after (at q false) x) bs) ≡ true) u.1 h)))
    | inr u ↦ pressed_other q b bs t.0 u.0 (pressed (turned q b) false bs (ap (λ m. is_plain (mode_behind m bs)) (sym (after_other q b t.0)) ∙ h))
  ]
]

-- the words of caps as one word
abbrev Spaced : Type 0
Spaced = List ℕ × List ℕ

abbrev joint : Spaced → List ℕ
joint w = 92 ∷ 32 ∷ w.1

record OneWord (w text : List ℕ) : Type 0 where
  mode : mode_behind plain w ≡ plain
  all : word_length plain w ≡ length w
  says : taken Caps plain w ≡ text

joined : (first text : List ℕ) (more : List Spaced) → OneWord first text → list_all is_more more ≡ true → OneWord (first ++ flat_map joint more) (text ++ flat_map (λ w. 32 ∷ taken Caps plain w.1) more)
joined first text [] o h = record { mode = ap (mode_behind plain) (append-nil first) ∙ o.mode; all = ap (word_length plain) (append-nil first) ∙ o.all ∙ sym (ap length (append-nil first)); says = ap (taken Caps plain) (append-nil first) ∙ o.says ∙ sym (append-nil text) }
joined first text (m ∷ ms) o h =
    let f = more_facts m (and_left (is_more m) (list_all is_more ms) h) in
    let closed : mode_behind plain m.1 ≡ plain = closed_behind m.1 f.3 in
    let next : OneWord (first ++ joint m) (text ++ 32 ∷ taken Caps plain m.1) = record {
      mode = behind_append plain first (joint m) ∙ ap (λ x. mode_behind x (joint m)) o.mode ∙ closed;
      all = wide plain first (joint m) o.all (ap (λ x. word_length x (joint m)) o.mode ∙ ap (λ n. suc (suc n)) (word_all m.1 f.2));
      says = taken_append Caps plain first (joint m) ∙ ap (λ x. taken Caps plain first ++ taken Caps x (joint m)) o.mode ∙ ap (λ l. l ++ 32 ∷ taken Caps plain m.1) o.says;
    } in
    let ih = joined (first ++ joint m) (text ++ 32 ∷ taken Caps plain m.1) ms next (and_right (is_more m) (list_all is_more ms) h) in
    subst (λ w. OneWord w (text ++ flat_map (λ w. 32 ∷ taken Caps plain w.1) (m ∷ ms))) (append_assoc first (joint m) (flat_map joint ms)) (subst (OneWord ((first ++ joint m) ++ flat_map joint ms)) (append_assoc text (32 ∷ taken Caps plain m.1) (flat_map (λ w. 32 ∷ taken Caps plain w.1) ms)) ih)

pub begins_more : (x y : List ℕ) → begins_caps x ≡ true → begins_caps (x ++ y) ≡ true
begins_more [] y h = absurd (cc)
begins_more (b ∷ bs) y h = step (eqb b 47) (eqb b 61) h (λ k. begins_more bs y k)
  where
    step : (s t : Bool) → cond s true (cond t false (begins_caps bs)) ≡ true → (begins_caps bs ≡ true → begins_caps (bs ++ y) ≡ true) → cond s true (cond t false (begins_caps (bs ++ y))) ≡ true
    step true t k ih = refl
    step false true k ih = absurd (cc)
    step false false k ih = ih k

begins_some : (x : List ℕ) → begins_caps x ≡ true → 0 < length x
begins_some [] h = absurd (cc)
begins_some (b ∷ bs) h = omega arith

-- a printed word stands for its token
record IsPrinted (t : Token) : Type 0 where
  says : Says (token_text t ∷ []) t
  whole : IsWhole (token_text t)

caps_printed : (word text : List ℕ) → AreCaps word text → IsPrinted (caps text)
caps_printed word text a =
    let w = a.first ++ flat_map joint a.more in
    let o : OneWord w text = subst (OneWord (a.first ++ flat_map joint a.more)) (sym a.says) (joined a.first (taken Caps plain a.first) a.more (record { mode = closed_behind a.first a.closed; all = word_all a.first a.is_one; says = refl }) a.are_words) in
    let p : Pressed false false w (press false false w) = pressed false false w (ap is_plain o.mode) in
    let is : press false false w ≡ caps_text text = ap (with_marks Caps) o.says in
    let q : Pressed false false w (caps_text text) = subst (Pressed false false w) is p in
    let closed : is_closed (caps_text text) ≡ true = ap is_plain (q.mode ∙ o.mode) in
    let begun : begins_caps (caps_text text) ≡ true = q.begins ∙ begins_more a.first (flat_map joint a.more) a.begun in
    record {
      says = record { first = caps_text text; more = []; begun = begun; closed = closed; all_closed = refl; all_plain = refl; is = refl; says = sym (append-nil (taken Caps plain (caps_text text)) ∙ q.same ∙ o.says) };
      whole = record { some = begins_some (caps_text text) begun; all = q.all o.all; closed = closed };
    }

-- a value
record IsSpelt (value text : List ℕ) : Type 0 where
  mode : mode_behind plain text ≡ plain
  all : word_length plain text ≡ length text
  says : taken Value plain text ≡ value

unmarked : (b : ℕ) (bs x : List ℕ) → eqb b 34 ≡ false → eqb b 92 ≡ false → is_white b ≡ false → IsSpelt bs x → IsSpelt (b ∷ bs) (b ∷ x)
unmarked b bs x q s v i = record {
  mode = ap (λ m. mode_behind m x) same ∙ i.mode;
  all = ap (λ t. cond t 0 (suc (word_length (after plain b) x))) v ∙ ap (λ m. suc (word_length m x)) same ∙ ap suc i.all;
  says = ap (λ t. cond (t || eqb b 92) [] (b ∷ []) ++ taken Value (after plain b) x) q ∙ ap (λ t. cond t [] (b ∷ []) ++ taken Value (after plain b) x) s ∙ ap (λ m. b ∷ taken Value m x) same ∙ ap (λ l. b ∷ l) i.says;
}
  where
    same : after plain b ≡ plain
    same = rw (q, s) refl

marks_spelt : (value : List ℕ) → IsSpelt value (with_marks Value value)
marks_spelt [] = record { mode = refl; all = refl; says = refl }
marks_spelt (b ∷ bs) = step (is_marked Value b) refl (marks_spelt bs)
  where
    quote : is_marked Value b ≡ false → eqb b 34 ≡ false
    quote e = elim (eqb_tells b 34) [ inl t ↦ absurd (let bad : is_marked Value 34 ≡ false = ap (is_marked Value) (sym t.1) ∙ e in cc) | inr t ↦ t.0 ]

    slash : is_marked Value b ≡ false → eqb b 92 ≡ false
    slash e = elim (eqb_tells b 92) [ inl t ↦ absurd (let bad : is_marked Value 92 ≡ false = ap (is_marked Value) (sym t.1) ∙ e in cc) | inr t ↦ t.0 ]

    white : is_marked Value b ≡ false → is_white b ≡ false
    white e = go (is_white b) refl
      where
        go : (t : Bool) → is_white b ≡ t → t ≡ false
        go true k = absurd (let bad : is_marked Value b ≡ true = rw k refl in let no : true ≡ false = sym bad ∙ e in cc)
        go false k = refl

    step : (t : Bool) → is_marked Value b ≡ t → IsSpelt bs (with_marks Value bs) → IsSpelt (b ∷ bs) (cond t (92 ∷ b ∷ []) (b ∷ []) ++ with_marks Value bs)
    step true e i = record { mode = i.mode; all = ap (λ n. suc (suc n)) i.all; says = ap (λ l. b ∷ l) i.says }
    step false e i = unmarked b bs (with_marks Value bs) (quote e) (slash e) (white e) i

value_spelt : (value : List ℕ) → IsSpelt value (value_text value)
value_spelt [] = record { mode = refl; all = refl; says = refl }
value_spelt (b ∷ bs) = subst (IsSpelt (b ∷ bs)) (ap (λ t. cond t (34 ∷ 34 ∷ []) (with_marks Value (b ∷ bs))) (sym (none (length bs)))) (marks_spelt (b ∷ bs))
  where
    none : (n : ℕ) → eqb (suc n) 0 ≡ false
    none n = elim (eqb_tells (suc n) 0) [ inl t ↦ absurd (let bad = t.1 in omega (arith, bad)) | inr t ↦ t.0 ]

property_printed : (name value : List ℕ) → is_run Property name ≡ true → IsPrinted (property name value)
property_printed name value h =
    let v = value_spelt value in
    let closed : is_closed (value_text value) ≡ true = ap is_plain v.mode in
    record {
      says = (name ++ 61 ∷ value_text value, refl, (value_text value, refl, h, closed, sym v.says));
      whole = record { some = some_more name 61 (value_text value); all = wide plain name (61 ∷ value_text value) (calm_length name (run_calm Property name h)) (ap (λ m. word_length m (61 ∷ value_text value)) (calm_behind name (run_calm Property name h)) ∙ ap suc v.all); closed = property_closed name (value_text value) h ∙ closed };
    }

printed : (t : Token) (word : List ℕ) → Stands word t → IsPrinted t
printed opens word h = record { says = (codes "(", refl, refl); whole = record { some = omega arith; all = refl; closed = refl } }
printed closes word h = record { says = (codes ")", refl, refl); whole = record { some = omega arith; all = refl; closed = refl } }
printed link word h = record { says = (codes "!", refl, refl); whole = record { some = omega arith; all = refl; closed = refl } }
printed (kind k) word h = record { says = (k, refl, (refl, h.1)); whole = record { some = run_some Kind k h.1; all = calm_length k (run_calm Kind k h.1); closed = calm_closed k (run_calm Kind k h.1) } }
printed (property name value) word h = property_printed name value h.named
printed (caps text) word h = caps_printed word text h
printed (reference name pad) word h = record { says = (reference_text name pad, refl, (refl, h.1, h.2)); whole = record { some = reference_some name pad; all = calm_length (reference_text name pad) (reference_calm name pad h.1 h.2); closed = calm_closed (reference_text name pad) (reference_calm name pad h.1 h.2) } }

abbrev AllPrinted : List Token → Type 0
AllPrinted [] = Unit {0}
AllPrinted (t ∷ ts) = IsPrinted t × AllPrinted ts

all_printed : (ts : List Token) (text rest : List ℕ) → Reads ts text rest → AllPrinted ts
all_printed [] text rest h = tt
all_printed (t ∷ ts) text rest h = (printed t h.1.word h.1.stands, all_printed ts h.0 rest h.2)

spells_printed : (ts : List Token) → AllPrinted ts → Spells ts (map token_text ts)
spells_printed [] h = refl
spells_printed (t ∷ ts) h = (token_text t ∷ [], map token_text ts, refl, h.0.says, spells_printed ts h.1)

-- the printed words with a space before each
abbrev pub spaced_words : List (List ℕ) → List ℕ
spaced_words ws = flat_map (λ w. 32 ∷ w) ws

behind_some : (text : List ℕ) (b : ℕ) (ws : List (List ℕ)) → fold with_word (b ∷ text) ws ≡ (b ∷ text) ++ spaced_words ws
behind_some text b [] = sym (append-nil (b ∷ text))
behind_some text b (w ∷ ws) =
    ap (λ t. fold with_word (cond t [] ((b ∷ text) ++ 32 ∷ []) ++ w) ws) (none (length text))
    ∙ behind_some ((text ++ 32 ∷ []) ++ w) b ws
    ∙ ap (λ l. b ∷ l) (append_assoc (text ++ 32 ∷ []) w (spaced_words ws) ∙ append_assoc text (32 ∷ []) (w ++ spaced_words ws))
  where
    none : (n : ℕ) → eqb (suc n) 0 ≡ false
    none n = elim (eqb_tells (suc n) 0) [ inl t ↦ absurd (let bad = t.1 in omega (arith, bad)) | inr t ↦ t.0 ]

printed_text : (w : List ℕ) (ws : List (List ℕ)) → 0 < length w → fold with_word [] (w ∷ ws) ≡ w ++ spaced_words ws
printed_text [] ws h = absurd (omega (arith, h))
printed_text (b ∷ bs) ws h = behind_some bs b ws

abbrev pub AllWhole : List (List ℕ) → Type 0
AllWhole [] = Unit {0}
AllWhole (w ∷ ws) = IsWhole w × AllWhole ws

pub spaced_ends : (ws : List (List ℕ)) → ends (spaced_words ws) ≡ true
spaced_ends [] = refl
spaced_ends (w ∷ ws) = refl

pub spaced_splits : (ws : List (List ℕ)) → AllWhole ws → Splits ws (spaced_words ws) []
spaced_splits [] h = ([], refl, refl)
spaced_splits (w ∷ ws) h = (32 ∷ [], spaced_words ws, refl, refl, h.0.some, stops_more plain w (spaced_words ws) h.0.all h.0.closed (spaced_ends ws), spaced_splits ws h.1)

all_whole : (ts : List Token) → AllPrinted ts → AllWhole (map token_text ts)
all_whole [] h = tt
all_whole (t ∷ ts) h = (h.0.whole, all_whole ts h.1)

printed_splits : (ws : List (List ℕ)) → AllWhole ws → Splits ws (fold with_word [] ws) []
printed_splits [] h = ([], refl, refl)
printed_splits (w ∷ ws) h = ([], spaced_words ws, printed_text w ws h.0.some, refl, h.0.some, stops_more plain w (spaced_words ws) h.0.all h.0.closed (spaced_ends ws), spaced_splits ws h.1)

-- the line of a tree stands for it
pub line_again : (text : List ℕ) (tree : Tree) → IsLine text tree → IsLine (line_text tree) tree
line_again text tree h =
    let p = all_printed (tree_tokens tree) text h.rest h.reads in
    spelt_line (line_text tree) tree (map token_text (tree_tokens tree)) (printed_splits (map token_text (tree_tokens tree)) (all_whole (tree_tokens tree) p)) (spells_printed (tree_tokens tree) p) h.fits
