-- Words that are read as a tree spell it.
use Rattle.std.proofs.Common.{◌≡◌, ℕ, zero, suc, ◌+◌, ◌-◌, ◌<◌, Bool, true, false, cond, eqb, ◌&&◌, not, List, [], ◌∷◌, ◌++◌, length, Option, Some, None, refl, sym, ap, ◌∙◌, subst, arith, append_assoc, append-nil, length-append, codes}
use Rattle.std.specs.Prelude.{nat_lt}
use Rattle.std.specs.List.{flat_map, list_all}
use Rattle.std.specs.Str.{bytes_eq}
use Rattle.std.proofs.lemmas.Grind.{flat_map-append}
use Rattle.std.proofs.lemmas.List.Folds.{list_all-append}
use Rattle.std.proofs.lemmas.Bool.{ltb-true}
use Rattle.std.proofs.lemmas.List.{map-append}
use Rattle.std.proofs.lemmas.Option.{none-some, same_Some}
use Rattle.gst_value.specs.declared.name.Prop.{Prop}
use Rattle.text_words.specs.Bytes.{is_run}
use Rattle.text_words.specs.Values.{property_of, ◌>>=◌}
use Rattle.text_words.specs.Words.{is_closed, plain}
use Rattle.text_words.specs.declared.class.Class.TheVariants.{Kind}
use Rattle.launch_text.specs.Grammar.{are_others, is_alone, is_chain, is_end, is_middle, part_fits, tree_fits}
use Rattle.launch_text.specs.Reading.{Held, State, begin_part, behind_caps, behind_element, behind_link, behind_reference, closed, closed_in, element_from, ended, finish, finish_from, go_on, innermost, linked_to, more_outer, none, opened, reference_of, run, said, step, step_from, tree_of, whole}
use Rattle.launch_text.specs.Tokens.{Token, opens, closes, link, kind, property, caps, reference, chain_tokens, linked, node_tokens, part_tokens, prop_token, tree_tokens}
use Rattle.launch_text.specs.Words.{begins_caps, taken}
use Rattle.launch_text.specs.declared.line.Last.{Last}
use Rattle.launch_text.specs.declared.line.Last.TheVariants.{Start, Bin, Chain, Element, Link, Caps, Reference}
use Rattle.launch_text.specs.declared.printing.Marked.{Marked}
use Rattle.launch_text.specs.declared.printing.Marked.TheVariants.{Value as InValue, Caps as InCaps}
use Rattle.launch_text.specs.declared.tree.Node.{Node}
use Rattle.launch_text.specs.declared.tree.Node.TheVariants.{Element as ElementNode, Caps as CapsNode, Reference as ReferenceNode}
use Rattle.launch_text.specs.declared.tree.Part.{Part}
use Rattle.launch_text.specs.declared.tree.Part.TheVariants.{Chain as ChainPart, Bin as BinPart}
use Rattle.launch_text.specs.declared.tree.Tree.{Tree}
use Rattle.launch_text.proofs.Calm.{not_zero}
use Rattle.launch_text.proofs.Complete.{fits_bin, fits_chain, fits_parts}
use Rattle.launch_text.proofs.Facts.{link_differs_back, property_sound, reference_sound, same_text}
use Rattle.launch_text.proofs.Lines.{bin_part, chain_part, tree_parts}
use Rattle.launch_text.proofs.Spelling.{AreCapsWords, Says, Spells, caps_word, no_link, spells_append, spells_parts}
use Rattle.launch_text.proofs.Splitting.{run_none}
use Rattle.gst_value.proofs.Basics.{and_left, and_right, and_both as both_true, not_false}

-- the tokens of what was read
abbrev pub outer_tokens : List Part → List Token
outer_tokens ps = flat_map part_tokens ps ++ opens ∷ []

abbrev pub node_link : Node → List Token
node_link n = node_tokens n ++ link ∷ []

abbrev pub held_tokens : Held → List Token
held_tokens h = flat_map outer_tokens h.outer ++ (flat_map part_tokens h.parts ++ flat_map node_link h.nodes)

abbrev pub last_tokens : Last → List Token
last_tokens Start = []
last_tokens Bin = []
last_tokens Chain = []
last_tokens (Element k props) = node_tokens (ElementNode k props)
last_tokens Link = []
last_tokens (Caps text) = caps text ∷ []
last_tokens (Reference n) = node_tokens n

-- the parts fit where so many brackets may be in them
abbrev pub fits_all : ℕ → List Part → Bool
fits_all room ps = list_all (λ p. part_fits p room) ps

abbrev pub fits_outer : ℕ → List (List Part) → Bool
fits_outer room [] = true
fits_outer room (x ∷ xs) = fits_all room x && fits_outer (room - 1) xs

pub record Fits (h : Held) : Type 0 where
  pub room : ℕ
  pub size : length h.outer + room ≡ 16
  pub outer_fit : fits_outer 16 h.outer ≡ true
  pub parts_fit : fits_all room h.parts ≡ true

-- nodes that may stand before others
abbrev pub front_ok : List Node → Bool
front_ok [] = true
front_ok (n ∷ ns) = is_end n && list_all is_middle ns

-- what may be whole where this was read last
abbrev pub Shape : Held → Last → Type 0
Shape h Start = h.nodes ≡ []
Shape h Bin = (0 < length h.parts) × (h.nodes ≡ [])
Shape h Chain = (0 < length h.parts) × (h.nodes ≡ [])
Shape h (Element k props) = front_ok h.nodes ≡ true
Shape h Link = (0 < length h.nodes) × (front_ok h.nodes ≡ true)
Shape h (Caps text) = (0 < length h.nodes) × (front_ok h.nodes ≡ true)
Shape h (Reference n) = (h.nodes ≡ []) × (is_end n ≡ true)

-- the words spell what was read
pub record Fine (s : State) (ws : List (List ℕ)) : Type 0 where
  pub fits : Fits s.0
  pub shape : Shape s.0 s.1
  pub spells : Spells (held_tokens s.0 ++ last_tokens s.1) ws

-- the same where no node goes on
pub record Settled (h : Held) (ws : List (List ℕ)) : Type 0 where
  pub fits : Fits h
  pub nodes : h.nodes ≡ []
  pub spells : Spells (held_tokens h) ws

spells_one : (t : Token) (w : List ℕ) → Says (w ∷ []) t → Spells (t ∷ []) (w ∷ [])
spells_one t w s = (w ∷ [], [], refl, s, refl)

more_spelt : (xs : List Token) (t : Token) (ws : List (List ℕ)) (w : List ℕ) → Spells xs ws → Says (w ∷ []) t → Spells (xs ++ t ∷ []) (ws ++ w ∷ [])
more_spelt xs t ws w h s = spells_append xs (t ∷ []) ws (w ∷ []) h (spells_one t w s)

respelt : (xs ys : List Token) (ws : List (List ℕ)) → xs ≡ ys → Spells xs ws → Spells ys ws
respelt xs ys ws e h = subst (λ l. Spells l ws) e h

-- brackets
fits_push : (room : ℕ) (xs : List (List Part)) (x : List Part) (r : ℕ) → length xs + suc r ≡ room → fits_outer room xs ≡ true → fits_all (suc r) x ≡ true → fits_outer room (xs ++ x ∷ []) ≡ true
fits_push room [] x r e o f = let is : suc r ≡ room = omega (arith, e) in both_true (fits_all room x) true (subst (λ n. fits_all n x ≡ true) is f) refl
fits_push room (y ∷ ys) x r e o f = both_true (fits_all room y) (fits_outer (room - 1) (ys ++ x ∷ [])) (and_left (fits_all room y) (fits_outer (room - 1) ys) o) (fits_push (room - 1) ys x r (omega (arith, e)) (and_right (fits_all room y) (fits_outer (room - 1) ys) o) f)

fits_pop : (room : ℕ) (xs : List (List Part)) (x : List Part) (r : ℕ) → length xs + suc r ≡ room → fits_outer room (xs ++ x ∷ []) ≡ true → (fits_outer room xs ≡ true) × (fits_all (suc r) x ≡ true)
fits_pop room [] x r e o = let is : room ≡ suc r = omega (arith, e) in (refl, subst (λ n. fits_all n x ≡ true) is (and_left (fits_all room x) true o))
fits_pop room (y ∷ ys) x r e o =
    let ih = fits_pop (room - 1) ys x r (omega (arith, e)) (and_right (fits_all room y) (fits_outer (room - 1) (ys ++ x ∷ [])) o) in
    (both_true (fits_all room y) (fits_outer (room - 1) ys) (and_left (fits_all room y) (fits_outer (room - 1) (ys ++ x ∷ [])) o) ih.0, ih.1)

regroup_open : (X P : List Token) → (X ++ ((P ++ opens ∷ []) ++ [])) ++ [] ≡ (X ++ (P ++ [])) ++ opens ∷ []
regroup_open X P = simp (append_assoc, append-nil)

opened_tokens : (xs : List (List Part)) (ps : List Part) → flat_map outer_tokens (xs ++ ps ∷ []) ++ [] ≡ (flat_map outer_tokens xs ++ (flat_map part_tokens ps ++ [])) ++ opens ∷ []
opened_tokens xs ps = ap (λ l. l ++ []) (flat_map-append outer_tokens xs (ps ∷ [])) ∙ regroup_open (flat_map outer_tokens xs) (flat_map part_tokens ps)

open_fine : (h : Held) (w : List ℕ) (ws : List (List ℕ)) → Settled h ws → length h.outer < 16 → w ≡ codes "(" → Fine (record { outer = h.outer ++ h.parts ∷ []; parts = []; nodes = h.nodes }, Start) (ws ++ w ∷ [])
open_fine h w ws b less e = step b.fits.room b.fits.size b.fits.parts_fit
  where
    step : (room : ℕ) → length h.outer + room ≡ 16 → fits_all room h.parts ≡ true → Fine (record { outer = h.outer ++ h.parts ∷ []; parts = []; nodes = h.nodes }, Start) (ws ++ w ∷ [])
    step zero s f = absurd (omega (arith, s, less))
    step (suc r) s f = record {
      fits = record { room = r; size = omega (arith, s, length-append h.outer (h.parts ∷ [])); outer_fit = fits_push 16 h.outer h.parts r s b.fits.outer_fit f; parts_fit = refl };
      shape = b.nodes;
      spells =
          let before = respelt (held_tokens h) (flat_map outer_tokens h.outer ++ (flat_map part_tokens h.parts ++ [])) ws (ap (λ l. flat_map outer_tokens h.outer ++ (flat_map part_tokens h.parts ++ flat_map node_link l)) b.nodes) b.spells in
          let behind = respelt _ _ (ws ++ w ∷ []) (sym (opened_tokens h.outer h.parts)) (more_spelt (flat_map outer_tokens h.outer ++ (flat_map part_tokens h.parts ++ [])) opens ws w before (w, refl, e)) in
          let is : held_tokens (record { outer = h.outer ++ h.parts ∷ []; parts = []; nodes = h.nodes }) ++ [] ≡ flat_map outer_tokens (h.outer ++ h.parts ∷ []) ++ [] = append-nil _ ∙ ap (λ l. flat_map outer_tokens (h.outer ++ h.parts ∷ []) ++ flat_map node_link l) b.nodes in
          respelt _ _ (ws ++ w ∷ []) (sym is) behind;
    }

pub innermost_sound : (xs : List (List Part)) (p : List (List Part) × List Part) → innermost xs ≡ Some p → xs ≡ p.0 ++ p.1 ∷ []
innermost_sound [] p h = absurd (none-some p h)
innermost_sound (x ∷ xs) p h = step (innermost xs) refl h (innermost_sound xs)
  where
    no_more : (ys : List (List Part)) → innermost ys ≡ None → ys ≡ []
    no_more [] e = refl
    no_more (y ∷ ys) e = absurd (other (innermost ys) e)
      where
        other : (o : Option (List (List Part) × List Part)) → more_outer y o ≡ None → ⊥
        other None k = cc
        other (Some q) k = cc

    step : (o : Option (List (List Part) × List Part)) → innermost xs ≡ o → more_outer x o ≡ Some p → ((q : List (List Part) × List Part) → innermost xs ≡ Some q → xs ≡ q.0 ++ q.1 ∷ []) → x ∷ xs ≡ p.0 ++ p.1 ∷ []
    step None e k ih = ap (λ l. x ∷ l) (no_more xs e) ∙ ap (λ q. q.0 ++ q.1 ∷ []) (same_Some ([], x) p k)
    step (Some q) e k ih = ap (λ l. x ∷ l) (ih q e) ∙ ap (λ r. r.0 ++ r.1 ∷ []) (same_Some (x ∷ q.0, q.1) p k)

regroup_close : (X A P : List Token) → X ++ ((A ++ ((opens ∷ (P ++ closes ∷ [])) ++ [])) ++ []) ≡ ((X ++ ((A ++ opens ∷ []) ++ [])) ++ (P ++ [])) ++ closes ∷ []
regroup_close X A P = simp (append_assoc, append-nil)

closed_tokens : (xs : List (List Part)) (x ps : List Part) → flat_map outer_tokens xs ++ (flat_map part_tokens (x ++ BinPart (record { parts = ps }) ∷ []) ++ []) ≡ (flat_map outer_tokens (xs ++ x ∷ []) ++ (flat_map part_tokens ps ++ [])) ++ closes ∷ []
closed_tokens xs x ps =
    ap (λ l. flat_map outer_tokens xs ++ (l ++ [])) (flat_map-append part_tokens x (BinPart (record { parts = ps }) ∷ []) ∙ ap (λ l. flat_map part_tokens x ++ (l ++ [])) (bin_part (record { parts = ps }) ∙ ap (λ l. opens ∷ (l ++ closes ∷ [])) (tree_parts (record { parts = ps }))))
    ∙ regroup_close (flat_map outer_tokens xs) (flat_map part_tokens x) (flat_map part_tokens ps)
    ∙ ap (λ l. (l ++ (flat_map part_tokens ps ++ [])) ++ closes ∷ []) (sym (flat_map-append outer_tokens xs (x ∷ [])))

close_fine : (h : Held) (w : List ℕ) (ws : List (List ℕ)) (p : List (List Part) × List Part) → Settled h ws → 0 < length h.parts → h.outer ≡ p.0 ++ p.1 ∷ [] → w ≡ codes ")" → Fine (record { outer = p.0; parts = p.1 ++ BinPart (record { parts = h.parts }) ∷ []; nodes = h.nodes }, Bin) (ws ++ w ∷ [])
close_fine h w ws p b some is e = record {
  fits = record { room = suc b.fits.room; size = size; outer_fit = popped.0; parts_fit = list_all-append (λ q. part_fits q (suc b.fits.room)) p.1 (BinPart (record { parts = h.parts }) ∷ []) ∙ both_true (fits_all (suc b.fits.room) p.1) _ popped.1 (both_true (part_fits (BinPart (record { parts = h.parts })) (suc b.fits.room)) true inside refl) };
  shape = (omega (arith, length-append p.1 (BinPart (record { parts = h.parts }) ∷ [])), b.nodes);
  spells = respelt _ _ (ws ++ w ∷ []) (sym same) (more_spelt (flat_map outer_tokens (p.0 ++ p.1 ∷ []) ++ (flat_map part_tokens h.parts ++ [])) closes ws w before (w, refl, e));
}
  where
    size : length p.0 + suc b.fits.room ≡ 16
    size = omega (arith, b.fits.size, ap length is, length-append p.0 (p.1 ∷ []))

    popped : (fits_outer 16 p.0 ≡ true) × (fits_all (suc b.fits.room) p.1 ≡ true)
    popped = fits_pop 16 p.0 p.1 b.fits.room size (ap (fits_outer 16) (sym is) ∙ b.fits.outer_fit)

    inside : part_fits (BinPart (record { parts = h.parts })) (suc b.fits.room) ≡ true
    inside = fits_bin (record { parts = h.parts }) b.fits.room ∙ fits_parts h.parts b.fits.room ∙ both_true (not (eqb (length h.parts) 0)) (fits_all b.fits.room h.parts) (not_zero (length h.parts) some) b.fits.parts_fit

    before : Spells (flat_map outer_tokens (p.0 ++ p.1 ∷ []) ++ (flat_map part_tokens h.parts ++ [])) ws
    before = respelt (held_tokens h) (flat_map outer_tokens (p.0 ++ p.1 ∷ []) ++ (flat_map part_tokens h.parts ++ [])) ws (ap (λ l. flat_map outer_tokens h.outer ++ (flat_map part_tokens h.parts ++ flat_map node_link l)) b.nodes ∙ ap (λ l. flat_map outer_tokens l ++ (flat_map part_tokens h.parts ++ [])) is) b.spells

    same : (flat_map outer_tokens p.0 ++ (flat_map part_tokens (p.1 ++ BinPart (record { parts = h.parts }) ∷ []) ++ flat_map node_link h.nodes)) ++ [] ≡ (flat_map outer_tokens (p.0 ++ p.1 ∷ []) ++ (flat_map part_tokens h.parts ++ [])) ++ closes ∷ []
    same = append-nil _ ∙ ap (λ l. flat_map outer_tokens p.0 ++ (flat_map part_tokens (p.1 ++ BinPart (record { parts = h.parts }) ∷ []) ++ flat_map node_link l)) b.nodes ∙ closed_tokens p.0 p.1 h.parts

-- words that begin a part
begin_fine : (h : Held) (w : List ℕ) (ws : List (List ℕ)) (s : State) → Settled h ws → begin_part h w ≡ Some s → Fine s (ws ++ w ∷ [])
unfolding begin_part opened
begin_fine h w ws s b e = first (bytes_eq w (codes "(")) refl e
  where
    third : (o : Option Node) → reference_of w ≡ o → (o >>= λ n. Some (h, Reference n)) ≡ Some s → Fine s (ws ++ w ∷ [])
    third None f k = absurd (none-some s k)
    third (Some n) f k =
        let r = reference_sound w n f in
        let good : Fine (h, Reference (ReferenceNode r.name r.pad)) (ws ++ w ∷ []) = record { fits = b.fits; shape = (b.nodes, refl); spells = more_spelt (held_tokens h) (reference r.name r.pad) ws w b.spells (w, refl, (r.word, r.name_is, r.pad_is)) } in
        subst (λ x. Fine x (ws ++ w ∷ [])) (ap (λ n. (h, Reference n)) (sym r.node) ∙ same_Some (h, Reference n) s k) good

    second : (t : Bool) → is_run Kind w ≡ t → cond t (Some (h, Element w [])) (reference_of w >>= λ n. Some (h, Reference n)) ≡ Some s → Fine s (ws ++ w ∷ [])
    second true f k = subst (λ x. Fine x (ws ++ w ∷ [])) (same_Some (h, Element w []) s k) (record { fits = b.fits; shape = ap front_ok b.nodes; spells = more_spelt (held_tokens h) (kind w) ws w b.spells (w, refl, (refl, f)) })
    second false f k = third (reference_of w) refl k

    inner : (t : Bool) → nat_lt (length h.outer) 16 ≡ t → bytes_eq w (codes "(") ≡ true → (cond t (Some (record { outer = h.outer ++ h.parts ∷ []; parts = []; nodes = h.nodes })) None >>= λ g. Some (g, Start)) ≡ Some s → Fine s (ws ++ w ∷ [])
    inner true f g k = subst (λ x. Fine x (ws ++ w ∷ [])) (same_Some (record { outer = h.outer ++ h.parts ∷ []; parts = []; nodes = h.nodes }, Start) s k) (open_fine h w ws b (ltb-true (length h.outer) 16 f) (same_text w (codes "(") g))
    inner false f g k = absurd (none-some s k)

    first : (t : Bool) → bytes_eq w (codes "(") ≡ t → cond t (opened h >>= λ g. Some (g, Start)) (cond (is_run Kind w) (Some (h, Element w [])) (reference_of w >>= λ n. Some (h, Reference n))) ≡ Some s → Fine s (ws ++ w ∷ [])
    first true f k = inner (nat_lt (length h.outer) 16) refl f k
    first false f k = second (is_run Kind w) refl k

-- words behind a whole part
on_fine : (h : Held) (w : List ℕ) (ws : List (List ℕ)) (s : State) → Settled h ws → 0 < length h.parts → go_on h w ≡ Some s → Fine s (ws ++ w ∷ [])
unfolding go_on closed
on_fine h w ws s b some e = first (bytes_eq w (codes ")")) refl e
  where
    inner : (o : Option (List (List Part) × List Part)) → innermost h.outer ≡ o → bytes_eq w (codes ")") ≡ true → ((o >>= closed_in h) >>= λ g. Some (g, Bin)) ≡ Some s → Fine s (ws ++ w ∷ [])
    inner None f g k = absurd (none-some s k)
    inner (Some p) f g k = subst (λ x. Fine x (ws ++ w ∷ [])) (same_Some (record { outer = p.0; parts = p.1 ++ BinPart (record { parts = h.parts }) ∷ []; nodes = h.nodes }, Bin) s k) (close_fine h w ws p b some (innermost_sound h.outer p f) (same_text w (codes ")") g))

    first : (t : Bool) → bytes_eq w (codes ")") ≡ t → cond t (closed h >>= λ g. Some (g, Bin)) (begin_part h w) ≡ Some s → Fine s (ws ++ w ∷ [])
    first true f k = inner (innermost h.outer) refl f k
    first false f k = begin_fine h w ws s b k

-- a chain that ends
others_ok : (ns : List Node) (n : Node) → list_all is_middle ns ≡ true → is_end n ≡ true → are_others (ns ++ n ∷ []) ≡ true
others_ok [] n a e = e
others_ok (m ∷ []) n a e = both_true (is_middle m) (is_end n) (and_left (is_middle m) true a) e
others_ok (m ∷ m2 ∷ ms) n a e = both_true (is_middle m) (are_others ((m2 ∷ ms) ++ n ∷ [])) (and_left (is_middle m) (list_all is_middle (m2 ∷ ms)) a) (others_ok (m2 ∷ ms) n (and_right (is_middle m) (list_all is_middle (m2 ∷ ms)) a) e)

chain_ok : (ns : List Node) (n : Node) → front_ok ns ≡ true → is_end n ≡ true → (length ns ≡ 0 → is_alone n ≡ true) → is_chain (ns ++ n ∷ []) ≡ true
chain_ok [] n f e a = a refl
chain_ok (m ∷ []) n f e a = both_true (is_end m) (are_others (n ∷ [])) (and_left (is_end m) true f) e
chain_ok (m ∷ m2 ∷ ms) n f e a = both_true (is_end m) (are_others ((m2 ∷ ms) ++ n ∷ [])) (and_left (is_end m) (list_all is_middle (m2 ∷ ms)) f) (others_ok (m2 ∷ ms) n (and_right (is_end m) (list_all is_middle (m2 ∷ ms)) f) e)

front_more : (ns : List Node) (n : Node) → front_ok ns ≡ true → (length ns ≡ 0 → is_end n ≡ true) → (0 < length ns → is_middle n ≡ true) → front_ok (ns ++ n ∷ []) ≡ true
front_more [] n f e m = both_true (is_end n) true (e refl) refl
front_more (x ∷ xs) n f e m = both_true (is_end x) (list_all is_middle (xs ++ n ∷ [])) (and_left (is_end x) (list_all is_middle xs) f) (list_all-append is_middle xs (n ∷ []) ∙ both_true (list_all is_middle xs) _ (and_right (is_end x) (list_all is_middle xs) f) (both_true (is_middle n) true (m (omega arith)) refl))

linked_last : (ns : List Node) (n : Node) → linked (ns ++ n ∷ []) ≡ link ∷ (flat_map node_link ns ++ node_tokens n)
linked_last [] n = ap (λ l. link ∷ l) (append-nil (node_tokens n))
linked_last (m ∷ ms) n = ap (λ l. link ∷ (node_tokens m ++ l)) (linked_last ms n) ∙ ap (λ l. link ∷ l) (regroup (node_tokens m) (flat_map node_link ms) (node_tokens n))
  where
    regroup : (A B C : List Token) → A ++ link ∷ (B ++ C) ≡ ((A ++ link ∷ []) ++ B) ++ C
    regroup A B C = simp append_assoc

chain_last : (ns : List Node) (n : Node) → chain_tokens (ns ++ n ∷ []) ≡ flat_map node_link ns ++ node_tokens n
chain_last [] n = append-nil (node_tokens n)
chain_last (m ∷ ms) n = ap (λ l. node_tokens m ++ l) (linked_last ms n) ∙ regroup (node_tokens m) (flat_map node_link ms) (node_tokens n)
  where
    regroup : (A B C : List Token) → A ++ link ∷ (B ++ C) ≡ ((A ++ link ∷ []) ++ B) ++ C
    regroup A B C = simp append_assoc

regroup_chain : (X P N T : List Token) → X ++ ((P ++ ((N ++ T) ++ [])) ++ []) ≡ (X ++ (P ++ N)) ++ T
regroup_chain X P N T = simp (append_assoc, append-nil)

ended_tokens : (h : Held) (n : Node) → held_tokens (ended h n) ≡ held_tokens h ++ node_tokens n
ended_tokens h n =
    ap (λ l. flat_map outer_tokens h.outer ++ (l ++ [])) (flat_map-append part_tokens h.parts (ChainPart (record { nodes = h.nodes ++ n ∷ [] }) ∷ []) ∙ ap (λ l. flat_map part_tokens h.parts ++ (l ++ [])) (chain_part (record { nodes = h.nodes ++ n ∷ [] }) ∙ chain_last h.nodes n))
    ∙ regroup_chain (flat_map outer_tokens h.outer) (flat_map part_tokens h.parts) (flat_map node_link h.nodes) (node_tokens n)

ended_fits : (h : Held) (n : Node) → Fits h → is_chain (h.nodes ++ n ∷ []) ≡ true → Fits (ended h n)
ended_fits h n f c = record { room = f.room; size = f.size; outer_fit = f.outer_fit; parts_fit = list_all-append (λ q. part_fits q f.room) h.parts (ChainPart (record { nodes = h.nodes ++ n ∷ [] }) ∷ []) ∙ both_true (fits_all f.room h.parts) _ f.parts_fit (both_true (part_fits (ChainPart (record { nodes = h.nodes ++ n ∷ [] })) f.room) true (fits_chain (record { nodes = h.nodes ++ n ∷ [] }) f.room ∙ c) refl) }

ended_some : (h : Held) (n : Node) → 0 < length (ended h n).parts
ended_some h n = omega (arith, length-append h.parts (ChainPart (record { nodes = h.nodes ++ n ∷ [] }) ∷ []))

settle : (h : Held) (k : List ℕ) (props : List Prop) (ws : List (List ℕ)) → Fine (h, Element k props) ws → Settled (ended h (ElementNode k props)) ws
settle h k props ws f = record { fits = ended_fits h (ElementNode k props) f.fits (chain_ok h.nodes (ElementNode k props) f.shape refl (λ e. refl)); nodes = refl; spells = respelt _ _ ws (sym (ended_tokens h (ElementNode k props))) f.spells }

-- a link behind a node
regroup_link : (X P N T : List Token) → (X ++ (P ++ (N ++ ((T ++ link ∷ []) ++ [])))) ++ [] ≡ ((X ++ (P ++ N)) ++ T) ++ link ∷ []
regroup_link X P N T = simp (append_assoc, append-nil)

link_fine : (h : Held) (last : Last) (n : Node) (w : List ℕ) (ws : List (List ℕ)) → Fine (h, last) ws → last_tokens last ≡ node_tokens n → front_ok (h.nodes ++ n ∷ []) ≡ true → w ≡ codes "!" → Fine (linked_to h n) (ws ++ w ∷ [])
link_fine h last n w ws f t o e = record {
  fits = record { room = f.fits.room; size = f.fits.size; outer_fit = f.fits.outer_fit; parts_fit = f.fits.parts_fit };
  shape = (omega (arith, length-append h.nodes (n ∷ [])), o);
  spells = respelt _ _ (ws ++ w ∷ []) (sym is) (more_spelt (held_tokens h ++ node_tokens n) link ws w (respelt _ _ ws (ap (λ l. held_tokens h ++ l) t) f.spells) (w, refl, e));
}
  where
    is : held_tokens (linked_to h n).0 ++ [] ≡ (held_tokens h ++ node_tokens n) ++ link ∷ []
    is = ap (λ l. (flat_map outer_tokens h.outer ++ (flat_map part_tokens h.parts ++ l)) ++ []) (flat_map-append node_link h.nodes (n ∷ [])) ∙ regroup_link (flat_map outer_tokens h.outer) (flat_map part_tokens h.parts) (flat_map node_link h.nodes) (node_tokens n)

said_sound : (marked : Marked) (w text : List ℕ) → said marked w ≡ Some text → (is_closed w ≡ true) × (text ≡ taken marked plain w)
unfolding said
said_sound marked w text h = step (is_closed w) refl h
  where
    step : (t : Bool) → is_closed w ≡ t → cond t (Some (taken marked plain w)) None ≡ Some text → (is_closed w ≡ true) × (text ≡ taken marked plain w)
    step true e k = (e, sym (same_Some (taken marked plain w) text k))
    step false e k = absurd (none-some text k)

-- a word behind an element
element_fine : (h : Held) (k : List ℕ) (props : List Prop) (w : List ℕ) (ws : List (List ℕ)) (s : State) → Fine (h, Element k props) ws → behind_element h k props w ≡ Some s → Fine s (ws ++ w ∷ [])
unfolding behind_element
element_fine h k props w ws s f e = first (property_of w) refl e
  where
    added : (p : List ℕ × List ℕ) (o : Option (List ℕ)) → said InValue p.1 ≡ o → property_of w ≡ Some p → (o >>= λ value. Some (h, Element k (props ++ record { name = p.0; value = value } ∷ []))) ≡ Some s → Fine s (ws ++ w ∷ [])
    added p None g q r = absurd (none-some s r)
    added p (Some value) g q r =
        let sound = said_sound InValue p.1 value g in
        let is = property_sound w p q in
        let one : Spells ((held_tokens h ++ node_tokens (ElementNode k props)) ++ property p.0 value ∷ []) (ws ++ w ∷ []) = more_spelt (held_tokens h ++ node_tokens (ElementNode k props)) (property p.0 value) ws w f.spells (w, refl, (p.1, is.0, is.1, sound.0, sound.1)) in
        let same : (held_tokens h ++ node_tokens (ElementNode k props)) ++ property p.0 value ∷ [] ≡ held_tokens h ++ node_tokens (ElementNode k (props ++ record { name = p.0; value = value } ∷ [])) = append_assoc (held_tokens h) (node_tokens (ElementNode k props)) (property p.0 value ∷ []) ∙ ap (λ l. held_tokens h ++ kind k ∷ l) (sym (map-append prop_token props (record { name = p.0; value = value } ∷ []))) in
        let good : Fine (h, Element k (props ++ record { name = p.0; value = value } ∷ [])) (ws ++ w ∷ []) = record { fits = f.fits; shape = f.shape; spells = respelt _ _ (ws ++ w ∷ []) same one } in
        subst (λ x. Fine x (ws ++ w ∷ [])) (same_Some (h, Element k (props ++ record { name = p.0; value = value } ∷ [])) s r) good

    second : (t : Bool) → bytes_eq w (codes "!") ≡ t → cond t (Some (linked_to h (ElementNode k props))) (go_on (ended h (ElementNode k props)) w) ≡ Some s → Fine s (ws ++ w ∷ [])
    second true g r = subst (λ x. Fine x (ws ++ w ∷ [])) (same_Some (linked_to h (ElementNode k props)) s r) (link_fine h (Element k props) (ElementNode k props) w ws f refl (front_more h.nodes (ElementNode k props) f.shape (λ z. refl) (λ z. refl)) (same_text w (codes "!") g))
    second false g r = on_fine (ended h (ElementNode k props)) w ws s (settle h k props ws f) (ended_some h (ElementNode k props)) r

    first : (o : Option (List ℕ × List ℕ)) → property_of w ≡ o → element_from h k props w o ≡ Some s → Fine s (ws ++ w ∷ [])
    first (Some p) q r = added p (said InValue p.1) refl q r
    first None q r = second (bytes_eq w (codes "!")) refl r

-- a word behind a link
linked_fine : (h : Held) (w : List ℕ) (ws : List (List ℕ)) (s : State) → Fine (h, Link) ws → behind_link h w ≡ Some s → Fine s (ws ++ w ∷ [])
unfolding behind_link
linked_fine h w ws s f e = first (begins_caps w) refl e
  where
    before : Spells (held_tokens h) ws
    before = respelt _ _ ws (append-nil (held_tokens h)) f.spells

    caps_new : (o : Option (List ℕ)) → said InCaps w ≡ o → begins_caps w ≡ true → (o >>= λ text. Some (h, Caps text)) ≡ Some s → Fine s (ws ++ w ∷ [])
    caps_new None g b r = absurd (none-some s r)
    caps_new (Some text) g b r =
        let sound = said_sound InCaps w text g in
        let words : AreCapsWords (w ∷ []) text = record { first = w; more = []; begun = b; closed = sound.0; all_closed = refl; all_plain = refl; is = refl; says = sound.1 ∙ sym (append-nil (taken InCaps plain w)) } in
        subst (λ x. Fine x (ws ++ w ∷ [])) (same_Some (h, Caps text) s r) (record { fits = f.fits; shape = f.shape; spells = more_spelt (held_tokens h) (caps text) ws w before words })

    third : (o : Option Node) → reference_of w ≡ o → (o >>= λ n. Some (ended h n, Chain)) ≡ Some s → Fine s (ws ++ w ∷ [])
    third None g r = absurd (none-some s r)
    third (Some n) g r =
        let q = reference_sound w n g in
        let m : Node = ReferenceNode q.name q.pad in
        let one : Spells (held_tokens h ++ reference q.name q.pad ∷ []) (ws ++ w ∷ []) = more_spelt (held_tokens h) (reference q.name q.pad) ws w before (w, refl, (q.word, q.name_is, q.pad_is)) in
        let good : Fine (ended h (ReferenceNode q.name q.pad), Chain) (ws ++ w ∷ []) = record { fits = ended_fits h (ReferenceNode q.name q.pad) f.fits (chain_ok h.nodes (ReferenceNode q.name q.pad) f.shape.1 refl (λ z. absurd (let some = f.shape.0 in omega (arith, some, z)))); shape = (ended_some h (ReferenceNode q.name q.pad), refl); spells = respelt _ _ (ws ++ w ∷ []) (sym (ended_tokens h (ReferenceNode q.name q.pad)) ∙ sym (append-nil (held_tokens (ended h (ReferenceNode q.name q.pad))))) one } in
        subst (λ x. Fine x (ws ++ w ∷ [])) (ap (λ v. (ended h v, Chain)) (sym q.node) ∙ same_Some (ended h n, Chain) s r) good

    second : (t : Bool) → is_run Kind w ≡ t → cond t (Some (h, Element w [])) (reference_of w >>= λ n. Some (ended h n, Chain)) ≡ Some s → Fine s (ws ++ w ∷ [])
    second true g r = subst (λ x. Fine x (ws ++ w ∷ [])) (same_Some (h, Element w []) s r) (record { fits = f.fits; shape = f.shape.1; spells = more_spelt (held_tokens h) (kind w) ws w before (w, refl, (refl, g)) })
    second false g r = third (reference_of w) refl r

    first : (t : Bool) → begins_caps w ≡ t → cond t (said InCaps w >>= λ text. Some (h, Caps text)) (cond (is_run Kind w) (Some (h, Element w [])) (reference_of w >>= λ n. Some (ended h n, Chain))) ≡ Some s → Fine s (ws ++ w ∷ [])
    first true g r = caps_new (said InCaps w) refl g r
    first false g r = second (is_run Kind w) refl r

caps_tail : (text : List ℕ) (ws : List (List ℕ)) → Spells (caps text ∷ []) ws → AreCapsWords ws text
caps_tail text ws s = subst (λ l. AreCapsWords l text) (sym (s.2 ∙ ap (λ l. s.0 ++ l) s.4 ∙ append-nil s.0)) s.3

all_more : (test : List ℕ → Bool) (xs : List (List ℕ)) (x : List ℕ) → list_all test xs ≡ true → test x ≡ true → list_all test (xs ++ x ∷ []) ≡ true
all_more test xs x h k = list_all-append test xs (x ∷ []) ∙ both_true (list_all test xs) _ h (both_true (test x) true k refl)

longer_caps : (text : List ℕ) (ws : List (List ℕ)) (w : List ℕ) → AreCapsWords ws text → is_closed w ≡ true → no_link w ≡ true → AreCapsWords (ws ++ w ∷ []) (text ++ caps_word w)
longer_caps text ws w a c n = record {
  first = a.first;
  more = a.more ++ w ∷ [];
  begun = a.begun;
  closed = a.closed;
  all_closed = all_more is_closed a.more w a.all_closed c;
  all_plain = all_more no_link a.more w a.all_plain n;
  is = ap (λ l. l ++ w ∷ []) a.is;
  says = ap (λ l. l ++ caps_word w) a.says ∙ append_assoc (taken InCaps plain a.first) (flat_map caps_word a.more) (caps_word w) ∙ ap (λ l. taken InCaps plain a.first ++ l) (ap (λ l. flat_map caps_word a.more ++ l) (sym (append-nil (caps_word w))) ∙ sym (flat_map-append caps_word a.more (w ∷ [])));
}

-- a word behind the first ones of caps
caps_fine : (h : Held) (text w : List ℕ) (ws : List (List ℕ)) (s : State) → Fine (h, Caps text) ws → behind_caps h text w ≡ Some s → Fine s (ws ++ w ∷ [])
unfolding behind_caps
caps_fine h text w ws s f e = first (bytes_eq w (codes "!")) refl e
  where
    more : (o : Option (List ℕ)) → said InCaps w ≡ o → bytes_eq w (codes "!") ≡ false → (o >>= λ l. Some (h, Caps (text ++ 32 ∷ l))) ≡ Some s → Fine s (ws ++ w ∷ [])
    more None g b r = absurd (none-some s r)
    more (Some l) g b r =
        let sound = said_sound InCaps w l g in
        let p = spells_parts (held_tokens h) (caps text ∷ []) ws f.spells in
        let words = longer_caps text p.1 w (caps_tail text p.1 p.4) sound.0 (link_differs_back w b) in
        let one : Spells (held_tokens h ++ caps (text ++ caps_word w) ∷ []) (p.0 ++ (p.1 ++ w ∷ [])) = spells_append (held_tokens h) (caps (text ++ caps_word w) ∷ []) p.0 (p.1 ++ w ∷ []) p.3 (p.1 ++ w ∷ [], [], sym (append-nil (p.1 ++ w ∷ [])), words, refl) in
        let same : p.0 ++ (p.1 ++ w ∷ []) ≡ ws ++ w ∷ [] = sym (append_assoc p.0 p.1 (w ∷ [])) ∙ ap (λ z. z ++ w ∷ []) (sym p.2) in
        let good : Fine (h, Caps (text ++ caps_word w)) (ws ++ w ∷ []) = record { fits = f.fits; shape = f.shape; spells = subst (λ z. Spells (held_tokens h ++ caps (text ++ caps_word w) ∷ []) z) same one } in
        subst (λ x. Fine x (ws ++ w ∷ [])) (ap (λ z. (h, Caps (text ++ 32 ∷ z))) (sym sound.1) ∙ same_Some (h, Caps (text ++ 32 ∷ l)) s r) good

    first : (t : Bool) → bytes_eq w (codes "!") ≡ t → cond t (Some (linked_to h (CapsNode text))) (said InCaps w >>= λ l. Some (h, Caps (text ++ 32 ∷ l))) ≡ Some s → Fine s (ws ++ w ∷ [])
    first true g r = subst (λ x. Fine x (ws ++ w ∷ [])) (same_Some (linked_to h (CapsNode text)) s r) (link_fine h (Caps text) (CapsNode text) w ws f refl (front_more h.nodes (CapsNode text) f.shape.1 (λ z. absurd (let some = f.shape.0 in omega (arith, some, z))) (λ z. refl)) (same_text w (codes "!") g))
    first false g r = more (said InCaps w) refl g r

-- a word behind the reference that begins a chain
reference_fine : (h : Held) (n : Node) (w : List ℕ) (ws : List (List ℕ)) (s : State) → Fine (h, Reference n) ws → behind_reference h n w ≡ Some s → Fine s (ws ++ w ∷ [])
unfolding behind_reference
reference_fine h n w ws s f e = first (bytes_eq w (codes "!")) refl e
  where
    first : (t : Bool) → bytes_eq w (codes "!") ≡ t → cond t (Some (linked_to h n)) None ≡ Some s → Fine s (ws ++ w ∷ [])
    first true g r = subst (λ x. Fine x (ws ++ w ∷ [])) (same_Some (linked_to h n) s r) (link_fine h (Reference n) n w ws f refl (ap (λ l. front_ok (l ++ n ∷ [])) f.shape.0 ∙ both_true (is_end n) true f.shape.1 refl) (same_text w (codes "!") g))
    first false g r = absurd (none-some s r)

settled : (h : Held) (last : Last) (ws : List (List ℕ)) → Fits h → h.nodes ≡ [] → Spells (held_tokens h ++ []) ws → Settled h ws
settled h last ws f n s = record { fits = f; nodes = n; spells = respelt _ _ ws (append-nil (held_tokens h)) s }

-- one word more
step_fine : (h : Held) (last : Last) (w : List ℕ) (ws : List (List ℕ)) (s : State) → Fine (h, last) ws → step_from h last w ≡ Some s → Fine s (ws ++ w ∷ [])
step_fine h Start w ws s f e = begin_fine h w ws s (settled h Start ws f.fits f.shape f.spells) e
step_fine h Bin w ws s f e = on_fine h w ws s (settled h Bin ws f.fits f.shape.1 f.spells) f.shape.0 e
step_fine h Chain w ws s f e = on_fine h w ws s (settled h Chain ws f.fits f.shape.1 f.spells) f.shape.0 e
step_fine h (Element k props) w ws s f e = element_fine h k props w ws s f e
step_fine h Link w ws s f e = linked_fine h w ws s f e
step_fine h (Caps text) w ws s f e = caps_fine h text w ws s f e
step_fine h (Reference n) w ws s f e = reference_fine h n w ws s f e

run_fine : (ws done : List (List ℕ)) (s t : State) → Fine s done → run (Some s) ws ≡ Some t → Fine t (done ++ ws)
run_fine [] done s t f e = subst (λ l. Fine t l) (sym (append-nil done)) (subst (λ x. Fine x done) (same_Some s t e) f)
run_fine (w ∷ ws) done s t f e = go (step s w) refl e (λ u k r. run_fine ws (done ++ w ∷ []) u t (step_fine s.0 s.1 w done u f k) r)
  where
    go : (o : Option State) → step s w ≡ o → run o ws ≡ Some t → ((u : State) → step s w ≡ Some u → run (Some u) ws ≡ Some t → Fine t ((done ++ w ∷ []) ++ ws)) → Fine t (done ++ w ∷ ws)
    go None k r ih = absurd (none-some t (sym (run_none ws) ∙ r))
    go (Some u) k r ih = subst (λ l. Fine t l) (append_assoc done (w ∷ []) ws) (ih u k r)

pub none_fine : Fine none []
none_fine = record { fits = record { room = 16; size = refl; outer_fit = refl; parts_fit = refl }; shape = refl; spells = refl }

pub words_fine : (ws : List (List ℕ)) (s : State) → run (Some none) ws ≡ Some s → Fine s ws
words_fine ws s e = run_fine ws [] none s none_fine e

-- the words spell the tree, which fits
abbrev Spelt : Tree → List (List ℕ) → Type 0
Spelt t ws = Spells (tree_tokens t) ws × (tree_fits t 16 ≡ true)

whole_spelt : (h : Held) (ws : List (List ℕ)) (t : Tree) → Settled h ws → 0 < length h.parts → whole h ≡ Some t → Spelt t ws
whole_spelt h ws t b some e = go h.outer refl e
  where
    good : length h.outer ≡ 0 → flat_map outer_tokens h.outer ≡ [] → Spelt (record { parts = h.parts }) ws
    good none empty = (
      respelt _ _ ws (ap (λ l. l ++ (flat_map part_tokens h.parts ++ flat_map node_link h.nodes)) empty ∙ ap (λ l. flat_map part_tokens h.parts ++ flat_map node_link l) b.nodes ∙ append-nil (flat_map part_tokens h.parts) ∙ sym (tree_parts (record { parts = h.parts }))) b.spells,
      fits_parts h.parts 16 ∙ both_true (not (eqb (length h.parts) 0)) (fits_all 16 h.parts) (not_zero (length h.parts) some) (let room : b.fits.room ≡ 16 = omega (arith, b.fits.size, none) in ap (λ r. fits_all r h.parts) (sym room) ∙ b.fits.parts_fit),
    )

    go : (xs : List (List Part)) → h.outer ≡ xs → cond (eqb (length h.outer) 0) (Some (record { parts = h.parts })) None ≡ Some t → Spelt t ws
    go [] k r = subst (λ x. Spelt x ws) (same_Some (record { parts = h.parts }) t (sym (ap (λ l. cond (eqb (length l) 0) (Some (record { parts = h.parts })) None) k) ∙ r)) (good (ap length k) (ap (flat_map outer_tokens) k))
    go (x ∷ xs) k r = absurd (none-some t (sym (ap (λ l. cond (eqb (length l) 0) (Some (record { parts = h.parts })) None) k ∙ ap (λ z. cond z (Some (record { parts = h.parts })) None) (not_false (eqb (suc (length xs)) 0) (not_zero (suc (length xs)) (omega arith)))) ∙ r))

finish_spelt : (h : Held) (last : Last) (ws : List (List ℕ)) (t : Tree) → Fine (h, last) ws → finish_from h last ≡ Some t → Spelt t ws
finish_spelt h Start ws t f e = absurd (none-some t e)
finish_spelt h Bin ws t f e = whole_spelt h ws t (settled h Bin ws f.fits f.shape.1 f.spells) f.shape.0 e
finish_spelt h Chain ws t f e = whole_spelt h ws t (settled h Chain ws f.fits f.shape.1 f.spells) f.shape.0 e
finish_spelt h (Element k props) ws t f e = whole_spelt (ended h (ElementNode k props)) ws t (settle h k props ws f) (ended_some h (ElementNode k props)) e
finish_spelt h Link ws t f e = absurd (none-some t e)
finish_spelt h (Caps text) ws t f e = absurd (none-some t e)
finish_spelt h (Reference n) ws t f e = absurd (none-some t e)

-- words that are read as a tree spell it
pub read_spelt : (ws : List (List ℕ)) (t : Tree) → tree_of ws ≡ Some t → Spells (tree_tokens t) ws × (tree_fits t 16 ≡ true)
read_spelt ws t e = go (run (Some none) ws) refl e
  where
    go : (o : Option State) → run (Some none) ws ≡ o → (o >>= finish) ≡ Some t → Spelt t ws
    go None k r = absurd (none-some t r)
    go (Some s) k r = finish_spelt s.0 s.1 ws t (words_fine ws s k) r
