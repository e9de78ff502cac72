-- Words that spell a tree are read as the tree.
use Rattle.std.proofs.Common.{◌≡◌, ℕ, zero, suc, ◌+◌, ◌<◌, ◌≤◌, Bool, true, false, cond, eqb, ◌&&◌, not, List, [], ◌∷◌, ◌++◌, map, length, Option, Some, None, refl, sym, ap, ◌∙◌, subst, arith, append_assoc, append-nil, length-append, codes, lt-ltb}
use Rattle.std.specs.List.{flat_map, list_all}
use Rattle.std.specs.Str.{bytes_eq}
use Rattle.gst_value.specs.declared.name.Prop.{Prop}
use Rattle.text_words.specs.Bytes.{is_run}
use Rattle.text_words.specs.Values.{property_of, ◌>>=◌}
use Rattle.text_words.specs.Words.{is_closed, plain}
use Rattle.text_words.specs.declared.class.Class.TheVariants.{Kind, Name, Property}
use Rattle.launch_text.specs.Grammar.{are_others, fits_part, fits_tree, is_alone, is_chain, is_end, is_middle, part_fits, tree_fits}
use Rattle.launch_text.specs.Printed.{reference_text}
use Rattle.launch_text.specs.Reading.{Held, State, begin_part, behind_caps, behind_element, behind_link, behind_reference, closed, element_from, ended, finish, go_on, linked_to, none, opened, reference_of, run, said, step, step_from, tree_of, whole}
use Rattle.launch_text.specs.Tokens.{Token, opens, closes, caps, reference, chain_tokens, linked, node_tokens, part_tokens, prop_token, tree_tokens}
use Rattle.launch_text.specs.Words.{begins_caps, is_pad, taken}
use Rattle.launch_text.specs.declared.line.Last.{Last}
use Rattle.launch_text.specs.declared.line.Last.TheVariants.{Start, Bin, Chain, Element, Link, Caps, Reference}
use Rattle.launch_text.specs.declared.printing.Marked.TheVariants.{Value as InValue, Caps as InCaps}
use Rattle.launch_text.specs.declared.tree.Node.{Node}
use Rattle.launch_text.specs.declared.tree.Node.TheVariants.{Element as ElementNode, Caps as CapsNode, Reference as ReferenceNode}
use Rattle.launch_text.specs.declared.tree.Part.{Part}
use Rattle.launch_text.specs.declared.tree.Part.TheVariants.{Chain as ChainPart, Bin as BinPart}
use Rattle.launch_text.specs.declared.tree.Part.TheFolds.{fold-roll-Part, fold-roll-Tree, ind-Tree, map-Part}
use Rattle.launch_text.specs.declared.tree.Part.TheOpen.{Part-F, Chain as Links-F, Bin as Bin-F}
use Rattle.launch_text.specs.declared.tree.Part.TheViews.{roll-Part, roll-Tree}
use Rattle.launch_text.specs.declared.tree.Chain.{Chain as Links}
use denote.Hole.Carrier.{roll}
use Rattle.launch_text.specs.declared.tree.Tree.{Tree}
use Rattle.launch_text.proofs.Calm.{not_zero}
use Rattle.launch_text.proofs.Facts.{kind_differs, kind_no_caps, kind_no_property, link_differs, property_found, reference_differs, reference_found, reference_no_caps, reference_no_kind, reference_no_property}
use Rattle.launch_text.proofs.Lines.{bin_part, chain_part, tree_parts}
use Rattle.launch_text.proofs.Spelling.{AreCapsWords, One, Says, Spells, caps_word, no_link, spells_parts}
use Rattle.launch_text.proofs.Splitting.{run_append}
use Rattle.launch_text.proofs.Steps.{closed_last}
use Rattle.gst_value.proofs.Basics.{no_true, and_left, and_right}

-- what is whole where a part may begin
abbrev pub base : List (List Part) → List Part → Held
base outer ps = record { outer = outer; parts = ps; nodes = [] }

-- a part may begin, and the last one may end before it
abbrev pub Ready : Held → Held → Last → Type 0
Ready g h Start = h ≡ g
Ready g h Bin = h ≡ g
Ready g h Chain = h ≡ g
Ready g h (Element k props) = ended h (ElementNode k props) ≡ g
Ready g h Link = ⊥
Ready g h (Caps text) = ⊥
Ready g h (Reference n) = ⊥

-- the last part may end
abbrev pub Ended : Held → Held → Last → Type 0
Ended g h Start = ⊥
Ended g h Bin = h ≡ g
Ended g h Chain = h ≡ g
Ended g h (Element k props) = ended h (ElementNode k props) ≡ g
Ended g h Link = ⊥
Ended g h (Caps text) = ⊥
Ended g h (Reference n) = ⊥

pub ended_ready : (g h : Held) (last : Last) → Ended g h last → Ready g h last
ended_ready g h Start e = absurd e
ended_ready g h Bin e = e
ended_ready g h Chain e = e
ended_ready g h (Element k props) e = e
ended_ready g h Link e = e
ended_ready g h (Caps text) e = e
ended_ready g h (Reference n) e = e

going_on : (g : Held) (w : List ℕ) → bytes_eq w (codes ")") ≡ false → go_on g w ≡ begin_part g w
unfolding go_on
going_on g w e = ap (λ t. cond t (closed g >>= λ x. Some (x, Bin)) (begin_part g w)) e

behind_is : (h : Held) (k : List ℕ) (props : List Prop) (w : List ℕ) → property_of w ≡ None → bytes_eq w (codes "!") ≡ false → behind_element h k props w ≡ go_on (ended h (ElementNode k props)) w
unfolding behind_element
behind_is h k props w e f = ap (element_from h k props w) e ∙ ap (λ t. cond t (Some (linked_to h (ElementNode k props))) (go_on (ended h (ElementNode k props)) w)) f

-- a word that begins a part
pub begin_at : (g h : Held) (last : Last) (w : List ℕ) → Ready g h last → property_of w ≡ None → bytes_eq w (codes "!") ≡ false → bytes_eq w (codes ")") ≡ false → step_from h last w ≡ begin_part g w
begin_at g h Start w r e f k = ap (λ x. begin_part x w) r
begin_at g h Bin w r e f k = ap (λ x. go_on x w) r ∙ going_on g w k
begin_at g h Chain w r e f k = ap (λ x. go_on x w) r ∙ going_on g w k
begin_at g h (Element name props) w r e f k = behind_is h name props w e f ∙ ap (λ x. go_on x w) r ∙ going_on g w k
begin_at g h Link w r e f k = absurd r
begin_at g h (Caps text) w r e f k = absurd r
begin_at g h (Reference n) w r e f k = absurd r

close_word : property_of (codes ")") ≡ None
unfolding property_of
close_word = refl

link_word : property_of (codes "!") ≡ None
unfolding property_of
link_word = refl

closing : (g : Held) → go_on g (codes ")") ≡ (closed g >>= λ x. Some (x, Bin))
unfolding go_on
closing g = refl

-- a closing bracket
pub close_at : (g h : Held) (last : Last) → Ended g h last → step_from h last (codes ")") ≡ (closed g >>= λ x. Some (x, Bin))
close_at g h Start r = absurd r
close_at g h Bin r = ap (λ x. go_on x (codes ")")) r ∙ closing g
close_at g h Chain r = ap (λ x. go_on x (codes ")")) r ∙ closing g
close_at g h (Element name props) r = behind_is h name props (codes ")") close_word refl ∙ ap (λ x. go_on x (codes ")")) r ∙ closing g
close_at g h Link r = absurd r
close_at g h (Caps text) r = absurd r
close_at g h (Reference n) r = absurd r

-- what a node is while it is read last
abbrev pub last_of : Node → Last
last_of (ElementNode k props) = Element k props
last_of (CapsNode text) = Caps text
last_of (ReferenceNode name pad) = Reference (ReferenceNode name pad)

-- a link behind a node
pub link_at : (h : Held) (n : Node) → step_from h (last_of n) (codes "!") ≡ Some (linked_to h n)
unfolding behind_element behind_caps behind_reference
link_at h (ElementNode k props) = ap (element_from h k props (codes "!")) link_word
link_at h (CapsNode text) = refl
link_at h (ReferenceNode name pad) = refl

pub said_is : (marked : _) (w : List ℕ) → is_closed w ≡ true → said marked w ≡ Some (taken marked plain w)
unfolding said
said_is marked w e = ap (λ t. cond t (Some (taken marked plain w)) None) e

-- the properties of an element
pub property_at : (h : Held) (k : List ℕ) (done : List Prop) (name spelling value w : List ℕ) → w ≡ name ++ 61 ∷ spelling → is_run Property name ≡ true → is_closed spelling ≡ true → value ≡ taken InValue plain spelling → step_from h (Element k done) w ≡ Some (h, Element k (done ++ record { name = name; value = value } ∷ []))
unfolding behind_element
property_at h k done name spelling value w e f c v =
    ap (λ x. behind_element h k done x) e
    ∙ ap (element_from h k done (name ++ 61 ∷ spelling)) (property_found name spelling f)
    ∙ ap (λ o. o >>= λ u. Some (h, Element k (done ++ record { name = name; value = u } ∷ []))) (said_is InValue spelling c)
    ∙ ap (λ u. Some (h, Element k (done ++ record { name = name; value = u } ∷ []))) (sym v)

words_one : (front back ws : List (List ℕ)) (w : List ℕ) → ws ≡ front ++ back → front ≡ w ∷ [] → ws ≡ w ∷ back
words_one front back ws w e f = e ∙ ap (λ l. l ++ back) f

props_run : (h : Held) (k : List ℕ) (done props : List Prop) (ws : List (List ℕ)) → Spells (map prop_token props) ws → run (Some (h, Element k done)) ws ≡ Some (h, Element k (done ++ props))
props_run h k done [] ws s = ap (run (Some (h, Element k done))) s ∙ ap (λ l. Some (h, Element k l)) (sym (append-nil done))
props_run h k done (p ∷ ps) ws s =
    let o = s.3 in
    let m = o.2 in
    ap (run (Some (h, Element k done))) (words_one s.0 s.1 ws o.0 s.2 o.1)
    ∙ ap (λ x. run x s.1) (property_at h k done p.name m.0 p.value o.0 m.1 m.2 m.3 m.4)
    ∙ props_run h k (done ++ p ∷ []) ps s.1 s.4
    ∙ ap (λ l. Some (h, Element k l)) (append_assoc done (p ∷ []) ps)

-- an element from its kind on
element_run : (s : State) (h : Held) (k : List ℕ) (props : List Prop) (ws : List (List ℕ)) → Spells (node_tokens (ElementNode k props)) ws → ((w : List ℕ) → w ≡ k → is_run Kind k ≡ true → step s w ≡ Some (h, Element k [])) → run (Some s) ws ≡ Some (h, Element k props)
element_run s h k props ws p f =
    let o = p.3 in
    ap (run (Some s)) (words_one p.0 p.1 ws o.0 p.2 o.1)
    ∙ ap (λ x. run x p.1) (f o.0 o.2.0 o.2.1)
    ∙ props_run h k [] props p.1 p.4

-- one word that is all
single_run : (s t : State) (tok : Token) (ws : List (List ℕ)) (o : One ws tok) → step s o.0 ≡ Some t → run (Some s) ws ≡ Some t
single_run s t tok ws o e = ap (run (Some s)) o.1 ∙ e

pub caps_at : (h : Held) (text v : List ℕ) → is_closed v ≡ true → bytes_eq v (codes "!") ≡ false → step_from h (Caps text) v ≡ Some (h, Caps (text ++ caps_word v))
unfolding behind_caps
caps_at h text v e f = ap (λ t. cond t (Some (linked_to h (CapsNode text))) (said InCaps v >>= λ more. Some (h, Caps (text ++ 32 ∷ more)))) f ∙ ap (λ o. o >>= λ more. Some (h, Caps (text ++ 32 ∷ more))) (said_is InCaps v e)

more_caps : (h : Held) (text : List ℕ) (ws : List (List ℕ)) → list_all is_closed ws ≡ true → list_all no_link ws ≡ true → run (Some (h, Caps text)) ws ≡ Some (h, Caps (text ++ flat_map caps_word ws))
more_caps h text [] c n = ap (λ l. Some (h, Caps l)) (sym (append-nil text))
more_caps h text (w ∷ ws) c n =
    ap (λ x. run x ws) (caps_at h text w (and_left (is_closed w) (list_all is_closed ws) c) (link_differs w (and_left (no_link w) (list_all no_link ws) n)))
    ∙ more_caps h (text ++ caps_word w) ws (and_right (is_closed w) (list_all is_closed ws) c) (and_right (no_link w) (list_all no_link ws) n)
    ∙ ap (λ l. Some (h, Caps l)) (append_assoc text (caps_word w) (flat_map caps_word ws))

-- nodes behind a link
pub kind_linked : (h : Held) (k w : List ℕ) → w ≡ k → is_run Kind k ≡ true → behind_link h w ≡ Some (h, Element k [])
unfolding behind_link
kind_linked h k w e r = ap (λ v. behind_link h v) e ∙ ap (λ t. cond t (said InCaps k >>= λ text. Some (h, Caps text)) (cond (is_run Kind k) (Some (h, Element k [])) (reference_of k >>= λ n. Some (ended h n, Chain)))) (kind_no_caps k r) ∙ ap (λ t. cond t (Some (h, Element k [])) (reference_of k >>= λ n. Some (ended h n, Chain))) r

pub caps_linked : (h : Held) (w : List ℕ) → begins_caps w ≡ true → is_closed w ≡ true → behind_link h w ≡ Some (h, Caps (taken InCaps plain w))
unfolding behind_link
caps_linked h w b c = ap (λ t. cond t (said InCaps w >>= λ text. Some (h, Caps text)) (cond (is_run Kind w) (Some (h, Element w [])) (reference_of w >>= λ n. Some (ended h n, Chain)))) b ∙ ap (λ o. o >>= λ text. Some (h, Caps text)) (said_is InCaps w c)

reference_linked : (h : Held) (name : List ℕ) (pad : Option (List ℕ)) (w : List ℕ) → w ≡ reference_text name pad → is_run Name name ≡ true → is_pad pad ≡ true → behind_link h w ≡ Some (ended h (ReferenceNode name pad), Chain)
unfolding behind_link
reference_linked h name pad w e r q =
    ap (λ v. behind_link h v) e
    ∙ ap (λ t. cond t (said InCaps (reference_text name pad) >>= λ text. Some (h, Caps text)) (cond (is_run Kind (reference_text name pad)) (Some (h, Element (reference_text name pad) [])) (reference_of (reference_text name pad) >>= λ n. Some (ended h n, Chain)))) (reference_no_caps name pad r q)
    ∙ ap (λ t. cond t (Some (h, Element (reference_text name pad) [])) (reference_of (reference_text name pad) >>= λ n. Some (ended h n, Chain))) (reference_no_kind name pad)
    ∙ ap (λ o. o >>= λ n. Some (ended h n, Chain)) (reference_found name pad r q)

caps_run : (h : Held) (text : List ℕ) (ws : List (List ℕ)) → AreCapsWords ws text → run (Some (h, Link)) ws ≡ Some (h, Caps text)
caps_run h text ws a =
    ap (run (Some (h, Link))) a.is
    ∙ ap (λ x. run x a.more) (caps_linked h a.first a.begun a.closed)
    ∙ more_caps h (taken InCaps plain a.first) a.more a.all_closed a.all_plain
    ∙ ap (λ l. Some (h, Caps l)) (sym a.says)

no_tail : (t : Token) (ws : List (List ℕ)) → Spells (t ∷ []) ws → Says ws t
no_tail t ws s = subst (λ l. Says l t) (sym (s.2 ∙ ap (λ l. s.0 ++ l) s.4 ∙ append-nil s.0)) s.3

middle_run : (h : Held) (n : Node) (ws : List (List ℕ)) → is_middle n ≡ true → Spells (node_tokens n) ws → run (Some (h, Link)) ws ≡ Some (h, last_of n)
middle_run h (ElementNode k props) ws m s = element_run (h, Link) h k props ws s (λ w e r. kind_linked h k w e r)
middle_run h (CapsNode text) ws m s = caps_run h text ws (no_tail (caps text) ws s)
middle_run h (ReferenceNode name pad) ws m s = absurd (no_true m)

-- the words lead to a state at which a part may end
pub record Leads (s : State) (ws : List (List ℕ)) (g : Held) : Type 0 where
  pub state : State
  pub reads : run (Some s) ws ≡ Some state
  pub ended : Ended g state.0 state.1

end_run : (h : Held) (n : Node) (ws : List (List ℕ)) → is_end n ≡ true → Spells (node_tokens n) ws → Leads (h, Link) ws (base h.outer (h.parts ++ ChainPart (record { nodes = h.nodes ++ n ∷ [] }) ∷ []))
end_run h (ElementNode k props) ws m s = record { state = (h, Element k props); reads = middle_run h (ElementNode k props) ws refl s; ended = refl }
end_run h (CapsNode text) ws m s = absurd (no_true m)
end_run h (ReferenceNode name pad) ws m s =
    let o = no_tail (reference name pad) ws s in
    record { state = (ended h (ReferenceNode name pad), Chain); reads = single_run (h, Link) (ended h (ReferenceNode name pad), Chain) (reference name pad) ws o (reference_linked h name pad o.0 o.2.0 o.2.1 o.2.2); ended = refl }

behind_state : (s t : State) (us vs ws : List (List ℕ)) (g : Held) → ws ≡ us ++ vs → run (Some s) us ≡ Some t → Leads t vs g → Leads s ws g
behind_state s t us vs ws g e f l = record { state = l.state; reads = ap (run (Some s)) e ∙ run_append (Some s) us vs ∙ ap (λ o. run o vs) f ∙ l.reads; ended = l.ended }

same_end : (s : State) (ws : List (List ℕ)) (g f : Held) → g ≡ f → Leads s ws g → Leads s ws f
same_end s ws g f e l = record { state = l.state; reads = l.reads; ended = subst (λ x. Ended x l.state.0 l.state.1) e l.ended }

-- a link and what follows it
others_run : (ns : List Node) (h : Held) (n : Node) (ws : List (List ℕ)) → are_others ns ≡ true → Spells (linked ns) ws → Leads (h, last_of n) ws (base h.outer (h.parts ++ ChainPart (record { nodes = h.nodes ++ n ∷ ns }) ∷ []))
others_run [] h n ws a s = absurd (no_true a)
others_run (m ∷ []) h n ws a s =
    let p = spells_parts (node_tokens m) [] s.1 s.4 in
    let o = s.3 in
    let is : ws ≡ codes "!" ∷ p.0 = words_one s.0 s.1 ws o.0 s.2 o.1 ∙ (λ i. o.2 i ∷ s.1) ∙ ap (λ l. codes "!" ∷ l) (p.2 ∙ ap (λ l. p.0 ++ l) p.4 ∙ append-nil p.0) in
    same_end (h, last_of n) ws _ _ (ap (λ l. base h.outer (h.parts ++ ChainPart (record { nodes = l }) ∷ [])) (append_assoc h.nodes (n ∷ []) (m ∷ [])))
    (behind_state (h, last_of n) (linked_to h n) (codes "!" ∷ []) p.0 ws _ is (link_at h n) (end_run (linked_to h n).0 m p.0 a p.3))
others_run (m ∷ m2 ∷ ms) h n ws a s =
    let p = spells_parts (node_tokens m) (linked (m2 ∷ ms)) s.1 s.4 in
    let o = s.3 in
    let is : ws ≡ (codes "!" ∷ p.0) ++ p.1 = words_one s.0 s.1 ws o.0 s.2 o.1 ∙ (λ i. o.2 i ∷ s.1) ∙ ap (λ l. codes "!" ∷ l) p.2 in
    let first : run (Some (h, last_of n)) (codes "!" ∷ p.0) ≡ Some ((linked_to h n).0, last_of m) = ap (λ x. run x p.0) (link_at h n) ∙ middle_run (linked_to h n).0 m p.0 (and_left (is_middle m) (are_others (m2 ∷ ms)) a) p.3 in
    same_end (h, last_of n) ws _ _ (ap (λ l. base h.outer (h.parts ++ ChainPart (record { nodes = l }) ∷ [])) (append_assoc h.nodes (n ∷ []) (m ∷ m2 ∷ ms)))
    (behind_state (h, last_of n) ((linked_to h n).0, last_of m) (codes "!" ∷ p.0) p.1 ws _ is first (others_run (m2 ∷ ms) (linked_to h n).0 m p.1 (and_right (is_middle m) (are_others (m2 ∷ ms)) a) p.4))

pub kind_begins : (g : Held) (k : List ℕ) → is_run Kind k ≡ true → begin_part g k ≡ Some (g, Element k [])
unfolding begin_part
kind_begins g k r = ap (λ t. cond t (opened g >>= λ x. Some (x, Start)) (cond (is_run Kind k) (Some (g, Element k [])) (reference_of k >>= λ n. Some (g, Reference n)))) (kind_differs k (codes "(") r refl) ∙ ap (λ t. cond t (Some (g, Element k [])) (reference_of k >>= λ n. Some (g, Reference n))) r

pub reference_begins : (g : Held) (name : List ℕ) (pad : Option (List ℕ)) → is_run Name name ≡ true → is_pad pad ≡ true → begin_part g (reference_text name pad) ≡ Some (g, Reference (ReferenceNode name pad))
unfolding begin_part
reference_begins g name pad r q =
    ap (λ t. cond t (opened g >>= λ x. Some (x, Start)) (cond (is_run Kind (reference_text name pad)) (Some (g, Element (reference_text name pad) [])) (reference_of (reference_text name pad) >>= λ n. Some (g, Reference n)))) (reference_differs name pad (codes "(") r q refl)
    ∙ ap (λ t. cond t (Some (g, Element (reference_text name pad) [])) (reference_of (reference_text name pad) >>= λ n. Some (g, Reference n))) (reference_no_kind name pad)
    ∙ ap (λ o. o >>= λ n. Some (g, Reference n)) (reference_found name pad r q)

-- the first node of a chain
first_run : (g h : Held) (last : Last) (n : Node) (ws : List (List ℕ)) → Ready g h last → is_end n ≡ true → Spells (node_tokens n) ws → run (Some (h, last)) ws ≡ Some (g, last_of n)
first_run g h last (ElementNode k props) ws r m s =
    element_run (h, last) g k props ws s (λ w e f. ap (λ v. step_from h last v) e ∙ begin_at g h last k r (kind_no_property k f) (kind_differs k (codes "!") f refl) (kind_differs k (codes ")") f refl) ∙ kind_begins g k f)
first_run g h last (CapsNode text) ws r m s = absurd (no_true m)
first_run g h last (ReferenceNode name pad) ws r m s =
    let o = no_tail (reference name pad) ws s in
    let f = o.2.1 in
    let q = o.2.2 in
    single_run (h, last) (g, Reference (ReferenceNode name pad)) (reference name pad) ws o
    (ap (λ v. step_from h last v) o.2.0 ∙ begin_at g h last (reference_text name pad) r (reference_no_property name pad f q) (reference_differs name pad (codes "!") f q refl) (reference_differs name pad (codes ")") f q refl) ∙ reference_begins g name pad f q)

-- a chain
pub chain_run : (ns : List Node) (outer : List (List Part)) (ps : List Part) (h : Held) (last : Last) (ws : List (List ℕ)) → Ready (base outer ps) h last → is_chain ns ≡ true → Spells (chain_tokens ns) ws → Leads (h, last) ws (base outer (ps ++ ChainPart (record { nodes = ns }) ∷ []))
chain_run [] outer ps h last ws r c s = absurd (no_true c)
chain_run (n ∷ []) outer ps h last ws r c s = alone n c p.3 is
  where
    p : (u v : List (List ℕ)) × (ws ≡ u ++ v) × Spells (node_tokens n) u × (v ≡ [])
    p = spells_parts (node_tokens n) [] ws s

    is : ws ≡ p.0
    is = p.2 ∙ ap (λ l. p.0 ++ l) p.4 ∙ append-nil p.0

    alone : (n : Node) → is_alone n ≡ true → Spells (node_tokens n) p.0 → ws ≡ p.0 → Leads (h, last) ws (base outer (ps ++ ChainPart (record { nodes = n ∷ [] }) ∷ []))
    alone (ElementNode k props) a q e = record { state = (base outer ps, Element k props); reads = ap (run (Some (h, last))) e ∙ first_run (base outer ps) h last (ElementNode k props) p.0 r refl q; ended = refl }
    alone (CapsNode text) a q e = absurd (no_true a)
    alone (ReferenceNode name pad) a q e = absurd (no_true a)
chain_run (n ∷ m ∷ ms) outer ps h last ws r c s =
    let p = spells_parts (node_tokens n) (linked (m ∷ ms)) ws s in
    behind_state (h, last) (base outer ps, last_of n) p.0 p.1 ws _ p.2 (first_run (base outer ps) h last n p.0 r (and_left (is_end n) (are_others (m ∷ ms)) c) p.3) (others_run (m ∷ ms) (base outer ps) n p.1 (and_right (is_end n) (are_others (m ∷ ms)) c) p.4)

-- words that spell a part are read as the part
abbrev PartRuns : Part → Type 0
PartRuns p = (room : ℕ) (outer : List (List Part)) (ps : List Part) (h : Held) (last : Last) (ws : List (List ℕ)) → Ready (base outer ps) h last → length outer + room ≤ 16 → part_fits p room ≡ true → Spells (part_tokens p) ws → Leads (h, last) ws (base outer (ps ++ p ∷ []))

abbrev TreeRuns : Tree → Type 0
TreeRuns t = (room : ℕ) (outer : List (List Part)) (ps : List Part) (h : Held) (last : Last) (ws : List (List ℕ)) → Ready (base outer ps) h last → length outer + room ≤ 16 → tree_fits t room ≡ true → Spells (tree_tokens t) ws → Leads (h, last) ws (base outer (ps ++ t.parts))

pub fits_chain : (c : Links) (room : ℕ) → part_fits (ChainPart c) room ≡ is_chain c.nodes
unfolding roll-Part roll
fits_chain c room = ap (λ f. f room) (fold-roll-Part (ℕ → Bool) (ℕ → Bool) fits_part fits_tree (Links-F c))

pub fits_bin : (t : Tree) (room : ℕ) → part_fits (BinPart t) (suc room) ≡ tree_fits t room
unfolding roll-Part roll
fits_bin t room = ap (λ f. f (suc room)) (fold-roll-Part (ℕ → Bool) (ℕ → Bool) fits_part fits_tree (Bin-F t))

fits_none : (t : Tree) → part_fits (BinPart t) zero ≡ false
unfolding roll-Part roll
fits_none t = ap (λ f. f zero) (fold-roll-Part (ℕ → Bool) (ℕ → Bool) fits_part fits_tree (Bin-F t))

all_fit : (room : ℕ) (ps : List Part) → list_all (λ fits. fits room) (map part_fits ps) ≡ list_all (λ p. part_fits p room) ps
all_fit room [] = refl
all_fit room (p ∷ ps) = ap (λ t. part_fits p room && t) (all_fit room ps)

some_fit : (ps : List Part) → not (eqb (length (map part_fits ps)) 0) ≡ not (eqb (length ps) 0)
some_fit [] = refl
some_fit (p ∷ ps) = not_zero (suc (length (map part_fits ps))) (omega arith) ∙ sym (not_zero (suc (length ps)) (omega arith))

pub fits_parts : (ps : List Part) (room : ℕ) → tree_fits (record { parts = ps }) room ≡ (not (eqb (length ps) 0) && list_all (λ p. part_fits p room) ps)
fits_parts ps room =
    ap (λ f. f room) (fold-roll-Tree (ℕ → Bool) (ℕ → Bool) fits_part fits_tree (record { parts = ps }))
    ∙ ap (λ t. t && list_all (λ fits. fits room) (map part_fits ps)) (some_fit ps)
    ∙ ap (λ t. not (eqb (length ps) 0) && t) (all_fit room ps)

chain_runs : (c : Links) → PartRuns (ChainPart c)
chain_runs c room outer ps h last ws r d f s = chain_run c.nodes outer ps h last ws r (sym (fits_chain c room) ∙ f) (subst (λ l. Spells l ws) (chain_part c) s)

pub open_word : property_of (codes "(") ≡ None
unfolding property_of
open_word = refl

opening : (outer : List (List Part)) (ps : List Part) → length outer < 16 → begin_part (base outer ps) (codes "(") ≡ Some (base (outer ++ ps ∷ []) [], Start)
unfolding begin_part opened
opening outer ps h = ap (λ t. cond t (Some (base (outer ++ ps ∷ []) [])) None >>= λ x. Some (x, Start)) (lt-ltb (length outer) 16 h)

bin_runs : (t : Tree) → TreeRuns t → PartRuns (BinPart t)
bin_runs t ih zero outer ps h last ws r d f s = absurd (no_true (sym (fits_none t) ∙ f))
bin_runs t ih (suc room) outer ps h last ws r d f s =
    let q : Spells (opens ∷ (tree_tokens t ++ closes ∷ [])) ws = subst (λ l. Spells l ws) (bin_part t) s in
    let o = q.3 in
    let p = spells_parts (tree_tokens t) (closes ∷ []) q.1 q.4 in
    let c = no_tail closes p.1 p.4 in
    let is : ws ≡ codes "(" ∷ (p.0 ++ p.1) = words_one q.0 q.1 ws o.0 q.2 o.1 ∙ (λ i. o.2 i ∷ p.2 i) in
    let first : step_from h last (codes "(") ≡ Some (base (outer ++ ps ∷ []) [], Start) = begin_at (base outer ps) h last (codes "(") r open_word refl refl ∙ opening outer ps (omega (arith, d)) in
    let inside = ih room (outer ++ ps ∷ []) [] (base (outer ++ ps ∷ []) []) Start p.0 refl (omega (arith, d, length-append outer (ps ∷ []))) (sym (fits_bin t room) ∙ f) p.3 in
    let close : step inside.state c.0 ≡ Some (base outer (ps ++ BinPart t ∷ []), Bin) = ap (step inside.state) c.2 ∙ close_at (base (outer ++ ps ∷ []) t.parts) inside.state.0 inside.state.1 inside.ended ∙ ap (λ x. x >>= λ y. Some (y, Bin)) (closed_last (base (outer ++ ps ∷ []) t.parts) outer ps refl) in
    behind_state (h, last) (base (outer ++ ps ∷ []) [], Start) (codes "(" ∷ []) (p.0 ++ p.1) ws _ is first
    (behind_state (base (outer ++ ps ∷ []) [], Start) inside.state p.0 p.1 (p.0 ++ p.1) _ refl inside.reads
    (record { state = (base outer (ps ++ BinPart t ∷ []), Bin); reads = single_run inside.state (base outer (ps ++ BinPart t ∷ []), Bin) closes p.1 c close; ended = refl }))

abbrev Proved : Type 0
Proved = (p : Part) × PartRuns p

abbrev bare : Proved → Part
bare e = e.0

parts_run : (e : Proved) (es : List Proved) (room : ℕ) (outer : List (List Part)) (ps : List Part) (h : Held) (last : Last) (ws : List (List ℕ)) → Ready (base outer ps) h last → length outer + room ≤ 16 → list_all (λ p. part_fits p room) (map bare (e ∷ es)) ≡ true → Spells (flat_map part_tokens (map bare (e ∷ es))) ws → Leads (h, last) ws (base outer (ps ++ map bare (e ∷ es)))
parts_run e [] room outer ps h last ws r d f s = e.1 room outer ps h last ws r d (and_left (part_fits e.0 room) true f) (subst (λ l. Spells l ws) (append-nil (part_tokens e.0)) s)
parts_run e (e2 ∷ es) room outer ps h last ws r d f s =
    let p = spells_parts (part_tokens e.0) (flat_map part_tokens (map bare (e2 ∷ es))) ws s in
    let one = e.1 room outer ps h last p.0 r d (and_left (part_fits e.0 room) (list_all (λ q. part_fits q room) (map bare (e2 ∷ es))) f) p.3 in
    let two = parts_run e2 es room outer (ps ++ e.0 ∷ []) one.state.0 one.state.1 p.1 (ended_ready (base outer (ps ++ e.0 ∷ [])) one.state.0 one.state.1 one.ended) d (and_right (part_fits e.0 room) (list_all (λ q. part_fits q room) (map bare (e2 ∷ es))) f) p.4 in
    behind_state (h, last) one.state p.0 p.1 ws _ p.2 one.reads (same_end one.state p.1 _ _ (ap (base outer) (append_assoc ps (e.0 ∷ []) (map bare (e2 ∷ es)))) two)

parts_tree : (es : List Proved) → TreeRuns (record { parts = map bare es })
parts_tree [] room outer ps h last ws r d f s = absurd (no_true (sym (fits_parts [] room) ∙ f))
parts_tree (e ∷ es) room outer ps h last ws r d f s =
    parts_run e es room outer ps h last ws r d (and_right (not (eqb (length (map bare (e ∷ es))) 0)) _ (sym (fits_parts (map bare (e ∷ es)) room) ∙ f)) (subst (λ l. Spells l ws) (tree_parts (record { parts = map bare (e ∷ es) })) s)

part_layer : (y : Part-F ((p : Part) × PartRuns p) ((t : Tree) × TreeRuns t)) → PartRuns (roll-Part (map-Part ((p : Part) × PartRuns p) ((t : Tree) × TreeRuns t) Part Tree (λ e. e.0) (λ e. e.0) y))
unfolding roll-Part roll
part_layer (Links-F c) = chain_runs c
part_layer (Bin-F e) = bin_runs e.0 e.1

pub tree_runs : (t : Tree) → TreeRuns t
tree_runs t = ind-Tree PartRuns TreeRuns (λ x y is. subst (λ z. PartRuns (roll-Part z)) is (part_layer y)) (λ x y is. subst (λ z. TreeRuns (roll-Tree z)) is (parts_tree y.parts)) t

pub finish_ended : (g h : Held) (last : Last) → Ended g h last → finish (h, last) ≡ whole g
finish_ended g h Start e = absurd e
finish_ended g h Bin e = ap whole e
finish_ended g h Chain e = ap whole e
finish_ended g h (Element k props) e = ap whole e
finish_ended g h Link e = absurd e
finish_ended g h (Caps text) e = absurd e
finish_ended g h (Reference n) e = absurd e

-- the words of a tree that fits are read as the tree
pub tree_read : (t : Tree) (ws : List (List ℕ)) → tree_fits t 16 ≡ true → Spells (tree_tokens t) ws → tree_of ws ≡ Some t
tree_read t ws f s =
    let l = tree_runs t 16 [] [] none.0 Start ws refl (omega arith) f s in
    ap (λ o. o >>= finish) l.reads ∙ finish_ended (base [] t.parts) l.state.0 l.state.1 l.ended
