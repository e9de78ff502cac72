-- Each front of a word that was found goes on to a line.
use Rattle.std.proofs.Common.{◌≡◌, ℕ, zero, suc, ◌<◌, Bool, true, false, cond, eqb, ◌&&◌, not, List, [], ◌∷◌, ◌++◌, length, Option, Some, None, inl, inr, refl, sym, ap, ◌∙◌, subst, arith, append_assoc, append-nil, length-append, codes, lt-ltb}
use Rattle.std.specs.Prelude.{is_some, nat_lt}
use Rattle.std.specs.List.{list_all}
use Rattle.std.specs.Str.{bytes_eq}
use Rattle.std.proofs.lemmas.Bool.{ltb-true}
use Rattle.std.proofs.lemmas.Bool.Decides.{eqb_tells}
use Rattle.std.proofs.lemmas.Option.{none-some, same_Some}
use Rattle.gst_value.specs.declared.name.Prop.{Prop}
use Rattle.text_words.specs.Bytes.{in_class, is_run, is_white}
use Rattle.text_words.specs.Values.{cut, longer, property_of, ◌>>=◌}
use Rattle.text_words.specs.Words.{after, mode_behind, is_closed, is_plain, plain}
use Rattle.text_words.specs.declared.class.Class.{Class}
use Rattle.text_words.specs.declared.class.Class.TheVariants.{Name}
use Rattle.text_words.specs.declared.word.Mode.{Mode}
use Rattle.launch_text.specs.Places.{after_point, begins, behind_run, caps_before, caps_front, element_front, front_of, name_front, next_front, pad_front, part_front, point_front, run_of, spot_of}
use Rattle.launch_text.specs.Printed.{reference_text}
use Rattle.launch_text.specs.Reading.{Held, State, begin_part, behind_reference, closed, closed_in, ended, finish, innermost, linked_to, more_outer, opened, run, step}
use Rattle.launch_text.specs.Words.{begins_caps, is_pad, taken, word_length}
use Rattle.launch_text.specs.declared.line.Last.{Last}
use Rattle.launch_text.specs.declared.line.Last.TheVariants.{Start, Bin, Chain, Element, Link, Caps, Reference}
use Rattle.launch_text.specs.declared.printing.Marked.TheVariants.{Value as InValue, Caps as InCaps}
use Rattle.launch_text.specs.declared.tree.Node.{Node}
use Rattle.launch_text.specs.declared.tree.Node.TheVariants.{Element as ElementNode, Caps as CapsNode, Reference as ReferenceNode}
use Rattle.launch_text.specs.declared.tree.Part.{Part}
use Rattle.launch_text.specs.declared.tree.Tree.{Tree}
use Rattle.launch_text.proofs.Again.{AllWhole, begins_more, wide}
use Rattle.launch_text.proofs.Calm.{calm_closed, calm_length, not_zero, property_closed, reference_calm, reference_some}
use Rattle.launch_text.proofs.Complete.{Ended, Ready, begin_at, caps_at, caps_linked, close_at, ended_ready, finish_ended, kind_begins, kind_linked, link_at, open_word, property_at, reference_begins}
use Rattle.launch_text.proofs.Facts.{cut_sound, property_sound, reference_differs, reference_no_property, same_text}
use Rattle.text_words.proofs.Kept.{behind_append}
use Rattle.launch_text.proofs.Sound.{innermost_sound}
use Rattle.launch_text.proofs.Spelling.{IsWhole}
use Rattle.gst_value.proofs.Basics.{and_both as both_true, not_false}

-- words with which a state leads to a tree
pub record Completes (s : State) : Type 0 where
  pub words : List (List ℕ)
  pub tree : Tree
  pub reads : (run (Some s) words >>= finish) ≡ Some tree
  pub whole : AllWhole words

prepend : (s t : State) (w : List ℕ) → step s w ≡ Some t → IsWhole w → Completes t → Completes s
prepend s t w e i c = record { words = w ∷ c.words; tree = c.tree; reads = ap (λ o. run o c.words >>= finish) e ∙ c.reads; whole = (i, c.whole) }

inner_of : (x : List Part) (xs : List (List Part)) → (p : List (List Part) × List Part) × (innermost (x ∷ xs) ≡ Some p)
inner_of x xs = go (innermost xs)
  where
    go : (o : Option (List (List Part) × List Part)) → (p : List (List Part) × List Part) × (more_outer x o ≡ Some p)
    go None = (([], x), refl)
    go (Some p) = ((x ∷ p.0, p.1), refl)

-- a bracket can be closed where one is open
pub record Closes (g : Held) : Type 0 where
  pub next : Held
  pub closes : closed g ≡ Some next
  pub less : suc (length next.outer) ≡ length g.outer

pub can_close : (g : Held) → 0 < length g.outer → Closes g
unfolding closed
can_close g some = go g.outer refl some
  where
    go : (xs : List (List Part)) → g.outer ≡ xs → 0 < length xs → Closes g
    go [] e h = absurd (omega (arith, h))
    go (x ∷ xs) e h =
        let i = inner_of x xs in
        let is : innermost g.outer ≡ Some i.0 = ap innermost e ∙ i.1 in
        let n = ap length (innermost_sound g.outer i.0 is) in
        record { next = record { outer = i.0.0; parts = _; nodes = g.nodes }; closes = ap (λ o. o >>= closed_in g) is; less = omega (arith, n, length-append i.0.0 (i.0.1 ∷ [])) }

bracket_whole : IsWhole (codes ")")
bracket_whole = record { some = omega arith; all = refl; closed = refl }

kind_whole : IsWhole (codes "a")
kind_whole = record { some = omega arith; all = refl; closed = refl }

link_whole : IsWhole (codes "!")
link_whole = record { some = omega arith; all = refl; closed = refl }

closes_all : (n : ℕ) (g h : Held) (last : Last) → length g.outer ≡ n → Ended g h last → Completes (h, last)
closes_all zero g h last e r = record { words = []; tree = record { parts = g.parts }; reads = finish_ended g h last r ∙ ap (λ k. cond (eqb k 0) (Some (record { parts = g.parts })) None) e; whole = tt }
closes_all (suc n) g h last e r =
    let c = can_close g (omega (arith, e)) in
    prepend (h, last) (c.next, Bin) (codes ")") (close_at g h last r ∙ ap (λ o. o >>= λ x. Some (x, Bin)) c.closes) bracket_whole (closes_all n c.next c.next Bin (omega (arith, e, c.less)) refl)

element_completes : (h : Held) (k : List ℕ) (props : List Prop) → Completes (h, Element k props)
element_completes h k props = closes_all (length h.outer) (ended h (ElementNode k props)) h (Element k props) refl refl

link_completes : (h : Held) → Completes (h, Link)
link_completes h = prepend (h, Link) (h, Element (codes "a") []) (codes "a") (kind_linked h (codes "a") (codes "a") refl refl) kind_whole (element_completes h (codes "a") [])

kind_word : property_of (codes "a") ≡ None
unfolding property_of
kind_word = refl

reference_link : (h : Held) (n : Node) → behind_reference h n (codes "!") ≡ Some (linked_to h n)
unfolding behind_reference
reference_link h n = refl

pub completes : (h : Held) (last : Last) → Completes (h, last)
completes h Start = prepend (h, Start) (h, Element (codes "a") []) (codes "a") (begin_at h h Start (codes "a") refl kind_word refl refl ∙ kind_begins h (codes "a") refl) kind_whole (element_completes h (codes "a") [])
completes h Bin = closes_all (length h.outer) h h Bin refl refl
completes h Chain = closes_all (length h.outer) h h Chain refl refl
completes h (Element k props) = element_completes h k props
completes h Link = link_completes h
completes h (Caps text) = prepend (h, Caps text) (linked_to h (CapsNode text)) (codes "!") (link_at h (CapsNode text)) link_whole (link_completes (linked_to h (CapsNode text)).0)
completes h (Reference n) = prepend (h, Reference n) (linked_to h n) (codes "!") (reference_link h n) link_whole (link_completes (linked_to h n).0)

-- a front that goes on to a word which can stand there
pub record Extends (s : State) (u : List ℕ) : Type 0 where
  pub suffix : List ℕ
  pub next : State
  pub reads : step s (u ++ suffix) ≡ Some next
  pub whole : IsWhole (u ++ suffix)

-- the front is the whole word
alone : (s t : State) (u : List ℕ) → step s u ≡ Some t → IsWhole u → Extends s u
alone s t u e i = record { suffix = []; next = t; reads = ap (step s) (append-nil u) ∙ e; whole = subst IsWhole (sym (append-nil u)) i }

-- what closes quotes and ends a backslash
abbrev closer : Mode → List ℕ
closer m = 47 ∷ cond m.quoted (34 ∷ []) []

closer_behind : (q e : Bool) → mode_behind (record { quoted = q; escaped = e }) (47 ∷ cond q (34 ∷ []) []) ≡ plain
closer_behind true true = refl
closer_behind true false = refl
closer_behind false true = refl
closer_behind false false = refl

closer_all : (q e : Bool) → word_length (record { quoted = q; escaped = e }) (47 ∷ cond q (34 ∷ []) []) ≡ length {A = ℕ} (47 ∷ cond q (34 ∷ []) [])
closer_all true true = refl
closer_all true false = refl
closer_all false true = refl
closer_all false false = refl

closer_whole : (u : List ℕ) → word_length plain u ≡ length u → IsWhole (u ++ closer (mode_behind plain u))
closer_whole u h = record {
  some = omega (arith, length-append u (closer (mode_behind plain u)));
  all = wide plain u (closer (mode_behind plain u)) h (closer_all (mode_behind plain u).quoted (mode_behind plain u).escaped);
  closed = ap is_plain (behind_append plain u (closer (mode_behind plain u)) ∙ closer_behind (mode_behind plain u).quoted (mode_behind plain u).escaped);
}

prefix_all : (m : Mode) (u x : List ℕ) → word_length m (u ++ x) ≡ length (u ++ x) → word_length m u ≡ length u
prefix_all m [] x h = refl
prefix_all m (b ∷ bs) x h = go (is_plain m && is_white b) h (λ k. prefix_all (after m b) bs x k)
  where
    go : (t : Bool) → cond t 0 (suc (word_length (after m b) (bs ++ x))) ≡ suc (length (bs ++ x)) → (word_length (after m b) (bs ++ x) ≡ length (bs ++ x) → word_length (after m b) bs ≡ length bs) → cond t 0 (suc (word_length (after m b) bs)) ≡ suc (length bs)
    go true k ih = absurd (omega (arith, k))
    go false k ih = ap suc (ih (omega (arith, k)))

-- runs
run_every : (class : Class) (x : List ℕ) → list_all (in_class class) (run_of class x) ≡ true
run_every class [] = refl
run_every class (b ∷ bs) = go (in_class class b) refl (run_every class bs)
  where
    go : (t : Bool) → in_class class b ≡ t → list_all (in_class class) (run_of class bs) ≡ true → list_all (in_class class) (cond t (b ∷ run_of class bs) []) ≡ true
    go true e ih = both_true (in_class class b) (list_all (in_class class) (run_of class bs)) e ih
    go false e ih = refl

run_run : (class : Class) (x : List ℕ) → 0 < length x → list_all (in_class class) x ≡ true → is_run class x ≡ true
run_run class x some h = both_true (not (eqb (length x) 0)) (list_all (in_class class) x) (not_zero (length x) some) h

record Named (u : List ℕ) : Type 0 where
  suffix : List ℕ
  name : List ℕ
  pad : Option (List ℕ)
  is : u ++ suffix ≡ reference_text name pad
  name_is : is_run Name name ≡ true
  pad_is : is_pad pad ≡ true

point_named : (r q : List ℕ) → is_run Name r ≡ true → list_all (in_class Name) q ≡ true → Named (r ++ 46 ∷ q)
point_named r [] h k = record { suffix = []; name = r; pad = None; is = append-nil (r ++ 46 ∷ []); name_is = h; pad_is = refl }
point_named r (b ∷ bs) h k = record { suffix = []; name = r; pad = Some (b ∷ bs); is = append-nil (r ++ 46 ∷ b ∷ bs); name_is = h; pad_is = run_run Name (b ∷ bs) (omega arith) k }

name_named : (w : List ℕ) → 0 < length (name_front w) → Named (name_front w)
unfolding name_front
name_named w h = go (run_of Name w) refl h
  where
    inner : (r : List ℕ) → is_run Name r ≡ true → (o : Option (List ℕ)) → Named (r ++ pad_front o)
    inner r k None = record { suffix = 46 ∷ []; name = r; pad = None; is = ap (λ l. l ++ 46 ∷ []) (append-nil r); name_is = k; pad_is = refl }
    inner r k (Some pad) = point_named r (run_of Name pad) k (run_every Name pad)

    go : (r : List ℕ) → run_of Name w ≡ r → 0 < length (cond (eqb (length (run_of Name w)) 0) [] (run_of Name w ++ point_front (behind_run Name w))) → Named (cond (eqb (length (run_of Name w)) 0) [] (run_of Name w ++ point_front (behind_run Name w)))
    go [] e k = absurd (let bad : 0 < length {A = ℕ} (cond {A = List ℕ} (eqb (length {A = ℕ} []) 0) [] ([] ++ point_front (behind_run Name w))) = subst (λ r. 0 < length (cond (eqb (length r) 0) [] (r ++ point_front (behind_run Name w)))) e k in omega (arith, bad))
    go (b ∷ bs) e k =
        let some : 0 < length (run_of Name w) = omega (arith, ap length e) in
        let t : eqb (length (run_of Name w)) 0 ≡ false = not_false (eqb (length (run_of Name w)) 0) (not_zero (length (run_of Name w)) some) in
        subst Named (sym (ap (λ z. cond z [] (run_of Name w ++ point_front (behind_run Name w))) t)) (inner (run_of Name w) (run_run Name (run_of Name w) some (run_every Name w)) (after_point (behind_run Name w)))

opening : (g : Held) → length g.outer < 16 → begin_part g (codes "(") ≡ Some (record { outer = g.outer ++ g.parts ∷ []; parts = []; nodes = g.nodes }, Start)
unfolding begin_part opened
opening g h = ap (λ t. cond t (Some (record { outer = g.outer ++ g.parts ∷ []; parts = []; nodes = g.nodes })) None >>= λ x. Some (x, Start)) (lt-ltb (length g.outer) 16 h)

name_extends : (g h : Held) (last : Last) (w : List ℕ) → Ready g h last → 0 < length (name_front w) → Extends (h, last) (name_front w)
name_extends g h last w r some =
    let n = name_named w some in
    record {
      suffix = n.suffix;
      next = (g, Reference (ReferenceNode n.name n.pad));
      reads = ap (step (h, last)) n.is ∙ begin_at g h last (reference_text n.name n.pad) r (reference_no_property n.name n.pad n.name_is n.pad_is) (reference_differs n.name n.pad (codes "!") n.name_is n.pad_is refl) (reference_differs n.name n.pad (codes ")") n.name_is n.pad_is refl) ∙ reference_begins g n.name n.pad n.name_is n.pad_is;
      whole = subst IsWhole (sym n.is) (record { some = reference_some n.name n.pad; all = calm_length (reference_text n.name n.pad) (reference_calm n.name n.pad n.name_is n.pad_is); closed = calm_closed (reference_text n.name n.pad) (reference_calm n.name n.pad n.name_is n.pad_is) });
    }

part_extends : (g h : Held) (last : Last) (w : List ℕ) → Ready g h last → 0 < length (part_front (length g.outer) w) → Extends (h, last) (part_front (length g.outer) w)
unfolding part_front
part_extends g h last w r some = go (begins 40 w) some
  where
    inner : (t : Bool) → nat_lt (length g.outer) 16 ≡ t → 0 < length {A = ℕ} (cond t (40 ∷ []) []) → Extends (h, last) (cond t (40 ∷ []) [])
    inner true e k = alone (h, last) (record { outer = g.outer ++ g.parts ∷ []; parts = []; nodes = g.nodes }, Start) (codes "(") (begin_at g h last (codes "(") r open_word refl refl ∙ opening g (ltb-true (length g.outer) 16 e)) (record { some = omega arith; all = refl; closed = refl })
    inner false e k = absurd (omega (arith, k))

    go : (t : Bool) → 0 < length {A = ℕ} (cond t (cond (nat_lt (length g.outer) 16) (40 ∷ []) []) (name_front w)) → Extends (h, last) (cond t (cond (nat_lt (length g.outer) 16) (40 ∷ []) []) (name_front w))
    go true k = inner (nat_lt (length g.outer) 16) refl k
    go false k = name_extends g h last w r k

next_extends : (g h : Held) (last : Last) (w : List ℕ) → Ended g h last → 0 < length (next_front (length g.outer) w) → Extends (h, last) (next_front (length g.outer) w)
unfolding next_front
next_extends g h last w r some = go (begins 41 w) some
  where
    inner : (n : ℕ) → length g.outer ≡ n → 0 < length {A = ℕ} (cond (eqb (length g.outer) 0) [] (41 ∷ [])) → Extends (h, last) (cond (eqb (length g.outer) 0) [] (41 ∷ []))
    inner zero e k = absurd (let bad : 0 < length {A = ℕ} (cond {A = List ℕ} (eqb 0 0) [] (41 ∷ [])) = subst (λ n. 0 < length {A = ℕ} (cond (eqb n 0) [] (41 ∷ []))) e k in omega (arith, bad))
    inner (suc n) e k =
        let c = can_close g (omega (arith, e)) in
        let t : eqb (length g.outer) 0 ≡ false = not_false (eqb (length g.outer) 0) (not_zero (length g.outer) (omega (arith, e))) in
        subst (Extends (h, last)) (sym (ap (λ z. cond z [] (41 ∷ [])) t)) (alone (h, last) (c.next, Bin) (codes ")") (close_at g h last r ∙ ap (λ o. o >>= λ x. Some (x, Bin)) c.closes) bracket_whole)

    go : (t : Bool) → 0 < length {A = ℕ} (cond t (cond (eqb (length g.outer) 0) [] (41 ∷ [])) (part_front (length g.outer) w)) → Extends (h, last) (cond t (cond (eqb (length g.outer) 0) [] (41 ∷ [])) (part_front (length g.outer) w))
    go true k = inner (length g.outer) refl k
    go false k = part_extends g h last w (ended_ready g h last r) k

link_extends : (h : Held) (last : Last) (t : State) (w other : List ℕ) → step (h, last) (codes "!") ≡ Some t → (0 < length other → Extends (h, last) other) → 0 < length (cond (begins 33 w) (33 ∷ []) other) → Extends (h, last) (cond (begins 33 w) (33 ∷ []) other)
link_extends h last t w other e f some = go (begins 33 w) some
  where
    go : (z : Bool) → 0 < length (cond z (33 ∷ []) other) → Extends (h, last) (cond z (33 ∷ []) other)
    go true k = alone (h, last) t (codes "!") e link_whole
    go false k = f k

element_extends : (h : Held) (k : List ℕ) (props : List Prop) (w : List ℕ) → word_length plain w ≡ length w → 0 < length (element_front (length h.outer) w) → Extends (h, Element k props) (element_front (length h.outer) w)
unfolding element_front
element_extends h k props w all some = go (property_of w) refl some
  where
    go : (o : Option (List ℕ × List ℕ)) → property_of w ≡ o → 0 < length (cond (is_some (property_of w)) w (cond (begins 33 w) (33 ∷ []) (next_front (length h.outer) w))) → Extends (h, Element k props) (cond (is_some (property_of w)) w (cond (begins 33 w) (33 ∷ []) (next_front (length h.outer) w)))
    go None e m =
        let t : is_some (property_of w) ≡ false = ap is_some e in
        subst (Extends (h, Element k props)) (sym (ap (λ z. cond z w (cond (begins 33 w) (33 ∷ []) (next_front (length h.outer) w))) t)) (link_extends h (Element k props) (linked_to h (ElementNode k props)) w (next_front (length h.outer) w) (link_at h (ElementNode k props)) (λ q. next_extends (ended h (ElementNode k props)) h (Element k props) w refl q) (subst (λ l. 0 < length l) (ap (λ z. cond z w (cond (begins 33 w) (33 ∷ []) (next_front (length h.outer) w))) t) m))
    go (Some p) e m =
        let t : is_some (property_of w) ≡ true = ap is_some e in
        let s = property_sound w p e in
        let c : List ℕ = closer (mode_behind plain w) in
        let i = closer_whole w all in
        let is : w ++ closer (mode_behind plain w) ≡ p.0 ++ 61 ∷ (p.1 ++ closer (mode_behind plain w)) = ap (λ l. l ++ closer (mode_behind plain w)) s.0 ∙ append_assoc p.0 (61 ∷ p.1) (closer (mode_behind plain w)) in
        subst (Extends (h, Element k props)) (sym (ap (λ z. cond z w (cond (begins 33 w) (33 ∷ []) (next_front (length h.outer) w))) t)) (record {
          suffix = closer (mode_behind plain w);
          next = (h, Element k (props ++ record { name = p.0; value = taken InValue plain (p.1 ++ closer (mode_behind plain w)) } ∷ []));
          reads = property_at h k props p.0 (p.1 ++ closer (mode_behind plain w)) (taken InValue plain (p.1 ++ closer (mode_behind plain w))) (w ++ closer (mode_behind plain w)) is s.1 (sym (property_closed p.0 (p.1 ++ closer (mode_behind plain w)) s.1) ∙ ap is_closed (sym is) ∙ i.closed) refl;
          whole = i;
        })

-- text without `=` goes on to caps
no_equals : (w c : List ℕ) → cut 61 w ≡ None → begins_caps (w ++ 47 ∷ c) ≡ true
no_equals [] c h = refl
no_equals (b ∷ bs) c h = elim (eqb_tells b 47) [
  | inl t ↦ ap (λ z. cond z true (cond (eqb b 61) false (begins_caps (bs ++ 47 ∷ c)))) t.0
  | inr t ↦ ap (λ z. cond z true (cond (eqb b 61) false (begins_caps (bs ++ 47 ∷ c)))) t.0 ∙ elim (eqb_tells b 61) [
    | inl u ↦ absurd (none-some ([], bs) (sym (sym (ap (λ z. cond z (Some ([], bs)) (longer b (cut 61 bs))) u.0) ∙ h)))
    | inr u ↦ ap (λ z. cond z false (begins_caps (bs ++ 47 ∷ c))) u.0 ∙ no_equals bs c (shorter (cut 61 bs) (sym (ap (λ z. cond z (Some ([], bs)) (longer b (cut 61 bs))) u.0) ∙ h))
  ]
]
  where
    shorter : (o : Option (List ℕ × List ℕ)) → longer b o ≡ None → o ≡ None
    shorter None k = refl
    shorter (Some p) k = absurd (none-some (b ∷ p.0, p.1) (sym k))

cut_first : (w : List ℕ) (p : List ℕ × List ℕ) → cut 61 w ≡ Some p → cut 61 p.0 ≡ None
cut_first [] p h = absurd (none-some p h)
cut_first (b ∷ bs) p h = elim (eqb_tells b 61) [
  | inl t ↦ ap (λ q. cut 61 q.0) (sym (same_Some ([], bs) p (sym (ap (λ z. cond z (Some ([], bs)) (longer b (cut 61 bs))) t.0) ∙ h)))
  | inr t ↦ go t.0 (cut 61 bs) refl (λ q e. cut_first bs q e) (sym (ap (λ z. cond z (Some ([], bs)) (longer b (cut 61 bs))) t.0) ∙ h)
]
  where
    go : eqb b 61 ≡ false → (o : Option (List ℕ × List ℕ)) → cut 61 bs ≡ o → ((q : List ℕ × List ℕ) → cut 61 bs ≡ Some q → cut 61 q.0 ≡ None) → longer b o ≡ Some p → cut 61 p.0 ≡ None
    go f None e ih k = absurd (none-some p k)
    go f (Some q) e ih k = ap (λ r. cut 61 r.0) (sym (same_Some (b ∷ q.0, q.1) p k)) ∙ ap (λ z. cond z (Some ([], q.0)) (longer b (cut 61 q.0))) f ∙ ap (longer b) (ih q e)

caps_extends : (h : Held) (u x : List ℕ) → word_length plain (u ++ x) ≡ length (u ++ x) → begins_caps (u ++ closer (mode_behind plain u)) ≡ true → Extends (h, Link) u
caps_extends h u x all begun =
    let i = closer_whole u (prefix_all plain u x all) in
    record { suffix = closer (mode_behind plain u); next = (h, Caps (taken InCaps plain (u ++ closer (mode_behind plain u)))); reads = caps_linked h (u ++ closer (mode_behind plain u)) begun i.closed; whole = i }

node_extends : (h : Held) (w : List ℕ) → word_length plain w ≡ length w → Extends (h, Link) (caps_front w)
unfolding caps_front
node_extends h w all = go (begins_caps w) refl
  where
    same : word_length plain (w ++ []) ≡ length (w ++ [])
    same = ap (word_length plain) (append-nil w) ∙ all ∙ sym (ap length (append-nil w))

    inner : (o : Option (List ℕ × List ℕ)) → cut 61 w ≡ o → Extends (h, Link) (caps_before w o)
    inner None e = caps_extends h w [] same (no_equals w _ e)
    inner (Some p) e = caps_extends h p.0 (61 ∷ p.1) (let is = cut_sound 61 w p e in ap (word_length plain) (sym is) ∙ all ∙ ap length is) (no_equals p.0 _ (cut_first w p e))

    go : (t : Bool) → begins_caps w ≡ t → Extends (h, Link) (cond t w (caps_before w (cut 61 w)))
    go true e = caps_extends h w [] same (begins_more w _ e)
    go false e = inner (cut 61 w) refl

more_extends : (h : Held) (text w : List ℕ) → word_length plain w ≡ length w → 0 < length w → Extends (h, Caps text) w
more_extends h text w all some =
    let i = closer_whole w all in
    record { suffix = closer (mode_behind plain w); next = (h, Caps (text ++ 32 ∷ taken InCaps plain (w ++ closer (mode_behind plain w)))); reads = caps_at h text (w ++ closer (mode_behind plain w)) i.closed (no_link (bytes_eq (w ++ closer (mode_behind plain w)) (codes "!")) refl); whole = i }
  where
    no_link : (t : Bool) → bytes_eq (w ++ closer (mode_behind plain w)) (codes "!") ≡ t → t ≡ false
    no_link true e = absurd (let n = ap length (same_text (w ++ closer (mode_behind plain w)) (codes "!") e) in let one : length (w ++ closer (mode_behind plain w)) ≡ 1 = n in omega (arith, one, length-append w (closer (mode_behind plain w)), some))
    no_link false e = refl

-- the front of a word goes on to one that can stand there
pub extends : (h : Held) (last : Last) (w : List ℕ) → word_length plain w ≡ length w → 0 < length (front_of (spot_of last) (length h.outer) w) → Extends (h, last) (front_of (spot_of last) (length h.outer) w)
extends h Start w all some = part_extends h h Start w refl some
extends h Bin w all some = next_extends h h Bin w refl some
extends h Chain w all some = next_extends h h Chain w refl some
extends h (Element k props) w all some = element_extends h k props w all some
extends h Link w all some = node_extends h w all
extends h (Caps text) w all some = more_extends h text w all some
extends h (Reference n) w all some = link_extends h (Reference n) (linked_to h n) w [] (reference_link h n) (λ q. absurd (omega (arith, q))) some
