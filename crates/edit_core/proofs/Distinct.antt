-- The elements of a launch line have names of their own.
use Rattle.std.proofs.Common.{◌≡◌, ◌⊎◌, ◌++◌, ℕ, zero, suc, true, false, List, [], ◌∷◌, Some, Ok, Err, Result, length, bytes_eq, sym, ap, ◌∙◌, subst, inl, inr}
use Rattle.std.specs.Prelude.{◌||◌, Bool, slice_get}
use Rattle.std.proofs.lemmas.Bool.{true≢false}
use Rattle.std.proofs.lemmas.Slice.Eq.{bytes_eq-Decides}
use Rattle.gst_value.proofs.Basics.{some_same}
use Rattle.gst_value.proofs.Places.{map_get}
use Rattle.launch_text.specs.declared.tree.Tree.{Tree}
use Rattle.el_settings.specs.Asked.{no_pads}
use Rattle.graph_core.specs.Allowed.{all_allowed, checked, with_caps, with_made_pads}
use Rattle.graph_core.specs.Asked.{Declared}
use Rattle.graph_core.specs.Comes.{Comes}
use Rattle.graph_core.specs.Elements.{ElementsCome, Made, is_name_taken}
use Rattle.graph_core.specs.Graph.{IsGraph, made as made_in}
use Rattle.graph_core.specs.declared.fault.BuildFault.{BuildFault}
use Rattle.graph_core.specs.declared.graph.Graph.{Graph}
use Rattle.gst_caps.specs.declared.caps.Caps.TheVariants.{Any}
use Rattle.edit_core.proofs.Lists.{more_at, no_some}

-- no two elements have one name
abbrev pub AreDistinct : List Made → Type 0
AreDistinct made = (j k : ℕ) (one other : Made) → slice_get made j ≡ Some one → slice_get made k ≡ Some other → one.name ≡ other.name → j ≡ k

-- a name that is not taken is none of those before
not_taken : (name : List ℕ) (made : List Made) (k : ℕ) (m : Made) → is_name_taken name made ≡ false → slice_get made k ≡ Some m → name ≡ m.name → ⊥
not_taken name [] k m free at same = no_some (sym at)
not_taken name (x ∷ made) zero m free at same =
    true≢false
    (sym (ap (λ (b : Bool). b || is_name_taken name made) ((bytes_eq-Decides name x.name).1 (same ∙ ap (λ (y : Made). y.name) (sym (some_same at))))) ∙ free)
not_taken name (x ∷ made) (suc k) m free at same = not_taken name made k m (behind (bytes_eq name x.name) free) at same
  where
    behind : (b : Bool) → (b || is_name_taken name made) ≡ false → is_name_taken name made ≡ false
    behind true e = absurd (true≢false e)
    behind false e = e

one_more : (made : List Made) (y : Made) → is_name_taken y.name made ≡ false → AreDistinct made → AreDistinct (made ++ y ∷ [])
one_more made y free distinct j k one other at at' same = by (more_at made y j one at) (more_at made y k other at')
  where
    by : (slice_get made j ≡ Some one) ⊎ ((j ≡ length made) × (y ≡ one)) → (slice_get made k ≡ Some other) ⊎ ((k ≡ length made) × (y ≡ other)) → j ≡ k
    by (inl a) (inl b) = distinct j k one other a b same
    by (inl a) (inr b) = absurd (not_taken y.name made j one free a (ap (λ (m : Made). m.name) b.1 ∙ sym same))
    by (inr a) (inl b) = absurd (not_taken y.name made k other free b (ap (λ (m : Made). m.name) a.1 ∙ same))
    by (inr a) (inr b) = a.0 ∙ sym b.0

AllDistinct : Result (List Made) BuildFault → Type 0
AllDistinct (Ok made) = AreDistinct made
AllDistinct (Err fault) = Unit {0}

come_distinct : (before : List Made) (declared : List Declared) (answer : Result (List Made) BuildFault) → ElementsCome before declared answer → AreDistinct before → AllDistinct answer
unfolding AllDistinct
come_distinct before declared answer (Comes.all made) distinct = distinct
come_distinct before declared answer (Comes.more made x y xs next is rest) distinct =
    come_distinct (made ++ y ∷ []) xs next rest (one_more made y (subst (λ (name : List ℕ). is_name_taken name made ≡ false) (sym is.name) is.free_name) distinct)
come_distinct before declared answer (Comes.stop made x xs fault why) distinct = tt

none_yet : AreDistinct []
none_yet j k one other at at' same = absurd (no_some (sym at))

pub line_distinct : (tree : Tree) (graph : Graph) → IsGraph tree graph → AreDistinct (made_in graph)
unfolding AllDistinct
line_distinct tree graph is j k one other at at' same =
    come_distinct [] _ (Ok (checked (made_in graph))) is.elements none_yet j k (with_made_pads no_pads (with_caps Any one)) (with_made_pads no_pads (with_caps Any other)) (set j one at) (set k other at') same
  where
    set : (e : ℕ) (m : Made) → slice_get (made_in graph) e ≡ Some m → slice_get (checked (made_in graph)) e ≡ Some (with_made_pads no_pads (with_caps Any m))
    set e m at = map_get (with_made_pads no_pads) (all_allowed (made_in graph)) e (with_caps Any m) (map_get (with_caps Any) (made_in graph) e m at)
