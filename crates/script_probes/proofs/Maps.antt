-- Queues that change at one pad.
use Rattle.std.proofs.Common.{◌≡◌, ◌&&◌, ℕ, Bool, true, false, cond, List, [], Option, Some, None, Result, Ok, Err, OnOk, refl, sym, ap, ◌∙◌, subst, String, string_bytes, string_eq, bytes_eq}
use Rattle.std.specs.Map.{lookup}
use Rattle.std.specs.Option.{option_map_or}
use Rattle.std.specs.declared.alloc.Global.{Global}
use Rattle.std.specs.declared.collections.VecDeque.{VecDeque}
use Rattle.std.proofs.lemmas.Map.Text.{hash_map_updates_text}
use Rattle.std.proofs.lemmas.Slice.Eq.{bytes_eq-Decides}
use Rattle.indexmap.specs.IndexMap.{IndexMap, UpdatesBy, get_by_text}
use Rattle.gst_value.specs.declared.name.PadName.{PadName}
use Rattle.pad_core.specs.declared.probe.Probe.{Probe}
use Rattle.script_probes.specs.Queues.{is_pad, queue_at, queue_in}

abbrev Queue : Type 0
Queue = VecDeque Probe Global

or_cond : {X Y : Type 0} (f : X → Y) (d : Y) (b : Bool) (x : X) (o : Option X) → option_map_or f (cond b (Some x) o) d ≡ cond b (f x) (option_map_or f o d)
or_cond f d true x o = refl
or_cond f d false x o = refl

-- a map in which the value at one text is another one
abbrev pub Sets : {X S : Type 0} → List ℕ → IndexMap (String Global) X S → IndexMap (String Global) X S → X → Type 0
Sets text old new x = UpdatesBy string_eq (λ (k : String Global). bytes_eq text (string_bytes k)) old new (Some x)

-- what follows from what is said of an answer that is Ok
pub on_ok : {X E P Q : Type 0} (r : Result X E) → OnOk r P → (P → Q) → OnOk r Q
on_ok (Ok x) h f = f h
on_ok (Err e) h f = h

module _ (change : Bool → List Probe → List Probe) (stays : (xs : List Probe) → change false xs ≡ xs) where
  -- the queue of one pad of an element changes
  pub queue_set : {S : Type 0} (pad : List ℕ) (old new : IndexMap (String Global) (VecDeque Probe Global) S) (queue : VecDeque Probe Global) → Sets pad old new queue → queue.items ≡ change true (queue_in old pad)
      → (other : List ℕ) → queue_in new other ≡ change (bytes_eq pad other) (queue_in old other)
  queue_set {S} pad old new queue sets is other =
      ap (λ o. option_map_or (λ (q : VecDeque Probe Global). q.items) o []) (hash_map_updates_text pad old new (Some queue) sets other)
      ∙ or_cond (λ (q : VecDeque Probe Global). q.items) [] (bytes_eq pad other) queue (get_by_text old other)
      ∙ go (bytes_eq pad other) refl
    where
      go : (b : Bool) → bytes_eq pad other ≡ b → cond b queue.items (queue_in old other) ≡ change b (queue_in old other)
      go true e = is ∙ ap (λ (name : List ℕ). change true (queue_in old name)) ((bytes_eq-Decides pad other).0 e)
      go false e = sym (stays (queue_in old other))

  -- the queue of one pad changes
  queue_at_set : {R S : Type 0} (pad : PadName) (old new : IndexMap (String Global) (IndexMap (String Global) (VecDeque Probe Global) R) S) (pads : IndexMap (String Global) (VecDeque Probe Global) R) → Sets pad.element old new pads
      → ((name : List ℕ) → queue_in pads name ≡ change (bytes_eq pad.pad name) (queue_at old (record { element = pad.element; pad = name })))
      → (other : PadName) → queue_at new other ≡ change (is_pad pad other) (queue_at old other)
  queue_at_set {R} {S} pad old new pads sets is other =
      ap (λ o. option_map_or (λ ps. queue_in ps other.pad) o []) (hash_map_updates_text pad.element old new (Some pads) sets other.element)
      ∙ or_cond (λ ps. queue_in ps other.pad) [] (bytes_eq pad.element other.element) pads (get_by_text old other.element)
      ∙ go (bytes_eq pad.element other.element) refl
    where
      go : (b : Bool) → bytes_eq pad.element other.element ≡ b → cond b (queue_in pads other.pad) (queue_at old other) ≡ change (b && bytes_eq pad.pad other.pad) (queue_at old other)
      go true e = is other.pad ∙ ap (λ (name : List ℕ). change (bytes_eq pad.pad other.pad) (queue_at old (record { element = name; pad = other.pad }))) ((bytes_eq-Decides pad.element other.element).0 e)
      go false e = sym (stays (queue_at old other))

  -- the same where the pads of the element were lent, by texts that are those of the pad's name
  pub lent_set : {R S : Type 0} (pad : PadName) (old new : IndexMap (String Global) (IndexMap (String Global) (VecDeque Probe Global) R) S) (held pads : IndexMap (String Global) (VecDeque Probe Global) R) (element shown : List ℕ)
      → element ≡ pad.element → shown ≡ pad.pad → Some held ≡ get_by_text old element → Sets element old new pads → ((name : List ℕ) → queue_in pads name ≡ change (bytes_eq shown name) (queue_in held name))
      → (other : PadName) → queue_at new other ≡ change (is_pad pad other) (queue_at old other)
  lent_set {R} {S} pad old new held pads element shown same_element same_pad at sets inner =
      queue_at_set pad old new pads (subst (λ (t : List ℕ). Sets t old new pads) same_element sets)
      (λ name. inner name
      ∙ ap (λ (t : List ℕ). change (bytes_eq t name) (queue_in held name)) same_pad
      ∙ ap (λ o. change (bytes_eq pad.pad name) (option_map_or (λ ps. queue_in ps name) o [])) (at ∙ ap (get_by_text old) same_element))

  -- and where the element had no pads
  pub fresh_set : {R S : Type 0} (pad : PadName) (old new : IndexMap (String Global) (IndexMap (String Global) (VecDeque Probe Global) R) S) (fresh pads : IndexMap (String Global) (VecDeque Probe Global) R) (element shown : List ℕ)
      → element ≡ pad.element → shown ≡ pad.pad → None ≡ get_by_text old element → fresh.entries ≡ [] → Sets pad.element old new pads → ((name : List ℕ) → queue_in pads name ≡ change (bytes_eq shown name) (queue_in fresh name))
      → (other : PadName) → queue_at new other ≡ change (is_pad pad other) (queue_at old other)
  fresh_set {R} {S} pad old new fresh pads element shown same_element same_pad at empty sets inner =
      queue_at_set pad old new pads sets
      (λ name. inner name
      ∙ ap (λ (t : List ℕ). change (bytes_eq t name) (queue_in fresh name)) same_pad
      ∙ ap (λ es. change (bytes_eq pad.pad name) (option_map_or (λ (q : VecDeque Probe Global). q.items) (lookup (λ (k : String Global). bytes_eq name (string_bytes k)) es) [])) empty
      ∙ ap (λ o. change (bytes_eq pad.pad name) (option_map_or (λ (ps : IndexMap (String Global) (VecDeque Probe Global) R). queue_in ps name) o [])) (at ∙ ap (get_by_text old) same_element))

-- the same where the text is that of a key
pub sets_key : {X S : Type 0} (text : List ℕ) (key : String Global) (old before new : IndexMap (String Global) X S) (x : X) → string_bytes key ≡ text → before ≡ old → UpdatesBy string_eq (string_eq key) before new (Some x) → Sets text old new x
sets_key text key old before new x is same h = subst (λ (m : _). Sets text m new x) same (subst (λ (t : List ℕ). Sets t before new x) is h)
