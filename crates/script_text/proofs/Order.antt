-- The last number of buffers of each pad tells whether a command goes back.
use Rattle.std.proofs.Common.{◌≡◌, ◌∙◌, ◌<◌, ◌≤◌, ℕ, Bool, true, false, cond, ◌&&◌, ◌||◌, List, [], ◌∷◌, ◌++◌, Option, Some, Result, Ok, Err, refl, sym, ap, subst, arith}
use Rattle.std.specs.Prelude.{String, nat_lt, unwrap_or}
use Rattle.std.specs.BTreeMap.{BTreeMap, get_by_text, UpdatesBy}
use Rattle.std.specs.Str.{bytes_eq}
use Rattle.std.specs.String.{string_bytes, string_cmp}
use Rattle.std.specs.Cmp.Lexicographic.{slice_cmp}
use Rattle.std.specs.Ordering.{nat_cmp}
use Rattle.std.specs.declared.alloc.Global.{Global}
use Rattle.std.proofs.lemmas.List.Folds.{list_any-append}
use Rattle.std.proofs.lemmas.Map.Text.{btree_map_updates_text}
use Rattle.std.proofs.lemmas.Slice.Eq.{bytes_eq-Decides}
use Rattle.script_text.specs.Commands.{spelled}
use Rattle.script_text.specs.Latest.{IsLatest, NotedWhen, last_of}
use Rattle.script_text.specs.Refusals.{Answers, and_then}
use Rattle.script_text.specs.Scripts.{goes_back, in_order, waits_beyond}
use Rattle.script_text.specs.declared.command.Command.{Command}
use Rattle.script_text.specs.declared.command.When.{When}
use Rattle.script_text.specs.declared.command.When.TheVariants.{At, NowPad, Now}
use Rattle.script_text.specs.declared.fault.Refusal.{Refusal}
use Rattle.script_text.specs.declared.fault.Refusal.TheVariants.{Bad, OutOfMemory}
use Rattle.script_text.specs.declared.fault.ScriptKind.{ScriptKind}
use Rattle.script_text.specs.declared.fault.ScriptKind.TheVariants.{Backwards}

-- the numbers after a number of a pad is put
pub put_last : (old new : BTreeMap (String Global) ℕ) (name : String Global) (pad : List ℕ) (buffers : ℕ) → string_bytes name ≡ pad
    → UpdatesBy string_cmp (λ k. slice_cmp nat_cmp (string_bytes name) (string_bytes k)) old new (Some buffers)
    → (other : List ℕ) → last_of new other ≡ cond (bytes_eq pad other) buffers (last_of old other)
put_last old new name pad buffers is h other =
    ap (λ o. unwrap_or o 0) (btree_map_updates_text (string_bytes name) old new (Some buffers) h other)
    ∙ ap (λ p. unwrap_or (cond (bytes_eq p other) (Some buffers) (get_by_text old other)) 0) is
    ∙ go (bytes_eq pad other)
  where
    go : (t : Bool) → unwrap_or (cond t (Some buffers) (get_by_text old other)) 0 ≡ cond t buffers (last_of old other)
    go true = refl
    go false = refl

wide : (m a n : ℕ) → a ≤ n → (nat_lt m a || nat_lt m n) ≡ nat_lt m n
wide m a n h = grind (arith, h)

-- a number that is not smaller than the last one of its pad is the last one
noted_at : (old new : BTreeMap (String Global) ℕ) (cs : List Command) (command : Command) (pad : List ℕ) (buffers : ℕ)
    → ((other : List ℕ) (m : ℕ) → waits_beyond other m command.when ≡ (bytes_eq pad other && nat_lt m buffers))
    → last_of old pad ≤ buffers → ((other : List ℕ) → last_of new other ≡ cond (bytes_eq pad other) buffers (last_of old other)) → IsLatest old cs → IsLatest new (cs ++ command ∷ [])
noted_at old new cs command pad buffers says small changed h other m =
    list_any-append (λ c. waits_beyond other m c.when) cs (command ∷ [])
    ∙ ap (λ t. t || (waits_beyond other m command.when || false)) (h other m)
    ∙ ap (λ t. nat_lt m (last_of old other) || (t || false)) (says other m)
    ∙ go (bytes_eq pad other) refl
    ∙ ap (nat_lt m) (sym (changed other))
  where
    plain : (t : Bool) → (t || false) ≡ t
    plain true = refl
    plain false = refl

    go : (t : Bool) → bytes_eq pad other ≡ t → (nat_lt m (last_of old other) || ((t && nat_lt m buffers) || false)) ≡ nat_lt m (cond t buffers (last_of old other))
    go true e =
        let same : pad ≡ other = (bytes_eq-Decides pad other).0 e in
        let less : last_of old other ≤ buffers = subst (λ p. last_of old p ≤ buffers) same small in
        ap (λ t. nat_lt m (last_of old other) || t) (plain (nat_lt m buffers)) ∙ wide m (last_of old other) buffers less
    go false e = plain (nat_lt m (last_of old other))

-- a command without a number changes nothing
noted_none : (old new : BTreeMap (String Global) ℕ) (cs : List Command) (command : Command) → ((other : List ℕ) (m : ℕ) → waits_beyond other m command.when ≡ false) → new ≡ old → IsLatest old cs → IsLatest new (cs ++ command ∷ [])
noted_none old new cs command says same h other m =
    list_any-append (λ c. waits_beyond other m c.when) cs (command ∷ [])
    ∙ ap (λ t. t || (waits_beyond other m command.when || false)) (h other m)
    ∙ ap (λ t. nat_lt m (last_of old other) || (t || false)) (says other m)
    ∙ plain (nat_lt m (last_of old other))
    ∙ ap (λ map. nat_lt m (last_of map other)) (sym same)
  where
    plain : (t : Bool) → (t || false) ≡ t
    plain true = refl
    plain false = refl

not_below : (n last : ℕ) → last ≤ n → nat_lt n last ≡ false
not_below n last h = grind (arith, h)

below : (n last : ℕ) → n < last → nat_lt n last ≡ true
below n last h = grind (arith, h)

-- what is known of a command behind others once its time is noted
pub record Placed (new : BTreeMap (String Global) ℕ) (cs : List Command) (command : Command) : Type 0 where
  pub latest : IsLatest new (cs ++ command ∷ [])
  pub forward : goes_back cs command.when ≡ false

pub placed : {X : Type 0} (old new : BTreeMap (String Global) ℕ) (cs : List Command) (command : Command) (x : X) → NotedWhen old new command.when (Ok x) → IsLatest old cs → Placed new cs command
placed {X} old new cs command x noted h = go command.when refl noted
  where
    go : (when : When) → command.when ≡ when → NotedWhen old new when (Ok x) → Placed new cs command
    go (At pad buffers) is n = record {
      latest = noted_at old new cs command (spelled pad) buffers (λ other m. ap (waits_beyond other m) is) n.0 n.1 h;
      forward = ap (goes_back cs) is ∙ h (spelled pad) buffers ∙ not_below buffers (last_of old (spelled pad)) n.0;
    }
    go (NowPad pad) is n = record { latest = noted_none old new cs command (λ other m. ap (waits_beyond other m) is) n.0 h; forward = ap (goes_back cs) is }
    go Now is n = record { latest = noted_none old new cs command (λ other m. ap (waits_beyond other m) is) n.0 h; forward = ap (goes_back cs) is }

-- a refusal that is told of this answer
abbrev pub Refuses : {V : Type 0} → Refusal → Result V ScriptKind → Type 0
Refuses (Bad kind) answer = answer ≡ Err kind
Refuses OutOfMemory answer = Unit {0}

pub told_refusal : {X V : Type 0} (view : X → V) (refusal : Refusal) (answer : Result V ScriptKind) → Refuses refusal answer → Answers view (Err refusal) answer
told_refusal view (Bad kind) answer h = h
told_refusal view OutOfMemory answer h = h

-- a refusal of its time is that it goes back
pub refused_back : (X : Type 0) (old new : BTreeMap (String Global) ℕ) (cs : List Command) (command : Command) (refusal : Refusal) → NotedWhen {X = X} old new command.when (Err refusal) → IsLatest old cs
    → Refuses refusal (and_then (in_order cs command) (λ c. Ok (cs ++ c ∷ [])))
refused_back X old new cs command refusal noted h = go command.when refl refusal noted
  where
    no : false ≡ true → ⊥
    no e = cc

    go : (when : When) → command.when ≡ when → (r : Refusal) → NotedWhen {X = X} old new when (Err r) → Refuses r (and_then (in_order cs command) (λ c. Ok (cs ++ c ∷ [])))
    go when is OutOfMemory n = tt
    go (At pad buffers) is (Bad kind) n =
        let back : goes_back cs command.when ≡ true = ap (goes_back cs) is ∙ h (spelled pad) buffers ∙ below buffers (last_of old (spelled pad)) n.0 in
        ap (λ t. and_then (cond t (Err Backwards) (Ok command)) (λ c. Ok (cs ++ c ∷ []))) back ∙ ap Err (sym n.1)
    go (NowPad pad) is (Bad kind) n = absurd (no n.1)
    go Now is (Bad kind) n = absurd (no n.1)

-- a command that does not go back is put
pub put_said : (cs : List Command) (command : Command) → goes_back cs command.when ≡ false → and_then (in_order cs command) (λ c. Ok (cs ++ c ∷ [])) ≡ Ok (cs ++ command ∷ [])
put_said cs command h = ap (λ t. and_then (cond t (Err Backwards) (Ok command)) (λ c. Ok (cs ++ c ∷ []))) h

-- the last number of a pad as it is looked up
pub read_last : (latest : BTreeMap (String Global) ℕ) (name : String Global) (shown pad : List ℕ) (last : ℕ) (found : Option ℕ) → string_bytes name ≡ pad → shown ≡ string_bytes name → found ≡ get_by_text latest shown → last ≡ unwrap_or found 0 → last ≡ last_of latest pad
read_last latest name shown pad last found is text get e = e ∙ ap (λ o. unwrap_or o 0) (get ∙ ap (get_by_text latest) (text ∙ is))
