-- From which pad the next item is wanted.
use Rattle.std.proofs.Common.{◌≡◌, ℕ, zero, suc, ◌+◌, Bool, true, false, if◌then◌else◌, List, [], ◌∷◌, Option, Some, None, map, refl, sym, ap, ◌∙◌, arith}
use Rattle.std.specs.Option.{IfSome}
use Rattle.std.proofs.lemmas.Option.{same_Some as some_is}
use Rattle.gst_value.specs.Description.{Description}
use Rattle.gst_value.specs.declared.one.One.{One}
use Rattle.flow_model.specs.Item.{Item}
use Rattle.flow_model.specs.Call.{Call}
use Rattle.el_mix.specs.declared.channel.Channel.{Channel}
use Rattle.el_mix.specs.declared.mix.Mix.{Mix}
use Rattle.el_mix.specs.Agreed.{is_there}
use Rattle.el_mix.specs.Reopened.{reopenings}
use Rattle.el_mix.specs.Line.{is_none}
use Rattle.el_mix.specs.Taking.{hears, settled}
use Rattle.el_mix.specs.Standing.{WaitEach, known, lower_known}
use Rattle.el_mix.specs.Wanted.{lowest, is_short, is_unstarted, else_lowest}
use Rattle.el_mix.specs.Relation.{wanted, section_of, Mixes}

differ : true ≡ false → ⊥
differ e = absurd (cc)

-- each pad that is not short is known
abbrev AllServed : List Channel → Type 0
AllServed [] = Unit {0}
AllServed (c ∷ cs) = (is_short c ≡ false → known c ≡ true) × AllServed cs

served : (next : ℕ) (cs : List Channel) (xss : List (List Item)) → map settled cs ≡ cs → WaitEach next cs xss → AllServed cs
served next [] xss s w = tt
served next (c ∷ cs) [] s w = absurd w
served next (c ∷ cs) (xs ∷ xss) s w = (here, served next cs xss (parts (settled c) c (map settled cs) cs s).1 w.1)
  where
    parts : (a b : Channel) (ps qs : List Channel) → a ∷ ps ≡ b ∷ qs → (a ≡ b) × (ps ≡ qs)
    parts a b ps qs e = (cc, cc)

    same : c.waiting.ahead ≡ c.waiting.rest
    same = sym (ap (λ (z : Channel). z.waiting.ahead) (parts (settled c) c (map settled cs) cs s).0)

    waits_none : (bs : List (List ℕ)) → bs ≡ [] → is_none bs ≡ true
    waits_none bs e = ap is_none e

    there : (o : Option (Description One)) → hears c ≡ o → is_none c.waiting.rest ≡ false → is_there (hears c) ≡ true
    there None o e = absurd (differ (sym (waits_none c.waiting.rest (sym same ∙ (w.0.none o).1)) ∙ e))
    there (Some caps) o e = ap is_there o

    here : is_short c ≡ false → known c ≡ true
    here e = go c.progress.ended refl e
      where
        go : (b : Bool) → c.progress.ended ≡ b → (if b then false else is_none c.waiting.rest) ≡ false → known c ≡ true
        go true is e = rw is refl
        go false is e = rw is (there (hears c) refl e)

-- below the lowest that is short, and anywhere where none is
below_short : (k pad : ℕ) (cs : List Channel) → AllServed cs → lowest is_short k cs ≡ Some pad → (j : ℕ) → pad ≡ k + j → lower_known j cs ≡ true
below_short k pad [] a e j is = absurd (cc)
below_short k pad (c ∷ cs) a e zero is = refl
below_short k pad (c ∷ cs) a e (suc j) is = go (is_short c) refl e (λ e. below_short (suc k) pad cs a.1 e j (omega (arith, is)))
  where
    go : (b : Bool) → is_short c ≡ b → (if b then Some k else lowest is_short (suc k) cs) ≡ Some pad → (lowest is_short (suc k) cs ≡ Some pad → lower_known j cs ≡ true)
        → (if known c then lower_known j cs else false) ≡ true
    go true s e later = absurd (let same = some_is k pad e in omega (arith, is, same))
    go false s e later = rw (a.0 s) (later e)

none_short : (k : ℕ) (cs : List Channel) → AllServed cs → lowest is_short k cs ≡ None → (j : ℕ) → lower_known j cs ≡ true
none_short k [] a e j = refl
none_short k (c ∷ cs) a e zero = refl
none_short k (c ∷ cs) a e (suc j) = go (is_short c) refl e (λ e. none_short (suc k) cs a.1 e j)
  where
    go : (b : Bool) → is_short c ≡ b → (if b then Some k else lowest is_short (suc k) cs) ≡ None → (lowest is_short (suc k) cs ≡ None → lower_known j cs ≡ true)
        → (if known c then lower_known j cs else false) ≡ true
    go true s e later = absurd (cc)
    go false s e later = rw (a.0 s) (later e)

pub order_kept : (m : Mix) (pad : ℕ) → wanted m ≡ Some pad → (took : List (List Call)) (put : List Item) → Mixes m took put → lower_known pad m.channels.items ≡ true
order_kept m pad e took put h = go (lowest is_short 0 m.channels.items) refl e
  where
    all : AllServed m.channels.items
    all = served m.at.next m.channels.items (reopenings (section_of took) took) h.holds.each.settled_is h.holds.waits

    go : (o : Option ℕ) → lowest is_short 0 m.channels.items ≡ o → else_lowest o m.channels.items ≡ Some pad → lower_known pad m.channels.items ≡ true
    go (Some k) o e = below_short 0 pad m.channels.items all (o ∙ e) pad (omega arith)
    go None o e = none_short 0 m.channels.items all o pad

-- by the lowest that is short, and else by the lowest that has not started
pub wants_short : (m : Mix) (given : List Channel) (pad : ℕ) → given ≡ m.channels.items → Some pad ≡ lowest is_short 0 given → (took : List (List Call)) (put : List Item) → Mixes m took put
    → lower_known pad m.channels.items ≡ true
wants_short m given pad is e = order_kept m pad (ap (λ (o : Option ℕ). else_lowest o m.channels.items) (sym (e ∙ ap (lowest is_short 0) is)))

pub wants_unstarted : (m : Mix) (given rest : List Channel) (o : Option ℕ) → given ≡ m.channels.items → rest ≡ m.channels.items → None ≡ lowest is_short 0 given
    → o ≡ lowest is_unstarted 0 rest → IfSome o (λ pad. (took : List (List Call)) (put : List Item) → Mixes m took put → lower_known pad m.channels.items ≡ true)
wants_unstarted m given rest None is same none e = tt
wants_unstarted m given rest (Some pad) is same none e =
    order_kept m pad (ap (λ (o : Option ℕ). else_lowest o m.channels.items) (sym (none ∙ ap (lowest is_short 0) is)) ∙ sym (e ∙ ap (lowest is_unstarted 0) same))
