-- The sink pad that an element with several sink pads wants had no EOS.
use Rattle.std.proofs.Common.{◌≡◌, ◌+◌, ℕ, suc, Bool, true, false, if◌then◌else◌, List, [], ◌∷◌, Option, None, Some, refl, sym, ◌∙◌, subst, arith}
use Rattle.std.proofs.lemmas.Option.{same_Some as some_is}
use Rattle.flow_model.specs.Item.{Item}
use Rattle.flow_model.specs.Call.{Call}
use Rattle.flow_model.specs.Feeding.{has_eos}
use Rattle.flow_model.specs.SinkPads.{calls_at}
use Rattle.el_join.specs.Joins.{first_open}
use Rattle.el_join.proofs.Beginning.{wants_first}
use Rattle.el_mix.specs.declared.channel.Channel.{Channel}
use Rattle.el_mix.specs.declared.mix.Mix.{Mix}
use Rattle.el_mix.specs.Line.{is_none}
use Rattle.el_mix.specs.Relation.{KnowEach, Knows, Mixes, section_of, wanted}
use Rattle.el_mix.specs.Reopened.{reopenings}
use Rattle.el_mix.specs.Standing.{CountEach, Counts}
use Rattle.el_mix.specs.Wanted.{else_lowest, is_short, is_unstarted, lowest}
use Rattle.el_set.specs.declared.join.JoinElement.{JoinElement}
use Rattle.el_set.specs.declared.join.JoinElement.TheVariants.{Concat, Mix as Mixing}
use Rattle.el_set.specs.Joins.{JoinStands, join_wanted}
use Rattle.el_mix.proofs.Closing.{start_of}

-- the sink pad of a number, counted from another on, had no EOS
abbrev IsOpenFrom : ℕ → ℕ → List (List Call) → Type 0
IsOpenFrom from pad took = (k : ℕ) × (pad ≡ from + k) × (has_eos (calls_at k took) ≡ false)

open_at : (from pad : ℕ) (took : List (List Call)) → first_open from took ≡ Some pad → IsOpenFrom from pad took
open_at from pad [] e = absurd (cc)
open_at from pad (cs ∷ css) e = go (has_eos cs) refl e (open_at (suc from) pad css)
  where
    go : (b : Bool) → has_eos cs ≡ b → (if b then first_open (suc from) css else Some from) ≡ Some pad
        → (first_open (suc from) css ≡ Some pad → IsOpenFrom (suc from) pad css) → IsOpenFrom from pad (cs ∷ css)
    go true is e rest = let r = rest e in let later = r.1 in (suc r.0, omega (arith, later), r.2)
    go false is e rest = let same = some_is from pad e in (0, omega (arith, same), is)

-- of the lowest channel of some that have not ended
open_low : (test : Channel → Bool) → ((c : Channel) (xs : List Item) → Counts c xs → test c ≡ true → c.progress.ended ≡ false) → (from pad : ℕ) (cs : List Channel)
    (took : List (List Call)) (xss : List (List Item)) → KnowEach cs took → CountEach cs xss → lowest test from cs ≡ Some pad → IsOpenFrom from pad took
open_low test closed from pad [] took xss ks ds e = absurd (cc)
open_low test closed from pad (c ∷ cs) [] xss ks ds e = absurd ks
open_low test closed from pad (c ∷ cs) (calls ∷ took) [] ks ds e = absurd ds
open_low test closed from pad (c ∷ cs) (calls ∷ took) (xs ∷ xss) ks ds e =
    go (test c) refl e (open_low test closed (suc from) pad cs took xss ks.1 ds.1)
  where
    knows : Knows c calls
    knows = ks.0

    go : (b : Bool) → test c ≡ b → (if b then Some from else lowest test (suc from) cs) ≡ Some pad
        → (lowest test (suc from) cs ≡ Some pad → IsOpenFrom (suc from) pad took) → IsOpenFrom from pad (calls ∷ took)
    go true is e rest = let same = some_is from pad e in (0, omega (arith, same), knows.eos ∙ closed c xs ds.0 is)
    go false is e rest = let r = rest e in let later = r.1 in (suc r.0, omega (arith, later), r.2)

short_open : (c : Channel) (xs : List Item) → Counts c xs → is_short c ≡ true → c.progress.ended ≡ false
short_open c xs d is = go c.progress.ended is
  where
    go : (b : Bool) → (if b then false else is_none c.waiting.rest) ≡ true → b ≡ false
    go true e = absurd (cc)
    go false e = refl

unstarted_open : (c : Channel) (xs : List Item) → Counts c xs → is_unstarted c ≡ true → c.progress.ended ≡ false
unstarted_open c xs d is = go c.progress.ended refl
  where
    never : (b : Bool) → (if b then false else true) ≡ true → b ≡ true → c.progress.ended ≡ false
    never true e s = absurd (cc)
    never false e s = absurd (cc)

    go : (b : Bool) → c.progress.ended ≡ b → b ≡ false
    go true ended = sym ended ∙ never c.progress.started is (d.started ∙ start_of xs (sym d.ended ∙ ended))
    go false ended = refl

mix_open : (mix : Mix) (took : List (List Call)) (put : List Item) (pad : ℕ) → Mixes mix took put → wanted mix ≡ Some pad → IsOpenFrom 0 pad took
mix_open mix took put pad h e = go (lowest is_short 0 mix.channels.items) refl e
  where
    go : (found : Option ℕ) → lowest is_short 0 mix.channels.items ≡ found → else_lowest found mix.channels.items ≡ Some pad → IsOpenFrom 0 pad took
    go (Some low) is e =
        open_low is_short short_open 0 pad mix.channels.items took (reopenings (section_of took) took) h.remembers.each h.holds.each.counts (is ∙ e)
    go None is e =
        open_low is_unstarted unstarted_open 0 pad mix.channels.items took (reopenings (section_of took) took) h.remembers.each h.holds.each.counts e

pub joins_want_open : (join : JoinElement) (took : List (List Call)) (put : List Item) (pad : ℕ) → JoinStands join took put → join_wanted join ≡ Some pad
    → has_eos (calls_at pad took) ≡ false
joins_want_open join took put pad s e = by (opens join s e)
  where
    by : IsOpenFrom 0 pad took → has_eos (calls_at pad took) ≡ false
    by h = let same = h.1 in let is : pad ≡ h.0 = omega (arith, same) in subst (λ (k : ℕ). has_eos (calls_at k took) ≡ false) (sym is) h.2

    opens : (own : JoinElement) → JoinStands own took put → join_wanted own ≡ Some pad → IsOpenFrom 0 pad took
    opens (Concat concat) s e = open_at 0 pad took (sym (wants_first concat took put s) ∙ e)
    opens (Mixing mix) s e = mix_open mix took put pad s e
