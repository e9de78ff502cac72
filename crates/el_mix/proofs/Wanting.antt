-- Which pad is wanted, and how many there are; where none is wanted, EOS came on each.
use Rattle.std.proofs.Common.{◌≡◌, ◌⊎◌, ◌<◌, ℕ, zero, suc, ◌+◌, ◌*◌, ◌/◌, Bool, true, false, if◌then◌else◌, ltb, List, [], ◌∷◌, length, map, Option, Some, None, refl, sym, ap, ◌∙◌, subst, inl, inr, arith}
use Rattle.std.specs.Option.{option_map}
use Rattle.std.proofs.lemmas.Option.{same_Some as some_is}
use Rattle.gst_value.specs.Description.{Description}
use Rattle.gst_value.specs.declared.one.One.{One}
use Rattle.flow_model.specs.Item.{Item}
use Rattle.flow_model.specs.Call.{Call}
use Rattle.el_mix.specs.declared.channel.Channel.{Channel}
use Rattle.el_mix.specs.declared.mix.Mix.{Mix}
use Rattle.el_mix.specs.declared.position.Position.{Position}
use Rattle.el_mix.specs.Mono.{Mono, mono_of, width}
use Rattle.el_mix.specs.Mixed.{limit}
use Rattle.el_mix.specs.Agreed.{pad_caps, lowest_caps}
use Rattle.el_mix.specs.Reopened.{reopenings}
use Rattle.el_mix.specs.Mixes.{is_start, all_have}
use Rattle.el_mix.specs.Heard.{mono_by}
use Rattle.el_mix.specs.Line.{is_none}
use Rattle.el_mix.specs.Taking.{settled, lines}
use Rattle.el_mix.specs.Turns.{Ahead, next_cut}
use Rattle.el_mix.specs.Lined.{Ready}
use Rattle.el_mix.specs.Putting.{all_started, lowest_heard}
use Rattle.el_mix.specs.Standing.{Counts, CountEach, Waits, WaitEach, opened, limit_in, time_in, Holds, IsOpenAt}
use Rattle.el_mix.specs.Wanted.{lowest, is_short, is_unstarted, else_lowest}
use Rattle.el_mix.specs.Relation.{KnowEach, section_of, sink_pads, wanted, Mixes}
use Rattle.el_mix.specs.Handing.{WantsOpenPads}
use Rattle.el_mix.proofs.Choosing.{order_kept}
use Rattle.el_mix.proofs.Judged.{neither}
use Rattle.el_mix.proofs.Moving.{all_started_is, ready_first, heads, heard_is}
use Rattle.el_mix.proofs.Stepping.{Step, step}
use Rattle.el_mix.proofs.Together.{begun_of_started}
use Rattle.el_mix.proofs.Closing.{AllEnded, EachOver, at_place, ended_of}
use Rattle.gst_value.proofs.Basics.{from_true as never}

-- Where no pad is wanted each one has bodies or ended, and each one has started.
abbrev NoneOf : (Channel → Bool) → List Channel → Type 0
NoneOf test [] = Unit {0}
NoneOf test (c ∷ cs) = (test c ≡ false) × NoneOf test cs

none_of : (test : Channel → Bool) (k : ℕ) (cs : List Channel) → lowest test k cs ≡ None → NoneOf test cs
none_of test k [] e = tt
none_of test k (c ∷ cs) e = go (test c) refl e (none_of test (suc k) cs)
  where
    go : (b : Bool) → test c ≡ b → (if b then Some k else lowest test (suc k) cs) ≡ None → (lowest test (suc k) cs ≡ None → NoneOf test cs) → (test c ≡ false) × NoneOf test cs
    go true is e rest = absurd (cc)
    go false is e rest = (is, rest e)

all_begun : (cs : List Channel) → NoneOf is_unstarted cs → all_started cs ≡ true
all_begun [] h = refl
all_begun (c ∷ cs) h = go c.progress.started h.0 (all_begun cs h.1)
  where
    go : (b : Bool) → (if b then false else true) ≡ false → all_started cs ≡ true → (if b then all_started cs else false) ≡ true
    go true e rest = rest
    go false e rest = absurd (cc)

-- what is ahead is all that waits
abbrev AllServed : List Ahead → Type 0
AllServed [] = Unit {0}
AllServed (l ∷ ls) = ((l.0 ≡ true) ⊎ (is_none l.1 ≡ false)) × AllServed ls

served : (cs : List Channel) → map settled cs ≡ cs → NoneOf is_short cs → AllServed (lines cs)
served [] s h = tt
served (c ∷ cs) s h = (go c.progress.ended refl h.0, served cs (heads (settled c) c (map settled cs) cs s).1 h.1)
  where
    same : c.waiting.rest ≡ c.waiting.ahead
    same = ap (λ (z : Channel). z.waiting.ahead) (heads (settled c) c (map settled cs) cs s).0

    go : (b : Bool) → c.progress.ended ≡ b → (if b then false else is_none c.waiting.rest) ≡ false → (c.progress.ended ≡ true) ⊎ (is_none c.waiting.ahead ≡ false)
    go true is e = inl is
    go false is e = inr (ap is_none (sym same) ∙ e)

over_without : (next : ℕ) (cs : List Channel) (xss : List (List Item)) → lowest_caps xss ≡ None → CountEach cs xss → WaitEach next cs xss → AllServed (lines cs) → EachOver cs
over_without next [] xss e ks ws s = tt
over_without next (c ∷ cs) [] e ks ws s = absurd ks
over_without next (c ∷ cs) (xs ∷ xss) e ks ws s = (go s.0, over_without next cs xss both.1 ks.1 ws.1 s.1)
  where
    both : (pad_caps xs ≡ None) × (lowest_caps xss ≡ None)
    both = neither (pad_caps xs) (lowest_caps xss) e

    empty : c.waiting.ahead ≡ []
    empty = let k : Counts c xs = ks.0 in let w : Waits next c xs = ws.0 in (w.none (k.caps ∙ both.0)).1

    go : (c.progress.ended ≡ true) ⊎ (is_none c.waiting.ahead ≡ false) → c.progress.ended ≡ true
    go (inl is) = is
    go (inr some) = never (sym (ap is_none empty) ∙ some)

some_cut : (m : ℕ) (ls : List Ahead) → AllServed ls → next_cut (Some m) ls ≡ None → ⊥
some_cut m [] s e = cc
some_cut m ((ended, b ∷ bs) ∷ ls) s e = go (ltb m (length b)) e (λ n f. some_cut n ls s.1 f)
  where
    go : (t : Bool) → next_cut (if t then Some m else Some (length b)) ls ≡ None → ((n : ℕ) → next_cut (Some n) ls ≡ None → ⊥) → ⊥
    go true e rest = rest m e
    go false e rest = rest (length b) e
some_cut m ((true, []) ∷ ls) s e = some_cut m ls s.1 e
some_cut m ((false, []) ∷ ls) s e = none s.0
  where
    none : (false ≡ true) ⊎ (true ≡ false) → ⊥
    none (inl t) = cc
    none (inr t) = cc

over_by_cut : (cs : List Channel) → AllServed (lines cs) → next_cut None (lines cs) ≡ None → EachOver cs
over_by_cut [] s e = tt
over_by_cut (c ∷ cs) s e = go c.progress.ended refl c.waiting.ahead s.0 e (over_by_cut cs s.1)
  where
    go : (t : Bool) → c.progress.ended ≡ t → (bs : List (List ℕ)) → (t ≡ true) ⊎ (is_none bs ≡ false) → next_cut None ((t, bs) ∷ lines cs) ≡ None
        → (next_cut None (lines cs) ≡ None → EachOver cs) → (c.progress.ended ≡ true) × EachOver cs
    go t is (b ∷ bs) f e rest = absurd (some_cut (length b) (lines cs) s.1 e)
    go true is [] f e rest = (is, rest e)
    go false is [] (inl f) e rest = absurd (cc)
    go false is [] (inr f) e rest = absurd (cc)

frames_some : (f w n : ℕ) → f * w ≡ n → 0 < n → 0 < f
frames_some zero w n is h = absurd (omega (arith, is, h))
frames_some (suc f) w n is h = omega arith

module _ (at : Position) (cs : List Channel) (xss : List (List Item)) (h : Holds at cs xss) (all : all_have is_start xss ≡ true) (s : AllServed (lines cs)) where
  over_with : (caps : Description One) → lowest_caps xss ≡ Some caps → EachOver cs
  over_with caps low = go (next_cut None (lines cs)) refl
    where
      is_open : opened xss ≡ Some (mono_of caps)
      is_open = rw (all, low) refl

      next_is : at.next ≡ limit (mono_of caps) xss
      next_is = h.placed.next_is ∙ ap (λ m. limit_in m xss) is_open

      open_at : IsOpenAt (option_map mono_by at.open) at xss
      open_at =
          subst (λ (q : Option Mono). IsOpenAt q at xss) (sym (h.placed.open_is ∙ is_open))
          (is_open, omega (arith, next_is), h.placed.reached_is ∙ ap (λ m. time_in m at.next) is_open)

      heard : lowest_heard cs ≡ Some (mono_of caps)
      heard = heard_is None cs xss h.each.counts h.each.agrees (begun_of_started cs xss h.each.counts all) ∙ ap (option_map mono_of) low

      ready : Ready (mono_of caps) at.next at.reached (lines cs) xss
      ready = ready_first (mono_of caps) at cs heard xss (record { each = h.each; waits = h.waits; open_at = open_at }) all

      go : (o : Option ℕ) → next_cut None (lines cs) ≡ o → EachOver cs
      go None e = over_by_cut cs s e
      go (Some n) e =
          let next : Step (mono_of caps) at.next at.reached n (lines cs) xss = step (mono_of caps) at.next at.reached n (lines cs) xss ready e in
          let some = frames_some (n / width (mono_of caps)) (width (mono_of caps)) n next.whole next.some in
          let within = next.ready.within in
          absurd (omega (arith, next_is, some, within))

  all_closed : EachOver cs
  all_closed = go (lowest_caps xss) refl
    where
      go : (o : Option (Description One)) → lowest_caps xss ≡ o → EachOver cs
      go None low = over_without at.next cs xss low h.each.counts h.waits s
      go (Some caps) low = over_with caps low

none_wanted : (element : Mix) (took : List (List Call)) (put : List Item) → Mixes element took put → wanted element ≡ None → AllEnded took
none_wanted element took put h e = go (lowest is_short 0 element.channels.items) refl e
  where
    go : (o : Option ℕ) → lowest is_short 0 element.channels.items ≡ o → else_lowest o element.channels.items ≡ None → AllEnded took
    go (Some pad) short e = absurd (cc)
    go None short e =
        let ds = element.channels.items in
        let yss = reopenings (section_of took) took in
        let all : all_have is_start yss ≡ true = sym (all_started_is ds yss h.holds.each.counts) ∙ all_begun ds (none_of is_unstarted 0 ds e) in
        ended_of ds took h.remembers.each
        (all_closed element.at ds yss h.holds all (served ds h.holds.each.settled_is (none_of is_short 0 ds short)))

-- a pad that is wanted is there
lowest_within : (test : Channel → Bool) (k pad : ℕ) (cs : List Channel) → lowest test k cs ≡ Some pad → pad < k + length cs
lowest_within test k pad [] e = absurd (cc)
lowest_within test k pad (c ∷ cs) e = go (test c) e (lowest_within test (suc k) pad cs)
  where
    go : (b : Bool) → (if b then Some k else lowest test (suc k) cs) ≡ Some pad → (lowest test (suc k) cs ≡ Some pad → pad < suc k + length cs) → pad < k + suc (length cs)
    go true e rest = let same = some_is k pad e in omega (arith, same)
    go false e rest = let later = rest e in omega (arith, later)

wanted_within : (element : Mix) (pad : ℕ) → wanted element ≡ Some pad → pad < sink_pads element
wanted_within element pad e = go (lowest is_short 0 element.channels.items) refl e
  where
    go : (o : Option ℕ) → lowest is_short 0 element.channels.items ≡ o → else_lowest o element.channels.items ≡ Some pad → pad < length element.channels.items
    go (Some low) short e = let in_row = lowest_within is_short 0 pad element.channels.items (short ∙ e) in omega (arith, in_row)
    go None short e = let in_row = lowest_within is_unstarted 0 pad element.channels.items e in omega (arith, in_row)

know_length : (cs : List Channel) (took : List (List Call)) → KnowEach cs took → length took ≡ length cs
know_length [] [] ks = refl
know_length [] (calls ∷ took) ks = absurd ks
know_length (c ∷ cs) [] ks = absurd ks
know_length (c ∷ cs) (calls ∷ took) ks = ap suc (know_length cs took ks.1)

pub wants_open_pads : WantsOpenPads
wants_open_pads = record {
  pads = λ element took put h. know_length element.channels.items took h.remembers.each;
  within = wanted_within;
  order = λ element took put pad h e. order_kept element pad e took put h;
  none = λ element took put h e. at_place took (none_wanted element took put h e);
}
