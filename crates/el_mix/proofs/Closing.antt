-- Where EOS came on each sink pad, it is owed.
use Rattle.std.proofs.Common.{◌≡◌, ◌<◌, ℕ, zero, suc, Bool, true, false, if◌then◌else◌, List, [], ◌∷◌, ◌++◌, length, Option, Some, None, refl, sym, ap, ◌∙◌, arith}
use Rattle.std.proofs.lemmas.List.{length-map}
use Rattle.gst_value.specs.Description.{Description}
use Rattle.gst_value.specs.declared.one.One.{One}
use Rattle.flow_model.specs.Item.{Item, is_segment, is_eos}
use Rattle.flow_model.specs.Call.{Call, items}
use Rattle.flow_model.specs.Feeding.{has_eos}
use Rattle.flow_model.specs.SinkPads.{calls_at}
use Rattle.el_mix.specs.declared.channel.Channel.{Channel}
use Rattle.el_mix.specs.Mono.{mono_of}
use Rattle.el_mix.specs.Mixed.{has, mixed, limit}
use Rattle.el_mix.specs.Agreed.{lowest_caps}
use Rattle.el_mix.specs.Reopened.{reopened, reopenings}
use Rattle.el_mix.specs.Mixes.{is_start, all_have, eos_if, started, interleaved}
use Rattle.el_mix.specs.Standing.{Counts, CountEach, Each}
use Rattle.el_mix.specs.Relation.{Knows, KnowEach, section_of}
use Rattle.el_mix.specs.Handing.{HandsEosOn}
use Rattle.el_mix.proofs.Owed.{whole_owed}

-- EOS came on each sink pad, one after the other
abbrev pub AllEnded : List (List Call) → Type 0
AllEnded [] = Unit {0}
AllEnded (calls ∷ took) = (has_eos calls ≡ true) × AllEnded took

by_place : (took : List (List Call)) → ((pad : ℕ) → pad < length took → has_eos (calls_at pad took) ≡ true) → AllEnded took
by_place [] h = tt
by_place (calls ∷ took) h = (h 0 (omega arith), by_place took (λ pad within. h (suc pad) (omega (arith, within))))

pub at_place : (took : List (List Call)) → AllEnded took → (pad : ℕ) → pad < length took → has_eos (calls_at pad took) ≡ true
at_place [] h pad within = absurd (omega (arith, within))
at_place (calls ∷ took) h zero within = h.0
at_place (calls ∷ took) h (suc pad) within = at_place took h.1 pad (omega (arith, within))

-- so each channel ended, and each list of the open section has EOS
abbrev pub EachOver : List Channel → Type 0
EachOver [] = Unit {0}
EachOver (c ∷ cs) = (c.progress.ended ≡ true) × EachOver cs

over_of : (cs : List Channel) (took : List (List Call)) → KnowEach cs took → AllEnded took → EachOver cs
over_of [] took ks h = tt
over_of (c ∷ cs) [] ks h = absurd ks
over_of (c ∷ cs) (calls ∷ took) ks h = let k : Knows c calls = ks.0 in (sym k.eos ∙ h.0, over_of cs took ks.1 h.1)

pub ended_of : (cs : List Channel) (took : List (List Call)) → KnowEach cs took → EachOver cs → AllEnded took
ended_of cs [] ks h = tt
ended_of [] (calls ∷ took) ks h = absurd ks
ended_of (c ∷ cs) (calls ∷ took) ks h = let k : Knows c calls = ks.0 in (k.eos ∙ h.0, ended_of cs took ks.1 h.1)

all_over : (cs : List Channel) (xss : List (List Item)) → CountEach cs xss → EachOver cs → all_have is_eos xss ≡ true
all_over cs [] ks h = refl
all_over [] (xs ∷ xss) ks h = absurd ks
all_over (c ∷ cs) (xs ∷ xss) ks h =
    let k : Counts c xs = ks.0 in ap (λ (b : Bool). if b then all_have is_eos xss else false) (sym k.ended ∙ h.0) ∙ all_over cs xss ks.1 h.1

pub start_of : (xs : List Item) → has is_eos xs ≡ true → has is_start xs ≡ true
start_of [] h = absurd (cc)
start_of (x ∷ xs) h = go (is_segment x) (is_eos x) h (start_of xs)
  where
    go : (s e : Bool) → (if e then true else has is_eos xs) ≡ true → (has is_eos xs ≡ true → has is_start xs ≡ true)
        → (if (if s then true else e) then true else has is_start xs) ≡ true
    go true e h rest = refl
    go false true h rest = refl
    go false false h rest = rest h

all_start : (xss : List (List Item)) → all_have is_eos xss ≡ true → all_have is_start xss ≡ true
all_start [] h = refl
all_start (xs ∷ xss) h = go (has is_eos xs) refl h (all_start xss)
  where
    go : (b : Bool) → has is_eos xs ≡ b → (if b then all_have is_eos xss else false) ≡ true → (all_have is_eos xss ≡ true → all_have is_start xss ≡ true)
        → (if has is_start xs then all_have is_start xss else false) ≡ true
    go true e h rest = rw (start_of xs e) (rest h)
    go false e h rest = absurd (cc)

-- and EOS is owed behind all else
has_last : (test : Item → Bool) (xs ys : List Item) → has test ys ≡ true → has test (xs ++ ys) ≡ true
has_last test [] ys h = h
has_last test (x ∷ xs) ys h = go (test x) (has_last test xs ys h)
  where
    go : (b : Bool) → has test (xs ++ ys) ≡ true → (if b then true else has test (xs ++ ys)) ≡ true
    go true rest = refl
    go false rest = rest

started_over : (o : Option (Description One)) (xss : List (List Item)) → all_have is_eos xss ≡ true → has is_eos (started o xss) ≡ true
started_over None xss h = rw h refl
started_over (Some caps) xss h =
    has_last is_eos (mixed (mono_of caps) xss 0 0 (limit (mono_of caps) xss)) (eos_if (all_have is_eos xss)) (rw h refl)

over_owed : (cs : List Channel) (xss : List (List Item)) → Each cs xss → 0 < length xss → EachOver cs → has is_eos (interleaved xss) ≡ true
over_owed cs xss each some over =
    let all = all_over cs xss each.counts over in
    ap (has is_eos) (whole_owed cs xss each some (all_start xss all)) ∙ started_over (lowest_caps xss) xss all

pub hands_eos_on : HandsEosOn
hands_eos_on element took put h some ended port =
    let n = section_of took in
    let xss = reopenings n took in
    let many : length xss ≡ length took = length-map took (λ calls. reopened n (items calls)) in
    over_owed element.channels.items xss h.holds.each (omega (arith, some, many)) (over_of element.channels.items took h.remembers.each (by_place took ended))
