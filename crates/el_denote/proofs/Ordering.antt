-- A sink pad may be fed where each lower one has CAPS or had EOS, and stays so.
use Rattle.std.proofs.Common.{◌≡◌, ℕ, zero, suc, Bool, true, false, if◌then◌else◌, List, [], ◌∷◌, ◌++◌, replicate, Option, Some, refl, sym, ap, ◌∙◌, subst}
use Rattle.gst_item.specs.declared.out.Out.{Out}
use Rattle.flow_model.specs.Item.{Item, Ev, FlushStop, Eos}
use Rattle.flow_model.specs.Call.{Call, Feed, items}
use Rattle.flow_model.specs.Feeding.{has_eos}
use Rattle.flow_model.specs.SinkPads.{push_calls, push_each}
use Rattle.flow_model.proofs.Calls.{eos_taken, eos_stays}
use Rattle.el_join.specs.declared.concat.Concat.{Concat as ConcatElement}
use Rattle.el_join.specs.Joins.{Joins, Remembers as JoinRemembers}
use Rattle.el_mix.specs.declared.channel.Channel.{Channel}
use Rattle.el_mix.specs.declared.mix.Mix.{Mix as MixElement}
use Rattle.el_mix.specs.Agreed.{is_there, pad_caps}
use Rattle.el_mix.specs.Reopened.{reopened, reopenings}
use Rattle.el_mix.specs.Taking.{hears}
use Rattle.el_mix.specs.Standing.{CountEach, known, lower_known}
use Rattle.el_mix.specs.Relation.{KnowEach, Mixes, Remembers as MixRemembers, section_of}
use Rattle.el_set.specs.declared.join.JoinElement.{JoinElement}
use Rattle.el_set.specs.declared.join.JoinElement.TheVariants.{Concat, Mix}
use Rattle.el_set.specs.Joins.{JoinPuts, may_take}
use Rattle.el_settings.specs.declared.settings.Settings.{Settings}
use Rattle.el_set.specs.Made.{MadeJoin, IsJoinFor}
use Rattle.el_settings.specs.Asked.{sink_pads}
use Rattle.el_denote.specs.Running.{IsFed}
use Rattle.el_denote.proofs.Going.{mix_apart}

-- by what the pads were given
abbrev pub known_of : ℕ → List Call → Bool
known_of n calls = if has_eos calls then true else is_there (pad_caps (reopened n (items calls)))

abbrev pub lower_of : ℕ → ℕ → List (List Call) → Bool
lower_of pad n [] = true
lower_of zero n (calls ∷ took) = true
lower_of (suc pad) n (calls ∷ took) = if known_of n calls then lower_of pad n took else false

lower_is : (pad n : ℕ) (cs : List Channel) (took : List (List Call)) → KnowEach cs took → CountEach cs (reopenings n took) → lower_known pad cs ≡ lower_of pad n took
lower_is pad n [] [] k w = refl
lower_is pad n [] (calls ∷ took) k w = absurd k
lower_is pad n (c ∷ cs) [] k w = absurd k
lower_is zero n (c ∷ cs) (calls ∷ took) k w = refl
lower_is (suc pad) n (c ∷ cs) (calls ∷ took) k w =
    let same : known c ≡ known_of n calls =
    ap (λ (b : Bool). if b then true else is_there (hears c)) (sym k.0.eos) ∙ ap (λ o. if has_eos calls then true else is_there o) w.0.caps in
    ap (λ (b : Bool). if b then lower_known pad cs else false) same ∙ ap (λ (b : Bool). if known_of n calls then b else false) (lower_is pad n cs took k.1 w.1)

lower_first : (n : ℕ) (took : List (List Call)) → lower_of zero n took ≡ true
lower_first n [] = refl
lower_first n (calls ∷ took) = refl

pub first_known : (cs : List Channel) → lower_known zero cs ≡ true
first_known [] = refl
first_known (c ∷ cs) = refl

lower_pushed : (pad n : ℕ) (more : List Call) (took : List (List Call)) → lower_of pad n (push_calls pad more took) ≡ lower_of pad n took
lower_pushed pad n more [] = refl
lower_pushed zero n more (calls ∷ took) = refl
lower_pushed (suc pad) n more (calls ∷ took) = ap (λ (b : Bool). if known_of n calls then b else false) (lower_pushed pad n more took)

-- a pad that had EOS is known
ended_known : (n : ℕ) (calls : List Call) → known_of n (calls ++ Feed (Ev Eos) ∷ []) ≡ true
ended_known n calls = ap (λ (b : Bool). if b then true else is_there (pad_caps (reopened n (items (calls ++ Feed (Ev Eos) ∷ []))))) (go (has_eos calls) refl)
  where
    go : (b : Bool) → has_eos calls ≡ b → has_eos (calls ++ Feed (Ev Eos) ∷ []) ≡ true
    go true e = eos_stays calls (Ev Eos) refl e
    go false e = eos_taken calls (Ev Eos) refl e

lower_closed : (pad n : ℕ) (took : List (List Call)) → lower_of pad n took ≡ true → lower_of (suc pad) n (push_calls pad (Feed (Ev Eos) ∷ []) took) ≡ true
lower_closed pad n [] below = refl
lower_closed zero n (calls ∷ took) below = ap (λ (b : Bool). if b then lower_of zero n took else false) (ended_known n calls) ∙ lower_first n took
lower_closed (suc pad) n (calls ∷ took) below = go (known_of n calls) below (lower_closed pad n took)
  where
    go : (b : Bool) → (if b then lower_of pad n took else false) ≡ true → (lower_of pad n took ≡ true → lower_of (suc pad) n (push_calls pad (Feed (Ev Eos) ∷ []) took) ≡ true)
        → (if b then lower_of (suc pad) n (push_calls pad (Feed (Ev Eos) ∷ []) took) else false) ≡ true
    go true e rest = rest e
    go false e rest = absurd (cc)

mix_stays : (old new : MixElement) (pad : ℕ) (x : Item) (took : List (List Call)) (put put' : List Item) → Mixes old took put → Mixes new (push_calls pad (Feed x ∷ []) took) put'
    → lower_known pad old.channels.items ≡ true → lower_known pad new.channels.items ≡ true
mix_stays old new zero x took put put' before behind below = first_known new.channels.items
mix_stays old new (suc pad) x [] put put' before behind below = lower_is (suc pad) 0 new.channels.items [] behind.remembers.each behind.holds.each.counts
mix_stays old new (suc pad) x (calls ∷ took) put put' before behind below =
    let n = section_of (calls ∷ took) in
    lower_is (suc pad) n new.channels.items (push_calls (suc pad) (Feed x ∷ []) (calls ∷ took)) behind.remembers.each behind.holds.each.counts
    ∙ lower_pushed (suc pad) n (Feed x ∷ []) (calls ∷ took) ∙ sym (lower_is (suc pad) n old.channels.items (calls ∷ took) before.remembers.each before.holds.each.counts) ∙ below

mix_closed : (old new : MixElement) (pad : ℕ) (took : List (List Call)) (put put' : List Item) → Mixes old took put → Mixes new (push_calls pad (Feed (Ev Eos) ∷ []) took) put'
    → lower_known pad old.channels.items ≡ true → lower_known (suc pad) new.channels.items ≡ true
mix_closed old new zero took put put' before behind below =
    let n = section_of (push_calls zero (Feed (Ev Eos) ∷ []) took) in
    lower_is (suc zero) n new.channels.items (push_calls zero (Feed (Ev Eos) ∷ []) took) behind.remembers.each behind.holds.each.counts ∙ lower_closed zero n took (lower_first n took)
mix_closed old new (suc pad) [] put put' before behind below = lower_is (suc (suc pad)) 0 new.channels.items [] behind.remembers.each behind.holds.each.counts
mix_closed old new (suc pad) (calls ∷ took) put put' before behind below =
    let n = section_of (calls ∷ took) in
    lower_is (suc (suc pad)) n new.channels.items (push_calls (suc pad) (Feed (Ev Eos) ∷ []) (calls ∷ took)) behind.remembers.each behind.holds.each.counts
    ∙ lower_closed (suc pad) n (calls ∷ took) (sym (lower_is (suc pad) n old.channels.items (calls ∷ took) before.remembers.each before.holds.each.counts) ∙ below)

pub stays_fed : (old new : JoinElement) (pad : ℕ) (x copy : Item) (out out' : List Out) → copy ≡ x → JoinPuts old new pad copy out out' → IsFed old → IsFed new
stays_fed old new pad x copy out out' same puts fed = (push_calls pad (Feed copy ∷ []) fed.0, fed.1 ++ puts.more, puts.stands fed.0 fed.1 fed.2)

pub stays_ordered : (old new : JoinElement) (pad : ℕ) (x : Item) (out out' : List Out) → JoinPuts old new pad x out out' → IsFed old → may_take pad old ≡ true → may_take pad new ≡ true
stays_ordered (Concat a) (Concat b) pad x out out' puts fed below = refl
stays_ordered (Mix a) (Mix b) pad x out out' puts fed below =
    mix_stays a b pad x fed.0 fed.1 (fed.1 ++ puts.more) fed.2 (puts.stands fed.0 fed.1 fed.2) below
stays_ordered (Concat a) (Mix b) pad x out out' puts fed below = absurd (mix_apart puts.rule)
stays_ordered (Mix a) (Concat b) pad x out out' puts fed below = refl

pub closed_ordered : (old new : JoinElement) (pad : ℕ) (out out' : List Out) → JoinPuts old new pad (Ev Eos) out out' → IsFed old → may_take pad old ≡ true → may_take (suc pad) new ≡ true
closed_ordered (Concat a) (Concat b) pad out out' puts fed below = refl
closed_ordered (Mix a) (Mix b) pad out out' puts fed below =
    mix_closed a b pad fed.0 fed.1 (fed.1 ++ puts.more) fed.2 (puts.stands fed.0 fed.1 fed.2) below
closed_ordered (Concat a) (Mix b) pad out out' puts fed below = absurd (mix_apart puts.rule)
closed_ordered (Mix a) (Concat b) pad out out' puts fed below = refl

pub first_ordered : (join : JoinElement) → may_take 0 join ≡ true
first_ordered (Concat a) = refl
first_ordered (Mix a) = first_known a.channels.items

-- behind a flush
pub concat_fed : (join : JoinElement) (a b : ConcatElement) → join ≡ Concat a
    → ((took : List (List Call)) (number : ℕ) → JoinRemembers a took → Joins b (push_each (Feed (Ev (FlushStop number)) ∷ []) took) []) → IsFed join → IsFed (Concat b)
concat_fed join a b is flushed fed =
    let f : IsFed (Concat a) = subst IsFed is fed in
    (push_each (Feed (Ev (FlushStop 0)) ∷ []) f.0, [], flushed f.0 0 f.2.remembers)

pub mix_fed : (join : JoinElement) (a b : MixElement) → join ≡ Mix a
    → ((took : List (List Call)) (number : ℕ) → MixRemembers a took → Mixes b (push_each (Feed (Ev (FlushStop number)) ∷ []) took) []) → IsFed join → IsFed (Mix b)
mix_fed join a b is flushed fed =
    let f : IsFed (Mix a) = subst IsFed is fed in
    (push_each (Feed (Ev (FlushStop 0)) ∷ []) f.0, [], flushed f.0 0 f.2.remembers)

pub first_fed : (settings : Settings) (join : JoinElement) → MadeJoin settings join → IsFed join
first_fed settings join made = (replicate (sink_pads settings) [], [], made.stands)

pub made_is : (settings : Settings) (made : Option JoinElement) (join : JoinElement) → IsJoinFor settings made → made ≡ Some join → MadeJoin settings join
made_is settings made join m is = subst (IsJoinFor settings) is m
