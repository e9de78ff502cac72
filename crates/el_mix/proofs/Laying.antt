-- An item behind EOS, an event that is laid, a flush, and the beginning.
use Rattle.std.proofs.Common.{◌≡◌, ◌<◌, ℕ, zero, suc, Bool, true, false, if◌then◌else◌, List, [], ◌∷◌, Some, Result, Ok, length, map, set, replicate, refl, sym, ap, ◌∙◌, subst, inr, append-nil, arith}
use Rattle.std.specs.Prelude.{slice_get}
use Rattle.std.proofs.lemmas.Option.{same_Some as some_is}
use Rattle.gst_item.specs.declared.out.Out.{Out}
use Rattle.gst_item.specs.declared.flow.Flow.TheVariants.{Ok as Taken, Eos as BehindEos}
use Rattle.flow_model.specs.Item.{Item, Event, Ev, FlushStop, is_flush_stop}
use Rattle.flow_model.specs.Call.{Call, Feed}
use Rattle.flow_model.specs.Rule.{Fault}
use Rattle.flow_model.specs.Feeding.{has_eos, flow_behind}
use Rattle.flow_model.specs.SinkPads.{push_calls, calls_at, flush_stops_given, InSection, push_each}
use Rattle.el_mix.specs.declared.channel.Channel.{Channel}
use Rattle.el_mix.specs.declared.mix.Mix.{Mix}
use Rattle.el_mix.specs.Reopened.{reopenings}
use Rattle.el_mix.specs.Mixes.{interleaved, mixes}
use Rattle.el_mix.specs.Answer.{reached, answer_in}
use Rattle.el_mix.specs.Positions.{Begins}
use Rattle.el_mix.specs.Taking.{Lays, flushed, new_channel}
use Rattle.el_mix.specs.Standing.{CountEach, WaitEach, lower_known, Holds}
use Rattle.el_mix.specs.Relation.{KnowEach, section_of, Remembers, Mixes, MixPuts}
use Rattle.el_mix.proofs.Answering.{behind_same}
use Rattle.el_mix.proofs.Owing.{not_started}
use Rattle.el_mix.proofs.Opening.{next_in}
use Rattle.el_mix.proofs.Ordering.{keeps_order, flush_ends, AllFresh, fresh_in_order}
use Rattle.el_mix.proofs.Knowing.{knows_laid, plain_of, know_push, know_at, know_flushed, know_new, knows_kept, flow_of}
use Rattle.el_mix.proofs.Fresh.{all_flushed_hold, flushed_hold, new_flushed, new_hold}
use Rattle.el_mix.proofs.Answered.{section_is, still_level, below_known}
use Rattle.flow_model.proofs.Items.{none_in as new_level}
use Rattle.flow_model.specs.Inherited.{is_inherited}

-- behind EOS
abbrev done : List Item → Result (List Item) Fault
done ys = Ok ys

know_behind : (i : ℕ) (x : Item) (cs : List Channel) (took : List (List Call)) (c : Channel) → slice_get cs i ≡ Some c → is_flush_stop x ≡ false → c.progress.ended ≡ true
    → KnowEach cs took → KnowEach cs (push_calls i (Feed x ∷ []) took)
know_behind i x [] took c at plain over k = absurd (cc)
know_behind i x (b ∷ cs) [] c at plain over k = absurd k
know_behind zero x (b ∷ cs) (calls ∷ took) c at plain over k = (knows_kept b calls x plain (ap (λ (z : Channel). z.progress.ended) (some_is b c at) ∙ over) k.0, k.1)
know_behind (suc i) x (b ∷ cs) (calls ∷ took) c at plain over k = (k.0, know_behind i x cs took c at plain over k.1)

pub puts_behind : (m : Mix) (pad : ℕ) (x : Item) (out : List Out) (c : Channel) → slice_get m.channels.items pad ≡ Some c → c.progress.ended ≡ true → is_flush_stop x ≡ false
    → lower_known pad m.channels.items ≡ true → MixPuts m m pad x out out
puts_behind m pad x out c here over plain low = record {
  more = [];
  outs = sym (append-nil out);
  free = refl;
  owed = λ took put h. ap (λ (b : Bool). if b then done [] else answer_in (flush_stops_given (calls_at pad took)) took (push_calls pad (Feed x ∷ []) took) pad) (ended took put h);
  stands = λ took put h.
      let n = section_of took in
      let same : reopenings n (push_calls pad (Feed x ∷ []) took) ≡ reopenings n took = behind_same n pad took x h.remembers.level plain (ended took put h) in
      let level : section_of (push_calls pad (Feed x ∷ []) took) ≡ n = section_is n pad x took h.remembers.level plain refl in
      record {
        remembers = record { each = know_behind pad x m.channels.items took c here plain over h.remembers.each; level = still_level pad x took plain h.remembers.level };
        fed = keeps_order.fed took pad n x h.remembers.level plain (below_known pad m.channels.items (reopenings n took) h.holds.each.counts low) h.fed;
        holds = subst (λ k. Holds m.at m.channels.items (reopenings k (push_calls pad (Feed x ∷ []) took))) (sym level) (subst (λ zss. Holds m.at m.channels.items zss) (sym same) h.holds);
        owed = ap (λ k. mixes (push_calls pad (Feed x ∷ []) took) 0 k) level ∙ ap interleaved same ∙ h.owed ∙ sym (append-nil put);
        ends = ap reached (append-nil put) ∙ h.ends;
      };
}
  where
    ended : (took : List (List Call)) (put : List Item) → Mixes m took put → has_eos (calls_at pad took) ≡ true
    ended took put h = (know_at pad m.channels.items took c here h.remembers.each).eos ∙ over

-- the answer
pub flow_is : (m : Mix) (pad : ℕ) (c : Channel) (b : Bool) → slice_get m.channels.items pad ≡ Some c → c.progress.ended ≡ b → (took : List (List Call)) (put : List Item) → Mixes m took put
    → (if b then BehindEos else Taken) ≡ flow_behind (calls_at pad took)
flow_is m pad c b here is took put h = sym (flow_of (calls_at pad took) b ((know_at pad m.channels.items took c here h.remembers.each).eos ∙ is))

-- an event that is laid
pub laid : (old new : Mix) (pad : ℕ) (e : Event) (c d : Channel) → slice_get old.channels.items pad ≡ Some c → is_inherited e ≡ true → Lays c e d → new.channels.items ≡ set old.channels.items pad d
    → (took : List (List Call)) → Remembers old took → Remembers new (push_calls pad (Feed (Ev e) ∷ []) took)
laid old new pad e c d here inh l is took r = record {
  each = subst (λ cs. KnowEach cs (push_calls pad (Feed (Ev e) ∷ []) took)) (sym is)
      (know_push pad (Feed (Ev e) ∷ []) old.channels.items took c d here (λ k. knows_laid c d (calls_at pad took) e inh l k) r.each);
  level = still_level pad (Ev e) took (plain_of e inh) r.level;
}

-- a flush
flushed_section : (number : ℕ) (took : List (List Call)) → InSection (section_of took) took → 0 < length took → section_of (push_each (Feed (Ev (FlushStop number)) ∷ []) took) ≡ suc (section_of took)
flushed_section number [] s some = absurd (omega (arith, some))
flushed_section number (calls ∷ took) s some = (next_in (section_of (calls ∷ took)) number (calls ∷ took) s).0

no_channels : (cs : List Channel) → KnowEach cs [] → cs ≡ []
no_channels [] k = refl
no_channels (c ∷ cs) k = absurd k

pub mix_flushed : (old new : Mix) → new.channels.items ≡ map flushed old.channels.items → Begins new.at → (took : List (List Call)) (number : ℕ) → Remembers old took
    → Mixes new (push_each (Feed (Ev (FlushStop number)) ∷ []) took) []
mix_flushed old new is b took number r = go took refl
  where
    each : KnowEach new.channels.items (push_each (Feed (Ev (FlushStop number)) ∷ []) took)
    each = subst (λ cs. KnowEach cs (push_each (Feed (Ev (FlushStop number)) ∷ []) took)) (sym is) (know_flushed number old.channels.items took r.each)

    hold : (zss : List (List Item)) → CountEach (map flushed old.channels.items) zss × WaitEach 0 (map flushed old.channels.items) zss → Holds new.at new.channels.items zss
    hold zss both = subst (λ cs. Holds new.at cs zss) (sym is) (flushed_hold new.at old.channels.items zss b both.0 both.1)

    go : (css : List (List Call)) → took ≡ css → Mixes new (push_each (Feed (Ev (FlushStop number)) ∷ []) took) []
    go [] e =
        let none : push_each (Feed (Ev (FlushStop number)) ∷ []) took ≡ [] = ap (push_each (Feed (Ev (FlushStop number)) ∷ [])) e in
        let channels : old.channels.items ≡ [] = no_channels old.channels.items (subst (λ z. KnowEach old.channels.items z) e r.each) in
        subst (λ z. Mixes new z []) (sym none) (record {
          remembers = record { each = subst (λ z. KnowEach new.channels.items z) none each; level = tt };
          fed = λ j. inr tt;
          holds = hold [] (subst (λ cs. CountEach (map flushed cs) [] × WaitEach 0 (map flushed cs) []) (sym channels) (tt, tt));
          owed = refl;
          ends = sym b.reached_is;
        })
    go (calls ∷ css) e =
        let some : 0 < length took = subst (λ z. 0 < length z) (sym e) (omega arith) in
        let next : section_of (push_each (Feed (Ev (FlushStop number)) ∷ []) took) ≡ suc (section_of took) = flushed_section number took r.level some in
        record {
          remembers = record {
            each = each;
            level = subst (λ n. InSection n (push_each (Feed (Ev (FlushStop number)) ∷ []) took)) (sym next) (next_in (section_of took) number took r.level);
          };
          fed = keeps_order.flushed took (section_of took) number r.level;
          holds = subst (λ n. Holds new.at new.channels.items (reopenings n (push_each (Feed (Ev (FlushStop number)) ∷ []) took))) (sym next)
              (hold (reopenings (suc (section_of took)) (push_each (Feed (Ev (FlushStop number)) ∷ []) took))
              (all_flushed_hold (section_of took) number old.channels.items took r.level (know_flushed number old.channels.items took r.each)));
          owed = ap (λ n. mixes (push_each (Feed (Ev (FlushStop number)) ∷ []) took) 0 n) next ∙ flush_ends.nothing took (section_of took) number 0 r.level;
          ends = sym b.reached_is;
        }

-- the beginning
new_fresh : (n j : ℕ) → AllFresh j (replicate n [])
new_fresh zero j = tt
new_fresh (suc n) zero = (refl, new_fresh n zero)
new_fresh (suc n) (suc j) = (refl, new_fresh n (suc j))

new_section : (n : ℕ) → section_of (replicate n []) ≡ 0
new_section zero = refl
new_section (suc n) = refl

new_owed : (n : ℕ) → mixes (replicate n []) 0 0 ≡ []
new_owed zero = refl
new_owed (suc n) = not_started (reopenings 0 (replicate (suc n) [])) refl

pub mix_new : (made : Mix) (n : ℕ) → made.channels.items ≡ replicate n new_channel → Begins made.at → Mixes made (replicate n []) []
mix_new made n is b =
    let flush = new_flushed n in
    let both = new_hold n in
    record {
      remembers = record {
        each = subst (λ cs. KnowEach cs (replicate n [])) (sym is) (know_new n);
        level = subst (λ k. InSection k (replicate n [])) (sym (new_section n)) (new_level n);
      };
      fed = λ j. inr (fresh_in_order j (replicate n []) (new_fresh n j));
      holds = subst (λ k. Holds made.at made.channels.items (reopenings k (replicate n []))) (sym (new_section n))
          (subst (λ cs. Holds made.at cs (reopenings 0 (replicate n []))) (flush ∙ sym is) (flushed_hold made.at (replicate n new_channel) (reopenings 0 (replicate n [])) b both.0 both.1));
      owed = ap (λ k. mixes (replicate n []) 0 k) (new_section n) ∙ new_owed n;
      ends = sym b.reached_is;
    }
