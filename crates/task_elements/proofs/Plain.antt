-- A rule that owes EOS for EOS, and neither EOS nor FLUSH_STOP in front of it, owes nothing behind an EOS in any section.
use Rattle.std.proofs.Common.{◌≡◌, ℕ, Bool, true, false, if◌then◌else◌, List, [], ◌∷◌, ◌++◌, filter, refl, sym, ap, ◌∙◌, subst, Result, Ok, Err}
use Rattle.flow_model.specs.Item.{Item, Ev, Eos, is_flush_stop, is_eos}
use Rattle.flow_model.specs.Sticky.{has_flush_stop}
use Rattle.flow_model.specs.Section.{section, IsPlain}
use Rattle.flow_model.specs.Call.{Call, Feed, Act, Drain, Set}
use Rattle.flow_model.specs.Rule.{Response, Fault, Fed, unfed, responded, flushed, not_eos, drained, called, all_called, owed_for}
use Rattle.el_set.proofs.Ending.{AreInner, EndsAs, OwesEos, IsEnding, eos_of}
use Rattle.task_elements.proofs.Growing.{HasNoStop, OwesNoStop}
use Rattle.flow_model.proofs.Items.{Sound, ended, after_inner, ended_append, sound_append, sound_plain}

inner_sound : (ys : List Item) → AreInner ys → Sound false ys
inner_sound [] h = tt
inner_sound (y ∷ ys) h = ((λ e. refl), rw (after_inner y h.0 h.1) (inner_sound ys h.2))

inner_ended : (ys : List Item) → AreInner ys → ended false ys ≡ false
inner_ended [] h = refl
inner_ended (y ∷ ys) h = ap (λ (b : Bool). ended b ys) (after_inner y h.0 h.1) ∙ inner_ended ys h.2

inner_none : (xs ys : List Item) → AreInner xs → has_flush_stop ys ≡ false → has_flush_stop (xs ++ ys) ≡ false
inner_none [] ys h k = k
inner_none (x ∷ xs) ys h k = rw h.0 (inner_none xs ys h.2 k)

inner_drained : (ys : List Item) → AreInner ys → filter not_eos (ys ++ Ev Eos ∷ []) ≡ ys
inner_drained [] h = refl
inner_drained (y ∷ ys) h = go (is_eos y) h.1 (inner_drained ys h.2)
  where
    go : (e : Bool) → e ≡ false → filter not_eos (ys ++ Ev Eos ∷ []) ≡ ys
        → (if (if e then false else true) then y ∷ filter not_eos (ys ++ Ev Eos ∷ []) else filter not_eos (ys ++ Ev Eos ∷ [])) ≡ y ∷ ys
    go true e rest = absurd (cc)
    go false e rest = ap (λ zs. y ∷ zs) rest

last_sound : (x : Item) → Sound false (eos_of x)
last_sound x = go (is_eos x)
  where
    go : (e : Bool) → Sound false (if e then x ∷ [] else [])
    go true = ((λ e. refl), tt)
    go false = tt

last_none : (x : Item) → is_flush_stop x ≡ false → has_flush_stop (eos_of x) ≡ false
last_none x h = go (is_eos x)
  where
    go : (e : Bool) → has_flush_stop (if e then x ∷ [] else []) ≡ false
    go true = rw h refl
    go false = refl

last_ended : (x : Item) → is_eos x ≡ false → ended false (eos_of x) ≡ false
last_ended x e = rw e refl

owed_sound : (x : Item) (ys : List Item) → EndsAs x ys → Sound false ys
owed_sound x ys h = rw h.all (sound_append false h.inner (eos_of x) (inner_sound h.inner h.quiet) (rw (inner_ended h.inner h.quiet) (last_sound x)))

owed_ended : (x : Item) (ys : List Item) → EndsAs x ys → is_eos x ≡ false → ended false ys ≡ false
owed_ended x ys h e =
    ap (ended false) h.all ∙ ended_append false h.inner (eos_of x) ∙ ap (λ (b : Bool). ended b (eos_of x)) (inner_ended h.inner h.quiet) ∙ last_ended x e

-- so no FLUSH_STOP is owed
pub ending_quiet : (respond : Response) → IsEnding respond → OwesNoStop respond
ending_quiet respond ending fed x h = go (respond fed x) (ending fed x h)
  where
    go : (r : Result (List Item) Fault) → OwesEos x r → HasNoStop r
    go (Ok ys) e = ap has_flush_stop e.all ∙ inner_none e.inner (eos_of x) e.quiet (last_none x h)
    go (Err fault) e = tt

-- what is owed so far is sound, and no EOS ended the last section where it is not over
record Sane (s : Fed) : Type 0 where
  sound : Sound false s.out
  begun : s.over ≡ false → ended false s.out ≡ false

sane_flush : (s : Fed) (x : Item) → Sane s → is_flush_stop x ≡ true → Sane (flushed s x)
sane_flush s x h f =
    record {
      sound = sound_append false s.out (x ∷ []) h.sound ((λ e. absurd (cc)), tt);
      begun = λ b. ended_append false s.out (x ∷ []) ∙ rw f refl;
    }

sane_answer : (s : Fed) (x : Item) (r : Result (List Item) Fault) → Sane s → s.over ≡ false → OwesEos x r → Sane (responded s x r)
sane_answer s x (Ok ys) h b owes =
    record {
      sound = sound_append false s.out ys h.sound (rw (h.begun b) (owed_sound x ys owes));
      begun = λ e. ended_append false s.out ys ∙ ap (λ (b : Bool). ended b ys) (h.begun b) ∙ owed_ended x ys owes e;
    }
sane_answer s x (Err fault) h b owes = record { sound = h.sound; begun = λ e. absurd (cc) }

sane_drain : (s : Fed) (r : Result (List Item) Fault) → Sane s → s.over ≡ false → OwesEos (Ev Eos) r → Sane (drained s r)
sane_drain s (Ok ys) h b owes =
    let put : filter not_eos ys ≡ owes.inner = ap (filter not_eos) owes.all ∙ inner_drained owes.inner owes.quiet in
    record {
      sound = subst (λ (zs : List Item). Sound false (s.out ++ zs)) (sym put) (sound_append false s.out owes.inner h.sound (rw (h.begun b) (inner_sound owes.inner owes.quiet)));
      begun = λ e. ap (λ (zs : List Item). ended false (s.out ++ zs)) put ∙ ended_append false s.out owes.inner ∙ ap (λ (c : Bool). ended c owes.inner) (h.begun b)
          ∙ inner_ended owes.inner owes.quiet;
    }
sane_drain s (Err fault) h b owes = record { sound = h.sound; begun = λ e. absurd (cc) }

sane_call : (respond : Response) → IsEnding respond → (s : Fed) (c : Call) → Sane s → Sane (called respond s c)
sane_call respond ending s (Feed x) h = go (is_flush_stop x) refl s.over refl
  where
    go : (f : Bool) → is_flush_stop x ≡ f → (o : Bool) → s.over ≡ o → Sane (if f then flushed s x else (if o then s else responded s x (respond s x)))
    go true f o e = sane_flush s x h f
    go false f true e = h
    go false f false e = sane_answer s x (respond s x) h e (ending s x f)
sane_call respond ending s (Act Drain) h = go s.over refl
  where
    go : (o : Bool) → s.over ≡ o → Sane (if o then s else drained s (respond s (Ev Eos)))
    go true e = h
    go false e = sane_drain s (respond s (Ev Eos)) h e (ending s (Ev Eos) refl)
sane_call respond ending s (Act (Set setting)) h = record { sound = h.sound; begun = h.begun }

sane_all : (respond : Response) → IsEnding respond → (s : Fed) (calls : List Call) → Sane s → Sane (all_called respond s calls)
sane_all respond ending s [] h = h
sane_all respond ending s (c ∷ cs) h = sane_all respond ending (called respond s c) cs (sane_call respond ending s c h)

pub ending_plain : (respond : Response) → IsEnding respond → (calls : List Call) (j : ℕ) → IsPlain (section j (owed_for respond calls))
ending_plain respond ending calls j = sound_plain j false (owed_for respond calls) (sane_all respond ending unfed calls (record { sound = tt; begun = λ e. refl })).sound
