-- What refuses an item, part by part.
use Rattle.std.proofs.Common.{◌≡◌, ◌<◌, ℕ, ◌^◌, Bool, true, false, if◌then◌else◌, Option, Some, None, Result, IfErr, sym, ap, ◌∙◌}
use Rattle.std.specs.Prelude.{OnOk, option_and_then}
use Rattle.gst_value.specs.Description.{Description}
use Rattle.gst_value.specs.declared.one.One.{One}
use Rattle.gst_caps.specs.declared.caps.Caps.{Caps}
use Rattle.gst_caps.specs.Same.{same_caps}
use Rattle.audio_info.specs.Alone.{exactly}
use Rattle.audio_info.specs.declared.info.Info.{Info}
use Rattle.flow_model.specs.declared.fault.ElementFault.{ElementFault}
use Rattle.flow_model.specs.declared.fault.ElementFault.TheVariants.{NotNegotiated as Refused, BadStream as Broken, TooLong as Passing, OutOfMemory as Wanting}
use Rattle.flow_model.specs.Item.{Item}
use Rattle.flow_model.specs.Rule.{Fault, NotNegotiated}
use Rattle.el_mix.specs.declared.channel.Channel.{Channel}
use Rattle.el_mix.specs.Agreed.{buffer_refusal, caps_refusal}
use Rattle.el_mix.specs.Heard.{mono_by, heard}
use Rattle.el_mix.specs.Due.{IsDue, bytes_refusal}
use Rattle.el_mix.specs.Judging.{inherited_refusal, own_refusal, verdict, IsFine}
use Rattle.el_mix.specs.Taking.{hears, IsHeard}
use Rattle.el_mix.proofs.Telling.{buffer_told, caps_heard, verdict_fresh}
use Rattle.gst_value.proofs.Results.{if_err, then_ok as on_ok}

-- a fault that is due stays due
pub due_is : (o p : Option Fault) (fault : ElementFault) → p ≡ o → IsDue o fault → IsDue p fault
due_is o p (Refused offered wanted) is e = is ∙ e
due_is o p (Broken place kind) is e = is ∙ e
due_is o p (Passing a b) is e = is ∙ e
due_is o p Wanting is e = tt

-- CAPS by those of the lowest pad
pub same_first : (lowest caps : Description One) → true ≡ same_caps lowest caps → caps_refusal (Some lowest) caps ≡ caps_refusal None caps
same_first lowest caps e = ap (λ (b : Bool). if b then caps_refusal None caps else Some (NotNegotiated (Some caps) (exactly lowest))) (sym e)

pub other_refused : (lowest caps offered : Description One) (wanted : Caps) → false ≡ same_caps lowest caps → offered ≡ caps → wanted ≡ exactly lowest
    → caps_refusal (Some lowest) caps ≡ Some (NotNegotiated (Some offered) wanted)
other_refused lowest caps offered wanted e copied made =
    ap (λ (b : Bool). if b then caps_refusal None caps else Some (NotNegotiated (Some caps) (exactly lowest))) (sym e)
    ∙ ap (λ (d : Description One). Some (NotNegotiated (Some d) (exactly lowest))) (sym copied)
    ∙ ap (λ (w : Caps). Some (NotNegotiated (Some offered) w)) (sym made)

-- Where the inherited CAPS are not refused, the verdict is that on the item itself.
inherited_heard : (lowest o : Option (Description One)) → inherited_refusal lowest o ≡ None → IsHeard o
inherited_heard lowest None e = tt
inherited_heard lowest (Some caps) e = caps_heard lowest caps e

module _ {A : Type 0} (r : Result A ElementFault) (reached : ℕ) (lowest : Option (Description One)) (c : Channel) (x : Item) (fresh : c.progress.begun ≡ false)
    (free : inherited_refusal lowest (hears c) ≡ None) where
  pub fresh_ok : OnOk r (IsHeard (hears c) → c.progress.got < 2 ^ 62 → own_refusal reached lowest (hears c) c.progress.got x ≡ None)
      → OnOk r (IsFine c → verdict reached lowest c x ≡ None)
  fresh_ok h = on_ok r _ _ (λ own fine. verdict_fresh reached lowest c x fresh free ∙ own (inherited_heard lowest (hears c) free) fine.small) h

  pub fresh_fault : IfErr r (λ fault. IsHeard (hears c) → c.progress.got < 2 ^ 62 → IsDue (own_refusal reached lowest (hears c) c.progress.got x) fault)
      → IfErr r (λ fault. IsFine c → IsDue (verdict reached lowest c x) fault)
  fresh_fault h =
      if_err r _ _
      (λ fault own fine. due_is (own_refusal reached lowest (hears c) c.progress.got x) (verdict reached lowest c x) fault (verdict_fresh reached lowest c x fresh free)
      (own (inherited_heard lowest (hears c) free) fine.small))
      h

-- A buffer on a pad that hears what these frames are, of so many bytes.
module _ {A : Type 0} (r : Result A ElementFault) (reached got m n : ℕ) (o : Option (Description One)) (info : Info) (e : Some (mono_by info) ≡ option_and_then heard o) (is : m ≡ n) where
  refusal_is : IsHeard o → buffer_refusal reached o got n ≡ bytes_refusal reached (mono_by info) got m
  refusal_is h = buffer_told reached got n o info h e ∙ ap (bytes_refusal reached (mono_by info) got) (sym is)

  pub told_ok : OnOk r (got < 2 ^ 62 → bytes_refusal reached (mono_by info) got m ≡ None) → OnOk r (IsHeard o → got < 2 ^ 62 → buffer_refusal reached o got n ≡ None)
  told_ok h = on_ok r _ _ (λ own heard small. refusal_is heard ∙ own small) h

  pub told_fault : IfErr r (λ fault. got < 2 ^ 62 → IsDue (bytes_refusal reached (mono_by info) got m) fault)
      → IfErr r (λ fault. IsHeard o → got < 2 ^ 62 → IsDue (buffer_refusal reached o got n) fault)
  told_fault h =
      if_err r _ _ (λ fault own heard small. due_is (bytes_refusal reached (mono_by info) got m) (buffer_refusal reached o got n) fault (refusal_is heard) (own small)) h
