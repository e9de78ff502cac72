-- What the functions that judge and take items tell.
use Rattle.std.proofs.Common.{◌≡◌, ◌⊎◌, ◌≤◌, ℕ, zero, suc, Bool, true, false, if◌then◌else◌, List, [], ◌∷◌, ◌++◌, Option, Some, None, length, take, refl, sym, ap, ◌∙◌, inl, inr, arith}
use Rattle.std.specs.Prelude.{option_and_then}
use Rattle.std.proofs.lemmas.List.{take-append-le}
use Rattle.std.proofs.lemmas.Option.{same_Some as mono_is}
use Rattle.gst_caps.specs.Accepts.{accepts}
use Rattle.gst_value.specs.Description.{Description}
use Rattle.gst_value.specs.declared.one.One.{One}
use Rattle.audio_info.specs.declared.sample.Sample.{Sample}
use Rattle.audio_info.specs.declared.sample.Sample.TheVariants.{S8, U8, S16LE, S16BE, S24LE, S32LE, MuLaw, ALaw}
use Rattle.audio_info.specs.declared.info.Info.{Info}
use Rattle.audio_info.specs.Media.{sample_of, rate_of, channels_of}
use Rattle.audio_info.specs.Packing.{sample_width}
use Rattle.gst_caps.specs.Same.{same_caps}
use Rattle.gst_item.specs.declared.out.Out.{Out}
use Rattle.flow_model.specs.Rule.{NotNegotiated}
use Rattle.flow_model.specs.Item.{Item}
use Rattle.el_mix.specs.declared.channel.Channel.{Channel}
use Rattle.el_mix.specs.Mono.{Mono, mono_of, mono_template}
use Rattle.el_mix.specs.Agreed.{or_else, caps_refusal, buffer_refusal}
use Rattle.el_mix.specs.Heard.{mono_by, heard, heard_of}
use Rattle.el_mix.specs.Due.{bytes_refusal}
use Rattle.el_mix.specs.Judging.{inherited_refusal, own_refusal, verdict}
use Rattle.el_mix.specs.Taking.{hears, IsHeard}
use Rattle.el_mix.proofs.Hearing.{heard_accepted}

-- what is kept of CAPS
pub heard_none : (caps : Description One) → (sample_of caps ≡ None) ⊎ ((rate_of caps ≡ None) ⊎ (channels_of caps ≡ None)) → heard caps ≡ None
heard_none caps e = go (sample_of caps) (rate_of caps) (channels_of caps) e
  where
    go : (f : Option Sample) (r c : Option ℕ) → (f ≡ None) ⊎ ((r ≡ None) ⊎ (c ≡ None)) → heard_of f r c ≡ None
    go None r c e = refl
    go (Some f) None c e = refl
    go (Some f) (Some r) None e = refl
    go (Some f) (Some r) (Some c) (inl e) = absurd (cc)
    go (Some f) (Some r) (Some c) (inr (inl e)) = absurd (cc)
    go (Some f) (Some r) (Some c) (inr (inr e)) = absurd (cc)

-- few bytes, where the time of their end fits
pub width_most : (format : Sample) → sample_width format ≤ 4
width_most S8 = omega arith
width_most U8 = omega arith
width_most S16LE = omega arith
width_most S16BE = omega arith
width_most S24LE = omega arith
width_most S32LE = omega arith
width_most MuLaw = omega arith
width_most ALaw = omega arith

-- a buffer by what its channel hears
pub buffer_told : (reached got n : ℕ) (o : Option (Description One)) (info : Info) → IsHeard o → Some (mono_by info) ≡ option_and_then heard o
    → buffer_refusal reached o got n ≡ bytes_refusal reached (mono_by info) got n
buffer_told reached got n None info h e = absurd (cc)
buffer_told reached got n (Some caps) info h e = ap (λ (m : Mono). bytes_refusal reached m got n) (mono_is (mono_of caps) (mono_by info) (sym (e ∙ heard_accepted caps h)))

pub buffer_unheard : (reached got n : ℕ) (o : Option (Description One)) → IsHeard o → None ≡ option_and_then heard o → buffer_refusal reached o got n ≡ Some (NotNegotiated None mono_template)
buffer_unheard reached got n None h e = refl
buffer_unheard reached got n (Some caps) h e = absurd (there (e ∙ heard_accepted caps h))
  where
    there : None ≡ Some (mono_of caps) → ⊥
    there e = absurd (cc)

-- CAPS by the lowest
pub caps_heard : (lowest : Option (Description One)) (caps : Description One) → caps_refusal lowest caps ≡ None → accepts mono_template caps ≡ true
caps_heard None caps e = go (accepts mono_template caps) refl
  where
    go : (b : Bool) → accepts mono_template caps ≡ b → accepts mono_template caps ≡ true
    go true a = a
    go false a = let e' = rw a at e in absurd (cc)
caps_heard (Some lowest) caps e = go (same_caps lowest caps) refl (accepts mono_template caps) refl
  where
    go : (b : Bool) → same_caps lowest caps ≡ b → (c : Bool) → accepts mono_template caps ≡ c → accepts mono_template caps ≡ true
    go b s true a = a
    go true s false a = let e' = rw (s, a) at e in absurd (cc)
    go false s false a = let e' = rw s at e in absurd (cc)

-- the verdict, part by part
pub verdict_fresh : (reached : ℕ) (lowest : Option (Description One)) (c : Channel) (x : Item) → c.progress.begun ≡ false → inherited_refusal lowest (hears c) ≡ None
    → verdict reached lowest c x ≡ own_refusal reached lowest (hears c) c.progress.got x
verdict_fresh reached lowest c x e h =
    ap (λ b. or_else (if b then None else inherited_refusal lowest (hears c)) (own_refusal reached lowest (hears c) c.progress.got x)) e
    ∙ ap (λ o. or_else o (own_refusal reached lowest (hears c) c.progress.got x)) h

-- what stood before stands before what is put behind
pub grows_more : (a b c d : List Out) → take (length a) b ≡ a → c ≡ b ++ d → take (length a) c ≡ a
grows_more a b c d e is = go (length_under (length a) b (ap length e))
  where
    length_under : (n : ℕ) (bs : List Out) → length (take n bs) ≡ n → n ≤ length bs
    length_under zero bs e = omega arith
    length_under (suc n) [] e = absurd (omega (arith, e))
    length_under (suc n) (x ∷ bs) e = let r = length_under n bs (omega (arith, e)) in omega (arith, r)

    go : length a ≤ length b → take (length a) c ≡ a
    go le = ap (take (length a)) is ∙ take-append-le (length a) b d le ∙ e
