-- What goes out, part by part.
use Rattle.std.proofs.Common.{◌≡◌, ◌≤◌, ℕ, false, List, [], ◌∷◌, ◌++◌, Option, Some, None, length, take, drop, map, refl, sym, ap, ◌∙◌, subst}
use Rattle.std.specs.Prelude.{is_some}
use Rattle.std.specs.Option.{ForSome}
use Rattle.std.proofs.lemmas.List.{take-append-drop, length-map}
use Rattle.gst_value.specs.Description.{Description}
use Rattle.gst_value.specs.declared.one.One.{One}
use Rattle.gst_item.specs.declared.out.Out.{Out}
use Rattle.audio_info.specs.declared.info.Info.{Info}
use Rattle.audio_info.specs.Media.{caps_of}
use Rattle.flow_model.specs.Item.{Segment, Format, Time, Ev, NewCaps, NewSegment}
use Rattle.flow_model.specs.Source.{ordered_without_stop}
use Rattle.flow_model.specs.Feeding.{on_pad}
use Rattle.el_mix.specs.declared.channel.Channel.{Channel}
use Rattle.el_mix.specs.declared.position.Position.{Position}
use Rattle.el_mix.specs.Agreed.{or_else}
use Rattle.el_mix.specs.Mixes.{from_zero}
use Rattle.el_mix.specs.Heard.{mono_by}
use Rattle.el_mix.specs.Taking.{passes}
use Rattle.el_mix.specs.Putting.{start_item, opening_if, Opens}
use Rattle.el_mix.proofs.Streaming.{on_behind}
use Rattle.el_mix.proofs.Telling.{grows_more}
use Rattle.gst_value.proofs.Basics.{ordered_prop}

-- what stood before stands first
pub grows_twice : (a b c : List Out) → take (length a) b ≡ a → take (length b) c ≡ b → take (length a) c ≡ a
grows_twice a b c p q = grows_more a b c (drop (length b) c) p (sym (take-append-drop (length b) c) ∙ ap (λ zs. zs ++ drop (length b) c) q)

-- as many channels look ahead
pub passes_length : (n : ℕ) (cs ds : List Channel) → ds ≡ map (passes n) cs → length ds ≡ length cs
passes_length n cs ds e = ap length e ∙ length-map cs (passes n)

abbrev made : (f : Format) (start : ℕ) (stop : Option ℕ) (time base position : ℕ) → ForSome stop (λ e. start ≤ e) → Segment
made f start stop time base position o = record { format = f; start = start; stop = stop; time = time; base = base; position = position; ordered = o }

pub segment_is : (s : Segment) → s.format ≡ Time → s.start ≡ 0 → s.stop ≡ None → s.time ≡ 0 → s.base ≡ 0 → s.position ≡ 0 → s ≡ from_zero
segment_is s format start stop time base position =
    ap (λ f. made f s.start s.stop s.time s.base s.position s.ordered) format
    ∙ ap (λ t. made Time s.start s.stop t s.base s.position s.ordered) time
    ∙ ap (λ t. made Time s.start s.stop 0 t s.position s.ordered) base
    ∙ ap (λ t. made Time s.start s.stop 0 0 t s.ordered) position
    ∙ by_stop s.start s.stop start stop s.ordered
  where
    by_stop : (a : ℕ) (b : Option ℕ) → a ≡ 0 → b ≡ None → (o : ForSome b (λ e. a ≤ e)) → made Time a b 0 0 0 o ≡ from_zero
    by_stop a b p q =
        subst (λ (k : ℕ). (o : ForSome b (λ e. k ≤ e)) → made Time k b 0 0 0 o ≡ from_zero) (sym p)
        (subst (λ (z : Option ℕ). (o : ForSome z (λ e. 0 ≤ e)) → made Time 0 z 0 0 0 o ≡ from_zero) (sym q)
        (λ o. ap (λ z. made Time 0 None 0 0 0 z) (ordered_prop 0 None o (ordered_without_stop 0))))

-- the opening
pub opens_new : (old new : Position) (info : Info) (cs : List Channel) (caps : Description One) (segment : Segment) (count : ℕ) (outs outs1 outs2 outs3 : List Out) → is_some old.open ≡ false
    → caps ≡ caps_of info.format info.rate count → count ≡ length cs → segment ≡ from_zero → outs1 ≡ outs ++ on_pad 0 (start_item cs ∷ [])
    → outs2 ≡ outs1 ++ on_pad 0 (Ev (NewCaps caps) ∷ []) → outs3 ≡ outs2 ++ on_pad 0 (Ev (NewSegment segment) ∷ []) → new ≡ record old { «open» = Some info }
    → Opens old new info cs outs outs3
opens_new old new info cs caps segment count outs outs1 outs2 outs3 none caps_is count_is whole p q r is = record {
  outs_are = all ∙ opening old.open none;
  open_is = ap (λ (z : Position). z.open) is ∙ first old.open none;
  next_is = ap (λ (z : Position). z.next) is;
  reached_is = ap (λ (z : Position). z.reached) is;
}
  where
    first : (o : Option Info) → is_some o ≡ false → Some info ≡ or_else o (Some info)
    first None e = refl
    first (Some i) e = absurd (cc)

    all : outs3 ≡ outs ++ on_pad 0 (start_item cs ∷ Ev (NewCaps (caps_of info.format info.rate (length cs))) ∷ Ev (NewSegment from_zero) ∷ [])
    all =
        r ∙ ap (λ zs. zs ++ on_pad 0 (Ev (NewSegment segment) ∷ [])) (q ∙ ap (λ zs. zs ++ on_pad 0 (Ev (NewCaps caps) ∷ [])) p ∙ on_behind outs (start_item cs ∷ []) (Ev (NewCaps caps) ∷ []))
        ∙ on_behind outs (start_item cs ∷ Ev (NewCaps caps) ∷ []) (Ev (NewSegment segment) ∷ [])
        ∙ ap (λ d. outs ++ on_pad 0 (start_item cs ∷ Ev (NewCaps d) ∷ Ev (NewSegment segment) ∷ [])) (caps_is ∙ ap (caps_of info.format info.rate) count_is)
        ∙ ap (λ s. outs ++ on_pad 0 (start_item cs ∷ Ev (NewCaps (caps_of info.format info.rate (length cs))) ∷ Ev (NewSegment s) ∷ [])) whole

    opening : (o : Option Info) → is_some o ≡ false
        → outs ++ on_pad 0 (start_item cs ∷ Ev (NewCaps (caps_of info.format info.rate (length cs))) ∷ Ev (NewSegment from_zero) ∷ []) ≡ outs ++ on_pad 0 (opening_if o (mono_by info) cs)
    opening None e = refl
    opening (Some i) e = absurd (cc)
