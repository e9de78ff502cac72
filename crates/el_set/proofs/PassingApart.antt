-- What passes all owes each item for itself, whatever was set before; of the elements between one sink pad and one source pad no
-- other does. So its rule tells it from them.
use Rattle.std.proofs.Common.{◌≡◌, true, false, List, [], ◌∷◌, None, refl, ◌∙◌, subst}
use Rattle.gst_caps.specs.declared.caps.Caps.{Caps}
use Rattle.gst_caps.specs.declared.caps.Caps.TheVariants.{Of}
use Rattle.flow_model.specs.Item.{Item, Buf, Ev, FlushStop, NewCaps}
use Rattle.flow_model.specs.Call.{Call, Filter, Drops}
use Rattle.flow_model.specs.Rule.{Response, passes, single}
use Rattle.flow_model.specs.Feeding.{has_eos}
use Rattle.audio_info.specs.Media.{caps_of}
use Rattle.audio_info.specs.declared.sample.Sample.TheVariants.{S16LE}
use Rattle.el_settings.specs.Asked.{is_queue}
use Rattle.el_settings.specs.declared.settings.Settings.{Settings}
use Rattle.el_settings.specs.declared.settings.Settings.TheVariants.{Queue}
use Rattle.el_set.specs.Denoted.{rule_of}
use Rattle.el_set.specs.Passing.{PassesEach}
use Rattle.el_set.specs.Stands.{Stands, has_passed_eos}
use Rattle.el_set.specs.declared.filter.FilterElement.{FilterElement}
use Rattle.el_set.specs.declared.filter.FilterElement.TheVariants as elements

pub each_passes : PassesEach (single passes)
each_passes setting (Ev (FlushStop number)) plain = absurd (cc)
each_passes setting _ plain = refl

pub queues_pass : (s : Settings) → is_queue s ≡ true → PassesEach (rule_of s)
queues_pass (Queue s) is = each_passes
queues_pass _ is = absurd (cc)

none_some : {x : Item} {xs : List Item} → [] ≡ x ∷ xs → ⊥
none_some e = cc

abbrev no_bytes : Item
no_bytes = Buf (record { body = []; pts = None; duration = None; offset = None; discont = false })

abbrev some_caps : Item
some_caps = Ev (NewCaps (caps_of S16LE 1 1))

abbrev no_caps : Caps
no_caps = Of []

-- it was given no EOS in its section, or it says so
pub passing_open : (respond : Response) (element : FilterElement) (calls : List Call) (put : List Item) → Stands respond element calls put → PassesEach (single respond)
    → has_passed_eos element ≡ false → has_eos calls ≡ false
passing_open respond (elements.Identity identity) calls put s each open_yet = s.1.eos ∙ open_yet
passing_open respond (elements.CapsFilter filter) calls put s each open_yet = absurd (none_some (subst (λ (r : Response). PassesEach (single r)) s.1 each (Filter no_caps) no_bytes refl))
passing_open respond (elements.Valve valve) calls put s each open_yet = absurd (none_some (subst (λ (r : Response). PassesEach (single r)) s.1 each (Drops true) no_bytes refl))
passing_open respond (elements.Convert convert) calls put s each open_yet = absurd (none_some (subst (λ (r : Response). PassesEach (single r)) s.1 each (Filter no_caps) no_bytes refl))
passing_open respond (elements.Law law) calls put s each open_yet = absurd (none_some (subst (λ (r : Response). PassesEach (single r)) s.1 each (Filter no_caps) no_bytes refl))
passing_open respond (elements.RawParse parser) calls put s each open_yet = absurd (none_some (subst (λ (r : Response). PassesEach (single r)) s.1 each (Filter no_caps) some_caps refl))
passing_open respond (elements.Split split) calls put s each open_yet = absurd (none_some (subst (λ (r : Response). PassesEach (single r)) s.1 each (Filter no_caps) no_bytes refl))
passing_open respond (elements.WavParse parser) calls put s each open_yet = absurd (none_some (subst (λ (r : Response). PassesEach (single r)) s.1 each (Filter no_caps) some_caps refl))
passing_open respond (elements.WavEnc encoder) calls put s each open_yet = absurd (none_some (subst (λ (r : Response). PassesEach (single r)) s.1 each (Filter no_caps) no_bytes refl))

pub passing_over : (respond : Response) (element : FilterElement) (calls : List Call) (put : List Item) → Stands respond element calls put → has_passed_eos element ≡ true
    → has_eos calls ≡ true
passing_over respond (elements.Identity identity) calls put s over = s.1.eos ∙ over
passing_over respond _ calls put s over = absurd (cc)
