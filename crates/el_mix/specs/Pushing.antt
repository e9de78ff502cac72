-- What goes out once all pads have started.
use Rattle.std.specs.Prelude.{◌≡◌, true, false, ◌-◌, List, [], ◌∷◌, ◌++◌, Some, if◌then◌else◌}
use Rattle.std.specs.Option.{option_map}
use Rattle.gst_item.specs.declared.out.Out.{Out}
use Rattle.flow_model.specs.Item.{Item, Ev, Eos}
use Rattle.flow_model.specs.Sticky.{has_flush_stop}
use Rattle.flow_model.specs.Feeding.{on_pad}
use Rattle.el_mix.specs.declared.channel.Channel.{Channel}
use Rattle.el_mix.specs.declared.position.Position.{Position}
use Rattle.el_mix.specs.Mono.{Mono}
use Rattle.el_mix.specs.Agreed.{or_else}
use Rattle.el_mix.specs.Mixed.{mixed, limit}
use Rattle.el_mix.specs.Mixes.{is_start, all_have, eos_if}
use Rattle.el_mix.specs.Heard.{mono_by}
use Rattle.el_mix.specs.Taking.{lines}
use Rattle.el_mix.specs.Lined.{Ready}
use Rattle.el_mix.specs.Putting.{all_ended, start_item, opening_if, ended_by}
use Rattle.el_mix.specs.Standing.{WaitEach, Placed, Behind, rest_owed}

-- all that the rule owes of a stream without CAPS
abbrev pub empty_items : List Channel → List Item
empty_items cs = if all_ended cs then start_item cs ∷ Ev Eos ∷ [] else []

-- Of a stream with CAPS its opening, the buffers, and EOS where all ended.
pub record Streams (mono : Mono) (old : Position) (cs : List Channel) (new : Position) (cs' : List Channel) (outs outs' : List Out) : Type 0 where
  pub pieces : List Item
  pub outs_are : outs' ≡ outs ++ on_pad 0 (opening_if old.open mono cs ++ (pieces ++ eos_if (all_ended cs)))
  pub free : has_flush_stop pieces ≡ false
  pub open_is : option_map mono_by new.open ≡ or_else (option_map mono_by old.open) (Some mono)
  pub owed : (xss : List (List Item)) → Ready mono old.next old.reached (lines cs) xss
      → pieces ≡ mixed mono xss old.next old.next (limit mono xss - old.next)
  pub ready : (xss : List (List Item)) → Ready mono old.next old.reached (lines cs) xss → Ready mono new.next new.reached (lines cs') xss
  pub all : (xss : List (List Item)) → Ready mono old.next old.reached (lines cs) xss → new.next ≡ limit mono xss
  pub ends : (xss : List (List Item)) → Ready mono old.next old.reached (lines cs) xss → ended_by old.reached pieces ≡ new.reached

-- So what is owed went out.
pub record Pushes (old : Position) (cs : List Channel) (new : Position) (cs' : List Channel) (outs outs' : List Out) : Type 0 where
  pub more : List Item
  pub outs_are : outs' ≡ outs ++ on_pad 0 more
  pub free : has_flush_stop more ≡ false
  pub owed : (xss : List (List Item)) → Behind old cs xss → all_have is_start xss ≡ true → more ≡ rest_owed old xss
  pub waits : (xss : List (List Item)) → Behind old cs xss → all_have is_start xss ≡ true → WaitEach new.next cs' xss
  pub placed : (xss : List (List Item)) → Behind old cs xss → all_have is_start xss ≡ true → Placed new xss
  pub ends : (xss : List (List Item)) → Behind old cs xss → all_have is_start xss ≡ true → ended_by old.reached more ≡ new.reached
