-- For which lists an element that mixes channels stands.
use Rattle.std.specs.Prelude.{◌≡◌, ℕ, Bool, false, List, [], ◌∷◌, ◌++◌, Option, Ok, length}
use Rattle.gst_item.specs.declared.out.Out.{Out}
use Rattle.flow_model.specs.Item.{Item, is_stream_start, is_caps}
use Rattle.flow_model.specs.Sticky.{latest, has_flush_stop}
use Rattle.flow_model.specs.Section.{counted}
use Rattle.flow_model.specs.Call.{Call, Feed, items}
use Rattle.flow_model.specs.Feeding.{has_eos, on_pad}
use Rattle.flow_model.specs.SinkPads.{push_calls, flush_stops_given, InSection}
use Rattle.el_mix.specs.declared.channel.Channel.{Channel}
use Rattle.el_mix.specs.declared.mix.Mix.{Mix}
use Rattle.el_mix.specs.Reopened.{reopenings}
use Rattle.el_mix.specs.Mixes.{mixes}
use Rattle.el_mix.specs.Order.{FedInOrder}
use Rattle.el_mix.specs.Answer.{reached, mix_answer}
use Rattle.el_mix.specs.Wanted.{lowest, is_short, else_lowest}
use Rattle.el_mix.specs.Taking.{hears}
use Rattle.el_mix.specs.Standing.{Holds, lower_known as lower_channels_known}
use Rattle.flow_model.specs.Inherited.{start_event, caps_event}

-- how many sink pads there are, and whether each one below a pad has CAPS or had EOS
abbrev pub sink_pads : Mix → ℕ
sink_pads element = length element.channels.items

abbrev pub lower_known : ℕ → Mix → Bool
lower_known pad element = lower_channels_known pad element.channels.items

-- the pad from which it wants its next item
abbrev pub wanted : Mix → Option ℕ
wanted element = else_lowest (lowest is_short 0 element.channels.items) element.channels.items

-- A channel knows what the next section inherits of what its pad was given, and whether EOS was fed since the last FLUSH_STOP. TAG
-- is dropped.
pub record Knows (c : Channel) (calls : List Call) : Type 0 where
  pub stream_start : start_event c.progress.last_id ≡ latest is_stream_start (counted (items calls))
  pub caps : caps_event (hears c) ≡ latest is_caps (counted (items calls))
  pub eos : has_eos calls ≡ c.progress.ended

abbrev pub KnowEach : List Channel → List (List Call) → Type 0
KnowEach [] [] = Unit {0}
KnowEach [] (calls ∷ took) = ⊥
KnowEach (c ∷ cs) [] = ⊥
KnowEach (c ∷ cs) (calls ∷ took) = Knows c calls × KnowEach cs took

-- the section that is open, by the first sink pad
abbrev pub section_of : List (List Call) → ℕ
section_of [] = 0
section_of (calls ∷ took) = flush_stops_given calls

-- It knows what the next section inherits of what its sink pads were given.
pub record Remembers (element : Mix) (took : List (List Call)) : Type 0 where
  pub each : KnowEach element.channels.items took
  pub level : InSection (section_of took) took

-- Its sink pads were given these calls, in order, and in the section that is open it put out these items: all that is owed there.
pub record Mixes (element : Mix) (took : List (List Call)) (put : List Item) : Type 0 where
  pub remembers : Remembers element took
  pub fed : FedInOrder took
  pub holds : Holds element.at element.channels.items (reopenings (section_of took) took)
  pub owed : mixes took 0 (section_of took) ≡ put
  pub ends : reached put ≡ element.at.reached

-- It put out these items for an item on a sink pad. They are what the rule owes more.
pub record MixPuts (old new : Mix) (pad : ℕ) (item : Item) (out out' : List Out) : Type 0 where
  pub more : List Item
  pub outs : out' ≡ out ++ on_pad 0 more
  pub free : has_flush_stop more ≡ false
  pub owed : (took : List (List Call)) (put : List Item) → Mixes old took put → mix_answer took pad item ≡ Ok more
  pub stands : (took : List (List Call)) (put : List Item) → Mixes old took put → Mixes new (push_calls pad (Feed item ∷ []) took) (put ++ more)
