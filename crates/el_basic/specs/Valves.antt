-- The rule of a valve, as GStreamer's.
use Rattle.std.specs.Prelude.{◌≡◌, ℕ, Bool, true, false, not, ◌&&◌, ◌||◌, List, [], ◌∷◌, ◌++◌, filter, Ok, if◌then◌else◌}
use Rattle.std.specs.List.{list_any}
use Rattle.gst_item.specs.declared.out.Out.{Out}
use Rattle.flow_model.specs.Item.{Item, is_eos, is_flush_stop}
use Rattle.flow_model.specs.Sticky.{InForce, in_force, stickies}
use Rattle.flow_model.specs.Call.{Call, Feed, Act, Drain, Set, Drops, items}
use Rattle.flow_model.specs.Rule.{Response, not_eos}
use Rattle.flow_model.specs.Feeding.{on_pad}

-- whether a valve drops behind a call, by whether it dropped before
abbrev pub drops_behind : Bool → Call → Bool
drops_behind drops (Act (Set (Drops set))) = set
drops_behind drops _ = drops

-- a call that sets whether it drops
abbrev pub sets_drop : Call → Bool
sets_drop (Act (Set (Drops set))) = true
sets_drop _ = false

-- whether it drops behind calls: as was set last, or as at first where nothing was set
abbrev pub drops_in : Bool → List Call → Bool
drops_in first [] = first
drops_in first (call ∷ calls) = drops_in (drops_behind first call) calls

-- an item; a drain counts as one, and a FLUSH_STOP does not
abbrev pub is_item : Call → Bool
is_item (Feed x) = if is_flush_stop x then false else true
is_item (Act Drain) = true
is_item (Act (Set setting)) = false

-- the calls up to the last item, with it
abbrev pub to_last_item : List Call → List Call
to_last_item [] = []
to_last_item (call ∷ calls) = if list_any is_item (call ∷ calls) then call ∷ to_last_item calls else []

-- the calls behind the last item
abbrev pub since_last_item : List Call → List Call
since_last_item [] = []
since_last_item (call ∷ calls) = if list_any is_item (call ∷ calls) then since_last_item calls else call ∷ calls

-- whether it dropped at any time from the last item on: there, or since
abbrev pub dropped_lately : Bool → List Call → Bool
dropped_lately first calls = drops_in first (to_last_item calls) || list_any (drops_behind false) (since_last_item calls)

-- Whether the sticky events go out again before the next item: it drops no more, and did lately.
abbrev pub sends_again : (drops lately : Bool) → Bool
sends_again drops lately = not drops && lately

-- What goes out again: the sticky events of all that it was fed, without an EOS, behind which nothing goes out.
abbrev pub again : List Item → List Item
again h = stickies (filter not_eos h)

-- a valve that drops lets EOS alone through
abbrev pub let_through : (drops : Bool) → Item → List Item
let_through drops x = if drops then filter is_eos (x ∷ []) else x ∷ []

abbrev pub sent_again : (drops lately : Bool) → (events : List Item) → List Item
sent_again drops lately events = if sends_again drops lately then events else []

-- what goes out for an item, by these sticky events
abbrev pub goes_out : (drops lately : Bool) → (events : List Item) → Item → List Item
goes_out drops lately events x = sent_again drops lately events ++ let_through drops x

-- Items went out on a source pad: those that are owed by whatever list the sticky events are in force of.
pub record GoOut (pad : ℕ) (sticky : InForce) (owed : List Item → List Item) (out out' : List Out) : Type 0 where
  pub more : List Item
  pub outs : out' ≡ out ++ on_pad pad more
  pub are : (h : List Item) → sticky ≡ in_force h → more ≡ owed h

-- the rule of a valve that drops at first or not
abbrev pub valves : Bool → Response
valves first fed x = Ok (goes_out (drops_in first fed.given) (dropped_lately first fed.given) (again (items fed.given)) x)
