-- Sticky events: what a pad's history leaves in force, found by going back over the list.
use Rattle.std.specs.Prelude.{Bool, true, false, List, [], ◌∷◌, ◌++◌, if◌then◌else◌, Option, None, Some}
use Rattle.gst_item.specs.Item.{Item, Ev, Event, is_stream_start, is_caps, is_segment, is_tag, is_flush_stop, is_eos}

-- the first list that has an item
abbrev pub first_found : List Item → List Item → List Item
first_found [] ys = ys
first_found (x ∷ xs) ys = x ∷ []

-- the last item of a history that passes a test, as a list of at most one
abbrev pub latest : (Item → Bool) → List Item → List Item
latest passes [] = []
latest passes (x ∷ xs) = first_found (latest passes xs) (if passes x then x ∷ [] else [])

abbrev pub has_flush_stop : List Item → Bool
has_flush_stop [] = false
has_flush_stop (x ∷ xs) = if is_flush_stop x then true else has_flush_stop xs

-- what stands behind the last FLUSH_STOP, or all where there is none
abbrev pub since_flush_stop : List Item → List Item
since_flush_stop [] = []
since_flush_stop (x ∷ xs) = if has_flush_stop xs then since_flush_stop xs else (if is_flush_stop x then xs else x ∷ xs)

-- The sticky events in force after a history: the last STREAM_START, CAPS, SEGMENT, TAG and EOS, in this order. A
-- SEGMENT or an EOS before the last FLUSH_STOP is left out.
unfoldable pub stickies : List Item → List Item
stickies h =
    latest is_stream_start h
    ++ (latest is_caps h ++ (latest is_segment (since_flush_stop h) ++ (latest is_tag h ++ latest is_eos (since_flush_stop h))))

-- The sticky events one by one, each a list of at most one.
pub record InForce : Type 0 where
  pub stream_start : List Item
  pub caps : List Item
  pub segment : List Item
  pub tag : List Item
  pub eos : List Item

-- those of a history
abbrev pub in_force : List Item → InForce
in_force h =
    record {
      stream_start = latest is_stream_start h;
      caps = latest is_caps h;
      segment = latest is_segment (since_flush_stop h);
      tag = latest is_tag h;
      eos = latest is_eos (since_flush_stop h);
    }

-- what a slot holds
abbrev pub held : Option Event → List Item
held None = []
held (Some event) = Ev event ∷ []
