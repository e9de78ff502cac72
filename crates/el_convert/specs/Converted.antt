-- For which fed and put-out lists a converter stands.
use Rattle.std.specs.Prelude.{◌≡◌, false, List, Some}
use Rattle.std.specs.Option.{option_map}
use Rattle.gst_caps.specs.declared.caps.Caps.{Caps}
use Rattle.flow_model.specs.Item.{Item}
use Rattle.flow_model.specs.Call.{Call}
use Rattle.flow_model.specs.Rule.{Fed, unfed, all_called, owed_for}
use Rattle.flow_model.specs.Feeding.{has_eos}
use Rattle.el_convert.specs.declared.convert.Convert.{Convert}
use Rattle.el_convert.specs.declared.stream.Stream.{Stream}
use Rattle.gst_caps.specs.Same.{same_caps}
use Rattle.el_convert.specs.Choice.{choice}
use Rattle.el_convert.specs.Converts.{Known, known, converts}

-- how far its rule has come
abbrev pub converted : Caps → List Call → Fed
converted first calls = all_called (converts first) unfed calls

-- what a converter knows
abbrev pub knows : Convert → Known
knows element =
    record {
      allowed = element.allowed;
      offered = option_map (λ (s : Stream). s.offered) element.stream;
      chosen = option_map (λ (s : Stream). s.chosen) element.stream;
      got = element.got;
    }

-- It began with the first allowed caps, was given the calls, of which none was a fault, and put out what is owed for
-- them, each FLUSH_STOP at its place. It knows what its rule looks back at, and whether EOS was fed since the last
-- FLUSH_STOP.
pub record IsConverted (first : Caps) (element : Convert) (calls : List Call) (put : List Item) : Type 0 where
  pub owed : put ≡ owed_for (converts first) calls
  pub over : (converted first calls).over ≡ element.ended
  pub eos : has_eos calls ≡ element.ended
  pub as_far : known first (converted first calls) ≡ knows element

-- the choice for the stream's caps is the one that was put out last
pub record Stays (element : Convert) : Type 0 where
  pub stream : Stream
  pub is : element.stream ≡ Some stream
  pub chosen : choice stream.offered element.allowed ≡ Some stream.chosen

-- the choice for the stream's caps is another one
pub record Changes (element : Convert) (other : Stream) : Type 0 where
  pub stream : Stream
  pub is : element.stream ≡ Some stream
  pub same_stream : other.offered ≡ stream.offered
  pub chosen : choice stream.offered element.allowed ≡ Some other.chosen
  pub differs : same_caps stream.chosen other.chosen ≡ false
