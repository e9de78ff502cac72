-- For which fed and put-out lists an element stands that cuts raw audio into buffers of as many frames.
use Rattle.std.specs.Prelude.{◌≡◌, ℕ, List, [], ◌++◌, None}
use Rattle.std.specs.Option.{option_map}
use Rattle.flow_model.specs.Item.{Item}
use Rattle.flow_model.specs.Call.{Call, items}
use Rattle.flow_model.specs.Rule.{Fed, unfed, all_called, owed_for}
use Rattle.flow_model.specs.Feeding.{has_eos}
use Rattle.el_parse.specs.declared.split.Split.{Split}
use Rattle.el_parse.specs.Part.{part_bytes}
use Rattle.el_parse.specs.Streams.{stream_by, stream_after}
use Rattle.el_parse.specs.Splits.{Cutting, cutting, splits}

-- how far its rule has come
abbrev pub splitting : ℕ → List Call → Fed
splitting frames calls = all_called (splits frames) unfed calls

-- how far an element has come
abbrev pub come : Split → Cutting
come split = record {
  stream = option_map stream_by split.info;
  begun = split.begun;
  pts = split.pts;
  next = split.next;
  held = split.waiting;
  got = split.got;
  reached = split.reached;
}

-- What was put out in the last part and what waits are what was given in it, under the same CAPS, and nothing waits
-- before any CAPS.
pub record KeepsBytes (fed : Fed) (held : List ℕ) : Type 0 where
  pub whole : part_bytes fed.out ++ held ≡ part_bytes (items fed.given)
  pub same_stream : stream_after None fed.out ≡ stream_after None (items fed.given)
  pub unknown : stream_after None (items fed.given) ≡ None → held ≡ []

-- It makes buffers of so many frames, was given the calls, of which none was a fault, and put out what is owed for
-- them, each FLUSH_STOP at its place. It is as far as its rule, and knows whether EOS was fed since the last
-- FLUSH_STOP.
pub record Regrouped (frames : ℕ) (split : Split) (calls : List Call) (put : List Item) : Type 0 where
  pub owed : put ≡ owed_for (splits frames) calls
  pub over : (splitting frames calls).over ≡ split.ended
  pub eos : has_eos calls ≡ split.ended
  pub same : split.frames ≡ frames
  pub as_far : cutting (splitting frames calls) ≡ come split
  pub bytes : KeepsBytes (splitting frames calls) split.waiting
