-- The rows hold: each side is computed.
use Rattle.std.proofs.Common.{◌≡◌, ℕ, true, false, [], refl, inl, inr, arith, lit≤}
use Rattle.std.specs.Prelude.{Some, codes}
use Rattle.gst_value.specs.Description.{Description}
use Rattle.gst_value.specs.declared.one.One.{One}
use Rattle.graph_core.specs.Links.{HaveCommon, Leads, caps_at, ways}
use Rattle.flow_model.specs.Sticky.{stickies}
use Rattle.graph_order.specs.Links.{IsLink, Way}
use Rattle.graph_edits.specs.Plans.{edited_plan}
use Rattle.graph_edits.specs.Refused.{HasFeeder, HasHead, IsReached}
use Rattle.graph_edits.specs.Lawful.{IsAnswered, IsLinkable, Makes, Reaches}
use Rattle.graph_edits.specs.Rows.{FallingRows, FeederRows, LawfulRows, LoopRows, RelinkRows, crossed, pad, relay, relinking, turned, turned_back, turning_back}

pub relink_rows : RelinkRows
unfolding edited_plan stickies
relink_rows = record { first = refl; second = refl; passed = refl; buffers = refl; none = refl; all = refl; begins = refl; unreached = refl; empty = refl; there = refl; back = refl; ended = refl; over = refl }

pub loop_rows : LoopRows
unfolding edited_plan stickies
loop_rows = record { before = refl; behind = refl; loops = Way.more 1 1 2 (Way.none 1) (inr (inl (refl, refl))) }

pub feeder_rows : FeederRows
unfolding edited_plan stickies
feeder_rows = record {
  elsewhere = record {
    own = 2;
    feeds = inl (HasHead.itself 2 refl);
    element = 1;
    reached = IsReached.first 1 refl;
    other = 0;
    fed = HasFeeder.given 1 0 0 refl refl (HasFeeder.itself 0 refl);
    differs = λ same. omega (arith, same);
  };
}

-- no link of the relay leaves the sink, so no way leads from it
stays_there : (c : ℕ) → Leads relay.ever 3 c → c ≡ 3
stays_there c (Way.none a) = refl
stays_there c (Way.more a b d way link) = absurd (from_three b (stays_there b way) link)
  where
    from_three : (b : ℕ) → b ≡ 3 → IsLink b c (ways relay.ever) → ⊥
    from_three b same (inl first) = omega (arith, same, first.0)
    from_three b same (inr (inl second)) = omega (arith, same, second.0)
    from_three b same (inr (inr none)) = absurd none

plain_caps : Description One
plain_caps = record { media = []; fields = [] }

have_common : HaveCommon (caps_at relay.made false 1) (caps_at relay.made true 3)
unfolding plain_caps
have_common = (plain_caps, record { ordered = tt; values = tt; few = lit≤ tt }, refl, refl)

linkable : IsLinkable relay crossed (pad 1) (pad 3)
linkable = record {
  unended = λ ended. cc;
  free = λ taken. cc;
  forward = λ loops. omega (arith, stays_there 1 loops);
  common = λ lacks. lacks have_common;
}

pub lawful_rows : LawfulRows
unfolding edited_plan stickies
lawful_rows = record {
  lawful = IsAnswered.done relinking.when relinking.act (Some (pad 1)) 5 (turned 5)
      (Reaches.at (record { element = codes "i"; pad = codes "src" }) 3 5 (pad 1) refl (record { crossed = lit≤ tt; counted = refl; next = refl }))
      (Makes.relinks (record { element = codes "b"; pad = codes "sink" }) (pad 1) (pad 3) 5 refl linkable);
  late = λ at. omega (arith, at.counted);
  early = λ at. omega (arith, at.counted);
}

-- no link leaves the first sink either
stays_back : (c : ℕ) → Leads (turned 5).ever 2 c → c ≡ 2
stays_back c (Way.none a) = refl
stays_back c (Way.more a b d way link) = absurd (from_two b (stays_back b way) link)
  where
    from_two : (b : ℕ) → b ≡ 2 → IsLink b c (ways (turned 5).ever) → ⊥
    from_two b same (inl first) = omega (arith, same, first.0)
    from_two b same (inr (inl second)) = omega (arith, same, second.0)
    from_two b same (inr (inr (inl third))) = omega (arith, same, third.0)
    from_two b same (inr (inr (inr none))) = absurd none

have_common_back : HaveCommon (caps_at (turned 5).made false 1) (caps_at (turned 5).made true 2)
unfolding plain_caps
have_common_back = (plain_caps, record { ordered = tt; values = tt; few = lit≤ tt }, refl, refl)

linkable_back : IsLinkable (turned 5) crossed (pad 1) (pad 2)
unfolding edited_plan stickies
linkable_back = record {
  unended = λ ended. cc;
  free = λ taken. cc;
  forward = λ loops. omega (arith, stays_back 1 loops);
  common = λ lacks. lacks have_common_back;
}

pub falling_rows : FallingRows
unfolding edited_plan stickies
falling_rows = record {
  answered = IsAnswered.done turning_back.when turning_back.act (Some (pad 1)) 2 turned_back
      (Reaches.now_pad (record { element = codes "i"; pad = codes "src" }) 2 (pad 1) refl (record { crossed = lit≤ tt; open_yet = refl }))
      (Makes.relinks (record { element = codes "o"; pad = codes "sink" }) (pad 1) (pad 2) 2 refl linkable_back);
  falls = refl;
  out_of_order = λ stands. let order = stands.0 in omega arith;
  within = (lit≤ tt, lit≤ tt, tt);
}
