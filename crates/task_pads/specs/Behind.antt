-- What is behind a source pad, and what is told of the lane there.
use Rattle.std.specs.Prelude.{◌≡◌, ◌≤◌, ◌<◌, ◌==◌, cond, ℕ, Bool, true, false, List, length, drop, map, Option, None, Some}
use Rattle.gst_item.specs.declared.out.Out.{Out}
use Rattle.flow_model.specs.Item.{Item}
use Rattle.lane_core.specs.declared.ends.Outlet as outlets
use Rattle.lane_core.specs.Lane.{Lane, IsOf}
use Rattle.lane_core.specs.Room.{Limits}
use Rattle.task_pads.specs.declared.pad.Behind.{Behind}
use Rattle.task_pads.specs.declared.pad.Behind.TheVariants as behinds

-- Where a pad leads: nowhere; to a sink pad of the element of a number in the same task; or over the lane of a number,
-- made at a place of the pad, to a sink pad of the element of a number in another task.
pub data Goes : Type 0 where
  nowhere : Goes
  inside : ℕ → ℕ → Goes
  over : ℕ → ℕ → ℕ → ℕ → Goes

abbrev pub goes : {O : Type 0} → Behind O → Goes
goes behinds.Nothing = nowhere
goes (behinds.Element number hint pad) = inside number pad
goes (behinds.Lane lane element pad from outlet) = over lane element pad from

-- a pad leads nowhere, or it has a peer
abbrev pub leads_on : {O : Type 0} → Behind O → Bool
leads_on behinds.Nothing = false
leads_on (behinds.Element number hint pad) = true
leads_on (behinds.Lane lane element pad from outlet) = true

-- the place at which the element of the same task is looked for first
abbrev pub hint_in : {O : Type 0} → Behind O → Option ℕ
hint_in behinds.Nothing = None
hint_in (behinds.Element number hint pad) = Some hint
hint_in (behinds.Lane lane element pad from outlet) = None

-- the same way, but that the element is looked for first at this place
abbrev pub SetsHint : {O : Type 0} → ℕ → Behind O → Behind O → Type 0
SetsHint place (behinds.Element number hint pad) new = new ≡ behinds.Element number place pad
SetsHint place behinds.Nothing new = new ≡ behinds.Nothing
SetsHint place (behinds.Lane lane element pad from outlet) new = new ≡ behinds.Lane lane element pad from outlet

-- what is to cross a pad, of what was put out
abbrev pub item_of : Out → Item
item_of out = out.item

abbrev pub items_of : List Out → List Item
items_of outs = map item_of outs

-- What the outlet of a lane tells of itself.
pub record LaneEnd : Type 0 where
  pub id : List (List ℕ)
  pub place : ℕ
  pub limits : Limits
  -- how many items were sent
  pub count : ℕ
  -- how many puts were refused
  pub refusals : ℕ

-- a lane without an end has sent nothing
abbrev pub count_in : Option LaneEnd → ℕ
count_in None = 0
count_in (Some end) = end.count

abbrev pub place_in : Option LaneEnd → Option ℕ
place_in None = None
place_in (Some end) = Some end.place

-- where a limit of 2^40 is not reached: of the items that crossed a pad, and of those that went into its lane
abbrev pub IsUnderLimit : ℕ → Option LaneEnd → Type 0
IsUnderLimit crossed end = (crossed < 1099511627776) × (count_in end < 1099511627776)

-- the lane is of the table, has its room, and holds no more than were sent
abbrev pub EndReady : Option (List Lane) → Option LaneEnd → Type 0
EndReady tells None = Unit {0}
EndReady tells (Some end) = IsOf tells end.place end.limits end.count

module _ {O L : Type 0} (o : outlets.Ghosts O L) where
  abbrev pub lane_end : O → LaneEnd
  lane_end outlet = record { id = o.id outlet; place = o.place outlet; limits = o.limits outlet; count = o.count outlet; refusals = o.refusals outlet }

  abbrev pub end_in : Behind O → Option LaneEnd
  end_in behinds.Nothing = None
  end_in (behinds.Element number hint pad) = None
  end_in (behinds.Lane lane element pad from outlet) = Some (lane_end outlet)

  -- how many items were sent into the lane of a number, where that is behind
  abbrev pub sent_in : ℕ → Behind O → Option ℕ
  sent_in wanted (behinds.Lane lane element pad from outlet) = cond (lane == wanted) (Some (o.count outlet)) None
  sent_in wanted behinds.Nothing = None
  sent_in wanted (behinds.Element number hint pad) = None

  -- the list went into the lane
  abbrev pub WentIn : Behind O → List Item → Type 0
  WentIn (behinds.Lane lane element pad from outlet) list = o.sent outlet list
  WentIn behinds.Nothing list = ⊥
  WentIn (behinds.Element number hint pad) list = ⊥

  -- of what crossed the pad, all from the place on at which the lane was made went into it
  abbrev pub SentIn : Behind O → List Item → Type 0
  SentIn (behinds.Lane lane element pad from outlet) h = (from ≤ length h) × o.sent outlet (drop from h)
  SentIn behinds.Nothing h = Unit {0}
  SentIn (behinds.Element number hint pad) h = Unit {0}
