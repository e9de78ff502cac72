-- Rules of elements. A rule says what an element owes: from what its sink pads were given, for each source
-- pad and each section, the items that are to cross that pad in that section.
use Rattle.std.specs.Prelude.{ℕ, Bool, true, false, List, [], ◌∷◌, ◌++◌, Option, Result, Ok, Err, filter, if◌then◌else◌}
use Rattle.gst_value.specs.Description.{Description}
use Rattle.gst_value.specs.declared.one.One.{One}
use Rattle.gst_caps.specs.declared.caps.Caps.{Caps}
use Rattle.flow_model.specs.declared.fault.StreamKind.{StreamKind}
use Rattle.flow_model.specs.Item.{Item, Ev, Eos, is_flush_stop, is_eos}
use Rattle.flow_model.specs.Call.{Call, Feed, Act, Drain, Set}
use Rattle.flow_model.specs.Section.{section}

-- what is to cross a pad, section by section
abbrev pub Owed : Type 0
Owed = ℕ → List Item

-- from the calls that each sink pad was given, and the number of a source pad
abbrev pub Rule : Type 0
Rule = List (List Call) → ℕ → Owed

-- why a rule goes no further
pub data Fault : Type 0 where
  NotNegotiated : (offered : Option (Description One)) (wanted : Caps) → Fault
  BadStream : (place : ℕ) (kind : StreamKind) → Fault
  TooLong : (a b : ℕ) → Fault

-- How far an element with one sink pad has come: what counts of what it was given, what it owes for that,
-- and whether its section is over, by an EOS or a fault. An item behind that does not count.
pub record Fed : Type 0 where
  pub given : List Call
  pub out : List Item
  pub over : Bool

abbrev pub unfed : Fed
unfed = record { given = []; out = []; over = false }

-- What an element with one sink pad owes for its next item, where its section is not over. It looks back over
-- what it was given and what it owed for that. No FLUSH_STOP is asked about.
abbrev pub Response : Type 0
Response = Fed → Item → Result (List Item) Fault

abbrev pub responded : Fed → Item → Result (List Item) Fault → Fed
responded s x (Ok ys) = record { given = s.given ++ Feed x ∷ []; out = s.out ++ ys; over = is_eos x }
responded s x (Err fault) = record { given = s.given; out = s.out; over = true }

-- FLUSH_STOP crosses, and a new section begins
abbrev pub flushed : Fed → Item → Fed
flushed s x = record { given = s.given ++ Feed x ∷ []; out = s.out ++ x ∷ []; over = false }

abbrev pub fed_item : Response → Fed → Item → Fed
fed_item respond s x = if is_flush_stop x then flushed s x else (if s.over then s else responded s x (respond s x))

-- A drain puts out what EOS would make the element put out, without the EOS.
abbrev pub not_eos : Item → Bool
not_eos x = if is_eos x then false else true

abbrev pub drained : Fed → Result (List Item) Fault → Fed
drained s (Ok ys) = record { given = s.given ++ Act Drain ∷ []; out = s.out ++ filter not_eos ys; over = s.over }
drained s (Err fault) = record { given = s.given; out = s.out; over = true }

-- A property that is set counts from there on, also for later sections.
abbrev pub called : Response → Fed → Call → Fed
called respond s (Feed x) = fed_item respond s x
called respond s (Act Drain) = if s.over then s else drained s (respond s (Ev Eos))
called respond s (Act (Set setting)) = record s { given = s.given ++ Act (Set setting) ∷ [] }

abbrev pub all_called : Response → Fed → List Call → Fed
all_called respond s [] = s
all_called respond s (c ∷ cs) = all_called respond (called respond s c) cs

-- what is owed for all that was given, with the FLUSH_STOPs
abbrev pub owed_for : Response → List Call → List Item
owed_for respond calls = (all_called respond unfed calls).out

-- what the only sink pad was given
abbrev pub only : List (List Call) → List Call
only [] = []
only (cs ∷ css) = cs

-- the rule of an element with one sink pad, whose source pads all get the same
abbrev pub single : Response → Rule
single respond inputs port j = section j (owed_for respond (only inputs))

-- identity and queue pass all
abbrev pub passes : Response
passes fed x = Ok (x ∷ [])

-- What an element answers to one item more on a sink pad, by what its sink pads were given: what it owes for it, or the fault
-- of its rule.
abbrev pub Answers : Type 0
Answers = List (List Call) → ℕ → Item → Result (List Item) Fault
