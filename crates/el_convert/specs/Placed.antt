-- The allowed caps of a converter by places: a setting is a place in what the converter puts out, from which on it
-- counts, and the caps that are allowed from there. A place is the number of the items before it, the FLUSH_STOPs among
-- them.
use Rattle.std.specs.Prelude.{◌≡◌, ⊤, ℕ, false, nat_le, List, [], ◌∷◌, ◌++◌, length, IsOk, if◌then◌else◌}
use Rattle.gst_caps.specs.declared.caps.Caps.{Caps}
use Rattle.flow_model.specs.Item.{Item, is_flush_stop}
use Rattle.flow_model.specs.Call.{Call, Feed, Act, Drain, Set, Allowed}
use Rattle.flow_model.specs.Rule.{Response, Fed, called}
use Rattle.el_convert.specs.Converts.{known, convert_answer, converts}

-- The allowed caps at a place: those of the last setting whose place is at most this one, and the first ones where
-- there is none. Settings come in the order of their places.
abbrev pub allowed_at : Caps → List (ℕ × Caps) → ℕ → Caps
allowed_at first [] n = first
allowed_at first (setting ∷ later) n = if nat_le setting.0 n then allowed_at setting.1 later n else first

-- the rule of a converter where the allowed caps are those at the place behind all that was put out
abbrev pub converts_placed : Caps → List (ℕ × Caps) → Response
converts_placed first settings fed x = convert_answer (record (known first fed) { allowed = allowed_at first settings (length fed.out) }) x

-- the setting that a call makes at a place, if it makes one
abbrev pub setting_at : ℕ → Call → List (ℕ × Caps)
setting_at place (Act (Set (Allowed caps))) = (place, caps) ∷ []
setting_at place _ = []

-- the settings that calls make, each at the place behind all that was put out when it came
abbrev pub settings_in : Caps → Fed → List Call → List (ℕ × Caps)
settings_in first fed [] = []
settings_in first fed (call ∷ calls) = setting_at (length fed.out) call ++ settings_in first (called (converts first) fed call) calls

-- the calls without those that set something
abbrev pub unset : List Call → List Call
unset [] = []
unset (Feed x ∷ calls) = Feed x ∷ unset calls
unset (Act Drain ∷ calls) = Act Drain ∷ unset calls
unset (Act (Set setting) ∷ calls) = unset calls

-- an item is no fault: it is a FLUSH_STOP, or the section is over, or an answer is owed for it
abbrev pub IsTaken : Response → Fed → Item → Type 0
IsTaken respond fed x = is_flush_stop x ≡ false → fed.over ≡ false → IsOk (respond fed x)

-- none of the items among the calls is a fault
abbrev pub TakesAll : Response → Fed → List Call → Type 0
TakesAll respond fed [] = ⊤
TakesAll respond fed (Feed x ∷ calls) = IsTaken respond fed x × TakesAll respond (called respond fed (Feed x)) calls
TakesAll respond fed (Act mark ∷ calls) = TakesAll respond (called respond fed (Act mark)) calls
