-- How the bodies that are ahead at the sink pads stand to the pads' lists.
use Rattle.std.specs.Prelude.{◌≡◌, ◌<◌, ◌≤◌, ◌^◌, ℕ, ◌+◌, ◌*◌, ◌%◌, ◌==◌, Bool, true, false, List, [], ◌∷◌, ◌++◌, if◌then◌else◌, length, drop}
use Rattle.gst_time.specs.declared.time.TheConstants.{LIMIT}
use Rattle.flow_model.specs.Item.{Item, is_eos}
use Rattle.flow_model.specs.Looking.{bytes_of}
use Rattle.el_mix.specs.Mono.{Mono, width, time_of}
use Rattle.el_mix.specs.Mixed.{has, frames, ends_at, limit}
use Rattle.el_mix.specs.Line.{all_some}
use Rattle.el_mix.specs.Turns.{Ahead}

-- bodies one behind the other, and the frames at which one of them ends
abbrev pub joined : List (List ℕ) → List ℕ
joined [] = []
joined (b ∷ bs) = b ++ joined bs

abbrev pub ends_in : ℕ → ℕ → List (List ℕ) → ℕ → Bool
ends_in w got [] k = false
ends_in w got (b ∷ bs) k = if got + length b == k * w then true else ends_in w (got + length b) bs k

-- each of them is whole frames
abbrev pub AllWhole : ℕ → List (List ℕ) → Type 0
AllWhole w [] = Unit {0}
AllWhole w (b ∷ bs) = (length b % w ≡ 0) × AllWhole w bs

-- A pad's bodies behind a frame: all its bytes from there on, cut where its buffers end.
pub record Lined (mono : Mono) (next : ℕ) (bodies : List (List ℕ)) (xs : List Item) : Type 0 where
  pub bytes : drop (next * width mono) (bytes_of xs) ≡ joined bodies
  pub ends : (k : ℕ) → 0 < k → ends_at mono 0 xs (next + k) ≡ ends_in (width mono) 0 bodies k
  pub whole : AllWhole (width mono) bodies
  pub some : all_some bodies ≡ true

abbrev pub AllLined : Mono → ℕ → List Ahead → List (List Item) → Type 0
AllLined mono next [] [] = Unit {0}
AllLined mono next [] (xs ∷ xss) = ⊥
AllLined mono next (l ∷ ls) [] = ⊥
AllLined mono next (l ∷ ls) (xs ∷ xss) = ((has is_eos xs ≡ l.0) × Lined mono next l.1 xs) × AllLined mono next ls xss

-- the time of the end of each pad's frames fits, and so does the number of its bytes
abbrev pub AllFit : Mono → List (List Item) → Type 0
AllFit mono [] = Unit {0}
AllFit mono (xs ∷ xss) = ((time_of mono (frames mono xs) < LIMIT) × (length (bytes_of xs) < 2 ^ 62)) × AllFit mono xss

-- frames up to one are put out, whose time is known, and the bodies behind it are ahead
pub record Ready (mono : Mono) (next reached : ℕ) (ls : List Ahead) (xss : List (List Item)) : Type 0 where
  pub lined : AllLined mono next ls xss
  pub within : next ≤ limit mono xss
  pub fits : AllFit mono xss
  pub time : reached ≡ time_of mono next
