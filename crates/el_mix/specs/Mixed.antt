-- One frame of each pad in turn. The output is cut where some input was cut.
use Rattle.std.specs.Prelude.{ℕ, zero, suc, ◌+◌, ◌-◌, ◌*◌, ◌/◌, ◌==◌, Bool, true, false, List, [], ◌∷◌, ◌++◌, Option, Some, None, if◌then◌else◌, nat_lt, length, min, max, take, drop, replicate, flat_map}
use Rattle.flow_model.specs.Item.{Item, Buf, is_eos, body_of}
use Rattle.flow_model.specs.Looking.{bytes_of}
use Rattle.el_mix.specs.Mono.{Mono, width, time_of, silence}

-- whether a list has an item that passes a test
abbrev pub has : (Item → Bool) → List Item → Bool
has test [] = false
has test (x ∷ xs) = if test x then true else has test xs

-- how many frames a pad has
abbrev pub frames : Mono → List Item → ℕ
frames mono xs = length (bytes_of xs) / width mono

-- whether a pad, which had so many bytes before, has a buffer that ends at a frame
abbrev pub ends_at : Mono → ℕ → List Item → ℕ → Bool
ends_at mono got [] f = false
ends_at mono got (x ∷ xs) f =
    if (got + length (body_of x)) / width mono == f then true else ends_at mono (got + length (body_of x)) xs f

-- The cut points are the frames at which some pad's buffer ends, and 0.
abbrev pub is_cut : Mono → List (List Item) → ℕ → Bool
is_cut mono [] f = false
is_cut mono (xs ∷ xss) f = if ends_at mono 0 xs f then true else is_cut mono xss f

-- frame f of a pad, or silence where the pad has no such frame
abbrev pub frame : Mono → List Item → ℕ → List ℕ
frame mono xs f =
    if nat_lt f (frames mono xs) then take (width mono) (drop (f * width mono) (bytes_of xs)) else replicate (width mono) (silence mono.format)

-- n frames of all pads from a frame on
abbrev pub rows : Mono → List (List Item) → ℕ → ℕ → List ℕ
rows mono xss f zero = []
rows mono xss f (suc n) = flat_map (λ xs. frame mono xs f) xss ++ rows mono xss (suc f) n

-- the buffer from one frame to another, with its times by the numbers of the frames
abbrev pub piece : Mono → List (List Item) → ℕ → ℕ → Item
piece mono xss from to =
    Buf (record {
      body = rows mono xss from (to - from);
      pts = Some (time_of mono from);
      duration = Some (time_of mono to - time_of mono from);
      offset = Some from;
      discont = false;
    })

-- The buffers between the cut points: from the last one, over the n frames behind frame f.
abbrev pub mixed : Mono → List (List Item) → ℕ → ℕ → ℕ → List Item
mixed mono xss last f zero = []
mixed mono xss last f (suc n) =
    if is_cut mono xss (suc f) then piece mono xss last (suc f) ∷ mixed mono xss (suc f) (suc f) n else mixed mono xss last (suc f) n

-- Up to where frames are owed: to the least count of the pads without EOS, or to the longest pad.
abbrev pub lesser : ℕ → Option ℕ → ℕ
lesser n None = n
lesser n (Some m) = min n m

abbrev pub open_limit : Mono → List (List Item) → Option ℕ
open_limit mono [] = None
open_limit mono (xs ∷ xss) = if has is_eos xs then open_limit mono xss else Some (lesser (frames mono xs) (open_limit mono xss))

abbrev pub longest : Mono → List (List Item) → ℕ
longest mono [] = 0
longest mono (xs ∷ xss) = max (frames mono xs) (longest mono xss)

abbrev pub limit_by : ℕ → Option ℕ → ℕ
limit_by most None = most
limit_by most (Some n) = n

abbrev pub limit : Mono → List (List Item) → ℕ
limit mono xss = limit_by (longest mono xss) (open_limit mono xss)
