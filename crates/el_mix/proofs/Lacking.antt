-- The pad that is wanted, by the pads' lists.
use Rattle.std.proofs.Common.{◌≡◌, ◌<◌, ◌≤◌, ℕ, zero, suc, ◌+◌, ◌-◌, ◌*◌, ◌/◌, ◌%◌, Bool, true, false, if◌then◌else◌, leb, List, [], ◌∷◌, ◌++◌, Option, Some, None, length, drop, map, refl, sym, ap, ◌∙◌, length-append, length-drop, arith}
use Rattle.std.proofs.lemmas.Bool.{le-leb, lt-leb}
use Rattle.std.proofs.Math.Nat.{le-div_iff_mul-le, div-le_of_le-mul}
use Rattle.gst_value.specs.Description.{Description}
use Rattle.gst_value.specs.declared.one.One.{One}
use Rattle.flow_model.specs.Item.{Item, is_eos}
use Rattle.flow_model.specs.Looking.{bytes_of}
use Rattle.flow_model.specs.Call.{Call}
use Rattle.el_mix.specs.declared.channel.Channel.{Channel}
use Rattle.el_mix.specs.declared.mix.Mix.{Mix}
use Rattle.el_mix.specs.Mono.{Mono, mono_of, width}
use Rattle.el_mix.specs.Mixed.{has, frames}
use Rattle.el_mix.specs.Agreed.{or_else}
use Rattle.el_mix.specs.Reopened.{reopenings}
use Rattle.el_mix.specs.Line.{is_none}
use Rattle.el_mix.specs.Lined.{joined, Lined}
use Rattle.el_mix.specs.Taking.{hears, settled}
use Rattle.el_mix.specs.Standing.{Counts, CountEach, Waits, WaitEach, opened, limit_in}
use Rattle.el_mix.specs.Wanted.{lowest, is_short, is_unstarted, else_lowest}
use Rattle.el_mix.specs.Lacking.{frames_by, lacks_frames, lacks_start, wanted_of}
use Rattle.el_mix.specs.Relation.{wanted, section_of, Mixes}
use Rattle.el_mix.proofs.Mixing.{width_some}
use Rattle.el_mix.proofs.Ends.{whole_is, some_rest}

-- a body of whole frames that is not empty has a frame
frame_some : (w n : ℕ) → n % w ≡ 0 → 0 < n → w ≤ n
frame_some w n e some = go (n / w) (whole_is w n e)
  where
    go : (q : ℕ) → q * w ≡ n → w ≤ n
    go zero is = absurd (omega (arith, is, some))
    go (suc q) is = omega (arith, is)

one_more : (next w all b more : ℕ) → all - next * w ≡ b + more → 0 < w → w ≤ b → suc next * w ≤ all
one_more next w all b more e some le = omega (arith, e, some, le)

-- the bodies that wait are those behind a frame
lined_none : (mono : Mono) (next : ℕ) (bs : List (List ℕ)) (xs : List Item) → Lined mono next bs xs → is_none bs ≡ leb (frames mono xs) next
lined_none mono next [] xs l =
    let rest = length-drop (next * width mono) (bytes_of xs) in
    let none : length (drop (next * width mono) (bytes_of xs)) ≡ 0 = ap length l.bytes in
    let most : length (bytes_of xs) ≤ width mono * next = omega (arith, rest, none) in
    sym (le-leb (frames mono xs) next (div-le_of_le-mul (width mono) most))
lined_none mono next (b ∷ bs) xs l =
    let rest = length-drop (next * width mono) (bytes_of xs) in
    let more : length (drop (next * width mono) (bytes_of xs)) ≡ length (b ++ joined bs) = ap length l.bytes in
    let both = length-append b (joined bs) in
    let one = frame_some (width mono) (length b) l.whole.0 (some_rest b bs l.some).0 in
    let least : suc next * width mono ≤ length (bytes_of xs) =
    one_more next (width mono) (length (bytes_of xs)) (length b) (length (joined bs)) (sym rest ∙ more ∙ both) (width_some mono) one in
    sym (lt-leb (frames mono xs) next ((le-div_iff_mul-le (width_some mono)).1 least))

-- a pad that is short
waits_none : (next : ℕ) (c : Channel) (xs : List Item) (o : Option (Description One)) → hears c ≡ o → Waits next c xs → is_none c.waiting.ahead ≡ leb (frames_by o xs) next
waits_none next c xs None e w = ap is_none (w.none e).1 ∙ sym (le-leb 0 next (omega arith))
waits_none next c xs (Some caps) e w = lined_none (mono_of caps) next c.waiting.ahead xs (w.some caps e)

short_is : (next : ℕ) (c : Channel) (xs : List Item) → settled c ≡ c → Counts c xs → Waits next c xs → is_short c ≡ lacks_frames next xs
short_is next c xs s k w =
    ap (λ (b : Bool). if b then false else is_none c.waiting.rest) k.ended
    ∙ ap (λ (t : Bool). if ended then false else t)
    (ap (λ (z : Channel). is_none z.waiting.ahead) s ∙ waits_none next c xs (hears c) refl w ∙ ap (λ o. leb (frames_by o xs) next) k.caps)
  where
    ended : Bool
    ended = has is_eos xs

lowest_short : (next pad : ℕ) (cs : List Channel) (xss : List (List Item)) → map settled cs ≡ cs → CountEach cs xss → WaitEach next cs xss → lowest is_short pad cs ≡ lowest (lacks_frames next) pad xss
lowest_short next pad [] [] s k w = refl
lowest_short next pad [] (xs ∷ xss) s k w = absurd k
lowest_short next pad (c ∷ cs) [] s k w = absurd k
lowest_short next pad (c ∷ cs) (xs ∷ xss) s k w =
    ap (λ (b : Bool). if b then Some pad else lowest is_short (suc pad) cs) (short_is next c xs (parts (settled c) c (map settled cs) cs s).0 k.0 w.0)
    ∙ ap (λ o. if lacks_frames next xs then Some pad else o) (lowest_short next (suc pad) cs xss (parts (settled c) c (map settled cs) cs s).1 k.1 w.1)
  where
    parts : (a b : Channel) (ps qs : List Channel) → a ∷ ps ≡ b ∷ qs → (a ≡ b) × (ps ≡ qs)
    parts a b ps qs e = (cc, cc)

-- a pad that has not started
lowest_unstarted : (pad : ℕ) (cs : List Channel) (xss : List (List Item)) → CountEach cs xss → lowest is_unstarted pad cs ≡ lowest lacks_start pad xss
lowest_unstarted pad [] [] k = refl
lowest_unstarted pad [] (xs ∷ xss) k = absurd k
lowest_unstarted pad (c ∷ cs) [] k = absurd k
lowest_unstarted pad (c ∷ cs) (xs ∷ xss) k =
    ap (λ (b : Bool). if (if b then false else true) then Some pad else lowest is_unstarted (suc pad) cs) k.0.started
    ∙ ap (λ o. if lacks_start xs then Some pad else o) (lowest_unstarted (suc pad) cs xss k.1)

else_is : (o : Option ℕ) (cs : List Channel) → else_lowest o cs ≡ or_else o (lowest is_unstarted 0 cs)
else_is None cs = refl
else_is (Some pad) cs = refl

wanted_is : (m : Mix) (took : List (List Call)) (put : List Item) → Mixes m took put → wanted m ≡ wanted_of (reopenings (section_of took) took)
wanted_is m took put h =
    let xss : List (List Item) = reopenings (section_of took) took in
    let short = lowest_short m.at.next 0 m.channels.items xss h.holds.each.settled_is h.holds.each.counts h.holds.waits in
    else_is (lowest is_short 0 m.channels.items) m.channels.items
    ∙ ap (λ o. or_else o (lowest is_unstarted 0 m.channels.items)) (short ∙ ap (λ n. lowest (lacks_frames n) 0 xss) h.holds.placed.next_is)
    ∙ ap (or_else (wants_frames xss)) (lowest_unstarted 0 m.channels.items xss h.holds.each.counts)
  where
    wants_frames : List (List Item) → Option ℕ
    wants_frames xss = lowest (lacks_frames (limit_in (opened xss) xss)) 0 xss

pub short_wanted : (m : Mix) (given : List Channel) (pad : ℕ) → given ≡ m.channels.items → Some pad ≡ lowest is_short 0 given → (took : List (List Call)) (put : List Item) → Mixes m took put
    → Some pad ≡ wanted_of (reopenings (section_of took) took)
short_wanted m given pad is e took put h = ap (λ (o : Option ℕ). else_lowest o m.channels.items) (e ∙ ap (lowest is_short 0) is) ∙ wanted_is m took put h

pub unstarted_wanted : (m : Mix) (given rest : List Channel) (o : Option ℕ) → given ≡ m.channels.items → rest ≡ m.channels.items → None ≡ lowest is_short 0 given
    → o ≡ lowest is_unstarted 0 rest → (took : List (List Call)) (put : List Item) → Mixes m took put → o ≡ wanted_of (reopenings (section_of took) took)
unstarted_wanted m given rest o is same none e took put h =
    e ∙ ap (lowest is_unstarted 0) same ∙ ap (λ (p : Option ℕ). else_lowest p m.channels.items) (none ∙ ap (lowest is_short 0) is) ∙ wanted_is m took put h
