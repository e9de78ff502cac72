-- Chunks that are decided, and further bytes of them.
use Rattle.std.proofs.Common.{◌≡◌, ℕ, ◌+◌, ◌<◌, ◌≤◌, inl, inr, Bool, true, false, Option, Some, None, is_none, List, ◌++◌, length, drop, get_or, codes, cond, ◌==◌, refl, sym, ap, subst, ◌∙◌, arith}
use Rattle.std.proofs.lemmas.Bool.{le-ltb}
use Rattle.std.proofs.lemmas.List.{length-append}
use Rattle.std.specs.Prelude.{unwrap_or}
use Rattle.byteorder.specs.Endian.{little_from}
use Rattle.wav_format.specs.declared.format.SampleFormat.{SampleFormat}
use Rattle.wav_format.specs.Chunks.{IsPassed, Spot, begins, body_at, body_size, chunk_length, format_after, longest_head}
use Rattle.wav_format.specs.Cuts.{BodyCut, HasRoom, IsDecided, body_length, deciding, open_length}
use Rattle.wav_format.specs.Format.{AreBytes, extensible, format_of}
use Rattle.wav_format.proofs.Bodies.{bytes-drop, bytes-take}
use Rattle.wav_format.proofs.Formats.{format_to_given}
use Rattle.wav_format.proofs.Kept.{Step, kept_all, step}
use Rattle.wav_format.proofs.Least.{body_length_of, deciding_fmt, deciding_other, longer_fits, longer_same, next_within, stays_open}
use Rattle.wav_format.proofs.Longer.{begins_more, ext, length_more}
use Rattle.wav_format.proofs.Whole.{passed}

-- of a `fmt ` chunk, its body decides
open_named : (left : List ℕ) → begins (codes "fmt ") left ≡ true → open_length left ≡ body_length (little_from 0 2 (body_at left) == extensible) (length (body_at left))
open_named left e = ap (λ b. cond b (body_length (little_from 0 2 (body_at left) == extensible) (length (body_at left))) None) e

open_other : (left : List ℕ) → begins (codes "fmt ") left ≡ false → open_length left ≡ None
open_other left e = ap (λ b. cond b (body_length (little_from 0 2 (body_at left) == extensible) (length (body_at left))) None) e

step_of : (extended : Bool) (k : ℕ) (o : Option ℕ) → body_length extended k ≡ o → Step extended k o
step_of extended k o e = subst (Step extended k) e (step extended k)

pub said_step : (left : List ℕ) (o : Option ℕ) → begins (codes "fmt ") left ≡ true → open_length left ≡ o → Step (little_from 0 2 (body_at left) == extensible) (length (body_at left)) o
said_step left o e said = step_of (little_from 0 2 (body_at left) == extensible) (length (body_at left)) o (sym (open_named left e) ∙ said)

-- a body that is long decides nothing more
none_open : (extended : Bool) (k : ℕ) → Step extended k None → body_length extended k ≡ None
none_open false k (long, wide) = rw (le-ltb k 4 (omega (arith, long)), le-ltb k 7 (omega (arith, long)), le-ltb k 8 (omega (arith, long)), le-ltb k 12 (omega (arith, long)), le-ltb k 16 long) refl
none_open true k (long, wide) =
    let far = wide refl in
    rw (le-ltb k 4 (omega (arith, long)), le-ltb k 7 (omega (arith, long)), le-ltb k 8 (omega (arith, long)), le-ltb k 12 (omega (arith, long)), le-ltb k 16 long, le-ltb k 24 (omega (arith, far)), le-ltb k 26 far) refl

module _ (given longer : List ℕ) (same : (i : ℕ) → i < length given → get_or longer i 0 ≡ get_or given i 0) (fits : length given ≤ length longer) where
  tag_same : 16 ≤ length given → little_from 0 2 longer ≡ little_from 0 2 given
  tag_same long =
      let a = same 0 (omega (arith, long)) in
      let b = same 1 (omega (arith, long)) in
      omega (arith, a, b)

  step_same : Step (little_from 0 2 given == extensible) (length given) None → Step (little_from 0 2 longer == extensible) (length longer) None
  step_same (long, wide) = (omega (arith, long, fits), λ e. let far = wide (ap (λ n. n == extensible) (sym (tag_same long)) ∙ e) in omega (arith, far, fits))

-- the format of a body that says all of it
same_format : (tag tag' channels channels' rate rate' bits bits' : ℕ) → tag ≡ tag' → channels ≡ channels' → rate ≡ rate' → bits ≡ bits'
    → ◌≡◌ {A = SampleFormat} (record { tag = tag; channels = channels; rate = rate; bits = bits }) (record { tag = tag'; channels = channels'; rate = rate'; bits = bits' })
same_format tag tag' channels channels' rate rate' bits bits' a b c d = cc

true_same : (given longer : List ℕ) (wide : Bool) → ((i : ℕ) → i < length given → get_or longer i 0 ≡ get_or given i 0) → 16 ≤ length given → (wide ≡ true → 26 ≤ length given) → cond wide (little_from 24 2 longer) (little_from 0 2 longer) ≡ cond wide (little_from 24 2 given) (little_from 0 2 given)
true_same given longer true same long far =
    let f = far refl in
    let a = same 24 (omega (arith, f)) in
    let b = same 25 (omega (arith, f)) in
    omega (arith, a, b)
true_same given longer false same long far =
    let a = same 0 (omega (arith, long)) in
    let b = same 1 (omega (arith, long)) in
    omega (arith, a, b)

format_same : (given longer : List ℕ) → ((i : ℕ) → i < length given → get_or longer i 0 ≡ get_or given i 0) → length given ≤ length longer → Step (little_from 0 2 given == extensible) (length given) None → format_of longer ≡ format_of given
format_same given longer same fits (long, far) =
    let g2 = same 2 (omega (arith, long)) in
    let g3 = same 3 (omega (arith, long)) in
    let g4 = same 4 (omega (arith, long)) in
    let g5 = same 5 (omega (arith, long)) in
    let g6 = same 6 (omega (arith, long)) in
    let g7 = same 7 (omega (arith, long)) in
    let g14 = same 14 (omega (arith, long)) in
    let g15 = same 15 (omega (arith, long)) in
    let tag = tag_same given longer same fits long in
    same_format _ _ _ _ _ _ _ _
    (ap (λ n. cond (n == extensible) (little_from 24 2 longer) (little_from 0 2 longer)) tag ∙ true_same given longer (little_from 0 2 given == extensible) same long far)
    (let x : little_from 2 2 longer ≡ little_from 2 2 given = omega (arith, g2, g3) in x)
    (let x : little_from 4 4 longer ≡ little_from 4 4 given = omega (arith, g4, g5, g6, g7) in x)
    (let x : little_from 14 2 longer ≡ little_from 14 2 given = omega (arith, g14, g15) in x)

-- ---- further bytes

still_named : (s : Spot) (more : List ℕ) → IsDecided s → begins (codes "fmt ") (s.left ++ more) ≡ begins (codes "fmt ") s.left
still_named s more d = begins_more (codes "fmt ") s.left more (let h = d.headed.headed in omega (arith, h))

format_by : (s : Spot) (more : List ℕ) → IsDecided s → (named : Bool) → begins (codes "fmt ") s.left ≡ named → cond named (Some (format_of (body_at (s.left ++ more)))) s.known ≡ cond named (Some (format_of (body_at s.left))) s.known
format_by s more d true e =
    let long = d.headed.headed in
    ap Some (format_same (body_at s.left) (body_at (s.left ++ more)) (longer_same s.left more long) (longer_fits s.left more long) (said_step s.left None e d.said))
format_by s more d false e = refl

pub format_still : (s : Spot) (more : List ℕ) → IsDecided s → format_after (ext s more) ≡ format_after s
format_still s more d =
    ap (λ b. cond b (Some (format_of (body_at (s.left ++ more)))) s.known) (still_named s more d) ∙ format_by s more d (begins (codes "fmt ") s.left) refl

said_by : (s : Spot) (more : List ℕ) → IsDecided s → (named : Bool) → begins (codes "fmt ") s.left ≡ named → open_length (s.left ++ more) ≡ None
said_by s more d true e =
    let long = d.headed.headed in
    let longer = body_at (s.left ++ more) in
    open_named (s.left ++ more) (still_named s more d ∙ e)
    ∙ none_open (little_from 0 2 longer == extensible) (length longer) (step_same (body_at s.left) longer (longer_same s.left more long) (longer_fits s.left more long) (said_step s.left None e d.said))
said_by s more d false e = open_other (s.left ++ more) (still_named s more d ∙ e)

pub decided_more : (s : Spot) (more : List ℕ) → AreBytes (s.left ++ more) → IsDecided s → IsDecided (ext s more)
decided_more s more fine d =
    let long = d.headed.headed in
    let room = d.room.room in
    record {
      headed = record { headed = omega (arith, long, length-append s.left more); other = begins_more (codes "data") s.left more (omega (arith, long)) ∙ d.headed.other };
      room = record {
        room = omega (arith, room, length_more s.left more long);
        format = λ e.
            let named = sym (still_named s more d) ∙ e in
            stays_open s.left more long fine (kept_all (body_at s.left) (body_at (s.left ++ more)) (longer_fits s.left more long) (longer_same s.left more long) (said_step s.left None named d.said)) (d.room.format named);
      };
      said = said_by s more d (begins (codes "fmt ") s.left) refl;
    }

-- ---- at its end

pub decided_passed : (s : Spot) → IsDecided s → chunk_length s.left ≤ length s.left → IsPassed longest_head s
decided_passed s d whole = passed s.at s.known s.left d.headed.headed d.headed.other (record { room = d.room.room; format = d.room.format }) whole

pub decided_cut : (s : Spot) → IsDecided s → length s.left < chunk_length s.left → BodyCut s
decided_cut s d short = record { headed = d.headed; room = d.room; short = short }

deciding_by : (s : Spot) → IsDecided s → (named : Bool) → begins (codes "fmt ") s.left ≡ named → deciding s ≡ s.at + chunk_length s.left + cond (is_none (cond named (Some (format_of (body_at s.left))) s.known)) 4 8
deciding_by s d true e =
    let far = deciding_fmt s d.headed.headed e in
    let none = sym (open_named s.left e) ∙ d.said in
    far ∙ ap (λ o. s.at + 8 + unwrap_or o (chunk_length s.left)) none ∙ (let x : s.at + 8 + chunk_length s.left ≡ s.at + chunk_length s.left + 8 = omega arith in x)
deciding_by s d false e = deciding_other s d.headed.headed e

-- more is decided by the head of the next chunk
pub deciding_ahead : (s : Spot) → IsDecided s → deciding s ≡ s.at + chunk_length s.left + cond (is_none (format_after s)) 4 8
deciding_ahead s d = deciding_by s d (begins (codes "fmt ") s.left) refl

-- ---- a `fmt ` body that is cut before a place that decides

pub few_more : (extended : Bool) (k m : ℕ) → Step extended k (Some m) → (m ≤ 26) × (k ≤ 25)
few_more extended k m (inl (e, lt)) = (omega (arith, e, lt), omega (arith, lt))
few_more extended k m (inr (inl (e, ge, lt))) = (omega (arith, e, lt), omega (arith, lt))
few_more extended k m (inr (inr (inl (e, is)))) = (omega (arith, e), omega (arith, is))
few_more extended k m (inr (inr (inr (inl (e, ge, lt))))) = (omega (arith, e), omega (arith, lt))
few_more extended k m (inr (inr (inr (inr (inl (e, ge, lt)))))) = (omega (arith, e, lt), omega (arith, lt))
few_more extended k m (inr (inr (inr (inr (inr (inl (x, e, ge, lt))))))) = (omega (arith, e), omega (arith, lt))
few_more extended k m (inr (inr (inr (inr (inr (inr (x, e, ge, lt))))))) = (omega (arith, e, lt), omega (arith, lt))

named_by : (left : List ℕ) (m : ℕ) (named : Bool) → begins (codes "fmt ") left ≡ named → open_length left ≡ Some m → begins (codes "fmt ") left ≡ true
named_by left m true e said = e
named_by left m false e said = let clash = sym (open_other left e) ∙ said in absurd cc

pub open_is_named : (left : List ℕ) (m : ℕ) → open_length left ≡ Some m → begins (codes "fmt ") left ≡ true
open_is_named left m said = named_by left m (begins (codes "fmt ") left) refl said

-- what is asked for lies in the chunk, of which little is there
pub record Opens (s : Spot) (m : ℕ) : Type 0 where
  pub cut : length s.left < chunk_length s.left
  pub few : length s.left ≤ 33
  pub next : deciding s ≡ s.at + 8 + m

pub opens : (s : Spot) (m : ℕ) → AreBytes s.left → 8 ≤ length s.left → HasRoom s → open_length s.left ≡ Some m → Opens s m
opens s m fine long room said =
    let left = s.left in
    let given = body_at left in
    let e = open_is_named left m said in
    let st = said_step left (Some m) e said in
    let within = next_within given (body_size left) m (bytes-take (body_size left) (drop 8 left) (bytes-drop 8 left fine)) (format_to_given given (body_size left) (room.format e)) st in
    let after = within.0 in
    let inside = within.1 in
    let few = (few_more (little_from 0 2 given == extensible) (length given) m st).1 in
    record {
      cut = omega (arith, after, inside, body_length_of left, long);
      few = omega (arith, after, inside, few, body_length_of left, long);
      next = deciding_fmt s long e ∙ ap (λ o. s.at + 8 + unwrap_or o (chunk_length s.left)) (sym (open_named left e) ∙ said);
    }
