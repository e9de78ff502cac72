-- In no section anything is owed behind an EOS, nor a FLUSH_STOP; and where nothing was given, nothing is owed.
use Rattle.std.proofs.Common.{◌≡◌, ℕ, zero, suc, Bool, true, false, if◌then◌else◌, List, [], ◌∷◌, ◌++◌, replicate, Option, Some, None, refl}
use Rattle.gst_value.specs.Description.{Description}
use Rattle.gst_value.specs.declared.one.One.{One}
use Rattle.flow_model.specs.Item.{Item, Ev, Eos, is_eos}
use Rattle.flow_model.specs.Section.{IsPlain}
use Rattle.flow_model.specs.Call.{Call}
use Rattle.el_mix.specs.Mono.{Mono, mono_of}
use Rattle.el_mix.specs.Mixed.{has, is_cut, piece, mixed, limit}
use Rattle.el_mix.specs.Agreed.{lowest_caps, all_agreed}
use Rattle.el_mix.specs.Reopened.{reopened, reopenings}
use Rattle.el_mix.specs.Mixes.{is_start, all_have, stream_start, eos_if, started, begun, mixes}
use Rattle.el_mix.proofs.Owing.{not_started}
use Rattle.gst_value.proofs.Basics.{from_false as never}

eos_plain : (b : Bool) → IsPlain (eos_if b)
eos_plain true = (refl, (λ e. refl), tt)
eos_plain false = tt

buffers_plain : (mono : Mono) (xss : List (List Item)) (last f n : ℕ) (rest : List Item) → IsPlain rest → IsPlain (mixed mono xss last f n ++ rest)
buffers_plain mono xss last f zero rest h = h
buffers_plain mono xss last f (suc n) rest h =
    go (is_cut mono xss (suc f)) (buffers_plain mono xss (suc f) (suc f) n rest h) (buffers_plain mono xss last (suc f) n rest h)
  where
    go : (b : Bool) → IsPlain (mixed mono xss (suc f) (suc f) n ++ rest) → IsPlain (mixed mono xss last (suc f) n ++ rest)
        → IsPlain ((if b then piece mono xss last (suc f) ∷ mixed mono xss (suc f) (suc f) n else mixed mono xss last (suc f) n) ++ rest)
    go true cut on = (refl, never, cut)
    go false cut on = on

started_plain : (o : Option (Description One)) (xss : List (List Item)) → IsPlain (started o xss)
started_plain None xss = go (all_have is_eos xss)
  where
    go : (b : Bool) → IsPlain (if b then stream_start xss ∷ Ev Eos ∷ [] else [])
    go true = (refl, never, (refl, (λ e. refl), tt))
    go false = tt
started_plain (Some caps) xss =
    let mono = mono_of caps in
    (refl, never, (refl, never, (refl, never, buffers_plain mono xss 0 0 (limit mono xss) (eos_if (all_have is_eos xss)) (eos_plain (all_have is_eos xss)))))

begun_plain : (xss : List (List Item)) → IsPlain (begun xss)
begun_plain xss = go (all_have is_start xss)
  where
    go : (b : Bool) → IsPlain (if b then started (lowest_caps xss) xss else [])
    go true = started_plain (lowest_caps xss) xss
    go false = tt

pub mixes_plain : (took : List (List Call)) (port j : ℕ) → IsPlain (mixes took port j)
mixes_plain [] port j = tt
mixes_plain (cs ∷ took) port j =
    let xss = reopenings j (cs ∷ took) in begun_plain (all_agreed (lowest_caps xss) xss)

-- for nothing nothing is owed
none_started : (j : ℕ) → has is_start (reopened j []) ≡ false
none_started zero = refl
none_started (suc j) = refl

pub mixes_open : (pads port j : ℕ) → mixes (replicate pads []) port j ≡ []
mixes_open zero port j = refl
mixes_open (suc pads) port j = not_started (reopenings j (replicate (suc pads) [])) (rw (none_started j) refl)
