-- An element that writes WAV files with one more call.
use Rattle.std.proofs.Common.{◌≡◌, ℕ, true, false, List, [], ◌∷◌, ◌++◌, refl, sym, ap, ◌∙◌, append-nil, Ok}
use Rattle.std.specs.Prelude.{IsOk, filter}
use Rattle.flow_model.specs.Item.{Item, Ev, FlushStop, Eos, is_flush_stop, is_eos}
use Rattle.flow_model.specs.Call.{Call, Feed, Act, Drain, items}
use Rattle.flow_model.specs.Rule.{Fed, not_eos}
use Rattle.flow_model.specs.Feeding.{next_owed}
use Rattle.flow_model.specs.CapsInForce.{caps_in_force}
use Rattle.flow_model.proofs.Calls.{fed_taken, fed_behind, fed_flush, drained_begun, drained_behind, eos_taken, eos_stays, eos_flushed, eos_act}
use Rattle.flow_model.specs.Owed.{answered, drain_owed, without_eos}
use Rattle.el_wavenc.specs.declared.wav_enc.WavEnc.{WavEnc}
use Rattle.el_wavenc.specs.Encodes.{Progress, progress, ending, encode_answer, encodes, finished, progress_behind}
use Rattle.el_wavenc.specs.Encoded.{encoding, come, Encoded}
use Rattle.el_wavenc.proofs.Steps.{with_one, opened_all, opened_end, progress_fed, progress_drained, went, ending_alone}
use Rattle.flow_model.proofs.Items.{ok_answered}

-- an item that is taken
pub encoded_item : (old new : WavEnc) (x : Item) → is_flush_stop x ≡ false → old.ended ≡ false
    → IsOk (encode_answer (come old) x) → come new ≡ progress_behind (come old) x → new.ended ≡ is_eos x
    → (calls : List Call) (put : List Item) → Encoded old calls put
    → (next_owed encodes calls x ≡ Ok (answered (encode_answer (come old) x))) × Encoded new (calls ++ Feed x ∷ []) (put ++ answered (encode_answer (come old) x))
encoded_item old new x plain begun ok moved ends calls put p =
    let ys = answered (encode_answer (come old) x) in
    let fed = encoding calls in
    let owes : encode_answer (come old) x ≡ Ok ys = ok_answered (encode_answer (come old) x) ok in
    let answer : encodes fed x ≡ Ok ys = ap (λ q. encode_answer q x) p.as_far ∙ owes in
    let same = fed_taken encodes calls x ys (p.over ∙ begun) plain answer in
    let step : with_one (progress fed) x ys ≡ progress_behind (progress fed) x = went (progress fed) (caps_in_force (items fed.given)) refl x plain ys answer in (
      rw (p.over, begun) answer,
      record {
        owed = ap (λ zs. zs ++ ys) p.owed ∙ sym (ap (λ (s : Fed). s.out) same);
        over = ap (λ (s : Fed). s.over) same ∙ sym ends;
        eos = eos_taken calls x plain (p.eos ∙ begun) ∙ sym ends;
        as_far = ap progress same ∙ progress_fed fed x ys (is_eos x) ∙ step ∙ ap (λ q. progress_behind q x) p.as_far ∙ sym moved;
      },
    )

-- an item behind EOS
pub encoded_behind : (encoder : WavEnc) (x : Item) → is_flush_stop x ≡ false → encoder.ended ≡ true
    → (calls : List Call) (put : List Item) → Encoded encoder calls put
    → (next_owed encodes calls x ≡ Ok []) × Encoded encoder (calls ++ Feed x ∷ []) (put ++ [])
encoded_behind encoder x plain ended calls put p =
    let same = fed_behind encodes calls x (p.over ∙ ended) plain in (
      rw (p.over, ended) refl,
      record {
        owed = append-nil put ∙ p.owed ∙ sym (ap (λ (s : Fed). s.out) same);
        over = ap (λ (s : Fed). s.over) same ∙ p.over;
        eos = eos_stays calls x plain (p.eos ∙ ended) ∙ sym ended;
        as_far = ap progress same ∙ p.as_far;
      },
    )

-- behind a flush the stream stays, and nothing was put in a file
abbrev pub flushed_progress : Progress → Progress
flushed_progress p = record { stream = p.stream; announced = false; opened = false; size = 0 }

pub encoded_flush : (old new : WavEnc) → new.ended ≡ false → come new ≡ flushed_progress (come old)
    → (calls : List Call) (put : List Item) (number : ℕ) → Encoded old calls put
    → Encoded new (calls ++ Feed (Ev (FlushStop number)) ∷ []) (put ++ Ev (FlushStop number) ∷ [])
encoded_flush old new begun anew calls put number p =
    let fed = encoding calls in
    let x = Ev (FlushStop number) in
    let same = fed_flush encodes calls number in
    record {
      owed = ap (λ zs. zs ++ Ev (FlushStop number) ∷ []) p.owed ∙ sym (ap (λ (s : Fed). s.out) same);
      over = ap (λ (s : Fed). s.over) same ∙ sym begun;
      eos = eos_flushed calls number ∙ sym begun;
      as_far = ap progress same ∙ progress_fed fed x (x ∷ []) false ∙ ap flushed_progress p.as_far ∙ sym anew;
    }

-- a drain
pub encoded_drained : (old new : WavEnc) → old.ended ≡ false → come new ≡ finished (come old) → new.ended ≡ old.ended
    → (calls : List Call) (put : List Item) → Encoded old calls put
    → (drain_owed encodes calls ≡ Ok (ending (come old))) × Encoded new (calls ++ Act Drain ∷ []) (put ++ ending (come old))
encoded_drained old new begun moved ends calls put p =
    let ys = ending (come old) in
    let fed = encoding calls in
    let answer : encodes fed (Ev Eos) ≡ Ok (ys ++ Ev Eos ∷ []) = ap (λ q. encode_answer q (Ev Eos)) p.as_far in
    let alone : filter not_eos (ys ++ Ev Eos ∷ []) ≡ ys = ending_alone (come old) in
    let same = drained_begun encodes calls (ys ++ Ev Eos ∷ []) (p.over ∙ begun) answer ∙ ap (λ zs. drained_fed fed zs) alone in
    let opens : opened_all (come old).opened ys ≡ (finished (come old)).opened = ap (λ zs. opened_all (come old).opened zs) (sym (append-nil ys)) ∙ opened_end (come old) [] in (
      rw (p.over, begun) (ap without_eos answer ∙ ap Ok alone),
      record {
        owed = ap (λ zs. zs ++ ys) p.owed ∙ sym (ap (λ (s : Fed). s.out) same);
        over = ap (λ (s : Fed). s.over) same ∙ p.over ∙ sym ends;
        eos = eos_act calls Drain ∙ p.eos ∙ sym ends;
        as_far = ap progress same ∙ progress_drained fed ys fed.over ∙ ap (λ (q : Progress). record q { opened = opened_all q.opened ys }) p.as_far
            ∙ ap (λ o. record (come old) { opened = o }) opens ∙ sym moved;
      },
    )
  where
    drained_fed : Fed → List Item → Fed
    drained_fed fed zs = record { given = fed.given ++ Act Drain ∷ []; out = fed.out ++ zs; over = fed.over }

pub encoded_drained_behind : (encoder : WavEnc) → encoder.ended ≡ true
    → (calls : List Call) (put : List Item) → Encoded encoder calls put
    → (drain_owed encodes calls ≡ Ok []) × Encoded encoder (calls ++ Act Drain ∷ []) (put ++ [])
encoded_drained_behind encoder ended calls put p =
    let same = drained_behind encodes calls (p.over ∙ ended) in (
      rw (p.over, ended) refl,
      record {
        owed = append-nil put ∙ p.owed ∙ sym (ap (λ (s : Fed). s.out) same);
        over = ap (λ (s : Fed). s.over) same ∙ p.over;
        eos = eos_act calls Drain ∙ p.eos;
        as_far = ap progress same ∙ p.as_far;
      },
    )
