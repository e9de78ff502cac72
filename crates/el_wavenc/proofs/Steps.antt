-- How far the rule of an element that writes WAV files is behind one more item.
use Rattle.std.proofs.Common.{◌≡◌, ℕ, ◌+◌, Bool, true, false, if◌then◌else◌, List, [], ◌∷◌, ◌++◌, length, Option, Some, None, refl, sym, ap, subst, ◌∙◌, append-nil, append_assoc, Result, Ok, Err, nat_le, is_some}
use Rattle.std.specs.Prelude.{◌==◌, ◌%◌, ◌||◌, filter}
use Rattle.std.specs.Option.{option_map}
use Rattle.gst_caps.specs.Accepts.{accepts}
use Rattle.gst_value.specs.Description.{Description}
use Rattle.gst_value.specs.declared.one.One.{One}
use Rattle.gst_item.proofs.Kept.{latest_since}
use Rattle.flow_model.specs.Item.{Item, Buf, Ev, Buffer, StreamStart, NewCaps, NewSegment, Tag, Gap, FlushStop, Eos, is_flush_stop, is_caps, is_segment, body_of}
use Rattle.flow_model.specs.Sticky.{latest, since_flush_stop}
use Rattle.flow_model.specs.Call.{Call, Feed, Act, Drain, items}
use Rattle.flow_model.specs.Rule.{Fed, Fault, not_eos}
use Rattle.flow_model.specs.CapsInForce.{caps_in_force, caps_behind}
use Rattle.flow_model.proofs.Calls.{items_push, items_act}
use Rattle.flow_model.proofs.CapsFed.{caps_fed}
use Rattle.flow_model.specs.Looking.{bytes_got}
use Rattle.gst_caps.specs.Same.{same_caps}
use Rattle.audio_info.specs.Templates.{wav_template}
use Rattle.el_wavenc.specs.Templates.{wav_caps}
use Rattle.el_wavenc.specs.WavFile.{Stream, stream_of, frame_width, head_length, most_data, bytes_at, head_items}
use Rattle.el_wavenc.specs.Encodes.{Progress, progress, opening, ending, file_end, buffer_answer, announcement, settled, caps_answer, encode_answer, stream_behind, progress_behind}
use Rattle.gst_caps.proofs.Same.{caps_decide}
use Rattle.gst_value.proofs.Basics.{some_same}
use Rattle.flow_model.proofs.Items.{chosen, got_push as size_push}
use Rattle.gst_value.proofs.Basics.{plus_none}
use Rattle.gst_item.specs.Item.{has_item}

-- ---- what one more item changes

-- the stream, by the CAPS
abbrev stream_one : Option Stream → Item → Option Stream
stream_one s (Ev (NewCaps caps)) = Some (stream_of caps)
stream_one s x = s

-- whether a SEGMENT was put out since the last FLUSH_STOP
abbrev opened_one : Bool → Item → Bool
opened_one o y = if is_flush_stop y then false else (if is_segment y then true else o)

abbrev pub opened_all : Bool → List Item → Bool
opened_all o [] = o
opened_all o (y ∷ ys) = opened_all (opened_one o y) ys

-- with one more item that was given, for which these were put out
abbrev pub with_one : Progress → Item → List Item → Progress
with_one p x ys = record {
  stream = stream_one p.stream x;
  announced = if is_flush_stop x then false else (if is_caps x then true else p.announced);
  opened = opened_all p.opened ys;
  size = if is_flush_stop x then 0 else p.size + length (body_of x);
}

stream_by_caps : (caps : Option (Description One)) (x : Item) → option_map stream_of (caps_behind caps x) ≡ stream_one (option_map stream_of caps) x
stream_by_caps caps (Buf b) = refl
stream_by_caps caps (Ev (StreamStart id)) = refl
stream_by_caps caps (Ev (NewCaps new)) = refl
stream_by_caps caps (Ev (NewSegment segment)) = refl
stream_by_caps caps (Ev (Tag title)) = refl
stream_by_caps caps (Ev (Gap pts duration)) = refl
stream_by_caps caps (Ev (FlushStop number)) = refl
stream_by_caps caps (Ev Eos) = refl

has_if : (f e : Bool) (x : Item) (xs : List Item) → has_item (if f then [] else (if e then x ∷ [] else xs)) ≡ (if f then false else (if e then true else has_item xs))
has_if true e x xs = refl
has_if false true x xs = refl
has_if false false x xs = refl

announced_push : (h : List Item) (x : Item) → has_item (latest is_caps (since_flush_stop (h ++ x ∷ []))) ≡ (if is_flush_stop x then false else (if is_caps x then true else has_item (latest is_caps (since_flush_stop h))))
announced_push h x = ap has_item (latest_since is_caps h x) ∙ has_if (is_flush_stop x) (is_caps x) x (latest is_caps (since_flush_stop h))

opened_push : (out : List Item) (y : Item) → has_item (latest is_segment (since_flush_stop (out ++ y ∷ []))) ≡ opened_one (has_item (latest is_segment (since_flush_stop out))) y
opened_push out y = ap has_item (latest_since is_segment out y) ∙ has_if (is_flush_stop y) (is_segment y) y (latest is_segment (since_flush_stop out))

pub opened_more : (out ys : List Item) → has_item (latest is_segment (since_flush_stop (out ++ ys))) ≡ opened_all (has_item (latest is_segment (since_flush_stop out))) ys
opened_more out [] = ap (λ h. has_item (latest is_segment (since_flush_stop h))) (append-nil out)
opened_more out (y ∷ ys) =
    ap (λ h. has_item (latest is_segment (since_flush_stop h))) (sym (append_assoc out (y ∷ []) ys)) ∙ opened_more (out ++ y ∷ []) ys ∙ ap (λ o. opened_all o ys) (opened_push out y)

abbrev progress_at : Option Stream → Bool → Bool → ℕ → Progress
progress_at stream announced opened size = record { stream = stream; announced = announced; opened = opened; size = size }

same_progress : {s s' : Option Stream} {a a' o o' : Bool} {n n' : ℕ} → s ≡ s' → a ≡ a' → o ≡ o' → n ≡ n' → progress_at s a o n ≡ progress_at s' a' o' n'
same_progress a b c d = cc

abbrev fed_at : List Call → List Item → Bool → Fed
fed_at given out over = record { given = given; out = out; over = over }

pub progress_fed : (fed : Fed) (x : Item) (ys : List Item) (over : Bool) → progress (fed_at (fed.given ++ Feed x ∷ []) (fed.out ++ ys) over) ≡ with_one (progress fed) x ys
progress_fed fed x ys over =
    same_progress (ap (option_map stream_of) (caps_fed fed.given x) ∙ stream_by_caps (caps_in_force (items fed.given)) x)
    (ap (λ h. has_item (latest is_caps (since_flush_stop h))) (items_push fed.given x) ∙ announced_push (items fed.given) x)
    (opened_more fed.out ys)
    (ap bytes_got (items_push fed.given x) ∙ size_push (items fed.given) x)

pub progress_drained : (fed : Fed) (ys : List Item) (over : Bool) → progress (fed_at (fed.given ++ Act Drain ∷ []) (fed.out ++ ys) over) ≡ record (progress fed) { opened = opened_all (progress fed).opened ys }
progress_drained fed ys over =
    same_progress (ap (λ h. option_map stream_of (caps_in_force h)) (items_act fed.given Drain))
    (ap (λ h. has_item (latest is_caps (since_flush_stop h))) (items_act fed.given Drain))
    (opened_more fed.out ys)
    (ap bytes_got (items_act fed.given Drain))

-- ---- how far the rule is behind an item that is taken

or_false : (b : Bool) → b ≡ (b || false)
or_false true = refl
or_false false = refl

or_true : (b : Bool) → true ≡ (b || true)
or_true true = refl
or_true false = refl

pub holds : (b : Bool) (r : Result (List Item) Fault) (fault : Fault) (ys : List Item) → (if b then r else Err fault) ≡ Ok ys → b ≡ true
holds true r fault ys e = refl
holds false r fault ys e = absurd (cc)

abbrev pub no_fault : List Item → Result (List Item) Fault
no_fault ys = Ok ys

pub ok_same : (xs ys : List Item) → no_fault xs ≡ Ok ys → xs ≡ ys
ok_same xs ys e = ap (λ (r : Result (List Item) Fault). items_of r) e
  where
    items_of : Result (List Item) Fault → List Item
    items_of (Ok zs) = zs
    items_of (Err fault) = []

-- a body opens the file
pub opened_body : (p : Progress) (s : Stream) (place : ℕ) (body : List ℕ) → opened_all p.opened (opening p s ++ bytes_at place body ∷ []) ≡ true
opened_body p s place body = go p.opened refl
  where
    go : (o : Bool) → p.opened ≡ o → opened_all p.opened ((if o then [] else head_items s 0) ++ bytes_at place body ∷ []) ≡ true
    go true e = e
    go false e = refl

buffer_took : (p : Progress) (b : Buffer) (stream : Option Stream) (ys : List Item) → buffer_answer p b stream ≡ Ok ys → opened_all p.opened ys ≡ true
buffer_took p b None ys e = absurd (cc)
buffer_took p b (Some s) ys e =
    let inner = chosen (length b.body % frame_width s == 0) _ _ ys e in
    let put = chosen (nat_le (p.size + length b.body) most_data) _ _ ys inner in
    subst (λ zs. opened_all p.opened zs ≡ true) (ok_same _ ys put) (opened_body p s (head_length + p.size) b.body)

pub announced_only : (p : Progress) → opened_all p.opened (announcement p) ≡ p.opened
announced_only p = go p.announced
  where
    go : (a : Bool) → opened_all p.opened (if a then [] else Ev (NewCaps wav_caps) ∷ []) ≡ p.opened
    go true = refl
    go false = refl

-- what ends the file opens it, where there is a stream
pub opened_end : (p : Progress) (more : List Item) → opened_all p.opened (ending p ++ more) ≡ opened_all (p.opened || is_some p.stream) more
opened_end p more = go p.stream
  where
    go : (stream : Option Stream) → opened_all p.opened (file_end p stream ++ more) ≡ opened_all (p.opened || is_some stream) more
    go None = ap (λ o. opened_all o more) (or_false p.opened)
    go (Some s) = begun p.opened (p.size % 2 == 0)
      where
        begun : (o even : Bool) → opened_all p.opened (((if o then [] else head_items s 0) ++ ((if even then [] else bytes_at (head_length + p.size) (0 ∷ []) ∷ []) ++ head_items s p.size)) ++ more) ≡ opened_all (p.opened || true) more
        begun true true = ap (λ o. opened_all o more) (or_true p.opened)
        begun true false = ap (λ o. opened_all o more) (or_true p.opened)
        begun false true = ap (λ o. opened_all o more) (or_true p.opened)
        begun false false = ap (λ o. opened_all o more) (or_true p.opened)

-- the stream of equal CAPS is the same
stream_stays : (p : Progress) (known : Option (Description One)) → p.stream ≡ option_map stream_of known → (caps first : Description One) → settled p ≡ Some first → first ≡ caps
    → Some (stream_of caps) ≡ p.stream
stream_stays p known is caps first e same = go (p.announced || p.opened) e
  where
    by_known : (k : Option (Description One)) → p.stream ≡ option_map stream_of k → option_map (λ (s : Stream). s.caps) p.stream ≡ Some first → Some (stream_of caps) ≡ p.stream
    by_known None h f = absurd (none (sym (ap (option_map (λ (s : Stream). s.caps)) h) ∙ f))
      where
        none : None ≡ Some first → ⊥
        none g = absurd (cc)
    by_known (Some c) h f = ap (λ d. Some (stream_of d)) (sym same ∙ sym (some_same (sym (ap (option_map (λ (s : Stream). s.caps)) h) ∙ f))) ∙ sym h

    go : (b : Bool) → (if b then option_map (λ (s : Stream). s.caps) p.stream else None) ≡ Some first → Some (stream_of caps) ≡ p.stream
    go true f = by_known known is f
    go false f = absurd (cc)

caps_took : (p : Progress) (known : Option (Description One)) → p.stream ≡ option_map stream_of known → (caps : Description One) (ys : List Item) → encode_answer p (Ev (NewCaps caps)) ≡ Ok ys
    → with_one p (Ev (NewCaps caps)) ys ≡ progress_behind p (Ev (NewCaps caps))
caps_took p known is caps ys e = go (settled p) refl e
  where
    all : (ys : List Item) (stream : Option Stream) → no_fault (announcement p) ≡ Ok ys → Some (stream_of caps) ≡ stream
        → with_one p (Ev (NewCaps caps)) ys ≡ record p { stream = stream; announced = true }
    all ys stream put is = same_progress is refl (subst (λ zs. opened_all p.opened zs ≡ p.opened) (ok_same _ ys put) (announced_only p)) (plus_none p.size)

    go : (first : Option (Description One)) → settled p ≡ first → caps_answer p caps first ≡ Ok ys
        → with_one p (Ev (NewCaps caps)) ys ≡ record p { stream = stream_behind p caps first; announced = true }
    go None none e = all ys (Some (stream_of caps)) (chosen (accepts wav_template caps) _ _ ys e) refl
    go (Some first) some e =
        all ys p.stream (chosen (same_caps first caps) _ _ ys e)
        (stream_stays p known is caps first some ((caps_decide first caps).0 (holds (same_caps first caps) _ _ ys e)))

passed : (p : Progress) (x : Item) (ys zs : List Item) → no_fault zs ≡ Ok ys → opened_all p.opened zs ≡ p.opened → with_one p x zs ≡ record p { size = p.size + 0 } → with_one p x ys ≡ p
passed p x ys zs put same one =
    subst (λ us. with_one p x us ≡ p) (ok_same zs ys put) (one ∙ ap (λ n. record p { size = n }) (plus_none p.size))

pub went : (p : Progress) (known : Option (Description One)) → p.stream ≡ option_map stream_of known → (x : Item) → is_flush_stop x ≡ false → (ys : List Item) → encode_answer p x ≡ Ok ys
    → with_one p x ys ≡ progress_behind p x
went p known is (Buf b) plain ys e = same_progress refl refl (buffer_took p b p.stream ys e) refl
went p known is (Ev (NewCaps caps)) plain ys e = caps_took p known is caps ys e
went p known is (Ev (NewSegment segment)) plain ys e = passed p (Ev (NewSegment segment)) ys [] e refl refl
went p known is (Ev (Gap pts duration)) plain ys e = passed p (Ev (Gap pts duration)) ys [] e refl refl
went p known is (Ev (StreamStart id)) plain ys e = passed p (Ev (StreamStart id)) ys (Ev (StreamStart id) ∷ []) e refl refl
went p known is (Ev (Tag title)) plain ys e = passed p (Ev (Tag title)) ys (Ev (Tag title) ∷ []) e refl refl
went p known is (Ev Eos) plain ys e =
    same_progress refl refl (subst (λ zs. opened_all p.opened zs ≡ (p.opened || is_some p.stream)) (ok_same _ ys e) (opened_end p (Ev Eos ∷ []))) (plus_none p.size)
went p known is (Ev (FlushStop number)) plain ys e = absurd (cc)

-- no EOS is among what ends the file
pub ending_alone : (p : Progress) → filter not_eos (ending p ++ Ev Eos ∷ []) ≡ ending p
ending_alone p = go p.stream
  where
    go : (stream : Option Stream) → filter not_eos (file_end p stream ++ Ev Eos ∷ []) ≡ file_end p stream
    go None = refl
    go (Some s) = begun p.opened (p.size % 2 == 0)
      where
        begun : (o even : Bool)
            → filter not_eos (((if o then [] else head_items s 0) ++ ((if even then [] else bytes_at (head_length + p.size) (0 ∷ []) ∷ []) ++ head_items s p.size)) ++ Ev Eos ∷ [])
            ≡ (if o then [] else head_items s 0) ++ ((if even then [] else bytes_at (head_length + p.size) (0 ∷ []) ∷ []) ++ head_items s p.size)
        begun true true = refl
        begun true false = refl
        begun false true = refl
        begun false false = refl
