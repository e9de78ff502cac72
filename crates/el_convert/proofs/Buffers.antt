-- What is owed for a buffer, by the choice for its stream.
use Rattle.std.proofs.Common.{◌≡◌, ◌<◌, ◌+◌, ◌%◌, ◌^◌, ◌==◌, ◌&&◌, ℕ, true, nat_lt, List, [], ◌∷◌, ◌++◌, length, Option, None, Some, Result, Ok, Err, refl, sym, subst, ap, ◌∙◌}
use Rattle.std.specs.Prelude.{IsOk, IfOk, OnOk, IfErr, MatchOption}
use Rattle.std.proofs.lemmas.Bool.{eqb-true, ltb-true}
use Rattle.std.specs.Result.{IsErrAnd}
use Rattle.gst_value.specs.Description.{Description}
use Rattle.gst_value.specs.declared.one.One.{One}
use Rattle.flow_model.specs.declared.fault.ElementFault.{ElementFault}
use Rattle.flow_model.specs.Item.{Item, Buffer, Buf, Ev, NewCaps}
use Rattle.flow_model.specs.Rule.{Fault}
use Rattle.flow_model.specs.Feeding.{IsFaultOf}
use Rattle.el_convert.specs.declared.convert.Convert.{Convert}
use Rattle.el_convert.specs.declared.stream.Stream.{Stream}
use Rattle.el_convert.specs.Choice.{choice}
use Rattle.el_convert.specs.Converts.{Known, convert_answer, whole_frames, frame_width, caps_before, converted_buffer, caps_after, known_behind}
use Rattle.flow_model.specs.Owed.{answered}
use Rattle.el_convert.specs.Converted.{knows, Stays, Changes}
use Rattle.el_convert.proofs.Converting.{knowing, same_known}
use Rattle.gst_caps.proofs.Same.{caps_decide}
use Rattle.gst_value.proofs.Basics.{and_left, and_right}

-- the answer, by the stream and the choice
answer_is : (element : Convert) (stream : Stream) (to : Description One) (b : Buffer) → element.stream ≡ Some stream → choice stream.offered element.allowed ≡ Some to
    → convert_answer (knows element) (Buf b) ≡ whole_frames (frame_width stream.offered) element.got b (caps_before (Some stream.chosen) to ++ Buf (converted_buffer stream.offered to b) ∷ [])
answer_is element stream to b is chosen = rw (is, chosen) refl

pub chosen_here : (element : Convert) (stream : Stream) → Stays element → element.stream ≡ Some stream → choice stream.offered element.allowed ≡ Some stream.chosen
chosen_here element stream p is =
    let same : p.stream ≡ stream = cc in
    subst (λ (s : Stream). choice s.offered element.allowed ≡ Some s.chosen) same p.chosen

-- what is owed, by the answer
pub ok_of : (r : Result (List Item) Fault) (ys : List Item) → r ≡ Ok ys → IsOk r
ok_of r ys is = rw is refl

pub behind_is : (k : Known) (b : Buffer) (ys : List Item) (n : ℕ) → convert_answer k (Buf b) ≡ Ok ys → n ≡ length b.body
    → knowing k.allowed k.offered (caps_after k.chosen ys) (k.got + n) ≡ known_behind k (Buf b)
behind_is k b ys n owed len =
    same_known _ _ _ _ _ _ _ _ refl refl (sym (ap (λ (r : Result (List Item) Fault). caps_after k.chosen (answered r)) owed)) (ap (λ m. k.got + m) len)

-- whether a stream takes a buffer
abbrev pub Takes : ℕ → ℕ → Buffer → Type 0
Takes frame got b = ((length b.body % frame == 0) && nat_lt (got + length b.body) (2 ^ 63)) ≡ true

pub takes_whole : (frame got : ℕ) (b : Buffer) → Takes frame got b → length b.body % frame ≡ 0
takes_whole frame got b h = eqb-true (length b.body % frame) 0 (and_left (length b.body % frame == 0) (nat_lt (got + length b.body) (2 ^ 63)) h)

pub takes_fits : (frame got : ℕ) (b : Buffer) → Takes frame got b → got + length b.body < 2 ^ 63
takes_fits frame got b h = ltb-true (got + length b.body) (2 ^ 63) (and_right (length b.body % frame == 0) (nat_lt (got + length b.body) (2 ^ 63)) h)

takes_owed : (frame got : ℕ) (b : Buffer) (owed : List Item) → Takes frame got b → whole_frames frame got b owed ≡ Ok owed
takes_owed frame got b owed h =
    rw (and_left (length b.body % frame == 0) (nat_lt (got + length b.body) (2 ^ 63)) h, and_right (length b.body % frame == 0) (nat_lt (got + length b.body) (2 ^ 63)) h) refl

-- where the choice stays, the buffer alone
pub owed_staying : (element : Convert) (stream : Stream) (b : Buffer) → choice stream.offered element.allowed ≡ Some stream.chosen → element.stream ≡ Some stream
    → Takes (frame_width stream.offered) element.got b
    → convert_answer (knows element) (Buf b) ≡ Ok (Buf (converted_buffer stream.offered stream.chosen b) ∷ [])
owed_staying element stream b kept is takes =
    answer_is element stream stream.chosen b is kept ∙ rw ((caps_decide stream.chosen stream.chosen).1 refl) (takes_owed _ _ b _ takes)

pub fault_staying : (element : Convert) (stream : Stream) (b : Buffer) (fault : ElementFault) → choice stream.offered element.allowed ≡ Some stream.chosen → element.stream ≡ Some stream
    → ((owed : List Item) → IsFaultOf (whole_frames (frame_width stream.offered) element.got b owed) fault) → IsFaultOf (convert_answer (knows element) (Buf b)) fault
fault_staying element stream b fault kept is h =
    subst (λ (r : Result (List Item) Fault). IsFaultOf r fault) (sym (answer_is element stream stream.chosen b is kept)) (h _)

pub none_offered : (element : Convert) → element.stream ≡ None → (knows element).offered ≡ None
none_offered element is = rw is refl

pub knows_staying : (element : Convert) (stream : Stream) (b : Buffer) (n : ℕ) → choice stream.offered element.allowed ≡ Some stream.chosen → element.stream ≡ Some stream
    → Takes (frame_width stream.offered) element.got b → n ≡ length b.body
    → knowing element.allowed (knows element).offered (knows element).chosen (element.got + n) ≡ known_behind (knows element) (Buf b)
knows_staying element stream b n kept is takes len = behind_is (knows element) b _ n (owed_staying element stream b kept is takes) len

-- where it is another one, CAPS and the buffer
pub owed_changing : (element : Convert) (other : Stream) (b : Buffer) → Changes element other → Takes (frame_width other.offered) element.got b
    → convert_answer (knows element) (Buf b) ≡ Ok (Ev (NewCaps other.chosen) ∷ Buf (converted_buffer other.offered other.chosen b) ∷ [])
owed_changing element other b p takes =
    answer_is element p.stream other.chosen b p.is p.chosen ∙ rw (← p.same_stream, p.differs) (takes_owed _ _ b _ takes)

pub knows_changing : (element : Convert) (other : Stream) (b : Buffer) (n : ℕ) → Changes element other → Takes (frame_width other.offered) element.got b → n ≡ length b.body
    → knowing element.allowed (Some other.offered) (Some other.chosen) (element.got + n) ≡ known_behind (knows element) (Buf b)
knows_changing element other b n p takes len =
    same_known _ _ _ _ _ _ _ _ refl (rw (p.is, p.same_stream) refl) refl refl ∙ behind_is (knows element) b _ n (owed_changing element other b p takes) len

pub fault_changing : (element : Convert) (other : Stream) (b : Buffer) (fault : ElementFault) → Changes element other
    → ((owed : List Item) → IsFaultOf (whole_frames (frame_width other.offered) element.got b owed) fault) → IsFaultOf (convert_answer (knows element) (Buf b)) fault
fault_changing element other b fault p h =
    let owed = caps_before (Some p.stream.chosen) other.chosen ++ Buf (converted_buffer p.stream.offered other.chosen b) ∷ [] in
    subst (λ (r : Result (List Item) Fault). IsFaultOf r fault) (sym (answer_is element p.stream other.chosen b p.is p.chosen))
    (subst (λ (o : Description One). IsFaultOf (whole_frames (frame_width o) element.got b owed) fault) p.same_stream (h owed))

pub if_err : {T E : Type 0} (r : Result T E) (P Q : E → Type 0) → ((e : E) → P e → Q e) → IsErrAnd r P → IfErr r Q
if_err (Ok y) P Q f h = tt
if_err (Err e) P Q f h = f e h

-- nothing is said of the value of a refusal
pub on_no_value : {T E : Type 0} (r : Result T E) (P : E → Type 0) (Q : Type 0) → IsErrAnd r P → OnOk r Q
on_no_value (Ok y) P Q h = absurd (h)
on_no_value (Err e) P Q h = tt

pub if_no_value : {T E : Type 0} (r : Result T E) (P : E → Type 0) (Q : T → Type 0) → IsErrAnd r P → IfOk r Q
if_no_value (Ok y) P Q h = absurd (h)
if_no_value (Err e) P Q h = tt

-- what follows where there is no other choice
pub where_none : {X : Type 0} (o : Option X) (P : Type 0) (Q : X → Type 0) → MatchOption o P Q → o ≡ None → P
where_none None P Q h is = h
where_none (Some x) P Q h is = absurd (cc)
