-- A parser of raw audio with one more call.
use Rattle.std.proofs.Common.{◌≡◌, ℕ, Bool, true, false, List, [], ◌∷◌, ◌++◌, refl, sym, ap, subst, ◌∙◌, append-nil, Ok}
use Rattle.std.specs.Prelude.{IsOk}
use Rattle.audio_info.specs.declared.info.Info.{Info}
use Rattle.flow_model.specs.Item.{Item, Ev, FlushStop, Eos, is_flush_stop, is_eos}
use Rattle.flow_model.specs.Call.{Call, Feed, Act, Drain, items}
use Rattle.flow_model.specs.Rule.{Fed}
use Rattle.flow_model.specs.Feeding.{next_owed}
use Rattle.flow_model.proofs.Calls.{items_push, items_act, fed_taken, fed_behind, fed_flush, drained_begun, drained_behind, eos_taken, eos_stays, eos_flushed, eos_act}
use Rattle.el_parse.specs.declared.raw_parse.RawParse.{RawParse}
use Rattle.el_parse.specs.Frames.{frame_width, bytes_in}
use Rattle.el_parse.specs.Parses.{Progress, progress, parse_answer, parses, progress_behind}
use Rattle.flow_model.specs.Owed.{answered}
use Rattle.el_parse.specs.Parsed.{parsed, come, PutFrames, Parsed}
use Rattle.el_parse.proofs.Seen.{Seen, seen, seen_one, seen_all, seen_push, seen_append}
use Rattle.el_parse.proofs.Steps.{progress_by, Split, Went, went, nothing_seen, begins_anew}
use Rattle.flow_model.proofs.Items.{ok_answered}

split_of : {width : ℕ} {fed : Fed} {held : List ℕ} {opened : Bool} → PutFrames width fed held opened → Split width (seen (items fed.given)) (seen fed.out) held opened
split_of p = record { whole = p.whole; frames = p.frames; unopened = p.unopened }

frames_of : (width : ℕ) (fed : Fed) (held : List ℕ) (opened : Bool) (given out : Seen) → seen (items fed.given) ≡ given → seen fed.out ≡ out → Split width given out held opened → PutFrames width fed held opened
frames_of width fed held opened given out g o s =
    let t : Split width (seen (items fed.given)) (seen fed.out) held opened = rw (g, o) s in
    record { whole = t.whole; frames = t.frames; unopened = t.unopened }

-- how far it is, where it is as far as what is seen
at_seen : (info : Info) (fed : Fed) (q : Progress) (given out : Seen) → seen (items fed.given) ≡ given → seen fed.out ≡ out → progress_by info given out ≡ q → progress info fed ≡ q
at_seen info fed q given out g o at = ap (λ s. progress_by info s (seen fed.out)) g ∙ ap (λ s. progress_by info given s) o ∙ at

-- what is to be shown of an item that is taken
abbrev Took : Info → RawParse → RawParse → Item → List Item → List Call → List Item → Type 0
Took info old new x ys calls put = Parsed info old calls put → (next_owed (parses info) calls x ≡ Ok ys) × Parsed info new (calls ++ Feed x ∷ []) (put ++ ys)

took : (old new : RawParse) (x : Item) → is_flush_stop x ≡ false → old.ended ≡ false
    → IsOk (parse_answer old.info (come old) x) → come new ≡ progress_behind old.info (come old) x → new.info ≡ old.info → new.ended ≡ is_eos x
    → (calls : List Call) (put : List Item) → Took old.info old new x (answered (parse_answer old.info (come old) x)) calls put
took old new x plain begun ok moved still ends calls put p =
    let info = old.info in
    let ys = answered (parse_answer old.info (come old) x) in
    let fed = parsed info calls in
    let answer : parses info fed x ≡ Ok ys = ap (λ q. parse_answer info q x) p.as_far ∙ ok_answered (parse_answer old.info (come old) x) ok in
    let same = fed_taken (parses info) calls x ys (p.over ∙ begun) plain answer in
    let given : seen (items (fed.given ++ Feed x ∷ [])) ≡ seen_one (seen (items fed.given)) x = ap seen (items_push fed.given x) ∙ seen_push (items fed.given) x in
    let out : seen (fed.out ++ ys) ≡ seen_all (seen fed.out) ys = seen_append fed.out ys in
    let step : Went old.info (come old) x (seen_one (seen (items fed.given)) x) (seen_all (seen fed.out) ys) =
    went old.info (come old) (seen (items fed.given)) (seen fed.out) x plain p.as_far (split_of p.bytes) ok in
    let after : Fed = record { given = fed.given ++ Feed x ∷ []; out = fed.out ++ ys; over = is_eos x } in
    let bytes : PutFrames (frame_width info) after (come new).held (come new).opened = subst (λ (q : Progress). PutFrames (frame_width info) after q.held q.opened) (sym moved) (frames_of (frame_width info) after _ _ _ _ given out step.bytes) in (
      (rw (p.over, begun) answer),
      record {
        owed = ap (λ zs. zs ++ ys) p.owed ∙ sym (ap (λ (s : Fed). s.out) same);
        over = ap (λ (s : Fed). s.over) same ∙ sym ends;
        eos = eos_taken calls x plain (p.eos ∙ begun) ∙ sym ends;
        same = still;
        as_far = ap (λ s. progress info s) same ∙ at_seen info after _ _ _ given out step.as_far ∙ sym moved;
        bytes = rw same bytes;
      },
    )

pub parsed_item : (old new : RawParse) (x : Item) → is_flush_stop x ≡ false → old.ended ≡ false
    → IsOk (parse_answer old.info (come old) x) → come new ≡ progress_behind old.info (come old) x → new.info ≡ old.info → new.ended ≡ is_eos x
    → (info : Info) (calls : List Call) (put : List Item) → Took info old new x (answered (parse_answer old.info (come old) x)) calls put
parsed_item old new x plain begun ok moved still ends info calls put p =
    subst (λ i. Took i old new x (answered (parse_answer old.info (come old) x)) calls put) p.same (took old new x plain begun ok moved still ends calls put) p

pub parsed_behind : (parser : RawParse) (x : Item) → is_flush_stop x ≡ false → parser.ended ≡ true
    → (info : Info) (calls : List Call) (put : List Item) → Parsed info parser calls put
    → (next_owed (parses info) calls x ≡ Ok []) × Parsed info parser (calls ++ Feed x ∷ []) (put ++ [])
parsed_behind parser x plain ended info calls put p =
    let same = fed_behind (parses info) calls x (p.over ∙ ended) plain in (
      rw (p.over, ended) refl,
      record {
        owed = append-nil put ∙ p.owed ∙ sym (ap (λ (s : Fed). s.out) same);
        over = ap (λ (s : Fed). s.over) same ∙ p.over;
        eos = eos_stays calls x plain (p.eos ∙ ended) ∙ sym ended;
        same = p.same;
        as_far = ap (λ s. progress info s) same ∙ p.as_far;
        bytes = rw same p.bytes;
      },
    )

pub parsed_flush : (old new : RawParse) → new.ended ≡ false → new.info ≡ old.info → come new ≡ record { opened = false; next = 0; held = []; reached = 0 }
    → (info : Info) (calls : List Call) (put : List Item) (number : ℕ) → Parsed info old calls put
    → Parsed info new (calls ++ Feed (Ev (FlushStop number)) ∷ []) (put ++ Ev (FlushStop number) ∷ [])
parsed_flush old new begun still anew info calls put number p =
    let fed = parsed info calls in
    let x = Ev (FlushStop number) in
    let same = fed_flush (parses info) calls number in
    let given : seen (items (fed.given ++ Feed x ∷ [])) ≡ nothing_seen = ap seen (items_push fed.given x) ∙ seen_push (items fed.given) x in
    let out : seen (fed.out ++ x ∷ []) ≡ nothing_seen = seen_push fed.out x in
    let start = begins_anew info in
    let after : Fed = record { given = fed.given ++ Feed x ∷ []; out = fed.out ++ x ∷ []; over = false } in
    let bytes : PutFrames (frame_width info) after (come new).held (come new).opened = subst (λ (q : Progress). PutFrames (frame_width info) after q.held q.opened) (sym anew) (frames_of (frame_width info) after _ _ _ _ given out start.1) in
    record {
      owed = ap (λ zs. zs ++ Ev (FlushStop number) ∷ []) p.owed ∙ sym (ap (λ (s : Fed). s.out) same);
      over = ap (λ (s : Fed). s.over) same ∙ sym begun;
      eos = eos_flushed calls number ∙ sym begun;
      same = still ∙ p.same;
      as_far = ap (λ s. progress info s) same ∙ at_seen info after _ _ _ given out start.0 ∙ sym anew;
      bytes = rw same bytes;
    }

pub parsed_drain : (parser : RawParse) (info : Info) (calls : List Call) (put : List Item) → Parsed info parser calls put → Parsed info parser (calls ++ Act Drain ∷ []) put
parsed_drain parser info calls put p = go (parsed info calls).over refl
  where
    after : items (parsed info (calls ++ Act Drain ∷ [])).given ≡ items (parsed info calls).given → (parsed info (calls ++ Act Drain ∷ [])).out ≡ (parsed info calls).out
        → (parsed info (calls ++ Act Drain ∷ [])).over ≡ (parsed info calls).over → Parsed info parser (calls ++ Act Drain ∷ []) put
    after given out over = record {
      owed = p.owed ∙ sym out;
      over = over ∙ p.over;
      eos = eos_act calls Drain ∙ p.eos;
      same = p.same;
      as_far = at_seen info (parsed info (calls ++ Act Drain ∷ [])) (come parser) (seen (items (parsed info calls).given)) (seen (parsed info calls).out) (ap seen given) (ap seen out) p.as_far;
      bytes = frames_of (frame_width info) (parsed info (calls ++ Act Drain ∷ [])) (bytes_in parser.rest) parser.opened (seen (items (parsed info calls).given)) (seen (parsed info calls).out) (ap seen given) (ap seen out) (split_of p.bytes);
    }

    go : (b : Bool) → (parsed info calls).over ≡ b → Parsed info parser (calls ++ Act Drain ∷ []) put
    go true over =
        let same = drained_behind (parses info) calls over in
        after (ap (λ (s : Fed). items s.given) same) (ap (λ (s : Fed). s.out) same) (ap (λ (s : Fed). s.over) same)
    go false begun =
        let same = drained_begun (parses info) calls (Ev Eos ∷ []) begun refl in
        after (ap (λ (s : Fed). items s.given) same ∙ items_act (parsed info calls).given Drain) (ap (λ (s : Fed). s.out) same ∙ append-nil (parsed info calls).out) (ap (λ (s : Fed). s.over) same)
