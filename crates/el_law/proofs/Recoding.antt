-- An element of a law with one more call.
use Rattle.std.proofs.Common.{◌≡◌, ℕ, Bool, true, false, List, [], ◌∷◌, ◌++◌, map, length, Option, refl, sym, ap, ◌∙◌, append-nil, Ok}
use Rattle.std.specs.Option.{option_map}
use Rattle.std.proofs.lemmas.List.{map-append}
use Rattle.std.proofs.lemmas.List.Sums.{sum_by_push}
use Rattle.gst_value.specs.Description.{Description}
use Rattle.gst_value.specs.declared.one.One.{One}
use Rattle.gst_item.proofs.Kept.{since_push}
use Rattle.gst_item.specs.Sticky.{since_flush_stop}
use Rattle.flow_model.specs.declared.fault.ElementFault.{ElementFault}
use Rattle.flow_model.specs.Item.{Item, Buf, Ev, StreamStart, NewCaps, NewSegment, Tag, Gap, FlushStop, Eos, is_flush_stop, is_eos, body_of}
use Rattle.flow_model.specs.Section.{counted}
use Rattle.flow_model.specs.Call.{Call, Feed, Act, Drain, items}
use Rattle.flow_model.specs.Rule.{Fed}
use Rattle.flow_model.specs.Feeding.{next_owed, IsFaultOf}
use Rattle.flow_model.specs.CapsInForce.{caps_in_force, caps_behind}
use Rattle.flow_model.proofs.Counted.{counted_taken, counted_behind, counted_flush, counted_act}
use Rattle.flow_model.proofs.Calls.{items_push, items_act, fed_taken, fed_behind, fed_flush, drained_begun, drained_behind, eos_taken, eos_stays, eos_flushed, eos_act}
use Rattle.flow_model.proofs.CapsFed.{caps_fed}
use Rattle.el_law.specs.declared.kind.LawKind.{LawKind}
use Rattle.el_law.specs.declared.law.Law.{Law}
use Rattle.el_law.specs.Laws.{frame_width, frame_in_force, law_answer, recodes, recoded, frame_behind, got_behind}
use Rattle.el_law.specs.Recoded.{recoding, Recoded}
use Rattle.flow_model.specs.Looking.{bytes_since_flush as bytes_got}

-- the bytes of a frame behind one more item
width_by : (kind : LawKind) (caps : Option (Description One)) (x : Item) → option_map (frame_width kind) (caps_behind caps x) ≡ frame_behind kind (option_map (frame_width kind) caps) x
width_by kind caps (Buf b) = refl
width_by kind caps (Ev (StreamStart id)) = refl
width_by kind caps (Ev (NewCaps new)) = refl
width_by kind caps (Ev (NewSegment segment)) = refl
width_by kind caps (Ev (Tag title)) = refl
width_by kind caps (Ev (Gap pts duration)) = refl
width_by kind caps (Ev (FlushStop number)) = refl
width_by kind caps (Ev Eos) = refl

frame_push : (kind : LawKind) (calls : List Call) (x : Item) → frame_in_force kind (items (calls ++ Feed x ∷ [])) ≡ frame_behind kind (frame_in_force kind (items calls)) x
frame_push kind calls x = ap (λ caps. option_map (frame_width kind) caps) (caps_fed calls x) ∙ width_by kind (caps_in_force (items calls)) x

-- the bytes that came, behind one more item and behind a FLUSH_STOP
got_push : (calls : List Call) (x : Item) → is_flush_stop x ≡ false → bytes_got (items (calls ++ Feed x ∷ [])) ≡ got_behind (bytes_got (items calls)) x
got_push calls x plain = rw (items_push calls x, since_push (items calls) x, plain) (sum_by_push (λ y. length (body_of y)) (since_flush_stop (items calls)) x)

got_flushed : (calls : List Call) (number : ℕ) → bytes_got (items (calls ++ Feed (Ev (FlushStop number)) ∷ [])) ≡ 0
got_flushed calls number = rw (items_push calls (Ev (FlushStop number)), since_push (items calls) (Ev (FlushStop number))) refl

-- the answer of the rule, by what the element knows
answer_known : (kind : LawKind) (law : Law) (calls : List Call) (put : List Item) (x : Item) → Recoded kind law calls put
    → law_answer law.kind law.frame law.got x ≡ Ok (recoded law.kind x ∷ []) → recodes kind (recoding kind calls) x ≡ Ok (recoded kind x ∷ [])
answer_known kind law calls put x p e = rw (p.frame_is, p.got_is, p.kind_is) e

pub fault_known : (law : Law) (x : Item) (fault : ElementFault) → law.ended ≡ false → IsFaultOf (law_answer law.kind law.frame law.got x) fault
    → (kind : LawKind) (calls : List Call) (put : List Item) → Recoded kind law calls put → IsFaultOf (next_owed (recodes kind) calls x) fault
fault_known law x fault begun h kind calls put p =
    let begins : (recoding kind calls).over ≡ false = p.over ∙ begun in
    rw (begins, p.frame_is, p.got_is, p.kind_is) h

pub recoded_taken : (old new : Law) (x : Item) → is_flush_stop x ≡ false → old.ended ≡ false
    → law_answer old.kind old.frame old.got x ≡ Ok (recoded old.kind x ∷ []) → new.kind ≡ old.kind → new.frame ≡ frame_behind old.kind old.frame x
    → new.got ≡ got_behind old.got x → new.ended ≡ is_eos x
    → (kind : LawKind) (calls : List Call) (put : List Item) → Recoded kind old calls put → Recoded kind new (calls ++ Feed x ∷ []) (put ++ recoded kind x ∷ [])
recoded_taken old new x plain begun answer same_kind frame got ends kind calls put p =
    let same = fed_taken (recodes kind) calls x (recoded kind x ∷ []) (p.over ∙ begun) plain (answer_known kind old calls put x p answer) in
    record {
      owed = ap (λ ys. ys ++ recoded kind x ∷ []) p.owed ∙ sym (ap (λ (s : Fed). s.out) same);
      all = ap (λ ys. ys ++ recoded kind x ∷ []) p.all ∙ sym (map-append (recoded kind) (counted (items calls)) (x ∷ [])) ∙ ap (map (recoded kind)) (sym (counted_taken calls x (p.eos ∙ begun)));
      over = ap (λ (s : Fed). s.over) same ∙ sym ends;
      eos = eos_taken calls x plain (p.eos ∙ begun) ∙ sym ends;
      kind_is = p.kind_is ∙ sym same_kind;
      frame_is = ap (λ (s : Fed). frame_in_force kind (items s.given)) same ∙ frame_push kind (recoding kind calls).given x ∙ ap (λ f. frame_behind kind f x) p.frame_is
          ∙ ap (λ k. frame_behind k old.frame x) p.kind_is ∙ sym frame;
      got_is = ap (λ (s : Fed). bytes_got (items s.given)) same ∙ got_push (recoding kind calls).given x plain ∙ ap (λ g. got_behind g x) p.got_is ∙ sym got;
    }

pub recoded_behind : (law : Law) (x : Item) → is_flush_stop x ≡ false → law.ended ≡ true
    → (kind : LawKind) (calls : List Call) (put : List Item) → Recoded kind law calls put → Recoded kind law (calls ++ Feed x ∷ []) (put ++ [])
recoded_behind law x plain ended kind calls put p =
    let same = fed_behind (recodes kind) calls x (p.over ∙ ended) plain in
    record {
      owed = append-nil put ∙ p.owed ∙ sym (ap (λ (s : Fed). s.out) same);
      all = append-nil put ∙ p.all ∙ ap (map (recoded kind)) (sym (counted_behind calls x (p.eos ∙ ended) plain ∙ append-nil (counted (items calls))));
      over = ap (λ (s : Fed). s.over) same ∙ p.over;
      eos = eos_stays calls x plain (p.eos ∙ ended) ∙ sym ended;
      kind_is = p.kind_is;
      frame_is = ap (λ (s : Fed). frame_in_force kind (items s.given)) same ∙ p.frame_is;
      got_is = ap (λ (s : Fed). bytes_got (items s.given)) same ∙ p.got_is;
    }

pub recoded_flush : (old new : Law) → new.kind ≡ old.kind → new.frame ≡ old.frame → new.got ≡ 0 → new.ended ≡ false
    → (kind : LawKind) (calls : List Call) (put : List Item) (number : ℕ) → Recoded kind old calls put
    → Recoded kind new (calls ++ Feed (Ev (FlushStop number)) ∷ []) (put ++ Ev (FlushStop number) ∷ [])
recoded_flush old new same_kind frame got begun kind calls put number p =
    let same = fed_flush (recodes kind) calls number in let x = Ev (FlushStop number) in
    record {
      owed = ap (λ ys. ys ++ x ∷ []) p.owed ∙ sym (ap (λ (s : Fed). s.out) same);
      all = ap (λ ys. ys ++ x ∷ []) p.all ∙ sym (map-append (recoded kind) (counted (items calls)) (x ∷ [])) ∙ ap (map (recoded kind)) (sym (counted_flush calls number));
      over = ap (λ (s : Fed). s.over) same ∙ sym begun;
      eos = eos_flushed calls number ∙ sym begun;
      kind_is = p.kind_is ∙ sym same_kind;
      frame_is = ap (λ (s : Fed). frame_in_force kind (items s.given)) same ∙ frame_push kind (recoding kind calls).given x ∙ p.frame_is ∙ sym frame;
      got_is = ap (λ (s : Fed). bytes_got (items s.given)) same ∙ got_flushed (recoding kind calls).given number ∙ sym got;
    }

pub recoded_drain : (law : Law) (kind : LawKind) (calls : List Call) (put : List Item) → Recoded kind law calls put → Recoded kind law (calls ++ Act Drain ∷ []) put
recoded_drain law kind calls put p = go (recoding kind calls).over refl
  where
    go : (b : Bool) → (recoding kind calls).over ≡ b → Recoded kind law (calls ++ Act Drain ∷ []) put
    go true over =
        let same = drained_behind (recodes kind) calls over in
        record {
          owed = p.owed ∙ sym (ap (λ (s : Fed). s.out) same);
          all = p.all ∙ ap (map (recoded kind)) (sym (counted_act calls Drain));
          over = ap (λ (s : Fed). s.over) same ∙ p.over;
          eos = eos_act calls Drain ∙ p.eos;
          kind_is = p.kind_is;
          frame_is = ap (λ (s : Fed). frame_in_force kind (items s.given)) same ∙ p.frame_is;
          got_is = ap (λ (s : Fed). bytes_got (items s.given)) same ∙ p.got_is;
        }
    go false begun =
        let same = drained_begun (recodes kind) calls (Ev Eos ∷ []) begun refl in
        record {
          owed = p.owed ∙ sym (append-nil (recoding kind calls).out) ∙ sym (ap (λ (s : Fed). s.out) same);
          all = p.all ∙ ap (map (recoded kind)) (sym (counted_act calls Drain));
          over = ap (λ (s : Fed). s.over) same ∙ p.over;
          eos = eos_act calls Drain ∙ p.eos;
          kind_is = p.kind_is;
          frame_is = ap (λ (s : Fed). frame_in_force kind (items s.given)) same ∙ ap (frame_in_force kind) (items_act (recoding kind calls).given Drain) ∙ p.frame_is;
          got_is = ap (λ (s : Fed). bytes_got (items s.given)) same ∙ ap bytes_got (items_act (recoding kind calls).given Drain) ∙ p.got_is;
        }
