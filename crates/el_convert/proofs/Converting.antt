-- A converter with one more call.
use Rattle.std.proofs.Common.{◌≡◌, ◌+◌, ℕ, Bool, true, false, List, [], ◌∷◌, ◌++◌, length, Option, refl, sym, ap, ◌∙◌, append-nil, append_assoc, Ok}
use Rattle.std.specs.Prelude.{IsOk}
use Rattle.std.proofs.lemmas.List.Sums.{sum_by_push}
use Rattle.gst_value.specs.Description.{Description}
use Rattle.gst_caps.specs.declared.caps.Caps.{Caps}
use Rattle.gst_value.specs.declared.one.One.{One}
use Rattle.gst_item.proofs.Kept.{latest_push, since_push}
use Rattle.gst_item.specs.Sticky.{since_flush_stop}
use Rattle.flow_model.specs.Item.{Item, Ev, FlushStop, Eos, is_caps, is_flush_stop, is_eos, body_of}
use Rattle.flow_model.specs.Call.{Call, Feed, Act, Drain, Set, Filter, Allowed, Drops, items}
use Rattle.flow_model.specs.Rule.{Fed}
use Rattle.flow_model.specs.Feeding.{next_owed, IsFaultOf}
use Rattle.flow_model.specs.declared.fault.ElementFault.{ElementFault}
use Rattle.flow_model.specs.CapsInForce.{caps_in_force, caps_behind}
use Rattle.flow_model.proofs.Calls.{items_push, items_act, fed_taken, fed_behind, fed_flush, drained_begun, drained_behind, set_push, eos_taken, eos_stays, eos_flushed, eos_act}
use Rattle.el_convert.specs.declared.convert.Convert.{Convert}
use Rattle.el_convert.specs.Converts.{Known, known, allowed_in, convert_answer, converts, caps_after, known_behind}
use Rattle.flow_model.specs.Owed.{answered}
use Rattle.el_convert.specs.Converted.{converted, knows, IsConverted}
use Rattle.flow_model.proofs.CapsFed.{caps_by}
use Rattle.flow_model.proofs.Items.{ok_answered}
use Rattle.flow_model.specs.Looking.{bytes_since_flush as bytes_got}

-- the allowed caps with more calls
pub allowed_more : (first : Caps) (calls more : List Call) → allowed_in first (calls ++ more) ≡ allowed_in (allowed_in first calls) more
allowed_more first [] more = refl
allowed_more first (Feed x ∷ calls) more = allowed_more first calls more
allowed_more first (Act Drain ∷ calls) more = allowed_more first calls more
allowed_more first (Act (Set (Filter caps)) ∷ calls) more = allowed_more first calls more
allowed_more first (Act (Set (Allowed caps)) ∷ calls) more = allowed_more caps calls more
allowed_more first (Act (Set (Drops drops)) ∷ calls) more = allowed_more first calls more

caps_push : (h : List Item) (x : Item) → caps_in_force (h ++ x ∷ []) ≡ caps_behind (caps_in_force h) x
caps_push h x = rw (latest_push is_caps h x) (caps_by x h)

caps_more : (h xs : List Item) → caps_in_force (h ++ xs) ≡ caps_after (caps_in_force h) xs
caps_more h [] = ap caps_in_force (append-nil h)
caps_more h (x ∷ xs) = ap caps_in_force (sym (append_assoc h (x ∷ []) xs)) ∙ caps_more (h ++ x ∷ []) xs ∙ ap (λ caps. caps_after caps xs) (caps_push h x)

-- the bytes that came, with one more item and behind a FLUSH_STOP
got_push : (h : List Item) (x : Item) → is_flush_stop x ≡ false → bytes_got (h ++ x ∷ []) ≡ bytes_got h + length (body_of x)
got_push h x plain = rw (since_push h x, plain) (sum_by_push (λ y. length (body_of y)) (since_flush_stop h) x)

got_flushed : (h : List Item) (number : ℕ) → bytes_got (h ++ Ev (FlushStop number) ∷ []) ≡ 0
got_flushed h number = rw (since_push h (Ev (FlushStop number))) refl

abbrev pub knowing : Caps → Option (Description One) → Option (Description One) → ℕ → Known
knowing allowed offered chosen got = record { allowed = allowed; offered = offered; chosen = chosen; got = got }

pub same_known : (a b : Caps) (o p c d : Option (Description One)) (m n : ℕ) → a ≡ b → o ≡ p → c ≡ d → m ≡ n → knowing a o c m ≡ knowing b p d n
same_known a b o p c d m n e f g h = rw (e, f, g, h) refl

-- what is known with one more call
known_taken : (first : Caps) (given : List Call) (out ys : List Item) (over ends : Bool) (x : Item) → is_flush_stop x ≡ false
    → known first (record { given = given ++ Feed x ∷ []; out = out ++ ys; over = ends })
    ≡ knowing (allowed_in first given) (caps_behind (caps_in_force (items given)) x) (caps_after (caps_in_force out) ys) (bytes_got (items given) + length (body_of x))
known_taken first given out ys over ends x plain =
    same_known _ _ _ _ _ _ _ _ (allowed_more first given (Feed x ∷ [])) (ap caps_in_force (items_push given x) ∙ caps_push (items given) x) (caps_more out ys) (ap bytes_got (items_push given x) ∙ got_push (items given) x plain)

known_flushed : (first : Caps) (given : List Call) (out : List Item) (number : ℕ)
    → known first (record { given = given ++ Feed (Ev (FlushStop number)) ∷ []; out = out ++ Ev (FlushStop number) ∷ []; over = false })
    ≡ knowing (allowed_in first given) (caps_in_force (items given)) (caps_in_force out) 0
known_flushed first given out number =
    let x = Ev (FlushStop number) in
    same_known _ _ _ _ _ _ _ _ (allowed_more first given (Feed x ∷ [])) (ap caps_in_force (items_push given x) ∙ caps_push (items given) x) (caps_push out x) (ap bytes_got (items_push given x) ∙ got_flushed (items given) number)

-- the answer of the rule, by what the element knows
pub fault_known : (element : Convert) (x : Item) (fault : ElementFault) → element.ended ≡ false → IsFaultOf (convert_answer (knows element) x) fault
    → (first : Caps) (calls : List Call) (put : List Item) → IsConverted first element calls put → IsFaultOf (next_owed (converts first) calls x) fault
fault_known element x fault begun h first calls put p =
    let begins : (converted first calls).over ≡ false = p.over ∙ begun in
    rw (begins, p.as_far) h

pub converted_item : (old new : Convert) (x : Item) → is_flush_stop x ≡ false → old.ended ≡ false
    → IsOk (convert_answer (knows old) x) → knows new ≡ known_behind (knows old) x → new.ended ≡ is_eos x
    → (first : Caps) (calls : List Call) (put : List Item) → IsConverted first old calls put
    → (next_owed (converts first) calls x ≡ Ok (answered (convert_answer (knows old) x))) × IsConverted first new (calls ++ Feed x ∷ []) (put ++ answered (convert_answer (knows old) x))
converted_item old new x plain begun ok moved ends first calls put p =
    let ys = answered (convert_answer (knows old) x) in
    let fed = converted first calls in
    let answer : converts first fed x ≡ Ok ys = ap (λ k. convert_answer k x) p.as_far ∙ ok_answered (convert_answer (knows old) x) ok in
    let same = fed_taken (converts first) calls x ys (p.over ∙ begun) plain answer in (
      (rw (p.over, begun) answer),
      record {
        owed = ap (λ zs. zs ++ ys) p.owed ∙ sym (ap (λ (s : Fed). s.out) same);
        over = ap (λ (s : Fed). s.over) same ∙ sym ends;
        eos = eos_taken calls x plain (p.eos ∙ begun) ∙ sym ends;
        as_far = ap (known first) same ∙ known_taken first fed.given fed.out ys fed.over (is_eos x) x plain
            ∙ ap (λ (k : Known). knowing k.allowed (caps_behind k.offered x) (caps_after k.chosen ys) (k.got + length (body_of x))) p.as_far ∙ sym moved;
      },
    )

pub converted_behind : (element : Convert) (x : Item) → is_flush_stop x ≡ false → element.ended ≡ true
    → (first : Caps) (calls : List Call) (put : List Item) → IsConverted first element calls put
    → (next_owed (converts first) calls x ≡ Ok []) × IsConverted first element (calls ++ Feed x ∷ []) (put ++ [])
converted_behind element x plain ended first calls put p =
    let same = fed_behind (converts first) calls x (p.over ∙ ended) plain in (
      rw (p.over, ended) refl,
      record {
        owed = append-nil put ∙ p.owed ∙ sym (ap (λ (s : Fed). s.out) same);
        over = ap (λ (s : Fed). s.over) same ∙ p.over;
        eos = eos_stays calls x plain (p.eos ∙ ended) ∙ sym ended;
        as_far = ap (known first) same ∙ p.as_far;
      },
    )

pub converted_flush : (old new : Convert) → knows new ≡ record (knows old) { got = 0 } → new.ended ≡ false
    → (first : Caps) (calls : List Call) (put : List Item) (number : ℕ) → IsConverted first old calls put
    → IsConverted first new (calls ++ Feed (Ev (FlushStop number)) ∷ []) (put ++ Ev (FlushStop number) ∷ [])
converted_flush old new anew begun first calls put number p =
    let fed = converted first calls in
    let same = fed_flush (converts first) calls number in
    record {
      owed = ap (λ zs. zs ++ Ev (FlushStop number) ∷ []) p.owed ∙ sym (ap (λ (s : Fed). s.out) same);
      over = ap (λ (s : Fed). s.over) same ∙ sym begun;
      eos = eos_flushed calls number ∙ sym begun;
      as_far = ap (known first) same ∙ known_flushed first fed.given fed.out number ∙ ap (λ (k : Known). knowing k.allowed k.offered k.chosen 0) p.as_far ∙ sym anew;
    }

pub converted_drain : (element : Convert) (first : Caps) (calls : List Call) (put : List Item) → IsConverted first element calls put → IsConverted first element (calls ++ Act Drain ∷ []) put
converted_drain element first calls put p = go (converted first calls).over refl
  where
    after : (after : Fed) → converted first (calls ++ Act Drain ∷ []) ≡ after → after.out ≡ (converted first calls).out → after.over ≡ (converted first calls).over
        → known first after ≡ known first (converted first calls) → IsConverted first element (calls ++ Act Drain ∷ []) put
    after s same out over as_far = record {
      owed = p.owed ∙ sym out ∙ sym (ap (λ (s : Fed). s.out) same);
      over = ap (λ (s : Fed). s.over) same ∙ over ∙ p.over;
      eos = eos_act calls Drain ∙ p.eos;
      as_far = ap (known first) same ∙ as_far ∙ p.as_far;
    }

    go : (b : Bool) → (converted first calls).over ≡ b → IsConverted first element (calls ++ Act Drain ∷ []) put
    go true over = after (converted first calls) (drained_behind (converts first) calls over) refl refl refl
    go false begun =
        let fed = converted first calls in
        after _ (drained_begun (converts first) calls (Ev Eos ∷ []) begun refl) (append-nil fed.out) refl
        (same_known _ _ _ _ _ _ _ _ (allowed_more first fed.given (Act Drain ∷ [])) (ap caps_in_force (items_act fed.given Drain)) (ap caps_in_force (append-nil fed.out)) (ap bytes_got (items_act fed.given Drain)))

pub converted_set : (old new : Convert) (caps : Caps) → knows new ≡ record (knows old) { allowed = caps } → new.ended ≡ old.ended
    → (first : Caps) (calls : List Call) (put : List Item) → IsConverted first old calls put → IsConverted first new (calls ++ Act (Set (Allowed caps)) ∷ []) put
converted_set old new caps set ended first calls put p =
    let fed = converted first calls in
    let same = set_push (converts first) calls (Allowed caps) in
    let mark = Set (Allowed caps) in
    record {
      owed = p.owed ∙ sym (ap (λ (s : Fed). s.out) same);
      over = ap (λ (s : Fed). s.over) same ∙ p.over ∙ sym ended;
      eos = eos_act calls mark ∙ p.eos ∙ sym ended;
      as_far = ap (known first) same
          ∙ same_known _ _ _ _ _ _ _ _ (allowed_more first fed.given (Act mark ∷ [])) (ap caps_in_force (items_act fed.given mark)) refl (ap bytes_got (items_act fed.given mark))
          ∙ ap (λ (k : Known). knowing caps k.offered k.chosen k.got) p.as_far ∙ sym set;
    }
