-- A reader of WAV files with one more call.
use Rattle.std.proofs.Common.{◌≡◌, ℕ, true, false, List, [], ◌∷◌, ◌++◌, refl, sym, ap, subst, ◌∙◌, append-nil, Result, Ok, Err, fold, OnOk, IfOk, IfErr}
use Rattle.gst_item.specs.declared.out.Out.{Out}
use Rattle.flow_model.specs.Item.{Item, Ev, FlushStop, Eos, is_flush_stop, is_eos}
use Rattle.flow_model.specs.Call.{Call, Feed, Act, Drain, items}
use Rattle.flow_model.specs.Rule.{Fed}
use Rattle.flow_model.specs.Feeding.{next_owed}
use Rattle.flow_model.proofs.Calls.{items_push, items_act, fed_taken, fed_behind, fed_flush, drained_begun, drained_behind, eos_taken, eos_stays, eos_flushed, eos_act}
use Rattle.el_wav.specs.declared.wav_parse.Phase.TheVariants.{Unbegun as Fresh}
use Rattle.el_wav.specs.declared.wav_parse.WavParse.{WavParse}
use Rattle.el_wav.specs.WavParseHeads.{Told}
use Rattle.el_wav.specs.WavParseParts.{Part, Unbegun, known_in, with_item, first_part, last_part}
use Rattle.el_wav.specs.WavParseRule.{calls_behind, data_calls_from, data_calls, answer, parses_by}
use Rattle.el_wav.specs.WavParsed.{KnowsHead, StandsAs, IsIn, parsed_by, ParsedBy}
use Rattle.el_wav.specs.WavParseSteps.{Took}

-- ---- results that are handed on

pub on_ok : {T E A B : Type 0} (r : Result T E) → (A → B) → OnOk r A → OnOk r B
on_ok (Ok x) f a = f a
on_ok (Err e) f a = a

pub on_both : {T E A B C : Type 0} (r : Result T E) → (A → B → C) → OnOk r A → OnOk r B → OnOk r C
on_both (Ok x) f a b = f a b
on_both (Err e) f a b = a

pub on_if : {T E B : Type 0} {P : T → Type 0} (r : Result T E) → ((x : T) → P x → B) → IfOk r P → OnOk r B
on_if (Ok x) f p = f x p
on_if (Err e) f p = p

pub if_err : {T E : Type 0} {P Q : E → Type 0} (r : Result T E) → ((e : E) → P e → Q e) → IfErr r P → IfErr r Q
if_err (Ok x) f p = p
if_err (Err e) f p = f e p

-- ---- lists with one more item

pub part_from : (read : List ℕ → Told) (p : Part) (h : List Item) (x : Item) → fold (with_item read) p (h ++ x ∷ []) ≡ with_item read (fold (with_item read) p h) x
part_from read p [] x = refl
part_from read p (y ∷ ys) x = part_from read (with_item read p y) ys x

pub calls_from : (read : List ℕ → Told) (p : Part) (calls : List Call) (h : List Item) (x : Item)
    → data_calls_from read p calls (h ++ x ∷ []) ≡ calls_behind read (fold (with_item read) p h) (data_calls_from read p calls h) x
calls_from read p calls [] x = refl
calls_from read p calls (y ∷ ys) x = calls_from read (with_item read p y) (calls_behind read p calls y) ys x

-- where a reader stands behind items
abbrev pub IsBehindItems : (List ℕ → Told) → List Item → WavParse → Type 0
IsBehindItems read h parser = IsIn read (last_part read h) (data_calls read h) parser

moved : (read : List ℕ → Told) (h : List Item) (x : Item) (parser : WavParse)
    → IsIn read (with_item read (last_part read h) x) (calls_behind read (last_part read h) (data_calls read h) x) parser → IsBehindItems read (h ++ x ∷ []) parser
moved read h x parser is =
    subst (λ p. IsIn read p (data_calls read (h ++ x ∷ [])) parser) (sym (part_from read first_part h x))
    (subst (λ calls. IsIn read (with_item read (last_part read h) x) calls parser) (sym (calls_from read first_part [] h x)) is)

-- ---- calls

pub parsed_item : (old new : WavParse) (x : Item) (before after : List Out) → is_flush_stop x ≡ false → old.ended ≡ false → new.ended ≡ is_eos x
    → (read : List ℕ → Told) (calls : List Call) (put : List Item) → ParsedBy read old calls put
    → (t : Took read (last_part read (items (parsed_by read calls).given)) (data_calls read (items (parsed_by read calls).given)) x new before after)
    → (next_owed (parses_by read) calls x ≡ Ok t.ys) × ParsedBy read new (calls ++ Feed x ∷ []) (put ++ t.ys)
parsed_item old new x before after plain begun ends read calls put p t =
    let fed = parsed_by read calls in
    let same = fed_taken (parses_by read) calls x t.ys (p.over ∙ begun) plain t.owed in
    let more : List Call = fed.given ++ Feed x ∷ [] in
    let is_in : IsBehindItems read (items more) new = subst (λ h. IsBehindItems read h new) (sym (items_push fed.given x)) (moved read (items fed.given) x new t.is_in) in (
      (rw (p.over, begun) t.owed),
      record {
        owed = ap (λ zs. zs ++ t.ys) p.owed ∙ sym (ap (λ (s : Fed). s.out) same);
        over = ap (λ (s : Fed). s.over) same ∙ sym ends;
        eos = eos_taken calls x plain (p.eos ∙ begun) ∙ sym ends;
        is_in = subst (λ (s : Fed). IsBehindItems read (items s.given) new) (sym same) is_in;
      },
    )

pub parsed_behind : (parser : WavParse) (x : Item) → is_flush_stop x ≡ false → parser.ended ≡ true
    → (read : List ℕ → Told) (calls : List Call) (put : List Item) → ParsedBy read parser calls put
    → (next_owed (parses_by read) calls x ≡ Ok []) × ParsedBy read parser (calls ++ Feed x ∷ []) (put ++ [])
parsed_behind parser x plain ended read calls put p =
    let same = fed_behind (parses_by read) calls x (p.over ∙ ended) plain in (
      rw (p.over, ended) refl,
      record {
        owed = append-nil put ∙ p.owed ∙ sym (ap (λ (s : Fed). s.out) same);
        over = ap (λ (s : Fed). s.over) same ∙ p.over;
        eos = eos_stays calls x plain (p.eos ∙ ended) ∙ sym ended;
        is_in = subst (λ (s : Fed). IsBehindItems read (items s.given) parser) (sym same) p.is_in;
      },
    )

pub parsed_flush : (old new : WavParse) → new.ended ≡ false → new.phase ≡ Fresh
    → (read : List ℕ → Told) (calls : List Call) (put : List Item) (number : ℕ)
    → (KnowsHead (known_in read (last_part read (items (parsed_by read calls).given))) (data_calls read (items (parsed_by read calls).given)) old.known
    → KnowsHead (known_in read (last_part read (items (parsed_by read calls).given))) (data_calls read (items (parsed_by read calls).given) ++ Feed (Ev (FlushStop number)) ∷ []) new.known)
    → ParsedBy read old calls put → ParsedBy read new (calls ++ Feed (Ev (FlushStop number)) ∷ []) (put ++ Ev (FlushStop number) ∷ [])
parsed_flush old new begun fresh read calls put number knows p =
    let fed = parsed_by read calls in
    let x = Ev (FlushStop number) in
    let same = fed_flush (parses_by read) calls number in
    let more : List Call = fed.given ++ Feed x ∷ [] in
    let here : IsIn read (with_item read (last_part read (items fed.given)) x) (calls_behind read (last_part read (items fed.given)) (data_calls read (items fed.given)) x) new =
    record { reads = p.is_in.reads; knows = knows p.is_in.knows; stands = subst (StandsAs Unbegun []) (sym fresh) refl } in
    let is_in : IsBehindItems read (items more) new = subst (λ h. IsBehindItems read h new) (sym (items_push fed.given x)) (moved read (items fed.given) x new here) in
    record {
      owed = ap (λ zs. zs ++ x ∷ []) p.owed ∙ sym (ap (λ (s : Fed). s.out) same);
      over = ap (λ (s : Fed). s.over) same ∙ sym begun;
      eos = eos_flushed calls number ∙ sym begun;
      is_in = subst (λ (s : Fed). IsBehindItems read (items s.given) new) (sym same) is_in;
    }

drained_so : (parser : WavParse) (read : List ℕ → Told) (calls : List Call) (put : List Item) → ParsedBy read parser calls put
    → items (parsed_by read (calls ++ Act Drain ∷ [])).given ≡ items (parsed_by read calls).given → (parsed_by read (calls ++ Act Drain ∷ [])).out ≡ (parsed_by read calls).out
    → (parsed_by read (calls ++ Act Drain ∷ [])).over ≡ (parsed_by read calls).over → ParsedBy read parser (calls ++ Act Drain ∷ []) put
drained_so parser read calls put p given out over = record {
  owed = p.owed ∙ sym out;
  over = over ∙ p.over;
  eos = eos_act calls Drain ∙ p.eos;
  is_in = subst (λ h. IsBehindItems read h parser) (sym given) p.is_in;
}

pub parsed_over : (parser : WavParse) → parser.ended ≡ true → (read : List ℕ → Told) (calls : List Call) (put : List Item) → ParsedBy read parser calls put → ParsedBy read parser (calls ++ Act Drain ∷ []) put
parsed_over parser ended read calls put p =
    let same = drained_behind (parses_by read) calls (p.over ∙ ended) in
    drained_so parser read calls put p (ap (λ (s : Fed). items s.given) same) (ap (λ (s : Fed). s.out) same) (ap (λ (s : Fed). s.over) same)

pub parsed_drain : (parser : WavParse) → parser.ended ≡ false → (read : List ℕ → Told) (calls : List Call) (put : List Item)
    → (IsBehindItems read (items (parsed_by read calls).given) parser → answer read (last_part read (items (parsed_by read calls).given)) (data_calls read (items (parsed_by read calls).given)) (Ev Eos) ≡ Ok (Ev Eos ∷ []))
    → ParsedBy read parser calls put → ParsedBy read parser (calls ++ Act Drain ∷ []) put
parsed_drain parser begun read calls put ends p =
    let same = drained_begun (parses_by read) calls (Ev Eos ∷ []) (p.over ∙ begun) (ends p.is_in) in
    drained_so parser read calls put p (ap (λ (s : Fed). items s.given) same ∙ items_act (parsed_by read calls).given Drain)
    (ap (λ (s : Fed). s.out) same ∙ append-nil (parsed_by read calls).out) (ap (λ (s : Fed). s.over) same)
