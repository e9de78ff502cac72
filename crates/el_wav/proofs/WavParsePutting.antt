-- What a reader of WAV files puts out for a call.
use Rattle.std.proofs.Common.{◌≡◌, true, false, List, [], ◌∷◌, ◌++◌, map, refl, sym, ap, subst, ◌∙◌, append-nil, Ok}
use Rattle.std.proofs.lemmas.List.{append_cancel_left}
use Rattle.gst_item.specs.declared.out.Out.{Out}
use Rattle.flow_model.specs.Item.{Item, Ev, Eos}
use Rattle.flow_model.specs.Call.{Call, Act, Drain, items}
use Rattle.flow_model.specs.Feeding.{on_pad}
use Rattle.flow_model.specs.Owed.{owed_at, without_eos}
use Rattle.el_wav.specs.declared.wav_parse.WavParse.{WavParse}
use Rattle.el_wav.specs.WavParse.{Parsed, parses}
use Rattle.el_wav.specs.WavParseParts.{last_part}
use Rattle.el_wav.specs.WavParseRule.{last_of, data_calls, answer}
use Rattle.el_wav.specs.WavParseTold.{wav_told}
use Rattle.el_wav.specs.WavParseAppends.{Appends}
use Rattle.el_wav.specs.WavParsePuts.{Puts}
use Rattle.el_wav.specs.WavParsed.{IsIn, parsed_by}
use Rattle.el_wav.proofs.WavParseParting.{last_map}
use Rattle.el_wav.proofs.WavParsing.{parsed_over, parsed_drain}

-- ---- what goes behind what was put out

pub appends_none : (out : List Out) → Appends out out
appends_none out = ([], sym (append-nil out))

pub appends_one : (out out' : List Out) (x : Item) → out' ≡ out ++ on_pad 0 (x ∷ []) → Appends out out'
appends_one out out' x e = (x ∷ [], e)

-- the last of what went behind nothing
pub appends_last : (made before after : List Out) → Appends [] made → after ≡ before ++ last_of made → Appends before after
appends_last made before after (ys, is) e =
    (last_of ys, e ∙ ap (λ zs. before ++ zs) (ap last_of is ∙ last_map (λ item. record { pad = 0; item = item }) ys))

-- ---- the items of a pad are what was put on it

items_on : (xs : List Item) → map (λ (o : Out). o.item) (on_pad 0 xs) ≡ xs
items_on [] = refl
items_on (x ∷ xs) = ap (λ ys. x ∷ ys) (items_on xs)

same_items : (out out' : List Out) (xs ys : List Item) → out' ≡ out ++ on_pad 0 xs → out' ≡ out ++ on_pad 0 ys → ys ≡ xs
same_items out out' xs ys one other =
    sym (items_on ys) ∙ ap (map (λ (o : Out). o.item)) (append_cancel_left out (on_pad 0 ys) (on_pad 0 xs) (sym other ∙ one)) ∙ items_on xs

-- what is put out for all lists for which it stood, whatever they are
pub puts_for_all : (old new : WavParse) (call : Call) (out out' : List Out) → Appends out out'
    → ((calls : List Call) (put : List Item) → Parsed old calls put
    → (ys : List Item) × (owed_at parses calls call ≡ Ok ys) × (out' ≡ out ++ on_pad 0 ys) × Parsed new (calls ++ call ∷ []) (put ++ ys))
    → Puts old new call out out'
puts_for_all old new call out out' (more, outs) all =
    record {
      more = more;
      outs = outs;
      owed = λ one calls put p. let did = all calls put p in did.1 ∙ ap (λ zs. Ok zs) (same_items out out' more did.0 outs did.2);
      stands = λ one calls put p.
          let did = all calls put p in
          subst (λ zs. Parsed new (calls ++ call ∷ []) (put ++ zs)) (same_items out out' more did.0 outs did.2) did.3;
    }

-- ---- a drain, of which nothing comes

pub puts_over : (parser : WavParse) (out : List Out) → parser.ended ≡ true → Puts parser parser (Act Drain) out out
puts_over parser out ended =
    record {
      more = [];
      outs = sym (append-nil out);
      owed = λ one calls put p. rw (p.over, ended) refl;
      stands = λ one calls put p. rw (append-nil put) (parsed_over parser ended wav_told calls put p);
    }

pub puts_drained : (parser : WavParse) (out out' : List Out) → parser.ended ≡ false → out' ≡ out
    → ((calls : List Call) → IsIn wav_told (last_part wav_told (items (parsed_by wav_told calls).given)) (data_calls wav_told (items (parsed_by wav_told calls).given)) parser
    → answer wav_told (last_part wav_told (items (parsed_by wav_told calls).given)) (data_calls wav_told (items (parsed_by wav_told calls).given)) (Ev Eos) ≡ Ok (Ev Eos ∷ []))
    → Puts parser parser (Act Drain) out out'
puts_drained parser out out' begun same ends =
    record {
      more = [];
      outs = same ∙ sym (append-nil out);
      owed = λ one calls put p. rw (p.over, begun) (ap without_eos (ends calls p.is_in));
      stands = λ one calls put p. rw (append-nil put) (parsed_drain parser begun wav_told calls put (ends calls) p);
    }
