-- Buffers that go out, one by one.
use Rattle.std.proofs.Common.{◌≡◌, ◌<◌, ℕ, ◌+◌, ◌-◌, ◌/◌, false, if◌then◌else◌, List, [], ◌∷◌, ◌++◌, Option, Some, None, map, refl, sym, ap, ◌∙◌, subst, append-nil, append_assoc, arith}
use Rattle.std.specs.Option.{option_map}
use Rattle.gst_time.specs.declared.time.TheConstants.{LIMIT}
use Rattle.gst_item.specs.declared.out.Out.{Out}
use Rattle.audio_info.specs.declared.info.Info.{Info}
use Rattle.flow_model.specs.Item.{Item, Buf, Ev}
use Rattle.flow_model.specs.Feeding.{on_pad}
use Rattle.el_mix.specs.declared.channel.Channel.{Channel}
use Rattle.el_mix.specs.declared.position.Position.{Position}
use Rattle.el_mix.specs.Mono.{Mono, width, time_of}
use Rattle.el_mix.specs.Mixed.{rows, piece, mixed, limit}
use Rattle.el_mix.specs.Mixes.{eos_if}
use Rattle.el_mix.specs.Agreed.{or_else}
use Rattle.el_mix.specs.Heard.{mono_by}
use Rattle.el_mix.specs.Taking.{settled, passes, lines}
use Rattle.el_mix.specs.Line.{past}
use Rattle.el_mix.specs.Turns.{Ahead, next_cut, turns}
use Rattle.el_mix.specs.Lined.{AllLined, Ready}
use Rattle.el_mix.specs.Putting.{all_ended, opening_if, Opens, buffer_item, piece_item, GoesOn, ended_by, Pieced}
use Rattle.el_mix.specs.Pushing.{Streams}
use Rattle.el_mix.proofs.Stepping.{all_past, Step, step, all_out, time_grows}
use Rattle.flow_model.proofs.Items.{free_append, on_append}

pub on_behind : (outs : List Out) (xs ys : List Item) → (outs ++ on_pad 0 xs) ++ on_pad 0 ys ≡ outs ++ on_pad 0 (xs ++ ys)
on_behind outs xs ys = append_assoc outs (on_pad 0 xs) (on_pad 0 ys) ∙ ap (λ zs. outs ++ zs) (sym (on_append xs ys))

-- the time of the end of the last buffer
pub ended_append : (t : ℕ) (xs ys : List Item) → ended_by t (xs ++ ys) ≡ ended_by (ended_by t xs) ys
ended_append t [] ys = refl
ended_append t (Buf b ∷ xs) ys = ended_append (ended_by t (Buf b ∷ [])) xs ys
ended_append t (Ev e ∷ xs) ys = ended_append t xs ys

-- past so many bytes of each channel
pub lines_passes : (n : ℕ) (cs : List Channel) → lines (map (passes n) cs) ≡ all_past n (lines cs)
lines_passes n [] = refl
lines_passes n (c ∷ cs) = ap (λ ls. (c.progress.ended, past n c.waiting.ahead) ∷ ls) (lines_passes n cs)

pub settled_passes : (n : ℕ) (cs : List Channel) → map settled (map (passes n) cs) ≡ map settled cs
settled_passes n [] = refl
settled_passes n (c ∷ cs) = ap (λ ds. settled c ∷ ds) (settled_passes n cs)

ended_settled : (cs : List Channel) → all_ended (map settled cs) ≡ all_ended cs
ended_settled [] = refl
ended_settled (c ∷ cs) = ap (λ b. if c.progress.ended then b else false) (ended_settled cs)

-- The next buffer.
module _ (mono : Mono) (at new : Position) (n : ℕ) (ls : List Ahead) (e : next_cut None ls ≡ Some n) (g : GoesOn mono (n / width mono) at new)
    (xss : List (List Item)) (r : Ready mono at.next at.reached ls xss) where
  this_step : Step mono at.next at.reached n ls xss
  this_step = step mono at.next at.reached n ls xss r e

  next_is : new.next ≡ at.next + n / width mono
  next_is = g.next_is this_step.small

  reached_is : new.reached ≡ time_of mono new.next
  reached_is = g.reached_is (subst (λ k. time_of mono k < LIMIT) (sym next_is) this_step.fits)

  item_is : piece mono xss at.next (at.next + n / width mono) ≡ piece_item mono n at new ls
  item_is =
      let count : at.next + n / width mono - at.next ≡ n / width mono = omega arith in
      ap (λ bs. Buf (record { body = bs; pts = Some (time_of mono at.next); duration = Some (time_of mono (at.next + n / width mono) - time_of mono at.next); offset = Some at.next; discont = false }))
      (ap (λ k. rows mono xss at.next k) count ∙ this_step.body)
      ∙ ap (λ t. Buf (record { body = turns mono.format ls (n / width mono); pts = Some t; duration = Some (time_of mono (at.next + n / width mono) - t); offset = Some at.next; discont = false })) (sym r.time)
      ∙ ap (λ t. buffer_item (turns mono.format ls (n / width mono)) at t) (ap (time_of mono) (sym next_is) ∙ sym reached_is)

  more_is : mixed mono xss at.next at.next (limit mono xss - at.next) ≡ piece_item mono n at new ls ∷ mixed mono xss new.next new.next (limit mono xss - new.next)
  more_is =
      this_step.more ∙ ap (λ x. x ∷ mixed mono xss (at.next + n / width mono) (at.next + n / width mono) (limit mono xss - (at.next + n / width mono))) item_is
      ∙ ap (λ k. piece_item mono n at new ls ∷ mixed mono xss k k (limit mono xss - k)) (sym next_is)

  ready_is : Ready mono new.next new.reached (all_past n ls) xss
  ready_is =
      let lined = this_step.ready.lined in
      let within = this_step.ready.within in
      record {
        lined = subst (λ k. AllLined mono k (all_past n ls) xss) (sym next_is) lined;
        within = omega (arith, next_is, within);
        fits = r.fits;
        time = reached_is;
      }

  ends_is : ended_by at.reached (piece_item mono n at new ls ∷ []) ≡ new.reached
  ends_is =
      let later = time_grows mono at.next new.next (omega (arith, next_is)) in
      let from = r.time in
      let to = reached_is in
      omega (arith, later, from, to)

pub pieced_more : (mono : Mono) (old at new : Position) (n : ℕ) (ls0 ls ls1 : List Ahead) (outs0 outs outs1 : List Out) → next_cut None ls ≡ Some n
    → GoesOn mono (n / width mono) at new → ls1 ≡ all_past n ls → outs1 ≡ outs ++ on_pad 0 (piece_item mono n at new ls ∷ [])
    → Pieced mono old at ls0 ls outs0 outs → Pieced mono old new ls0 ls1 outs0 outs1
pieced_more mono old at new n ls0 ls ls1 outs0 outs outs1 e g past put p = record {
  more = p.more ++ piece_item mono n at new ls ∷ [];
  outs_are = put ∙ ap (λ zs. zs ++ on_pad 0 (piece_item mono n at new ls ∷ [])) p.outs_are ∙ on_behind outs0 p.more (piece_item mono n at new ls ∷ []);
  free = free_append p.more (piece_item mono n at new ls ∷ []) p.free refl;
  open_is = g.open_is ∙ p.open_is;
  owed = λ xss r. p.owed xss r ∙ ap (λ zs. p.more ++ zs) (more_is mono at new n ls e g xss (p.ready xss r))
      ∙ sym (append_assoc p.more (piece_item mono n at new ls ∷ []) (mixed mono xss new.next new.next (limit mono xss - new.next)));
  ready = λ xss r. subst (λ ls. Ready mono new.next new.reached ls xss) (sym past) (ready_is mono at new n ls e g xss (p.ready xss r));
  ends = λ xss r. ended_append old.reached p.more (piece_item mono n at new ls ∷ []) ∙ ap (λ t. ended_by t (piece_item mono n at new ls ∷ [])) (p.ends xss r)
      ∙ ends_is mono at new n ls e g xss (p.ready xss r);
}

-- where isnt cut is known, or none that is worth while
pub pieced_out : (mono : Mono) (at : Position) (ls : List Ahead) → next_cut None ls ≡ None → (xss : List (List Item)) → Ready mono at.next at.reached ls xss → at.next ≡ limit mono xss
pieced_out mono at ls e xss r = all_out mono at.next at.reached ls xss r e

pub pieced_zero : (mono : Mono) (at : Position) (n : ℕ) (ls : List Ahead) → next_cut None ls ≡ Some n → n ≡ 0 → (xss : List (List Item)) → Ready mono at.next at.reached ls xss → at.next ≡ limit mono xss
pieced_zero mono at n ls e zero_is xss r = absurd (let s = step mono at.next at.reached n ls xss r e in let some = s.some in omega (arith, some, zero_is))

-- the whole of a stream
opened_map : (o : Option Info) (info : Info) → option_map mono_by (or_else o (Some info)) ≡ or_else (option_map mono_by o) (Some (mono_by info))
opened_map None info = refl
opened_map (Some i) info = refl

moved_ready : (mono : Mono) (a b c d : ℕ) (ls : List Ahead) (xss : List (List Item)) → a ≡ c → b ≡ d → Ready mono c d ls xss → Ready mono a b ls xss
moved_ready mono a b c d ls xss p q r = subst (λ n. Ready mono n b ls xss) (sym p) (subst (λ t. Ready mono c t ls xss) (sym q) r)

pub streams : (info : Info) (old mid new : Position) (cs ds : List Channel) (outs outs1 outs2 outs3 : List Out) → Opens old mid info cs outs outs1
    → Pieced (mono_by info) mid new (lines cs) (lines ds) outs1 outs2
    → ((xss : List (List Item)) → Ready (mono_by info) new.next new.reached (lines ds) xss → new.next ≡ limit (mono_by info) xss)
    → map settled ds ≡ map settled cs → outs3 ≡ outs2 ++ on_pad 0 (eos_if (all_ended ds)) → Streams (mono_by info) old cs new ds outs outs3
streams info old mid new cs ds outs outs1 outs2 outs3 o p all still put = record {
  pieces = p.more;
  outs_are = put ∙ ap (λ b. outs2 ++ on_pad 0 (eos_if b)) ended
      ∙ ap (λ zs. zs ++ on_pad 0 (eos_if (all_ended cs))) (p.outs_are ∙ ap (λ zs. zs ++ on_pad 0 p.more) o.outs_are)
      ∙ ap (λ zs. zs ++ on_pad 0 (eos_if (all_ended cs))) (on_behind outs (opening_if old.open (mono_by info) cs) p.more)
      ∙ on_behind outs (opening_if old.open (mono_by info) cs ++ p.more) (eos_if (all_ended cs))
      ∙ ap (λ zs. outs ++ on_pad 0 zs) (append_assoc (opening_if old.open (mono_by info) cs) p.more (eos_if (all_ended cs)));
  free = p.free;
  open_is = ap (option_map mono_by) (p.open_is ∙ o.open_is) ∙ opened_map old.open info;
  owed = λ xss r. here xss r;
  ready = λ xss r. p.ready xss (before xss r);
  all = λ xss r. all xss (p.ready xss (before xss r));
  ends = λ xss r. ap (λ t. ended_by t p.more) (sym o.reached_is) ∙ p.ends xss (before xss r);
}
  where
    ended : all_ended ds ≡ all_ended cs
    ended = sym (ended_settled ds) ∙ ap all_ended still ∙ ended_settled cs

    before : (xss : List (List Item)) → Ready (mono_by info) old.next old.reached (lines cs) xss → Ready (mono_by info) mid.next mid.reached (lines cs) xss
    before xss r = moved_ready (mono_by info) mid.next mid.reached old.next old.reached (lines cs) xss o.next_is o.reached_is r

    here : (xss : List (List Item)) → Ready (mono_by info) old.next old.reached (lines cs) xss → p.more ≡ mixed (mono_by info) xss old.next old.next (limit (mono_by info) xss - old.next)
    here xss r =
        let end = all xss (p.ready xss (before xss r)) in
        let none : limit (mono_by info) xss - new.next ≡ 0 = omega (arith, end) in
        sym (append-nil p.more) ∙ ap (λ k. p.more ++ mixed (mono_by info) xss new.next new.next k) (sym none) ∙ sym (p.owed xss (before xss r))
        ∙ ap (λ k. mixed (mono_by info) xss k k (limit (mono_by info) xss - k)) o.next_is
