-- An element of a task and its pads.
use Rattle.std.proofs.Common.{◌≡◌, ◌<◌, ◌⊎◌, ℕ, suc, Bool, true, false, List, [], ◌∷◌, ◌++◌, ◌||◌, eqb, map, Some, refl, sym, ap, ◌∙◌, subst, inl, inr, arith}
use Rattle.std.specs.Prelude.{slice_get, ◌+◌}
use Rattle.std.proofs.lemmas.Bool.{cases_eq}
use Rattle.std.proofs.lemmas.Bool.Decides.{eqb_tells}
use Rattle.gst_item.specs.declared.out.Out.{Out}
use Rattle.flow_model.specs.Call.{Feed}
use Rattle.flow_model.specs.Item.{Item}
use Rattle.flow_model.specs.SinkPads.{push_calls}
use Rattle.flow_model.specs.declared.element.TaskElement as elements
use Rattle.flow_model.specs.Takes.{Takes, on_port}
use Rattle.task_pads.specs.declared.pad.Pad.{Pad}
use Rattle.task_pads.specs.Pads.{PadShape, pad_shape, waiting_of}
use Rattle.task_pads.specs.Put.{Spread}
use Rattle.task_parts.specs.declared.part.Part.{Part}
use Rattle.task_parts.specs.Part.{PadSet, PartFed, PartSettled}
use Rattle.task_parts.specs.Shape.{PartShape, has_number, part_shape}
use Rattle.task_pads.proofs.Lists.{map_set}
use Rattle.task_parts.proofs.Lists.{append_more}
use Rattle.task_parts.proofs.Outs.{on_port_append}
use Rattle.gst_value.proofs.Basics.{some_same}
use Rattle.gst_value.proofs.Places.{nil_append}
use Rattle.gst_outside.specs.Causes.{NeverFalls}

abbrev pub shape_with : ℕ → List PadShape → PartShape
shape_with number pads = record { number = number; pads = pads }

module _ {E O : Type 0} {e : elements.Ghosts E} where
  pub none_has : (parts : List (Part E O e)) (n : ℕ) → ((j : ℕ) (part : Part E O e) → slice_get parts j ≡ Some part → part.number ≡ n → ⊥) → has_number n (map part_shape parts) ≡ true → ⊥
  none_has [] n none h = cc
  none_has (p ∷ ps) n none h = go (none_has ps n (λ j q at. none (suc j) q at)) (eqb_tells p.number n)
    where
      go : (has_number n (map part_shape ps) ≡ true → ⊥) → ((eqb p.number n ≡ true) × (p.number ≡ n)) ⊎ ((eqb p.number n ≡ false) × (p.number ≡ n → ⊥)) → ⊥
      go rest (inl z) = none 0 p refl z.1
      go rest (inr z) = rest (sym (ap (λ (b : Bool). b || has_number n (map part_shape ps)) z.0) ∙ h)

  pub set_shape : (old new : Part E O e) (port : ℕ) (was is : Pad O) → PadSet old new port was is → part_shape new ≡ part_shape old
  set_shape old new port was is s =
      ap (λ (n : ℕ). shape_with n (map pad_shape new.pads.items)) s.number
      ∙ ap (λ (ps : List PadShape). shape_with old.number ps) (ap (map pad_shape) s.set ∙ map_set pad_shape old.pads.items port was is s.at s.shape)

  pub settled_of : (old new : Part E O e) → new.number ≡ old.number → new.element ≡ old.element → Spread old.out new.out old.pads.items new.pads.items → PartSettled old new
  settled_of old new number element s = record {
    number = number;
    element = element;
    pads = λ port pad at. let z = s port pad at in record { was = z.was; at = z.at; rest = z.rest; waits = z.waiting ∙ sym (nil_append (waiting_of z.was ++ on_port port old.out)) };
  }

  pub fed_of : (old mid new : Part E O e) (pad : ℕ) (item : Item) → mid.number ≡ old.number → mid.pads ≡ old.pads → Takes (e.stands old.element) (e.stands mid.element) (e.ports old.element) pad item old.out mid.out
      → NeverFalls (e.failures old.element) (e.failures mid.element) → e.file mid.element ≡ e.file old.element → PartSettled mid new → PartFed old new pad item
  fed_of old mid new pad item number pads took falls file s = record {
    number = s.number ∙ number;
    more = took.more;
    stands_now = λ behavior t st. subst (λ (x : E). e.stands x behavior (push_calls pad (Feed item ∷ []) t)) (sym s.element) (took.stands_now behavior t st);
    owes = took.owes;
    pads = λ port p at.
        let z = s.pads port p at in
        record {
          was = z.was;
          at = ap (λ v. slice_get v.items port) (sym pads) ∙ z.at;
          rest = z.rest;
          waits = z.waits ∙ nil_append (waiting_of z.was ++ on_port port mid.out) ∙ ap (λ (os : List Out). waiting_of z.was ++ on_port port os) took.appended
              ∙ ap (λ (l : List Item). waiting_of z.was ++ l) (on_port_append port old.out took.more) ∙ sym (append_more (waiting_of z.was) (on_port port old.out) (on_port port took.more));
        };
    never_falls = subst (λ (x : E). NeverFalls (e.failures old.element) (e.failures x)) (sym s.element) falls;
    file = ap e.file s.element ∙ file;
  }

  pub none_next : (parts : List (Part E O e)) (n place : ℕ) (here : Part E O e) → slice_get parts place ≡ Some here → (here.number ≡ n → ⊥) → ((j : ℕ) (part : Part E O e) → j < place → slice_get parts j ≡ Some part → part.number ≡ n → ⊥)
      → (j : ℕ) (part : Part E O e) → j < place + 1 → slice_get parts j ≡ Some part → part.number ≡ n → ⊥
  none_next parts n place here at not_here before j part less at' same = go (cases_eq j place)
    where
      go : ((j ≡ place) ⊎ (j ≡ place → ⊥)) → ⊥
      go (inl i) = not_here (ap (λ (p : Part E O e). p.number) (some_same (sym at ∙ ap (slice_get parts) (sym i) ∙ at')) ∙ same)
      go (inr ne) = before j part (omega (arith, ne, less)) at' same
