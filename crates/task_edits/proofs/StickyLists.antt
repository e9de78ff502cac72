-- Sticky events of a pad, as items.
use Rattle.std.proofs.Common.{◌≡◌, ◌++◌, Bool, true, false, if◌then◌else◌, List, [], ◌∷◌, map, refl, sym, ◌∙◌, subst, append_assoc, append-nil}
use Rattle.flow_model.specs.Item.{Item, Event, Ev, FlushStop, is_flush_stop}
use Rattle.flow_model.proofs.Items.{free_append}
use Rattle.gst_item.specs.Item.{is_sticky}
use Rattle.gst_item.specs.Sticky.{has_flush_stop, stickies}
use Rattle.pad_core.specs.Counts.{AreSticky}
use Rattle.task_edits.specs.Stickies.{with_sticky}
use Rattle.pad_core.proofs.Again.{listed_sticky}

sticky_calm : (event : Event) → is_sticky event ≡ true → is_flush_stop (Ev event) ≡ false
sticky_calm (FlushStop number) h = absurd cc
sticky_calm _ h = refl

-- the events so far, where some are items now
pub record SoFarSticky (events : List Event) (items : List Item) (rest : List Event) : Type 0 where
  pub calm : has_flush_stop items ≡ false
  pub all : AreSticky events → (items ++ map Ev rest ≡ map Ev events) × AreSticky rest

pub sticky_begins : (events : List Event) → SoFarSticky events [] events
sticky_begins events = record { calm = refl; all = λ h. (refl, h) }

pub sticky_next : (events : List Event) (items items' : List Item) (event : Event) (rest : List Event) → items' ≡ with_sticky event items → SoFarSticky events items (event ∷ rest) → SoFarSticky events items' rest
sticky_next events items items' event rest more s = subst (λ (xs : List Item). SoFarSticky events xs rest) (sym more) (go (is_sticky event) refl)
  where
    go : (b : Bool) → is_sticky event ≡ b → SoFarSticky events (if b then items ++ Ev event ∷ [] else items) rest
    go true sticky = record {
      calm = free_append items (Ev event ∷ []) s.calm (let one = sticky_calm event sticky in rw one refl);
      all = λ h. let z = s.all h in (append_assoc items (Ev event ∷ []) (map Ev rest) ∙ z.0, z.1.1);
    }
    go false other = record { calm = s.calm; all = λ h. absurd (let is = (s.all h).1.0 in cc) }

pub sticky_ends : (events : List Event) (items : List Item) → SoFarSticky events items [] → AreSticky events → items ≡ map Ev events
sticky_ends events items s h = sym (append-nil items) ∙ (s.all h).0

pub sticky_all : (h : List Item) (events : List Event) (items : List Item) → map Ev events ≡ stickies h → (AreSticky events → items ≡ map Ev events) → items ≡ stickies h
sticky_all h events items same all = all (listed_sticky h events same) ∙ same
