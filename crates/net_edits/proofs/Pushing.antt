-- What stands in the inlets, where more calls stand in the one of a sink pad to which no pad leads.
use Rattle.std.proofs.Common.{◌≡◌, ◌⊎◌, ◌++◌, ℕ, List, length, refl, sym, ap, ◌∙◌, subst, inl, inr}
use Rattle.std.proofs.lemmas.Bool.{cases_eq}
use Rattle.flow_model.specs.Call.{Call}
use Rattle.flow_model.specs.SinkPads.{InSection, flush_stops_given, push_calls}
use Rattle.inlet_row.specs.declared.feeding.Feeding.{Feeding}
use Rattle.lane_core.specs.declared.ends.Inlet as inlets
use Rattle.lane_core.specs.declared.ends.Outlet as outlets
use Rattle.flow_model.specs.Moment.{Moment, put_at}
use Rattle.flow_model.specs.Split.{AreEmpty, NoneAt}
use Rattle.flow_model.specs.Step.{Leads}
use Rattle.flow_model.specs.declared.element.TaskElement as elements
use Rattle.flow_model.specs.declared.source.TaskSource as sources
use Rattle.flow_model.proofs.Inputs.{at_here, at_other}
use Rattle.net_task.specs.declared.task.Task.{Task}
use Rattle.net_turns.specs.Net.{ListAt}
use Rattle.net_edits.specs.Over.{IsGrownAt}
use Rattle.net_edits.proofs.NetGrown.{Lays}
use Rattle.net_edits.proofs.Pushed.{push_else, push_here, push_many, push_none, push_section}

-- what is so where a value is put, and elsewhere
put_or : {A : Type 0} (P : ℕ → A → Type 0) (n : ℕ) (now : A) (f : ℕ → A) (k : ℕ) → (k ≡ n → P n now) → ((k ≡ n → ⊥) → P k (f k)) → P k (put_at n now f k)
put_or P n now f k here there = go (cases_eq k n)
  where
    go : (k ≡ n) ⊎ (k ≡ n → ⊥) → P k (put_at n now f k)
    go (inl same) = subst (λ (j : ℕ). P j (put_at n now f j)) (sym same) (subst (P n) (sym (at_here n now f)) (here same))
    go (inr other) = subst (P k) (sym (at_other n now f k other)) (there other)

-- more calls stand at a sink pad of an element
abbrev pub pushed : ℕ → ℕ → List Call → Moment → ℕ → List (List Call)
pushed element port calls m = put_at element (push_calls port calls (m.held element)) m.held

module _ {S E I O L : Type 0} {s : sources.Ghosts S} {e : elements.Ghosts E} {i : inlets.Ghosts I L O} {o : outlets.Ghosts O L} (tasks tasks' : List (Task S E I O L s e i o)) (r port : ℕ) (more : List (Feeding I)) (g : IsGrownAt tasks tasks' r port more) where
  pub lays_pushed : (m : Moment) (element : ℕ) (calls : List Call) → g.grew.old.number ≡ element → flush_stops_given calls ≡ 0 → ((p : ℕ) → Leads m.plan p element port → ⊥) → Lays tasks tasks' r port more g m (pushed element port calls m) calls
  lays_pushed m element calls element_is calm none = record {
    here_more = λ was at.
        subst (λ (css : List (List Call)). ListAt port css (was ++ calls)) (sym (ap (pushed element port calls m) element_is ∙ at_here element (push_calls port calls (m.held element)) m.held))
        (push_here port calls (m.held element) was (subst (λ (a : ℕ). ListAt port (m.held a) was) element_is at));
    elsewhere = λ a b was ne at.
        put_or (λ k css. k ≡ a → ListAt b css was) element (push_calls port calls (m.held element)) m.held a
        (λ same back. push_else port b calls (m.held element) was (λ at_port. ne (same ∙ sym element_is) at_port) (subst (λ (k : ℕ). ListAt b (m.held k) was) same at)) (λ other back. at) refl;
    many = λ a. put_or (λ k css. length css ≡ length (m.held k)) element (push_calls port calls (m.held element)) m.held a (λ same. push_many port calls (m.held element)) (λ other. refl);
    section = λ a h.
        put_or (λ k css. InSection 0 css) element (push_calls port calls (m.held element)) m.held a (λ same. push_section port calls (m.held element) calm (subst (λ (k : ℕ). InSection 0 (m.held k)) same h)) (λ other. h);
    empty = λ a ne h. put_or (λ k css. AreEmpty css) element (push_calls port calls (m.held element)) m.held a (λ same. absurd (ne (same ∙ sym element_is))) (λ other. h);
    inner = λ p a b leads h.
        put_or (λ k css. NoneAt b css) element (push_calls port calls (m.held element)) m.held a
        (λ same. push_none port b calls (m.held element) (λ at_port. none p (subst (λ (k : ℕ). Leads m.plan p element k) at_port (subst (λ (k : ℕ). Leads m.plan p k b) same leads))) (subst (λ (k : ℕ). NoneAt b (m.held k)) same h)) (λ other. h);
  }
