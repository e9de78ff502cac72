-- That the two tasks into which one is split name their own elements alone.
use Rattle.std.proofs.Common.{◌≡◌, ◌⊎◌, ℕ, zero, suc, Bool, true, false, eqb, List, [], ◌∷◌, length, map, Some, refl, sym, ap, ◌∙◌, subst, inl, inr}
use Rattle.std.specs.Prelude.{slice_get}
use Rattle.lane_core.specs.declared.ends.Inlet as inlets
use Rattle.lane_core.specs.declared.ends.Outlet as outlets
use Rattle.net_task.specs.declared.task.Task.{Task}
use Rattle.flow_model.specs.declared.element.TaskElement as elements
use Rattle.flow_model.specs.declared.source.TaskSource as sources
use Rattle.task_pads.specs.Behind.{Goes, nowhere, inside, over}
use Rattle.task_pads.specs.declared.pad.Pad.{Pad}
use Rattle.task_pads.specs.Pads.{goes_of, pad_shape}
use Rattle.task_parts.specs.declared.head.Head.{Head}
use Rattle.task_parts.specs.declared.head.Head.TheVariants.{Source, Inlets}
use Rattle.task_parts.specs.declared.part.Part.{Part}
use Rattle.task_parts.specs.Shape.{PartShape, all_within, goes_within, has_number, head_shape, head_within, is_closed, pads_within, part_shape, shape_of}
use Rattle.task_parts.proofs.Tries.{named_in}
use Rattle.net_task.specs.Frame.{of_part as wire_part, of_head as wire_head, frame_in, head_frame, head_wire, wire_of}
use Rattle.gst_value.proofs.Basics.{and_both, and_left, number_itself, or_first, or_second, some_same}
use Rattle.net_groups.specs.Behind.{AreParted, IsBehind, itself, further, IsEntered, at_other, at_source, TellBehind, flagged, unflagged}
use Rattle.net_groups.specs.Behind.{HasFlagAt}
use Rattle.net_groups.specs.Places.{PartIs}
use Rattle.net_groups.specs.Splits.{CanPart, IsPartedAt, IsSplitAt, number_in}
use Rattle.net_groups.proofs.Flags.{dealt, flag_of}
use Rattle.net_groups.proofs.Wiring.{PartOf, inside_part, number_part, pad_wire}
use Rattle.net_groups.proofs.Within.{IsOne, gone_within, kept_within, parted_on, place_in, within_at}

goes_if : (all : List PartShape) (g : Goes) → ((n port : ℕ) → g ≡ inside n port → has_number n all ≡ true) → goes_within all g ≡ true
goes_if all nowhere f = refl
goes_if all (inside n port) f = f n port refl
goes_if all (over lane n port from) f = refl

pads_if : {O : Type 0} (all : List PartShape) (pads : List (Pad O)) → ((k : ℕ) (pad : Pad O) → slice_get pads k ≡ Some pad → (n port : ℕ) → goes_of pad ≡ inside n port → has_number n all ≡ true) → pads_within all (map pad_shape pads) ≡ true
pads_if all [] f = refl
pads_if all (pad ∷ pads) f = and_both (goes_within all (goes_of pad)) (pads_within all (map pad_shape pads)) (goes_if all (goes_of pad) (f 0 pad refl)) (pads_if all pads (λ k p at. f (suc k) p at))

module _ {E O : Type 0} {e : elements.Ghosts E} where
  -- the pads of an element lead to these
  abbrev LeadAmong : List PartShape → Part E O e → Type 0
  LeadAmong all part = (k : ℕ) (pad : Pad O) → slice_get part.pads.items k ≡ Some pad → (n port : ℕ) → goes_of pad ≡ inside n port → has_number n all ≡ true

  all_if : (all : List PartShape) (some : List (Part E O e)) → ((j : ℕ) (part : Part E O e) → slice_get some j ≡ Some part → LeadAmong all part) → all_within all (map part_shape some) ≡ true
  all_if all [] f = refl
  all_if all (part ∷ some) f = and_both (pads_within all (map pad_shape part.pads.items)) (all_within all (map part_shape some)) (pads_if all part.pads.items (f 0 part refl)) (all_if all some (λ j p at. f (suc j) p at))

  has_it : (some : List (Part E O e)) (j : ℕ) (part : Part E O e) → slice_get some j ≡ Some part → has_number part.number (map part_shape some) ≡ true
  has_it [] j part at = absurd cc
  has_it (p ∷ some) zero part at = or_first (eqb p.number part.number) (has_number part.number (map part_shape some)) (ap (λ (q : Part E O e). eqb q.number part.number) (some_same at) ∙ number_itself part.number)
  has_it (p ∷ some) (suc j) part at = or_second (eqb p.number part.number) (has_number part.number (map part_shape some)) (has_it some j part at)

module _ {S E I O L : Type 0} {s : sources.Ghosts S} {e : elements.Ghosts E} (o : outlets.Ghosts O L) (head : Head S I O s) (parts : List (Part E O e)) (flags : List Bool) (element place : ℕ) (size : length flags ≡ length parts)
    (tell : TellBehind parts element flags) (p : PartIs parts element place) (closed : is_closed (shape_of head parts) ≡ true) where
  pub told_parts : AreParted (λ (part : Part E O e). IsBehind parts element part.number) parts (unflagged flags parts) (flagged flags parts)
  told_parts = dealt (λ (part : Part E O e). IsBehind parts element part.number) flags parts size tell.behind tell.others

  -- what is behind the element is one of the task
  behind_part : (n : ℕ) → IsBehind parts element n → PartOf parts n
  behind_part n itself = record { place = place; part = p.part; at = p.at; number = p.number_is }
  behind_part n (further m next b step) = inside_part head parts closed step.place step.port n step.lead.sink step.part step.lead.pad step.at step.lead.at step.lead.leads

  -- what the head names is not behind it
  pub not_ahead : ((k : ℕ) → HasFlagAt parts flags (number_in head) k → ⊥) → IsBehind parts element (number_in head) → ⊥
  not_ahead never behind =
      let q = behind_part (number_in head) behind in
      go q (flag_of parts element flags q.place q.part size q.at)
    where
      go : (q : PartOf parts (number_in head)) → (slice_get flags q.place ≡ Some true) ⊎ (slice_get flags q.place ≡ Some false) → ⊥
      go q (inl flag) = never q.place (record { part = q.part; at = q.at; flag = flag; number = q.number })
      go q (inr flag) = tell.others q.place q.part q.at flag (subst (λ (n : ℕ). IsBehind parts element n) (sym q.number) behind)

  module _ (free : IsEntered (frame_in o head parts) parts element → ⊥) (never : IsBehind parts element (number_in head) → ⊥) where
    -- a pad of an element that stays leads to none that goes
    stays_out : (j k port : ℕ) (part : Part E O e) (pad : Pad O) → slice_get parts j ≡ Some part → slice_get part.pads.items k ≡ Some pad → (IsBehind parts element part.number → ⊥) → (n : ℕ) → goes_of pad ≡ inside n port → IsBehind parts element n → ⊥
    stays_out j k port part pad at at' other n leads behind =
        let w = pad_wire o head parts j k part pad at at' in
        free (record { wire = wire_of o pad; is = wire_part j k w; to = n; port = port; leads = leads; behind = behind; from = inr (at_other j k w other) })

    source_out : (port : ℕ) (pad : Pad O) → head_wire (head_frame o head) ≡ Some (wire_of o pad) → (n : ℕ) → goes_of pad ≡ inside n port → IsBehind parts element n → ⊥
    source_out port pad is n leads behind = free (record { wire = wire_of o pad; is = wire_head is; to = n; port = port; leads = leads; behind = behind; from = inr (at_source is) })

    kept_has : (n : ℕ) → PartOf parts n → (IsBehind parts element n → ⊥) → has_number n (map part_shape (unflagged flags parts)) ≡ true
    kept_has n q other = go (parted_on told_parts q.place q.part q.at)
      where
        go : IsOne (λ (part : Part E O e). IsBehind parts element part.number) (unflagged flags parts) (flagged flags parts) q.part → has_number n (map part_shape (unflagged flags parts)) ≡ true
        go (inl z) = subst (λ (x : ℕ). has_number x (map part_shape (unflagged flags parts)) ≡ true) q.number (has_it (unflagged flags parts) z.0 q.part z.1)
        go (inr z) = absurd (other (subst (λ (x : ℕ). IsBehind parts element x) q.number z.2))

    gone_has : (n : ℕ) → PartOf parts n → IsBehind parts element n → has_number n (map part_shape (flagged flags parts)) ≡ true
    gone_has n q behind = go (parted_on told_parts q.place q.part q.at)
      where
        go : IsOne (λ (part : Part E O e). IsBehind parts element part.number) (unflagged flags parts) (flagged flags parts) q.part → has_number n (map part_shape (flagged flags parts)) ≡ true
        go (inl z) = absurd (z.2 (subst (λ (x : ℕ). IsBehind parts element x) (sym q.number) behind))
        go (inr z) = subst (λ (x : ℕ). has_number x (map part_shape (flagged flags parts)) ≡ true) q.number (has_it (flagged flags parts) z.0 q.part z.1)

    head_kept : (h : Head S I O s) → head ≡ h → head_within (map part_shape parts) (head_shape h) ≡ true → head_within (map part_shape (unflagged flags parts)) (head_shape h) ≡ true
    head_kept (Source one) is within = goes_if (map part_shape (unflagged flags parts)) (goes_of one.pad)
        (λ n port leads. kept_has n (number_part parts n (named_in (map part_shape parts) (goes_of one.pad) n port leads within)) (source_out port one.pad (ap (λ (h : Head S I O s). head_wire (head_frame o h)) is) n leads))
    head_kept (Inlets one) is within = kept_has one.number (number_part parts one.number within) (λ behind. never (subst (λ (x : ℕ). IsBehind parts element x) (ap (λ (h : Head S I O s). number_in h) (sym is)) behind))

    pub can_part : CanPart head parts flags element
    can_part = record {
      size = size;
      kept = and_both (head_within (map part_shape (unflagged flags parts)) (head_shape head)) (all_within (map part_shape (unflagged flags parts)) (map part_shape (unflagged flags parts)))
          (head_kept head refl (and_left (head_within (map part_shape parts) (head_shape head)) (all_within (map part_shape parts) (map part_shape parts)) closed))
          (all_if (map part_shape (unflagged flags parts)) (unflagged flags parts) (λ j part at k pad at' n port leads.
          let w = within_at (kept_within told_parts) j part at in
          kept_has n (inside_part head parts closed (place_in (kept_within told_parts) j) k n port part pad w.0 at' leads) (stays_out (place_in (kept_within told_parts) j) k port part pad w.0 at' w.1 n leads)));
      first = gone_has element (behind_part element itself) itself;
      gone = all_if (map part_shape (flagged flags parts)) (flagged flags parts) (λ j part at k pad at' n port leads.
          let w = within_at (gone_within told_parts) j part at in
          gone_has n (inside_part head parts closed (place_in (gone_within told_parts) j) k n port part pad w.0 at' leads)
          (further part.number n w.1 (record { place = place_in (gone_within told_parts) j; part = part; at = w.0; number = refl; port = k; lead = record { pad = pad; at = at'; sink = port; leads = leads } })));
    }

-- What was parted by flags that tell what is behind an element is split.
module _ {S E I O L : Type 0} {s : sources.Ghosts S} {e : elements.Ghosts E} {i : inlets.Ghosts I L O} {o : outlets.Ghosts O L} (tasks tasks' : List (Task S E I O L s e i o)) (place element pads : ℕ) (flags : List Bool) where
  pub split_told : (z : IsPartedAt tasks tasks' place flags element pads) → AreParted (λ (part : Part E O e). IsBehind z.was.parts.items element part.number) z.was.parts.items (unflagged flags z.was.parts.items) (flagged flags z.was.parts.items)
      → (IsBehind z.was.parts.items element (number_in z.was.head) → ⊥) → IsSplitAt tasks tasks' place element pads
  split_told z told ahead = record {
    was = z.was;
    is = z.is;
    fresh = z.fresh;
    at = z.at;
    list = z.list;
    head = z.parted.head;
    parted = subst (λ (ps : List (Part E O e)). AreParted (λ (part : Part E O e). IsBehind z.was.parts.items element part.number) z.was.parts.items ps z.fresh.parts.items) (sym z.parted.kept)
        (subst (λ (ps : List (Part E O e)). AreParted (λ (part : Part E O e). IsBehind z.was.parts.items element part.number) z.was.parts.items (unflagged flags z.was.parts.items) ps) (sym z.parted.gone) told);
    ahead = ahead;
    fed = z.parted.fed;
    fed_is = z.parted.fed_is;
    number = z.parted.number;
    size = z.parted.size;
    bare = z.parted.bare;
  }
