-- Why a task that did not move cannot, and what becomes of the rows of its head.
use Rattle.std.proofs.Common.{◌≡◌, ◌≤◌, ◌<◌, ℕ, zero, suc, List, [], ◌∷◌, length, Option, None, Some, inl, inr, refl, sym, ap, ◌∙◌, subst, ⊎_elim, arith}
use Rattle.std.specs.Prelude.{slice_get, slice_set}
use Rattle.std.specs.Option.{option_map_or}
use Rattle.std.proofs.lemmas.Bool.{cases_eq}
use Rattle.flow_model.specs.Item.{Item}
use Rattle.flow_model.specs.Call.{feeds}
use Rattle.lane_core.specs.Lane.{Lane}
use Rattle.lane_core.specs.declared.ends.Inlet as inlets
use Rattle.lane_core.specs.declared.ends.Outlet as outlets
use Rattle.flow_model.specs.Moment.{Moment, behavior_at}
use Rattle.flow_model.specs.declared.element.TaskElement as elements
use Rattle.flow_model.specs.declared.source.TaskSource as sources
use Rattle.inlet_row.specs.declared.feeding.Feeding.{Feeding}
use Rattle.inlet_row.specs.Taken.{Empty}
use Rattle.inlet_row.specs.declared.row.InletRow.{InletRow}
use Rattle.inlet_row.specs.Row.{AreApart, RowBetween, feeds_of}
use Rattle.task_parts.specs.declared.head.Head.{Head}
use Rattle.task_parts.specs.declared.head.Head.TheVariants.{Source, Inlets}
use Rattle.task_parts.specs.declared.head.InletHead.{InletHead}
use Rattle.task_parts.specs.declared.part.Part.{Part}
use Rattle.task_parts.specs.Passing.{AsksRow, HasNoRow, RowAsked}
use Rattle.net_task.specs.Frame.{head_frame}
use Rattle.net_task.specs.Moves.{RowsKept}
use Rattle.net_task.specs.Reasons.{HeadGaveAll}
use Rattle.net_task.specs.Reasons as reasons
use Rattle.task_parts.specs.Found.{IsAt}
use Rattle.net_task.specs.Ties.{PartsTied, Stands}
use Rattle.net_turns.specs.Net.{ListAt, RowStands}
use Rattle.net_turns.specs.Rests.{AwaitsLane, HeadEnded, HeadLacks, Lacks, Wants, feeds_at}
use Rattle.net_turns.proofs.Places.{set_there}
use Rattle.net_turns.proofs.Refused.{RowKeeps, keeps_same, moves_behind, moves_within}
use Rattle.net_turns.proofs.Rested.{HeadKeeps}
use Rattle.gst_value.proofs.Basics.{some_same}
use Rattle.gst_value.proofs.Places.{set_at}

lane_same : {n k : ℕ} → Empty n ≡ Empty k → n ≡ k
lane_same e = cc

-- nothing stands behind the end of a list
none_past : {A : Type 0} (xs : List A) (k : ℕ) → length xs ≤ k → slice_get xs k ≡ None
none_past [] k past = refl
none_past (x ∷ xs) zero past = absurd (omega (arith, past))
none_past (x ∷ xs) (suc k) past = none_past xs k (omega (arith, past))

module _ {I L O : Type 0} (i : inlets.Ghosts I L O) (t : List Lane) (tells : Option (List Lane)) (told : tells ≡ Some t) where
  -- a row that was asked for an item stood for what it stands for
  between_told : (sents : ℕ → List Item) (row : InletRow I) (got : List Item) → RowBetween i (Some t) sents row got → RowBetween i tells sents row got
  between_told sents row got h = subst (λ (u : Option (List Lane)). RowBetween i u sents row got) (sym told) h

  pub asked_keeps : (head head' : InletHead I) (port number : ℕ) → (a : AsksRow i head head' port tells tells (Empty number)) → AreApart i a.was → RowKeeps i t a.was a.is
  asked_keeps head head' port number a apart = record {
    behind = λ place h. moves_behind i tells a.was a.is number place a.moves h;
    within = moves_within i tells a.was a.is number a.moves;
    stands = λ sents m n p h.
        let held = a.holds t sents h.got told apart h.between in
        record {
          got = h.got;
          took = h.took;
          between = subst (λ (u : Option (List Lane)). RowBetween i u sents a.is h.got) told (a.between sents h.got apart (between_told sents a.was h.got h.between));
          holds = subst (λ (xs : List Item). ListAt p (m.held n) (feeds xs)) (held.1 ∙ sym held.2) h.holds;
        };
  }

  -- none stood there
  pub asked_empty : (head head' : InletHead I) (port number n : ℕ) (sents : ℕ → List Item) (m : Moment) → (a : AsksRow i head head' port tells tells (Empty number)) → AreApart i a.was
      → RowStands i t sents m n port a.was → ListAt port (m.held n) []
  asked_empty head head' port number n sents m a apart h =
      let held = a.holds t sents h.got told apart h.between in
      subst (λ (xs : List Item). ListAt port (m.held n) (feeds xs)) held.1 h.holds

module _ {S I O L : Type 0} (s : sources.Ghosts S) (i : inlets.Ghosts I L O) (t : List Lane) (tells : Option (List Lane)) (told : tells ≡ Some t) where
  -- no two lanes of a row of a head have one place
  abbrev pub HeadApart : Head S I O s → Type 0
  HeadApart (Source head) = Unit {0}
  HeadApart (Inlets head) = (port : ℕ) (row : InletRow I) → slice_get head.rows.items port ≡ Some row → AreApart i row

  pub heads_kept : (was is : Head S I O s) → RowsKept was is → HeadKeeps {s = s} i t was is
  heads_kept (Source head) is h = tt
  heads_kept (Inlets head) (Source head') h = tt
  heads_kept (Inlets head) (Inlets head') h = λ port row at. (row, ap (λ rows. slice_get rows.items port) h ∙ at, keeps_same i t row)

  pub heads_asked : (head head' : InletHead I) (port number : ℕ) → HeadApart (Inlets head) → RowAsked i head head' port tells tells (Empty number)
      → HeadKeeps {s = s} i t (Inlets head) (Inlets head')
  heads_asked head head' port number apart h =
      ⊎_elim
      (λ a. λ p row at.
      ⊎_elim
      (λ same.
      let one : a.was ≡ row = some_same (sym a.set.at ∙ ap (λ j. slice_get head.rows.items j) (sym same) ∙ at) in (
        a.is,
        ap (λ rows. slice_get rows p) a.set.set ∙ ap (λ j. slice_get (slice_set head.rows.items port a.is) j) same ∙ set_at head.rows.items port a.was a.is a.set.at,
        subst (λ (r : InletRow I). RowKeeps i t r a.is) one (asked_keeps i t tells told head head' port number a (apart port a.was a.set.at)),
      ))
      (λ ne. (row, ap (λ rows. slice_get rows p) a.set.set ∙ set_there head.rows.items port p a.is ne ∙ at, keeps_same i t row))
      (cases_eq p port))
      (λ b. λ p row at. (row, ap (λ rows. slice_get rows.items p) b.rows ∙ at, keeps_same i t row))
      h

  pub heads_lacking : {E : Type 0} {e : elements.Ghosts E} (was is : Head S I O s) (parts : List (Part E O e)) (lane : ℕ) → HeadApart was
      → reasons.HeadLacks i tells was is parts lane → HeadKeeps {s = s} i t was is
  heads_lacking (Source head) is parts lane apart h = tt
  heads_lacking (Inlets head) (Source head') parts lane apart h = tt
  heads_lacking (Inlets head) (Inlets head') parts lane apart h = heads_asked head head' h.2 lane apart h.4

module _ {E O L : Type 0} {e : elements.Ghosts E} (o : outlets.Ghosts O L) (m : Moment) (parts : List (Part E O e)) (tied : PartsTied o (Stands m) m parts) where
  -- an element of the task wants this
  wants_at : (n to : ℕ) (port : Option ℕ) → (at : IsAt parts n to) → e.wanted at.part.element ≡ port → Wants e m n port
  wants_at n to port at wanted = record {
    element = at.part.element;
    stands = subst (λ (k : ℕ). e.stands at.part.element (behavior_at m k) (m.took k)) at.number_is (tied.each to at.part at.at).stood;
    wants = wanted;
  }

module _ {S I O L : Type 0} {s : sources.Ghosts S} (i : inlets.Ghosts I L O) (t : List Lane) (m : Moment) (sents : ℕ → List Item) where
  -- the rows of a head stand
  abbrev pub HeadStands : Head S I O s → Type 0
  HeadStands (Source head) = Unit {0}
  HeadStands (Inlets head) = (port : ℕ) (row : InletRow I) → slice_get head.rows.items port ≡ Some row → RowStands i t sents m head.number port row

-- for which lane a row waits that was asked
awaits : {I L O : Type 0} (i : inlets.Ghosts I L O) (tells : Option (List Lane)) (head head' : InletHead I) (port lane : ℕ) (a : AsksRow i head head' port tells tells (Empty lane))
    → AwaitsLane (feeds_at head'.rows.items port) lane
awaits {I = I} i tells head head' port lane a =
    subst (λ (fs : List (Feeding I)). AwaitsLane fs lane)
    (sym (ap (λ (found : Option (InletRow I)). option_map_or feeds_of found [])
    (ap (λ (rows : List (InletRow I)). slice_get rows port) a.set.set ∙ set_at head.rows.items port a.was a.is a.set.at)))
    (⊎_elim (λ asks. inl (asks.is, asks.after)) (λ bare. inr (bare.1, bare.3)) a.moves)

-- the element of this number among some wants an item of a sink pad
record OwnWants {E O : Type 0} {e : elements.Ghosts E} (m : Moment) (parts : List (Part E O e)) (n port : ℕ) : Type 0 where
  place : ℕ
  own : IsAt parts n place
  wanted : e.wanted own.part.element ≡ Some port
  wants : Wants e m n (Some port)

lacks_by : {E I O : Type 0} {e : elements.Ghosts E} (m : Moment) (parts : List (Part E O e)) (n : ℕ) (head : InletHead I) (port lane : ℕ) → head.number ≡ n → OwnWants m parts n port
    → AwaitsLane (feeds_at head.rows.items port) lane → (port < length head.rows.items → ListAt port (m.held n) []) → Lacks e m head parts lane
lacks_by {e = e} m parts n head port lane same w awaits empty =
    let now = subst (λ (k : ℕ). OwnWants {e = e} m parts k port) (sym same) w in
    record {
      port = port;
      place = now.place;
      own = now.own;
      wanted = now.wanted;
      wants = now.wants;
      awaits = awaits;
      empty = λ within. subst (λ (k : ℕ). ListAt port (m.held k) []) (sym same) (empty within);
    }

module _ {E I L O : Type 0} {e : elements.Ghosts E} (i : inlets.Ghosts I L O) where
  asked_lacks : (t : List Lane) (tells : Option (List Lane)) (told : tells ≡ Some t) (m : Moment) (parts : List (Part E O e)) (head head' : InletHead I) (port lane : ℕ) (sents : ℕ → List Item)
      → (a : AsksRow i head head' port tells tells (Empty lane)) → AreApart i a.was → RowStands i t sents m head.number port a.was → OwnWants m parts head.number port → Lacks e m head' parts lane
  asked_lacks t tells told m parts head head' port lane sents a apart stands w =
      lacks_by m parts head.number head' port lane a.set.number w (awaits i tells head head' port lane a)
      (λ within. asked_empty i t tells told head head' port lane head.number sents m a apart stands)

  bare_lacks : (tells : Option (List Lane)) (m : Moment) (parts : List (Part E O e)) (head head' : InletHead I) (port lane : ℕ) → HasNoRow i head head' port tells tells (Empty lane)
      → OwnWants m parts head.number port → Lacks e m head' parts lane
  bare_lacks tells m parts head head' port lane b w =
      lacks_by m parts head.number head' port lane b.number w
      (inr (ap (λ (found : Option (InletRow I)). option_map_or feeds_of found []) (none_past head'.rows.items port (omega (arith, now, b.past))), lane_same b.empty))
      (λ within. absurd (omega (arith, within, now, b.past)))
    where
      now : length head'.rows.items ≡ length head.rows.items
      now = ap (λ rows. length rows.items) b.rows

module _ {S E I O L : Type 0} {s : sources.Ghosts S} {e : elements.Ghosts E} (i : inlets.Ghosts I L O) (o : outlets.Ghosts O L) (t : List Lane)
    (tells : Option (List Lane)) (told : tells ≡ Some t)
    (m : Moment) (sents : ℕ → List Item) (parts : List (Part E O e)) (tied : PartsTied o (Stands m) m parts) where
  pub gave_all : (was : Head S I O s) → HeadGaveAll m was parts → HeadEnded e m (head_frame o was)
  gave_all (Source head) h = h
  gave_all (Inlets head) h = wants_at o m parts tied head.number h.0 None h.1 h.2

  pub lacks : (was is : Head S I O s) (lane : ℕ) → HeadApart s i t tells told was → HeadStands {s = s} i t m sents was → reasons.HeadLacks i tells was is parts lane
      → HeadLacks e m is parts lane
  lacks (Source head) is lane apart rows h = absurd h
  lacks (Inlets head) (Source head') lane apart rows h = absurd h
  lacks (Inlets head) (Inlets head') lane apart rows h =
      let w : OwnWants m parts head.number h.2 =
      record { place = h.0; own = h.1; wanted = h.3; wants = wants_at o m parts tied head.number h.0 (Some h.2) h.1 h.3 } in
      ⊎_elim (λ a. asked_lacks i t tells told m parts head head' h.2 lane sents a (apart h.2 a.was a.set.at) (rows h.2 a.was a.set.at) w)
      (λ b. bare_lacks i tells m parts head head' h.2 lane b w) h.4
