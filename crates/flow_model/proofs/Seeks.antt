-- A seek keeps what each element stands for.
use Rattle.std.proofs.Common.{◌≡◌, ℕ, Bool, true, false, if◌then◌else◌, List, [], ◌∷◌, ◌++◌, length, map, refl, sym, ap, ◌∙◌, subst, append-nil, arith}
use Rattle.flow_model.specs.Item.{Item, Ev, FlushStop}
use Rattle.flow_model.specs.Call.{Call, Feed}
use Rattle.flow_model.specs.Link.{Span, Linked, WasLinked, Flushed, Given, input_of}
use Rattle.flow_model.specs.Eval.{inputs}
use Rattle.flow_model.specs.Moment.{Moment, PadStands, owed_at}
use Rattle.flow_model.specs.Pad.{Holds}
use Rattle.flow_model.specs.Split.{AreSplit, joined, emptied}
use Rattle.flow_model.specs.Standing.{Standing, AllStanding, is_linked, links_from_one}
use Rattle.flow_model.specs.Seek.{Seek, takes_part, stops_unlinked, is_stopped, stops, stopped, cut_here, sought, Seeks, SeekingKeeps}
use Rattle.flow_model.proofs.Edits.{input_last}
use Rattle.flow_model.proofs.Inputs.{all_longer, all_given_more, all_standing_grow}
use Rattle.flow_model.proofs.Pads.{holds_flushed}
use Rattle.flow_model.proofs.Splits.{split_flushed, split_joined}

-- where no link stands there is none from these pads
none_stands : (these : ℕ → Bool) (ss : List Span) → is_linked ss ≡ false → links_from_one these ss ≡ false
none_stands these [] f = refl
none_stands these (Linked source from marks ∷ ss) f = absurd cc
none_stands these (WasLinked source from to eos marks ∷ ss) f = none_stands these ss f
none_stands these (Flushed number ∷ ss) f = none_stands these ss f
none_stands these (Given calls ∷ ss) f = none_stands these ss f

flushed_standing : (h : ℕ → List Item) (k : ℕ) (ss : List Span) → is_linked ss ≡ false → Standing h ss → Standing h (ss ++ Flushed k ∷ [])
flushed_standing h k [] f s = tt
flushed_standing h k (Linked source from marks ∷ ss) f s = absurd cc
flushed_standing h k (WasLinked source from to eos marks ∷ ss) f s = (s.0, s.1, flushed_standing h k ss f s.2)
flushed_standing h k (Flushed number ∷ ss) f s = flushed_standing h k ss f s
flushed_standing h k (Given calls ∷ ss) f s = flushed_standing h k ss f s

module _ (s : Seek) (m : Moment) where
  crosses_part : (p : ℕ) → (sought s m).history p ≡ m.history p ++ (if takes_part s m.plan p then Ev (FlushStop s.number) ∷ [] else [])
  crosses_part p = go (takes_part s m.plan p)
    where
      go : (b : Bool) → (if b then m.history p ++ Ev (FlushStop s.number) ∷ [] else m.history p) ≡ m.history p ++ (if b then Ev (FlushStop s.number) ∷ [] else [])
      go true = refl
      go false = sym (append-nil (m.history p))

  over_link : (ss : List Span) → Standing m.history ss
      → input_of (sought s m).history ss ≡ input_of m.history ss ++ (if links_from_one (takes_part s m.plan) ss then Feed (Ev (FlushStop s.number)) ∷ [] else [])
  over_link = all_given_more m.history (sought s m).history (takes_part s m.plan) (Ev (FlushStop s.number)) crosses_part

  -- what the seek gives a sink pad
  stop_given : (e : ℕ) (ss : List Span) → Standing m.history ss
      → input_of (sought s m).history (stopped s e ss) ≡ input_of m.history ss ++ (if is_stopped s m.plan e ss then Feed (Ev (FlushStop s.number)) ∷ [] else [])
  stop_given e ss st = linked (is_linked ss) refl
    where
      alone : input_of (sought s m).history ss ≡ input_of m.history ss → (u : Bool)
          → input_of (sought s m).history (if u then ss ++ Flushed s.number ∷ [] else ss) ≡ input_of m.history ss ++ (if u then Feed (Ev (FlushStop s.number)) ∷ [] else [])
      alone same true = input_last (sought s m).history ss (Flushed s.number) ∙ ap (λ zs. zs ++ Feed (Ev (FlushStop s.number)) ∷ []) same
      alone same false = same ∙ sym (append-nil (input_of m.history ss))

      linked : (b : Bool) → is_linked ss ≡ b
          → input_of (sought s m).history (if b then ss else (if stops_unlinked s e then ss ++ Flushed s.number ∷ [] else ss))
          ≡ input_of m.history ss ++ (if (if b then links_from_one (takes_part s m.plan) ss else stops_unlinked s e) then Feed (Ev (FlushStop s.number)) ∷ [] else [])
      linked true l = over_link ss st
      linked false l =
          alone
          (over_link ss st ∙ ap (λ (b : Bool). input_of m.history ss ++ (if b then Feed (Ev (FlushStop s.number)) ∷ [] else [])) (none_stands (takes_part s m.plan) ss l) ∙ append-nil (input_of m.history ss))
          (stops_unlinked s e)

  -- the same at each sink pad of an element
  stops_given : (e : ℕ) (sss : List (List Span)) → AllStanding m.history sss
      → map (input_of (sought s m).history) (map (stopped s e) sss)
      ≡ joined (map (input_of m.history) sss) (map (λ spans. if is_stopped s m.plan e spans then Feed (Ev (FlushStop s.number)) ∷ [] else []) sss)
  stops_given e [] st = refl
  stops_given e (ss ∷ sss) st =
      ap (λ zs. zs ∷ map (input_of (sought s m).history) (map (stopped s e) sss)) (stop_given e ss st.0)
      ∙ ap (λ zs. (input_of m.history ss ++ (if is_stopped s m.plan e ss then Feed (Ev (FlushStop s.number)) ∷ [] else [])) ∷ zs) (stops_given e sss st.1)

  stopped_standing : (e : ℕ) (sss : List (List Span)) → AllStanding m.history sss → AllStanding m.history (map (stopped s e) sss)
  stopped_standing e [] st = tt
  stopped_standing e (ss ∷ sss) st = (linked (is_linked ss) refl (stops_unlinked s e), stopped_standing e sss st.1)
    where
      linked : (b : Bool) → is_linked ss ≡ b → (u : Bool) → Standing m.history (if b then ss else (if u then ss ++ Flushed s.number ∷ [] else ss))
      linked true l u = st.0
      linked false l true = flushed_standing m.history s.number ss l st.0
      linked false l false = st.0

  sought_pad : Seeks s m → (p : ℕ) → PadStands m p → PadStands (sought s m) p
  sought_pad c p st = go (takes_part s m.plan p) refl
    where
      go : (b : Bool) → takes_part s m.plan p ≡ b → PadStands (sought s m) p
      go true t =
          subst (λ (b : Bool).
          Holds 0 0 (if b then cut_here s m p else m.plan.log p).cuts (owed_at (sought s m) p) (if b then m.history p ++ Ev (FlushStop s.number) ∷ [] else m.history p)
          (if b then s.fresh p else m.waits p)) (sym t)
          (holds_flushed 0 0 (m.plan.log p).cuts (owed_at m p) (owed_at (sought s m) p) (m.history p) (m.waits p) (s.fresh p) s.number (length (m.history p)) (omega arith) (c.ends p t) st)
      go false t = rw t st

  sought_split : (e : ℕ) (w : List (List Call)) → AreSplit (m.took e) (m.held e) w → AreSplit ((sought s m).took e) ((sought s m).held e) (joined w (stops s m.plan e))
  sought_split e w st = go (s.active e)
    where
      go : (b : Bool)
          → AreSplit (if b then joined (joined (m.took e) (m.held e)) (stops s m.plan e) else m.took e) (if b then emptied (m.held e) else joined (m.held e) (stops s m.plan e)) (joined w (stops s m.plan e))
      go true = split_flushed (stops s m.plan e) st
      go false = split_joined (stops s m.plan e) st

pub seeking_keeps : SeekingKeeps
seeking_keeps s m c e st = record {
  pads = λ p o. sought_pad s m c p (st.pads p o);
  input =
      subst (AreSplit ((sought s m).took e) ((sought s m).held e)) (sym (stops_given s m e (m.plan.sinks e) st.standing)) (sought_split s m e (inputs m.plan m.history e) st.input);
  standing =
      all_standing_grow m.history (sought s m).history (all_longer m.history (sought s m).history (takes_part s m.plan) (Ev (FlushStop s.number)) (crosses_part s m)) (map (stopped s e) (m.plan.sinks e))
      (stopped_standing s m e (m.plan.sinks e) st.standing);
}
