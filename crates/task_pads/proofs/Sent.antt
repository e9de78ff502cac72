-- What a crossing does, by its two parts.
use Rattle.std.proofs.Common.{◌≡◌, ◌+◌, ℕ, Bool, true, false, List, [], ◌∷◌, ◌++◌, drop, Option, Some, None, refl, sym, ap, ◌∙◌, subst, arith}
use Rattle.std.specs.Option.{ForSome}
use Rattle.std.proofs.lemmas.List.{length_push, drop-append-le}
use Rattle.flow_model.specs.Item.{Item, is_buffer}
use Rattle.lane_core.specs.declared.ends.Outlet as outlets
use Rattle.lane_core.specs.declared.ends.Put.TheVariants.{Stored, Full as Back}
use Rattle.lane_core.specs.Lane.{Lane, IsIn, IsOf, IsBetween}
use Rattle.lane_core.specs.Moves.{raised, table_after_put, AnswersRoom}
use Rattle.lane_core.specs.Room.{told_of}
use Rattle.lane_core.proofs.Between.{put_keeps_lanes, put_keeps_others, put_keeps_other_room, put_keeps_room, put_by_lane}
use Rattle.pad_core.specs.declared.src_pad.SrcPad.{SrcPad}
use Rattle.pad_core.specs.Crossing.{PadState}
use Rattle.pad_core.specs.Linking.{has_peer}
use Rattle.pad_core.specs.SrcPad.{CrossedBy, state_of, crossed_of, before}
use Rattle.task_pads.specs.declared.pad.Behind.{Behind}
use Rattle.task_pads.specs.declared.pad.Behind.TheVariants as behinds
use Rattle.task_pads.specs.declared.crossing.Crossing.{Crossing}
use Rattle.task_pads.specs.declared.crossing.Crossing.TheVariants.{Idle, To, Gone, Full, AtProbe, NotLinked, BehindEos, AtLimit, OutOfMemory}
use Rattle.task_pads.specs.Behind.{goes, over, leads_on, LaneEnd, lane_end, end_in, place_in, EndReady, IsUnderLimit, WentIn, SentIn}
use Rattle.task_pads.specs.Pads.{Seen, setting_of, IsLoose, KeepsTable}
use Rattle.task_pads.specs.Passing.{Counted, IsStored, IsRefused, IsTakenBack, WentBy, RefusedBy, HasPassed}
use Rattle.task_pads.specs.Crossing.{Came, WentAway, IsFull}
use Rattle.gst_value.proofs.Basics.{some_same}

-- a crossing was taken back
pub taken_back : (src src' : SrcPad) → IsLoose src → before src ≡ Some (state_of src') → ((h : List Item) (x : Item) → CrossedBy src (h ++ x ∷ []) → CrossedBy src' h)
    → crossed_of src' + 1 ≡ crossed_of src → IsTakenBack src src'
taken_back src src' l back history counted = record {
  history = history;
  counted = counted;
  setting = ap (λ (s : PadState). record s { kept = None }) (some_same (sym back ∙ l.back)) ∙ l.setting;
}

-- a lane that is not written to stays
pub table_same : (place : Option ℕ) (tells tells' : Option (List Lane)) → tells' ≡ tells → KeepsTable place tells tells'
table_same place tells tells' e = record {
  lanes = λ n b. subst (λ (t : Option (List Lane)). IsIn t n) (sym e) b;
  rooms = λ n limits count _ b. subst (λ (t : Option (List Lane)). IsOf t n limits count) (sym e) b;
  between = λ n sent got _ b. subst (λ (t : Option (List Lane)). IsBetween t n sent got) (sym e) b;
}

table_stored : (p : ℕ) (x : Item) (tells tells' : Option (List Lane)) → tells' ≡ table_after_put p x Stored tells → KeepsTable (Some p) tells tells'
table_stored p x tells tells' e = record {
  lanes = λ n b. put_keeps_lanes p n x Stored tells tells' e b;
  rooms = λ n limits count ne b. put_keeps_other_room p n x Stored limits count tells tells' (λ h. ne (ap Some (sym h))) e b;
  between = λ n sent got ne b. put_keeps_others p n x Stored tells tells' sent got (λ h. ne (ap Some (sym h))) e b;
}

module _ {O L : Type 0} (o : outlets.Ghosts O L) where
  -- the lane had no room
  pub refused : (outlet outlet' : O) (item back : Item) (tells tells' : Option (List Lane)) → back ≡ item
      → (o.id outlet' ≡ o.id outlet) × (o.place outlet' ≡ o.place outlet) × (o.limits outlet' ≡ o.limits outlet)
      → o.count outlet' ≡ o.count outlet → o.refusals outlet' ≡ raised (o.refusals outlet)
      → ((list : List Item) → o.sent outlet list → AnswersRoom (o.limits outlet) list (o.reading outlet') (Back back))
      → ((list : List Item) → o.sent outlet list → o.sent outlet' list) → tells' ≡ tells
      → ((list got : List Item) → o.sent outlet list → IsBetween tells (o.place outlet) list got → ForSome tells (λ t. o.reading outlet' ≡ told_of got))
      → IsRefused o outlet outlet' item tells tells'
  refused outlet outlet' item back tells tells' same frame count refusals room sent table received = record {
    sent = sent;
    end = rw (frame.0, frame.1, frame.2, count, refusals) refl;
    table = table;
    holds = λ list got h b. put_by_lane (o.place outlet) (o.limits outlet) (Back back) tells list got (o.reading outlet') (room list h) (received list got h b) b;
  }

  -- the lane had room
  pub stored : (outlet outlet' : O) (item : Item) (tells tells' : Option (List Lane)) → (o.id outlet' ≡ o.id outlet) × (o.place outlet' ≡ o.place outlet) × (o.limits outlet' ≡ o.limits outlet)
      → o.count outlet' ≡ o.count outlet + 1 → o.refusals outlet' ≡ o.refusals outlet → ((list : List Item) → o.sent outlet list → AnswersRoom (o.limits outlet) list (o.reading outlet') Stored)
      → ((list : List Item) → o.sent outlet list → o.sent outlet' (list ++ item ∷ [])) → tells' ≡ table_after_put (o.place outlet) item Stored tells
      → ((list got : List Item) → o.sent outlet list → IsBetween tells (o.place outlet) list got → ForSome tells (λ t. o.reading outlet' ≡ told_of got))
      → IsStored o outlet outlet' item tells tells'
  stored outlet outlet' item tells tells' frame count refusals room sent table received = record {
    sent = sent;
    end = rw (frame.0, frame.1, frame.2, count, refusals) refl;
    table = table;
    holds = λ list got h b. put_by_lane (o.place outlet) (o.limits outlet) Stored tells list got (o.reading outlet') (room list h) (received list got h b) b;
  }

  -- the table behind what passed
  pub passed_table : (old new : Seen O) (tells tells' : Option (List Lane)) (crossing : Crossing) → HasPassed o old new tells tells' crossing → KeepsTable (place_in (end_in o old.behind)) tells tells'
  passed_table old new tells tells' Idle p = absurd p
  passed_table old new tells tells' (To number hint pad) p = table_same _ tells tells' p.1
  passed_table old new tells tells' Gone p = went old.behind p.3
    where
      went : (b : Behind O) → WentBy o p.0 b new.behind tells tells' → KeepsTable (place_in (end_in o b)) tells tells'
      went behinds.Nothing w = table_same None tells tells' w.1
      went (behinds.Element number hint pad) w = absurd w
      went (behinds.Lane lane element pad from outlet) w = table_stored (o.place outlet) p.0 tells tells' w.2.table
  passed_table old new tells tells' (Full number) p = back old.behind p.5
    where
      back : (b : Behind O) → RefusedBy o p.0 number b new.behind tells tells' → KeepsTable (place_in (end_in o b)) tells tells'
      back behinds.Nothing w = absurd w
      back (behinds.Element element hint pad) w = absurd w
      back (behinds.Lane lane element pad from outlet) w = table_same (Some (o.place outlet)) tells tells' w.3.table
  passed_table old new tells tells' (AtProbe command) p = absurd p
  passed_table old new tells tells' NotLinked p = absurd p
  passed_table old new tells tells' BehindEos p = absurd p
  passed_table old new tells tells' AtLimit p = absurd p
  passed_table old new tells tells' OutOfMemory p = absurd p

  stored_ready : (outlet outlet' : O) (item : Item) (tells tells' : Option (List Lane)) → IsStored o outlet outlet' item tells tells' → EndReady tells (Some (lane_end o outlet)) → EndReady tells' (Some (lane_end o outlet'))
  stored_ready outlet outlet' item tells tells' s r =
      subst (λ (e : LaneEnd). EndReady tells' (Some e)) (sym s.end)
      (put_keeps_room (o.place outlet) item Stored (o.limits outlet) (o.count outlet) (o.count outlet + 1) 0 0 tells tells' (refl, refl) s.table r)

  refused_ready : (outlet outlet' : O) (item : Item) (tells tells' : Option (List Lane)) → IsRefused o outlet outlet' item tells tells' → EndReady tells (Some (lane_end o outlet)) → EndReady tells' (Some (lane_end o outlet'))
  refused_ready outlet outlet' item tells tells' s r =
      subst (λ (e : LaneEnd). EndReady tells' (Some e)) (sym s.end) (subst (λ (t : Option (List Lane)). EndReady t (Some (lane_end o outlet))) (sym s.table) r)

  went_ready : (item : Item) (b b' : Behind O) (tells tells' : Option (List Lane)) → WentBy o item b b' tells tells' → EndReady tells (end_in o b) → EndReady tells' (end_in o b')
  went_ready item behinds.Nothing b' tells tells' w r = subst (λ (z : Behind O). EndReady tells' (end_in o z)) (sym w.0) tt
  went_ready item (behinds.Element number hint pad) b' tells tells' w r = absurd w
  went_ready item (behinds.Lane lane element pad from outlet) b' tells tells' w r =
      subst (λ (z : Behind O). EndReady tells' (end_in o z)) (sym w.1) (stored_ready outlet w.0 item tells tells' w.2 r)

  back_ready : (item : Item) (number : ℕ) (b b' : Behind O) (tells tells' : Option (List Lane)) → RefusedBy o item number b b' tells tells' → EndReady tells (end_in o b) → EndReady tells' (end_in o b')
  back_ready item number behinds.Nothing b' tells tells' w r = absurd w
  back_ready item number (behinds.Element element hint pad) b' tells tells' w r = absurd w
  back_ready item number (behinds.Lane lane element pad from outlet) b' tells tells' w r =
      subst (λ (z : Behind O). EndReady tells' (end_in o z)) (sym w.2) (refused_ready outlet w.0 item tells tells' w.3 r)

  -- the pad's lane is of the table behind what passed
  pub passed_ready : (old new : Seen O) (tells tells' : Option (List Lane)) (crossing : Crossing) → HasPassed o old new tells tells' crossing → EndReady tells (end_in o old.behind) → EndReady tells' (end_in o new.behind)
  passed_ready old new tells tells' Idle p r = absurd p
  passed_ready old new tells tells' (To number hint pad) p r =
      subst (λ (z : Seen O). EndReady tells' (end_in o z.behind)) (sym p.0) (subst (λ (t : Option (List Lane)). EndReady t (end_in o old.behind)) (sym p.1) r)
  passed_ready old new tells tells' Gone p r = went_ready p.0 old.behind new.behind tells tells' p.3 r
  passed_ready old new tells tells' (Full number) p r = back_ready p.0 number old.behind new.behind tells tells' p.5 r
  passed_ready old new tells tells' (AtProbe command) p r = absurd p
  passed_ready old new tells tells' NotLinked p r = absurd p
  passed_ready old new tells tells' BehindEos p r = absurd p
  passed_ready old new tells tells' AtLimit p r = absurd p
  passed_ready old new tells tells' OutOfMemory p r = absurd p

  went_leads : (item : Item) (b b' : Behind O) (tells tells' : Option (List Lane)) → WentBy o item b b' tells tells' → goes b' ≡ goes b
  went_leads item behinds.Nothing b' tells tells' w = ap (λ (z : Behind O). goes z) w.0
  went_leads item (behinds.Element number hint pad) b' tells tells' w = absurd w
  went_leads item (behinds.Lane lane element pad from outlet) b' tells tells' w = ap (λ (z : Behind O). goes z) w.1

  back_leads : (item : Item) (number : ℕ) (b b' : Behind O) (tells tells' : Option (List Lane)) → RefusedBy o item number b b' tells tells' → goes b' ≡ goes b
  back_leads item number behinds.Nothing b' tells tells' w = absurd w
  back_leads item number (behinds.Element element hint pad) b' tells tells' w = absurd w
  back_leads item number (behinds.Lane lane element pad from outlet) b' tells tells' w = ap (λ (z : Behind O). goes z) w.2

  went_sent : (item : Item) (b b' : Behind O) (tells tells' : Option (List Lane)) → WentBy o item b b' tells tells' → (h : List Item) → SentIn o b h → SentIn o b' (h ++ item ∷ [])
  went_sent item behinds.Nothing b' tells tells' w h s = subst (λ (z : Behind O). SentIn o z (h ++ item ∷ [])) (sym w.0) tt
  went_sent item (behinds.Element number hint pad) b' tells tells' w h s = absurd w
  went_sent item (behinds.Lane lane element pad from outlet) b' tells tells' w h s =
      subst (λ (z : Behind O). SentIn o z (h ++ item ∷ [])) (sym w.1)
      (omega (arith, s.0, length_push h item), subst (λ (xs : List Item). o.sent w.0 xs) (sym (drop-append-le from h (item ∷ []) s.0)) (w.2.sent (drop from h) s.1))

  went_way : (item : Item) (old new : Seen O) (sibling : Bool) (tells tells' : Option (List Lane)) (b : Behind O) → old.behind ≡ b → has_peer (state_of old.src).peer ≡ leads_on b
      → ((h : List Item) → CrossedBy old.src h → has_peer (state_of old.src).peer ≡ false → is_buffer item ≡ true → sibling ≡ true)
      → WentBy o item b new.behind tells tells' → WentAway o item old new sibling tells tells' (goes b)
  went_way item old new sibling tells tells' behinds.Nothing e peer nobody w = (w.1, λ h k. nobody h k peer)
  went_way item old new sibling tells tells' (behinds.Element number hint pad) e peer nobody w = absurd w
  went_way item old new sibling tells tells' (behinds.Lane lane element pad from outlet) e peer nobody w =
      (lane_end o outlet, ap (end_in o) e, ap (end_in o) w.1 ∙ ap Some w.2.end, w.2.table, λ sent got k b. w.2.holds sent got (subst (λ (z : Behind O). WentIn o z sent) e k) b)

  module _ (old : Seen O) (src : SrcPad) (item : Item) (rest : List Item) (sibling : Bool) (waited : old.waiting ≡ item ∷ rest) (c : Counted old.src src item sibling)
      (few : IsUnderLimit (crossed_of old.src) (end_in o old.behind)) where
    back_full : (new : Seen O) (number : ℕ) (tells tells' : Option (List Lane)) (back : Item) → new.waiting ≡ item ∷ rest → IsTakenBack src new.src
        → (b : Behind O) → old.behind ≡ b → goes new.behind ≡ goes old.behind → RefusedBy o back number b new.behind tells tells' → IsFull o old new number tells tells'
    back_full new number tells tells' back waits t behinds.Nothing e leads w = absurd w
    back_full new number tells tells' back waits t (behinds.Element element hint pad) e leads w = absurd w
    back_full new number tells tells' back waits t (behinds.Lane lane element pad from outlet) e leads w = record {
      few = few;
      item = item;
      rest = rest;
      waited = waited;
      waits = waits;
      element = element;
      pad = pad;
      from = from;
      to = ap (λ (z : Behind O). goes z) e ∙ ap (λ (k : ℕ). over k element pad from) (sym w.1);
      setting = t.setting ∙ c.setting;
      leads = leads;
      passes = c.passes;
      history = λ h k. t.history h item (c.history h k);
      counted = omega (arith, t.counted, c.counted);
      sent = λ h k. subst (λ (z : Behind O). SentIn o z h) (sym w.2)
          (let s : SentIn o (behinds.Lane lane element pad from outlet) h = subst (λ (z : Behind O). SentIn o z h) e k in (s.0, w.3.sent (drop from h) s.1));
      end = lane_end o outlet;
      was = ap (end_in o) e;
      is = ap (end_in o) w.2 ∙ ap Some w.3.end;
      table = w.3.table;
      holds = λ sent got k b. w.3.holds sent got (subst (λ (z : Behind O). WentIn o z sent) e k) b;
    }

    -- a crossing is what its parts are
    pub passed_came : (new : Seen O) (tells tells' : Option (List Lane)) (crossing : Crossing) → has_peer (state_of old.src).peer ≡ leads_on old.behind
        → HasPassed o (record { src = src; waiting = old.waiting; behind = old.behind }) new tells tells' crossing → Came o old new tells tells' sibling crossing
    passed_came new tells tells' Idle peer p = absurd p
    passed_came new tells tells' (To number hint pad) peer p = (
      record {
        few = few;
        item = item;
        rest = rest;
        waited = waited;
        waits = ap (λ (z : Seen O). z.waiting) p.0 ∙ waited;
        to = p.2;
        near = p.3;
        setting = ap (λ (z : Seen O). setting_of z.src) p.0 ∙ c.setting;
        behind = ap (λ (z : Seen O). z.behind) p.0;
        passes = c.passes;
        history = λ h k. subst (λ (z : Seen O). CrossedBy z.src (h ++ item ∷ [])) (sym p.0) (c.history h k);
        counted = ap (λ (z : Seen O). crossed_of z.src) p.0 ∙ c.counted;
        back = subst (λ (z : Seen O). IsLoose z.src) (sym p.0) c.back;
      },
      p.1,
    )
    passed_came new tells tells' Gone peer p =
        let same : p.0 ≡ item = cc (p.1, waited) in
        let went : WentBy o item old.behind new.behind tells tells' = subst (λ (x : Item). WentBy o x old.behind new.behind tells tells') same p.3 in record {
          few = few;
          item = item;
          waited = p.1 ∙ ap (λ (x : Item). x ∷ new.waiting) same;
          setting = ap setting_of p.2 ∙ c.setting;
          leads = went_leads item old.behind new.behind tells tells' went;
          passes = c.passes;
          history = λ h k. subst (λ (z : SrcPad). CrossedBy z (h ++ item ∷ [])) (sym p.2) (c.history h k);
          counted = ap crossed_of p.2 ∙ c.counted;
          sent = λ h k. went_sent item old.behind new.behind tells tells' went h;
          way = went_way item old new sibling tells tells' old.behind refl peer c.nobody went;
        }
    passed_came new tells tells' (Full number) peer p =
        back_full new number tells tells' p.0 (p.3 ∙ sym p.2 ∙ waited) p.4 old.behind refl (back_leads p.0 number old.behind new.behind tells tells' p.5) p.5
    passed_came new tells tells' (AtProbe command) peer p = absurd p
    passed_came new tells tells' NotLinked peer p = absurd p
    passed_came new tells tells' BehindEos peer p = absurd p
    passed_came new tells tells' AtLimit peer p = absurd p
    passed_came new tells tells' OutOfMemory peer p = absurd p
