-- A pad with one more item.
use Rattle.std.proofs.Common.{◌≡◌, ℕ, ◌+◌, Bool, true, false, if◌then◌else◌, List, [], ◌∷◌, ◌++◌, refl, sym, ap, subst, ◌∙◌, arith, Some, IsTrue, add-zero, ◌⊎◌, inl, inr, map, Result, Ok, Err, IfOk}
use Rattle.std.proofs.lemmas.List.{length_push}
use Rattle.std.proofs.lemmas.List.Sums.{sum_by_push}
use Rattle.std.proofs.lemmas.Option.{same_Some as same_some}
use Rattle.gst_item.proofs.Kept.{in_force_push, buffer_passes, gap_passes}
use Rattle.gst_value.specs.declared.memory.OutOfMemory.{OutOfMemory}
use Rattle.gst_item.specs.Sticky.{InForce, in_force, stickies}
use Rattle.pad_core.specs.Item.{Item, Buf, Ev, Buffer, Event, StreamStart, NewCaps, NewSegment, Tag, Gap, FlushStop, Eos, is_eos, is_flush_stop, is_buffer, is_sticky, buffers}
use Rattle.pad_core.specs.Counts.{IsStickyKept, AreSticky}
use Rattle.pad_core.proofs.Again.{listed_sticky, stickies_push}
use Rattle.pad_core.specs.declared.last.Last.{Last}
use Rattle.pad_core.specs.declared.last.Last.TheVariants.{Nothing, Buffer as LastBuffer, Gap as LastGap, Sticky as LastSticky}
use Rattle.pad_core.specs.declared.src_pad.SrcPad.{SrcPad}
use Rattle.pad_core.specs.Crossing.{has_ended}
use Rattle.pad_core.specs.SrcPad.{IsLast, LastCrossed, Settled, CrossedBy}
use Rattle.gst_item.specs.Item.{has_item}

abbrev pub one_if : Bool → ℕ
one_if b = if b then 1 else 0

pub buffers_push : (h : List Item) (x : Item) → buffers (h ++ x ∷ []) ≡ buffers h + one_if (is_buffer x)
buffers_push h x = sum_by_push (λ y. one_if (is_buffer y)) h x

-- EOS behind an item of a stream that has not ended
pub ended_push : (h : List Item) (x : Item) → is_flush_stop x ≡ false → has_ended h ≡ false → has_ended (h ++ x ∷ []) ≡ is_eos x
ended_push h x plain begun = ap (λ (s : InForce). has_item s.eos) (in_force_push h x) ∙ rw plain (go (is_eos x))
  where
    go : (b : Bool) → has_item (if b then x ∷ [] else (in_force h).eos) ≡ b
    go true = refl
    go false = begun

settled_now : (settled : InForce) (last : Last) (h : List Item) → last ≡ Nothing → Settled settled last h → settled ≡ in_force h
settled_now settled Nothing h e s = s
settled_now settled LastBuffer h e s = absurd (cc)
settled_now settled LastGap h e s = absurd (cc)
settled_now settled (LastSticky event) h e s = absurd (cc)

settled_nothing : (settled : InForce) (last : Last) (h : List Item) → last ≡ Nothing → settled ≡ in_force h → Settled settled last h
settled_nothing settled Nothing h e s = s
settled_nothing settled LastBuffer h e s = absurd (cc)
settled_nothing settled LastGap h e s = absurd (cc)
settled_nothing settled (LastSticky event) h e s = absurd (cc)

as_last : (settled : InForce) (last : Last) (h : List Item) (x : Item) → IsLast last x → LastCrossed settled last h → Settled settled last h
as_last settled Nothing h x k s = absurd k
as_last settled LastBuffer h x k s = s
as_last settled LastGap h x k s = s
as_last settled (LastSticky event) h x k s = s

-- an item other than FLUSH_STOP
pub counted : (old new : SrcPad) (x : Item) → is_flush_stop x ≡ false → old.ended ≡ false → old.last ≡ Nothing
    → new.crossed ≡ old.crossed + 1 → new.buffers ≡ old.buffers + one_if (is_buffer x) → new.ended ≡ is_eos x → new.settled ≡ old.settled → IsLast new.last x
    → (h : List Item) → CrossedBy old h → CrossedBy new (h ++ x ∷ [])
counted old new x plain begun nothing crossed buffered ended settled kind h p =
    record {
      crossed = crossed ∙ ap (λ n. n + 1) p.crossed ∙ sym (length_push h x);
      buffers = buffered ∙ ap (λ n. n + one_if (is_buffer x)) p.buffers ∙ sym (buffers_push h x);
      ended = ended ∙ sym (ended_push h x plain (sym p.ended ∙ begun));
      stickies = as_last new.settled new.last (h ++ x ∷ []) x kind
          (record {
            earlier = h;
            item = x;
            whole = refl;
            kind = kind;
            in_force_then = settled ∙ settled_now old.settled old.last h nothing p.stickies;
            not_ended = sym p.ended ∙ begun;
          });
    }

-- a FLUSH_STOP
pub flushed : (old new : SrcPad) → old.last ≡ Nothing → new.last ≡ Nothing
    → new.crossed ≡ old.crossed + 1 → new.buffers ≡ old.buffers → new.ended ≡ false
    → ((h : List Item) (number : ℕ) → old.settled ≡ in_force h → new.settled ≡ in_force (h ++ Ev (FlushStop number) ∷ []))
    → (h : List Item) (number : ℕ) → CrossedBy old h → CrossedBy new (h ++ Ev (FlushStop number) ∷ [])
flushed old new nothing same crossed buffered ended settled h number p =
    record {
      crossed = crossed ∙ ap (λ n. n + 1) p.crossed ∙ sym (length_push h (Ev (FlushStop number)));
      buffers = omega (arith, buffered, p.buffers, buffers_push h (Ev (FlushStop number)));
      ended = ended ∙ sym (ap (λ (s : InForce). has_item s.eos) (in_force_push h (Ev (FlushStop number))));
      stickies = settled_nothing new.settled new.last (h ++ Ev (FlushStop number) ∷ []) same (settled h number (settled_now old.settled old.last h nothing p.stickies));
    }

-- what settling makes of the settled events
abbrev pub Settles : Last → InForce → InForce → Type 0
Settles Nothing before after = after ≡ before
Settles LastBuffer before after = after ≡ before
Settles LastGap before after = after ≡ before
Settles (LastSticky event) before after = (g : List Item) → before ≡ in_force g → after ≡ in_force (g ++ Ev event ∷ [])

behind_buffer : (g : List Item) (x : Item) → IsLast LastBuffer x → in_force (g ++ x ∷ []) ≡ in_force g
behind_buffer g (Buf b) k = buffer_passes g b
behind_buffer g (Ev e) k = absurd k

behind_gap : (g : List Item) (x : Item) → IsLast LastGap x → in_force (g ++ x ∷ []) ≡ in_force g
behind_gap g (Buf b) k = absurd k
behind_gap g (Ev (Gap pts duration)) k = gap_passes g pts duration
behind_gap g (Ev (StreamStart id)) k = absurd k
behind_gap g (Ev (NewCaps caps)) k = absurd k
behind_gap g (Ev (NewSegment segment)) k = absurd k
behind_gap g (Ev (Tag title)) k = absurd k
behind_gap g (Ev (FlushStop number)) k = absurd k
behind_gap g (Ev Eos) k = absurd k

pub settles : (before after : InForce) (last : Last) (h : List Item) → Settles last before after → Settled before last h → after ≡ in_force h
settles before after Nothing h n s = n ∙ s
settles before after LastBuffer h n s = n ∙ s.in_force_then ∙ sym (ap in_force s.whole ∙ behind_buffer s.earlier s.item s.kind)
settles before after LastGap h n s = n ∙ s.in_force_then ∙ sym (ap in_force s.whole ∙ behind_gap s.earlier s.item s.kind)
settles before after (LastSticky event) h n s =
    n s.earlier s.in_force_then ∙ sym (ap in_force s.whole ∙ ap (λ x. in_force (s.earlier ++ x ∷ [])) s.kind)

pub settled : (old new : SrcPad) (last : Last) → last ≡ old.last → new.last ≡ Nothing → new.crossed ≡ old.crossed → new.buffers ≡ old.buffers → new.ended ≡ old.ended
    → Settles last old.settled new.settled
    → (h : List Item) → CrossedBy old h → CrossedBy new h
settled old new last same nothing crossed buffered ended did h p =
    record {
      crossed = crossed ∙ p.crossed;
      buffers = buffered ∙ p.buffers;
      ended = ended ∙ p.ended;
      stickies = settled_nothing new.settled new.last h nothing (settles old.settled new.settled last h did (rw same p.stickies));
    }

-- a buffer behind a buffer
pub counted_next : (old new : SrcPad) (b : Buffer) → old.ended ≡ false → old.last ≡ LastBuffer
    → new.crossed ≡ old.crossed + 1 → new.buffers ≡ old.buffers + 1 → new.ended ≡ false → new.settled ≡ old.settled → new.last ≡ LastBuffer
    → (h : List Item) → CrossedBy old h → CrossedBy new (h ++ Buf b ∷ [])
counted_next old new b begun behind crossed buffered ended apart same h p =
    record {
      crossed = crossed ∙ ap (λ n. n + 1) p.crossed ∙ sym (length_push h (Buf b));
      buffers = buffered ∙ ap (λ n. n + 1) p.buffers ∙ sym (buffers_push h (Buf b));
      ended = ended ∙ sym (ended_push h (Buf b) refl (sym p.ended ∙ begun));
      stickies = as_last new.settled new.last (h ++ Buf b ∷ []) (Buf b) (rw same tt)
          (record {
            earlier = h;
            item = Buf b;
            whole = refl;
            kind = rw same tt;
            in_force_then = apart ∙ settles old.settled old.settled LastBuffer h refl (subst (λ last. Settled old.settled last h) behind p.stickies);
            not_ended = sym p.ended ∙ begun;
          });
    }

-- a sticky event, of which a copy was laid by
pub counted_sticky : (old new : SrcPad) (ends : Bool) → IsStickyKept ends old.kept → old.ended ≡ false → old.last ≡ Nothing
    → new.crossed ≡ old.crossed + 1 → new.buffers ≡ old.buffers → new.ended ≡ ends → new.settled ≡ old.settled
    → (event : Event) → old.kept ≡ Some event → new.last ≡ LastSticky event
    → (h : List Item) (e : Event) → old.kept ≡ Some e → CrossedBy old h → CrossedBy new (h ++ Ev e ∷ [])
counted_sticky old new ends laid begun nothing crossed buffered ended settled event kept last h e which p =
    let same : Some event ≡ Some e = sym kept ∙ which in
    let laid_by : IsStickyKept ends (Some e) = rw which at laid in
    counted old new (Ev e) (sticky_is_no_flush e laid_by.0) begun nothing crossed (buffered ∙ sym (add-zero old.buffers)) (ended ∙ sym laid_by.1) settled
    (rw last (ap Ev (same_some e event (sym same)))) h p
  where
    sticky_is_no_flush : (e : Event) → IsTrue (is_sticky e) → is_flush_stop (Ev e) ≡ false
    sticky_is_no_flush (StreamStart id) s = refl
    sticky_is_no_flush (NewCaps caps) s = refl
    sticky_is_no_flush (NewSegment segment) s = refl
    sticky_is_no_flush (Tag title) s = refl
    sticky_is_no_flush (Gap pts duration) s = refl
    sticky_is_no_flush (FlushStop number) s = absurd (cc)
    sticky_is_no_flush Eos s = refl

-- where no sticky event stands apart, settling changes nothing
pub settles_same : (last : Last) (s : InForce) → (last ≡ Nothing) ⊎ ((last ≡ LastBuffer) ⊎ (last ≡ LastGap)) → Settles last s s
settles_same Nothing s e = refl
settles_same LastBuffer s e = refl
settles_same LastGap s e = refl
settles_same (LastSticky event) s e = absurd (elim e [ inl a ↦ cc | inr b ↦ elim b [ inl a ↦ cc | inr a ↦ cc ] ])

-- what is in force behind a sticky event that stands apart
pub listed_apart : (r : Result (List Event) OutOfMemory) (pad : SrcPad) (events : List Event) (event copy : Event) → pad.last ≡ LastSticky event → copy ≡ event
    → ((g : List Item) → pad.settled ≡ in_force g → map Ev events ≡ stickies g)
    → IfOk r (λ made. AreSticky events → map Ev made ≡ stickies (map Ev events ++ Ev copy ∷ []))
    → IfOk r (λ made. (h : List Item) → CrossedBy pad h → map Ev made ≡ stickies h)
listed_apart (Err fault) pad events event copy last copied told made = tt
listed_apart (Ok one) pad events event copy last copied told made = λ h p.
    let s : LastCrossed pad.settled (LastSticky event) h = rw last at p.stickies in
    let same = told s.earlier s.in_force_then in
    made (listed_sticky s.earlier events same)
    ∙ ap (λ xs. stickies (xs ++ Ev copy ∷ [])) same
    ∙ ap (λ e. stickies (stickies s.earlier ++ Ev e ∷ [])) copied
    ∙ stickies_push s.earlier (Ev event)
    ∙ ap stickies (sym (s.whole ∙ ap (λ x. s.earlier ++ x ∷ []) s.kind))
