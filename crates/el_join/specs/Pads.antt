-- What a sink pad knows of the items that it was given.
use Rattle.std.specs.Prelude.{Bool, true, false, List, [], ◌∷◌, ◌++◌, max, length, if◌then◌else◌, None, Some}
use Rattle.flow_model.specs.Item.{Item, Event, Buf, Ev, StreamStart, NewCaps, NewSegment, Tag, is_eos}
use Rattle.el_join.specs.declared.inherited.Inherited.{Inherited}
use Rattle.el_join.specs.declared.note.Note.{Note}
use Rattle.el_join.specs.declared.note.Note.TheVariants.{Buffer as Length, StreamStart as Start, Caps as OfCaps, Segment as InForce, Tag as Title, Other}
use Rattle.el_join.specs.declared.pad.Facts.{Facts}
use Rattle.el_join.specs.declared.tally.Tally.{Tally}
use Rattle.el_join.specs.Totals.{added, end_of, running_in, no_tally}
use Rattle.flow_model.specs.Inherited.{start_event, caps_event, tag_event}

-- the events that a pad inherits
abbrev pub kept : Inherited → List Item
kept i = start_event i.stream_start ++ (caps_event i.caps ++ tag_event i.tag)

-- what goes out in front of a pad's next item
abbrev pub opening_of : Bool → Inherited → List Item
opening_of begun i = if begun then [] else kept i

-- what is noted of an item
abbrev pub note_of : Item → Note
note_of (Buf b) = Length (end_of b.pts b.duration) (length b.body)
note_of (Ev (StreamStart id)) = Start id
note_of (Ev (NewCaps caps)) = OfCaps caps
note_of (Ev (NewSegment s)) = InForce s
note_of (Ev (Tag title)) = Title title
note_of (Ev _) = Other

-- what a pad knows behind that
abbrev pub tally_noted : Tally → Note → Tally
tally_noted t (Length end bytes) = record t { greatest = max t.greatest (running_in t.segment end); bytes = added t.bytes bytes }
tally_noted t (InForce s) = record t { segment = Some s }
tally_noted t _ = t

abbrev pub inherited_noted : Inherited → Note → Inherited
inherited_noted i (Start id) = record i { stream_start = Some id }
inherited_noted i (OfCaps caps) = record i { caps = Some caps }
inherited_noted i (Title title) = record i { tag = Some title }
inherited_noted i _ = i

abbrev pub noted : Facts → Note → Facts
noted f note = record f { inherited = inherited_noted f.inherited note; begun = true; tally = tally_noted f.tally note }

-- that EOS was taken, that a section begins, and that nothing was given
abbrev pub ended : Facts → Facts
ended f = record f { begun = true; ended = true }

abbrev pub cleared : Facts → Facts
cleared f = record { inherited = f.inherited; begun = false; ended = false; tally = no_tally }

abbrev pub no_inherited : Inherited
no_inherited = record { stream_start = None; caps = None; tag = None }

abbrev pub no_facts : Facts
no_facts = record { inherited = no_inherited; begun = false; ended = false; tally = no_tally }

-- that an event was laid for the next section; behind EOS it does not count
abbrev pub laid : Facts → Event → Facts
laid f event = if f.ended then f else record f { inherited = inherited_noted f.inherited (note_of (Ev event)) }

-- that an item was taken, and what is to go out for it
abbrev pub taken : Facts → Item → Facts
taken f x = if is_eos x then ended f else noted f (note_of x)

abbrev pub brought : Facts → Item → List Item
brought f x = opening_of f.begun f.inherited ++ (if is_eos x then [] else x ∷ [])
