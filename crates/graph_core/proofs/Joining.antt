-- One link more, or the fault of one.
use Rattle.std.proofs.Common.{◌≡◌, ◌<◌, ◌≤◌, ◌==◌, ℕ, suc, Bool, true, false, List, [], ◌∷◌, length, map, refl, sym, ap, ◌∙◌, subst, arith, bytes_eq, position, slice_get, Option, None, Some, Ok, Err, Result, nat_lt, MatchOption, if◌then◌else◌, inl, inr, OnOk, IfErr, IfSome, drop, All}
use Rattle.std.specs.Option.{option_map, option_map_or}
use Rattle.std.specs.List.{range_with_len}
use Rattle.std.proofs.lemmas.Bool.{ltb-true}
use Rattle.std.proofs.lemmas.Bool.Decides.{nat_tests}
use Rattle.std.proofs.lemmas.List.{drop_all}
use Rattle.std.proofs.lemmas.List.FromFn.{length-range_with_len}
use Rattle.std.proofs.lemmas.List.Quantifiers.{position-Some}
use Rattle.std.proofs.lemmas.Option.{slice_get_within}
use Rattle.el_settings.specs.Asked.{HasPad}
use Rattle.el_settings.specs.declared.settings.Settings.{Settings}
use Rattle.pad_core.specs.declared.linking.LinkReturn.{LinkReturn}
use Rattle.graph_core.specs.Asked.{End, own, named, links_in}
use Rattle.launch_text.specs.declared.tree.Chain.{Chain}
use Rattle.graph_core.specs.Comes.{Comes}
use Rattle.graph_core.specs.Elements.{Made, is_named}
use Rattle.graph_core.specs.Ends.{IsEndPad, IsPadOf, IsThere, PadOrMemory, dotted, missing, name_at, named_pad, pad_name, pad_or_many, pads_at, taken_pad}
use Rattle.graph_pads.specs.Pads.{is_sink_pad, links_at, makes, own_number, pad_at, pad_count, pad_number, pad_text, takeable}
use Rattle.graph_core.specs.Links.{HasPads, IsJudged, IsUnjoined, IsUnlinked, Joins, Leads, LinksCome, LinksFollow, LinksStop}
use Rattle.graph_pads.specs.Links.{is_same, sink_behind, source_before}
use Rattle.graph_core.specs.declared.fault.BuildFault.{BuildFault}
use Rattle.graph_core.specs.declared.fault.BuildFault.TheVariants.{NoSuch, LinkRefused, TooMany, OutOfMemory}
use Rattle.graph_core.specs.declared.fault.What.TheVariants.{Order as NoOrder, Pad as NoPad, Element as NoElement}
use Rattle.graph_pads.specs.declared.pad.Direction.{Direction}
use Rattle.graph_pads.specs.declared.pad.Direction.TheVariants.{Source, Sink}
use Rattle.graph_pads.specs.declared.pad.Pad.{Pad}
use Rattle.graph_pads.specs.declared.pad.PadLink.{PadLink}
use Rattle.graph_pads.specs.declared.pad.PadPlace.{PadPlace}

-- a pad that is found is one that a link can take
number_there : (links : List PadLink) (direction : Direction) (element : ℕ) (settings : Settings) (name : List ℕ) (n : ℕ) → pad_number links direction element settings name ≡ Some n → n < takeable links direction element settings
number_there links direction element settings name n found =
    let at = position-Some (λ (k : ℕ). bytes_eq name (pad_text direction settings k)) (range_with_len 0 (takeable links direction element settings)) n 0 found in
    omega (arith, at.0, length-range_with_len 0 (takeable links direction element settings))

abbrev pub okay : Pad → Result Pad BuildFault
okay pad = Ok pad

abbrev pub failed : BuildFault → Result Pad BuildFault
failed fault = Err fault

okay_same : (a b : Pad) → okay a ≡ okay b → b ≡ a
okay_same a b e = cc

failed_same : (a b : BuildFault) → failed a ≡ failed b → b ≡ a
failed_same a b e = cc

-- a pad of an element that a link can take
abbrev IsTaken : List PadLink → Settings → ℕ → Pad → Type 0
IsTaken links settings element pad = (pad.place.element ≡ element) × (pad.place.pad < takeable links pad.direction element settings) × (pad.place.pad < 64)

module _ (links : List PadLink) (settings : Settings) (element : ℕ) where
  within : (direction : Direction) (n : ℕ) (pad : Pad) → okay pad ≡ pad_or_many direction element n → n < takeable links direction element settings → IsTaken links settings element pad
  within direction n pad e room = by (nat_lt n 64) refl e
    where
      by : (b : Bool) → nat_lt n 64 ≡ b → okay pad ≡ (if b then okay (pad_at direction element n) else failed (TooMany 65)) → IsTaken links settings element pad
      by true few e = subst (IsTaken links settings element) (okay_same pad (pad_at direction element n) e) (refl, room, ltb-true n 64 few)
      by false few e = absurd (cc)

  named_there : (m : Made) (name : List ℕ) (pad : Pad) → m.settings ≡ settings → okay pad ≡ named_pad links m element name → IsTaken links settings element pad
  named_there m name pad set e = by (pad_number links Source element m.settings name) (pad_number links Sink element m.settings name) refl refl e
    where
      moved : (direction : Direction) (n : ℕ) → n < takeable links direction element m.settings → n < takeable links direction element settings
      moved direction n h = subst (λ (s : Settings). n < takeable links direction element s) set h

      by : (first second : Option ℕ) → pad_number links Source element m.settings name ≡ first → pad_number links Sink element m.settings name ≡ second
          → okay pad ≡ option_map_or (pad_or_many Source element) first (option_map_or (pad_or_many Sink element) second (failed (NoSuch (dotted m.name name) NoPad))) → IsTaken links settings element pad
      by (Some n) second f g h = within Source n pad h (moved Source n (number_there links Source element m.settings name n f))
      by None (Some n) f g h = within Sink n pad h (moved Sink n (number_there links Sink element m.settings name n g))
      by None None f g h = absurd (cc)

some_pads : (n : ℕ) → (n == 0) ≡ false → 0 < n
some_pads n e = grind (arith, nat_tests)

own_there : (links : List PadLink) (direction : Direction) (element : ℕ) (settings : Settings) → (takeable links direction element settings == 0) ≡ false → own_number links direction element settings < takeable links direction element settings
own_there links direction element settings some = by (makes direction settings) some
  where
    by : (b : Bool) → ((if b then suc (links_at links direction element) else pad_count direction settings) == 0) ≡ false
        → (if b then links_at links direction element else 0) < (if b then suc (links_at links direction element) else pad_count direction settings)
    by true some = omega arith
    by false some = some_pads (pad_count direction settings) some

taken_there : (links : List PadLink) (wanted : Direction) (m : Made) (element : ℕ) (wish : Option (List ℕ)) (pad : Pad) → okay pad ≡ taken_pad links wanted m element wish → IsTaken links m.settings element pad
taken_there links wanted m element wish pad taken = by (takeable links wanted element m.settings == 0) wish refl taken
  where
    by : (none : Bool) (wish : Option (List ℕ)) → (takeable links wanted element m.settings == 0) ≡ none
        → okay pad ≡ (if none then failed (NoSuch m.name (missing wanted)) else option_map_or (named_pad links m element) wish (pad_or_many wanted element (own_number links wanted element m.settings)))
        → IsTaken links m.settings element pad
    by true wish e h = absurd (cc)
    by false None e h = within links m.settings element wanted (own_number links wanted element m.settings) pad h (own_there links wanted element m.settings e)
    by false (Some name) e h = named_there links m.settings element m name pad refl h

-- a pad of an element that is there
pub record CanTake (made : List Made) (links : List PadLink) (pad : Pad) : Type 0 where
  pub element : Made
  pub there : slice_get made pad.place.element ≡ Some element
  pub next : pad.place.pad < takeable links pad.direction pad.place.element element.settings
  pub few : pad.place.pad < 64

pad_taken : (made : List Made) (links : List PadLink) (wanted : Direction) (element : ℕ) (wish : Option (List ℕ)) (pad : Pad) → IsPadOf made links wanted element wish (Ok pad) → CanTake made links pad
pad_taken made links wanted element wish pad (m, stands, taken) =
    let is = taken_there links wanted m element wish pad taken in
    record { element = m; there = ap (slice_get made) is.0 ∙ stands; next = subst (λ (e : ℕ). pad.place.pad < takeable links pad.direction e m.settings) (sym is.0) is.1; few = is.2 }

pub end_taken : (made : List Made) (links : List PadLink) (wanted : Direction) (end : End) (pad : Pad) → IsEndPad made links wanted end (Ok pad) → CanTake made links pad
end_taken made links wanted (own n) pad h = pad_taken made links wanted n None pad h
end_taken made links wanted (named name wish) pad h = by (position (is_named name) made) h
  where
    by : (o : Option ℕ) → MatchOption o (okay pad ≡ failed (NoSuch name NoElement)) (λ n. IsPadOf made links wanted n wish (okay pad)) → CanTake made links pad
    by None h = absurd (cc)
    by (Some n) h = pad_taken made links wanted n wish pad h

-- it is there
room_there : (links : List PadLink) (direction : Direction) (element : ℕ) (settings : Settings) (n : ℕ) → n < takeable links direction element settings → n < 64 → HasPad settings (is_sink_pad direction) n
room_there links Source element settings n next few = by (makes Source settings) next few
  where
    by : (b : Bool) → n < (if b then suc (links_at links Source element) else pad_count Source settings) → n < 64 → n < (if b then 64 else pad_count Source settings)
    by true next few = few
    by false next few = next
room_there links Sink element settings n next few = by (makes Sink settings) next few
  where
    by : (b : Bool) → n < (if b then suc (links_at links Sink element) else pad_count Sink settings) → n < 64 → n < (if b then 64 else pad_count Sink settings)
    by true next few = few
    by false next few = next

taken_is_there : (made : List Made) (links : List PadLink) (pad : Pad) → CanTake made links pad → IsThere made pad
taken_is_there made links pad h = (h.element, h.there, room_there links pad.direction pad.place.element h.element.settings pad.place.pad h.next h.few)

pub end_sure : (made : List Made) (links : List PadLink) (wanted : Direction) (end : End) (pad : Pad) → PadOrMemory (IsEndPad made links wanted end) (Ok pad) → IsEndPad made links wanted end (Ok pad)
end_sure made links wanted end pad (inl h) = h
end_sure made links wanted end pad (inr e) = absurd (cc)

pub end_there : (made : List Made) (links : List PadLink) (wanted : Direction) (end : End) (pad : Pad) → PadOrMemory (IsEndPad made links wanted end) (Ok pad) → IsThere made pad
end_there made links wanted end pad h = taken_is_there made links pad (end_taken made links wanted end pad (end_sure made links wanted end pad h))

pub within_there : (made : List Made) (pad : Pad) → IsThere made pad → pad.place.element < length made
within_there made pad there = slice_get_within made pad.place.element there.0 there.1

module _ (made : List Made) (links : List PadLink) (ends : End × End) where
  stop_one : (fault : BuildFault) → IsUnlinked made links ends fault → LinksStop made links (ends ∷ []) fault
  stop_one fault why = λ rest. Comes.stop links ends rest fault why

  pub left_stops : (fault : BuildFault) → PadOrMemory (IsEndPad made links Source ends.0) (Err fault) → LinksStop made links (ends ∷ []) fault
  left_stops fault (inl h) = stop_one fault (IsUnlinked.left fault h)
  left_stops fault (inr e) = stop_one fault (subst (IsUnlinked made links ends) (failed_same fault OutOfMemory e) IsUnlinked.memory)

  pub right_stops : (from : Pad) (fault : BuildFault) → PadOrMemory (IsEndPad made links Source ends.0) (Ok from) → PadOrMemory (IsEndPad made links Sink ends.1) (Err fault) → LinksStop made links (ends ∷ []) fault
  right_stops from fault l (inl h) = stop_one fault (IsUnlinked.right from fault (end_sure made links Source ends.0 from l) h)
  right_stops from fault l (inr e) = stop_one fault (subst (IsUnlinked made links ends) (failed_same fault OutOfMemory e) IsUnlinked.memory)

  module _ (from to : Pad) (l : PadOrMemory (IsEndPad made links Source ends.0) (Ok from)) (r : PadOrMemory (IsEndPad made links Sink ends.1) (Ok to)) where
    pub joint_stops : (fault : BuildFault) → IsUnjoined made links from to fault → LinksStop made links (ends ∷ []) fault
    joint_stops fault why = stop_one fault (IsUnlinked.both from to fault (end_sure made links Source ends.0 from l) (end_sure made links Sink ends.1 to r) why)

    pub joint_follows : (after : List PadLink) → Joins made links from to after → LinksFollow made links (ends ∷ []) after
    joint_follows after (link, joined, grown) = λ rest answer comes.
        Comes.more links ends link rest answer (record { left = from; right = to; leaves = end_sure made links Source ends.0 from l; enters = end_sure made links Sink ends.1 to r; joined = joined })
        (subst (λ (ls : List PadLink). LinksCome made ls rest answer) grown comes)

module _ (made : List Made) (links : List PadLink) (left right : Pad) where
  pub refusal_unjoined : (ret : LinkReturn) (fault : BuildFault) → IsJudged made links left right (Some ret) → fault ≡ LinkRefused (pad_name made left) (pad_name made right) ret → IsUnjoined made links left right fault
  refusal_unjoined ret fault judged e = subst (IsUnjoined made links left right) (sym e) (IsUnjoined.refused ret judged)

  pub loop_unjoined : (name : List ℕ) (fault : BuildFault) → name ≡ name_at made left.place.element → IsJudged made links left right None → Leads links right.place.element left.place.element → fault ≡ NoSuch name NoOrder → IsUnjoined made links left right fault
  loop_unjoined name fault told judged leads e = subst (IsUnjoined made links left right) (sym (e ∙ ap (λ t. NoSuch t NoOrder) told)) (IsUnjoined.loops judged leads)

-- the name of an element that is there
pub name_told : (made : List Made) (element : ℕ) (name : List ℕ) → option_map (λ (m : Made). m.name) (slice_get made element) ≡ Some name → name ≡ name_at made element
name_told made element name h = by (slice_get made element) h
  where
    by : (o : Option Made) → option_map (λ (m : Made). m.name) o ≡ Some name → name ≡ option_map_or (λ (m : Made). m.name) o []
    by None h = absurd (cc)
    by (Some m) h = cc

-- what holds where a call went well, or where it did not
pub where_ok : {P Q : Type 0} (r : Result (Unit {0}) BuildFault) → (P → Q) → OnOk r P → OnOk r Q
where_ok (Ok done) f h = f h
where_ok (Err fault) f h = tt

pub where_fault : (P Q : BuildFault → Type 0) (r : Result (Unit {0}) BuildFault) → ((fault : BuildFault) → P fault → Q fault) → IfErr r P → IfErr r Q
where_fault P Q (Ok done) f h = tt
where_fault P Q (Err fault) f h = f fault h

-- when no chain is left, the links are made
pub all_linked : {R : Type 0} (chain_of : R → Chain) (made : List Made) (links : List PadLink) (n : ℕ) (chains : List R) (i : ℕ) → length chains ≤ i
    → ((answer : Result (List PadLink) BuildFault) → LinksCome made links (links_in n (map chain_of (drop i chains))) answer → LinksCome made [] (links_in 0 (map chain_of chains)) answer)
    → LinksCome made [] (links_in 0 (map chain_of chains)) (Ok links)
all_linked {R} chain_of made links n chains i past follow = follow (Ok links) (subst (λ (cs : List R). LinksCome made links (links_in n (map chain_of cs)) (Ok links)) (sym (drop_all i chains past)) (Comes.all links))

-- the pads that are found in links are there
pub sink_found : (made : List Made) (links : List PadLink) (source : PadPlace) → All (HasPads made) links → IfSome (sink_behind links source) (λ sink. sink.pad < pads_at made Sink sink.element)
sink_found made [] source h = tt
sink_found made (link ∷ links) source h = by (is_same link.source source) (sink_found made links source (λ k d within. h (suc k) d (omega (arith, within))))
  where
    by : (b : Bool) → IfSome (sink_behind links source) (λ sink. sink.pad < pads_at made Sink sink.element) → IfSome (if b then Some link.sink else sink_behind links source) (λ sink. sink.pad < pads_at made Sink sink.element)
    by true rest = (h 0 link (omega arith)).1
    by false rest = rest

pub source_found : (made : List Made) (links : List PadLink) (sink : PadPlace) → All (HasPads made) links → IfSome (source_before links sink) (λ source. source.pad < pads_at made Source source.element)
source_found made [] sink h = tt
source_found made (link ∷ links) sink h = by (is_same link.sink sink) (source_found made links sink (λ k d within. h (suc k) d (omega (arith, within))))
  where
    by : (b : Bool) → IfSome (source_before links sink) (λ source. source.pad < pads_at made Source source.element) → IfSome (if b then Some link.source else source_before links sink) (λ source. source.pad < pads_at made Source source.element)
    by true rest = (h 0 link (omega arith)).0
    by false rest = rest
