-- The source pads of links have names by which they are found, from the start and behind each answer.
use Rattle.std.proofs.Common.{◌≡◌, ◌⊎◌, ◌<◌, ◌≤◌, ◌++◌, ◌||◌, ℕ, Bool, true, false, if◌then◌else◌, eqb, All, List, [], ◌∷◌, Option, None, Some, cond, drop, get_or, length, nat_lt, position, bytes_eq, codes, refl, sym, ap, ◌∙◌, subst, inl, inr, arith}
use Rattle.std.specs.Prelude.{◌==◌, slice_get}
use Rattle.std.specs.Fmt.{decimal}
use Rattle.std.specs.List.{list_any, position_or_len}
use Rattle.std.specs.Option.{option_map, option_map_or}
use Rattle.std.proofs.lemmas.Bool.{false≢true, lt-ltb, true≢false}
use Rattle.std.proofs.lemmas.Bool.Decides.{eqb_tells}
use Rattle.std.proofs.lemmas.Fmt.{decimal_injective}
use Rattle.std.proofs.lemmas.Slice.Eq.{bytes_eq-Decides}
use Rattle.std.proofs.lemmas.List.{length_push}
use Rattle.std.proofs.lemmas.List.Quantifiers.{position-Some}
use Rattle.std.proofs.lemmas.List.Sums.{position_or_len_is}
use Rattle.std.proofs.lemmas.Option.{get_or_from_slice_get, slice_get-get_or, slice_get_within}
use Rattle.flow_model.specs.Item.{Item}
use Rattle.gst_value.specs.declared.name.PadName.{PadName}
use Rattle.gst_value.proofs.Basics.{number_itself, some_same}
use Rattle.el_settings.specs.Asked.{makes_sources, source_pads}
use Rattle.el_settings.specs.declared.settings.Settings.{Settings}
use Rattle.el_settings.specs.declared.settings.Settings.TheVariants.{FakeSink, FileSink, Tee}
use Rattle.el_settings.proofs.Padded.{few_sources}
use Rattle.graph_core.specs.Elements.{Made, is_named}
use Rattle.graph_core.specs.Ends.{pads_at}
use Rattle.graph_core.specs.Graph.{links as links_in, made as made_in}
use Rattle.graph_core.specs.Links.{HasPads}
use Rattle.graph_core.proofs.NumberedPads.{found_in}
use Rattle.graph_core.proofs.Orders.{pads_at_link}
use Rattle.graph_pads.proofs.FirstOf.{first_found}
use Rattle.graph_pads.specs.Links.{is_same, source_before}
use Rattle.graph_pads.specs.Pads.{pad_text}
use Rattle.graph_pads.specs.declared.pad.Direction.TheVariants.{Source}
use Rattle.graph_pads.specs.declared.pad.PadLink.{PadLink}
use Rattle.graph_pads.specs.declared.pad.PadPlace.{PadPlace}
use Rattle.script_text.specs.declared.answer.Answer.{Answer}
use Rattle.script_text.specs.declared.command.Act.{Act}
use Rattle.script_text.specs.declared.command.Command.{Command}
use Rattle.script_text.specs.declared.command.When.{When}
use Rattle.graph_edits.specs.Edited.{Edited, added, is_there, link_between, relinked_at, touches, unedited, without, without_element}
use Rattle.graph_edits.specs.Growing.{LinksStand}
use Rattle.graph_edits.specs.Lawful.{IsAnswered, Makes, Reaches}
use Rattle.graph_edits.specs.Names.{pad_in}
use Rattle.graph_edits.proofs.Following.{get_front}
use Rattle.graph_edits.proofs.Keeping.{none_push, some_push}
use Rattle.graph_edits.proofs.LinksStanding.{rest_other}
use Rattle.edit_core.specs.Notes.{AreNamed, StaysNamed}
use Rattle.edit_core.proofs.Distinct.{AreDistinct, line_distinct}
use Rattle.edit_core.proofs.Lists.{no_some, told}
use Rattle.edit_core.proofs.Finding.{Named, found_element, found_of, named_by}

-- an element of which links make no source pads has one at the most
one_source : (s : Settings) → makes_sources s ≡ false → source_pads s ≤ 1
one_source (Tee pads) plain = absurd (true≢false plain)
one_source (FileSink s) plain = omega arith
one_source FakeSink plain = omega arith
one_source _ plain = omega arith

-- ---- from the start

same_text : (a : List ℕ) → bytes_eq a a ≡ true
same_text a = (bytes_eq-Decides a a).1 refl

-- no two source pads of an element have one name
texts_differ : (s : Settings) (j k : ℕ) → j < k → k < source_pads s → pad_text Source s k ≡ pad_text Source s j → ⊥
texts_differ s j k less low same = by (told (makes_sources s))
  where
    few : k < 64
    few = let most = few_sources s in omega (arith, low, most)

    by : (makes_sources s ≡ true) ⊎ (makes_sources s ≡ false) → ⊥
    by (inl many) =
        let texts : codes "src" ++ (codes "_" ++ decimal k) ≡ codes "src" ++ (codes "_" ++ decimal j) = rw many at same in
        let number : k ≡ j = decimal_injective k j (omega (arith, few)) (omega (arith, few, less)) (ap (drop 4) texts) in
        omega (arith, number, less)
    by (inr one) = let most = one_source s one in omega (arith, low, less, most)

pad_found : (e k : ℕ) (m : Made) → k < source_pads m.settings → pad_in Source (pad_text Source m.settings k) e m ≡ Some (record { element = e; pad = k })
pad_found e k m low =
    ap (option_map {U = PadPlace} (λ n. record { element = e; pad = n }))
    (first_found (λ n. bytes_eq (pad_text Source m.settings k) (pad_text Source m.settings n)) (source_pads m.settings) k low before (same_text (pad_text Source m.settings k)))
  where
    before : (j : ℕ) → j < k → bytes_eq (pad_text Source m.settings k) (pad_text Source m.settings j) ≡ false
    before j less = by (told (bytes_eq (pad_text Source m.settings k) (pad_text Source m.settings j)))
      where
        by : (bytes_eq (pad_text Source m.settings k) (pad_text Source m.settings j) ≡ true) ⊎ (bytes_eq (pad_text Source m.settings k) (pad_text Source m.settings j) ≡ false)
            → bytes_eq (pad_text Source m.settings k) (pad_text Source m.settings j) ≡ false
        by (inl is) = absurd (texts_differ m.settings j k less low ((bytes_eq-Decides (pad_text Source m.settings k) (pad_text Source m.settings j)).0 is))
        by (inr not) = not

element_found : (made : List Made) → AreDistinct made → (e : ℕ) (m : Made) → slice_get made e ≡ Some m → position (is_named m.name) made ≡ Some e
element_found made distinct e m at =
    let low = slice_get_within made e m at in
    let first : position_or_len (is_named m.name) made ≡ e =
    position_or_len_is (is_named m.name) made e m (omega (arith, low)) before (λ w. ap (is_named m.name) (get_or_from_slice_get made e m m at) ∙ same_text m.name) in
    ap (λ (n : ℕ). cond (nat_lt n (length made)) (Some n) None) first ∙ ap (λ (b : Bool). cond b (Some e) None) (lt-ltb e (length made) low)
  where
    before : (j : ℕ) → j < e → is_named m.name (get_or made j m) ≡ false
    before j less = by (told (is_named m.name (get_or made j m)))
      where
        by : (is_named m.name (get_or made j m) ≡ true) ⊎ (is_named m.name (get_or made j m) ≡ false) → is_named m.name (get_or made j m) ≡ false
        by (inl is) =
            let low = slice_get_within made e m at in
            let one = slice_get-get_or made j m (omega (arith, less, low)) in
            let same : e ≡ j = distinct e j m (get_or made j m) at one ((bytes_eq-Decides m.name (get_or made j m).name).0 is) in
            absurd (omega (arith, same, less))
        by (inr not) = not

begins_named : (made : List Made) (links : List PadLink) → AreDistinct made → All (HasPads made) links → AreNamed (unedited made links)
begins_named made links distinct pads source sink e =
    let found = found_in links sink source e in
    let low : source.pad < pads_at made Source source.element = subst (λ (place : PadPlace). place.pad < pads_at made Source place.element) found.2 (pads_at_link made links pads found.0 found.1).0 in
    by (slice_get made source.element) refl low
  where
    by : (o : Option Made) → slice_get made source.element ≡ o → source.pad < option_map_or (λ (m : Made). source_pads m.settings) o 0 → Named (unedited made links) source
    by None at low = absurd (omega (arith, low))
    by (Some m) at low =
        let name : PadName = record { element = m.name; pad = pad_text Source m.settings source.pad } in (
          name,
          named_by (unedited made links) name source
              (record {
                element = source.element;
                first = element_found made distinct source.element m at;
                there = lt-ltb source.element (length made) (slice_get_within made source.element m at);
                made = m;
                at = at;
                pad = pad_found source.element source.pad m low;
              }),
        )

-- ---- what is first stays first with one more behind

first_stays : (P : Made → Bool) (made : List Made) (m : Made) (k : ℕ) → position P made ≡ Some k → position P (made ++ m ∷ []) ≡ Some k
first_stays P made m k e =
    let is = position-Some P made k m e in
    let low = is.0 in
    let long = length_push made m in
    let inside : k < length (made ++ m ∷ []) = omega (arith, low, long) in
    let first : position_or_len P (made ++ m ∷ []) ≡ k =
    position_or_len_is P (made ++ m ∷ []) k m (omega (arith, inside)) (λ j less. ap P (same j (omega (arith, less, low))) ∙ is.2 j less) (λ w. ap P (same k low) ∙ is.1) in
    ap (λ (n : ℕ). cond (nat_lt n (length (made ++ m ∷ []))) (Some n) None) first
    ∙ ap (λ (b : Bool). cond b (Some k) None) (lt-ltb k (length (made ++ m ∷ [])) inside)
  where
    same : (j : ℕ) → j < length made → get_or (made ++ m ∷ []) j m ≡ get_or made j m
    same j less =
        some_same
        (sym (slice_get-get_or (made ++ m ∷ []) j m (let long = length_push made m in omega (arith, less, long))) ∙ get_front made m j less ∙ slice_get-get_or made j m less)

-- ---- what acts make of it

more_there : (g : Edited) (m : Made) (k : ℕ) → k < length g.made → is_there g k ≡ true → is_there (added m g) k ≡ true
more_there g m k low there = by (list_any (λ gone. gone == k) g.removed) there
  where
    by : (b : Bool) → (if b then false else nat_lt k (length g.made)) ≡ true → (if b then false else nat_lt k (length (g.made ++ m ∷ []))) ≡ true
    by true e = absurd (false≢true e)
    by false e = lt-ltb k (length (g.made ++ m ∷ [])) (let long = length_push g.made m in omega (arith, low, long))

added_named : (g : Edited) (m : Made) (source : PadPlace) → Named g source → Named (added m g) source
added_named g m source named =
    let found = found_of Source g named.0 source named.1 in
    let low = slice_get_within g.made found.element found.made found.at in (
      named.0,
      named_by (added m g) named.0 source
          (record {
            element = found.element;
            first = first_stays (is_named named.0.element) g.made m found.element found.first;
            there = more_there g m found.element low found.there;
            made = found.made;
            at = get_front g.made m found.element low ∙ found.at;
            pad = found.pad;
          }),
    )

gone_too : (removed : List ℕ) (e k : ℕ) → (e ≡ k → ⊥) → list_any (λ gone. gone == k) (removed ++ e ∷ []) ≡ list_any (λ gone. gone == k) removed
gone_too [] e k other = by (eqb_tells e k)
  where
    by : ((eqb e k ≡ true) × (e ≡ k)) ⊎ ((eqb e k ≡ false) × (e ≡ k → ⊥)) → ((e == k) || false) ≡ false
    by (inl t) = absurd (other t.1)
    by (inr t) = ap (λ (b : Bool). b || false) t.0
gone_too (d ∷ removed) e k other = ap (λ (b : Bool). (d == k) || b) (gone_too removed e k other)

removed_named : (g : Edited) (e : ℕ) (source : PadPlace) → (e ≡ source.element → ⊥) → Named g source → Named (without_element e g) source
removed_named g e source other named =
    let found = found_of Source g named.0 source named.1 in
    let own = found_element Source named.0.pad found.element found.made source found.pad in (
      named.0,
      named_by (without_element e g) named.0 source
          (record {
            element = found.element;
            first = found.first;
            there = ap (λ (b : Bool). if b then false else nat_lt found.element (length g.made)) (gone_too g.removed e found.element (λ same. other (same ∙ own))) ∙ found.there;
            made = found.made;
            at = found.at;
            pad = found.pad;
          }),
    )

-- an element at no link is the source of none
untouched : (links : List PadLink) (e : ℕ) (source sink : PadPlace) → list_any (touches e) links ≡ false → source_before links sink ≡ Some source → e ≡ source.element → ⊥
untouched [] e source sink none is same = no_some (sym is)
untouched (link ∷ links) e source sink none is same = by (is_same link.sink sink) is (either none) (λ rest at. untouched links e source sink rest at same)
  where
    either : (touches e link || list_any (touches e) links) ≡ false → (touches e link ≡ false) × (list_any (touches e) links ≡ false)
    either n = go (touches e link) n
      where
        go : (b : Bool) → (b || list_any (touches e) links) ≡ false → (b ≡ false) × (list_any (touches e) links ≡ false)
        go true n = absurd (true≢false n)
        go false n = (refl, n)

    by : (b : Bool) → (if b then Some link.source else source_before links sink) ≡ Some source → (touches e link ≡ false) × (list_any (touches e) links ≡ false)
        → (list_any (touches e) links ≡ false → source_before links sink ≡ Some source → ⊥) → ⊥
    by true is n rest =
        let own : link.source.element ≡ e = ap (λ (place : PadPlace). place.element) (some_same is) ∙ sym same in
        true≢false (sym (ap (λ (b : Bool). b || (link.sink.element == e)) (ap (λ (d : ℕ). d == e) own ∙ number_itself e)) ∙ n.0)
    by false is n rest = rest n.1 is

relinked_named : (g : Edited) (source to : PadPlace) (place : ℕ) → LinksStand g → AreNamed g → Named g source → AreNamed (relinked_at source place to g)
relinked_named g source to place stand named own found sink e = by (source_before (without source g.links) sink) refl
  where
    by : (o : Option PadPlace) → source_before (without source g.links) sink ≡ o → Named (relinked_at source place to g) found
    by (Some old) was =
        let same : old ≡ found = some_same (sym (some_push (without source g.links) (link_between source to) sink old was) ∙ e) in
        named found sink (rest_other source sink found g.links stand.single (was ∙ ap Some same)).1
    by None was = made (told (is_same to sink)) (sym (none_push (without source g.links) (link_between source to) sink was) ∙ e)
      where
        made : (is_same to sink ≡ true) ⊎ (is_same to sink ≡ false) → (if is_same to sink then Some source else None) ≡ Some found → Named (relinked_at source place to g) found
        made (inl t) e = subst (λ (p : PadPlace). Named g p) (some_same (rw t at e)) own
        made (inr t) e = absurd (no_some (sym (rw t at e)))

-- ---- behind an answer

abbrev Sourced : Edited → Option PadPlace → Type 0
Sourced g None = Unit {0}
Sourced g (Some source) = Named g source

sourced : (g : Edited) (h owed : ℕ → List Item) (when : When) (p : Option PadPlace) (place : ℕ) → Reaches g h owed when p place → Sourced g p
sourced g h owed when p place (Reaches.at pad n at source named is) = (pad, named)
sourced g h owed when p place (Reaches.now_pad pad at source named is) = (pad, named)
sourced g h owed when p place Reaches.now = tt

acted : (h : ℕ → List Item) (g : Edited) (p : Option PadPlace) (place : ℕ) (act : Act) (after : Edited) → Makes g h p place act after → Sourced g p → LinksStand g → AreNamed g → AreNamed after
acted h g p place act after (Makes.relinks sink source to at is linkable) of stand named = relinked_named g source to at stand named of
acted h g p place act after (Makes.unlinks eos source to at behind) of stand named = λ found sink e. named found sink (rest_other source sink found g.links stand.single e).1
acted h g p place act after (Makes.adds q at kind props m is plain) of stand named = λ found sink e. added_named g m found (named found sink e)
acted h g p place act after (Makes.removes q at name d is loose) of stand named = λ found sink e. removed_named g d found (untouched g.links d found sink loose e) (named found sink e)

answered_named : (h owed : ℕ → List Item) (g after : Edited) (c : Command) (a : Answer) → IsAnswered g h owed c a after → LinksStand g → AreNamed g → AreNamed after
answered_named h owed g after c a (IsAnswered.done when act p place next reaches makes) stand named = acted h g p place act next makes (sourced g h owed when p place reaches) stand named
answered_named h owed g after c a (IsAnswered.unreached one there is) stand named = named
answered_named h owed g after c a (IsAnswered.nameless one none) stand named = named
answered_named h owed g after c a (IsAnswered.refused when act p place reason there reaches is) stand named = named

pub stays_named : StaysNamed
stays_named = record { begins = λ tree graph is sound. begins_named (made_in graph) (links_in graph) (line_distinct tree graph is) sound.pads; answered = answered_named }
