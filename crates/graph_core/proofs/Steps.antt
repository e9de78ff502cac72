-- One element more, or the fault of one.
use Rattle.std.proofs.Common.{◌≡◌, ◌&&◌, ◌||◌, ◌+◌, ℕ, suc, Bool, true, false, not, cond, List, [], ◌∷◌, ◌++◌, length, refl, sym, ap, ◌∙◌, subst, arith, position, Option, None, Some, Ok, Err, Result, is_some, nat_lt, MatchOption}
use Rattle.std.specs.Prelude.{IsErrAnd}
use Rattle.std.specs.List.{list_any, position_or_len}
use Rattle.std.proofs.lemmas.Bool.{lt-ltb}
use Rattle.std.proofs.lemmas.Bool.Decides.{nat_tests}
use Rattle.el_settings.specs.Asked.{location_of}
use Rattle.el_settings.specs.Checked.{IsAnswer}
use Rattle.el_settings.specs.declared.settings.Settings.{Settings}
use Rattle.el_settings.specs.declared.fault.PropFault.{PropFault}
use Rattle.el_settings.specs.declared.fault.PropFault.TheVariants.{NoSuchKind, NoSuchProperty, BadValue as BadPropValue, OutOfMemory as NoPropMemory}
use Rattle.graph_core.specs.Asked.{Declared}
use Rattle.graph_core.specs.Comes.{Comes}
use Rattle.gst_value.specs.declared.name.Prop.{Prop}
use Rattle.graph_core.specs.declared.element.Element.{Element}
use Rattle.graph_core.specs.Elements.{Made, made_of, given_name, name_of, is_name_taken, is_location_taken, same_location, clash, IsMade, IsUnmade, ElementsCome, Follows, Stops, IsPlaced, settings_fault}
use Rattle.graph_core.specs.declared.fault.BuildFault.{BuildFault}
use Rattle.graph_core.specs.declared.fault.BuildFault.TheVariants.{NoSuch, BadValue, NameTaken, LocationTaken, TooMany, LinkRefused, OutOfMemory}

pub follows_one : (before after : List Made) (d : Declared) (m : Made) → IsMade before d m → after ≡ before ++ m ∷ [] → Follows before (d ∷ []) after
follows_one before after d m made grown = λ rest answer comes. Comes.more before d m rest answer made (subst (λ (ms : List Made). ElementsCome ms rest answer) grown comes)

pub stops_one : (before : List Made) (d : Declared) (fault : BuildFault) → IsUnmade before d fault → Stops before (d ∷ []) fault
stops_one before d fault unmade = λ rest. Comes.stop before d rest fault unmade

later : (a b : ℕ) → nat_lt (1 + a) (suc b) ≡ nat_lt a b
later a b = grind (arith, nat_tests)

-- an element is found where one passes the test
some_prefix : {X : Type 0} (p : X → Bool) (xs : List X) → nat_lt (position_or_len p xs) (length xs) ≡ list_any p xs
some_prefix p [] = refl
some_prefix p (x ∷ xs) = by (p x) (some_prefix p xs)
  where
    by : (b : Bool) → nat_lt (position_or_len p xs) (length xs) ≡ list_any p xs → nat_lt (cond (not b) (1 + position_or_len p xs) 0) (length (x ∷ xs)) ≡ (b || list_any p xs)
    by true rest = lt-ltb 0 (suc (length xs)) (omega arith)
    by false rest = later (position_or_len p xs) (length xs) ∙ rest

pub found_any : {X : Type 0} (p : X → Bool) (xs : List X) → is_some (position p xs) ≡ list_any p xs
found_any p xs = by (nat_lt (position_or_len p xs) (length xs)) refl ∙ some_prefix p xs
  where
    by : (b : Bool) → nat_lt (position_or_len p xs) (length xs) ≡ b → is_some (cond b (Some (position_or_len p xs)) None) ≡ b
    by true e = refl
    by false e = refl

-- what clashes has a location
some_location : (one other : Option (List ℕ)) → same_location one other ≡ true → is_some other ≡ true
some_location None other same = absurd (cc)
some_location (Some one) None same = absurd (cc)
some_location (Some one) (Some other) same = refl

clash_location : (one other : Settings) → clash one other ≡ true → is_some (location_of other) ≡ true
clash_location one other h = some_location (location_of one) (location_of other) (left (same_location (location_of one) (location_of other)) _ h)
  where
    left : (a b : Bool) → (a && b) ≡ true → a ≡ true
    left true b e = refl
    left false b e = absurd (cc)

pub taken_location : (settings : Settings) (before : List Made) → is_location_taken settings before ≡ true → is_some (location_of settings) ≡ true
taken_location settings [] h = absurd (cc)
taken_location settings (m ∷ ms) h = by (clash m.settings settings) refl h (taken_location settings ms)
  where
    by : (b : Bool) → clash m.settings settings ≡ b → (b || is_location_taken settings ms) ≡ true → (is_location_taken settings ms ≡ true → is_some (location_of settings) ≡ true) → is_some (location_of settings) ≡ true
    by true e h rest = clash_location m.settings settings e
    by false e h rest = rest h

-- where memory is wanting nothing is said of the place
pub memory_refused : (before : List Made) (text : List ℕ) (settings : Settings) (answer : Result (Unit {0}) BuildFault) → IsErrAnd answer (λ fault. fault ≡ OutOfMemory) → IsPlaced before text settings answer
memory_refused before text settings (Ok done) h = absurd h
memory_refused before text settings (Err fault) h = subst (λ (f : BuildFault). IsPlaced before text settings (Err f)) (sym h) tt

-- why the element is not made
pub unplaced : (before : List Made) (d : Declared) (settings : Settings) (fault : BuildFault) → IsAnswer d.kind d.props (Ok settings) → IsPlaced before (name_of before d) settings (Err fault) → IsUnmade before d fault
unplaced before d settings (NameTaken taken) set why = subst (λ (t : List ℕ). IsUnmade before d (NameTaken t)) (sym why.0) (IsUnmade.name settings set why.1)
unplaced before d settings (LocationTaken taken) set why = IsUnmade.location settings taken set why.1 why.0 why.2
unplaced before d settings (TooMany count) set why = subst (λ (n : ℕ). IsUnmade before d (TooMany n)) (sym why.0) (IsUnmade.many settings set why.1 why.2 why.3)
unplaced before d settings OutOfMemory set why = IsUnmade.memory
unplaced before d settings (NoSuch _ _) set why = absurd why
unplaced before d settings (BadValue _ _) set why = absurd why
unplaced before d settings (LinkRefused _ _ _) set why = absurd why

own_fault : (before : List Made) (d : Declared) (fault : PropFault) → IsAnswer d.kind d.props (Err fault) → IsUnmade before d (settings_fault (name_of before d) d.kind fault)
own_fault before d NoSuchKind why = IsUnmade.kind why
own_fault before d (NoSuchProperty p) why = IsUnmade.property p why
own_fault before d (BadPropValue p) why = IsUnmade.value p why
own_fault before d NoPropMemory why = IsUnmade.memory

pub unset : (before : List Made) (d : Declared) (text : List ℕ) (why : PropFault) (fault : BuildFault) → text ≡ name_of before d → IsAnswer d.kind d.props (Err why) → fault ≡ settings_fault text d.kind why → IsUnmade before d fault
unset before d text why fault named own e = subst (IsUnmade before d) (sym (e ∙ ap (λ t. settings_fault t d.kind why) named)) (own_fault before d why own)

-- the location of settings that have one is taken
pub location_told : (before : List Made) (text : List ℕ) (settings : Settings) (fault : BuildFault) → is_name_taken text before ≡ false → is_location_taken settings before ≡ true
    → MatchOption (location_of settings) ⊥ (λ l. fault ≡ LocationTaken l) → IsPlaced before text settings (Err fault)
location_told before text settings fault free taken h = by (location_of settings) refl h
  where
    by : (o : Option (List ℕ)) → location_of settings ≡ o → MatchOption o ⊥ (λ l. fault ≡ LocationTaken l) → IsPlaced before text settings (Err fault)
    by None e h = absurd h
    by (Some l) e h = subst (λ (f : BuildFault). IsPlaced before text settings (Err f)) (sym h) (e, free, taken)

pub placed_named : (before : List Made) (text name : List ℕ) (settings : Settings) (answer : Result (Unit {0}) BuildFault) → text ≡ name → IsPlaced before text settings answer → IsPlaced before name settings answer
placed_named before text name settings answer same h = subst (λ (t : List ℕ). IsPlaced before t settings answer) same h

-- an element that has its place is made
pub placed_made : (before : List Made) (d : Declared) (text name : List ℕ) (props : List Prop) (element : Element) (settings : Settings) → text ≡ name → name ≡ name_of before d → IsAnswer d.kind d.props (Ok settings)
    → IsPlaced before text settings (Ok tt) → props ≡ d.props → (element.kind ≡ d.kind) × (element.is_numbered ≡ not (is_some (given_name props))) × (element.settings ≡ settings) → IsMade before d (made_of name element)
placed_made before d text name props element settings same named set placed all own =
    record {
      kind = own.0;
      is_numbered = own.1 ∙ ap (λ ps. not (is_some (given_name ps))) all;
      name = named;
      set = subst (λ (s : Settings). IsAnswer d.kind d.props (Ok s)) (sym own.2) set;
      free_name = subst (λ (t : List ℕ). is_name_taken t before ≡ false) (same ∙ named) placed.0;
      free_location = subst (λ (s : Settings). is_location_taken s before ≡ false) (sym own.2) placed.1;
      room = placed.2;
    }
