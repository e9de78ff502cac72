-- A line has one list of elements, or one fault of them.
use Rattle.std.proofs.Common.{◌≡◌, ◌⊎◌, ℕ, List, [], ◌∷◌, ◌++◌, Result, Ok, Err, refl, sym, ap, ◌∙◌, subst, inl, inr, arith}
use Rattle.el_settings.specs.Asked.{location_of}
use Rattle.el_settings.specs.Checked.{IsAnswer}
use Rattle.el_settings.specs.declared.fault.PropFault.{PropFault}
use Rattle.el_settings.specs.declared.fault.PropFault.TheVariants.{NoSuchKind, NoSuchProperty, BadValue as BadPropValue}
use Rattle.el_settings.specs.declared.settings.Settings.{Settings}
use Rattle.gst_value.proofs.Basics.{one_some}
use Rattle.graph_core.specs.Asked.{Declared}
use Rattle.graph_core.specs.Comes.{Comes}
use Rattle.graph_core.specs.Elements.{Made, ElementsCome, IsMade, IsUnmade, IsPlaced, is_name_taken, is_location_taken, name_of, settings_fault}
use Rattle.graph_core.specs.Laws.{AreSame, IsFree}
use Rattle.graph_core.specs.declared.fault.BuildFault.{BuildFault}
use Rattle.graph_core.specs.declared.fault.BuildFault.TheVariants.{NoSuch, BadValue, NameTaken, LocationTaken, TooMany, LinkRefused, OutOfMemory}
use Rattle.el_settings.specs.Alike.{AreAlike, IsUnjudged}
use Rattle.gst_value.specs.declared.name.Prop.{Prop}
use Rattle.graph_core.proofs.Allowing.{never_true}

-- properties have one answer
abbrev pub OneSetting : Type 0
OneSetting = (kind : List ℕ) (props : List Prop) (a b : Result Settings PropFault) → IsAnswer kind props a → IsAnswer kind props b → AreAlike a b

-- two answers are one, or memory is wanting in one of them
abbrev pub Agree : {Y : Type 0} → Result (List Y) BuildFault → Result (List Y) BuildFault → Type 0
Agree (Ok ys) (Ok zs) = ys ≡ zs
Agree (Ok ys) (Err fault) = IsFree fault
Agree (Err fault) (Ok ys) = IsFree fault
Agree (Err fault) (Err other) = AreSame fault other

module _ {X Y : Type 0} (Makes : List Y → X → Y → Type 0) (Refuses : List Y → X → BuildFault → Type 0)
    (one : (made : List Y) (x : X) (y z : Y) → Makes made x y → Makes made x z → y ≡ z)
    (never : (made : List Y) (x : X) (y : Y) (fault : BuildFault) → Makes made x y → Refuses made x fault → IsFree fault)
    (same : (made : List Y) (x : X) (fault other : BuildFault) → Refuses made x fault → Refuses made x other → AreSame fault other) where
  -- what came of a list, by its first member
  abbrev Came : List Y → List X → Result (List Y) BuildFault → Type 0
  Came made [] answer = answer ≡ Ok made
  Came made (x ∷ xs) answer = ((y : Y) × Makes made x y × Comes Makes Refuses (made ++ y ∷ []) xs answer) ⊎ ((fault : BuildFault) × Refuses made x fault × (answer ≡ Err fault))

  came : (made : List Y) (xs : List X) (answer : Result (List Y) BuildFault) → Comes Makes Refuses made xs answer → Came made xs answer
  came made xs answer (Comes.all ys) = refl
  came made xs answer (Comes.more ys x y rest a makes comes) = inl (y, makes, comes)
  came made xs answer (Comes.stop ys x rest fault why) = inr (fault, why, refl)

  ended : (ys zs : List Y) (a b : Result (List Y) BuildFault) → a ≡ Ok ys → b ≡ Ok ys → Agree a b
  ended ys zs (Ok x) (Ok y) e f = cc
  ended ys zs (Ok x) (Err y) e f = absurd (cc)
  ended ys zs (Err x) b e f = absurd (cc)

  ok_err : (fault : BuildFault) (a b : Result (List Y) BuildFault) → b ≡ Err fault → IsFree fault → Agree a b
  ok_err fault a (Ok x) e free = absurd (cc)
  ok_err fault (Ok x) (Err y) e free = let s : y ≡ fault = cc in s ∙ free
  ok_err fault (Err x) (Err y) e free = let s : y ≡ fault = cc in inr (inr (s ∙ free))

  err_ok : (fault : BuildFault) (a b : Result (List Y) BuildFault) → a ≡ Err fault → IsFree fault → Agree a b
  err_ok fault (Ok x) b e free = absurd (cc)
  err_ok fault (Err x) (Ok y) e free = let s : x ≡ fault = cc in s ∙ free
  err_ok fault (Err x) (Err y) e free = let s : x ≡ fault = cc in inr (inl (s ∙ free))

  err_err : (fault other : BuildFault) (a b : Result (List Y) BuildFault) → a ≡ Err fault → b ≡ Err other → AreSame fault other → Agree a b
  err_err fault other (Ok x) b e f like = absurd (cc)
  err_err fault other (Err x) (Ok y) e f like = absurd (cc)
  err_err fault other (Err x) (Err y) e f like =
      let s : fault ≡ x = cc in
      let t : other ≡ y = cc in
      subst (λ (u : BuildFault). AreSame u y) s (subst (λ (v : BuildFault). AreSame fault v) t like)

  pub agree : (xs : List X) (made : List Y) (a b : Result (List Y) BuildFault) → Comes Makes Refuses made xs a → Comes Makes Refuses made xs b → Agree a b
  agree [] made a b c d = ended made made a b (came made [] a c) (came made [] b d)
  agree (x ∷ xs) made a b c d = by (came made (x ∷ xs) a c) (came made (x ∷ xs) b d) (λ ys. agree xs ys a b)
    where
      by : Came made (x ∷ xs) a → Came made (x ∷ xs) b → ((ys : List Y) → Comes Makes Refuses ys xs a → Comes Makes Refuses ys xs b → Agree a b) → Agree a b
      by (inl (y, makes, comes)) (inl (z, makes', comes')) rest = rest (made ++ y ∷ []) comes (subst (λ (w : Y). Comes Makes Refuses (made ++ w ∷ []) xs b) (one made x z y makes' makes) comes')
      by (inl (y, makes, comes)) (inr (fault, why, e)) rest = ok_err fault a b e (never made x y fault makes why)
      by (inr (fault, why, e)) (inl (y, makes, comes)) rest = err_ok fault a b e (never made x y fault makes why)
      by (inr (fault, why, e)) (inr (other, how, f)) rest = err_err fault other a b e f (same made x fault other why how)

-- elements
made_same : (m n : Made) → m.name ≡ n.name → m.kind ≡ n.kind → m.is_numbered ≡ n.is_numbered → m.settings ≡ n.settings → m ≡ n
made_same m n a b c d =
    ap (λ x. let r : Made = record { name = x; kind = m.kind; is_numbered = m.is_numbered; settings = m.settings } in r) a
    ∙ ap (λ x. let r : Made = record { name = n.name; kind = x; is_numbered = m.is_numbered; settings = m.settings } in r) b
    ∙ ap (λ x. let r : Made = record { name = n.name; kind = n.kind; is_numbered = x; settings = m.settings } in r) c
    ∙ ap (λ x. let r : Made = record { name = n.name; kind = n.kind; is_numbered = n.is_numbered; settings = x } in r) d

made_one : OneSetting → (before : List Made) (d : Declared) (m n : Made) → IsMade before d m → IsMade before d n → m ≡ n
made_one one before d m n h g = made_same m n (h.name ∙ sym g.name) (h.kind ∙ sym g.kind) (h.is_numbered ∙ sym g.is_numbered) (one d.kind d.props (Ok m.settings) (Ok n.settings) h.set g.set)

made_unmade : OneSetting → (before : List Made) (d : Declared) (m : Made) (fault : BuildFault) → IsMade before d m → IsUnmade before d fault → IsFree fault
made_unmade one before d m fault h (IsUnmade.kind w) = let e = one d.kind d.props (Ok m.settings) (Err NoSuchKind) h.set w in absurd (cc)
made_unmade one before d m fault h (IsUnmade.property p w) = let e = one d.kind d.props (Ok m.settings) (Err (NoSuchProperty p)) h.set w in absurd (cc)
made_unmade one before d m fault h (IsUnmade.value p w) = let e = one d.kind d.props (Ok m.settings) (Err (BadPropValue p)) h.set w in absurd (cc)
made_unmade one before d m fault h (IsUnmade.name s w taken) = never_true (is_name_taken (name_of before d) before) taken h.free_name
made_unmade one before d m fault h (IsUnmade.location s l w free has taken) =
    let e = one d.kind d.props (Ok s) (Ok m.settings) w h.set in
    never_true (is_location_taken m.settings before) (ap (λ t. is_location_taken t before) (sym e) ∙ taken) h.free_location
made_unmade one before d m fault h (IsUnmade.many s w free open_location full) = let r = h.room in absurd (omega (arith, r, full))
made_unmade one before d m fault h IsUnmade.memory = refl

-- the fault of an element, by the answer for its properties
abbrev ToldBy : List Made → Declared → Result Settings PropFault → BuildFault → Type 0
ToldBy before d (Ok s) fault = IsPlaced before (name_of before d) s (Err fault)
ToldBy before d (Err e) fault = (IsUnjudged e → ⊥) × (fault ≡ settings_fault (name_of before d) d.kind e)

abbrev Told : List Made → Declared → BuildFault → Type 0
Told before d fault = IsFree fault ⊎ ((a : Result Settings PropFault) × IsAnswer d.kind d.props a × ToldBy before d a fault)

told : (before : List Made) (d : Declared) (fault : BuildFault) → IsUnmade before d fault → Told before d fault
told before d fault (IsUnmade.kind w) = inr (Err NoSuchKind, w, ((λ e. cc), refl))
told before d fault (IsUnmade.property p w) = inr (Err (NoSuchProperty p), w, ((λ e. cc), refl))
told before d fault (IsUnmade.value p w) = inr (Err (BadPropValue p), w, ((λ e. cc), refl))
told before d fault (IsUnmade.name s w taken) = inr (Ok s, w, (refl, taken))
told before d fault (IsUnmade.location s l w free has taken) = inr (Ok s, w, (has, free, taken))
told before d fault (IsUnmade.many s w free open_location full) = inr (Ok s, w, (refl, free, open_location, full))
told before d fault IsUnmade.memory = inl refl

placed_one : (before : List Made) (text : List ℕ) (s : Settings) (f g : BuildFault) → IsPlaced before text s (Err f) → IsPlaced before text s (Err g) → AreSame f g
placed_one before text s (NameTaken a) (NameTaken b) h g = inl (ap NameTaken (h.0 ∙ sym g.0))
placed_one before text s (NameTaken a) (LocationTaken b) h g = never_true (is_name_taken text before) h.1 g.1
placed_one before text s (NameTaken a) (TooMany b) h g = never_true (is_name_taken text before) h.1 g.1
placed_one before text s (NameTaken a) OutOfMemory h g = inr (inr refl)
placed_one before text s (NameTaken a) (NoSuch _ _) h g = absurd g
placed_one before text s (NameTaken a) (BadValue _ _) h g = absurd g
placed_one before text s (NameTaken a) (LinkRefused _ _ _) h g = absurd g
placed_one before text s (LocationTaken a) (NameTaken b) h g = never_true (is_name_taken text before) g.1 h.1
placed_one before text s (LocationTaken a) (LocationTaken b) h g = inl (ap LocationTaken (one_some (location_of s) a b h.0 g.0))
placed_one before text s (LocationTaken a) (TooMany b) h g = never_true (is_location_taken s before) h.2 g.2
placed_one before text s (LocationTaken a) OutOfMemory h g = inr (inr refl)
placed_one before text s (LocationTaken a) (NoSuch _ _) h g = absurd g
placed_one before text s (LocationTaken a) (BadValue _ _) h g = absurd g
placed_one before text s (LocationTaken a) (LinkRefused _ _ _) h g = absurd g
placed_one before text s (TooMany a) (NameTaken b) h g = never_true (is_name_taken text before) g.1 h.1
placed_one before text s (TooMany a) (LocationTaken b) h g = never_true (is_location_taken s before) g.2 h.2
placed_one before text s (TooMany a) (TooMany b) h g = inl (ap TooMany (h.0 ∙ sym g.0))
placed_one before text s (TooMany a) OutOfMemory h g = inr (inr refl)
placed_one before text s (TooMany a) (NoSuch _ _) h g = absurd g
placed_one before text s (TooMany a) (BadValue _ _) h g = absurd g
placed_one before text s (TooMany a) (LinkRefused _ _ _) h g = absurd g
placed_one before text s OutOfMemory g' h g = inr (inl refl)
placed_one before text s (NoSuch _ _) g' h g = absurd h
placed_one before text s (BadValue _ _) g' h g = absurd h
placed_one before text s (LinkRefused _ _ _) g' h g = absurd h

told_one : OneSetting → (before : List Made) (d : Declared) (f g : BuildFault) → Told before d f → Told before d g → AreSame f g
told_one one before d f g (inl free) k = inr (inl free)
told_one one before d f g (inr h) (inl free) = inr (inr free)
told_one one before d f g (inr (a, w, t)) (inr (b, v, u)) = by a b t u (one d.kind d.props a b w v)
  where
    likely : (e e' : PropFault) → (IsUnjudged e → ⊥) × (f ≡ settings_fault (name_of before d) d.kind e) → (IsUnjudged e' → ⊥) × (g ≡ settings_fault (name_of before d) d.kind e') → (e ≡ e') ⊎ (IsUnjudged e ⊎ IsUnjudged e') → AreSame f g
    likely e e' t u (inl like) = inl (t.1 ∙ ap (settings_fault (name_of before d) d.kind) like ∙ sym u.1)
    likely e e' t u (inr (inl none)) = absurd (t.0 none)
    likely e e' t u (inr (inr none)) = absurd (u.0 none)

    by : (a b : Result Settings PropFault) → ToldBy before d a f → ToldBy before d b g → AreAlike a b → AreSame f g
    by (Ok s) (Ok r) t u like = placed_one before (name_of before d) r f g (subst (λ (x : Settings). IsPlaced before (name_of before d) x (Err f)) like t) u
    by (Ok s) (Err e) t u like = absurd (u.0 like)
    by (Err e) (Ok s) t u like = absurd (t.0 like)
    by (Err e) (Err e') t u like = likely e e' t u like

unmade_one : OneSetting → (before : List Made) (d : Declared) (f g : BuildFault) → IsUnmade before d f → IsUnmade before d g → AreSame f g
unmade_one one before d f g h k = told_one one before d f g (told before d f h) (told before d g k)

pub elements_agree : OneSetting → (ds : List Declared) (a b : Result (List Made) BuildFault) → ElementsCome [] ds a → ElementsCome [] ds b → Agree a b
elements_agree one ds a b = agree IsMade IsUnmade (made_one one) (made_unmade one) (unmade_one one) ds [] a b
