-- What stands between two ends after a put, a take and a meeting, and what these leave of other lanes.
use Rattle.std.proofs.Common.{◌≡◌, ◌≢◌, ◌≤◌, ℕ, zero, suc, List, [], ◌∷◌, ◌++◌, length, drop, Option, Some, None, refl, ap, sym, ◌∙◌, subst, arith, append_assoc, append-nil, length-append, length-drop}
use Rattle.std.specs.List.{slice_get}
use Rattle.std.specs.Option.{ForSome, option_map}
use native.Mathlib.Decide.{ℕ_discrete}
use Rattle.gst_item.specs.declared.item.Item.{Item}
use Rattle.lane_core.specs.declared.ends.Put.{Put}
use Rattle.lane_core.specs.declared.ends.Put.TheVariants.{Stored, Full}
use Rattle.lane_core.specs.declared.ends.Take.{Take}
use Rattle.lane_core.specs.declared.ends.Take.TheVariants as takes
use Rattle.lane_core.specs.Lane.{Lane, lane_of, updated_table, table_with_item, table_without_first, table_without_items, IsIn, IsOf, IsBetween}
use Rattle.lane_core.specs.Laws.{HoldsFor}
use Rattle.lane_core.specs.Moves.{AnswersRoom, IsPut, TakesFirst, list_after_put, list_after_take, table_after_put, table_after_take}
use Rattle.lane_core.specs.Room.{Limits, number_of, told_of}
use Rattle.lane_core.proofs.Change.{updated_here, updated_else, within}
use Rattle.gst_value.proofs.Basics.{some_same}

-- the table before, where one is told after
told_before : (f : List Lane → List Lane) (tells : Option (List Lane)) (t : List Lane) → option_map f tells ≡ Some t → (u : List Lane) × (tells ≡ Some u) × (f u ≡ t)
told_before f None t e = absurd cc
told_before f (Some u) t e = (u, refl, cc)

same_else : (f : Lane → Lane) (u t : List Lane) (n m : ℕ) (s : Lane) → m ≢ n → updated_table f n u ≡ t → slice_get u m ≡ Some s → slice_get t m ≡ Some s
same_else f u t n m s ne e at = ap (λ (l : List Lane). slice_get l m) (sym e) ∙ (updated_else f u n m ne ∙ at)

same_here : (f : Lane → Lane) (u t : List Lane) (n : ℕ) (s : Lane) → updated_table f n u ≡ t → slice_get u n ≡ Some s → slice_get t n ≡ Some (f s)
same_here f u t n s e at = ap (λ (l : List Lane). slice_get l n) (sym e) ∙ updated_here f u n s at

-- an update of one lane leaves the others
pub between_else : (f : Lane → Lane) (tells tells' : Option (List Lane)) (n m : ℕ) (sent got : List Item) → m ≢ n → tells' ≡ option_map (updated_table f n) tells → IsBetween tells m sent got → IsBetween tells' m sent got
between_else f tells tells' n m sent got ne e b t told =
    let u = told_before (updated_table f n) tells t (sym e ∙ told) in
    let at = b u.0 u.1 in
    (at.0, same_else f u.0 t n m at.0 ne u.2 at.1, at.2)

pub between_stored : (tells tells' : Option (List Lane)) (n : ℕ) (x : Item) (sent got : List Item) → tells' ≡ option_map (table_with_item x n) tells → IsBetween tells n sent got → IsBetween tells' n (sent ++ x ∷ []) got
between_stored tells tells' n x sent got e b t told =
    let u = told_before (table_with_item x n) tells t (sym e ∙ told) in
    let at = b u.0 u.1 in
    (lane_of (at.0.items ++ x ∷ []) at.0.room, same_here (λ s. lane_of (s.items ++ x ∷ []) s.room) u.0 t n at.0 u.2 at.1, ap (λ l. l ++ x ∷ []) at.2 ∙ append_assoc got at.0.items (x ∷ []))

pub between_taken : (tells tells' : Option (List Lane)) (n : ℕ) (x : Item) (sent got : List Item) → tells' ≡ option_map (table_without_first n) tells → TakesFirst n (takes.Item x) tells → IsBetween tells n sent got
    → IsBetween tells' n sent (got ++ x ∷ [])
between_taken tells tells' n x sent got e front b t told =
    let u = told_before (table_without_first n) tells t (sym e ∙ told) in
    let at = b u.0 u.1 in
    let fr = front u.0 u.1 in
    let same : at.0 ≡ fr.0 = some_same (sym at.1 ∙ fr.2) in
    let items : at.0.items ≡ x ∷ fr.1 = ap (λ (s : Lane). s.items) same ∙ fr.3 in (
      lane_of (drop 1 at.0.items) at.0.room,
      same_here (λ s. lane_of (drop 1 s.items) s.room) u.0 t n at.0 u.2 at.1,
      at.2 ∙ (ap (λ l. got ++ l) items ∙ (sym (append_assoc got (x ∷ []) fr.1) ∙ ap (λ (l : List Item). (got ++ x ∷ []) ++ drop 1 l) (sym items))),
    )

pub put_keeps_between : (place : ℕ) (item : Item) (answer : Put) (tells tells' : Option (List Lane)) (sent got : List Item) → tells' ≡ table_after_put place item answer tells → IsBetween tells place sent got
    → IsBetween tells' place (list_after_put sent item answer) got
put_keeps_between place item Stored tells tells' sent got e b = between_stored tells tells' place item sent got e b
put_keeps_between place item (Full back) tells tells' sent got e b = subst (λ (t : Option (List Lane)). IsBetween t place sent got) (sym e) b

pub take_keeps_between : (place : ℕ) (answer : Take) (tells tells' : Option (List Lane)) (sent got : List Item) → tells' ≡ table_after_take place answer tells → TakesFirst place answer tells → IsBetween tells place sent got
    → IsBetween tells' place sent (list_after_take got answer)
take_keeps_between place (takes.Item item) tells tells' sent got e first b = between_taken tells tells' place item sent got e first b
take_keeps_between place takes.Empty tells tells' sent got e first b = subst (λ (t : Option (List Lane)). IsBetween t place sent got) (sym e) b

pub meet_keeps_between : (place : ℕ) (tells tells' : Option (List Lane)) (sent got : List Item) → tells' ≡ option_map (table_without_items place) tells → IsBetween tells place sent got → IsBetween tells' place sent sent
meet_keeps_between place tells tells' sent got e b t told =
    let u = told_before (table_without_items place) tells t (sym e ∙ told) in
    let at = b u.0 u.1 in
    (lane_of [] at.0.room, same_here (λ s. lane_of [] s.room) u.0 t place at.0 u.2 at.1, sym (append-nil sent))

pub put_keeps_others : (place other : ℕ) (item : Item) (answer : Put) (tells tells' : Option (List Lane)) (sent got : List Item) → other ≢ place → tells' ≡ table_after_put place item answer tells → IsBetween tells other sent got
    → IsBetween tells' other sent got
put_keeps_others place other item Stored tells tells' sent got ne e b = between_else _ tells tells' place other sent got ne e b
put_keeps_others place other item (Full back) tells tells' sent got ne e b = subst (λ (t : Option (List Lane)). IsBetween t other sent got) (sym e) b

pub take_keeps_others : (place other : ℕ) (answer : Take) (tells tells' : Option (List Lane)) (sent got : List Item) → other ≢ place → tells' ≡ table_after_take place answer tells → IsBetween tells other sent got → IsBetween tells' other sent got
take_keeps_others place other (takes.Item item) tells tells' sent got ne e b = between_else _ tells tells' place other sent got ne e b
take_keeps_others place other takes.Empty tells tells' sent got ne e b = subst (λ (t : Option (List Lane)). IsBetween t other sent got) (sym e) b

pub meet_keeps_others : (place other : ℕ) (tells tells' : Option (List Lane)) (sent got : List Item) → other ≢ place → tells' ≡ option_map (table_without_items place) tells → IsBetween tells other sent got → IsBetween tells' other sent got
meet_keeps_others place other tells tells' sent got ne e b = between_else _ tells tells' place other sent got ne e b

-- a lane at the end of a table
get_before : (t : List Lane) (new : Lane) (n : ℕ) (s : Lane) → slice_get t n ≡ Some s → slice_get (t ++ new ∷ []) n ≡ Some s
get_before [] new n s e = absurd cc
get_before (x ∷ xs) new zero s e = e
get_before (x ∷ xs) new (suc n) s e = get_before xs new n s e

get_last : (t : List Lane) (new : Lane) → slice_get (t ++ new ∷ []) (length t) ≡ Some new
get_last [] new = refl
get_last (x ∷ xs) new = get_last xs new

told_after : (t t' u : List Lane) (lane : Lane) → t' ≡ t ++ lane ∷ [] → Some t' ≡ Some u → (n : ℕ) (s : Lane) → slice_get t n ≡ Some s → slice_get u n ≡ Some s
told_after t t' u lane e told n s at =
    let same : t ++ lane ∷ [] ≡ u = cc in
    ap (λ (l : List Lane). slice_get l n) (sym same) ∙ get_before t lane n s at

told_new : (t t' u : List Lane) (lane : Lane) → t' ≡ t ++ lane ∷ [] → Some t' ≡ Some u → slice_get u (length t) ≡ Some lane
told_new t t' u lane e told =
    let same : t ++ lane ∷ [] ≡ u = cc in
    ap (λ (l : List Lane). slice_get l (length t)) (sym same) ∙ get_last t lane

pub new_lane_keeps_others : (t t' : List Lane) (lane : Lane) (place : ℕ) (sent got : List Item) → t' ≡ t ++ lane ∷ [] → IsBetween (Some t) place sent got → IsBetween (Some t') place sent got
new_lane_keeps_others t t' lane place sent got e b u told =
    let at = b t refl in
    (at.0, told_after t t' u lane e told place at.0 at.1, at.2)

pub new_lane_keeps_room : (t t' : List Lane) (lane : Lane) (place : ℕ) (limits : Limits) (count : ℕ) → t' ≡ t ++ lane ∷ [] → IsOf (Some t) place limits count → IsOf (Some t') place limits count
new_lane_keeps_room t t' lane place limits count e b u told =
    let at = b t refl in
    (at.0, told_after t t' u lane e told place at.0 at.1, at.2, at.3)

pub new_lane_keeps_lanes : (t t' : List Lane) (lane : Lane) (place : ℕ) → t' ≡ t ++ lane ∷ [] → IsIn (Some t) place → IsIn (Some t') place
new_lane_keeps_lanes t t' lane place e b u told =
    let at = b t refl in
    (at.0, told_after t t' u lane e told place at.0 at.1)

pub new_lane_is_empty : (t t' : List Lane) (room : ℕ) → t' ≡ t ++ lane_of [] room ∷ [] → IsBetween (Some t') (length t) [] []
new_lane_is_empty t t' room e u told = (lane_of [] room, told_new t t' u (lane_of [] room) e told, refl)

pub new_lane_is_apart : (t : List Lane) (place : ℕ) → IsIn (Some t) place → length t ≢ place
new_lane_is_apart t place b e = let at = b t refl in let below = within t place at.0 at.1 in omega arith

pub new_lane_has_room : (t t' : List Lane) (room count : ℕ) (limits : Limits) → t' ≡ t ++ lane_of [] room ∷ [] → limits.items ≡ room → IsOf (Some t') (length t) limits count
new_lane_has_room t t' room count limits e l u told = (lane_of [] room, told_new t t' u (lane_of [] room) e told, sym l, omega arith)

in_updated : (f : Lane → Lane) (tells tells' : Option (List Lane)) (n m : ℕ) → tells' ≡ option_map (updated_table f n) tells → Dec (m ≡ n) → IsIn tells m → IsIn tells' m
in_updated f tells tells' n m e (yes d) b t told =
    let u = told_before (updated_table f n) tells t (sym e ∙ told) in
    let at = b u.0 u.1 in
    (f at.0, ap (slice_get t) d ∙ same_here f u.0 t n at.0 u.2 (ap (slice_get u.0) (sym d) ∙ at.1))
in_updated f tells tells' n m e (no d) b t told =
    let u = told_before (updated_table f n) tells t (sym e ∙ told) in
    let at = b u.0 u.1 in
    (at.0, same_else f u.0 t n m at.0 d u.2 at.1)

pub put_keeps_lanes : (place other : ℕ) (item : Item) (answer : Put) (tells tells' : Option (List Lane)) → tells' ≡ table_after_put place item answer tells → IsIn tells other → IsIn tells' other
put_keeps_lanes place other item Stored tells tells' e i = in_updated _ tells tells' place other e (ℕ_discrete other place) i
put_keeps_lanes place other item (Full back) tells tells' e i = subst (λ (t : Option (List Lane)). IsIn t other) (sym e) i

pub take_keeps_lanes : (place other : ℕ) (answer : Take) (tells tells' : Option (List Lane)) → tells' ≡ table_after_take place answer tells → IsIn tells other → IsIn tells' other
take_keeps_lanes place other (takes.Item item) tells tells' e i = in_updated _ tells tells' place other e (ℕ_discrete other place) i
take_keeps_lanes place other takes.Empty tells tells' e i = subst (λ (t : Option (List Lane)). IsIn t other) (sym e) i

pub meet_keeps_lanes : (place other : ℕ) (tells tells' : Option (List Lane)) → tells' ≡ option_map (table_without_items place) tells → IsIn tells other → IsIn tells' other
meet_keeps_lanes place other tells tells' e i = in_updated _ tells tells' place other e (ℕ_discrete other place) i

of_else : (f : Lane → Lane) (tells tells' : Option (List Lane)) (n m : ℕ) (limits : Limits) (count : ℕ) → m ≢ n → tells' ≡ option_map (updated_table f n) tells → IsOf tells m limits count → IsOf tells' m limits count
of_else f tells tells' n m limits count ne e b t told =
    let u = told_before (updated_table f n) tells t (sym e ∙ told) in
    let at = b u.0 u.1 in
    (at.0, same_else f u.0 t n m at.0 ne u.2 at.1, at.2, at.3)

-- the lane that is changed keeps its room, and holds at most so many
of_here : (f : Lane → Lane) (tells tells' : Option (List Lane)) (n : ℕ) (limits : Limits) (count count' : ℕ) → ((s : Lane) → (f s).room ≡ s.room) → ((s : Lane) → length s.items ≤ count → length (f s).items ≤ count')
    → tells' ≡ option_map (updated_table f n) tells → IsOf tells n limits count → IsOf tells' n limits count'
of_here f tells tells' n limits count count' room most e b t told =
    let u = told_before (updated_table f n) tells t (sym e ∙ told) in
    let at = b u.0 u.1 in
    (f at.0, same_here f u.0 t n at.0 u.2 at.1, room at.0 ∙ at.2, most at.0 at.3)

of_fewer : (f : Lane → Lane) (tells tells' : Option (List Lane)) (n m : ℕ) (limits : Limits) (count : ℕ) → ((s : Lane) → (f s).room ≡ s.room) → ((s : Lane) → length (f s).items ≤ length s.items)
    → tells' ≡ option_map (updated_table f n) tells → Dec (m ≡ n) → IsOf tells m limits count → IsOf tells' m limits count
of_fewer f tells tells' n m limits count room fewer e (yes d) b =
    subst (λ (k : ℕ). IsOf tells' k limits count) (sym d) (of_here f tells tells' n limits count count room (λ s h. let less = fewer s in omega arith) e (subst (λ (k : ℕ). IsOf tells k limits count) d b))
of_fewer f tells tells' n m limits count room fewer e (no d) b = of_else f tells tells' n m limits count d e b

-- the same lane, as an end names it after a call
pub of_same : (tells : Option (List Lane)) (place place' : ℕ) (limits limits' : Limits) (count : ℕ) → place' ≡ place → limits' ≡ limits → IsOf tells place limits count → IsOf tells place' limits' count
of_same tells place place' limits limits' count p l b = subst (λ (q : ℕ). IsOf tells q limits' count) (sym p) (subst (λ (q : Limits). IsOf tells place q count) (sym l) b)

pub in_same : (tells : Option (List Lane)) (place place' : ℕ) → place' ≡ place → IsIn tells place → IsIn tells place'
in_same tells place place' p b = subst (λ (q : ℕ). IsIn tells q) (sym p) b

-- a lane with its room is in the table
pub in_of : (tells : Option (List Lane)) (place : ℕ) (limits : Limits) (count : ℕ) → IsOf tells place limits count → IsIn tells place
in_of tells place limits count b t told = let at = b t told in (at.0, at.1)

pub put_keeps_room : (place : ℕ) (item : Item) (answer : Put) (limits : Limits) (count count' refusals refusals' : ℕ) (tells tells' : Option (List Lane)) → IsPut item answer count count' refusals refusals'
    → tells' ≡ table_after_put place item answer tells → IsOf tells place limits count → IsOf tells' place limits count'
put_keeps_room place item Stored limits count count' refusals refusals' tells tells' p e b =
    let more = p.0 in
    of_here (λ s. lane_of (s.items ++ item ∷ []) s.room) tells tells' place limits count count' (λ s. refl) (λ s h. omega (arith, length-append s.items (item ∷ []))) e b
put_keeps_room place item (Full back) limits count count' refusals refusals' tells tells' p e b =
    subst (λ (k : ℕ). IsOf tells' place limits k) (sym p.1) (subst (λ (t : Option (List Lane)). IsOf t place limits count) (sym e) b)

pub put_keeps_other_room : (place other : ℕ) (item : Item) (answer : Put) (limits : Limits) (count : ℕ) (tells tells' : Option (List Lane)) → other ≢ place → tells' ≡ table_after_put place item answer tells
    → IsOf tells other limits count → IsOf tells' other limits count
put_keeps_other_room place other item Stored limits count tells tells' ne e b = of_else _ tells tells' place other limits count ne e b
put_keeps_other_room place other item (Full back) limits count tells tells' ne e b = subst (λ (t : Option (List Lane)). IsOf t other limits count) (sym e) b

pub take_keeps_room : (place other : ℕ) (answer : Take) (limits : Limits) (count : ℕ) (tells tells' : Option (List Lane)) → tells' ≡ table_after_take place answer tells → IsOf tells other limits count → IsOf tells' other limits count
take_keeps_room place other (takes.Item item) limits count tells tells' e b =
    of_fewer (λ s. lane_of (drop 1 s.items) s.room) tells tells' place other limits count (λ s. refl) (λ s. omega (arith, length-drop 1 s.items)) e (ℕ_discrete other place) b
take_keeps_room place other takes.Empty limits count tells tells' e b = subst (λ (t : Option (List Lane)). IsOf t other limits count) (sym e) b

pub meet_keeps_room : (place other : ℕ) (limits : Limits) (count : ℕ) (tells tells' : Option (List Lane)) → tells' ≡ option_map (table_without_items place) tells → IsOf tells other limits count → IsOf tells' other limits count
meet_keeps_room place other limits count tells tells' e b =
    of_fewer (λ s. lane_of [] s.room) tells tells' place other limits count (λ s. refl) (λ s. omega arith) e (ℕ_discrete other place) b

pub put_by_lane : (place : ℕ) (limits : Limits) (answer : Put) (tells : Option (List Lane)) (sent got : List Item) (read : List ℕ) → AnswersRoom limits sent read answer → ForSome tells (λ t. read ≡ told_of got)
    → IsBetween tells place sent got → HoldsFor place limits answer tells
put_by_lane place limits Stored tells sent got read room heard b = λ t told.
    let at = b t told in
    let number : number_of read ≡ length got = ap number_of (heard t told) in
    let all = ap length at.2 ∙ length-append got at.0.items in
    (at.0, at.1, omega (arith, all, number, room))
put_by_lane place limits (Full back) tells sent got read full heard b = λ t told.
    let at = b t told in
    let number : number_of read ≡ length got = ap number_of (heard t told) in
    let all = ap length at.2 ∙ length-append got at.0.items in
    (at.0, at.1, omega (arith, all, number, full))

none_left : (items : List Item) → length items ≡ 0 → items ≡ []
none_left [] e = refl
none_left (x ∷ xs) e = absurd (omega arith)

pub empty_by_lane : (place : ℕ) (tells : Option (List Lane)) (sent got : List Item) (read : ℕ) → read ≡ length got → ForSome tells (λ t. read ≡ length sent) → IsBetween tells place sent got
    → ForSome tells (λ t. (lane : Lane) × (slice_get t place ≡ Some lane) × (lane.items ≡ []))
empty_by_lane place tells sent got read none heard b t told =
    let at = b t told in
    let number = heard t told in
    let all = ap length at.2 ∙ length-append got at.0.items in
    (at.0, at.1, none_left at.0.items (omega (arith, all, number, none)))
