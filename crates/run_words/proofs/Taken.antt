-- Where a step of a parse has no fault it passes.
use Rattle.std.proofs.Common.{◌≡◌, ◌∙◌, ◌&&◌, ◌||◌, not, ℕ, Bool, true, false, zero, suc, List, [], ◌∷◌, cond, length, Option, Some, None, refl, sym, ap, codes, is_some, Result, Ok, Err, IfErr, IsErrAnd, subst, arith, nat_le, nat_lt, drop}
use Rattle.std.specs.Prelude.{encode_utf8, slice_get, ◌==◌}
use Rattle.std.specs.List.{list_all}
use Rattle.std.specs.Option.{option_map_or}
use Rattle.std.specs.Str.{bytes_eq, chars}
use Rattle.clap.specs.Lexer.{long_of, short_of}
use Rattle.clap.specs.Facts.{parser_of_value, unwrap_or_range}
use Rattle.clap.specs.ValueTests.{accepts}
use Rattle.clap.specs.Walk.{Held, Names, Row, Rule, Step, value, next, trailing, subcommand, Text, Waiting, Walk, action_of, arg_by_id, arg_by_index, arg_by_long, arg_by_short, attached_value, has_row, is_pending, most_values, nothing_held, reacted, settled, subcommand_met, takes_several, takes_values, values_or_missing, walk, walk_from, walked, word_met}
use Rattle.clap.specs.Simple.{Shape, built, entered}
use Rattle.clap.specs.Takes.{action_passes, bundle_passes, entered_passes, bundle_step_passes, count_passes, flag_word_passes, flags_pass, level_passes, long_passes, option_passes, other_passes, positional_passes, react_passes, set_passes, settle_passes, short_passes, step_passes, takes, turn_passes, use_passes, walk_passes, word_passes}
use Rattle.clap.specs.Kinds.{Kinds, or_else, range_kinds, value_kinds, values_kinds}
use Rattle.clap.specs.Faults.{action_fault, bundle_fault, bundle_step_fault, count_fault, entered_fault, fault_of, flag_word_fault, flags_fault, level_fault, long_fault, option_fault, other_fault, positional_fault, react_fault, repeat_fault, set_fault, settle_fault, short_fault, step_fault, turn_fault, use_fault, values_fault, walk_fault, word_fault}
use Rattle.clap.specs.declared.error.kind.ErrorKind.{ErrorKind}
use Rattle.clap.specs.declared.error.kind.ErrorKind.TheVariants as kind
use Rattle.clap.specs.declared.builder.action.ArgAction.{ArgAction}
use Rattle.clap.specs.declared.builder.action.ArgAction.TheVariants as action
use Rattle.clap.specs.declared.builder.value_parser.ValueParser.{ValueParser}
use Rattle.clap.specs.Values.{kind_of}
use Rattle.clap.specs.declared.error.Error.{Error}
use Rattle.run_words.specs.Command.{the_app}
use Rattle.run_words.specs.Refused.{RefusedFor, fault_of as fault_of_error, is_memory}
use Rattle.run_words.specs.declared.fault.WordsFault.{WordsFault}
use Rattle.run_words.specs.declared.fault.WordsFault.TheVariants.{Words, OutOfMemory}
use Rattle.gst_value.proofs.Basics.{and_both as both}

-- neither of two steps has a fault
none_of : (a b : Kinds) → or_else a b ≡ [] → (a ≡ []) × (b ≡ [])
none_of [] b e = (refl, e)
none_of (k ∷ ks) b e = cc

-- ---- one use of an argument

value_taken : (ignore_case : Bool) (parser : ValueParser) (text : Text) → value_kinds ignore_case parser text ≡ [] → accepts ignore_case parser text ≡ true
value_taken ignore_case parser text e = go (accepts ignore_case parser text) refl
  where
    go : (b : Bool) → accepts ignore_case parser text ≡ b → accepts ignore_case parser text ≡ true
    go true is = is
    go false is = let bad = rw is at e in cc

values_taken : (ignore_case : Bool) (parser : ValueParser) (texts : List Text) → values_kinds ignore_case parser texts ≡ [] → list_all (accepts ignore_case parser) texts ≡ true
values_taken ignore_case parser [] e = refl
values_taken ignore_case parser (v ∷ vs) e =
    let p = none_of (value_kinds ignore_case parser v) (values_kinds ignore_case parser vs) e in
    both _ _ (value_taken ignore_case parser v p.0) (values_taken ignore_case parser vs p.1)

count_taken : (a : Rule) (values : List Text) (rows : List Row) → count_fault a values rows ≡ [] → count_passes a values rows ≡ true
count_taken a [] rows e = value_taken a.ignore_case (parser_of_value a.parser) _ e
count_taken a (v ∷ vs) rows e = values_taken a.ignore_case (parser_of_value a.parser) (v ∷ vs) e

repeat_taken : (again : Bool) (id : Text) (rows : List Row) → repeat_fault again id rows ≡ [] → (not (has_row id rows) || again) ≡ true
repeat_taken again id rows e = go (has_row id rows) again refl refl
  where
    go : (h b : Bool) → has_row id rows ≡ h → again ≡ b → (not (has_row id rows) || again) ≡ true
    go false b is is2 = rw is refl
    go true true is is2 = rw (is, is2) refl
    go true false is is2 = let bad = rw (is, is2) at e in cc

set_taken : (again : Bool) (a : Rule) (values : List Text) (rows : List Row) → set_fault again a values rows ≡ [] → set_passes again a values rows ≡ true
set_taken again a values rows e =
    let p = none_of (repeat_fault again a.id rows) (values_fault a values) e in
    both _ _ (repeat_taken again a.id rows p.0) (values_taken a.ignore_case (parser_of_value a.parser) values p.1)

action_taken : (x : ArgAction) (again : Bool) (a : Rule) (values : List Text) (rows : List Row) → action_fault x again a values rows ≡ [] → action_passes x again a values rows ≡ true
action_taken action.Set again a values rows e = set_taken again a values rows e
action_taken action.SetTrue again a values rows e = set_taken again a values rows e
action_taken action.SetFalse again a values rows e = set_taken again a values rows e
action_taken action.Append again a values rows e = values_taken a.ignore_case (parser_of_value a.parser) values e
action_taken action.Count again a values rows e = count_taken a values rows e
action_taken action.Help again a values rows e = cc
action_taken action.HelpShort again a values rows e = cc
action_taken action.HelpLong again a values rows e = cc
action_taken action.Version again a values rows e = cc

if_not : (b : Bool) (k : ErrorKind) (rest : Kinds) → cond b (k ∷ []) rest ≡ [] → (b ≡ false) × (rest ≡ [])
if_not true k rest e = cc
if_not false k rest e = (refl, e)

if_so : (b : Bool) (k : ErrorKind) → cond b [] (k ∷ []) ≡ [] → b ≡ true
if_so true k e = refl
if_so false k e = cc

range_taken : (least most n : ℕ) → range_kinds least most n ≡ [] → (nat_le least n ≡ true) × (nat_le n most ≡ true)
range_taken least most n e = go (least == most) refl (if_not (nat_lt 0 least && (n == 0)) kind.InvalidValue _ e).1
  where
    go : (b : Bool) → (least == most) ≡ b → cond (least == most) (cond (least == n) [] (kind.WrongNumberOfValues ∷ [])) (cond (nat_lt n least) (kind.TooFewValues ∷ []) (cond (nat_lt most n) (kind.TooManyValues ∷ []) [])) ≡ []
        → (nat_le least n ≡ true) × (nat_le n most ≡ true)
    go true is f =
        let same = if_so (least == n) kind.WrongNumberOfValues (rw is at f) in
        (grind arith, grind arith)
    go false is f =
        let p = if_not (nat_lt n least) kind.TooFewValues _ (rw is at f) in
        let q = if_not (nat_lt most n) kind.TooManyValues [] p.1 in
        (grind arith, grind arith)

use_taken : (again : Bool) (a : Rule) (values : List Text) (rows : List Row) → use_fault again a values rows ≡ [] → use_passes again a values rows ≡ true
use_taken again a values rows e =
    let p = none_of (range_kinds (unwrap_or_range a.range).start_inclusive (most_values a) (length values)) _ e in
    let r = range_taken (unwrap_or_range a.range).start_inclusive (most_values a) (length values) p.0 in
    both _ _ r.0 (both _ _ r.1 (action_taken (action_of a) again a (values_or_missing a values) rows p.1))

-- ---- the walk

settle_taken : (c : List Rule) (again : Bool) (h : Held) → settle_fault c again h ≡ [] → settle_passes c again h ≡ true
settle_taken c again h e = go h.pending e
  where
    known : (values : List Text) (o : Option Rule) → option_map_or (λ a. use_fault again a values h.rows) o [] ≡ [] → option_map_or (λ a. use_passes again a values h.rows) o true ≡ true
    known values None f = refl
    known values (Some a) f = use_taken again a values h.rows f

    go : (o : Option (Text × List Text)) → option_map_or (λ p. option_map_or (λ a. use_fault again a p.1 h.rows) (arg_by_id c p.0) []) o [] ≡ []
        → option_map_or (λ p. option_map_or (λ a. use_passes again a p.1 h.rows) (arg_by_id c p.0) true) o true ≡ true
    go None f = refl
    go (Some p) f = known p.1 (arg_by_id c p.0) f

react_taken : (c : List Rule) (again : Bool) (a : Rule) (values : List Text) (h : Held) → react_fault c again a values h ≡ [] → react_passes c again a values h ≡ true
react_taken c again a values h e =
    let p = none_of (settle_fault c again h) _ e in
    both _ _ (settle_taken c again h p.0) (use_taken again a values (settled c h).rows p.1)

option_taken : (c : List Rule) (again : Bool) (a : Rule) (v : Option Text) (h : Held) → option_fault c again a v h ≡ [] → option_passes c again a v h ≡ true
option_taken c again a (Some v) h e = react_taken c again a (v ∷ []) h e
option_taken c again a None h e = settle_taken c again h e

long_taken : (c : List Rule) (again : Bool) (o : Option Rule) (v : Option Text) (h : Held) → long_fault c again o v h ≡ [] → long_passes c again o v h ≡ true
long_taken c again None v h e = cc
long_taken c again (Some a) v h e = go (takes_values a) v refl refl
  where
    go : (t : Bool) (w : Option Text) → takes_values a ≡ t → v ≡ w → long_passes c again (Some a) v h ≡ true
    go true w is same = let f = rw is at e in rw is (option_taken c again a v h f)
    go false (Some x) is same = let f = rw (is, same) at e in cc
    go false None is same = let f = rw (is, same) at e in rw (is, same) (react_taken c again a [] h f)

short_taken : (c : List Rule) (again : Bool) (o : Option Rule) (rest : Text) (h : Held) (then_fault : Held → Kinds) (then_passes : Held → Bool)
    → ((g : Held) → then_fault g ≡ [] → then_passes g ≡ true) → short_fault c again o rest h then_fault ≡ [] → short_passes c again o rest h then_passes ≡ true
short_taken c again None rest h f p step e = cc
short_taken c again (Some a) rest h f p step e = go (takes_values a) refl
  where
    go : (t : Bool) → takes_values a ≡ t → short_passes c again (Some a) rest h p ≡ true
    go true is = let g = rw is at e in rw is (option_taken c again a (attached_value rest) h g)
    go false is =
        let g = rw is at e in
        let q = none_of (react_fault c again a [] h) (f (reacted c a [] h)) g in
        rw is (both _ _ (react_taken c again a [] h q.0) (step (reacted c a [] h) q.1))

bundle_step_taken : (c : List Rule) (again : Bool) (o : Option ℕ) (flags : Text) (skip : ℕ) (h : Held) (f : Text → ℕ → Held → Kinds) (p : Text → ℕ → Held → Bool)
    → ((t : Text) (n : ℕ) (g : Held) → f t n g ≡ [] → p t n g ≡ true) → bundle_step_fault c again o flags skip h f ≡ [] → bundle_step_passes c again o flags skip h p ≡ true
bundle_step_taken c again None flags skip h f p step e = refl
bundle_step_taken c again (Some x) flags zero h f p step e =
    short_taken c again (arg_by_short c x) (drop (length (encode_utf8 x)) flags) h (f (drop (length (encode_utf8 x)) flags) 0) (p (drop (length (encode_utf8 x)) flags) 0) (step (drop (length (encode_utf8 x)) flags) 0) e
bundle_step_taken c again (Some x) flags (suc skip) h f p step e = step (drop (length (encode_utf8 x)) flags) skip h e

flags_taken : (c : List Rule) (again : Bool) (k : ℕ) (flags : Text) (skip : ℕ) (h : Held) → flags_fault c again k flags skip h ≡ [] → flags_pass c again k flags skip h ≡ true
unfolding flags_fault flags_pass
flags_taken c again zero flags skip h e = refl
flags_taken c again (suc k) flags skip h e =
    bundle_step_taken c again (slice_get (chars flags) 0) flags skip h (flags_fault c again k) (flags_pass c again k) (flags_taken c again k) e

flag_word_taken : (c : List Rule) (again : Bool) (o : Option (Text × Option Text)) (word : Text) (h : Held) → flag_word_fault c again o word h ≡ [] → flag_word_passes c again o word h ≡ true
flag_word_taken c again (Some p) word h e = long_taken c again (arg_by_long c p.0) p.1 h e
flag_word_taken c again None word h e = go (short_of word) e
  where
    go : (o : Option Text) → option_map_or (λ flags. bundle_fault c again flags h) o [] ≡ [] → option_map_or (λ flags. bundle_passes c again flags h) o true ≡ true
    go None f = refl
    go (Some flags) f = flags_taken c again (length flags) flags h.skip (record h { skip = 0 }) f

other_taken : (s : Shape) (o : Option Text) (word : Text) (h : Held) → other_fault s o word h ≡ [] → other_passes s o word h ≡ true
other_taken s (Some name) word h e = go (bytes_eq name (codes "help")) s.disable_help_subcommand refl refl
  where
    go : (x y : Bool) → bytes_eq name (codes "help") ≡ x → s.disable_help_subcommand ≡ y → (not (bytes_eq name (codes "help")) || s.disable_help_subcommand) ≡ true
    go false y is is2 = rw is refl
    go true true is is2 = rw (is, is2) refl
    go true false is is2 = let bad = rw (is, is2) at e in cc
other_taken s None word h e = go (bytes_eq word (45 ∷ 45 ∷ [])) refl
  where
    go : (x : Bool) → bytes_eq word (45 ∷ 45 ∷ []) ≡ x → (bytes_eq word (45 ∷ 45 ∷ []) || flag_word_passes s.rules s.args_override_self (long_of word) word h) ≡ true
    go true is = rw is refl
    go false is = let f = rw is at e in rw is (flag_word_taken s.rules s.args_override_self (long_of word) word h f)

word_taken : (s : Shape) (names : Names) (trailing_now : Bool) (waiting : Waiting) (word : Text) (h : Held) → word_fault s names trailing_now waiting word h ≡ [] → word_passes s names trailing_now waiting word h ≡ true
word_taken s names true waiting word h e = refl
word_taken s names false waiting word h e = other_taken s (subcommand_met names waiting word) word h e

positional_taken : (c : List Rule) (again : Bool) (a : Rule) (h : Held) → positional_fault c again a h ≡ [] → positional_passes c again a h ≡ true
positional_taken c again a h e = go (is_pending a h.pending && takes_several a) refl
  where
    go : (x : Bool) → (is_pending a h.pending && takes_several a) ≡ x → ((is_pending a h.pending && takes_several a) || settle_passes c again h) ≡ true
    go true is = rw is refl
    go false is = let f = rw is at e in rw is (settle_taken c again h f)

step_taken : (s : Shape) (position : ℕ) (h : Held) (step : Step) → step_fault s position h step ≡ [] → step_passes s position h step ≡ true
step_taken s position h value e = go (arg_by_index s.rules position) s.is_leaf refl refl
  where
    go : (o : Option Rule) (leaf : Bool) → arg_by_index s.rules position ≡ o → s.is_leaf ≡ leaf → step_passes s position h value ≡ true
    go None true is is2 = let bad = rw (is, is2) at e in cc
    go None false is is2 = let bad = rw (is, is2) at e in cc
    go (Some a) leaf is is2 = let f = rw is at e in rw is (positional_taken s.rules s.args_override_self a h f)
step_taken s position h (next w) e = refl
step_taken s position h (trailing n) e = refl
step_taken s position h (subcommand t) e = refl

turn_taken : (s : Shape) (names : Names) (w : Walk) (word : Text) → turn_fault s names w word ≡ [] → turn_passes s names w word ≡ true
turn_taken s names w word e = go (is_some w.stopped) refl
  where
    met : Held × Step
    met = word_met s.rules names w.is_trailing w.waiting w.position word w.held

    go : (x : Bool) → is_some w.stopped ≡ x → turn_passes s names w word ≡ true
    go true is = rw is refl
    go false is =
        let f = rw is at e in
        let p = none_of (word_fault s names w.is_trailing w.waiting word w.held) (step_fault s w.position met.0 met.1) f in
        rw is (both _ _ (word_taken s names w.is_trailing w.waiting word w.held p.0) (step_taken s w.position met.0 met.1 p.1))

walk_taken : (s : Shape) (names : Names) (w : Walk) (words : List Text) → walk_fault s names w words ≡ [] → walk_passes s names w words ≡ true
unfolding walk_fault walk_passes
walk_taken s names w [] e = refl
walk_taken s names w (word ∷ rest) e =
    let p = none_of (turn_fault s names w word) (walk_fault s names (walked s.rules names w word) rest) e in
    both _ _ (turn_taken s names w word p.0) (walk_taken s names (walked s.rules names w word) rest p.1)

-- ---- the program's command

abbrev top : Shape
top = (built the_app).top

abbrev end_of : List Text → Held
end_of words = (walk top.rules [] nothing_held words).held

level_taken : (words : List Text) → level_fault top [] nothing_held words false [] ≡ [] → level_passes top [] nothing_held words false ≡ true
level_taken words e =
    let p = none_of (walk_fault top [] (walk_from nothing_held) words) _ e in
    let q = none_of (settle_fault top.rules top.args_override_self (end_of words)) _ p.1 in
    both _ _ (walk_taken top [] (walk_from nothing_held) words p.0) (both _ _ (settle_taken top.rules top.args_override_self (end_of words) q.0) refl)

-- words at which the command has no fault are taken
pub faultless : (words : List Text) → fault_of the_app words ≡ [] → takes the_app words ≡ true
faultless words e = go (walk top.rules [] nothing_held words).stopped e
  where
    go : (stop : Option (Text × List Text)) → level_fault top [] nothing_held words (is_some (entered (built the_app) stop)) (entered_fault (built the_app) stop) ≡ []
        → (entered_passes (built the_app) stop && level_passes top [] nothing_held words (is_some (entered (built the_app) stop))) ≡ true
    go None f = level_taken words f
    go (Some p) f = level_taken words f

not_taken : (words : List Text) (k : ErrorKind) → is_memory k ≡ false → (takes the_app words ≡ true → k ≡ kind.OutOfMemory) → takes the_app words ≡ false
not_taken words k other h = go (takes the_app words) refl
  where
    go : (b : Bool) → takes the_app words ≡ b → takes the_app words ≡ false
    go false is = is
    go true is = let bad : false ≡ true = sym other ∙ ap is_memory (h is) in cc

-- an error of the parse that is no want of memory says that the words are not taken
pub refused_up : {T : Type 0} (r : Result T WordsFault) (e : Error) (words : List Text) → IsErrAnd r (λ f. f ≡ fault_of_error e)
    → (takes the_app words ≡ true → kind_of e ≡ kind.OutOfMemory) → IfErr r (RefusedFor words)
refused_up (Ok x) e words is h = tt
refused_up (Err f) e words is h = subst (RefusedFor words) (sym is) (go (is_memory (kind_of e)) refl)
  where
    go : (b : Bool) → is_memory (kind_of e) ≡ b → RefusedFor words (cond (is_memory (kind_of e)) OutOfMemory Words)
    go true is2 = rw is2 tt
    go false is2 = rw is2 (not_taken words (kind_of e) is2 h)
