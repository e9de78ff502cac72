-- Words without a hyphen are the line.
use Rattle.std.proofs.Common.{◌≡◌, ◌∙◌, ◌++◌, ◌&&◌, ◌||◌, ◌<◌, ◌^◌, ◌==◌, cond, Bool, true, false, List, [], ◌∷◌, length, Some, None, is_some, refl, sym, ap, subst, codes, arith, append_assoc, append-nil}
use Rattle.std.specs.Prelude.{nat_le, option_and_then}
use Rattle.std.specs.List.{fold, list_all}
use Rattle.std.specs.Option.{option_map_or}
use Rattle.std.specs.Str.{bytes_eq}
use Rattle.std.proofs.lemmas.Bool.{le-leb}
use Rattle.std.proofs.lemmas.Slice.Eq.{bytes_eq-Decides}
use Rattle.clap.specs.Lexer.{long_of, long_of_rest, short_of, short_of_rest, strip_byte, usize_max}
use Rattle.clap.specs.Walk.{Held, Row, Step, Text, Waiting, Walk, after_step, finished, idle, long_or_other, nothing_held, positional, option, short_or_plain, subcommand_or_other, trailing, walk, walk_from, walked, word_met}
use Rattle.clap.specs.Simple.{Shape, built, entered, matches_of}
use Rattle.clap.specs.Takes.{bundle_passes, default_passes, entered_passes, flag_word_passes, is_valid, other_passes, settle_passes, step_passes, takes, turn_passes, values_pass, walk_passes, word_passes}
use Rattle.clap.proofs.OnLiterals.{clap_on_literals}
use Rattle.run_words.specs.Command.{the_app, words_rule}
use Rattle.run_words.specs.Law.{PlainWordsAreTheLine, is_plain}
use Rattle.run_words.specs.Line.{joined}
use Rattle.run_words.specs.Said.{line_words_in, order_in, quiet_in, script_in, threads_in, values_hold}
use Rattle.run_words.specs.declared.options.Options.{Options}
use Rattle.gst_value.proofs.Basics.{and_both as both}

abbrev pub top : Shape
top = (built the_app).top

pub halves : (a b : Bool) → (a && b) ≡ true → (a ≡ true) × (b ≡ true)
halves true b e = (refl, e)
halves false b e = cc

-- ---- a word without a hyphen is no flag

no_strip : (word : Text) → is_plain word ≡ true → strip_byte 45 word ≡ None
no_strip [] h = refl
no_strip (x ∷ xs) h = go (x == 45) refl
  where
    go : (b : Bool) → (x == 45) ≡ b → strip_byte 45 (x ∷ xs) ≡ None
    go true is = let bad = rw is at h in cc
    go false is = rw is refl

no_long : (word : Text) → is_plain word ≡ true → long_of word ≡ None
no_long word h = ap (λ o. option_and_then long_of_rest (option_and_then (strip_byte 45) o)) (no_strip word h)

no_short : (word : Text) → is_plain word ≡ true → short_of word ≡ None
no_short word h = ap (option_and_then short_of_rest) (no_strip word h)

not_none : (text : Text) → Some text ≡ None → ⊥
not_none text e = cc

no_dashes : (word : Text) → is_plain word ≡ true → bytes_eq word (45 ∷ 45 ∷ []) ≡ false
no_dashes word h = go (bytes_eq word (45 ∷ 45 ∷ [])) refl
  where
    go : (b : Bool) → bytes_eq word (45 ∷ 45 ∷ []) ≡ b → bytes_eq word (45 ∷ 45 ∷ []) ≡ false
    go true is =
        let same = (bytes_eq-Decides word (45 ∷ 45 ∷ [])).0 is in
        absurd (not_none (45 ∷ []) (ap (strip_byte 45) (sym same) ∙ no_strip word h))
    go false is = is

other_met : (waiting : Waiting) (word : Text) (h : Held) → is_plain word ≡ true
    → subcommand_or_other top.rules None waiting 1 word h ≡ short_or_plain top.rules waiting word None h
other_met waiting word h e =
    ap (λ b. cond b (h, trailing 1) (long_or_other top.rules waiting word (long_of word) h)) (no_dashes word e)
    ∙ (ap (λ o. long_or_other top.rules waiting word o h) (no_long word e) ∙ ap (λ o. short_or_plain top.rules waiting word o h) (no_short word e))

plain_met : (waiting : Waiting) (word : Text) (h : Held) → is_plain word ≡ true
    → word_met top.rules [] false waiting 1 word h ≡ short_or_plain top.rules waiting word None h
plain_met idle word h e = other_met idle word h e
plain_met (option id) word h e = other_met (option id) word h e
plain_met positional word h e = other_met positional word h e

other_passed : (word : Text) (h : Held) → is_plain word ≡ true → other_passes top None word h ≡ true
other_passed word h e =
    ap (λ o. bytes_eq word (45 ∷ 45 ∷ []) || flag_word_passes top.rules top.args_override_self o word h) (no_long word e)
    ∙ (ap (λ o. bytes_eq word (45 ∷ 45 ∷ []) || option_map_or (λ flags. bundle_passes top.rules top.args_override_self flags h) o true) (no_short word e)
    ∙ ap (λ b. b || true) (no_dashes word e))

plain_passes : (waiting : Waiting) (word : Text) (h : Held) → is_plain word ≡ true → word_passes top [] false waiting word h ≡ true
plain_passes idle word h e = other_passed word h e
plain_passes (option id) word h e = other_passed word h e
plain_passes positional word h e = other_passed word h e

-- ---- the walk over words

-- words of the line have been read
abbrev pub state : Bool → List Row → List Text → Walk
state is_trailing rows words = record {
  held = record { rows = rows; pending = Some (codes "WORD", words); skip = 0 };
  waiting = positional;
  position = 1;
  is_trailing = is_trailing;
  stopped = None;
}

first_walked : (word : Text) → is_plain word ≡ true → walked top.rules [] (walk_from nothing_held) word ≡ state false [] (word ∷ [])
unfolding walked
first_walked word e = ap (λ (met : Held × Step). after_step top.rules word (walk_from nothing_held) met.0 met.1) (plain_met idle word nothing_held e)

next_walked : (rows : List Row) (words : List Text) (word : Text) → is_plain word ≡ true → walked top.rules [] (state false rows words) word ≡ state false rows (words ++ word ∷ [])
unfolding walked
next_walked rows words word e = ap (λ (met : Held × Step). after_step top.rules word (state false rows words) met.0 met.1) (plain_met positional word (state false rows words).held e)

rest_walked : (rows : List Row) (words more : List Text) → list_all is_plain more ≡ true → fold (walked top.rules []) (state false rows words) more ≡ state false rows (words ++ more)
rest_walked rows words [] e = ap (state false rows) (sym (append-nil words))
rest_walked rows words (word ∷ more) e =
    let p = halves (is_plain word) (list_all is_plain more) e in
    ap (λ w. fold (walked top.rules []) w more) (next_walked rows words word p.0)
    ∙ (rest_walked rows (words ++ word ∷ []) more p.1 ∙ ap (state false rows) (append_assoc words (word ∷ []) more))

all_walked : (word : Text) (more : List Text) → list_all is_plain (word ∷ more) ≡ true → walk top.rules [] nothing_held (word ∷ more) ≡ state false [] (word ∷ more)
all_walked word more e =
    let p = halves (is_plain word) (list_all is_plain more) e in
    ap (λ w. fold (walked top.rules []) w more) (first_walked word p.0) ∙ rest_walked [] (word ∷ []) more p.1

-- ---- each word passes

first_passes : (word : Text) → is_plain word ≡ true → turn_passes top [] (walk_from nothing_held) word ≡ true
first_passes word e =
    both (word_passes top [] false idle word nothing_held) _ (plain_passes idle word nothing_held e)
    (ap (λ (met : Held × Step). step_passes top 1 met.0 met.1) (plain_met idle word nothing_held e))

next_passes : (rows : List Row) (words : List Text) (word : Text) → is_plain word ≡ true → turn_passes top [] (state false rows words) word ≡ true
next_passes rows words word e =
    both (word_passes top [] false positional word (state false rows words).held) _ (plain_passes positional word (state false rows words).held e)
    (ap (λ (met : Held × Step). step_passes top 1 met.0 met.1) (plain_met positional word (state false rows words).held e))

rest_passes : (rows : List Row) (words more : List Text) → list_all is_plain more ≡ true → walk_passes top [] (state false rows words) more ≡ true
unfolding walk_passes
rest_passes rows words [] e = refl
rest_passes rows words (word ∷ more) e =
    let p = halves (is_plain word) (list_all is_plain more) e in
    both _ _ (next_passes rows words word p.0) (subst (λ w. walk_passes top [] w more ≡ true) (sym (next_walked rows words word p.0)) (rest_passes rows (words ++ word ∷ []) more p.1))

all_pass : (word : Text) (more : List Text) → list_all is_plain (word ∷ more) ≡ true → walk_passes top [] (walk_from nothing_held) (word ∷ more) ≡ true
unfolding walk_passes
all_pass word more e =
    let p = halves (is_plain word) (list_all is_plain more) e in
    both _ _ (first_passes word p.0) (subst (λ w. walk_passes top [] w more ≡ true) (sym (first_walked word p.0)) (rest_passes [] (word ∷ []) more p.1))

-- ---- behind the last word

-- any text is a word of the line
all_strings : (words : List Text) → values_pass (words_rule (codes "WORD")) words ≡ true
all_strings [] = refl
all_strings (word ∷ words) = all_strings words

pub words_settle : (is_trailing : Bool) (rows : List Row) (word : Text) (more : List Text) → length (word ∷ more) < 2 ^ 64
    → settle_passes top.rules false (state is_trailing rows (word ∷ more)).held ≡ true
words_settle is_trailing rows word more few =
    both (nat_le 0 (length (word ∷ more))) _ (le-leb 0 (length (word ∷ more)) (omega arith))
    (both (nat_le (length (word ∷ more)) usize_max) _ (le-leb (length (word ∷ more)) usize_max (omega (arith, few))) (all_strings (word ∷ more)))

-- what the parse asks, by the walk
abbrev pub asked : List Text → Walk → Bool
asked words w = entered_passes (built the_app) w.stopped && (walk_passes top [] (walk_from nothing_held) words
    && (settle_passes top.rules top.args_override_self w.held && (list_all default_passes top.rules
    && is_valid top (finished top.rules w.held) (is_some (entered (built the_app) w.stopped)))))

all_taken : (word : Text) (more : List Text) → list_all is_plain (word ∷ more) ≡ true → length (word ∷ more) < 2 ^ 64 → takes the_app (word ∷ more) ≡ true
all_taken word more e few = ap (asked (word ∷ more)) (all_walked word more e)
    ∙ both (walk_passes top [] (walk_from nothing_held) (word ∷ more)) _ (all_pass word more e)
    (both (settle_passes top.rules false (state false [] (word ∷ more)).held) _ (words_settle false [] word more few) refl)

all_matched : (word : Text) (more : List Text) → list_all is_plain (word ∷ more) ≡ true → matches_of the_app (word ∷ more) ≡ finished top.rules (state false [] (word ∷ more)).held
all_matched word more e = ap (λ (w : Walk). finished top.rules w.held) (all_walked word more e)

abbrev pub read_from : List Row → Options
read_from rows = record { script = script_in rows; threads = threads_in rows; order = order_in rows; quiet = quiet_in rows; line = joined (line_words_in rows) }

pub plain_words : PlainWordsAreTheLine
unfolding clap_on_literals
plain_words [] e few = (refl, refl, refl)
plain_words (word ∷ more) e few =
    let rows = all_matched word more e in
    (both (takes the_app (word ∷ more)) _ (all_taken word more e few) (ap values_hold rows), ap line_words_in rows, ap read_from rows)
