-- Options that are written out are read as they are.
use Rattle.std.proofs.Common.{◌≡◌, ◌∙◌, ◌++◌, ◌<◌, ◌^◌, Bool, true, false, List, [], ◌∷◌, length, Option, Some, None, refl, sym, ap, subst, append_assoc, append-nil}
use Rattle.std.specs.List.{fold}
use Rattle.clap.specs.ValueTests.{accepts}
use Rattle.clap.specs.Walk.{Row, Text, Walk, finished, idle, nothing_held, walk, walk_from, walked}
use Rattle.clap.specs.Simple.{matches_of}
use Rattle.clap.specs.Takes.{settle_passes, takes, walk_passes}
use Rattle.clap.proofs.OnLiterals.{clap_on_literals}
use Rattle.clap.specs.declared.builder.value_parser.ValueParser.{ValueParser}
use Rattle.clap.specs.declared.builder.value_parser.ValueParser.TheVariants.{Unsigned}
use Rattle.run_words.specs.Command.{the_app}
use Rattle.run_words.specs.Law.{WrittenWordsAreRead, written, written_options}
use Rattle.run_words.specs.Said.{is_bare, is_number, line_words_in, values_hold}
use Rattle.run_words.proofs.Plain.{asked, halves, read_from, state, top, words_settle}
use Rattle.gst_value.proofs.Basics.{and_both as both}

abbrev number : ValueParser
number = Unsigned 0 18446744073709551615

-- the rows of the options
abbrev rows_from : Option Text → Bool → Text → Bool → List Row
rows_from script threads digits quiet = (walk top.rules [] nothing_held (written script threads digits quiet [])).held.rows

-- behind `--`, where no word of the line has been read
abbrev start : List Row → Walk
start rows = record {
  held = record { rows = rows; pending = None; skip = 0 };
  waiting = idle;
  position = 1;
  is_trailing = true;
  stopped = None;
}

first_behind : (rows : List Row) (word : Text) → walked top.rules [] (start rows) word ≡ state true rows (word ∷ [])
unfolding walked
first_behind rows word = refl

next_behind : (rows : List Row) (words : List Text) (word : Text) → walked top.rules [] (state true rows words) word ≡ state true rows (words ++ word ∷ [])
unfolding walked
next_behind rows words word = refl

rest_behind : (rows : List Row) (words more : List Text) → fold (walked top.rules []) (state true rows words) more ≡ state true rows (words ++ more)
rest_behind rows words [] = ap (state true rows) (sym (append-nil words))
rest_behind rows words (word ∷ more) =
    ap (λ w. fold (walked top.rules []) w more) (next_behind rows words word)
    ∙ (rest_behind rows (words ++ word ∷ []) more ∙ ap (state true rows) (append_assoc words (word ∷ []) more))

rest_pass : (rows : List Row) (words more : List Text) → walk_passes top [] (state true rows words) more ≡ true
unfolding walk_passes
rest_pass rows words [] = refl
rest_pass rows words (word ∷ more) = subst (λ w. walk_passes top [] w more ≡ true) (sym (next_behind rows words word)) (rest_pass rows (words ++ word ∷ []) more)

start_passes : (rows : List Row) (line : List Text) → walk_passes top [] (start rows) line ≡ true
unfolding walk_passes
start_passes rows [] = refl
start_passes rows (word ∷ more) = subst (λ w. walk_passes top [] w more ≡ true) (sym (first_behind rows word)) (rest_pass rows (word ∷ []) more)

-- ---- the options

options_walked : (script : Option Text) (threads quiet : Bool) (digits : Text) (line : List Text)
    → walk top.rules [] nothing_held (written script threads digits quiet line) ≡ fold (walked top.rules []) (start (rows_from script threads digits quiet)) line
unfolding clap_on_literals
options_walked None true true digits line = refl
options_walked None true false digits line = refl
options_walked None false true digits line = refl
options_walked None false false digits line = refl
options_walked (Some location) true true digits line = refl
options_walked (Some location) true false digits line = refl
options_walked (Some location) false true digits line = refl
options_walked (Some location) false false digits line = refl

options_pass : (script : Option Text) (threads quiet : Bool) (digits : Text) (line : List Text) → accepts false number digits ≡ true
    → walk_passes top [] (walk_from nothing_held) (written script threads digits quiet line) ≡ walk_passes top [] (start (rows_from script threads digits quiet)) line
unfolding clap_on_literals
options_pass None true true digits line e = rw e refl
options_pass None true false digits line e = rw e refl
options_pass None false true digits line e = rw e refl
options_pass None false false digits line e = rw e refl
options_pass (Some location) true true digits line e = rw e refl
options_pass (Some location) true false digits line e = rw e refl
options_pass (Some location) false true digits line e = rw e refl
options_pass (Some location) false false digits line e = rw e refl

-- ---- the whole

line_walked : (rows : List Row) (word : Text) (more : List Text) → fold (walked top.rules []) (start rows) (word ∷ more) ≡ state true rows (word ∷ more)
line_walked rows word more = ap (λ w. fold (walked top.rules []) w more) (first_behind rows word) ∙ rest_behind rows (word ∷ []) more

written_taken : (script : Option Text) (threads quiet : Bool) (digits : Text) (line : List Text) → is_number digits ≡ true → length line < 2 ^ 64 → takes the_app (written script threads digits quiet line) ≡ true
written_taken script threads quiet digits [] e few =
    let rows = rows_from script threads digits quiet in
    let number_is = (halves (is_bare digits) (accepts false number digits) e).1 in
    ap (asked (written script threads digits quiet [])) (options_walked script threads quiet digits [])
    ∙ both (walk_passes top [] (walk_from nothing_held) (written script threads digits quiet [])) _ (options_pass script threads quiet digits [] number_is ∙ start_passes rows []) refl
written_taken script threads quiet digits (word ∷ more) e few =
    let rows = rows_from script threads digits quiet in
    let number_is = (halves (is_bare digits) (accepts false number digits) e).1 in
    ap (asked (written script threads digits quiet (word ∷ more))) (options_walked script threads quiet digits (word ∷ more) ∙ line_walked rows word more)
    ∙ both (walk_passes top [] (walk_from nothing_held) (written script threads digits quiet (word ∷ more))) _ (options_pass script threads quiet digits (word ∷ more) number_is ∙ start_passes rows (word ∷ more))
    (both (settle_passes top.rules false (state true rows (word ∷ more)).held) _ (words_settle true rows word more few) refl)

-- the rows behind the last word
rows_behind : List Row → List Text → List Row
rows_behind rows [] = finished top.rules (start rows).held
rows_behind rows (word ∷ more) = finished top.rules (state true rows (word ∷ more)).held

written_matched : (script : Option Text) (threads quiet : Bool) (digits : Text) (line : List Text) → matches_of the_app (written script threads digits quiet line) ≡ rows_behind (rows_from script threads digits quiet) line
unfolding rows_behind
written_matched script threads quiet digits [] = ap (λ (w : Walk). finished top.rules w.held) (options_walked script threads quiet digits [])
written_matched script threads quiet digits (word ∷ more) =
    ap (λ (w : Walk). finished top.rules w.held) (options_walked script threads quiet digits (word ∷ more) ∙ line_walked (rows_from script threads digits quiet) word more)

rows_say : (script : Option Text) (threads quiet : Bool) (digits : Text) (line : List Text) → is_number digits ≡ true
    → (values_hold (rows_behind (rows_from script threads digits quiet) line) ≡ true) × (line_words_in (rows_behind (rows_from script threads digits quiet) line) ≡ line)
    × (read_from (rows_behind (rows_from script threads digits quiet) line) ≡ written_options script threads digits quiet line)
unfolding clap_on_literals rows_behind
rows_say None true true digits [] e = (e, refl, refl)
rows_say None true false digits [] e = (e, refl, refl)
rows_say None false true digits [] e = (e, refl, refl)
rows_say None false false digits [] e = (e, refl, refl)
rows_say None true true digits (word ∷ more) e = (e, refl, refl)
rows_say None true false digits (word ∷ more) e = (e, refl, refl)
rows_say None false true digits (word ∷ more) e = (e, refl, refl)
rows_say None false false digits (word ∷ more) e = (e, refl, refl)
rows_say (Some location) true true digits [] e = (e, refl, refl)
rows_say (Some location) true false digits [] e = (e, refl, refl)
rows_say (Some location) false true digits [] e = (e, refl, refl)
rows_say (Some location) false false digits [] e = (e, refl, refl)
rows_say (Some location) true true digits (word ∷ more) e = (e, refl, refl)
rows_say (Some location) true false digits (word ∷ more) e = (e, refl, refl)
rows_say (Some location) false true digits (word ∷ more) e = (e, refl, refl)
rows_say (Some location) false false digits (word ∷ more) e = (e, refl, refl)

pub written_words : WrittenWordsAreRead
written_words script threads quiet digits line e few =
    let words = written script threads digits quiet line in
    let rows = written_matched script threads quiet digits line in
    let say = rows_say script threads quiet digits line e in
    (both (takes the_app words) _ (written_taken script threads quiet digits line e few) (ap values_hold rows ∙ say.0), ap line_words_in rows ∙ say.1, ap read_from rows ∙ say.2)
