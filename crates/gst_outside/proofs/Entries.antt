-- The table of files in memory: what puts and changes of entries do to the file at a location.
use Rattle.std.proofs.Common.{◌≡◌, ℕ, ◌<◌, ltb, Bool, true, false, cond, if◌then◌else◌, List, [], ◌∷◌, ◌++◌, length, get_or, set, refl, ap, sym, ◌∙◌, subst, arith, Option, Some, None, unwrap_or, is_some, bytes_eq, IsTrue, ◌≤◌, slice_get}
use Rattle.std.specs.List.{find, position, position_or_len}
use Rattle.std.specs.Option.{option_or}
use Rattle.std.proofs.lemmas.List.{get_or_push}
use Rattle.std.proofs.lemmas.List.Folds.{find_at, find-set, find_past, find-append}
use Rattle.std.proofs.lemmas.List.Sums.{passes_at_first}
use Rattle.std.proofs.lemmas.Option.{slice_get-get_or, slice_get_past}
use Rattle.std.proofs.lemmas.Slice.Eq.{bytes_eq-Decides}
use Rattle.std.proofs.lemmas.Bool.{ltb-true, ltb-false}
use Rattle.gst_outside.specs.declared.mem_file.MemFile.{MemFile}
use Rattle.gst_outside.specs.Table.{Changes, is_of, new_file, file_at, has_file}

from_test : (b : Bool) (k i : ℕ) → cond b (Some k) None ≡ Some i → (b ≡ true) × (k ≡ i)
from_test true k i e = (refl, cc)
from_test false k i e = absurd cc

-- where an index is found
first_index : {X : Type 0} (p : X → Bool) (xs : List X) (i : ℕ) → position p xs ≡ Some i → (i ≡ position_or_len p xs) × (i < length xs)
first_index p xs i e =
    let t = from_test (ltb (position_or_len p xs) (length xs)) (position_or_len p xs) i e in
    let below : position_or_len p xs < length xs = ltb-true _ _ t.0 in
    (sym t.1, omega arith)

from_no_test : (b : Bool) (k : ℕ) → cond b (Some k) None ≡ None → b ≡ false
from_no_test true k e = absurd cc
from_no_test false k e = refl

-- where no index is found, nothing is
not_found : {X : Type 0} (p : X → Bool) (xs : List X) → position p xs ≡ None → find p xs ≡ None
not_found p xs e =
    let past : length xs ≤ position_or_len p xs = ltb-false _ _ (from_no_test (ltb (position_or_len p xs) (length xs)) (position_or_len p xs) e) in
    find_at p xs ∙ slice_get_past xs (position_or_len p xs) past

-- a file that has an entry is found
pub absent : (files : List MemFile) (location : List ℕ) → position (is_of location) files ≡ None → IsTrue (has_file files location) → ⊥
absent files location none there = let e = not_found (is_of location) files none in let f : is_some (find (is_of location) files) ≡ false = ap is_some e in cc

-- the entry that is found is the first
found_first : (files : List MemFile) (location : List ℕ) (i : ℕ) (d : MemFile) → position (is_of location) files ≡ Some i → find (is_of location) files ≡ Some (get_or files i d)
found_first files location i d e =
    let f = first_index (is_of location) files i e in
    find_at (is_of location) files ∙ ap (λ k. slice_get files k) (sym f.0) ∙ slice_get-get_or files i d f.1

-- the location of the entry that is found
found_location : (files : List MemFile) (location : List ℕ) (i : ℕ) (d : MemFile) → position (is_of location) files ≡ Some i → (get_or files i d).location ≡ location
found_location files location i d e =
    let f = first_index (is_of location) files i e in
    let below : position_or_len (is_of location) files < length files = omega arith in
    let passes : is_of location (get_or files i d) ≡ true = ap (λ k. is_of location (get_or files k d)) f.0 ∙ passes_at_first (is_of location) files d below in
    (bytes_eq-Decides (get_or files i d).location location).0 passes

-- the entry that is found is the file
pub found_file : (files : List MemFile) (location : List ℕ) (i : ℕ) (d : MemFile) → position (is_of location) files ≡ Some i → get_or files i d ≡ file_at files location
found_file files location i d e = sym (ap (λ o. unwrap_or o (new_file location)) (found_first files location i d e))

pub found_there : (files : List MemFile) (location : List ℕ) (i : ℕ) (d : MemFile) → position (is_of location) files ≡ Some i → IsTrue (has_file files location)
found_there files location i d e = ap is_some (found_first files location i d e)

changed_case : (files : List MemFile) (location : List ℕ) (i : ℕ) (new : MemFile) → position (is_of location) files ≡ Some i → new.location ≡ location → (l : List ℕ) (b : Bool) → bytes_eq location l ≡ b → find (is_of l) (set files i new) ≡ (if b then Some new else find (is_of l) files)
changed_case files location i new e same l true h =
    let f = first_index (is_of location) files i e in
    let there : location ≡ l = (bytes_eq-Decides location l).0 h in
    let first : i ≡ position_or_len (is_of l) files = subst (λ m. i ≡ position_or_len (is_of m) files) there f.0 in
    find-set (is_of l) files i new first f.1 ((bytes_eq-Decides new.location l).1 (same ∙ there))
changed_case files location i new e same l false h =
    find_past (is_of l) files i new new (ap (λ m. bytes_eq m l) (found_location files location i new e) ∙ h) (ap (λ m. bytes_eq m l) same ∙ h)

-- the index that a look through the same entries gave
pub same_found : (seen files : List MemFile) (location : List ℕ) (i : ℕ) → position (is_of location) seen ≡ Some i → seen ≡ files → position (is_of location) files ≡ Some i
same_found seen files location i e same = ap (position (is_of location)) (sym same) ∙ e

-- a change of the entry that is found
found_changed : (files : List MemFile) (location : List ℕ) (i : ℕ) (new : MemFile) → position (is_of location) files ≡ Some i → new.location ≡ location → (l : List ℕ) → find (is_of l) (set files i new) ≡ (if bytes_eq location l then Some new else find (is_of l) files)
found_changed files location i new e same l = changed_case files location i new e same l (bytes_eq location l) refl

-- at the file's location, and at each other one
file_case : (b : Bool) (l m : List ℕ) (files : List MemFile) (f : MemFile → MemFile) (new : MemFile) → (b ≡ true → new ≡ f (file_at files l)) → unwrap_or (if b then Some new else find (is_of l) files) (new_file l) ≡ (if b then f (file_at files l) else file_at files l)
file_case true l m files f new h = h refl
file_case false l m files f new h = refl

-- a change of the entry that is found changes the file there, and no other
changed_file : (f : MemFile → MemFile) → ((x : MemFile) → (f x).location ≡ x.location) → (files : List MemFile) (location : List ℕ) (i : ℕ) (old new : MemFile) → position (is_of location) files ≡ Some i → old ≡ get_or files i old → new ≡ f old → (l : List ℕ) → file_at (set files i new) l ≡ (if bytes_eq location l then f (file_at files l) else file_at files l)
changed_file f keeps files location i old new e read is l =
    let there : old.location ≡ location = ap (λ x. x.location) read ∙ found_location files location i old e in
    let same : new.location ≡ location = ap (λ x. x.location) is ∙ keeps old ∙ there in
    let now : old ≡ file_at files location = read ∙ found_file files location i old e in
    let here : bytes_eq location l ≡ true → new ≡ f (file_at files l) = λ h. is ∙ ap f (now ∙ ap (file_at files) ((bytes_eq-Decides location l).0 h)) in
    ap (λ o. unwrap_or o (new_file l)) (found_changed files location i new e same l) ∙ file_case (bytes_eq location l) l l files f new here

there_case : (b : Bool) (new : MemFile) (o : Option MemFile) → is_some o ≡ true → is_some (if b then Some new else o) ≡ true
there_case true new o h = refl
there_case false new o h = h

-- and no entry goes
changed_there : (f : MemFile → MemFile) → ((x : MemFile) → (f x).location ≡ x.location) → (files : List MemFile) (location : List ℕ) (i : ℕ) (old new : MemFile) → position (is_of location) files ≡ Some i → old ≡ get_or files i old → new ≡ f old → (l : List ℕ) → IsTrue (has_file files l) → IsTrue (has_file (set files i new) l)
changed_there f keeps files location i old new e read is l h =
    let there : old.location ≡ location = ap (λ x. x.location) read ∙ found_location files location i old e in
    let same : new.location ≡ location = ap (λ x. x.location) is ∙ keeps old ∙ there in
    ap is_some (found_changed files location i new e same l) ∙ there_case (bytes_eq location l) new (find (is_of l) files) h

-- both, for the entry that a look through the same entries found
pub changed : (f : MemFile → MemFile) → ((x : MemFile) → (f x).location ≡ x.location) → (looked files : List MemFile) (location : List ℕ) (i : ℕ) (old new : MemFile) → position (is_of location) looked ≡ Some i → looked ≡ files → old ≡ get_or files i old → new ≡ f old
    → Changes f location files (set files i new)
changed f keeps looked files location i old new found same read is =
    let e = same_found looked files location i found same in
    record {
      file = changed_file f keeps files location i old new e read is;
      kept = changed_there f keeps files location i old new e read is;
    }

pushed_case : (l location : List ℕ) (o : Option MemFile) (b : Bool) → bytes_eq location l ≡ b → unwrap_or (option_or o (cond b (Some (new_file location)) None)) (new_file l) ≡ unwrap_or o (new_file l)
pushed_case l location (Some x) b h = refl
pushed_case l location None true h = ap new_file ((bytes_eq-Decides location l).0 h)
pushed_case l location None false h = refl

-- an entry of a file of which nothing was said changes no file
pub pushed_file : (files : List MemFile) (location l : List ℕ) → file_at (files ++ new_file location ∷ []) l ≡ file_at files l
pushed_file files location l =
    ap (λ o. unwrap_or o (new_file l)) (find-append (is_of l) files (new_file location ∷ []))
    ∙ pushed_case l location (find (is_of l) files) (bytes_eq location l) refl

some_or : (o q : Option MemFile) → is_some o ≡ true → is_some (option_or o q) ≡ true
some_or (Some x) q h = refl
some_or None q h = absurd cc

pub pushed_there : (files : List MemFile) (new : MemFile) (l : List ℕ) → IsTrue (has_file files l) → IsTrue (has_file (files ++ new ∷ []) l)
pushed_there files new l h = ap is_some (find-append (is_of l) files (new ∷ [])) ∙ some_or (find (is_of l) files) (find (is_of l) (new ∷ [])) h

last_some : (o : Option MemFile) (x : MemFile) (b : Bool) → b ≡ true → is_some (option_or o (cond b (Some x) None)) ≡ true
last_some (Some y) x b h = refl
last_some None x true h = refl
last_some None x false h = absurd cc

pub pushed_self : (files : List MemFile) (location : List ℕ) → IsTrue (has_file (files ++ new_file location ∷ []) location)
pushed_self files location =
    ap is_some (find-append (is_of location) files (new_file location ∷ []))
    ∙ last_some (find (is_of location) files) (new_file location) (bytes_eq location location) ((bytes_eq-Decides location location).1 refl)

-- the entry that was put last, where there was none
pub pushed_found : (files : List MemFile) (location : List ℕ) (n : ℕ) (d : MemFile) → position (is_of location) files ≡ None → n ≡ length files → get_or (files ++ new_file location ∷ []) n d ≡ file_at (files ++ new_file location ∷ []) location
pushed_found files location n d none last =
    get_or_push files (new_file location) d n (sym last)
    ∙ sym (pushed_file files location location ∙ ap (λ o. unwrap_or o (new_file location)) (not_found (is_of location) files none))

-- what an index in the entries that were looked through says of the same entries
pub same_none : (seen files : List MemFile) (location : List ℕ) → position (is_of location) seen ≡ None → seen ≡ files → position (is_of location) files ≡ None
same_none seen files location e same = ap (position (is_of location)) (sym same) ∙ e

location_case : (x : MemFile) (o : Option MemFile) (l : List ℕ) (b : Bool) → bytes_eq x.location l ≡ b → (unwrap_or o (new_file l)).location ≡ l → (unwrap_or (cond b (Some x) o) (new_file l)).location ≡ l
location_case x o l true h rest = (bytes_eq-Decides x.location l).0 h
location_case x o l false h rest = rest

-- the file at a location has that location
pub file_location : (files : List MemFile) (l : List ℕ) → (file_at files l).location ≡ l
file_location [] l = refl
file_location (x ∷ xs) l = location_case x (find (is_of l) xs) l (bytes_eq x.location l) refl (file_location xs l)
