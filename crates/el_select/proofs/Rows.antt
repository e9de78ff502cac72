-- Worked rows of the rule, computed: sink pad 0 is given the file `abc`, and sink pad 1 the file `xyzuv`, in blocks of a byte.
use Rattle.std.proofs.Common.{◌≡◌, ℕ, List, [], ◌∷◌, codes, refl}
use Rattle.flow_model.specs.Item.{Item, Ev, StreamStart, NewSegment, Eos}
use Rattle.flow_model.specs.Call.{Call, feeds}
use Rattle.flow_model.specs.Sticky.{stickies}
use Rattle.flow_model.specs.Looking.{bytes_of}
use Rattle.flow_model.specs.Source.{block_at, bytes_segment, file_list}
use Rattle.el_select.specs.Selections.{Selection, select_rule}

abbrev two_files : List (List Call)
two_files = feeds (file_list 0 1 (codes "abc")) ∷ feeds (file_list 1 1 (codes "xyzuv")) ∷ []

abbrev goes_out : List Selection → List Item
goes_out selections = select_rule selections two_files 0 0

abbrev second_at : List ℕ → List Selection
second_at places = record { pad = 1; places = places } ∷ []

-- without a selection the first file goes out
no_selection : goes_out [] ≡ file_list 0 1 (codes "abc")
unfolding stickies
no_selection = refl

-- a selection of pad 1 before anything came, and behind two items of pad 0 and five of pad 1
at_first : bytes_of (goes_out (second_at (0 ∷ 0 ∷ []))) ≡ codes "xyzuv"
unfolding stickies
at_first = refl

later : goes_out (second_at (2 ∷ 5 ∷ []))
    ≡ Ev (StreamStart 0) ∷ Ev (NewSegment (bytes_segment 0)) ∷ Ev (StreamStart 1) ∷ Ev (NewSegment (bytes_segment 0))
    ∷ block_at 1 0 (codes "xyzuv") 3 ∷ block_at 1 0 (codes "xyzuv") 4 ∷ Ev Eos ∷ []
unfolding stickies
later = refl

later_bytes : bytes_of (goes_out (second_at (2 ∷ 5 ∷ []))) ≡ codes "uv"
unfolding stickies
later_bytes = refl
