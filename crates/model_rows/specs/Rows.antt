-- Worked rows of the definitions, each a case and what is to come of it.
use Rattle.std.specs.Prelude.{◌≡◌, ℕ, true, false, List, [], ◌∷◌, length, codes, None, Some}
use Rattle.flow_model.specs.Item.{Item, Buf, Ev, StreamStart, NewCaps, NewSegment, FlushStop, Eos, buffers}
use Rattle.flow_model.specs.Call.{feeds}
use Rattle.flow_model.specs.Section.{section, counted}
use Rattle.flow_model.specs.Sticky.{stickies}
use Rattle.flow_model.specs.Rule.{owed_for, passes}
use Rattle.flow_model.specs.Eval.{eval, eval_whole}
use Rattle.model_rows.specs.Chain.{chain}
use Rattle.flow_model.specs.Source.{bytes_segment, file_section, file_list}
use Rattle.flow_model.specs.SinkBytes.{sink_bytes}

-- a block at a place
abbrev pub block : ℕ → List ℕ → Item
block place bytes = Buf (record { body = bytes; pts = None; duration = None; offset = Some place; discont = false })

abbrev pub start : Item
start = Ev (StreamStart 0)

abbrev pub segment_at : ℕ → Item
segment_at place = Ev (NewSegment (bytes_segment place))

-- CAPS of a media type without fields
abbrev pub caps_of : List ℕ → Item
caps_of media = Ev (NewCaps (record { media = media; fields = [] }))

abbrev pub flush : Item
flush = Ev (FlushStop 1)

abbrev pub eos : Item
eos = Ev Eos

-- the list of a source of `abcde` in blocks of two bytes
abbrev pub abcde : List Item
abcde = start ∷ segment_at 0 ∷ block 0 (codes "ab") ∷ block 2 (codes "cd") ∷ block 4 (codes "e") ∷ eos ∷ []

-- the list of a source of `abcdef` in blocks of two bytes
abbrev pub abcdef : List Item
abcdef = start ∷ segment_at 0 ∷ block 0 (codes "ab") ∷ block 2 (codes "cd") ∷ block 4 (codes "ef") ∷ eos ∷ []

pub record SourceRows : Type 0 where
  pub twos : file_list 0 2 (codes "abcde") ≡ abcde
  pub whole_blocks : file_list 0 2 (codes "abcd") ≡ start ∷ segment_at 0 ∷ block 0 (codes "ab") ∷ block 2 (codes "cd") ∷ eos ∷ []
  pub one_block : file_list 0 8 (codes "abcde") ≡ start ∷ segment_at 0 ∷ block 0 (codes "abcde") ∷ eos ∷ []
  pub empty : file_list 0 2 [] ≡ start ∷ segment_at 0 ∷ eos ∷ []
  pub behind : file_section 2 3 (codes "abcde") ≡ segment_at 3 ∷ block 3 (codes "de") ∷ eos ∷ []
  pub even : file_list 0 2 (codes "abcdef") ≡ abcdef
  pub items : length abcde ≡ 6
  pub empty_items : length (file_list 0 2 []) ≡ 3
  pub empty_buffers : buffers (file_list 0 2 []) ≡ 0
  pub buffers : buffers abcde ≡ 3

pub record SinkRows : Type 0 where
  pub all : sink_bytes false abcde ≡ codes "abcde"
  pub hole : sink_bytes false (segment_at 2 ∷ block 2 (codes "ab") ∷ []) ≡ 0 ∷ 0 ∷ codes "ab"
  pub over : sink_bytes false (block 0 (codes "abcd") ∷ segment_at 1 ∷ block 1 (codes "x") ∷ []) ≡ codes "axcd"
  pub past_eos : sink_bytes false (block 0 (codes "ab") ∷ eos ∷ block 2 (codes "cd") ∷ []) ≡ codes "ab"
  pub emptied : sink_bytes false (block 0 (codes "ab") ∷ eos ∷ flush ∷ block 2 (codes "cd") ∷ []) ≡ codes "cd"
  pub kept : sink_bytes true (block 0 (codes "ab") ∷ eos ∷ flush ∷ block 2 (codes "cd") ∷ []) ≡ codes "abcd"
  pub no_body : sink_bytes false (segment_at 2 ∷ block 2 [] ∷ []) ≡ []

pub record SectionRows : Type 0 where
  pub first : section 0 (start ∷ eos ∷ flush ∷ segment_at 2 ∷ []) ≡ start ∷ eos ∷ []
  pub second : section 1 (start ∷ eos ∷ flush ∷ segment_at 2 ∷ []) ≡ segment_at 2 ∷ []
  pub third : section 2 (start ∷ eos ∷ flush ∷ segment_at 2 ∷ []) ≡ []
  pub counted : counted (eos ∷ start ∷ flush ∷ segment_at 2 ∷ eos ∷ start ∷ []) ≡ eos ∷ flush ∷ segment_at 2 ∷ eos ∷ []

pub record StickyRows : Type 0 where
  pub whole : stickies abcde ≡ start ∷ segment_at 0 ∷ eos ∷ []
  pub last : stickies (start ∷ segment_at 0 ∷ segment_at 2 ∷ []) ≡ start ∷ segment_at 2 ∷ []
  pub flushed : stickies (start ∷ segment_at 0 ∷ eos ∷ flush ∷ []) ≡ start ∷ []
  pub renewed : stickies (start ∷ segment_at 0 ∷ eos ∷ flush ∷ segment_at 2 ∷ []) ≡ start ∷ segment_at 2 ∷ []
  pub caps : stickies (start ∷ segment_at 0 ∷ caps_of (codes "a") ∷ caps_of (codes "b") ∷ []) ≡ start ∷ caps_of (codes "b") ∷ segment_at 0 ∷ []
  pub caps_flushed : stickies (start ∷ caps_of (codes "a") ∷ segment_at 0 ∷ flush ∷ []) ≡ start ∷ caps_of (codes "a") ∷ []
  pub nothing : stickies [] ≡ []

pub record RuleRows : Type 0 where
  pub all : owed_for passes (feeds abcde) ≡ abcde
  pub past_eos : owed_for passes (feeds (eos ∷ start ∷ [])) ≡ eos ∷ []
  pub again : owed_for passes (feeds (eos ∷ start ∷ flush ∷ segment_at 2 ∷ [])) ≡ eos ∷ flush ∷ segment_at 2 ∷ []

pub record ChainRows : Type 0 where
  pub source : eval_whole (chain 1 abcde (6 ∷ 6 ∷ [])) 0 ≡ abcde
  pub passed : eval_whole (chain 1 abcde (6 ∷ 6 ∷ [])) 1 ≡ abcde
  pub cut : eval (chain 1 abcde (3 ∷ 2 ∷ [])) 0 ≡ start ∷ segment_at 0 ∷ block 0 (codes "ab") ∷ []
  pub cut_behind : eval (chain 1 abcde (3 ∷ 2 ∷ [])) 1 ≡ start ∷ segment_at 0 ∷ []
  pub unread : sink_bytes false (eval (chain 1 abcdef (4 ∷ 4 ∷ [])) 1) ≡ codes "abcd"
  pub unread_buffers : buffers (eval (chain 1 abcdef (4 ∷ 4 ∷ [])) 0) ≡ 2
