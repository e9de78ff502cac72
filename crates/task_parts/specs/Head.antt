-- What a source that is asked for its next item does.
use Rattle.std.specs.Prelude.{◌≡◌, ◌≤◌, ◌<◌, ◌+◌, true, List, [], ◌∷◌, ◌++◌}
use Rattle.flow_model.specs.Item.{Item, is_flush_stop}
use Rattle.flow_model.specs.declared.source.TaskSource as sources
use Rattle.task_pads.specs.Pads.{waiting_of}
use Rattle.task_parts.specs.declared.head.SourceHead.{SourceHead}
use Rattle.task_parts.specs.declared.head.Given.{Given}
use Rattle.task_parts.specs.declared.head.Given.TheVariants as given

module _ {S O : Type 0} {s : sources.Ghosts S} where
  -- it gave one item more
  abbrev pub GaveMore : SourceHead S O s → SourceHead S O s → Item → Type 0
  GaveMore old new x = (owed given : List Item) → s.gave old.source owed given → s.gave new.source owed (given ++ x ∷ [])

  -- its pad may be another; the source and its number are the same
  pub record IsSameSource (old new : SourceHead S O s) : Type 0 where
    pub number : new.number ≡ old.number
    pub source : new.source ≡ old.source
    pub given : new.given ≡ old.given

  -- it gave nothing, and nothing changed
  pub record SourceKept (old new : SourceHead S O s) : Type 0 where
    pub gave : (owed given : List Item) → s.gave old.source owed given → s.gave new.source owed given
    pub waiting : waiting_of new.pad ≡ waiting_of old.pad
    pub given : new.given ≡ old.given

  -- it gave an item, which waits at its pad
  pub record SourceGaveItem (old new : SourceHead S O s) : Type 0 where
    pub item : Item
    pub gave : GaveMore old new item
    pub waiting : waiting_of new.pad ≡ waiting_of old.pad ++ item ∷ []
    pub given : new.given ≡ old.given + 1
    pub few : old.given ≤ 1099511627776

  -- it gave a FLUSH_STOP
  pub record SourceGaveFlush (old new : SourceHead S O s) : Type 0 where
    pub item : Item
    pub flush : is_flush_stop item ≡ true
    pub gave : GaveMore old new item
    pub waiting : waiting_of new.pad ≡ waiting_of old.pad
    pub given : new.given ≡ old.given + 1
    pub few : old.given ≤ 1099511627776

  abbrev pub SourceGives : SourceHead S O s → SourceHead S O s → Given → Type 0
  SourceGives old new given.Item = SourceGaveItem old new
  SourceGives old new given.FlushStop = SourceGaveFlush old new
  SourceGives old new given.Ended = SourceKept old new × ((owed all : List Item) → s.gave old.source owed all → owed ≡ all)
  SourceGives old new given.AtLimit = SourceKept old new × (1099511627776 < old.given)
