-- What an element puts out for an item that it took.
use Rattle.std.specs.Prelude.{◌≡◌, ◌<◌, ◌==◌, ℕ, false, if◌then◌else◌, List, [], ◌∷◌, ◌++◌, length}
use Rattle.gst_item.specs.declared.out.Out.{Out}
use Rattle.flow_model.specs.Item.{Item, is_flush_stop}
use Rattle.flow_model.specs.Call.{Call, Feed}
use Rattle.flow_model.specs.Rule.{Rule}
use Rattle.flow_model.specs.Moment.{Behavior}
use Rattle.flow_model.specs.Pad.{Grows}
use Rattle.flow_model.specs.SinkPads.{push_calls, InSection}

-- what is to cross the source pad of a number
abbrev pub on_port : ℕ → List Out → List Item
on_port port [] = []
on_port port (o ∷ os) = if o.pad == port then o.item ∷ on_port port os else on_port port os

-- each of them is for a source pad that is there, and none is FLUSH_STOP
abbrev pub AreWithin : ℕ → List Out → Type 0
AreWithin ports [] = Unit {0}
AreWithin ports (o ∷ os) = (o.pad < ports) × (is_flush_stop o.item ≡ false) × AreWithin ports os

-- what is put out on each source pad is what is owed more, in the section that is open
abbrev pub OwesMore : ℕ → Rule → List (List Call) → List (List Call) → List Out → Type 0
OwesMore ports rule took took' more =
    (cuts : List (ℕ × ℕ)) → InSection (length cuts) took → (port : ℕ) → port < ports → Grows 0 cuts (rule took port) (rule took' port) (on_port port more)

-- An item was taken on a sink pad, and this was put out for it.
pub record Takes (stood stands : Behavior → List (List Call) → Type 0) (ports pad : ℕ) (item : Item) (out out' : List Out) : Type 0 where
  pub more : List Out
  pub appended : out' ≡ out ++ more
  pub within : AreWithin ports more
  pub stands_now : (behavior : Behavior) (took : List (List Call)) → stood behavior took → stands behavior (push_calls pad (Feed item ∷ []) took)
  pub owes : (behavior : Behavior) (took : List (List Call)) → stood behavior took
      → OwesMore ports behavior.owes took (push_calls pad (Feed item ∷ []) took) more
