-- An element with several sink pads that is given the turns of a section.
use Rattle.std.specs.Prelude.{◌≡◌, ℕ, Bool, false, List, [], ◌++◌, None}
use Rattle.gst_item.specs.declared.out.Out.{Out}
use Rattle.flow_model.specs.Item.{Item}
use Rattle.flow_model.specs.Call.{Call}
use Rattle.flow_model.specs.Feeding.{on_pad}
use Rattle.flow_model.specs.SinkPads.{InSection}
use Rattle.el_join.specs.Joins.{Joins}
use Rattle.el_mix.specs.declared.mix.Mix.{Mix as MixElement}
use Rattle.el_mix.specs.Relation.{Mixes}
use Rattle.el_settings.specs.declared.settings.Settings.{Settings}
use Rattle.el_settings.specs.Asked.{sink_pads}
use Rattle.el_set.specs.declared.join.JoinElement.{JoinElement}
use Rattle.el_set.specs.declared.join.JoinElement.TheVariants.{Concat, Mix}
use Rattle.el_set.specs.Denoted.{rule_of, answers_of}
use Rattle.el_set.specs.Joins.{JoinStands, join_rule, join_answers, join_pads}
use Rattle.el_denote.specs.Joined.{first_fault_in, nothing_given}
use Rattle.el_denote.specs.Near.{Mark, NearEach, gaps_of}
use Rattle.el_denote.specs.Turns.{Turn, all_turned, turns_before, turns_to, woven}

-- its sink pads were given some calls
abbrev pub IsFed : JoinElement → Type 0
IsFed join = (took : List (List Call)) × (put : List Item) × JoinStands join took put

-- The pads were given these calls in truth. A concat is fed just these.
pub record MixStood (mix : MixElement) (j : ℕ) (marks : List Mark) (begun : Bool) (given : List (List Call)) (put : List Item) : Type 0 where
  pub took : List (List Call)
  pub mixes : Mixes mix took put
  pub near : NearEach j marks begun took given

abbrev pub Stood : JoinElement → ℕ → List Mark → Bool → List (List Call) → List Item → Type 0
Stood (Concat concat) j marks begun given put = Joins concat given put × InSection j given × (gaps_of marks ≡ None)
Stood (Mix mix) j marks begun given put = MixStood mix j marks begun given put

-- In section j behind these turns, of which none was refused.
pub record Runs (settings : Settings) (j : ℕ) (gaps : Mark) (join : JoinElement) (marks : List Mark) (begun : Bool) (turns : List Turn) (out : List Out) : Type 0 where
  pub put : List Item
  pub stands : Stood join j marks begun (all_turned (nothing_given settings) turns) put
  pub outs : out ≡ on_pad 0 put
  pub whole : first_fault_in settings turns ≡ None
  pub rule : join_rule join ≡ rule_of settings
  pub answers : join_answers join ≡ answers_of settings
  pub pads : join_pads join ≡ sink_pads settings
  pub found : gaps_of marks ≡ gaps

-- what the rule owes for what the pads were given up to the end of section j
abbrev pub owed_given : Settings → List (List Item) → ℕ → List Item
owed_given settings inputs j = rule_of settings (all_turned (nothing_given settings) (turns_to j inputs)) 0 j

-- at the beginning of a section, and at its end
pub record AtSection (settings : Settings) (inputs : List (List Item)) (j : ℕ) (join : JoinElement) (out : List Item) : Type 0 where
  pub runs : Runs settings j None join [] false (turns_before j inputs) []
  pub outs : out ≡ woven (owed_given settings inputs) inputs j

pub record SectionDone (settings : Settings) (inputs : List (List Item)) (j : ℕ) (join : JoinElement) (out : List Item) : Type 0 where
  pub gaps : Mark
  pub marks : List Mark
  pub put : List Out
  pub runs : Runs settings j gaps join marks false (turns_to j inputs) put
  pub outs : out ≡ woven (owed_given settings inputs) inputs j ++ owed_given settings inputs j
