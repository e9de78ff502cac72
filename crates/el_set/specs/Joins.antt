-- For which lists an element with several sink pads stands, and what it owes and answers by its rule.
use Rattle.std.specs.Prelude.{◌≡◌, ◌<◌, ℕ, Bool, true, false, List, [], ◌∷◌, ◌++◌, length, Option, Ok}
use Rattle.gst_item.specs.declared.out.Out.{Out}
use Rattle.flow_model.specs.Item.{Item}
use Rattle.flow_model.specs.Sticky.{has_flush_stop}
use Rattle.flow_model.specs.Call.{Call, Feed}
use Rattle.flow_model.specs.Rule.{Rule, Answers}
use Rattle.flow_model.specs.Feeding.{has_eos, on_pad}
use Rattle.flow_model.specs.SinkPads.{calls_at, push_calls}
use Rattle.el_join.specs.Concats.{concat_rule, concat_answers}
use Rattle.el_join.specs.Joins.{Joins, sink_pads as concat_pads, wanted as concat_wanted}
use Rattle.el_mix.specs.Answer.{mix_answer}
use Rattle.el_mix.specs.Mixes.{mixes}
use Rattle.el_mix.specs.Relation.{Mixes, sink_pads as mix_pads, wanted as mix_wanted, lower_known}
use Rattle.el_set.specs.declared.join.JoinElement.{JoinElement}
use Rattle.el_set.specs.declared.join.JoinElement.TheVariants.{Concat, Mix}

abbrev pub join_rule : JoinElement → Rule
join_rule (Concat concat) = concat_rule
join_rule (Mix mix) = mixes

abbrev pub join_answers : JoinElement → Answers
join_answers (Concat concat) = concat_answers
join_answers (Mix mix) = mix_answer

-- how many sink pads there are, and the one from which it wants its next item
abbrev pub join_pads : JoinElement → ℕ
join_pads (Concat concat) = concat_pads concat
join_pads (Mix mix) = mix_pads mix

abbrev pub join_wanted : JoinElement → Option ℕ
join_wanted (Concat concat) = concat_wanted concat
join_wanted (Mix mix) = mix_wanted mix

-- Whether it may take an item on a sink pad: a concat always, and an interleave where each lower pad has CAPS or had EOS.
abbrev pub may_take : ℕ → JoinElement → Bool
may_take pad (Concat concat) = true
may_take pad (Mix mix) = lower_known pad mix

-- Its sink pads were given these calls, of which none was refused, and in the section that is open it put out these items.
abbrev pub JoinStands : JoinElement → List (List Call) → List Item → Type 0
JoinStands (Concat concat) took put = Joins concat took put
JoinStands (Mix mix) took put = Mixes mix took put

-- It put out these items for an item on a sink pad. They are what its rule owes more, and its rule and its pads stay.
pub record JoinPuts (old new : JoinElement) (pad : ℕ) (item : Item) (out out' : List Out) : Type 0 where
  pub more : List Item
  pub outs : out' ≡ out ++ on_pad 0 more
  pub free : has_flush_stop more ≡ false
  pub owed : (took : List (List Call)) (put : List Item) → JoinStands old took put → join_answers old took pad item ≡ Ok more
  pub stands : (took : List (List Call)) (put : List Item) → JoinStands old took put → JoinStands new (push_calls pad (Feed item ∷ []) took) (put ++ more)
  pub rule : join_rule new ≡ join_rule old
  pub answers : join_answers new ≡ join_answers old
  pub pads : join_pads new ≡ join_pads old

-- EOS came on each sink pad since its last FLUSH_STOP
abbrev pub EachEnded : List (List Call) → Type 0
EachEnded took = (pad : ℕ) → pad < length took → has_eos (calls_at pad took) ≡ true

-- The sections that are over are owed as before, and in the open one, of number n, so much more.
pub record OpenGrows (rule : Rule) (took took' : List (List Call)) (n : ℕ) (more : List Item) : Type 0 where
  pub over : (port j : ℕ) → j < n → rule took' port j ≡ rule took port j
  pub now : (port : ℕ) → rule took' port n ≡ rule took port n ++ more
