-- The laws of what is owed.
use Rattle.std.proofs.Common.{◌≡◌, List, [], ◌∷◌, ◌++◌, map, length, drop, refl, ap, ◌∙◌, arith, Result, Ok}
use Rattle.flow_model.specs.Item.{Item}
use Rattle.flow_model.specs.Call.{Call, Feed}
use Rattle.flow_model.specs.Rule.{Fault}
use Rattle.flow_model.specs.SinkPads.{push_calls}
use Rattle.flow_model.specs.Prefix.{IsPrefix, nothing, next}
use Rattle.el_join.specs.Sections.{open_section}
use Rattle.el_join.specs.Concats.{has_end}
use Rattle.el_join.proofs.Joining.{open_push}
use Rattle.el_select.specs.Selections.{active_behind, select_rule}
use Rattle.el_select.specs.Laws.{SelectsInOrder, PutsAll, OnlyOpenGrows, SelectionGrows, HandsEosOn, FlushEnds}
use Rattle.el_select.proofs.Placing.{active_in}
use Rattle.el_select.proofs.Owing.{push_begins, rule_closed, rule_flushed, rule_over, rule_prefix, rule_selected, selected_over}
use Rattle.el_select.proofs.Standing.{owes_of}

pub selects_in_order : SelectsInOrder
selects_in_order selections took more p made port j = rule_prefix p selections made port j

pub puts_all : PutsAll
puts_all element selections took put s port = s.owed

split_behind : {A : Type 0} {xs ys : List A} → IsPrefix xs ys → ys ≡ xs ++ drop (length xs) ys
split_behind nothing = refl
split_behind (next {x = x} p) = ap (λ zs. x ∷ zs) (split_behind p)

abbrev answered : List Item → Result (List Item) Fault
answered xs = Ok xs

same_of : (xs ys : List Item) → answered xs ≡ answered ys → xs ≡ ys
same_of xs ys e = cc

pub only_open_grows : OnlyOpenGrows
only_open_grows = record {
  same = λ pad x took plain. open_push pad took x plain;
  over = λ element selections took r pad x port j less. rule_over (push_begins pad (Feed x ∷ []) took) selections r.level r.made port j less;
  now = λ element selections took put s pad x more e port.
      let was = select_rule selections took port (open_section took) in
      let is = select_rule selections (push_calls pad (Feed x ∷ []) took) port (open_section took) in
      split_behind (rule_prefix (push_begins pad (Feed x ∷ []) took) selections s.remembers.made port (open_section took))
      ∙ ap (λ (xs : List Item). was ++ xs) (same_of (drop (length was) is) more e);
}

pub selection_grows : SelectionGrows
selection_grows = record {
  over = λ element selections took r pad port j less. selected_over pad took selections r.level r.made port j less;
  now = λ element selections took put s begun pad port.
      rule_selected selections took s.remembers.level s.remembers.made pad port (ap has_end s.owed ∙ begun);
}

pub hands_eos_on : HandsEosOn
hands_eos_on element selections took put s some ended port =
    let o = owes_of element selections took put s in
    let within = active_in 0 (map (λ (cs : List Call). 0) took) selections took some s.remembers.made in
    ap has_end s.owed ∙ o.over ∙ ended (active_behind 0 selections) within

pub flush_ends : FlushEnds
flush_ends = record {
  over = λ element selections took r number port j less. rule_closed number selections took r.level r.made port j (omega (arith, less));
  nothing = λ element selections took r number port. rule_flushed number selections took r.level r.made port;
}
