-- Chains: a source, some elements that pass all, and a sink behind them. Element 0 is the source; element e
-- feeds element e + 1 over its one source pad, which has the number e too.
use Rattle.std.specs.Prelude.{◌+◌, ℕ, zero, suc, List, [], ◌∷◌, slice_index}
use Rattle.std.specs.List.{range_with_len}
use Rattle.flow_model.specs.Item.{Item}
use Rattle.flow_model.specs.Rule.{Rule, single, passes}
use Rattle.flow_model.specs.Section.{first_section}
use Rattle.flow_model.specs.Link.{Span, Linked}
use Rattle.flow_model.specs.Eval.{Plan, PadLog}

abbrev pub chain_sinks : ℕ → List (List Span)
chain_sinks zero = []
chain_sinks (suc e) = (Linked e 0 [] ∷ []) ∷ []

abbrev pub chain_rule : List Item → ℕ → Rule
chain_rule list zero = λ inputs port. first_section list
chain_rule list (suc e) = single passes

abbrev pub chain_log : List ℕ → ℕ → PadLog
chain_log counts p = record { cuts = []; count = slice_index counts p }

-- the chain of a source with this list, with so many passing elements, and what the report counts on each pad
unfoldable pub chain : ℕ → List Item → List ℕ → Plan
chain passing list counts =
    record { forward = range_with_len 0 (passing + 2); owner = λ p. p; port = λ p. 0; sinks = chain_sinks; rule = chain_rule list; log = chain_log counts }
