use Rattle.std.proofs.Common.{◌≡◌, ◌<◌, List, Some, length, ap, sym, ◌∙◌, subst}
use Rattle.std.specs.Prelude.{slice_get, slice_set}
use Rattle.inlet_row.specs.declared.row.InletRow.{InletRow}
use Rattle.task_pads.proofs.Lists.{some_at}
use Rattle.net_edits.proofs.over.exchange_of_inlets.Goals as goal

pub returns : goal.returns
returns g c =
    let rows : c.into_parts-number.result.2.items ≡ c.args.inlets.rows.items = ap (λ (v : _). v.items) c.into_parts-number.ensures.rows in record {
      number = c.new.ensures.number ∙ c.into_parts-number.ensures.number;
      hint = c.new.ensures.hint ∙ c.into_parts-number.ensures.hint;
      at = subst (λ (xs : List (InletRow _)). slice_get xs c.args.port ≡ Some c.replace-back.result) rows
          (some_at c.into_parts-number.result.2.items c.args.port c.index_mut.result.now (subst (λ (xs : List (InletRow _)). c.args.port < length xs) (sym rows) c.requires.row) c.index_mut.ensures.value ∙ ap Some (sym c.replace-back.ensures.value));
      set = ap (λ (v : _). v.items) c.new.ensures.rows ∙ ap (λ (row : InletRow _). slice_set c.into_parts-number.result.2.items c.args.port row) c.replace-back.ensures.after ∙ ap (λ (xs : List (InletRow _)). slice_set xs c.args.port c.args.row) rows;
    }
