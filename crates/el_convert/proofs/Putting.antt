-- What a converter puts out for a call.
use Rattle.std.proofs.Common.{◌≡◌, true, false, List, [], ◌++◌, Result, Ok, Err, sym, append-nil}
use Rattle.std.specs.Prelude.{IsOk, IfOk, OnOk}
use Rattle.gst_caps.specs.declared.caps.Caps.{Caps}
use Rattle.flow_model.specs.declared.fault.ElementFault.{ElementFault}
use Rattle.gst_item.specs.declared.flow.Flow.{Flow}
use Rattle.gst_item.specs.declared.flow.Flow.TheVariants.{Ok as Taken}
use Rattle.gst_item.specs.declared.out.Out.{Out}
use Rattle.flow_model.specs.Item.{Item, is_flush_stop, is_eos}
use Rattle.flow_model.specs.Call.{Call, Feed, Act, Drain}
use Rattle.flow_model.specs.Feeding.{on_pad, flow_behind}
use Rattle.el_convert.specs.declared.convert.Convert.{Convert}
use Rattle.el_convert.specs.Converts.{convert_answer, known_behind}
use Rattle.flow_model.specs.Owed.{answered}
use Rattle.el_convert.specs.Converted.{converted, knows, IsConverted}
use Rattle.el_convert.specs.Puts.{Puts}
use Rattle.el_convert.proofs.Converting.{converted_item, converted_behind, converted_drain}
use Rattle.flow_model.proofs.Items.{none_owed}

-- for an item in a section that is not over
pub puts_taken : (old new : Convert) (x : Item) (out out' : List Out) → is_flush_stop x ≡ false → old.ended ≡ false
    → IsOk (convert_answer (knows old) x) → knows new ≡ known_behind (knows old) x → new.ended ≡ is_eos x
    → out' ≡ out ++ on_pad 0 (answered (convert_answer (knows old) x)) → Puts old new (Feed x) out out'
puts_taken old new x out out' plain begun ok moved ends outs =
    record {
      more = answered (convert_answer (knows old) x);
      outs = outs;
      owed = λ first calls put p. (converted_item old new x plain begun ok moved ends first calls put p).0;
      stands = λ first calls put p. (converted_item old new x plain begun ok moved ends first calls put p).1;
    }

-- for an item that is taken, if it is
pub puts_if_taken : (r : Result Flow ElementFault) (old new : Convert) (x : Item) (out out' : List Out) → is_flush_stop x ≡ false → old.ended ≡ false
    → OnOk r (IsOk (convert_answer (knows old) x)) → OnOk r (knows new ≡ known_behind (knows old) x) → OnOk r (old.ended ≡ false → new.ended ≡ is_eos x)
    → OnOk r (out' ≡ out ++ on_pad 0 (answered (convert_answer (knows old) x))) → IfOk r (λ flow. Puts old new (Feed x) out out')
puts_if_taken (Ok flow) old new x out out' plain begun ok moved ends outs = puts_taken old new x out out' plain begun ok moved (ends begun) outs
puts_if_taken (Err fault) old new x out out' plain begun ok moved ends outs = tt

-- the flow in a section that is not over
pub flow_taken : (r : Result Flow ElementFault) (element : Convert) → element.ended ≡ false → IfOk r (λ flow. flow ≡ Taken)
    → IfOk r (λ flow. (first : Caps) (calls : List Call) (put : List Item) → IsConverted first element calls put → flow ≡ flow_behind calls)
flow_taken (Ok flow) element begun is = λ first calls put p. rw (p.eos, begun) is
flow_taken (Err fault) element begun is = tt

-- behind EOS
pub puts_behind : (element : Convert) (x : Item) (out : List Out) → is_flush_stop x ≡ false → element.ended ≡ true
    → Puts element element (Feed x) out out
puts_behind element x out plain ended =
    record {
      more = [];
      outs = sym (append-nil out);
      owed = λ first calls put p. (converted_behind element x plain ended first calls put p).0;
      stands = λ first calls put p. (converted_behind element x plain ended first calls put p).1;
    }

pub puts_none : (element : Convert) (out : List Out) → Puts element element (Act Drain) out out
puts_none element out =
    record {
      more = [];
      outs = sym (append-nil out);
      owed = λ first calls put p. none_owed (converted first calls).over;
      stands = λ first calls put p. rw (append-nil put) (converted_drain element first calls put p);
    }
