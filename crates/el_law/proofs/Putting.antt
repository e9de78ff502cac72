-- What an element of a law puts out for a call.
use Rattle.std.proofs.Common.{◌≡◌, true, false, ℕ, Option, None, List, [], ◌∷◌, ◌++◌, Result, Ok, Err, IfOk, IfErr, OnOk, refl, sym, ◌∙◌, append-nil}
use Rattle.flow_model.specs.declared.fault.ElementFault.{ElementFault}
use Rattle.gst_item.specs.declared.flow.Flow.{Flow}
use Rattle.gst_item.specs.declared.flow.Flow.TheVariants.{Ok as Taken}
use Rattle.gst_item.specs.declared.out.Out.{Out}
use Rattle.flow_model.specs.Item.{Item, Buffer, Buf, is_flush_stop, is_eos}
use Rattle.flow_model.specs.Call.{Call, Feed, Act, Drain}
use Rattle.flow_model.specs.Rule.{NotNegotiated}
use Rattle.flow_model.specs.Feeding.{on_pad, passed, flow_behind, next_owed, IsFaultOf}
use Rattle.el_law.specs.declared.kind.LawKind.{LawKind}
use Rattle.el_law.specs.declared.law.Law.{Law}
use Rattle.el_law.specs.Laws.{format_in, law_answer, recodes, recoded, frame_behind, got_behind}
use Rattle.audio_info.specs.Templates.{sample_template}
use Rattle.el_law.specs.Recoded.{Recoded, recoding}
use Rattle.el_law.specs.Puts.{Puts}
use Rattle.el_law.proofs.Recoding.{fault_known, recoded_taken, recoded_behind, recoded_drain}
use Rattle.flow_model.proofs.Items.{none_owed}

-- an item in a section that is not over
pub puts_taken : (old new : Law) (x : Item) (out out' : List Out) → is_flush_stop x ≡ false → old.ended ≡ false
    → law_answer old.kind old.frame old.got x ≡ Ok (recoded old.kind x ∷ []) → new.kind ≡ old.kind → new.frame ≡ frame_behind old.kind old.frame x
    → new.got ≡ got_behind old.got x → new.ended ≡ is_eos x → out' ≡ out ++ on_pad 0 (recoded old.kind x ∷ [])
    → Puts old new (Feed x) out out'
puts_taken old new x out out' plain begun answer same_kind frame got ends outs =
    record {
      more = recoded old.kind x ∷ [];
      outs = outs;
      owed = λ kind calls put p.
          let open_yet : (recoding kind calls).over ≡ false = p.over ∙ begun in
          rw (open_yet, p.frame_is, p.got_is, p.kind_is) answer;
      stands = λ kind calls put p.
          rw (← p.kind_is) (recoded_taken old new x plain begun answer same_kind frame got ends kind calls put p);
    }

-- what such an item says of the answer that was handed on: of the flow, of what was put out, of what was fed, and of a fault
pub handed_flow : (law : Law) (answer : Result Flow ElementFault) → law.ended ≡ false → IfOk answer (λ flow. flow ≡ Taken)
    → IfOk answer (λ flow. (kind : LawKind) (calls : List Call) (put : List Item) → Recoded kind law calls put → flow ≡ flow_behind calls)
handed_flow law (Ok flow) begun taken = λ kind calls put p. rw (taken, p.eos, begun) refl
handed_flow law (Err fault) begun taken = tt

pub handed_out : (law : Law) (x : Item) (out out' : List Out) (answer : Result Flow ElementFault) → IfOk answer (λ flow. flow ≡ Taken) → OnOk answer (out' ≡ out ++ on_pad 0 (recoded law.kind x ∷ []))
    → IfOk answer (λ flow. (kind : LawKind) (calls : List Call) (put : List Item) → Recoded kind law calls put → out' ≡ out ++ on_pad 0 (passed flow (recoded kind x)))
handed_out law x out out' (Ok flow) taken outs = λ kind calls put p. rw (taken, p.kind_is) outs
handed_out law x out out' (Err fault) taken outs = tt

pub handed_fed : (old new : Law) (x : Item) (answer : Result Flow ElementFault) → is_flush_stop x ≡ false → old.ended ≡ false → IfOk answer (λ flow. flow ≡ Taken)
    → OnOk answer (law_answer old.kind old.frame old.got x ≡ Ok (recoded old.kind x ∷ [])) → OnOk answer (new.kind ≡ old.kind) → OnOk answer (new.frame ≡ frame_behind old.kind old.frame x)
    → OnOk answer (is_flush_stop x ≡ false → new.got ≡ got_behind old.got x) → OnOk answer (old.ended ≡ false → new.ended ≡ is_eos x)
    → IfOk answer (λ flow. (kind : LawKind) (calls : List Call) (put : List Item) → Recoded kind old calls put → Recoded kind new (calls ++ Feed x ∷ []) (put ++ passed flow (recoded kind x)))
handed_fed old new x (Ok flow) plain begun taken owed same_kind frame got ends = λ kind calls put p. rw taken (recoded_taken old new x plain begun owed same_kind frame (got plain) (ends begun) kind calls put p)
handed_fed old new x (Err fault) plain begun taken owed same_kind frame got ends = tt

pub handed_puts : (old new : Law) (x : Item) (out out' : List Out) (answer : Result Flow ElementFault) → is_flush_stop x ≡ false → old.ended ≡ false
    → OnOk answer (law_answer old.kind old.frame old.got x ≡ Ok (recoded old.kind x ∷ [])) → OnOk answer (new.kind ≡ old.kind) → OnOk answer (new.frame ≡ frame_behind old.kind old.frame x)
    → OnOk answer (is_flush_stop x ≡ false → new.got ≡ got_behind old.got x) → OnOk answer (old.ended ≡ false → new.ended ≡ is_eos x) → OnOk answer (out' ≡ out ++ on_pad 0 (recoded old.kind x ∷ []))
    → OnOk answer (Puts old new (Feed x) out out')
handed_puts old new x out out' (Ok flow) plain begun owed same_kind frame got ends outs = puts_taken old new x out out' plain begun owed same_kind frame (got plain) (ends begun) outs
handed_puts old new x out out' (Err fault) plain begun owed same_kind frame got ends outs = tt

pub handed_fault : (law : Law) (x : Item) (answer : Result Flow ElementFault) → law.ended ≡ false → IfErr answer (λ fault. IsFaultOf (law_answer law.kind law.frame law.got x) fault)
    → IfErr answer (λ fault. (kind : LawKind) (calls : List Call) (put : List Item) → Recoded kind law calls put → IsFaultOf (next_owed (recodes kind) calls x) fault)
handed_fault law x (Ok flow) begun h = tt
handed_fault law x (Err fault) begun h = fault_known law x fault begun h

-- a buffer before any CAPS
pub before_caps : (kind : LawKind) (frame : Option ℕ) (got : ℕ) (b : Buffer) (answer : Result Flow ElementFault) → frame ≡ None
    → IfErr answer (λ fault. IsFaultOf (Err (NotNegotiated None (sample_template (format_in kind)))) fault) → IfErr answer (λ fault. IsFaultOf (law_answer kind frame got (Buf b)) fault)
before_caps kind frame got b answer is h = rw is h

-- an item behind EOS
pub puts_behind : (law : Law) (x : Item) (out : List Out) → is_flush_stop x ≡ false → law.ended ≡ true → Puts law law (Feed x) out out
puts_behind law x out plain ended =
    record {
      more = [];
      outs = sym (append-nil out);
      owed = λ kind calls put p.
          let over : (recoding kind calls).over ≡ true = p.over ∙ ended in
          rw over refl;
      stands = recoded_behind law x plain ended;
    }

pub puts_drained : (law : Law) (out : List Out) → Puts law law (Act Drain) out out
puts_drained law out =
    record {
      more = [];
      outs = sym (append-nil out);
      owed = λ kind calls put p. none_owed (recoding kind calls).over;
      stands = λ kind calls put p. rw (append-nil put) (recoded_drain law kind calls put p);
    }
