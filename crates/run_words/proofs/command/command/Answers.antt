-- The command is put together rule by rule.
use Rattle.std.proofs.Common.{rules, ◌≡◌, ◌∙◌, ap, ap₂, codes, ℕ, List, Option, Some, None, IsSomeAnd}
use Rattle.std.proofs.lemmas.Result.{IfOk-weaker}
use Rattle.clap.specs.Words.{Rule, app_of, new_rule, rule_of, with_rule}
use Rattle.clap.specs.declared.builder.arg.Arg.{Arg}
use Rattle.clap.specs.declared.builder.range.ValueRange.{ValueRange}
use Rattle.run_words.specs.Command.{any_number, flag_rule, number_rule, option_rule, plain_app, words_rule}
use Rattle.run_words.proofs.command.command.Goals as goal

some_and : (o : Option ValueRange) (range : ValueRange) → IsSomeAnd o (λ x. x ≡ range) → o ≡ Some range
some_and None range h = absurd h
some_and (Some x) range h = ap Some h

named : (long new : Arg) (id : List ℕ) → rule_of new ≡ new_rule id → rule_of long ≡ record (rule_of new) { long = Some id } → rule_of long ≡ option_rule id
named long new id e f = f ∙ ap (λ (r : Rule). record r { long = Some id }) e

pub returns : goal.returns
returns c =
    let script_is : rule_of c.long-script.result ≡ option_rule (codes "script") =
    named c.long-script.result c.new.result (codes "script") c.new.ensures.rule (ap rule_of c.long-script.ensures) in
    let script_local = ap (λ (a : Arg). a.global) c.long-script.ensures ∙ c.new.ensures.optional.1 in
    let threads_is : rule_of c.long-threads.result ≡ option_rule (codes "threads") =
    named c.long-threads.result c.new-2.result (codes "threads") c.new-2.ensures.rule (ap rule_of c.long-threads.ensures) in
    let order_is : rule_of c.value_parser-order.result ≡ number_rule (codes "order") = search rules in
    let quiet_is : rule_of c.action-quiet.result ≡ flag_rule (codes "quiet") = search rules in
    let any_is : c.num_args-word.result.num_vals ≡ Some any_number = some_and c.num_args-word.result.num_vals any_number c.num_args-word.ensures.1 in
    let word_is : rule_of c.num_args-word.result ≡ words_rule (codes "WORD") = search rules in
    let plain_is : app_of c.disable_version_flag-plain.result ≡ plain_app (codes "gst_run") = search rules in
    IfOk-weaker c.arg-5.result _ _ (λ r h. h.shape (search rules) ∙ ap₂ with_rule (c.in_ok-arg-4.ensures.shape (search rules)
    ∙ ap₂ with_rule (c.in_ok-arg-3.ensures.shape (search rules) ∙ ap₂ with_rule (c.in_ok-arg-2.ensures.shape (search rules)
    ∙ ap₂ with_rule (c.in_ok-arg.ensures.shape script_local ∙ ap₂ with_rule plain_is script_is) threads_is) order_is) quiet_is) word_is) c.arg-5.ensures
