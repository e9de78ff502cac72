use Rattle.std.proofs.Common.{◌∙◌, ap, map}
use Rattle.std.specs.Prelude.{◌≢◌}
use Rattle.std.specs.String.{string_bytes}
use Rattle.run_words.specs.declared.options.Options.{Options}
use Rattle.line_read.specs.Refusals.{IsRefusal, graph_refusal, line_refusal}
use Rattle.line_read.specs.declared.refusal.Refusal.{Refusal}
use Rattle.line_read.proofs.Refused.{graph_refused, handed_on, has_tree, line_refused}
use Rattle.line_read.proofs.reading.read_request.Goals as goal

pub returns-in_err-tree-clause-refusal : goal.returns-in_err-tree-clause-refusal
returns-in_err-tree-clause-refusal c =
    handed_on c.from_residual-in_err-tree.result (line_refusal c.in_err-tree.field-0.0) (λ (refusal : Refusal). refusal.status ≢ 13 → IsRefusal (map string_bytes c.args.words.now) refusal) c.from_residual-in_err-tree.ensures.1
    (λ refusal is. line_refused (map string_bytes c.args.words.now) c.as_str.result.now c.in_err-tree.field-0.0 refusal (c.as_str.ensures ∙ ap (λ (o : Options). o.line) c.in_ok-options.ensures.said)
    (record { taken = c.in_ok-options.ensures.taken; some = c.in_ok-options.ensures.line })
    (record { complete = c.in_err-tree.ensures.complete; place = c.in_err-tree.ensures.place; kind = c.in_err-tree.ensures.kind; long = c.in_err-tree.ensures.long }) is)

pub returns-in_err-graph-clause-refusal : goal.returns-in_err-graph-clause-refusal
returns-in_err-graph-clause-refusal c =
    handed_on c.from_residual-in_err-graph.result (graph_refusal c.in_err-graph.field-0.0) (λ (refusal : Refusal). refusal.status ≢ 13 → IsRefusal (map string_bytes c.args.words.now) refusal) c.from_residual-in_err-graph.ensures.1
    (λ refusal is. graph_refused (map string_bytes c.args.words.now) c.in_ok-tree.tree c.in_err-graph.field-0.0 refusal
    (has_tree (map string_bytes c.args.words.now) c.as_str.result.now c.in_ok-tree.tree (c.as_str.ensures ∙ ap (λ (o : Options). o.line) c.in_ok-options.ensures.said)
    (record { taken = c.in_ok-options.ensures.taken; some = c.in_ok-options.ensures.line })
    (record { short = c.in_ok-tree.ensures.short; stands = c.in_ok-tree.ensures.sound; complete = c.in_ok-tree.ensures.complete }))
    c.in_err-graph.ensures.fault is)

pub returns-clause-request : goal.returns-clause-request
returns-clause-request c = record {
  tree = c.in_ok-tree.tree;
  has_tree = has_tree (map string_bytes c.args.words.now) c.as_str.result.now c.in_ok-tree.tree (c.as_str.ensures ∙ ap (λ (o : Options). o.line) c.in_ok-options.ensures.said)
      (record { taken = c.in_ok-options.ensures.taken; some = c.in_ok-options.ensures.line })
      (record { short = c.in_ok-tree.ensures.short; stands = c.in_ok-tree.ensures.sound; complete = c.in_ok-tree.ensures.complete });
  graph = c.in_ok-graph.ensures.graph;
  sound = c.in_ok-graph.ensures.sound;
  script = ap (λ (o : Options). o.script) c.in_ok-options.ensures.said;
  threads = ap (λ (o : Options). o.threads) c.in_ok-options.ensures.said;
  order = ap (λ (o : Options). o.order) c.in_ok-options.ensures.said;
  quiet = ap (λ (o : Options). o.quiet) c.in_ok-options.ensures.said;
}
