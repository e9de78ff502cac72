use Rattle.std.proofs.Common.{sym, ◌∙◌}
use Rattle.graph_edits.proofs.Standing.{element_there}
use Rattle.graph_edits.specs.Graph.{made}
use Rattle.graph_pads.specs.declared.pad.Direction.TheVariants.{Source, Sink}
use Rattle.graph_edits.proofs.Ended.{ends_are_told}
use Rattle.edit_core.proofs.Refusals.{denied}
use Rattle.edit_core.proofs.refusing.link_refusal.Goals as goal

pub returns-then-has_had_eos : goal.returns-then-has_had_eos
returns-then-has_had_eos g c = λ e m tells is.
    (ends_are_told.told m.history e c.args.sink is.kept is.stand is.ends).1 (sym (c.has_had_eos.ensures c.args.feeds.now e m tells is) ∙ c.if-has_had_eos.true)

pub returns-then-is_taken : goal.returns-then-is_taken
returns-then-is_taken g c = λ e m tells is.
    let had = ends_are_told.told m.history e c.args.sink is.kept is.stand is.ends in
    (λ after. denied c.has_had_eos.result c.if-has_had_eos.false (λ a. c.has_had_eos.ensures c.args.feeds.now e m tells is ∙ had.0 a) after, (c.is_taken.ensures e is.edited).0 c.if-is_taken.true)

pub loops-requires-clause-source : goal.loops-requires-clause-source
loops-requires-clause-source g c = element_there (made c.args.graph.now) Source c.args.source.element c.args.source.pad c.requires.source

pub loops-requires-clause-sink : goal.loops-requires-clause-sink
loops-requires-clause-sink g c = element_there (made c.args.graph.now) Sink c.args.sink.element c.args.sink.pad c.requires.sink

pub returns-then-branch : goal.returns-then-branch
returns-then-branch g c = λ e m tells is.
    let had = ends_are_told.told m.history e c.args.sink is.kept is.stand is.ends in (
      λ after. denied c.has_had_eos.result c.if-has_had_eos.false (λ a. c.has_had_eos.ensures c.args.feeds.now e m tells is ∙ had.0 a) after,
      λ taken. denied c.is_taken.result c.if-is_taken.false (c.is_taken.ensures e is.edited).1 taken,
      (c.in_ok-loops.ensures e is.edited).0 c.if-branch.true,
    )

pub returns-then-branch-2 : goal.returns-then-branch-2
returns-then-branch-2 g c = λ e m tells is.
    let had = ends_are_told.told m.history e c.args.sink is.kept is.stand is.ends in (
      λ after. denied c.has_had_eos.result c.if-has_had_eos.false (λ a. c.has_had_eos.ensures c.args.feeds.now e m tells is ∙ had.0 a) after,
      λ taken. denied c.is_taken.result c.if-is_taken.false (c.is_taken.ensures e is.edited).1 taken,
      λ loops. denied c.in_ok-loops.field-0 c.if-branch.false (c.in_ok-loops.ensures e is.edited).1 loops,
      (c.in_ok-is_fed_elsewhere.ensures e m tells is).0 c.if-branch-2.true,
    )

pub returns-then-branch-3 : goal.returns-then-branch-3
returns-then-branch-3 g c = λ e m tells is.
    let had = ends_are_told.told m.history e c.args.sink is.kept is.stand is.ends in (
      λ after. denied c.has_had_eos.result c.if-has_had_eos.false (λ a. c.has_had_eos.ensures c.args.feeds.now e m tells is ∙ had.0 a) after,
      λ taken. denied c.is_taken.result c.if-is_taken.false (c.is_taken.ensures e is.edited).1 taken,
      λ loops. denied c.in_ok-loops.field-0 c.if-branch.false (c.in_ok-loops.ensures e is.edited).1 loops,
      λ fed. denied c.in_ok-is_fed_elsewhere.field-0 c.if-branch-2.false (c.in_ok-is_fed_elsewhere.ensures e m tells is).1 fed,
      λ lacks. lacks ((c.in_ok-have_format.ensures e is.edited).0 c.if-branch-3.true),
    )

pub returns : goal.returns
returns g c = λ e m tells is.
    let had = ends_are_told.told m.history e c.args.sink is.kept is.stand is.ends in (
      λ after. denied c.has_had_eos.result c.if-has_had_eos.false (λ a. c.has_had_eos.ensures c.args.feeds.now e m tells is ∙ had.0 a) after,
      λ taken. denied c.is_taken.result c.if-is_taken.false (c.is_taken.ensures e is.edited).1 taken,
      λ loops. denied c.in_ok-loops.field-0 c.if-branch.false (c.in_ok-loops.ensures e is.edited).1 loops,
      λ fed. denied c.in_ok-is_fed_elsewhere.field-0 c.if-branch-2.false (c.in_ok-is_fed_elsewhere.ensures e m tells is).1 fed,
      λ common. denied c.in_ok-have_format.field-0 c.if-branch-3.false (c.in_ok-have_format.ensures e is.edited).1 common,
    )
