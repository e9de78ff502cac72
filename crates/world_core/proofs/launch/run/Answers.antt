use Rattle.std.proofs.Common.{List, ℕ, map, subst, ap, ◌∙◌}
use Rattle.std.specs.String.{string_bytes}
use Rattle.world_core.specs.Headline.{Wrote, WrotePart, is_quiet}
use Rattle.world_core.specs.declared.ended.WorldEnd.{WorldEnd}
use Rattle.world_core.proofs.Quiet.{told_the_same}
use Rattle.world_core.proofs.launch.run.Goals as goal

pub returns-clause-text : goal.returns-clause-text
returns-clause-text g c =
    λ fine.
    subst (λ (text : List ℕ). Wrote text (g.O.Sink.bytes c.args.out.now) (g.O.Sink.bytes c.tell.new.out))
    (told_the_same c.tell.result.reported c.tell.result.report c.run_words-ended.result.end c.run_words-ended.result.quiet (is_quiet (map string_bytes c.args.words.now)) c.tell.ensures.reported c.run_words-ended.ensures.text) (c.tell.ensures.whole fine)

pub returns-clause-text_part : goal.returns-clause-text_part
returns-clause-text_part g c =
    λ failed.
    subst (λ (text : List ℕ). WrotePart text (g.O.Sink.bytes c.args.out.now) (g.O.Sink.bytes c.tell.new.out))
    (told_the_same c.tell.result.reported c.tell.result.report c.run_words-ended.result.end c.run_words-ended.result.quiet (is_quiet (map string_bytes c.args.words.now)) c.tell.ensures.reported c.run_words-ended.ensures.text) (c.tell.ensures.part failed)

pub returns-clause-turned : goal.returns-clause-turned
returns-clause-turned g c =
    λ found began.
    let status = ap (λ (end : WorldEnd). end.status) (c.tell.ensures.reported found) in
    rw (c.tell.ensures.reported found) (c.run_words-ended.ensures.turned (λ wanting. found (status ∙ wanting)) (λ unopened. began (status ∙ unopened)))

pub returns-clause-headline : goal.returns-clause-headline
returns-clause-headline g c =
    λ found.
    let status = ap (λ (end : WorldEnd). end.status) (c.tell.ensures.reported found) in
    rw (c.tell.ensures.reported found) (c.run_words-ended.ensures.reported (λ wanting. found (status ∙ wanting)))
