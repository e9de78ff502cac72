use Rattle.std.proofs.Common.{sym}
use Rattle.el_mix.specs.Heard.{mono_by}
use Rattle.el_mix.proofs.Moving.{pushes_stream}
use Rattle.el_mix.proofs.Leaving.{pushes_empty}
use Rattle.el_mix.proofs.due.push_due.Goals as goal
use Rattle.gst_value.proofs.Results.{then_ok as on_ok}

pub returns-in-Some-clause-pushes : goal.returns-in-Some-clause-pushes
returns-in-Some-clause-pushes c =
    on_ok c.push_stream.result _ _
    (λ t. pushes_stream (mono_by c.in-Some.info) c.args.at.now c.push_stream.new.at c.args.channels.now c.push_stream.new.channels c.args.outs.now.items
    c.push_stream.new.outs.items (sym c.in-Some.ensures) c.push_stream.ensures.still t)
    c.push_stream.ensures.streams

pub returns-in-None-clause-pushes : goal.returns-in-None-clause-pushes
returns-in-None-clause-pushes c =
    on_ok c.push_empty.result _ _
    (λ put. pushes_empty c.args.at.now c.args.channels.now c.args.outs.now.items c.push_empty.new.outs.items (sym c.in-None.ensures) put)
    c.push_empty.ensures.outs
