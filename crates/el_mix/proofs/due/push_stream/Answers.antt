use Rattle.el_mix.proofs.Streaming.{streams}
use Rattle.el_mix.proofs.due.push_stream.Goals as goal
use Rattle.gst_value.proofs.Results.{then_ok as on_ok}

pub returns-clause-streams : goal.returns-clause-streams
returns-clause-streams c =
    on_ok c.push_end.result _ _
    (λ put. streams c.args.info c.args.at.now c.open.new.at c.push_pieces.new.at c.args.channels.now c.push_pieces.new.channels c.args.outs.now.items c.open.new.outs.items
    c.push_pieces.new.outs.items c.push_end.new.outs.items c.in_ok-open.ensures.opens c.in_ok-push_pieces.ensures.pieced c.in_ok-push_pieces.ensures.all c.in_ok-push_pieces.ensures.still put)
    c.push_end.ensures.outs
