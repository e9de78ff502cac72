use Rattle.el_parse.specs.Streams.{stream_by}
use Rattle.el_parse.proofs.Timed.{fault_on, made_in_time, first_fault, sum_fault, end_fault, end_below}
use Rattle.el_parse.proofs.timing.Timing.piece.Goals as goal

pub returns-in_err-start-clause-fault : goal.returns-in_err-start-clause-fault
returns-in_err-start-clause-fault c = fault_on _ _ _ c.from_residual.ensures.1 (first_fault (stream_by c.args.self.info) _ _ _ _ _ _ c.in_err-start.ensures.fault)

pub returns-in_err-pts-clause-fault : goal.returns-in_err-pts-clause-fault
returns-in_err-pts-clause-fault c =
    fault_on _ _ _ c.from_residual-in_err-pts.ensures.1
    (sum_fault (stream_by c.args.self.info) _ _ _ _ _ _ _ c.in_ok-start.ensures.time c.in_ok-start.ensures.passes c.in_err-pts.ensures.fault)

pub returns-in_err-end-clause-fault : goal.returns-in_err-end-clause-fault
returns-in_err-end-clause-fault c =
    fault_on _ _ _ c.from_residual-in_err-end.ensures.1
    (end_fault (stream_by c.args.self.info) _ _ _ c.args.frames _ _ _ c.in_ok-start.ensures.time c.in_ok-start.ensures.passes c.in_ok-pts.ensures.passes (rw c.from.ensures at c.in_err-end.ensures.fault))

pub returns-clause-made : goal.returns-clause-made
returns-clause-made c =
    made_in_time (stream_by c.args.self.info) _ _ _ c.args.frames _ _ _ _ c.in_ok-start.ensures.time (rw c.from.ensures at c.in_ok-end.ensures.time) c.in_ok-pts.ensures.pts c.in_ok-start.ensures.passes
    c.in_ok-pts.ensures.passes (rw c.from.ensures at c.in_ok-end.ensures.passes)

pub returns-clause-below : goal.returns-clause-below
returns-clause-below c = end_below c.in_ok-pts.pts c.in_ok-end.end c.in_ok-start.start c.in_ok-pts.ensures.fits (rw c.in_ok-end.ensures.time c.in_ok-end.ensures.fits)
