use Rattle.pad_core.proofs.Crossed.{settles, settles_same, listed_apart}
use Rattle.pad_core.proofs.src_pad.SrcPad.stickies.Goals as goal

pub returns-in_ok-copy-in-Sticky : goal.returns-in_ok-copy-in-Sticky
returns-in_ok-copy-in-Sticky c =
    listed_apart c.with_one.result c.args.self.now c.in_ok-settled.settled c.in-Sticky.event _ c.in-Sticky.is c.in_ok-copy-in-Sticky.ensures
    c.in_ok-settled.ensures c.with_one.ensures

pub returns-in-Nothing : goal.returns-in-Nothing
returns-in-Nothing c = λ h p.
    c.in_ok-settled.ensures h
    (settles c.args.self.now.settled _ c.args.self.now.last h (settles_same c.args.self.now.last _ c.in-Nothing.is) p.stickies)
