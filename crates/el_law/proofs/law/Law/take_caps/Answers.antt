use Rattle.std.proofs.Common.{sym}
use Rattle.el_law.proofs.Accepted.{accepted_by, never_other, width_is}
use Rattle.el_law.proofs.law.Law.take_caps.Goals as goal

pub unreachable-requires : goal.unreachable-requires
unreachable-requires c =
    let audio = accepted_by c.args.self.now.kind _ _ c.args.caps c.format_in.ensures c.in_ok-wanted.ensures (sym c.if-not-accepts.ensures) in
    never_other _ c.args.caps audio c.in_default.ensures.not_audio

pub returns-clause-frame : goal.returns-clause-frame
returns-clause-frame c =
    let audio = accepted_by c.args.self.now.kind _ _ c.args.caps c.format_in.ensures c.in_ok-wanted.ensures (sym c.if-not-accepts.ensures) in
    width_is c.args.self.now.kind c.args.caps _ _ _ audio c.in-Ok.ensures.format c.in-Ok.ensures.channels c.width.ensures.bytes
