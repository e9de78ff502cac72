use Rattle.std.proofs.Common.{refl, ◌∙◌}
use Rattle.el_select.proofs.Keeping.{takes_buffer, takes_event}
use Rattle.el_select.proofs.pad.Pad.take.Goals as goal

pub returns-in-Buffer : goal.returns-in-Buffer
returns-in-Buffer c = takes_buffer c.args.self.now _ c.args.item c.in-Buffer._buffer c.requires.no_flush c.requires.open c.in-Buffer.is refl c.is_eos-self.ensures

pub returns-in-Event : goal.returns-in-Event
returns-in-Event c =
    takes_event c.args.self.now c.remember.new.self c.args.item c.in-Event.event c.requires.no_flush c.requires.open c.in-Event.is c.remember.ensures.sticky
    (c.remember.ensures.ended ∙ c.is_eos-self.ensures)
