use Rattle.std.proofs.Common.{arith}
use Rattle.net_edits.proofs.Acts.{size_set}
use Rattle.net_edits.proofs.Together.{pad_within}
use Rattle.net_edits.proofs.over.link_between.Goals as goal

pub lead_at-requires-clause-place : goal.lead_at-requires-clause-place
lead_at-requires-clause-place g c κs within =
    let low = pad_within c.args.tasks.now.items c.args.pad c.args.sender c.requires.sends in
    let size = size_set c.args.tasks.now.items c.open_at.new.tasks.items c.args.room.receiver c.args.pad _ c.open_at.ensures.grown.set in
    omega (arith, low, size, c.open_at.new.tasks.ok.0)

pub returns-clause-linked : goal.returns-clause-linked
returns-clause-linked g c = record {
  sender = c.args.sender;
  receiver = c.args.room.receiver;
  ends = record { sends = c.requires.sends; feeds = (c.requires.room.row, c.requires.room.has); other = c.requires.other };
  between = c.open_at.new.tasks.items;
  grown = c.open_at.ensures.grown;
  led = c.lead_at.ensures.led;
}
