use Rattle.std.proofs.Common.{◌≡◌, if◌then◌else◌, List, None, Option, length, vec_len, ap, arith, rules, ◌∙◌}
use Rattle.graph_edits.specs.Edited.{and_sink}
use Rattle.graph_pads.specs.Links.{sink_behind}
use Rattle.graph_pads.specs.declared.pad.PadLink.{PadLink}
use Rattle.graph_pads.specs.declared.pad.PadPlace.{PadPlace}
use Rattle.graph_edits.proofs.Standing.{room_left}
use Rattle.graph_edits.proofs.changes.undo.Goals as goal

pub returns-clause-room : goal.returns-clause-room
returns-clause-room c =
    let source = c.args.source in
    let eos = c.args.eos in
    let links = c.args.links.now in
    let ended = c.args.ended.now in
    let left = c.cut.new.links in
    let all = c.mark.new.ended in
    let links_long : vec_len links ≡ length links.items = search rules in
    let ended_long : vec_len ended ≡ length ended.items = search rules in
    let left_long : vec_len left ≡ length left.items = search rules in
    let all_long : vec_len all ≡ length all.items = search rules in
    let sink : c.sink_to_end-sink.result ≡ (if eos then sink_behind links.items source else None) =
    c.sink_to_end-sink.ensures ∙ ap (λ (ls : List PadLink). if eos then sink_behind ls source else None) c.deref.ensures.value in
    omega (
      arith,
      c.requires,
      links_long,
      ended_long,
      left_long,
      all_long,
      ap length c.cut.ensures.links,
      ap length c.mark.ensures.ended ∙ ap (λ (o : Option PadPlace). length (and_sink o ended.items)) sink,
      c.mark.ensures.room,
      room_left source eos links.items ended.items,
    )
