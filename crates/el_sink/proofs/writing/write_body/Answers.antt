use Rattle.std.proofs.Common.{◌≡◌, ◌-◌, ◌≤◌, length, take, drop, arith, ◌∙◌, length-take, length-drop}
use Rattle.el_sink.proofs.Pieces.{more_written}
use Rattle.el_sink.proofs.writing.write_body.Goals as goal

pub loop-done-preserved : goal.loop-done-preserved
loop-done-preserved g c =
    let body = c.args.body.now in
    let done = c.loop-done.done in
    let more = c.in-Ok.more in
    let within : done ≤ length body = c.loop-done.invariant.0 in
    let piece : length (take (length body - done) (drop done body)) ≡ length body - done = omega (arith, length-take (length body - done) (drop done body), length-drop done body) in
    let fits : more ≤ length body - done = omega (arith, c.in-Ok.ensures.part) in
    let reach = c.in-Ok.ensures.reach in (
      omega arith,
      c.in-Ok.ensures.location_stays ∙ c.loop-done.invariant.1,
      omega (arith, c.in-Ok.ensures.never_falls, c.loop-done.invariant.2),
      λ h. omega (arith, reach),
      more_written _ _ _ c.args.place done more body within fits c.loop-done.invariant.4 c.in-Ok.ensures.wrote,
    )
