use Rattle.std.proofs.Common.{◌≡◌, ◌-◌, ◌≤◌, length, arith, ◌∙◌}
use Rattle.el_src.proofs.Filling.{filled_more, length-put_mid, length-part}
use Rattle.el_src.proofs.block.fill.Goals as goal

pub loop-got-preserved : goal.loop-got-preserved
loop-got-preserved g c =
    let xs = c.loop-got.into in
    let ys = c.read_at.new.into in
    let got = c.loop-got.got in
    let more = c.in_ok-more.more in
    let fits : got ≤ length xs = c.loop-got.invariant.0 in
    let size : length ys ≡ length xs - got = c.read_at.auto.into ∙ length-part xs got in
    let room : more ≤ length ys = omega (arith, c.in_ok-more.ensures.room) in
    let stays = c.read_at.ensures.content_stays in (
      omega (arith, length-put_mid xs ys got fits size),
      stays ∙ c.loop-got.invariant.1,
      c.read_at.ensures.location_stays ∙ c.loop-got.invariant.2,
      c.in_ok-more.ensures.faults_stay ∙ c.loop-got.invariant.3,
      filled_more _ _ c.args.place got more xs ys c.loop-got.invariant.1 c.loop-got.invariant.4 fits room c.in_ok-more.ensures.inside c.in_ok-more.ensures.bytes,
    )
