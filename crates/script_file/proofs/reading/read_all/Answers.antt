-- One read more.
use Rattle.std.proofs.Common.{◌<◌, ◌∙◌, ap, arith, length}
use Rattle.script_file.proofs.Beginnings.{begins_more, block_stays, front_all, front_long}
use Rattle.script_file.proofs.reading.read_all.Goals as goal

pub returns-in-Ok-eq0-clause-front : goal.returns-in-Ok-eq0-clause-front
returns-in-Ok-eq0-clause-front g c =
    let kept = c.loop-source.invariant in
    let told = g.S.Source.content c.args.source.now in
    let count = c.in-Ok-eq0.ensures.count in
    front_all told c.loop-source.bytes.items c.read_more.new.bytes.items _
    (begins_more told c.loop-source.bytes.items c.read_more.new.bytes.items _ kept.front count (λ x is. c.in-Ok-eq0.ensures.added x (kept.content_stays ∙ is)))
    c.in-Ok-eq0.field-0-test count (λ x is. c.in-Ok-eq0.ensures.end c.in-Ok-eq0.field-0-test x (kept.content_stays ∙ is))

pub loop-source-preserved : goal.loop-source-preserved
loop-source-preserved g c =
    let kept = c.loop-source.invariant in
    let told = g.S.Source.content c.args.source.now in
    let some : 0 < c.loop-source.block.len = omega (arith, kept.block, c.loop-source.block.ok.0) in
    let lent : 0 < length c.read_more.new.block = omega (arith, c.read_more.auto.block, ap length c.as_mut_slice.ensures.value, kept.block) in
    record {
      content_stays = c.read_more.ensures.content_stays ∙ kept.content_stays;
      location_stays = c.read_more.ensures.location_stays ∙ kept.location_stays;
      faults_stay = c.in-Ok-read_more.ensures.faults_stay ∙ kept.faults_stay;
      front = begins_more told c.loop-source.bytes.items c.read_more.new.bytes.items _ kept.front c.in-Ok-read_more.ensures.count (λ x is. c.in-Ok-read_more.ensures.added x (kept.content_stays ∙ is));
      block = block_stays c.loop-source.block.len c.loop-source.block.items c.read_more.new.block some lent;
    }

pub returns-clause-front : goal.returns-clause-front
returns-clause-front g c =
    front_long (g.S.Source.content c.args.source.now) c.loop-source.bytes.items c.loop-source.invariant.front (omega (arith, c.len.ensures, c.loop-source-test.false, c.loop-source.bytes.ok.0))
