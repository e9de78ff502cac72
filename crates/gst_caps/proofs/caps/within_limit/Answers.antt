use Rattle.std.proofs.Common.{◌≡◌, false}
use Rattle.gst_caps.specs.Passes.{structures_pass}
use Rattle.gst_caps.proofs.Meeting.{structures_within}
use Rattle.gst_caps.proofs.caps.within_limit.Goals as goal

pub returns-clause-too_many : goal.returns-clause-too_many
returns-clause-too_many c = λ h.
    let within : structures_pass c.args.structures.now ≡ false = structures_within c.args.structures.now c.in_ok-copy_structures.ensures.well_formed c.if-structures-gt-LIMIT.false in
    cc
