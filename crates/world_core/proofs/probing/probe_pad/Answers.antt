use Rattle.std.proofs.Common.{◌∙◌, List, refl, sym}
use Rattle.edit_acts.specs.Controlled.{IsControlled}
use Rattle.edit_acts.specs.Files.{KeepFiles}
use Rattle.edit_acts.proofs.Files.{files_same}
use Rattle.net_task.specs.declared.task.Task.{Task}
use Rattle.world_core.proofs.ProbeActs.{either_way, probed_for}
use Rattle.world_core.proofs.probing.probe_pad.Goals as goal

pub returns-clause-probed : goal.returns-clause-probed
returns-clause-probed g c = λ commands stand edited is.
    probed_for edited commands c.args.answered c.args.tasks.now c.set_probe.new.tasks c.args.when.now c.in-At.pad c.in-At.buffers c.in-Some.source c.probe.result c.numbered.result
    c.in-Some-source_number.number c.set_probe.result c.in-At.is (sym (c.in_ok-source.ensures.found edited is) ∙ c.in-Some.is) (c.probe.ensures.stop commands stand.last stand.passed stand.stands)
    c.numbered.ensures c.in-Some-source_number.ensures.number c.set_probe.ensures.probed c.set_probe.ensures.none

pub returns-clause-control : goal.returns-clause-control
returns-clause-control g c = λ control feeds edited m tells has.
    either_way c.args.tasks.now c.set_probe.new.tasks c.in-Some-source_number.number c.numbered.result c.set_probe.result c.set_probe.ensures.probed c.set_probe.ensures.none
    (λ (ts : List (Task _ _ _ _ _ _ _ _ _)). IsControlled control feeds ts edited m tells)
    (λ probed. c.probes_keep_control.ensures control feeds c.args.tasks.now.items c.set_probe.new.tasks.items edited m tells c.in-Some-source_number.number c.numbered.result has probed
    (c.set_probe.ensures.stands m tells has.run.net)) has

pub returns-clause-files : goal.returns-clause-files
returns-clause-files g c =
    either_way c.args.tasks.now c.set_probe.new.tasks c.in-Some-source_number.number c.numbered.result c.set_probe.result c.set_probe.ensures.probed c.set_probe.ensures.none
    (λ (ts : List (Task _ _ _ _ _ _ _ _ _)). KeepFiles c.args.tasks.now.items ts)
    (λ probed. c.probes_keep_files.ensures c.args.tasks.now.items c.set_probe.new.tasks.items c.in-Some-source_number.number c.numbered.result probed)
    (files_same c.args.tasks.now.items c.args.tasks.now.items refl)
