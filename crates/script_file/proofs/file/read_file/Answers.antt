use Rattle.std.proofs.Common.{subst}
use Rattle.script_text.specs.Scripts.{IsRefusal, IsScript}
use Rattle.script_file.proofs.Wholes.{read_as_script, text_refused}
use Rattle.script_file.proofs.file.read_file.Goals as goal

pub returns-in-Ok-read-clause-script : goal.returns-in-Ok-read-clause-script
returns-in-Ok-read-clause-script g c =
    read_as_script c.args.acts ((g.F.Files.seen c.args.files.now).input c.args.location.now) c.in-Ok.bytes.items c.in-Ok-read.commands c.in-Ok.ensures.front
    (subst (λ t. IsScript c.args.acts t c.in-Ok-read.commands) c.as_slice.ensures.value c.in-Ok-read.ensures.script)

pub returns-clause-fault : goal.returns-clause-fault
returns-clause-fault g c =
    text_refused c.args.acts c.args.location.now (g.F.Files.seen c.args.files.now) (g.F.Files.seen c.read_bytes.new.files) c.in-Ok.bytes.items c.in-Err-read.why c.text_fault.result
    c.in-Ok.ensures.front
    (subst (λ t. IsRefusal c.args.acts t c.in-Err-read.why) c.as_slice.ensures.value c.in-Err-read.ensures.refused) c.text_fault.ensures

pub returns-in-Err-clause-fault : goal.returns-in-Err-clause-fault
returns-in-Err-clause-fault g c = c.in-Err.ensures.fault c.args.acts
