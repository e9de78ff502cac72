use Rattle.std.proofs.Common.{append-nil, ◌∙◌, ◌++◌, ap, sym, arith}
use Rattle.script_text.specs.declared.command.When.{When}
use Rattle.script_probes.specs.Stops.{stop_at}
use Rattle.script_probes.proofs.Gathered.{gathered, no_stop}
use Rattle.script_probes.proofs.stops.stops_of.Goals as goal
use Rattle.script_probes.proofs.stops.stops_of.Goals.{in-At+in_ok-push, in_default}

pub loop-place-preserved : goal.loop-place-preserved
loop-place-preserved c =
    elim c.match-command.branch [
      | in-At+in_ok-push w ↦
          gathered c.args.commands.now c.loop-place.place c.index-commands-place.result c.loop-place.stops.items c.match-command.stops.items (omega arith) c.index-commands-place.is c.loop-place.invariant
          (ap (λ v. v.items) w.stops-is ∙ w.in_ok-push.ensures.items ∙ ap (λ (when : When). c.loop-place.stops.items ++ stop_at c.loop-place.place when) (sym w.in-At.is))
      | in_default w ↦
          gathered c.args.commands.now c.loop-place.place c.index-commands-place.result c.loop-place.stops.items c.match-command.stops.items (omega arith) c.index-commands-place.is c.loop-place.invariant
          (ap (λ v. v.items) w.stops-is ∙ sym (append-nil c.loop-place.stops.items) ∙ ap (λ l. c.loop-place.stops.items ++ l) (sym (no_stop c.loop-place.place c.index-commands-place.result.when w.in_default.not-At)))
    ]
