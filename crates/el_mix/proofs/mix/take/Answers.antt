use Rattle.std.proofs.Common.{get_or, refl, ◌∙◌, arith}
use Rattle.std.proofs.lemmas.List.{length-set}
use Rattle.std.proofs.lemmas.Option.{slice_get-get_or}
use Rattle.el_mix.proofs.Handing.{whatever}
use Rattle.el_mix.proofs.Giving.{set_back, same_settled, settled_at, took_settled, bare_length, restored, takes_of}
use Rattle.el_mix.proofs.mix.take.Goals as goal

pub take-requires : goal.take-requires
take-requires c = record { «open» = c.requires.open (get_or c.args.channels.now c.args.place c.index-channels-place.result) (slice_get-get_or c.args.channels.now c.args.place c.index-channels-place.result c.requires.pad) }

pub returns-in_err-undo-clause-stays : goal.returns-in_err-undo-clause-stays
returns-in_err-undo-clause-stays c = whatever c.from_residual.result _ (refl, refl, set_back c.args.channels.now c.args.place (get_or c.args.channels.now c.args.place c.index-channels-place.result) c.take.new.self (slice_get-get_or c.args.channels.now c.args.place c.index-channels-place.result c.requires.pad) c.in_err-undo.ensures.stays)

pub returns-in_err-undo-clause-settled : goal.returns-in_err-undo-clause-settled
returns-in_err-undo-clause-settled c =
    same_settled c.args.channels.now _ (set_back c.args.channels.now c.args.place (get_or c.args.channels.now c.args.place c.index-channels-place.result) c.take.new.self (slice_get-get_or c.args.channels.now c.args.place c.index-channels-place.result c.requires.pad) c.in_err-undo.ensures.stays) c.requires.settled

pub returns-in_err-undo-clause-pads : goal.returns-in_err-undo-clause-pads
returns-in_err-undo-clause-pads c = length-set c.args.channels.now c.args.place c.take.new.self

pub put_out-requires-clause-some : goal.put_out-requires-clause-some
put_out-requires-clause-some c = omega (arith, length-set c.args.channels.now c.args.place c.take.new.self, c.requires.pad)

pub put_out-requires-clause-few : goal.put_out-requires-clause-few
put_out-requires-clause-few c = omega (arith, length-set c.args.channels.now c.args.place c.take.new.self, c.requires.few)

pub bounds-channels-place-in-Err : goal.bounds-channels-place-in-Err
bounds-channels-place-in-Err c = omega (arith, bare_length c.args.channels.now c.put_out.new.channels c.args.place c.take.new.self c.in-Err.ensures.bare, c.requires.pad)

pub returns-in-Ok-clause-takes : goal.returns-in-Ok-clause-takes
returns-in-Ok-clause-takes c =
    takes_of c.args.at.now c.put_out.new.at c.args.channels.now c.put_out.new.channels c.args.place c.args.item (get_or c.args.channels.now c.args.place c.index-channels-place.result) c.take.new.self c.args.out.now c.put_out.new.out (slice_get-get_or c.args.channels.now c.args.place c.index-channels-place.result c.requires.pad)
    c.in_ok-undo.ensures.took c.in-Ok.ensures.moves

pub returns-in-Ok-clause-settled : goal.returns-in-Ok-clause-settled
returns-in-Ok-clause-settled c = c.in-Ok.ensures.settled (took_settled c.args.channels.now c.args.place (get_or c.args.channels.now c.args.place c.index-channels-place.result) c.take.new.self c.args.item (slice_get-get_or c.args.channels.now c.args.place c.index-channels-place.result c.requires.pad) c.requires.settled c.in_ok-undo.ensures.took)

pub returns-in-Ok-clause-pads : goal.returns-in-Ok-clause-pads
returns-in-Ok-clause-pads c = bare_length c.args.channels.now c.put_out.new.channels c.args.place c.take.new.self c.in-Ok.ensures.bare

pub returns-in-Err-clause-stays : goal.returns-in-Err-clause-stays
returns-in-Err-clause-stays c = (
  c.in-Err.ensures.stays.0,
  c.in-Err.ensures.stays.1,
  restored c.args.channels.now c.put_out.new.channels c.args.place (get_or c.args.channels.now c.args.place c.index-channels-place.result) c.take.new.self c.index-channels-place-in-Err.result c.put_back.new.self (slice_get-get_or c.args.channels.now c.args.place c.index-channels-place.result c.requires.pad) c.requires.settled
      c.in-Err.ensures.stays.2
      (λ back. c.put_back.ensures (get_or c.args.channels.now c.args.place c.index-channels-place.result) c.take.new.self c.in_ok-undo.ensures.undo (settled_at c.args.channels.now c.args.place (get_or c.args.channels.now c.args.place c.index-channels-place.result) (slice_get-get_or c.args.channels.now c.args.place c.index-channels-place.result c.requires.pad) c.requires.settled) back),
)

pub returns-in-Err-clause-settled : goal.returns-in-Err-clause-settled
returns-in-Err-clause-settled c =
    same_settled c.args.channels.now _
    (restored c.args.channels.now c.put_out.new.channels c.args.place (get_or c.args.channels.now c.args.place c.index-channels-place.result) c.take.new.self c.index-channels-place-in-Err.result c.put_back.new.self (slice_get-get_or c.args.channels.now c.args.place c.index-channels-place.result c.requires.pad) c.requires.settled
    c.in-Err.ensures.stays.2
    (λ back. c.put_back.ensures (get_or c.args.channels.now c.args.place c.index-channels-place.result) c.take.new.self c.in_ok-undo.ensures.undo (settled_at c.args.channels.now c.args.place (get_or c.args.channels.now c.args.place c.index-channels-place.result) (slice_get-get_or c.args.channels.now c.args.place c.index-channels-place.result c.requires.pad) c.requires.settled) back))
    c.requires.settled

pub returns-in-Err-clause-pads : goal.returns-in-Err-clause-pads
returns-in-Err-clause-pads c =
    length-set c.put_out.new.channels c.args.place c.put_back.new.self ∙ bare_length c.args.channels.now c.put_out.new.channels c.args.place c.take.new.self c.in-Err.ensures.bare
