use Rattle.std.proofs.Common.{◌≡◌, ◌≤◌, ◌∙◌, ap, arith, take, drop, length, length-take, vec_len}
use Rattle.std.proofs.lemmas.List.{take_at}
use Rattle.read_ahead.proofs.Held.{given_bytes}
use Rattle.read_ahead.proofs.ahead_source.AheadSourceSource.read_at.Goals as goal

pub returns-then-given-gt0-clause-bytes : goal.returns-then-given-gt0-clause-bytes
returns-then-given-gt0-clause-bytes g c = λ x told.
    let len = c.args.self.now.len in
    let held = take len c.deref.result.now in
    let few : length held ≤ len = omega (arith, length-take len c.deref.result.now) in
    let same : held ≡ take len (drop c.args.self.now.start x) = ap (take len) c.deref.ensures.value ∙ c.args.self.now.held x told in
    given_bytes x held c.give-given.new.into len c.args.self.now.start c.args.place (length c.args.into.now) c.give-given.result few same c.give-given.ensures.count c.give-given.ensures.bytes

pub returns-clause-bytes : goal.returns-clause-bytes
returns-clause-bytes g c = λ x told.
    let len = c.in_ok-self.field-0 in
    let held = take len c.deref-2.result.now in
    let few : length held ≤ len = omega (arith, length-take len c.deref-2.result.now) in
    let read = c.read_at-2.new.into in
    let before = c.args.self.now.window in
    let size : length read ≡ vec_len before = c.read_at-2.auto.into ∙ c.as_mut_slice.ensures.len in
    let back : c.deref-2.result.now ≡ read = c.deref-2.ensures.value ∙ take_at read (drop (length read) before.items) (vec_len before) size in
    let same : held ≡ take len (drop c.args.place x) = ap (take len) back ∙ c.in_ok-self.ensures.bytes x told in
    given_bytes x held c.give.new.into len c.args.place c.args.place (length c.give-given.new.into) c.give.result few same c.give.ensures.count c.give.ensures.bytes
