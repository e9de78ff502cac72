use Rattle.std.proofs.Common.{◌≡◌, ◌≤◌, ◌<◌, ◌+◌, ◌-◌, ◌*◌, min, arith, ap, ◌∙◌}
use Rattle.el_src.specs.Ramp.{frame_count, piece}
use Rattle.el_src.proofs.Ramping.{due_end, due_piece}
use Rattle.el_src.proofs.ramp_src.RampSrc.next_piece.Goals as goal

pub give_event-requires-clause-due : goal.give_event-requires-clause-due
give_event-requires-clause-due c =
    let s = c.args.self.now in
    let given : s.given * c.from-samples.result ≡ s.given * s.settings.samples = ap (λ n. s.given * n) c.from-samples.ensures in
    let behind : frame_count s.settings ≤ s.start + s.given * s.settings.samples = omega arith in
    due_end s.phase s.settings s.id s.start s.given s.some_samples c.requires.pieces behind

pub give-requires-clause-due : goal.give-requires-clause-due
give-requires-clause-due c =
    let s = c.args.self.now in
    let given : s.given * c.from-samples.result ≡ s.given * s.settings.samples = ap (λ n. s.given * n) c.from-samples.ensures in
    let first : s.start + s.given * c.from-samples.result ≡ s.start + s.given * s.settings.samples = omega arith in
    let before : s.start + s.given * s.settings.samples < frame_count s.settings = omega arith in
    let count : c.min-count.result ≡ min s.settings.samples (frame_count s.settings - (s.start + s.given * s.settings.samples)) = omega arith in
    due_piece s.phase s.settings s.id s.start s.given c.in_ok-piece.piece s.some_samples c.requires.pieces before
    (c.in_ok-piece.ensures ∙ ap (λ f. piece s.settings s.given f c.min-count.result) first ∙ ap (piece s.settings s.given (s.start + s.given * s.settings.samples)) count)
