use Rattle.std.proofs.Common.{◌≡◌, ◌+◌, ◌++◌, List, ℕ, length, take, ap, ◌∙◌, arith}
use Rattle.std.proofs.lemmas.Simd.{take_more_put_chunk}
use Rattle.el_law.proofs.recode.put_sixteen.Goals as goal

pub returns-clause-put : goal.returns-clause-put
returns-clause-put c =
    let size : length c.mulaw_enc_sixteen.result ≡ 16 = ap length c.mulaw_enc_sixteen.ensures in
    take_more_put_chunk c.args.place c.args.codes.now c.mulaw_enc_sixteen.result (c.args.place + 16) (omega (arith, size)) c.requires
    ∙ ap (λ (t : List ℕ). take c.args.place c.args.codes.now ++ t) c.mulaw_enc_sixteen.ensures
