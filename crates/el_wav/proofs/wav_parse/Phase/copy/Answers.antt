use Rattle.el_wav.proofs.WavParseParting.{reading_again}
use Rattle.el_wav.proofs.wav_parse.Phase.copy.Goals as goal

pub returns-in_ok-copy-in-InHead : goal.returns-in_ok-copy-in-InHead
returns-in_ok-copy-in-InHead c = λ standing bytes stands.
    reading_again standing bytes c.args.self.now c.in-InHead.gathered c.in_ok-copy-in-InHead.field-0 c.in-InHead.is c.in_ok-copy-in-InHead.ensures stands
