use Rattle.el_wav.proofs.wav_gathered.Gathered.read.Goals as goal

pub returns-clause-head : goal.returns-clause-head
returns-clause-head c = λ head whole bytes has. c.in_ok-answer.ensures.head head whole bytes (c.in_ok-reader.ensures bytes has.given) has.fine has.cut

pub returns-clause-answer : goal.returns-clause-answer
returns-clause-answer c = λ bytes has. c.in_ok-answer.ensures.answer bytes (c.in_ok-reader.ensures bytes has.given)

pub returns-clause-all : goal.returns-clause-all
returns-clause-all c = λ n more bytes has. c.in_ok-answer.ensures.all n more bytes (c.in_ok-reader.ensures bytes has.given)
