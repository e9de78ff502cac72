use Rattle.std.proofs.Common.{◌≡◌, ◌-◌, ◌++◌, length, drop, sym, ap, ◌∙◌, arith, rules}
use Rattle.std.proofs.lemmas.List.{nil_from_length}
use Rattle.wav_format.specs.Format.{AreBytes}
use Rattle.wav_format.proofs.Taken.{answer_on, given_on}
use Rattle.wav_format.proofs.reader.HeadReader.read.Goals as goal

pub returns-then-is_empty-clause-answer : goal.returns-then-is_empty-clause-answer
returns-then-is_empty-clause-answer c =
    let old = c.args.self.now in
    let more = c.args.more.now in
    let fresh : AreBytes more = λ i. let f = c.type_inv.more i in omega arith in
    let empty : length old.bytes.items ≡ 0 = search rules in
    let unread = c.behind-unread.ensures ∙ ap (λ n. drop n more) c.saturating_sub.ensures in
    answer_on old more c.behind-unread.result.now fresh (unread ∙ ap (λ xs. xs ++ drop (old.standing.place - old.count) more) (sym (nil_from_length old.bytes.items empty))) c.read_left.result c.read_left.ensures.answer

pub returns-then-is_empty-clause-given : goal.returns-then-is_empty-clause-given
returns-then-is_empty-clause-given c =
    let old = c.args.self.now in
    let more = c.args.more.now in
    let fresh : AreBytes more = λ i. let f = c.type_inv.more i in omega arith in
    let empty : length old.bytes.items ≡ 0 = search rules in
    let unread = c.behind-unread.ensures ∙ ap (λ n. drop n more) c.saturating_sub.ensures in
    given_on old more c.behind-unread.result.now fresh (unread ∙ ap (λ xs. xs ++ drop (old.standing.place - old.count) more) (sym (nil_from_length old.bytes.items empty))) c.read_left.result c.read_left.new.self c.in-Some.count c.in-Some.ensures.1 c.read_left.ensures.given

pub returns-clause-answer : goal.returns-clause-answer
returns-clause-answer c =
    let old = c.args.self.now in
    let more = c.args.more.now in
    let fresh : AreBytes more = λ i. let f = c.type_inv.more i in omega arith in
    let unread = c.behind-unread.ensures ∙ ap (λ n. drop n more) c.saturating_sub.ensures in
    let joined = c.deref-2.ensures.value ∙ c.in_ok-extend_from_slice.ensures.items ∙ ap (λ xs. xs ++ c.behind-unread.result.now) (c.in_ok-left.ensures.items ∙ c.deref.ensures.value) ∙ ap (λ xs. old.bytes.items ++ xs) unread in
    answer_on old more c.deref-2.result.now fresh joined c.read_left-2.result c.read_left-2.ensures.answer

pub returns-clause-given : goal.returns-clause-given
returns-clause-given c =
    let old = c.args.self.now in
    let more = c.args.more.now in
    let fresh : AreBytes more = λ i. let f = c.type_inv.more i in omega arith in
    let unread = c.behind-unread.ensures ∙ ap (λ n. drop n more) c.saturating_sub.ensures in
    let joined = c.deref-2.ensures.value ∙ c.in_ok-extend_from_slice.ensures.items ∙ ap (λ xs. xs ++ c.behind-unread.result.now) (c.in_ok-left.ensures.items ∙ c.deref.ensures.value) ∙ ap (λ xs. old.bytes.items ++ xs) unread in
    given_on old more c.deref-2.result.now fresh joined c.read_left-2.result c.read_left-2.new.self c.in-Some.count c.in-Some.ensures.1 c.read_left-2.ensures.given
