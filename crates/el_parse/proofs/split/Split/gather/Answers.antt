use Rattle.std.proofs.Common.{◌<◌, ◌+◌, ◌*◌, ◌++◌, length, ap, sym, refl, ◌∙◌, append-nil, arith}
use Rattle.el_parse.proofs.Grouping.{none_whole, all_wait}
use Rattle.el_parse.proofs.split.Split.gather.Goals as goal

pub returns-then-as_slice-size-clause-answer : goal.returns-then-as_slice-size-clause-answer
returns-then-as_slice-size-clause-answer c =
    let less : length c.args.self.now.waiting + length c.args.bytes < c.args.self.now.frames * c.width.result = rw (← c.as_slice.ensures, ← c.as_slice-2.ensures.bytes) c.if-as_slice-size.true in
    rw (none_whole c.args.self.now.waiting c.args.bytes c.args.self.now.frames c.width.result _ less c.width.ensures.bytes) refl

pub returns-then-as_slice-size-clause-out : goal.returns-then-as_slice-size-clause-out
returns-then-as_slice-size-clause-out c =
    let less : length c.args.self.now.waiting + length c.args.bytes < c.args.self.now.frames * c.width.result = rw (← c.as_slice.ensures, ← c.as_slice-2.ensures.bytes) c.if-as_slice-size.true in
    rw (none_whole c.args.self.now.waiting c.args.bytes c.args.self.now.frames c.width.result _ less c.width.ensures.bytes) (sym (append-nil c.args.out.now))

pub returns-then-as_slice-size-clause-reached : goal.returns-then-as_slice-size-clause-reached
returns-then-as_slice-size-clause-reached c =
    let less : length c.args.self.now.waiting + length c.args.bytes < c.args.self.now.frames * c.width.result = rw (← c.as_slice.ensures, ← c.as_slice-2.ensures.bytes) c.if-as_slice-size.true in
    rw (none_whole c.args.self.now.waiting c.args.bytes c.args.self.now.frames c.width.result _ less c.width.ensures.bytes) (sym c.requires)

pub returns-then-as_slice-size-clause-next : goal.returns-then-as_slice-size-clause-next
returns-then-as_slice-size-clause-next c =
    let less : length c.args.self.now.waiting + length c.args.bytes < c.args.self.now.frames * c.width.result = rw (← c.as_slice.ensures, ← c.as_slice-2.ensures.bytes) c.if-as_slice-size.true in
    rw (none_whole c.args.self.now.waiting c.args.bytes c.args.self.now.frames c.width.result _ less c.width.ensures.bytes) (omega arith)

pub returns-then-as_slice-size-clause-waiting : goal.returns-then-as_slice-size-clause-waiting
returns-then-as_slice-size-clause-waiting c =
    let less : length c.args.self.now.waiting + length c.args.bytes < c.args.self.now.frames * c.width.result = rw (← c.as_slice.ensures, ← c.as_slice-2.ensures.bytes) c.if-as_slice-size.true in
    rw (none_whole c.args.self.now.waiting c.args.bytes c.args.self.now.frames c.width.result _ less c.width.ensures.bytes)
    (c.in_ok-push.ensures.ok ∙ ap (λ zs. c.args.self.now.waiting ++ zs) c.as_slice-then-as_slice-size.ensures.bytes ∙ all_wait _ _)
