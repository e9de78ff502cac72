use Rattle.task_elements.proofs.Roles.{no_join, takes_none, nothing_put}
use Rattle.task_elements.specs.Stands.{SinkStands}
use Rattle.task_elements.proofs.element.StreamElementTaskElement.feed.Goals as goal

pub returns-then-pad-ne0-clause-took : goal.returns-then-pad-ne0-clause-took
returns-then-pad-ne0-clause-took g c =
    takes_none g.K.Sink.bytes c.args.self.now _ c.args.pad c.args.item c.args.out.now (no_join c.args.self.now c.in_default.not-Join) c.if-pad-ne0.true

pub returns-in-Filter-clause-took : goal.returns-in-Filter-clause-took
returns-in-Filter-clause-took g c = rw (c.in-Filter.is, c.if-pad-ne0.false) c.feed-in-Filter.ensures.took

pub returns-in-Filter-clause-fell : goal.returns-in-Filter-clause-fell
returns-in-Filter-clause-fell g c = rw c.in-Filter.is c.feed-in-Filter.ensures.stays

pub returns-in-Filter-clause-refused : goal.returns-in-Filter-clause-refused
returns-in-Filter-clause-refused g c = rw (c.in-Filter.is, c.if-pad-ne0.false) c.feed-in-Filter.ensures.refused

pub returns-in-Queue-clause-took : goal.returns-in-Queue-clause-took
returns-in-Queue-clause-took g c = rw (c.in-Queue.is, c.if-pad-ne0.false) c.pass.ensures.took

pub returns-in-Queue-clause-fell : goal.returns-in-Queue-clause-fell
returns-in-Queue-clause-fell g c = rw c.in-Queue.is c.pass.ensures.stays

pub returns-in-Queue-clause-refused : goal.returns-in-Queue-clause-refused
returns-in-Queue-clause-refused g c = rw (c.in-Queue.is, c.if-pad-ne0.false) c.pass.ensures.refused

pub returns-in-Tee-clause-took : goal.returns-in-Tee-clause-took
returns-in-Tee-clause-took g c = rw (c.in-Tee.is, c.if-pad-ne0.false) c.spread.ensures.took

pub returns-in-Tee-clause-fell : goal.returns-in-Tee-clause-fell
returns-in-Tee-clause-fell g c = rw c.in-Tee.is c.spread.ensures.stays

pub returns-in-Tee-clause-refused : goal.returns-in-Tee-clause-refused
returns-in-Tee-clause-refused g c = rw (c.in-Tee.is, c.if-pad-ne0.false) c.spread.ensures.refused

pub returns-in-Join-clause-fell : goal.returns-in-Join-clause-fell
returns-in-Join-clause-fell g c = rw c.in-Join.is c.feed.ensures.stays

pub returns-in-Join-clause-refused : goal.returns-in-Join-clause-refused
returns-in-Join-clause-refused g c = rw c.in-Join.is c.feed.ensures.refused

pub returns-in-Sink-clause-took : goal.returns-in-Sink-clause-took
returns-in-Sink-clause-took g c =
    rw (c.in-Sink.is, c.if-pad-ne0.false)
    (nothing_put c.render.result (SinkStands g.K.Sink.bytes c.in-Sink.sink) (SinkStands g.K.Sink.bytes c.render.new.sink) c.args.item c.args.out.now c.render.ensures.took)

pub returns-in-Sink-clause-fell : goal.returns-in-Sink-clause-fell
returns-in-Sink-clause-fell g c = rw c.in-Sink.is c.render.ensures.fell

pub returns-in-Sink-clause-refused : goal.returns-in-Sink-clause-refused
returns-in-Sink-clause-refused g c = rw (c.in-Sink.is, c.if-pad-ne0.false) c.render.ensures.refused
