use Rattle.std.proofs.Common.{None}
use Rattle.flow_model.specs.Call.{Feed}
use Rattle.task_elements.proofs.Filters.{ruled_still, filter_takes, put_none, refuses_by}
use Rattle.task_elements.proofs.Refusing.{told_cause, told_refusal}
use Rattle.task_elements.proofs.filter.StreamFilter.feed.Goals as goal

pub invariant_of-self : goal.invariant_of-self
invariant_of-self c = record {
  ruled = ruled_still c.args.self.now.filter c.feed.new.self (Feed c.args.item) c.args.out.now c.feed.new.out c.feed.result c.args.self.now.ruled c.feed.ensures.fed c.feed.ensures.stays;
}

pub returns-in-Ok-clause-took : goal.returns-in-Ok-clause-took
returns-in-Ok-clause-took c =
    let put = c.in-Ok.ensures.fed in
    filter_takes c.args.self.now.filter c.feed.new.self c.args.item c.args.out.now c.feed.new.out put
    (put_none c.args.self.now.filter c.feed.new.self c.args.item c.args.out.now c.feed.new.out c.args.self.now.ruled c.requires.no_flush put)

pub returns-in-Err-clause-refused : goal.returns-in-Err-clause-refused
returns-in-Err-clause-refused c = λ behavior took p.
    told_refusal behavior took 0 c.args.item c.in-Err.fault _ c.fault.ensures (refuses_by c.args.self.now.filter c.args.item c.in-Err.fault c.in-Err.ensures.fault behavior took p)

pub returns-in-Err-clause-cause : goal.returns-in-Err-clause-cause
returns-in-Err-clause-cause c = told_cause c.in-Err.fault _ None c.fault.ensures
