use Rattle.el_settings.proofs.Faults.{late_settled}
use Rattle.el_settings.proofs.checking.ramp_test_src.Goals as goal

pub returns-then-ends_too_late : goal.returns-then-ends_too_late
returns-then-ends_too_late c =
    late_settled c.args.props.now c.too_late.result c.number_in-buffers.result c.number_in-samples.result c.number_in-rate.result c.number_in-buffers.ensures.given
    c.number_in-samples.ensures.given c.number_in-rate.ensures.given (rw c.if-ends_too_late.true at c.ends_too_late.ensures) c.too_late.ensures

pub invariant_of-result : goal.invariant_of-result
invariant_of-result c = record {
  few_buffers = c.number_in-buffers.ensures.few;
  some_samples = c.number_in-samples.ensures.some;
  few_samples = c.number_in-samples.ensures.few;
  some_rate = c.number_in-rate.ensures.some;
  rate_in_range = c.number_in-rate.ensures.few;
  some_channels = c.number_in-channels.ensures.some;
  few_channels = c.number_in-channels.ensures.few;
  few_gaps = c.number_in-gap_every.ensures.few;
  times_fit = rw c.if-ends_too_late.false at c.ends_too_late.ensures;
}

pub returns : goal.returns
returns c = (
  c.number_in-buffers.ensures.given,
  c.number_in-samples.ensures.given,
  c.number_in-rate.ensures.given,
  c.number_in-channels.ensures.given,
  c.number_in-gap_every.ensures.given,
  c.in_ok-title.ensures,
)
