use Rattle.std.proofs.Common.{refl, sym, ap, ◌∙◌}
use Rattle.gst_caps.specs.Accepts.{fixation, intersection}
use Rattle.el_convert.proofs.Choosing.{chosen_raw, never_other, raw_format, choice_known}
use Rattle.el_convert.proofs.stream.stream_of.Goals as goal

pub returns-in_default-clause-fault : goal.returns-in_default-clause-fault
returns-in_default-clause-fault c = (
  (choice_known c.args.offered c.args.allowed.now _ _ _ c.requires.format c.requires.rate c.requires.channels
      ∙ sym (ap (λ o. fixation (intersection o c.args.allowed.now)) c.in_ok-options.ensures) ∙ sym c.in_ok-chosen.ensures ∙ c.in_default.is),
  refl,
  c.in_ok-copy.ensures,
)

pub unreachable-requires : goal.unreachable-requires
unreachable-requires c =
    let is = sym c.in-Some.is ∙ c.in_ok-chosen.ensures ∙ ap (λ o. fixation (intersection o c.args.allowed.now)) c.in_ok-options.ensures in
    never_other c.in-Some.chosen
    (chosen_raw c.args.input.format c.args.input.rate c.args.input.channels c.args.allowed.now c.in-Some.chosen c.requires.raw c.args.input.some_rate c.args.input.rate_in_range c.args.input.some_channels c.args.input.channels_in_range is)
    c.in_default-from_fixed.ensures.not_audio

pub invariant_of-result : goal.invariant_of-result
invariant_of-result c =
    let is = sym c.in-Some.is ∙ c.in_ok-chosen.ensures ∙ ap (λ o. fixation (intersection o c.args.allowed.now)) c.in_ok-options.ensures in
    let audio =
    chosen_raw c.args.input.format c.args.input.rate c.args.input.channels c.args.allowed.now c.in-Some.chosen c.requires.raw c.args.input.some_rate c.args.input.rate_in_range c.args.input.some_channels c.args.input.channels_in_range is in
    record {
      format_in = c.requires.format;
      rate_in = c.requires.rate;
      channels_in = c.requires.channels;
      raw_in = c.requires.raw;
      format_out = c.in-Ok.ensures.format;
      channels_out = c.in-Ok.ensures.channels;
      raw_out = raw_format c.in-Some.chosen c.in-Ok.output.format audio.media c.in-Ok.ensures.format;
    }

pub returns-clause-chosen : goal.returns-clause-chosen
returns-clause-chosen c =
    choice_known c.args.offered c.args.allowed.now _ _ _ c.requires.format c.requires.rate c.requires.channels
    ∙ sym (ap (λ o. fixation (intersection o c.args.allowed.now)) c.in_ok-options.ensures) ∙ sym c.in_ok-chosen.ensures ∙ c.in-Some.is
