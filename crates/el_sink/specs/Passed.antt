-- For which lists a fakesink stands: it knows whether their stream has ended.
use Rattle.std.specs.Prelude.{◌≡◌, List}
use Rattle.flow_model.specs.Item.{Item}
use Rattle.el_sink.specs.declared.fake_sink.FakeSink.{FakeSink}
use Rattle.el_sink.specs.Ended.{has_ended}

pub record Passed (fake : FakeSink) (list : List Item) : Type 0 where
  pub ended_with : fake.ended ≡ has_ended list
