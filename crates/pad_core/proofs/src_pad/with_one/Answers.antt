use Rattle.std.proofs.Common.{[], ◌∷◌, ◌++◌, ◌∙◌, map}
use Rattle.pad_core.specs.Item.{Ev}
use Rattle.pad_core.specs.Counts.{AreSticky}
use Rattle.pad_core.proofs.Again.{listed, set_of}
use Rattle.pad_core.proofs.src_pad.with_one.Goals as goal

pub returns : goal.returns
returns c =
    listed c.list.result _ (AreSticky c.args.events) (map Ev c.args.events ++ Ev c.args.one ∷ [])
    (λ sticky. c.set.ensures (map Ev c.args.events)
    (set_of _ c.args.events _ _ (c.from-rest.ensures.0 ∙ c.into_vec.ensures) c.new-sticky.ensures c.set_all.ensures sticky))
    c.list.ensures
