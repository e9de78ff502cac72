-- An element with several sink pads that is fed, kind by kind.
use Rattle.std.proofs.Common.{◌≡◌, ℕ, List, refl}
use Rattle.gst_item.specs.declared.out.Out.{Out}
use Rattle.flow_model.specs.Item.{Item}
use Rattle.el_join.specs.declared.concat.Concat.{Concat}
use Rattle.el_join.specs.Joins.{JoinPuts as ConcatPuts, sink_pads as concat_pads}
use Rattle.el_mix.specs.declared.mix.Mix.{Mix}
use Rattle.el_mix.specs.Relation.{MixPuts, sink_pads as mix_pads}
use Rattle.el_set.specs.declared.join.JoinElement.{JoinElement}
use Rattle.el_set.specs.declared.join.JoinElement.TheVariants as joins
use Rattle.el_set.specs.Joins.{JoinPuts}

pub concat_puts : (element : JoinElement) (old new : Concat) (pad : ℕ) (item : Item) (out out' : List Out) → element ≡ joins.Concat old → concat_pads new ≡ concat_pads old
    → ConcatPuts old new pad item out out' → JoinPuts element (joins.Concat new) pad item out out'
concat_puts element old new pad item out out' is pads p =
    rw is (record { more = p.more; outs = p.outs; free = p.free; owed = p.owed; stands = p.stands; rule = refl; answers = refl; pads = pads })

pub mix_puts : (element : JoinElement) (old new : Mix) (pad : ℕ) (item : Item) (out out' : List Out) → element ≡ joins.Mix old → mix_pads new ≡ mix_pads old
    → MixPuts old new pad item out out' → JoinPuts element (joins.Mix new) pad item out out'
mix_puts element old new pad item out out' is pads p =
    rw is (record { more = p.more; outs = p.outs; free = p.free; owed = p.owed; stands = p.stands; rule = refl; answers = refl; pads = pads })
