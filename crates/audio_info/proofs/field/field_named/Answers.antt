use Rattle.std.proofs.Common.{ℕ, List, Option, sym, ap}
use Rattle.std.specs.Option.{option_map}
use Rattle.std.specs.Str.{bytes_eq}
use Rattle.gst_value.specs.declared.one.One.{One}
use Rattle.audio_info.proofs.Fields.{found_at, passed_at}
use Rattle.audio_info.proofs.field.field_named.Goals as goal

pub returns-then-eq : goal.returns-then-eq
returns-then-eq c =
    sym (ap (λ (o : Option (List ℕ × One)). option_map (λ f. f.1) o) (found_at (λ f. bytes_eq f.0 c.args.name.now) c.args.caps.now.fields c.loop-place.place (c.in_ok-found.found.now, c.in_ok-found.value.now) c.loop-place.invariant c.in_ok-found.ensures c.if-eq.ensures))

pub loop-place-preserved : goal.loop-place-preserved
loop-place-preserved c =
    passed_at (λ f. bytes_eq f.0 c.args.name.now) c.args.caps.now.fields c.loop-place.place (c.in_ok-found.found.now, c.in_ok-found.value.now) c.loop-place.invariant c.in_ok-found.ensures c.if-eq.ensures
