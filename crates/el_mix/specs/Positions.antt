-- How far an element has come in what it puts out.
use Rattle.std.specs.Prelude.{◌≡◌, None}
use Rattle.el_mix.specs.declared.position.Position.{Position}

pub record Begins (at : Position) : Type 0 where
  pub open_is : at.open ≡ None
  pub next_is : at.next ≡ 0
  pub reached_is : at.reached ≡ 0
