-- One character more.
use Rattle.std.proofs.Common.{◌∙◌, ◌++◌, ap}
use Rattle.std.specs.String.{string_bytes}
use Rattle.text_words.specs.Words.{mode_behind}
use Rattle.launch_text.specs.Words.{taken}
use Rattle.text_words.proofs.Kept.{behind_step}
use Rattle.launch_text.proofs.Kept.{taken_step}
use Rattle.launch_text.proofs.value.put_said.Goals as goal
use Rattle.gst_value.proofs.Characters.{shorter_by}

pub loop-character-smaller : goal.loop-character-smaller
loop-character-smaller c = shorter_by c.in-Some.character c.loop-character.characters.rest.now c.take.new.self.rest.now c.in-Some.ensures

pub loop-character-preserved : goal.loop-character-preserved
loop-character-preserved c = (
  ap (λ n. string_bytes c.put_kept.new.into ++ taken c.args.marked n c.take.new.self.rest.now) c.after_character-mode.ensures
      ∙ taken_step c.args.marked c.loop-character.mode c.in-Some.character (string_bytes c.loop-character.into) (string_bytes c.put_kept.new.into) c.loop-character.characters.rest.now c.take.new.self.rest.now c.in-Some.ensures c.in_ok-put_kept.ensures
      ∙ c.loop-character.invariant.0,
  ap (λ n. mode_behind n c.take.new.self.rest.now) c.after_character-mode.ensures
      ∙ behind_step c.loop-character.mode c.in-Some.character c.loop-character.characters.rest.now c.take.new.self.rest.now c.in-Some.ensures
      ∙ c.loop-character.invariant.1,
)
