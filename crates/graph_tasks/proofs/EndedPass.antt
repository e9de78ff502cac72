-- A source owes EOS.
use Rattle.std.proofs.Common.{◌≡◌, ℕ, Bool, true, false, List, Some, refl, sym, ap, ◌∙◌}
use Rattle.flow_model.specs.Call.{Call}
use Rattle.flow_model.specs.Rule.{Rule}
use Rattle.flow_model.specs.Section.{first_section}
use Rattle.flow_model.specs.Over.{list_ended}
use Rattle.el_settings.specs.Asked.{is_sink, is_source}
use Rattle.el_settings.specs.declared.settings.Settings.{Settings}
use Rattle.el_settings.proofs.Roles.{end_no_source}
use Rattle.el_set.specs.Made.{list_of}
use Rattle.graph_core.specs.Elements.{Made}
use Rattle.graph_parts.specs.Plans.{tight_rule}
use Rattle.graph_tasks.proofs.EndedEos.{source_ends}

-- a source is no sink
source_alone : (s : Settings) → is_source s ≡ true → is_sink s ≡ false
source_alone s is = go (is_sink s) refl
  where
    not_both : true ≡ false → ⊥
    not_both e = cc

    go : (b : Bool) → is_sink s ≡ b → b ≡ false
    go true ends = absurd (not_both (sym is ∙ end_no_source s ends))
    go false other = refl

pub source_rule : (m : Made) (n : ℕ) (content : List ℕ) → is_source m.settings ≡ true
    → tight_rule (Some m) n content ≡ (λ inputs port. first_section (list_of m.settings n content))
source_rule m n content is = rw (source_alone m.settings is, is) refl

pub source_passes : (m : Made) (n : ℕ) (content : List ℕ) (took : List (List Call)) (port : ℕ) → is_source m.settings ≡ true
    → list_ended (tight_rule (Some m) n content took port 0) ≡ true
source_passes m n content took port is =
    ap (λ (r : Rule). list_ended (r took port 0)) (source_rule m n content is) ∙ source_ends m.settings n content is
