-- Ends that are given back one after the other.
use Rattle.std.proofs.Common.{◌≡◌, List, [], ◌∷◌, ◌++◌, Option, sym, ap, ◌∙◌, subst, append_assoc}
use Rattle.std.specs.Prelude.{map, option_map}
use Rattle.std.proofs.lemmas.List.{append-nil}
use Rattle.gst_outside.specs.Seen.{Seen}
use Rattle.run_files.specs.Closing.{Closes}
use Rattle.run_files.specs.Ends.{Known, present}
use Rattle.run_files.proofs.Closes.{closes_none, closes_join}
use Rattle.run_files.proofs.Lists.{present_more}

-- of all ends these are left, and those behind them were given back
pub record Closing {E : Type 0} (known : E → Known) (all rest : List (Option E)) (before now : Seen) : Type 0 where
  pub done : List (Option E)
  pub parts : all ≡ rest ++ done
  pub closes : Closes (present (map (option_map known) done)) before now

module _ {E : Type 0} (known : E → Known) (all : List (Option E)) (before : Seen) where
  pub closing_none : Closing known all all before before
  closing_none = record { done = []; parts = sym (append-nil all); closes = closes_none before }

  -- one more is given back
  pub closing_more : (rest left : List (Option E)) (end : Option E) (now after : Seen) → Closing known all rest before now → rest ≡ left ++ end ∷ [] → Closes (present (option_map known end ∷ [])) now after → Closing known all left before after
  closing_more rest left end now after h last one = record {
    done = end ∷ h.done;
    parts = h.parts ∙ ap (λ (es : List (Option E)). es ++ h.done) last ∙ append_assoc left (end ∷ []) h.done;
    closes = subst (λ (es : List Known). Closes es before after) (sym (present_more (option_map known end) (map (option_map known) h.done)))
        (closes_join (present (map (option_map known) h.done)) (present (option_map known end ∷ [])) before now after h.closes one);
  }

  -- none is left
  pub closing_all : (rest : List (Option E)) (after : Seen) → rest ≡ [] → Closing known all rest before after → Closes (present (map (option_map known) all)) before after
  closing_all rest after none h =
      subst (λ (es : List (Option E)). Closes (present (map (option_map known) es)) before after) (sym (h.parts ∙ ap (λ (es : List (Option E)). es ++ h.done) none)) h.closes
