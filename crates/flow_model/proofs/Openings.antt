-- When a run begins every element stands.
use Rattle.std.proofs.Common.{◌≡◌, List, [], ◌∷◌, map, refl, arith}
use Rattle.flow_model.specs.Link.{Span, input_of}
use Rattle.flow_model.proofs.Links.{link_input}
use Rattle.flow_model.specs.Split.{AreSplit, none, pad}
use Rattle.flow_model.specs.Standing.{Standing, AllStanding}
use Rattle.flow_model.specs.Opening.{IsUntouched, free, from_start, AllUntouched, OpeningStands}

untouched_given : (ss : List Span) → IsUntouched ss → input_of (λ p. []) ss ≡ []
untouched_given _ free = refl
untouched_given _ (from_start source) = link_input (λ p. []) source

untouched_standing : (ss : List Span) → IsUntouched ss → Standing (λ p. []) ss
untouched_standing _ free = tt
untouched_standing _ (from_start source) = (omega arith, tt, refl)

all_untouched_given : (sss : List (List Span)) → AllUntouched sss → AreSplit (map (λ spans. []) sss) (map (λ spans. []) sss) (map (input_of (λ p. [])) sss)
all_untouched_given [] u = none
all_untouched_given (ss ∷ sss) u = pad (untouched_given ss u.0) (all_untouched_given sss u.1)

all_untouched_standing : (sss : List (List Span)) → AllUntouched sss → AllStanding (λ p. []) sss
all_untouched_standing [] u = tt
all_untouched_standing (ss ∷ sss) u = (untouched_standing ss u.0, all_untouched_standing sss u.1)

pub opening_stands : OpeningStands
opening_stands plan answers s e = record { pads = λ p o. rw (s.uncut p) refl; input = all_untouched_given (plan.sinks e) (s.links e); standing = all_untouched_standing (plan.sinks e) (s.links e) }
