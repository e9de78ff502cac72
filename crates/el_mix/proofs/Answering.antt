-- What is answered to an item is what is owed more.
use Rattle.std.proofs.Common.{◌≡◌, ◌<◌, ℕ, zero, suc, Bool, true, false, if◌then◌else◌, List, [], ◌∷◌, ◌++◌, length, drop, Option, Some, None, Ok, refl, sym, ap, ◌∙◌, append-nil, arith}
use Rattle.flow_model.specs.Item.{Item, is_flush_stop}
use Rattle.flow_model.specs.Call.{Call, Feed}
use Rattle.flow_model.specs.Feeding.{has_eos}
use Rattle.flow_model.specs.Owed.{answered}
use Rattle.flow_model.specs.Rule.{Fault}
use Rattle.flow_model.specs.Call.{items}
use Rattle.flow_model.specs.SinkPads.{push_calls, calls_at, flush_stops_given, InSection}
use Rattle.el_mix.specs.Reopened.{reopened, reopenings}
use Rattle.el_mix.specs.Agreed.{lowest_caps, first_refusal}
use Rattle.el_mix.specs.Mixes.{interleaved, mixes}
use Rattle.el_mix.specs.Answer.{reached, more_or, answer_in}
use Rattle.el_mix.specs.Sections.{AnswersOwe}
use Rattle.el_mix.proofs.Opening.{pad_goes_on, owes_more}

pub section_at : (n i : ℕ) (inputs : List (List Call)) → InSection n inputs → i < length inputs → flush_stops_given (calls_at i inputs) ≡ n
section_at n i [] s l = absurd (omega arith)
section_at n zero (calls ∷ inputs) s l = s.0
section_at n (suc i) (calls ∷ inputs) s l = section_at n i inputs s.1 (omega (arith, l))

-- behind EOS the lists stay
pub behind_same : (n i : ℕ) (inputs : List (List Call)) (x : Item) → InSection n inputs → is_flush_stop x ≡ false → has_eos (calls_at i inputs) ≡ true
    → reopenings n (push_calls i (Feed x ∷ []) inputs) ≡ reopenings n inputs
behind_same n i [] x s plain e = refl
behind_same n zero (calls ∷ inputs) x s plain e =
    ap (λ zs. zs ∷ reopenings n inputs) (ap (λ m. reopened m (items (calls ++ Feed x ∷ []))) (sym s.0) ∙ pad_goes_on.behind calls x plain e ∙ ap (λ m. reopened m (items calls)) s.0)
behind_same n (suc i) (calls ∷ inputs) x s plain e = ap (λ zss. reopened n (items calls) ∷ zss) (behind_same n i inputs x s.1 plain e)

pub answers_owe : AnswersOwe
answers_owe inputs i n port x ys s plain l fed answer = go (has_eos (calls_at i inputs)) refl answer
  where
    more : (m : ℕ) → m ≡ n → (o : Option Fault) → more_or o (mixes inputs 0 m) (mixes (push_calls i (Feed x ∷ []) inputs) 0 m) ≡ Ok ys
        → drop (length (mixes inputs 0 n)) (mixes (push_calls i (Feed x ∷ []) inputs) 0 n) ≡ ys
    more m is None e = ap (λ k. drop (length (mixes inputs 0 k)) (mixes (push_calls i (Feed x ∷ []) inputs) 0 k)) (sym is) ∙ ap answered e
    more m is (Some fault) e = cc

    go : (b : Bool) → has_eos (calls_at i inputs) ≡ b
        → (if b then Ok [] else answer_in (flush_stops_given (calls_at i inputs)) inputs (push_calls i (Feed x ∷ []) inputs) i) ≡ Ok ys
        → mixes (push_calls i (Feed x ∷ []) inputs) port n ≡ mixes inputs port n ++ ys
    go true h e = ap interleaved (behind_same n i inputs x s plain h) ∙ sym (append-nil (mixes inputs port n)) ∙ ap (λ zs. mixes inputs port n ++ zs) (ap answered e)
    go false h e =
        owes_more.more inputs i n port x fed
        ∙ ap (λ zs. mixes inputs port n ++ zs)
        (more (flush_stops_given (calls_at i inputs)) (section_at n i inputs s l)
        (first_refusal (reached (mixes inputs 0 (flush_stops_given (calls_at i inputs))))
        (lowest_caps (reopenings (flush_stops_given (calls_at i inputs)) (push_calls i (Feed x ∷ []) inputs))) []
        (reopened (flush_stops_given (calls_at i inputs)) (items (calls_at i (push_calls i (Feed x ∷ []) inputs))))) e)
