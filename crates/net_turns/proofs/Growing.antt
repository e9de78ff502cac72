-- More crosses the pads of a moment, and more is put out there, behind each step of a task.
use Rattle.std.proofs.Common.{◌≡◌, ◌⊎◌, ◌++◌, ℕ, Bool, true, false, if◌then◌else◌, List, [], ◌∷◌, refl, sym, ap, ◌∙◌, subst, inl, inr, append_assoc}
use Rattle.std.specs.Prelude.{◌==◌}
use Rattle.std.proofs.lemmas.Bool.{cases_eq}
use Rattle.flow_model.specs.Call.{Call, Feed}
use Rattle.flow_model.specs.Item.{Item}
use Rattle.flow_model.specs.Prefix.{IsPrefix}
use Rattle.flow_model.specs.SinkPads.{push_calls}
use Rattle.flow_model.proofs.Prefixes.{append_prefix, prefix_append, prefix_refl, prefix_trans}
use Rattle.flow_model.specs.Moment.{Moment, put_at}
use Rattle.flow_model.specs.Step.{crossed, fed, laid, passed, sent, taken}
use Rattle.flow_model.proofs.Inputs.{at_here, at_other}
use Rattle.net_turns.specs.Net.{GoesOn}

-- a moment goes on to itself, and to what one to which it goes on goes on
pub stays_so : (m : Moment) → GoesOn m m
stays_so m = record { plan = refl; answers = refl; crossed = λ q. prefix_refl (m.history q); due = λ q. prefix_refl (m.history q ++ m.waits q) }

pub goes_both : {a b c : Moment} → GoesOn a b → GoesOn b c → GoesOn a c
goes_both x y = record {
  plan = y.plan ∙ x.plan;
  answers = y.answers ∙ x.answers;
  crossed = λ q. prefix_trans (x.crossed q) (y.crossed q);
  due = λ q. prefix_trans (x.due q) (y.due q);
}

-- the first item that waits at a pad crosses it
module _ (m : Moment) (p : ℕ) (x : Item) (rest : List Item) (waited : m.waits p ≡ x ∷ rest) where
  longer : (q : ℕ) → IsPrefix (m.history q) (put_at p (m.history p ++ x ∷ []) m.history q)
  longer q = by (cases_eq q p)
    where
      by : (q ≡ p) ⊎ (q ≡ p → ⊥) → IsPrefix (m.history q) (put_at p (m.history p ++ x ∷ []) m.history q)
      by (inl same) =
          subst (λ (k : ℕ). IsPrefix (m.history k) (put_at p (m.history p ++ x ∷ []) m.history k)) (sym same)
          (subst (λ (l : List Item). IsPrefix (m.history p) l) (sym (at_here p (m.history p ++ x ∷ []) m.history)) (prefix_append (m.history p) (x ∷ [])))
      by (inr other) = subst (λ (l : List Item). IsPrefix (m.history q) l) (sym (at_other p (m.history p ++ x ∷ []) m.history q other)) (prefix_refl (m.history q))

  -- it was put out before
  put_out : (q : ℕ) → put_at p (m.history p ++ x ∷ []) m.history q ++ put_at p rest m.waits q ≡ m.history q ++ m.waits q
  put_out q = by (cases_eq q p)
    where
      by : (q ≡ p) ⊎ (q ≡ p → ⊥) → put_at p (m.history p ++ x ∷ []) m.history q ++ put_at p rest m.waits q ≡ m.history q ++ m.waits q
      by (inl same) =
          subst (λ (k : ℕ). put_at p (m.history p ++ x ∷ []) m.history k ++ put_at p rest m.waits k ≡ m.history k ++ m.waits k) (sym same)
          (ap (λ (l : List Item). l ++ put_at p rest m.waits p) (at_here p (m.history p ++ x ∷ []) m.history)
          ∙ ap (λ (l : List Item). (m.history p ++ x ∷ []) ++ l) (at_here p rest m.waits)
          ∙ append_assoc (m.history p) (x ∷ []) rest
          ∙ ap (λ (l : List Item). m.history p ++ l) (sym waited))
      by (inr other) =
          ap (λ (l : List Item). l ++ put_at p rest m.waits q) (at_other p (m.history p ++ x ∷ []) m.history q other)
          ∙ ap (λ (l : List Item). m.history q ++ l) (at_other p rest m.waits q other)

  pub crossed_on : GoesOn m (crossed p x rest m)
  crossed_on = record {
    plan = refl;
    answers = refl;
    crossed = longer;
    due = λ q. subst (λ (l : List Item). IsPrefix (m.history q ++ m.waits q) l) (sym (put_out q)) (prefix_refl (m.history q ++ m.waits q));
  }

-- an element puts out more
fed_on : (m : Moment) (n : ℕ) (took : List (List Call)) (out : ℕ → List Item) → GoesOn m (fed n took out m)
fed_on m n took out = record { plan = refl; answers = refl; crossed = λ q. prefix_refl (m.history q); due = λ q. more q (m.plan.owner q == n) }
  where
    more : (q : ℕ) (own : Bool) → IsPrefix (m.history q ++ m.waits q) (m.history q ++ (if own then m.waits q ++ out (m.plan.port q) else m.waits q))
    more q true = append_prefix (m.history q) (prefix_append (m.waits q) (out (m.plan.port q)))
    more q false = prefix_refl (m.history q ++ m.waits q)

-- what stands in inlets is another
laid_on : (m : Moment) (n : ℕ) (held : List (List Call)) → GoesOn m (laid n held m)
laid_on m n held = record { plan = refl; answers = refl; crossed = λ q. prefix_refl (m.history q); due = λ q. prefix_refl (m.history q ++ m.waits q) }

pub passed_on : (m : Moment) (p : ℕ) (x : Item) (rest : List Item) (n port : ℕ) (out : ℕ → List Item) → m.waits p ≡ x ∷ rest → GoesOn m (passed p x rest n port out m)
passed_on m p x rest n port out waited = goes_both (crossed_on m p x rest waited) (fed_on (crossed p x rest m) n (push_calls port (Feed x ∷ []) (m.took n)) out)

pub sent_on : (m : Moment) (p : ℕ) (x : Item) (rest : List Item) (n port : ℕ) → m.waits p ≡ x ∷ rest → GoesOn m (sent p x rest n port m)
sent_on m p x rest n port waited = goes_both (crossed_on m p x rest waited) (laid_on (crossed p x rest m) n (push_calls port (Feed x ∷ []) (m.held n)))

pub taken_on : (m : Moment) (n port : ℕ) (c : Call) (rest : List (List Call)) (out : ℕ → List Item) → GoesOn m (taken n port c rest out m)
taken_on m n port c rest out = goes_both (laid_on m n rest) (fed_on (laid n rest m) n (push_calls port (c ∷ []) (m.took n)) out)
