-- Words ask for one run, or are refused for one fault.
use Rattle.std.proofs.Common.{◌≡◌, ℕ, true, false, List, inl, inr, sym, ap, ◌∙◌, subst, arith}
use Rattle.launch_text.specs.declared.tree.Tree.{Tree}
use Rattle.graph_core.specs.Graph.{IsFault, IsGraph}
use Rattle.graph_core.specs.Laws.{NeverBoth as NeverBothOfTree, OneFault, OneGraph, AreSame}
use Rattle.launch_text.specs.declared.fault.LineKind.{LineKind}
use Rattle.run_report.specs.declared.report.Fault.TheVariants.{BadLine}
use Rattle.run_words.specs.Said.{takes_words}
use Rattle.line_read.specs.Laws.{AreAlike, NeverBoth, OneRefusal, OneRequest}
use Rattle.line_read.specs.Lines.{HasTree, line_of}
use Rattle.line_read.specs.Refusals.{IsRefusal, RefusesGraph, RefusesLine, StopsAt, graph_refusal, refused}
use Rattle.line_read.specs.Requests.{IsRequest}
use Rattle.line_read.specs.declared.refusal.Refusal.{Refusal}
use Rattle.line_read.specs.declared.request.Request.{Request}
use Rattle.line_read.proofs.Stops.{one_stop}

taken_not : (words : List (List ℕ)) → takes_words words ≡ true → takes_words words ≡ false → ⊥
taken_not words taken untaken = no (sym taken ∙ untaken)
  where
    no : true ≡ false → ⊥
    no e = cc

same_tree : (words : List (List ℕ)) (tree other : Tree) → HasTree words tree → HasTree words other → tree ≡ other
same_tree words tree other has is = has.only other is.stands

pub never_both : NeverBothOfTree → NeverBoth
never_both both = λ words request refusal asks why. by words request refusal asks why
  where
    by : (words : List (List ℕ)) (request : Request) (refusal : Refusal) → IsRequest words request → IsRefusal words refusal → ⊥
    by words request refusal asks (inl h) = taken_not words asks.has_tree.line.taken h.untaken
    by words request refusal asks (inr (inl h)) = asks.has_tree.line.some h.empty
    by words request refusal asks (inr (inr (inl h))) = h.none asks.tree asks.has_tree.short asks.has_tree.stands
    by words request refusal asks (inr (inr (inr h))) = h.found (both asks.tree request.graph h.fault asks.graph (subst (λ t. IsFault t h.fault) (same_tree words h.tree asks.tree h.has_tree asks.has_tree) h.is_fault))

-- a text stops at one place
stops_once : (line : List ℕ) (place other : ℕ) (kind reason : LineKind) → StopsAt line place kind → StopsAt line other reason → (place ≡ other) × (kind ≡ reason)
stops_once line place other kind reason (inl h) (inl k) = (h.1 ∙ sym k.1, h.2 ∙ sym k.2)
stops_once line place other kind reason (inl h) (inr k) = absurd (omega (arith, h.0, k.0))
stops_once line place other kind reason (inr h) (inl k) = absurd (omega (arith, h.0, k.0))
stops_once line place other kind reason (inr h) (inr k) = one_stop line place other kind reason h.2 k.2

one_line : (words : List (List ℕ)) (one other : Refusal) → RefusesLine words one → RefusesLine words other → one ≡ other
one_line words one other h k = let same = stops_once (line_of words) h.place k.place h.kind k.kind h.stops k.stops in h.answer ∙ (λ i. refused 2 (BadLine (same.0 i) (same.1 i))) ∙ sym k.answer

one_graph : OneFault → (words : List (List ℕ)) (one other : Refusal) → RefusesGraph words one → RefusesGraph words other → one ≡ other
one_graph fault words one other h k = by (fault k.tree h.fault k.fault (subst (λ t. IsFault t h.fault) (same_tree words h.tree k.tree h.has_tree k.has_tree) h.is_fault) k.is_fault)
  where
    by : AreSame h.fault k.fault → one ≡ other
    by (inl same) = h.answer ∙ ap graph_refusal same ∙ sym k.answer
    by (inr (inl memory)) = absurd (h.found memory)
    by (inr (inr memory)) = absurd (k.found memory)

-- what has a tree is not refused before its graph
no_tree : (words : List (List ℕ)) (refusal : Refusal) (tree : Tree) → HasTree words tree → RefusesLine words refusal → ⊥
no_tree words refusal tree has h = h.none tree has.short has.stands

pub one_refusal : OneFault → OneRefusal
one_refusal fault = λ words one other h k. by words one other h k
  where
    by : (words : List (List ℕ)) (one other : Refusal) → IsRefusal words one → IsRefusal words other → one ≡ other
    by words one other (inl h) (inl k) = h.answer ∙ sym k.answer
    by words one other (inl h) (inr (inl k)) = absurd (taken_not words k.taken h.untaken)
    by words one other (inl h) (inr (inr (inl k))) = absurd (taken_not words k.line.taken h.untaken)
    by words one other (inl h) (inr (inr (inr k))) = absurd (taken_not words k.has_tree.line.taken h.untaken)
    by words one other (inr (inl h)) (inl k) = absurd (taken_not words h.taken k.untaken)
    by words one other (inr (inl h)) (inr (inl k)) = h.answer ∙ sym k.answer
    by words one other (inr (inl h)) (inr (inr (inl k))) = absurd (k.line.some h.empty)
    by words one other (inr (inl h)) (inr (inr (inr k))) = absurd (k.has_tree.line.some h.empty)
    by words one other (inr (inr (inl h))) (inl k) = absurd (taken_not words h.line.taken k.untaken)
    by words one other (inr (inr (inl h))) (inr (inl k)) = absurd (h.line.some k.empty)
    by words one other (inr (inr (inl h))) (inr (inr (inl k))) = one_line words one other h k
    by words one other (inr (inr (inl h))) (inr (inr (inr k))) = absurd (no_tree words one k.tree k.has_tree h)
    by words one other (inr (inr (inr h))) (inl k) = absurd (taken_not words h.has_tree.line.taken k.untaken)
    by words one other (inr (inr (inr h))) (inr (inl k)) = absurd (h.has_tree.line.some k.empty)
    by words one other (inr (inr (inr h))) (inr (inr (inl k))) = absurd (no_tree words other h.tree h.has_tree k)
    by words one other (inr (inr (inr h))) (inr (inr (inr k))) = one_graph fault words one other h k

pub one_request : OneGraph → OneRequest
one_request graph = λ words one other h k. by words one other h k
  where
    by : (words : List (List ℕ)) (one other : Request) → IsRequest words one → IsRequest words other → AreAlike one other
    by words one other h k =
        let same = graph k.tree one.graph other.graph (subst (λ t. IsGraph t one.graph) (same_tree words h.tree k.tree h.has_tree k.has_tree) h.graph) k.graph in
        record { script = h.script ∙ sym k.script; threads = h.threads ∙ sym k.threads; order = h.order ∙ sym k.order; quiet = h.quiet ∙ sym k.quiet; elements = same.0; links = same.1 }
