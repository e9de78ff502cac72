-- What is told of a text is what its words give.
use Rattle.std.proofs.Common.{◌≡◌, ℕ, List, [], ◌∷◌, ◌++◌, true, Some, None, Result, Ok, Err, refl, sym, ap, ◌∙◌, append-nil}
use Rattle.std.proofs.lemmas.Option.{same_Some}
use Rattle.text_words.specs.Values.{◌>>=◌}
use Rattle.launch_text.specs.Parsed.{Answers, Told}
use Rattle.launch_text.specs.Reading.{IsStuck, Splits, State, finish, none, run, step, tree_of}
use Rattle.launch_text.specs.Words.{is_start}
use Rattle.launch_text.specs.declared.fault.LineFault.{LineFault}
use Rattle.launch_text.specs.declared.fault.LineFault.TheVariants.{BadLine, OutOfMemory}
use Rattle.launch_text.specs.declared.tree.Tree.{Tree}
use Rattle.launch_text.proofs.Splitting.{first_is, no_words, run_append, run_none, some_words, unique}
use Rattle.gst_value.proofs.Basics.{none_some}

stuck_none : (s : State) (rest : List ℕ) (ws : List (List ℕ)) → IsStuck s rest → is_start rest ≡ true → Splits ws rest [] → (run (Some s) ws >>= finish) ≡ None
stuck_none s [] ws h start k = rw (no_words ws k) h
stuck_none s (b ∷ bs) [] h start k = absurd (some_words b bs start k)
stuck_none s (b ∷ bs) (w ∷ ws) h start k = ap (λ v. run (step s v) ws >>= finish) (first_is w ws (b ∷ bs) [] start k) ∙ ap (λ o. run o ws >>= finish) h ∙ ap (λ o. o >>= finish) (run_none ws)

pub told_answers : (text : List ℕ) (r : Result Tree LineFault) (vs : List (List ℕ)) (tree : Tree) → Told text r → Splits vs text [] → tree_of vs ≡ Some tree → Answers r tree
told_answers text (Ok t) vs tree h k e =
    let u = unique h.0 vs text [] h.1 refl k in
    let same : vs ≡ h.0 = u.1 ∙ ap (λ l. h.0 ++ l) (no_words u.0 u.2) ∙ append-nil h.0 in
    same_Some t tree (sym h.2 ∙ ap tree_of (sym same) ∙ e)
told_answers text (Err (BadLine place kind)) vs tree h k e =
    let p = h.passed in
    let u = unique p.words vs text h.rest p.splits h.start k in
    let is : tree_of vs ≡ (run (Some h.state) u.0 >>= finish) = ap tree_of u.1 ∙ ap (λ o. o >>= finish) (run_append (Some none) p.words u.0 ∙ ap (λ o. run o u.0) p.reads) in
    none_some (sym (stuck_none h.state h.rest u.0 h.stuck h.start u.2) ∙ sym is ∙ e)
told_answers text (Err OutOfMemory) vs tree h k e = tt
