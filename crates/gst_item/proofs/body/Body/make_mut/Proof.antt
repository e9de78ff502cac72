-- `make_mut` lends the bytes of the block that `own` lends: a walk of a call, a branch and a call.
use Rattle.std.proofs.Common.{◌≡◌, ◌∙◌, subst, ℕ, List, [], ◌∷◌, ◌++◌, length, refl, ap, lit<, MutBor, Result, Ok, Err}
use Rattle.std.specs.Prelude.{IfOk}
use Rattle.std.specs.Borrow.{Array}
use Rattle.std.proofs.raw_atomic.Walks.{proved}
use Rattle.std.proofs.VecSteps.Shapes.{arm_body}
use seplogic.Ra.Ura.{Ura}
use base.Logic.{ent, id⊢}
use base.Fml.{ftrue, flft}
use mir.Syntax.{Body, named}
use mir.Val.{Val, of_list}
use prog.Wp.{Env, after_seq, at_return, Wp}
use contract.Monad.{fact}
use contract.Running.{tables}
use types.Kit.{Goal, Seq, Item, ‵, raw, ◌⊛◌, some, later, any_q, at_ret, ◌$◌, ◌∵◌, !, qed, done, move, keep, drop, use1, use2, split, join, fsplit, fjoin, fpick, fpack, feq_i, feq_l, await, pick, rewrite, suffices, frame}
use types.Logic.{Logic, sem}
use types.Match.{live, vrt, in_variant}
use types.Part.{agg, whole}
use types.Run.{enter, of_opd, lit, addr, stop, fld, first, switches_on, exec, no_more, and_then, returns}
use types.ByLocal.{alloc_all, pass_all, free_all, look_at, get, get_in, get_tag, through, sets, sets_last, lands_as, env}
use denote.Builtin.{u8}
use denote.Exit.{yes, no}
use denote.Follow.{follows, follows_by, follows_then}
use denote.Laws.{shows}
use denote.Enum.Declared.{shape}
use denote.Enum.Enum.{form_of, in_a_row}
use denote.Enum.Row.{tagged_with}
use denote.RattleType.{RattleType, Valss, owns}
use denote.Ref.{MutRef, mut_vals, mut_Tells}
use denote.Signature.{plain, mut_ref_to}
use denote.Slice.{MutSlice, mut_slice_vals, slice_val}
use denote.Steps.{nothing, heard, peeks, only}
use denote.Struct.Laws as LL
use denote.Triple.Call.{calls_at}
use denote.Triple.Clauses.{lasts}
use denote.Triple.Spec.{triple_of}
use denote.Triple.Table.{framed}
use denote.Triple.Walked.{Stays, walk_of, says, stay_dropped, Goes-dropped, Goes-spent_ref, ends_at}
use Rattle.std.specs.contracts.alloc.Global as Al
use Rattle.std.proofs.alloc.Global.TheLaws as Al'
use Rattle.std.specs.contracts.result.Result as RS
use Rattle.gst_value.specs.declared.memory.OutOfMemory.{OutOfMemory}
use Rattle.gst_value.specs.contracts.memory.OutOfMemory as Want
use Rattle.gst_value.proofs.memory.OutOfMemory.TheLaws as Want'
use Rattle.gst_item.specs.Lent.{LendsBytes, LendsBlockIfOk, changed}
use Rattle.gst_item.specs.contracts.body.Body.{the_row as R}
use Rattle.gst_item.specs.contracts.body.OwnedBytes.{the_row as B}
use Rattle.gst_item.specs.contracts.body.Body.make_mut as f
use Rattle.gst_item.specs.contracts.body.Body.own as o
use Rattle.gst_item.specs.contracts.body.OwnedBytes.bytes_mut as g
use Rattle.gst_item.proofs.body.Body.make_mut.Statement.{statement}
use Rattle.gst_item.proofs.body.Body.make_mut.Code as code
use Rattle.gst_item.proofs.body.Body.own.Met.{met as own_met}
use Rattle.gst_item.proofs.body.OwnedBytes.bytes_mut.Met.{met}

abbrev stayed : Stays f.ended.signature.params f.ended.kept
stayed = (stay_dropped (mut_ref_to (0 ∷ []) tt (plain (λ _. R))) no, (stay_dropped (plain (λ _. Al.the_row)) yes, tt))

-- a result of one machine value is made
module _ {M : Type 1} {𝓤 : Ura M} (𝓛 : Logic 𝓤) (X Y : RattleType) where
  ok_of : (x : X.Denot) (v : Val) → ent 𝓤 (sem 𝓛 (X.own_val x (v ∷ []))) (sem 𝓛 ((RS.the_row X Y).own_val (Ok x) (live 0 (of_list (v ∷ [])) ∷ [])))
  ok_of x v =
      qed 𝓛 (‵ (X.own_val x (v ∷ [])) ∷ []) ∵ nothing ! $ move ! (1 ∷ 0 ∷ []) $ fjoin ! $ feq_i ! (List Val) (v ∷ []) (v ∷ []) refl $ fjoin ! $
      fpack ! (Valss (X ∷ [])) (in_a_row (X ∷ []) (owns (X ∷ []) (x, tt)) (v ∷ [])) (v ∷ [], tt) $
      feq_i ! (List Val) (live 0 (of_list (v ∷ [])) ∷ []) (live 0 (of_list (v ∷ [])) ∷ []) refl $ fjoin ! $
      fpack ! (List Val) (tagged_with (form_of (shape (RS.the_type X Y))) (form_of (shape (RS.the_type X Y))).payload ((RS.the_type X Y).to (Ok x)) (live 0 (of_list (v ∷ [])) ∷ [])) (v ∷ []) $ done !

  err_of : (y : Y.Denot) (v : Val) → ent 𝓤 (sem 𝓛 (Y.own_val y (v ∷ []))) (sem 𝓛 ((RS.the_row X Y).own_val (Err y) (live 1 (of_list (v ∷ [])) ∷ [])))
  err_of y v =
      qed 𝓛 (‵ (Y.own_val y (v ∷ [])) ∷ []) ∵ nothing ! $ move ! (1 ∷ 0 ∷ []) $ fjoin ! $ feq_i ! (List Val) (v ∷ []) (v ∷ []) refl $ fjoin ! $
      fpack ! (Valss (Y ∷ [])) (in_a_row (Y ∷ []) (owns (Y ∷ []) (y, tt)) (v ∷ [])) (v ∷ [], tt) $
      feq_i ! (List Val) (live 1 (of_list (v ∷ [])) ∷ []) (live 1 (of_list (v ∷ [])) ∷ []) refl $ fjoin ! $
      fpack ! (List Val) (tagged_with (form_of (shape (RS.the_type X Y))) (form_of (shape (RS.the_type X Y))).payload ((RS.the_type X Y).to (Err y)) (live 1 (of_list (v ∷ [])) ∷ [])) (v ∷ []) $ done !

-- a result by its two cases
module _ {M : Type 1} {𝓤 : Ura M} {𝓛 : Logic 𝓤} {K : Type 0} {Γ : List (Item 𝓤)} {G : Goal 𝓤 𝓛.H} where
  result_had : K → (X Y : RattleType) (r : Result X.Denot Y.Denot) (v : Val)
      → ((x : X.Denot) (vs : List Val) → r ≡ Ok x → v ≡ live 0 (of_list (vs ++ [])) → Seq K 𝓛 (‵ (X.own_val x vs) ∷ Γ) G)
      → ((y : Y.Denot) (vs : List Val) → r ≡ Err y → v ≡ live 1 (of_list (vs ++ [])) → Seq K 𝓛 (‵ (Y.own_val y vs) ∷ Γ) G)
      → Seq K 𝓛 (‵ ((RS.the_row X Y).own_val r (v ∷ [])) ∷ Γ) G
  result_had k X Y (Ok x) v good bad = fpick k (λ us. fsplit k $ feq_l k (λ e. fpick k (λ vss. fsplit k $ feq_l k (λ i. fsplit k $ move k (1 ∷ []) $ drop k $
      good x vss.0 refl (ap only e ∙ ap (λ (vs : List Val). live 0 (of_list vs)) i)))))
  result_had k X Y (Err y) v good bad = fpick k (λ us. fsplit k $ feq_l k (λ e. fpick k (λ vss. fsplit k $ feq_l k (λ i. fsplit k $ move k (1 ∷ []) $ drop k $
      bad y vss.0 refl (ap only e ∙ ap (λ (vs : List Val). live 1 (of_list vs)) i)))))

pub make_mut_spec : {M : Type 1} → statement M
unfolding follows_by
make_mut_spec 𝓤 𝓛 𝓜 𝓡 wired =
    let c = f.clauses 𝓛 𝓜.mem 𝓡.returns in let W = walk_of 𝓛 f.ended stayed c in let 𝓣 = tables 𝓤 𝓛.H 𝓜 𝓡 𝓡.env in
    proved 𝓛 f.ended stayed c 𝓜 𝓡 (Goes-spent_ref 𝓛 1 (0 ∷ []) tt (plain (λ _. R)), (Goes-dropped 𝓛 1 (plain (λ _. Al.the_row)) yes (λ κs x w. refl), tt))
    f.Key.name code.function (code.unfolded 𝓤 𝓛.H 𝓜 𝓡 wired)
    (λ κs. (mut_vals, (LL.vals Al.the_type Al'.the_laws, tt))) (λ κs. (mut_Tells (named 0) κs.0 R, (LL.tells Al.the_type Al'.the_laws, tt))) (λ κs qs bounds a _ are.
    let κ = κs.0 in let q = qs.0 in let r = a.0 in let vs = mut_vals r in let gv = LL.vals Al.the_type Al'.the_laws a.1.0 in
    let Slice : RattleType = MutSlice (named 0) κ u8 in let Block : RattleType = MutRef (named 0) κ B in let Wanting : RattleType = Want.the_row in
    let y : W.Ghost = ((κs, qs, bounds, a, (vs, (gv, tt))), tt) in
    qed 𝓛 (((‵ (flft κ q) ⊛ ‵ ftrue) ⊛ (‵ ((MutRef (named 0) κ R).own_val r vs) ⊛ (‵ (Al.the_row.own_val a.1.0 gv) ⊛ ‵ ftrue))) ∷ ‵ ftrue ∷ []) ∵
    join ! $
    enter ! _ _ _ _ _ $ alloc_all ! (λ l. pass_all ! refl ((tt, tt), ((tt, ((tt, tt), tt)), tt)) $
    let En : Env 𝓤 𝓛.H = env code.Mir.locals l in
    let both : Body = code.Mir.s-3 in
    let Then = any_q (after_seq 𝓤 𝓛.H (Wp 𝓤 𝓛.H 𝓣.C 𝓣.Λ En code.Mir.t-4 (at_return 𝓤 𝓛.H En (W.post y))) (at_return 𝓤 𝓛.H En (W.post y))) in
    sets ! (addr ! (through ! refl (stop !))) refl (tt, tt) $
    let O = triple_of 𝓛 o.signature (o.spec 𝓛 𝓜.mem 𝓡.returns) in
    let x : O.Ghost = (((κ, tt), (q, tt), tt, (r, (a.1.0, tt)), (vs, (gv, tt))), tt) in
    use1 𝓛 (raw (O.pre x)) (id⊢ 𝓤 _) $
    calls_at ! (framed 𝓤 𝓛.H 𝓜 𝓣) O (own_met 𝓤 𝓛 𝓜 𝓡 (code.calls-gst_item::body::Body::own 𝓡.env wired)) x
    (and_then ! (get ! refl) (and_then ! (get ! refl) (no_more !))) (λ v.
    use1 𝓛 (later (some (λ (u : Result (MutBor (List ℕ)) OutOfMemory). ((‵ (flft κ q) ⊛ ‵ ftrue) ⊛ ‵ ((RS.the_row Block Wanting).own_val u (v ∷ []))) ⊛
    some (λ (ws : Unit {0} × (Unit {0} × Unit {0})). ‵ (lasts o.ended κs x.0.3 ws) ⊛ (‵ (LendsBlockIfOk r u) ⊛ raw (fact 𝓤 (IfOk u (λ b. b.now ≡ r.now)))))))) (id⊢ 𝓤 _) $
    await ! tt $ pick ! (λ u. split ! $ split ! $ split ! $
    move ! (3 ∷ []) $ pick ! (λ ws. split ! $ drop ! $ split ! $ move ! (1 ∷ []) $ heard ! _ (λ same. move ! (3 ∷ 0 ∷ 1 ∷ []) $
    -- [what `own` gave; what becomes of the body; the token; nothing]
    result_had ! Block Wanting u v
    (λ b bs good landed.
    rewrite ! 1 (λ (n : Result (MutBor (List ℕ)) OutOfMemory). ‵ (LendsBlockIfOk r n)) good refl $
    let at_first : b.now ≡ r.now = subst (λ (n : Result (MutBor (List ℕ)) OutOfMemory). IfOk n (λ m. m.now ≡ r.now)) good same in
    peeks ! Block _ (shows 𝓛 Block) b bs (λ is. let told = mut_Tells (named 0) κ B b bs is in
    rewrite ! 0 (λ (us : List Val). ‵ (Block.own_val b us)) told refl $
    lands_as ! (landed ∙ ap (λ (us : List Val). live 0 (of_list (us ++ []))) told) refl (tt, (record { fits = lit< tt }, (tt, tt))) $
    first ! $ switches_on ! (get_tag ! (vrt ! refl (fld ! refl (stop !))) (whole !)) $ exec ! 𝓣.C 𝓣.Λ En (arm_body 0 both) Then $
    sets ! (of_opd ! (get_in ! (vrt ! refl (fld ! refl (stop !))) (in_variant ! 0 0 refl refl (whole !)))) refl (tt, tt) $
    sets ! (addr ! (through ! refl (stop !))) refl (tt, tt) $
    let G = triple_of 𝓛 g.signature (g.spec 𝓛 𝓜.mem 𝓡.returns) in
    let z : G.Ghost = (((κ, tt), (q, tt), tt, (b, tt), (mut_vals b, tt)), tt) in
    nothing ! $ move ! (1 ∷ 0 ∷ []) $ join ! $ nothing ! $ move ! (3 ∷ 0 ∷ []) $ join ! $ join ! $
    nothing ! $ move ! (1 ∷ 0 ∷ []) $ use2 𝓛 (raw (G.pre z)) (id⊢ 𝓤 _) $
    calls_at ! (framed 𝓤 𝓛.H 𝓜 𝓣) G (met 𝓤 𝓛 𝓜 𝓡 (code.calls-gst_item::body::OwnedBytes::bytes_mut 𝓡.env wired)) z
    (and_then ! (get ! refl) (no_more !)) (λ lent.
    use1 𝓛 (later (some (λ (s : MutBor (List ℕ)). ((‵ (flft κ q) ⊛ ‵ ftrue) ⊛ ‵ (Slice.own_val s (lent ∷ []))) ⊛
    some (λ (us : Unit {0} × Unit {0}). ‵ (lasts g.ended κs z.0.3 us) ⊛ (‵ (LendsBytes b s) ⊛ raw (fact 𝓤 (s.now ≡ b.now))))))) (id⊢ 𝓤 _) $
    await ! tt $ pick ! (λ s. split ! $ split ! $ split ! $
    move ! (3 ∷ []) $ pick ! (λ us. split ! $ drop ! $ split ! $ move ! (1 ∷ []) $ heard ! _ (λ kept. move ! (3 ∷ 0 ∷ 4 ∷ 1 ∷ []) $
    -- [the loan; what becomes of the block; what becomes of the body; the token; nothing]
    peeks ! Slice _ (shows 𝓛 Slice) s (lent ∷ []) (λ fit. rewrite ! 0 (λ (ns : List Val). ‵ (Slice.own_val s ns)) fit.0.0 refl $
    lands_as ! (ap only fit.0.0) refl (tt, (tt, (record { fits = fit.0.1.0 }, tt))) $
    sets_last ! (agg ! (and_then ! (lit ! tt) (and_then ! (get ! refl) (no_more !)))) refl (tt, (record { fits = lit< tt }, ((tt, (record { fits = fit.0.1.0 }, tt)), tt))) $
    exec ! 𝓣.C 𝓣.Λ En code.Mir.t-4 (at_ret En (W.post y)) $
    sets ! (of_opd ! (get ! refl)) refl (tt, (record { fits = lit< tt }, ((tt, (record { fits = fit.0.1.0 }, tt)), tt))) $
    move ! (2 ∷ 1 ∷ []) $ use2 𝓛 (‵ (follows R (Array u8 0) r.ghost_name s.ghost_name (changed b.now)))
    (follows_then 𝓛 R B (Array u8 0) (λ bytes. bytes) (changed b.now) r.ghost_name b.ghost_name s.ghost_name) $
    rewrite ! 0 (λ (bytes : List ℕ). ‵ (follows R (Array u8 0) r.ghost_name s.ghost_name (changed bytes))) at_first refl $
    returns ! (look_at ! 0 refl) $ free_all ! refl $ keep ! (1 ∷ 2 ∷ 0 ∷ []) $
    let value = live 0 (of_list (mut_slice_vals s)) in
    use1 𝓛 (‵ ((RS.the_row Slice Wanting).own_val (Ok s) (value ∷ []))) (ok_of 𝓛 Slice Wanting s (slice_val s.ref_ptr (length s.now))) $
    suffices ! _ (ends_at 𝓛 f.ended stayed c y value (Ok s) (tt, (tt, tt)) (tt, (tt, tt))) $
    nothing ! $ nothing ! $ join ! $ nothing ! $ join ! $ join ! $ nothing ! $ move ! (2 ∷ 0 ∷ []) $ join ! $ join ! $ frame ! $ says ! (kept ∙ at_first) $ done !)))))))
    (λ w bs bad landed.
    rewrite ! 1 (λ (n : Result (MutBor (List ℕ)) OutOfMemory). ‵ (LendsBlockIfOk r n)) bad refl $
    peeks ! Wanting _ (shows 𝓛 Wanting) w bs (λ is. let told = LL.tells Want.the_type Want'.the_laws w bs is in
    let fault : Val = LL.val Want.the_type Want'.the_laws w in
    rewrite ! 0 (λ (us : List Val). ‵ (Wanting.own_val w us)) told refl $
    lands_as ! (landed ∙ ap (λ (us : List Val). live 1 (of_list (us ++ []))) told) refl (tt, (record { fits = lit< tt }, (tt, tt))) $
    first ! $ switches_on ! (get_tag ! (vrt ! refl (fld ! refl (stop !))) (whole !)) $ exec ! 𝓣.C 𝓣.Λ En (arm_body 1 both) Then $
    sets ! (of_opd ! (get_in ! (vrt ! refl (fld ! refl (stop !))) (in_variant ! 1 0 refl refl (whole !)))) refl (tt, tt) $
    sets_last ! (agg ! (and_then ! (lit ! tt) (and_then ! (get ! refl) (no_more !)))) refl (tt, (record { fits = lit< tt }, (tt, tt))) $
    exec ! 𝓣.C 𝓣.Λ En code.Mir.t-4 (at_ret En (W.post y)) $
    sets ! (of_opd ! (get ! refl)) refl (tt, (record { fits = lit< tt }, (tt, tt))) $
    returns ! (look_at ! 0 refl) $ free_all ! refl $ keep ! (0 ∷ 2 ∷ 1 ∷ []) $
    let value = live 1 (of_list (fault ∷ [])) in
    use1 𝓛 (‵ ((RS.the_row Slice Wanting).own_val (Err w) (value ∷ []))) (err_of 𝓛 Slice Wanting w fault) $
    suffices ! _ (ends_at 𝓛 f.ended stayed c y value (Err w) (tt, (tt, tt)) (tt, (tt, tt))) $
    nothing ! $ nothing ! $ join ! $ nothing ! $ join ! $ join ! $ nothing ! $ move ! (2 ∷ 0 ∷ []) $ join ! $ join ! $ frame ! $ says ! tt $ done !))))))))
