-- Elements have one list of links, or one fault of them.
use Rattle.std.proofs.Common.{◌≡◌, ◌⊎◌, ℕ, List, [], Option, None, Some, Result, Err, MatchOption, position, slice_get, refl, sym, ap, ◌∙◌, subst, inl, inr}
use Rattle.std.proofs.lemmas.Option.{same_Some as rets}
use Rattle.pad_core.specs.declared.linking.LinkReturn.{LinkReturn}
use Rattle.pad_core.specs.declared.linking.LinkReturn.TheVariants.{WasLinked, WrongDirection, NoFormat}
use Rattle.gst_value.proofs.Basics.{one_some}
use Rattle.graph_core.specs.Asked.{End, own, named}
use Rattle.graph_core.specs.Elements.{Made, is_named}
use Rattle.graph_core.specs.Ends.{IsEndPad, IsPadOf, name_at, pad_name, taken_pad}
use Rattle.graph_core.specs.Laws.{AreSame, IsFree}
use Rattle.graph_core.specs.Links.{IsJoined, IsJudged, IsLinked, IsUnjoined, IsUnlinked, LinksCome}
use Rattle.graph_core.specs.declared.fault.BuildFault.{BuildFault}
use Rattle.graph_core.specs.declared.fault.BuildFault.TheVariants.{NoSuch, LinkRefused}
use Rattle.graph_core.specs.declared.fault.What.TheVariants.{Element as NoElement, Order as NoOrder}
use Rattle.graph_pads.specs.declared.pad.Direction.{Direction}
use Rattle.graph_pads.specs.declared.pad.Direction.TheVariants.{Source, Sink}
use Rattle.graph_pads.specs.declared.pad.Pad.{Pad}
use Rattle.graph_pads.specs.declared.pad.PadLink.{PadLink}
use Rattle.graph_core.proofs.ElementsAgree.{Agree, agree}
use Rattle.graph_core.proofs.Allowing.{never_true}
use Rattle.graph_core.proofs.Joining.{failed, okay}

pad_one : (made : List Made) (links : List PadLink) (wanted : Direction) (element : ℕ) (wish : Option (List ℕ)) (a b : Result Pad BuildFault) → IsPadOf made links wanted element wish a → IsPadOf made links wanted element wish b → a ≡ b
pad_one made links wanted element wish a b (m, at, e) (n, there, f) = e ∙ ap (λ x. taken_pad links wanted x element wish) (one_some (slice_get made element) m n at there) ∙ sym f

end_one : (made : List Made) (links : List PadLink) (wanted : Direction) (end : End) (a b : Result Pad BuildFault) → IsEndPad made links wanted end a → IsEndPad made links wanted end b → a ≡ b
end_one made links wanted (own n) a b h g = pad_one made links wanted n None a b h g
end_one made links wanted (named name wish) a b h g = by (position (is_named name) made) h g
  where
    missing_one : Result Pad BuildFault
    missing_one = Err (NoSuch name NoElement)

    by : (o : Option ℕ) → MatchOption o (a ≡ Err (NoSuch name NoElement)) (λ n. IsPadOf made links wanted n wish a) → MatchOption o (b ≡ Err (NoSuch name NoElement)) (λ n. IsPadOf made links wanted n wish b) → a ≡ b
    by None h g = h ∙ sym g
    by (Some n) h g = pad_one made links wanted n wish a b h g

okay_one : (a b : Pad) → okay a ≡ okay b → a ≡ b
okay_one a b e = cc

failed_one : (a b : BuildFault) → failed a ≡ failed b → a ≡ b
failed_one a b e = cc

okay_failed : {P : Type 0} (a : Pad) (b : BuildFault) → okay a ≡ failed b → P
okay_failed a b e = absurd (cc)

module _ (made : List Made) (ls : List PadLink) (l r : Pad) where
  judged_none : (b : Option LinkReturn) → IsJudged made ls l r None → IsJudged made ls l r b → None ≡ b
  judged_none None h g = refl
  judged_none (Some WrongDirection) h g = never_true _ g h.0
  judged_none (Some WasLinked) h g = never_true _ g.1 h.1
  judged_none (Some NoFormat) h g = absurd (g.2 h.2)
  judged_none (Some _) h g = absurd g

  judged_wrong : (b : Option LinkReturn) → IsJudged made ls l r (Some WrongDirection) → IsJudged made ls l r b → Some WrongDirection ≡ b
  judged_wrong None h g = never_true _ h g.0
  judged_wrong (Some WrongDirection) h g = refl
  judged_wrong (Some WasLinked) h g = never_true _ h g.0
  judged_wrong (Some NoFormat) h g = never_true _ h g.0
  judged_wrong (Some _) h g = absurd g

  judged_linked : (b : Option LinkReturn) → IsJudged made ls l r (Some WasLinked) → IsJudged made ls l r b → Some WasLinked ≡ b
  judged_linked None h g = never_true _ h.1 g.1
  judged_linked (Some WrongDirection) h g = never_true _ g h.0
  judged_linked (Some WasLinked) h g = refl
  judged_linked (Some NoFormat) h g = never_true _ h.1 g.1
  judged_linked (Some _) h g = absurd g

  judged_format : (b : Option LinkReturn) → IsJudged made ls l r (Some NoFormat) → IsJudged made ls l r b → Some NoFormat ≡ b
  judged_format None h g = absurd (h.2 g.2)
  judged_format (Some WrongDirection) h g = never_true _ g h.0
  judged_format (Some WasLinked) h g = never_true _ g.1 h.1
  judged_format (Some NoFormat) h g = refl
  judged_format (Some _) h g = absurd g

  judged_one : (a b : Option LinkReturn) → IsJudged made ls l r a → IsJudged made ls l r b → a ≡ b
  judged_one None b h g = judged_none b h g
  judged_one (Some WrongDirection) b h g = judged_wrong b h g
  judged_one (Some WasLinked) b h g = judged_linked b h g
  judged_one (Some NoFormat) b h g = judged_format b h g
  judged_one (Some _) b h g = absurd h

  joined_unjoined : (link : PadLink) (fault : BuildFault) → IsJoined made ls l r link → IsUnjoined made ls l r fault → IsFree fault
  joined_unjoined link fault h (IsUnjoined.refused ret judged) = let e = judged_one None (Some ret) h.judged judged in absurd (cc)
  joined_unjoined link fault h (IsUnjoined.loops judged leads) = absurd (h.forward leads)
  joined_unjoined link fault h IsUnjoined.memory = refl

  abbrev ToldLink : BuildFault → Type 0
  ToldLink fault = IsFree fault ⊎ (((ret : LinkReturn) × IsJudged made ls l r (Some ret) × (fault ≡ LinkRefused (pad_name made l) (pad_name made r) ret)) ⊎ (IsJudged made ls l r None × (fault ≡ NoSuch (name_at made l.place.element) NoOrder)))

  told_link : (fault : BuildFault) → IsUnjoined made ls l r fault → ToldLink fault
  told_link fault (IsUnjoined.refused ret judged) = inr (inl (ret, judged, refl))
  told_link fault (IsUnjoined.loops judged leads) = inr (inr (judged, refl))
  told_link fault IsUnjoined.memory = inl refl

  told_links : (f g : BuildFault) → ToldLink f → ToldLink g → AreSame f g
  told_links f g (inl free) k = inr (inl free)
  told_links f g (inr h) (inl free) = inr (inr free)
  told_links f g (inr (inl (a, j, e))) (inr (inl (b, i, u))) = inl (e ∙ ap (λ ret. LinkRefused (pad_name made l) (pad_name made r) ret) (rets a b (judged_one (Some a) (Some b) j i)) ∙ sym u)
  told_links f g (inr (inl (a, j, e))) (inr (inr (i, u))) = let x = judged_one (Some a) None j i in absurd (cc)
  told_links f g (inr (inr (j, e))) (inr (inl (b, i, u))) = let x = judged_one None (Some b) j i in absurd (cc)
  told_links f g (inr (inr (j, e))) (inr (inr (i, u))) = inl (e ∙ sym u)

  unjoined_one : (f g : BuildFault) → IsUnjoined made ls l r f → IsUnjoined made ls l r g → AreSame f g
  unjoined_one f g h k = told_links f g (told_link f h) (told_link g k)

link_same : (a b : PadLink) → a.source ≡ b.source → a.sink ≡ b.sink → a ≡ b
link_same a b e f = ap (λ x. let r : PadLink = record { source = x; sink = a.sink } in r) e ∙ ap (λ x. let r : PadLink = record { source = b.source; sink = x } in r) f

module _ (made : List Made) where
  linked_one : (ls : List PadLink) (ends : End × End) (a b : PadLink) → IsLinked made ls ends a → IsLinked made ls ends b → a ≡ b
  linked_one ls ends a b h g =
      let left = okay_one h.left g.left (end_one made ls Source ends.0 (okay h.left) (okay g.left) h.leaves g.leaves) in
      let right = okay_one h.right g.right (end_one made ls Sink ends.1 (okay h.right) (okay g.right) h.enters g.enters) in
      link_same a b (h.joined.source ∙ ap (λ (p : Pad). p.place) left ∙ sym g.joined.source) (h.joined.sink ∙ ap (λ (p : Pad). p.place) right ∙ sym g.joined.sink)

  both_unjoined : (ls : List PadLink) (ends : End × End) (l r from to : Pad) (fault : BuildFault) → IsEndPad made ls Source ends.0 (okay l) → IsEndPad made ls Sink ends.1 (okay r) → IsEndPad made ls Source ends.0 (okay from) → IsEndPad made ls Sink ends.1 (okay to)
      → IsUnjoined made ls from to fault → IsUnjoined made ls l r fault
  both_unjoined ls ends l r from to fault a b c d why =
      subst (λ (p : Pad). IsUnjoined made ls p r fault) (okay_one from l (end_one made ls Source ends.0 (okay from) (okay l) c a)) (subst (λ (p : Pad). IsUnjoined made ls from p fault) (okay_one to r (end_one made ls Sink ends.1 (okay to) (okay r) d b)) why)

  linked_unlinked : (ls : List PadLink) (ends : End × End) (link : PadLink) (fault : BuildFault) → IsLinked made ls ends link → IsUnlinked made ls ends fault → IsFree fault
  linked_unlinked ls ends link fault h (IsUnlinked.left f e) = okay_failed h.left f (end_one made ls Source ends.0 (okay h.left) (failed f) h.leaves e)
  linked_unlinked ls ends link fault h (IsUnlinked.right from f c e) = okay_failed h.right f (end_one made ls Sink ends.1 (okay h.right) (failed f) h.enters e)
  linked_unlinked ls ends link fault h (IsUnlinked.both from to f c d why) = joined_unjoined made ls h.left h.right link f h.joined (both_unjoined ls ends h.left h.right from to f h.leaves h.enters c d why)
  linked_unlinked ls ends link fault h IsUnlinked.memory = refl

  abbrev ToldEnds : List PadLink → End × End → BuildFault → Type 0
  ToldEnds ls ends fault = IsFree fault ⊎ (IsEndPad made ls Source ends.0 (failed fault) ⊎ ((from : Pad) × IsEndPad made ls Source ends.0 (okay from) × (IsEndPad made ls Sink ends.1 (failed fault) ⊎ ((to : Pad) × IsEndPad made ls Sink ends.1 (okay to) × IsUnjoined made ls from to fault))))

  told_ends : (ls : List PadLink) (ends : End × End) (fault : BuildFault) → IsUnlinked made ls ends fault → ToldEnds ls ends fault
  told_ends ls ends fault (IsUnlinked.left f e) = inr (inl e)
  told_ends ls ends fault (IsUnlinked.right from f c e) = inr (inr (from, c, inl e))
  told_ends ls ends fault (IsUnlinked.both from to f c d why) = inr (inr (from, c, inr (to, d, why)))
  told_ends ls ends fault IsUnlinked.memory = inl refl

  ends_one : (ls : List PadLink) (ends : End × End) (f g : BuildFault) → ToldEnds ls ends f → ToldEnds ls ends g → AreSame f g
  ends_one ls ends f g (inl free) k = inr (inl free)
  ends_one ls ends f g (inr h) (inl free) = inr (inr free)
  ends_one ls ends f g (inr (inl e)) (inr (inl u)) = inl (failed_one f g (end_one made ls Source ends.0 (failed f) (failed g) e u))
  ends_one ls ends f g (inr (inl e)) (inr (inr (from, c, k))) = okay_failed from f (end_one made ls Source ends.0 (okay from) (failed f) c e)
  ends_one ls ends f g (inr (inr (from, c, k))) (inr (inl u)) = okay_failed from g (end_one made ls Source ends.0 (okay from) (failed g) c u)
  ends_one ls ends f g (inr (inr (from, c, inl e))) (inr (inr (from', c', inl u))) = inl (failed_one f g (end_one made ls Sink ends.1 (failed f) (failed g) e u))
  ends_one ls ends f g (inr (inr (from, c, inl e))) (inr (inr (from', c', inr (to, d, why)))) = okay_failed to f (end_one made ls Sink ends.1 (okay to) (failed f) d e)
  ends_one ls ends f g (inr (inr (from, c, inr (to, d, why)))) (inr (inr (from', c', inl u))) = okay_failed to g (end_one made ls Sink ends.1 (okay to) (failed g) d u)
  ends_one ls ends f g (inr (inr (from, c, inr (to, d, why)))) (inr (inr (from', c', inr (to', d', how)))) = unjoined_one made ls from to f g why (both_unjoined ls ends from to from' to' g c d c' d' how)

  unlinked_one : (ls : List PadLink) (ends : End × End) (f g : BuildFault) → IsUnlinked made ls ends f → IsUnlinked made ls ends g → AreSame f g
  unlinked_one ls ends f g h k = ends_one ls ends f g (told_ends ls ends f h) (told_ends ls ends g k)

  pub links_agree : (es : List (End × End)) (a b : Result (List PadLink) BuildFault) → LinksCome made [] es a → LinksCome made [] es b → Agree a b
  links_agree es a b = agree (IsLinked made) (IsUnlinked made) linked_one linked_unlinked unlinked_one es [] a b
