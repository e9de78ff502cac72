-- The channels of an element, lent out of their vector.
use Rattle.std.proofs.Common.{◌≡◌, ◌≤◌, ℕ, zero, suc, ◌+◌, List, [], ◌∷◌, ◌++◌, Vec, Global, vec_len, length, take, drop, map, replicate, refl, sym, ap, ◌∙◌, subst, arith}
use Rattle.std.proofs.Props.{props}
use Rattle.std.specs.Vec.{with_items}
use Rattle.std.specs.List.{length_refill}
use Rattle.std.proofs.lemmas.List.{take_all, take-append-le, length-replicate, length-map, replicate-append-replicate}
use Rattle.el_mix.specs.declared.channel.Channel.{Channel}
use Rattle.el_mix.specs.declared.position.Position.{Position}
use Rattle.el_mix.specs.declared.mix.Mix.{Mix}
use Rattle.el_mix.specs.Taking.{settled, flushed, new_channel}
use Rattle.el_mix.proofs.Fresh.{flushed_settled as settled_flushed}
use Rattle.gst_value.proofs.Basics.{length_prop}

abbrev pub Channels : Type 0
Channels = Vec Channel Global

-- the channels that a loan leaves
abbrev pub lent : Channels → List Channel → List Channel
lent v ws = take v.len (ws ++ drop (length ws) v.items)

pub lent_is : (v : Channels) (ws : List Channel) → length ws ≡ length v.items → lent v ws ≡ ws
lent_is v ws e =
    let count = v.ok.0 in
    take-append-le v.len ws (drop (length ws) v.items) (omega (arith, e, count)) ∙ take_all v.len ws (omega (arith, e, count))

few_prop : (n : ℕ) → IsProp (n ≤ 64)
few_prop n = hlevel props

settled_prop : (cs : List Channel) → IsProp (map settled cs ≡ cs)
settled_prop cs = hlevel props

abbrev SameVec : Channels → List Channel → Type 0
SameVec v ws = (o : v.len ≡ length ws) → record { ptr = v.ptr; len = v.len; cap = v.cap; alloc = v.alloc; items = ws; ok = (o, v.ok.1); small = v.small } ≡ v

same_vec : (v : Channels) → SameVec v v.items
same_vec v o = rw (length_prop v.len (length v.items) o v.ok.0) refl

pub vec_back : (v : Channels) (ws : List Channel) → ws ≡ v.items → with_items v ws ≡ v
vec_back v ws is = subst (λ (zs : List Channel). SameVec v zs) (sym (lent_is v ws (ap length is) ∙ is)) (same_vec v) (length_refill v.len v.items ws v.ok.0)

abbrev SameAs : Mix → Channels → Position → Type 0
SameAs old channels at = (few : vec_len channels ≤ 64) → (still : map settled channels.items ≡ channels.items) → record { channels = channels; at = at; few = few; settled = still } ≡ old

pub as_is : (old : Mix) → SameAs old old.channels old.at
as_is old few still = rw (few_prop (vec_len old.channels) few old.few, settled_prop old.channels.items still old.settled) refl

pub mix_is : (old : Mix) (ws : List Channel) (at : Position) → ws ≡ old.channels.items → at ≡ old.at → SameAs old (with_items old.channels ws) at
mix_is old ws at e f = subst (λ (v : Channels). SameAs old v at) (sym (vec_back old.channels ws e)) (subst (λ (p : Position). SameAs old old.channels p) (sym f) (as_is old))

-- those that begin
settled_new : (n : ℕ) → map settled (replicate n new_channel) ≡ replicate n new_channel
settled_new zero = refl
settled_new (suc n) = ap (λ cs. new_channel ∷ cs) (settled_new n)

pub new_settled : (cs : List Channel) (n : ℕ) → cs ≡ replicate n new_channel → map settled cs ≡ cs
new_settled cs n e = ap (map settled) e ∙ settled_new n ∙ sym e

pub new_length : (cs : List Channel) (n : ℕ) → cs ≡ replicate n new_channel → length cs ≡ n
new_length cs n e = ap length e ∙ length-replicate n new_channel

pub new_more : (cs more : List Channel) (n : ℕ) (c : Channel) → cs ≡ replicate n new_channel → c ≡ new_channel → more ≡ cs ++ c ∷ [] → more ≡ replicate (n + 1) new_channel
new_more cs more n c e is m = m ∙ ap (λ zs. zs ++ c ∷ []) e ∙ ap (λ z. replicate n new_channel ++ z ∷ []) is ∙ replicate-append-replicate n 1 new_channel

pub flushed_is : (v : Channels) (given ws : List Channel) → given ≡ v.items → ws ≡ map flushed given → lent v ws ≡ map flushed v.items
flushed_is v given ws e m =
    lent_is v ws (ap length m ∙ length-map given flushed ∙ ap length e) ∙ m ∙ ap (map flushed) e

pub flushed_settles : (v : Channels) (given ws : List Channel) → given ≡ v.items → ws ≡ map flushed given → map settled (lent v ws) ≡ lent v ws
flushed_settles v given ws e m = let is = flushed_is v given ws e m in ap (map settled) is ∙ settled_flushed v.items ∙ sym is

pub flushed_length : (v : Channels) (given ws : List Channel) → given ≡ v.items → ws ≡ map flushed given → length (lent v ws) ≡ length v.items
flushed_length v given ws e m = ap length (flushed_is v given ws e m) ∙ length-map v.items flushed
