-- A channel that takes an item, and what becomes of the others.
use Rattle.std.proofs.Common.{◌≡◌, ◌≤◌, ℕ, zero, suc, false, List, [], ◌∷◌, Some, length, map, set, get_or, sym, ap, ◌∙◌, subst}
use Rattle.std.specs.Prelude.{slice_get}
use Rattle.std.proofs.lemmas.List.{length-map, length-set, map-set, set-get_or, set-set, get_or-set_same}
use Rattle.std.proofs.lemmas.Option.{get_or_from_slice_get, same_Some as some_is}
use Rattle.gst_item.specs.declared.out.Out.{Out}
use Rattle.flow_model.specs.Item.{Item, body_of}
use Rattle.el_mix.specs.declared.channel.Channel.{Channel}
use Rattle.el_mix.specs.declared.position.Position.{Position}
use Rattle.el_mix.specs.declared.mix.Mix.{Mix}
use Rattle.el_mix.specs.Line.{Line, line_of}
use Rattle.el_mix.specs.Taking.{Took, settled, bare}
use Rattle.el_mix.specs.Standing.{Moves}
use Rattle.el_mix.specs.Calls.{Takes}
use Rattle.el_mix.specs.Relation.{MixPuts}
use Rattle.el_mix.proofs.Calling.{place_below}
use Rattle.el_mix.proofs.Turning.{with_line}
use Rattle.el_mix.proofs.Lending.{Channels, lent, lent_is, as_is}
use Rattle.el_mix.proofs.Coming.{kept_settled}

-- the channel of a place
pub set_back : (cs : List Channel) (k : ℕ) (c d : Channel) → slice_get cs k ≡ Some c → d ≡ c → set cs k d ≡ cs
set_back cs k c d at is = ap (set cs k) (is ∙ sym (get_or_from_slice_get cs k c c at)) ∙ set-get_or cs k c

pub open_at : (cs ds : List Channel) (k : ℕ) (c : Channel) → ds ≡ cs → slice_get cs k ≡ Some c → c.progress.ended ≡ false → (d : Channel) → slice_get ds k ≡ Some d → d.progress.ended ≡ false
open_at cs ds k c is at none d there = ap (λ (z : Channel). z.progress.ended) (some_is d c (sym there ∙ ap (λ zs. slice_get zs k) is ∙ at)) ∙ none

-- the look ahead begins anew
pub same_settled : (cs ds : List Channel) → ds ≡ cs → map settled cs ≡ cs → map settled ds ≡ ds
same_settled cs ds is s = ap (map settled) is ∙ s ∙ sym is

pub settled_at : (cs : List Channel) (k : ℕ) (c : Channel) → slice_get cs k ≡ Some c → map settled cs ≡ cs → settled c ≡ c
settled_at [] k c at s = absurd (cc)
settled_at (d ∷ cs) zero c at s = subst (λ (z : Channel). settled z ≡ z) (some_is d c at) (head (settled d) d (map settled cs) cs s)
  where
    head : (a b : Channel) (ps qs : List Channel) → a ∷ ps ≡ b ∷ qs → a ≡ b
    head a b ps qs e = cc
settled_at (d ∷ cs) (suc k) c at s = settled_at cs k c at (rest (settled d) d (map settled cs) cs s)
  where
    rest : (a b : Channel) (ps qs : List Channel) → a ∷ ps ≡ b ∷ qs → ps ≡ qs
    rest a b ps qs e = cc

line_at : (c : Channel) → settled c ≡ c → line_of c.waiting.rest ≡ c.waiting
line_at c s = ap (λ (z : Channel). z.waiting) s

set_line : (cs : List Channel) (k : ℕ) (d : Channel) → map settled cs ≡ cs → line_of d.waiting.rest ≡ d.waiting → map settled (set cs k d) ≡ set cs k d
set_line cs k d s l = map-set settled cs k d ∙ ap (λ zs. set zs k (settled d)) s ∙ ap (set cs k) (ap (with_line d) l)

pub set_settled : (cs : List Channel) (k : ℕ) (c d : Channel) → slice_get cs k ≡ Some c → map settled cs ≡ cs → d.waiting ≡ c.waiting → map settled (set cs k d) ≡ set cs k d
set_settled cs k c d at s same = set_line cs k d s (ap (λ (l : Line). line_of l.rest) same ∙ line_at c (settled_at cs k c at s) ∙ sym same)

pub took_settled : (cs : List Channel) (k : ℕ) (c d : Channel) (x : Item) → slice_get cs k ≡ Some c → map settled cs ≡ cs → Took c x d → map settled (set cs k d) ≡ set cs k d
took_settled cs k c d x at s t =
    set_line cs k d s (ap (λ (l : Line). line_of l.rest) t.waiting ∙ kept_settled c.waiting (body_of x) (line_at c (settled_at cs k c at s)) ∙ sym t.waiting)

-- the lists of channels are as long
pub bare_length : (cs ds : List Channel) (k : ℕ) (d : Channel) → map bare ds ≡ map bare (set cs k d) → length ds ≡ length cs
bare_length cs ds k d e = sym (length-map ds bare) ∙ ap length e ∙ length-map (set cs k d) bare ∙ length-set cs k d

-- an item is given back
pub restored : (cs ms : List Channel) (k : ℕ) (c d e f : Channel) → slice_get cs k ≡ Some c → map settled cs ≡ cs → ms ≡ map settled (set cs k d) → (get_or ms k e ≡ settled d → f ≡ c) → set ms k f ≡ cs
restored cs ms k c d e f at s is back =
    let same : ms ≡ set cs k (settled d) = is ∙ map-set settled cs k d ∙ ap (λ zs. set zs k (settled d)) s in
    let here : get_or ms k e ≡ settled d = ap (λ zs. get_or zs k e) same ∙ get_or-set_same cs k (settled d) e (place_below k cs c at) in
    ap (λ zs. set zs k f) same ∙ set-set cs k (settled d) f ∙ set_back cs k c f at (back here)

-- an item is taken
pub takes_of : (old new : Position) (cs ds : List Channel) (k : ℕ) (x : Item) (c d : Channel) (out out' : List Out) → slice_get cs k ≡ Some c → Took c x d → Moves old (set cs k d) new ds out out'
    → Takes old cs k x new ds out out'
takes_of old new cs ds k x c d out out' at t m = record { before = c; after = d; here = at; took = t; moves = m }

-- by the vector of the channels
pub lent_length : (v : Channels) (given ws : List Channel) → given ≡ v.items → length ws ≡ length given → length (lent v ws) ≡ length v.items
lent_length v given ws is same = ap length (lent_is v ws (same ∙ ap length is)) ∙ same ∙ ap length is

pub lent_settled : (v : Channels) (given ws : List Channel) → given ≡ v.items → length ws ≡ length given → map settled ws ≡ ws → map settled (lent v ws) ≡ lent v ws
lent_settled v given ws is same s = same_settled ws (lent v ws) (lent_is v ws (same ∙ ap length is)) s

pub takes_lent : (old new : Position) (v : Channels) (given ws : List Channel) (k : ℕ) (x : Item) (out out' : List Out) → given ≡ v.items → length ws ≡ length given
    → Takes old given k x new ws out out' → Takes old v.items k x new (lent v ws) out out'
takes_lent old new v given ws k x out out' is same t =
    subst (λ (zs : List Channel). Takes old v.items k x new zs out out') (sym (lent_is v ws (same ∙ ap length is))) (subst (λ (zs : List Channel). Takes old zs k x new ws out out') is t)

pub puts_same : (old : Mix) (pad : ℕ) (x : Item) (out : List Out) → MixPuts old old pad x out out → (few : old.channels.len ≤ 64) (still : map settled old.channels.items ≡ old.channels.items)
    → MixPuts old (record { channels = old.channels; at = old.at; few = few; settled = still }) pad x out out
puts_same old pad x out p few still = subst (λ (n : Mix). MixPuts old n pad x out out) (sym (as_is old few still)) p
