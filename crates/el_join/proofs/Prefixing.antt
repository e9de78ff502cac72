-- What is owed for a beginning begins what is owed for the whole.
use Rattle.std.proofs.Common.{◌≡◌, ℕ, zero, suc, Bool, true, false, List, [], ◌∷◌, ◌++◌, map, refl, sym, ap, subst, append-nil, Result, Ok, Err, if◌then◌else◌}
use Rattle.flow_model.specs.Item.{Item, is_flush_stop, is_eos}
use Rattle.flow_model.specs.Section.{section, counted, before_section, to_eos}
use Rattle.flow_model.specs.Call.{Call}
use Rattle.flow_model.specs.Prefix.{IsPrefix, nothing, next, ArePrefixes, none, pad}
use Rattle.flow_model.specs.Rule.{Fault}
use Rattle.flow_model.proofs.Prefixes.{prefix_refl, prefix_trans, prefix_append, append_prefix}
use Rattle.flow_model.proofs.Sections.{section_prefix}
use Rattle.el_join.specs.declared.sums.Sums.{Sums}
use Rattle.el_join.specs.Totals.{no_sums, with_tally, tally_of, raised}
use Rattle.el_join.specs.Sections.{with_inherited, reopened, all_reopened}
use Rattle.el_join.specs.Concats.{before_eos, has_end, behind, joined_from, joined, up_to_fault, concat_rule}
use Rattle.flow_model.proofs.Items.{items_prefix, to_eos_prefix}
use Rattle.flow_model.specs.Inherited.{inherited}
use Rattle.gst_item.specs.Item.{has_item}

prefix_map : {A B : Type 0} (f : A → B) {xs ys : List A} → IsPrefix xs ys → IsPrefix (map f xs) (map f ys)
prefix_map f nothing = nothing
prefix_map f (next p) = next (prefix_map f p)

-- where a section has an item, what stands before it is settled
before_settled : (j : ℕ) {xs ys : List Item} → IsPrefix xs ys → has_item (section j xs) ≡ true → before_section j xs ≡ before_section j ys
before_settled zero p h = refl
before_settled (suc j) nothing h = absurd (cc)
before_settled (suc j) (next {x = x} {xs = xs} {ys = ys} p) h = go (is_flush_stop x) h (before_settled j p) (before_settled (suc j) p)
  where
    go : (b : Bool) → has_item (if b then section j xs else section (suc j) xs) ≡ true → (has_item (section j xs) ≡ true → before_section j xs ≡ before_section j ys)
        → (has_item (section (suc j) xs) ≡ true → before_section (suc j) xs ≡ before_section (suc j) ys) → x ∷ (if b then before_section j xs else before_section (suc j) xs) ≡ x ∷ (if b then before_section j ys else before_section (suc j) ys)
    go true h past same = ap (λ zs. x ∷ zs) (past h)
    go false h past same = ap (λ zs. x ∷ zs) (same h)

with_prefix : (inh : List Item) {xs ys : List Item} → IsPrefix xs ys → IsPrefix (with_inherited inh xs) (with_inherited inh ys)
with_prefix inh nothing = nothing
with_prefix inh (next p) = append_prefix inh (next p)

pub reopened_prefix : (j : ℕ) {xs ys : List Item} → IsPrefix xs ys → IsPrefix (reopened j xs) (reopened j ys)
reopened_prefix j {xs = xs} {ys = ys} p = go (section j xs) refl
  where
    go : (zs : List Item) → section j xs ≡ zs → IsPrefix (reopened j xs) (reopened j ys)
    go [] is = subst (λ (zs : List Item). IsPrefix (with_inherited (inherited (counted (before_section j xs))) (to_eos zs)) (reopened j ys)) (sym is) nothing
    go (z ∷ zs) is =
        subst (λ (zs : List Item). IsPrefix (with_inherited (inherited (counted zs)) (to_eos (section j xs))) (reopened j ys)) (sym (before_settled j p (ap has_item is))) (with_prefix (inherited (counted (before_section j ys))) (to_eos_prefix (section_prefix j p)))

pub all_reopened_prefix : (j : ℕ) {css dss : List (List Call)} → ArePrefixes css dss → ArePrefixes (all_reopened j css) (all_reopened j dss)
all_reopened_prefix j none = none
all_reopened_prefix j (pad p ps) = pad (reopened_prefix j (items_prefix p)) (all_reopened_prefix j ps)

before_eos_prefix : {xs ys : List Item} → IsPrefix xs ys → IsPrefix (before_eos xs) (before_eos ys)
before_eos_prefix nothing = nothing
before_eos_prefix (next {x = x} {xs = xs} {ys = ys} p) = go (is_eos x) (before_eos_prefix p)
  where
    go : (b : Bool) → IsPrefix (before_eos xs) (before_eos ys) → IsPrefix (if b then [] else x ∷ before_eos xs) (if b then [] else x ∷ before_eos ys)
    go true q = nothing
    go false q = next q

-- a list with EOS is settled
before_eos_settled : {xs ys : List Item} → IsPrefix xs ys → has_end xs ≡ true → before_eos xs ≡ before_eos ys
before_eos_settled nothing h = absurd (cc)
before_eos_settled (next {x = x} {xs = xs} {ys = ys} p) h = go (is_eos x) h (before_eos_settled p)
  where
    go : (b : Bool) → (if b then true else has_end xs) ≡ true → (has_end xs ≡ true → before_eos xs ≡ before_eos ys) → (if b then [] else x ∷ before_eos xs) ≡ (if b then [] else x ∷ before_eos ys)
    go true h rest = refl
    go false h rest = ap (λ zs. x ∷ zs) (rest h)

end_settled : {xs ys : List Item} → IsPrefix xs ys → has_end xs ≡ true → has_end ys ≡ true
end_settled nothing h = absurd (cc)
end_settled (next {x = x} {xs = xs} {ys = ys} p) h = go (is_eos x) h (end_settled p)
  where
    go : (b : Bool) → (if b then true else has_end xs) ≡ true → (has_end xs ≡ true → has_end ys ≡ true) → (if b then true else has_end ys) ≡ true
    go true h rest = refl
    go false h rest = rest h

joined_prefix : (sums : Sums) {xss yss : List (List Item)} → ArePrefixes xss yss → IsPrefix (joined_from sums xss) (joined_from sums yss)
joined_prefix sums none = prefix_refl _
joined_prefix sums (pad {xs = xs} {ys = ys} {xss = xss} {yss = yss} p ps) = go (has_end xs) refl (joined_prefix (behind sums ys) ps)
  where
    open_pad : IsPrefix (map (raised sums) (before_eos xs) ++ []) (map (raised sums) (before_eos ys) ++ (if has_end ys then joined_from (behind sums ys) yss else []))
    open_pad = subst (λ (rs : List (Result Item Fault)). IsPrefix rs (map (raised sums) (before_eos ys) ++ (if has_end ys then joined_from (behind sums ys) yss else []))) (sym (append-nil (map (raised sums) (before_eos xs)))) (prefix_trans (prefix_map (raised sums) (before_eos_prefix p)) (prefix_append (map (raised sums) (before_eos ys)) (if has_end ys then joined_from (behind sums ys) yss else [])))

    go : (b : Bool) → has_end xs ≡ b → IsPrefix (joined_from (behind sums ys) xss) (joined_from (behind sums ys) yss)
        → IsPrefix (map (raised sums) (before_eos xs) ++ (if has_end xs then joined_from (behind sums xs) xss else [])) (map (raised sums) (before_eos ys) ++ (if has_end ys then joined_from (behind sums ys) yss else []))
    go false e rest = subst (λ (b : Bool). IsPrefix (map (raised sums) (before_eos xs) ++ (if b then joined_from (behind sums xs) xss else [])) (map (raised sums) (before_eos ys) ++ (if has_end ys then joined_from (behind sums ys) yss else []))) (sym e) open_pad
    go true e rest =
        subst (λ (b : Bool). IsPrefix (map (raised sums) (before_eos xs) ++ (if b then joined_from (behind sums xs) xss else [])) (map (raised sums) (before_eos ys) ++ (if has_end ys then joined_from (behind sums ys) yss else []))) (sym e)
        (subst (λ (b : Bool). IsPrefix (map (raised sums) (before_eos xs) ++ joined_from (behind sums xs) xss) (map (raised sums) (before_eos ys) ++ (if b then joined_from (behind sums ys) yss else []))) (sym (end_settled p e))
        (subst (λ (zs : List Item). IsPrefix (map (raised sums) zs ++ joined_from (with_tally sums (tally_of zs)) xss) (map (raised sums) (before_eos ys) ++ joined_from (behind sums ys) yss)) (sym (before_eos_settled p e))
        (append_prefix (map (raised sums) (before_eos ys)) rest)))

fault_prefix : {rs qs : List (Result Item Fault)} → IsPrefix rs qs → IsPrefix (up_to_fault rs) (up_to_fault qs)
fault_prefix nothing = nothing
fault_prefix (next {x = Ok x} p) = next (fault_prefix p)
fault_prefix (next {x = Err fault} p) = nothing

pub join_prefix : {xss yss : List (List Item)} → ArePrefixes xss yss → IsPrefix (joined xss) (joined yss)
join_prefix none = nothing
join_prefix (pad p ps) = joined_prefix no_sums (pad p ps)

pub concat_prefix : (css dss : List (List Call)) → ArePrefixes css dss → (port j : ℕ) → IsPrefix (concat_rule css port j) (concat_rule dss port j)
concat_prefix css dss p port j = fault_prefix (join_prefix (all_reopened_prefix j p))
