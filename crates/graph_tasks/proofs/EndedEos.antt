-- EOS in lists, and in the list that a source owes.
use Rattle.std.proofs.Common.{◌≡◌, ℕ, Bool, true, false, if◌then◌else◌, List, [], ◌∷◌, sym, ap, ◌∙◌}
use Rattle.flow_model.specs.Item.{Item, is_eos, is_flush_stop, eos_among}
use Rattle.flow_model.specs.Sticky.{has_flush_stop, latest, since_flush_stop}
use Rattle.flow_model.specs.Over.{list_ended}
use Rattle.el_settings.specs.Asked.{is_source}
use Rattle.el_set.specs.Made.{list_of}
use Rattle.el_settings.specs.declared.settings.Settings.{Settings}
use Rattle.el_set.proofs.Ends.{eos_latest, plain_no_flush}
use Rattle.el_set.proofs.Lists.{eos_later, plain_list, source_eos}
use Rattle.flow_model.proofs.Counted.{since_all}
use Rattle.gst_item.specs.Item.{has_item}

-- without FLUSH_STOP any EOS is in force
ended_is : (xs : List Item) → has_flush_stop xs ≡ false → list_ended xs ≡ eos_among xs
ended_is xs none = ap (λ (ys : List Item). has_item (latest is_eos ys)) (since_all xs none) ∙ eos_latest xs

eos_since : (xs : List Item) → eos_among (since_flush_stop xs) ≡ true → eos_among xs ≡ true
eos_since [] h = h
eos_since (x ∷ xs) h = go (has_flush_stop xs) (is_flush_stop x) (eos_since xs) h
  where
    go : (b d : Bool) → (eos_among (since_flush_stop xs) ≡ true → eos_among xs ≡ true)
        → eos_among (if b then since_flush_stop xs else (if d then xs else x ∷ xs)) ≡ true → eos_among (x ∷ xs) ≡ true
    go true d rest h = eos_later x xs (rest h)
    go false true rest h = eos_later x xs h
    go false false rest h = h

-- one that is in force is there
pub ended_has : (xs : List Item) → list_ended xs ≡ true → eos_among xs ≡ true
ended_has xs h = eos_since xs (sym (eos_latest (since_flush_stop xs)) ∙ h)

ends : (s : Settings) (id : ℕ) (content : List ℕ) → eos_among (list_of s id content) ≡ true → list_ended (list_of s id content) ≡ true
ends s id content h = ended_is (list_of s id content) (plain_no_flush (list_of s id content) (plain_list s id content)) ∙ h

-- the list of a source ends with EOS
pub source_ends : (s : Settings) (id : ℕ) (content : List ℕ) → is_source s ≡ true → list_ended (list_of s id content) ≡ true
source_ends s id content is = ends s id content (source_eos s id content is)
