-- Heads, and the bags that begin with them.
use Rattle.std.proofs.Common.{◌≡◌, ◌⊎◌, ◌+◌, ◌||◌, ℕ, Bool, true, false, not, List, [], ◌∷◌, ◌++◌, All, Option, None, Some, length, map, filter, refl, sym, ap, ◌∙◌, subst, append_assoc, inl, inr, arith}
use Rattle.std.specs.Prelude.{cond, slice_get}
use Rattle.std.specs.List.{range_with_len}
use Rattle.std.specs.Option.{option_map, option_map_or}
use Rattle.std.proofs.lemmas.List.FromFn.{filter_of_map_range_with_len_more}
use Rattle.std.proofs.lemmas.List.{append-nil, map-append, map-id}
use Rattle.std.proofs.lemmas.List.Elements.{All-push}
use Rattle.flow_model.specs.Account.{IsMember}
use Rattle.el_settings.specs.declared.settings.Settings.{Settings}
use Rattle.graph_core.specs.Elements.{Made, has}
use Rattle.graph_pads.specs.declared.pad.PadLink.{PadLink}
use Rattle.graph_parts.specs.Links.{has_inlets, is_head, is_loose, Begins, IsLoose, Reaches}
use Rattle.el_settings.specs.Asked.{is_source}
use Rattle.graph_parts.specs.Bags.{Once, number_of, cells, numbers, head_number, head_of, heads_in, loose_in, AreAllBags, AreHeadBags, IsHead, HavePads, GoBack, DepthFirst, IsBag}
use Rattle.graph_parts.specs.Walk.{AreReached, IsBagOf}
use Rattle.graph_parts.proofs.Apart.{loose_found, loose_once}
use Rattle.graph_parts.specs.declared.bag.Bag.{Bag}
use Rattle.graph_parts.specs.declared.bag.BagElement.{BagElement}
use Rattle.graph_parts.specs.declared.bag.BagHead.{BagHead}
use Rattle.graph_parts.specs.declared.bag.BagHead.TheVariants.{Source, Inlets}

-- what is asked of an element is asked of its settings
pub has_by : (asked : Settings → Bool) (found : Option Made) (s : Settings) → option_map (λ (m : Made). m.settings) found ≡ Some s → option_map_or (λ (m : Made). asked m.settings) found false ≡ asked s
has_by asked None s h = absurd (cc)
has_by asked (Some m) s h = ap asked (cc)

-- the bags of those of the first elements that pass a test come behind others
module _ (passes : ℕ → Bool) (front : List ℕ) where
  heads_more : (n : ℕ) → filter passes (range_with_len 0 (n + 1)) ≡ filter passes (range_with_len 0 n) ++ cond (passes n) (n ∷ []) []
  heads_more n = rw (sym (map-id (range_with_len 0 (n + 1))), sym (map-id (range_with_len 0 n))) (filter_of_map_range_with_len_more passes (λ (k : ℕ). k) 0 n n (omega arith))

  pub head_comes : (n : ℕ) (bags more : List Bag) (bag : Bag) → map head_of bags ≡ front ++ filter passes (range_with_len 0 n) → passes n ≡ true → head_of bag ≡ n
      → more ≡ bags ++ bag ∷ [] → map head_of more ≡ front ++ filter passes (range_with_len 0 (n + 1))
  head_comes n bags more bag before head first put = rw (put, more_heads, before, first, heads_more n, head) (append_assoc front (filter passes (range_with_len 0 n)) (n ∷ []))
    where
      more_heads : map head_of (bags ++ bag ∷ []) ≡ map head_of bags ++ head_of bag ∷ []
      more_heads = map-append head_of bags (bag ∷ [])

  pub none_comes : (n : ℕ) (bags : List Bag) → map head_of bags ≡ front ++ filter passes (range_with_len 0 n) → passes n ≡ false
      → map head_of bags ≡ front ++ filter passes (range_with_len 0 (n + 1))
  none_comes n bags before head = rw (before, heads_more n, head) (ap (λ (ns : List ℕ). front ++ ns) (sym (append-nil (filter passes (range_with_len 0 n)))))

pub all_bags : (made : List Made) (links : List PadLink) (bags more : List Bag) (bag : Bag) → All (IsBag made links) bags → IsBag made links bag → more ≡ bags ++ bag ∷ [] → All (IsBag made links) more
all_bags made links bags more bag all one put = subst (λ (l : List Bag). All (IsBag made links) l) (sym put) (All-push (IsBag made links) bags bag all one)

-- a loose element is no source
pub not_source : (found : Option Made) (linked : Bool) → not (option_map_or (λ (m : Made). is_head m.settings) found false || linked) ≡ true → option_map_or (λ (m : Made). is_source m.settings) found false ≡ false
not_source None linked is = refl
not_source (Some m) linked is = go (is_source m.settings) is
  where
    go : (b : Bool) → not ((b || has_inlets m.settings) || linked) ≡ true → b ≡ false
    go true is = absurd cc
    go false is = refl

-- a head that is no source is fed from inlets
kind_of : (found : Option Made) → option_map_or (λ (m : Made). is_head m.settings) found false ≡ true → option_map_or (λ (m : Made). is_source m.settings) found false ≡ false
    → option_map_or (λ (m : Made). has_inlets m.settings) found false ≡ true
kind_of None is none = absurd (cc)
kind_of (Some m) is none = subst (λ (b : Bool). (b || has_inlets m.settings) ≡ true) none is

module _ (made : List Made) (links : List PadLink) (head : ℕ) (bag : Bag) (all : List BagElement) (reached : AreReached made links head all) where
  -- the bag of all that its head reaches
  bag_of : IsHead made links bag.head → head_of bag ≡ head → cells bag ≡ all → IsBagOf made links head bag
  bag_of kind number same = record {
    number = number;
    is = record {
      head = kind;
      whole = λ e r. subst (λ (xs : List BagElement). IsMember e (map number_of xs)) (sym same) (reached.whole e (subst (λ (h : ℕ). Reaches made links h e) number r));
      only = λ e m. subst (λ (h : ℕ). Reaches made links h e) (sym number) (reached.only e (subst (λ (xs : List BagElement). IsMember e (map number_of xs)) same m));
      once = subst (λ (xs : List BagElement). Once (map number_of xs)) (sym same) reached.once;
      pads = subst (λ (xs : List BagElement). HavePads made links xs) (sym same) reached.pads;
      back = subst (λ (xs : List BagElement). GoBack [] xs) (sym same) reached.back;
      order = subst (λ (h : ℕ). DepthFirst made links (h ∷ []) (numbers bag)) (sym number)
          (subst (λ (xs : List BagElement). DepthFirst made links (head ∷ []) (map number_of xs)) (sym same) reached.order);
    };
  }

  -- what begins a bag and is no source is fed from inlets, or loose
  else_begins : Begins made links head → has is_source made head ≡ false → (has has_inlets made head ≡ true) ⊎ IsLoose made links head
  else_begins (inl is) none = inl (kind_of (slice_get made head) is none)
  else_begins (inr loose) none = inr loose

  pub is_bag : (b : Bool) → Begins made links head → has is_source made head ≡ b → cells bag ≡ all
      → (b ≡ true → (front : List BagElement) (own : BagElement) → all ≡ front ++ own ∷ [] → bag.head ≡ Source own) → (b ≡ false → bag.head ≡ Inlets head) → IsBagOf made links head bag
  is_bag true is kind same source inlets =
      let last = reached.last in
      let at = source refl last.front last.own last.is in
      bag_of (subst (λ (h : BagHead). IsHead made links h) (sym at) (subst (λ (e : ℕ). has is_source made e ≡ true) (sym last.number) kind)) (ap head_number at ∙ last.number) same
  is_bag false is kind same source inlets =
      let at = inlets refl in
      bag_of (subst (λ (h : BagHead). IsHead made links h) (sym at) (else_begins is kind)) (ap head_number at) same

-- where the bags of all heads were made, no loose element has one
pub are_heads : (made : List Made) (links : List PadLink) (bags : List Bag) (n : ℕ) → n ≡ length made → map head_of bags ≡ filter (has is_head made) (range_with_len 0 n) → All (IsBag made links) bags
    → AreHeadBags made links bags
are_heads made links bags n all heads are = record {
  are = record {
    loose = [];
    heads = heads ∙ ap (λ (k : ℕ). filter (has is_head made) (range_with_len 0 k)) all ∙ sym (append-nil (heads_in made));
    are = are;
    loose_are = λ e m. absurd m;
    loose_once = tt;
  };
  none = refl;
}

-- and where those of all loose elements were made behind them, each has one
pub are_all : (made : List Made) (links : List PadLink) (bags : List Bag) (n : ℕ) → n ≡ length made → map head_of bags ≡ heads_in made ++ filter (is_loose made links) (range_with_len 0 n)
    → All (IsBag made links) bags → AreAllBags made links bags
are_all made links bags n all heads are = record {
  are = record {
    loose = loose_in made links;
    heads = heads ∙ ap (λ (k : ℕ). heads_in made ++ filter (is_loose made links) (range_with_len 0 k)) all;
    are = are;
    loose_are = loose_found made links;
    loose_once = loose_once made links;
  };
  all = refl;
}
