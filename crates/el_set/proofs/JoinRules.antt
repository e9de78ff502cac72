-- What elements with several sink pads owe and want, kind by kind.
use Rattle.std.proofs.Common.{◌≡◌, ◌<◌, ℕ, Bool, true, false, ◌||◌, if◌then◌else◌, List, [], ◌∷◌, ◌++◌, length, replicate, Some, None, refl, ◌∙◌, subst, Ok, arith}
use Rattle.flow_model.specs.Item.{Item, is_flush_stop, is_eos, eos_among}
use Rattle.flow_model.specs.Section.{IsPlain}
use Rattle.flow_model.specs.Prefix.{IsPrefix, ArePrefixes}
use Rattle.flow_model.specs.Call.{Call, Feed}
use Rattle.flow_model.specs.SinkPads.{InSection, push_calls}
use Rattle.el_join.specs.Concats.{has_end, concat_rule}
use Rattle.el_join.specs.Sections.{open_section}
use Rattle.el_join.proofs.Handing.{hands_eos_on as concat_hands_on, wants_open_pads as concat_wants}
use Rattle.el_join.proofs.Plain.{concat_plain, concat_opens}
use Rattle.el_join.proofs.Prefixing.{concat_prefix}
use Rattle.el_join.proofs.Sectioning.{only_open_grows}
use Rattle.el_mix.specs.Mixed.{has}
use Rattle.el_mix.specs.Mixes.{mixes}
use Rattle.el_mix.specs.Relation.{section_of}
use Rattle.el_mix.proofs.Answering.{answers_owe}
use Rattle.el_mix.proofs.Closing.{hands_eos_on as mix_hands_on}
use Rattle.el_mix.proofs.Opening.{owes_more}
use Rattle.el_mix.proofs.Owing.{owes_in_order}
use Rattle.el_mix.proofs.Plain.{mixes_plain, mixes_open}
use Rattle.el_mix.proofs.Wanting.{wants_open_pads as mix_wants}
use Rattle.el_set.specs.declared.join.JoinElement.{JoinElement}
use Rattle.el_set.specs.declared.join.JoinElement.TheVariants.{Concat, Mix}
use Rattle.el_set.specs.Joins.{EachEnded, JoinStands, OpenGrows, join_answers, join_pads, join_rule, join_wanted, may_take}
use Rattle.el_set.proofs.Ends.{eos_first}

pub joins_plain : (join : JoinElement) (given : List (List Call)) (port j : ℕ) → IsPlain (join_rule join given port j)
joins_plain (Concat concat) given port j = concat_plain given port j
joins_plain (Mix mix) given port j = mixes_plain given port j

pub joins_open : (join : JoinElement) (pads port j : ℕ) → join_rule join (replicate pads []) port j ≡ []
joins_open (Concat concat) pads port j = concat_opens pads port j
joins_open (Mix mix) pads port j = mixes_open pads port j

pub joins_in_order : (join : JoinElement) (took whole : List (List Call)) (put : List Item) → JoinStands join took put → ArePrefixes took whole
    → (port j : ℕ) → IsPrefix (join_rule join took port j) (join_rule join whole port j)
joins_in_order (Concat concat) took whole put s begins port j = concat_prefix took whole begins port j
joins_in_order (Mix mix) took whole put s begins port j = owes_in_order took s.fed whole begins port j

-- the section that is open, by the first sink pad
pub concat_open : (n : ℕ) (took : List (List Call)) → 0 < length took → InSection n took → open_section took ≡ n
concat_open n [] some inside = absurd (omega (arith, some))
concat_open n (cs ∷ css) some inside = inside.0

pub mix_open : (n : ℕ) (took : List (List Call)) → 0 < length took → InSection n took → section_of took ≡ n
mix_open n [] some inside = absurd (omega (arith, some))
mix_open n (cs ∷ css) some inside = inside.0

pub joins_grow : (join : JoinElement) (pad : ℕ) (item : Item) (more : List Item) (took : List (List Call)) (put : List Item) (n : ℕ) → JoinStands join took put → pad < length took
    → is_flush_stop item ≡ false → InSection n took → join_answers join took pad item ≡ Ok more → OpenGrows (join_rule join) took (push_calls pad (Feed item ∷ []) took) n more
joins_grow (Concat concat) pad item more took put n s within plain inside answer =
    let open_is : open_section took ≡ n = concat_open n took (omega (arith, within)) inside in
    record {
      over = λ port j below. only_open_grows.over concat took s.remembers pad item port j (omega (arith, below, open_is));
      now = λ port. subst (λ k. concat_rule (push_calls pad (Feed item ∷ []) took) port k ≡ concat_rule took port k ++ more) open_is (only_open_grows.now concat took put s pad item more answer port);
    }
joins_grow (Mix mix) pad item more took put n s within plain inside answer =
    record {
      over = λ port j below. owes_more.over took pad n j port item inside plain below;
      now = λ port. answers_owe took pad n port item more inside plain within s.fed answer;
    }

-- EOS behind all else
eos_in : (xs : List Item) → has_end xs ≡ true → eos_among xs ≡ true
eos_in [] h = absurd (cc)
eos_in (x ∷ xs) h = eos_first x xs ∙ go (is_eos x) h (eos_in xs)
  where
    go : (b : Bool) → (if b then true else has_end xs) ≡ true → (has_end xs ≡ true → eos_among xs ≡ true) → (b || eos_among xs) ≡ true
    go true h rest = refl
    go false h rest = rest h

has_eos_in : (xs : List Item) → has is_eos xs ≡ true → eos_among xs ≡ true
has_eos_in [] h = absurd (cc)
has_eos_in (x ∷ xs) h = eos_first x xs ∙ go (is_eos x) h (has_eos_in xs)
  where
    go : (b : Bool) → (if b then true else has is_eos xs) ≡ true → (has is_eos xs ≡ true → eos_among xs ≡ true) → (b || eos_among xs) ≡ true
    go true h rest = refl
    go false h rest = rest h

pub joins_end : (join : JoinElement) (took : List (List Call)) (put : List Item) (n : ℕ) → JoinStands join took put → 0 < length took → InSection n took → EachEnded took
    → (port : ℕ) → eos_among (join_rule join took port n) ≡ true
joins_end (Concat concat) took put n s some inside ended port =
    eos_in (concat_rule took port n) (subst (λ k. has_end (concat_rule took port k) ≡ true) (concat_open n took some inside) (concat_hands_on concat took put s some ended port))
joins_end (Mix mix) took put n s some inside ended port =
    has_eos_in (mixes took port n) (subst (λ k. has is_eos (mixes took port k) ≡ true) (mix_open n took some inside) (mix_hands_on mix took put s some ended port))

-- the pad that is wanted
pub joins_have_pads : (join : JoinElement) (took : List (List Call)) (put : List Item) → JoinStands join took put → length took ≡ join_pads join
joins_have_pads (Concat concat) took put s = concat_wants.pads concat took put s
joins_have_pads (Mix mix) took put s = mix_wants.pads mix took put s

pub joins_want_within : (join : JoinElement) (pad : ℕ) → join_wanted join ≡ Some pad → pad < join_pads join
joins_want_within (Concat concat) pad e = concat_wants.within concat pad e
joins_want_within (Mix mix) pad e = mix_wants.within mix pad e

pub joins_want_in_order : (join : JoinElement) (took : List (List Call)) (put : List Item) (pad : ℕ) → JoinStands join took put → join_wanted join ≡ Some pad → may_take pad join ≡ true
joins_want_in_order (Concat concat) took put pad s e = refl
joins_want_in_order (Mix mix) took put pad s e = mix_wants.order mix took put pad s e

pub joins_want_none : (join : JoinElement) (took : List (List Call)) (put : List Item) → JoinStands join took put → join_wanted join ≡ None → EachEnded took
joins_want_none (Concat concat) took put s e = concat_wants.none concat took put s e
joins_want_none (Mix mix) took put s e = mix_wants.none mix took put s e
