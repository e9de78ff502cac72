-- That a kind is there with properties of these names, by what is answered for them.
use Rattle.std.proofs.Common.{◌≡◌, ◌≤◌, ◌&&◌, ℕ, Bool, true, false, List, [], ◌∷◌, ◌++◌, None, Some, Ok, Err, length, refl, ap, ◌∙◌, inl, inr, arith, is_some}
use Rattle.std.specs.Option.{option_map_or}
use Rattle.std.specs.List.{list_all}
use Rattle.std.proofs.lemmas.List.{length-append}
use Rattle.gst_value.specs.declared.name.Prop.{Prop}
use Rattle.graph_edits.specs.Names.{is_kind_there}
use Rattle.el_settings.specs.Checked.{IsAnswer, IsAnswerFor}
use Rattle.el_settings.specs.Kinds.{kinds}
use Rattle.el_settings.specs.Rows.{domain_named, find_row}
use Rattle.el_settings.specs.Values.{AllTaken}
use Rattle.el_settings.specs.declared.fault.PropFault.TheVariants.{BadValue}
use Rattle.el_settings.specs.declared.settings.Settings.{Settings}

-- what is taken is named so that the kind has it
taken_named : (kind : _) (props : List Prop) → AllTaken kind props → list_all (λ (prop : Prop). is_some (domain_named kind prop.name)) props ≡ true
taken_named kind [] h = refl
taken_named kind (prop ∷ props) h =
    ap (λ (b : Bool). b && list_all (λ (p : Prop). is_some (domain_named kind p.name)) props) (ap is_some h.0.1) ∙ taken_named kind props h.1

-- where there are settings all is there
pub settled_there : (word : List ℕ) (props : List Prop) (settings : Settings) → IsAnswer word props (Ok settings) → is_kind_there word props ≡ true
settled_there word props settings answer = by (find_row word kinds) answer
  where
    by : (found : _) → IsAnswerFor found props (Ok settings) → option_map_or (λ kind. list_all (λ (prop : Prop). is_some (domain_named kind prop.name)) props) found false ≡ true
    by None h = absurd h
    by (Some kind) h = taken_named kind props h.0

-- of one property a bad value is told only where the kind has the property
one_named : (kind : _) (before after : List Prop) (prop : Prop) → length (before ++ prop ∷ after) ≤ 1 → is_some (domain_named kind prop.name) ≡ true
    → list_all (λ (p : Prop). is_some (domain_named kind p.name)) (before ++ prop ∷ after) ≡ true
one_named kind [] [] prop few named = ap (λ (b : Bool). b && true) named
one_named kind [] (p ∷ after) prop few named = absurd (omega (arith, few))
one_named kind (p ∷ before) after prop few named = absurd (omega (arith, few, length-append before (prop ∷ after)))

pub valued_there : (word : List ℕ) (props : List Prop) (name : List ℕ) → length props ≤ 1 → IsAnswer word props (Err (BadValue name)) → is_kind_there word props ≡ true
valued_there word props name few answer = by (find_row word kinds) answer
  where
    by : (found : _) → IsAnswerFor found props (Err (BadValue name)) → option_map_or (λ kind. list_all (λ (prop : Prop). is_some (domain_named kind prop.name)) props) found false ≡ true
    by None h = absurd h
    by (Some kind) (inl first) =
        ap (list_all (λ (p : Prop). is_some (domain_named kind p.name))) first.place
        ∙ one_named kind first.before first.after first.prop (omega (arith, few, ap length first.place)) (ap is_some first.own.2)
    by (Some kind) (inr unfit) = taken_named kind props unfit.0
