-- What an element that nothing feeds took, and what stands in its inlets.
use Rattle.std.proofs.Common.{◌≡◌, ◌<◌, ◌++◌, ℕ, zero, suc, true, false, Bool, List, [], ◌∷◌, length, map, take, drop, Some, refl, sym, ap, ◌∙◌, subst, arith, if◌then◌else◌}
use Rattle.std.specs.Prelude.{slice_get}
use Rattle.flow_model.specs.Item.{Item, Ev, Eos}
use Rattle.flow_model.specs.Sticky.{stickies}
use Rattle.flow_model.specs.Call.{Call, Feed, Mark, feeds, with_marks}
use Rattle.flow_model.specs.Link.{Span, Linked, WasLinked, Flushed, Given, between, input_of, span_calls}
use Rattle.flow_model.specs.Split.{AreEmpty, AreSplit, none, pad}
use Rattle.flow_model.proofs.Splits.{split_all}
use Rattle.net_task.specs.Ties.{TookAt}
use Rattle.net_turns.specs.Net.{ListAt}
use Rattle.net_groups.specs.Splits.{HaveNoMarks}

feeds_more : (xs ys : List Item) → feeds (xs ++ ys) ≡ feeds xs ++ feeds ys
feeds_more [] ys = refl
feeds_more (x ∷ xs) ys = ap (λ (cs : List Call). Feed x ∷ cs) (feeds_more xs ys)

no_marks : (marks : List (ℕ × Mark)) (n : ℕ) (xs : List Item) → marks ≡ [] → with_marks marks n xs ≡ feeds xs
no_marks marks n xs is = ap (λ (ms : List (ℕ × Mark)). with_marks ms n xs) is ∙ plain n xs
  where
    plain : (n : ℕ) (xs : List Item) → with_marks [] n xs ≡ feeds xs
    plain n [] = refl
    plain n (x ∷ xs) = ap (λ (cs : List Call). Feed x ∷ cs) (plain (suc n) xs)

-- a list of calls that are items
abbrev AreItems : List Call → Type 0
AreItems calls = (got : List Item) × (calls ≡ feeds got)

both : (cs ds : List Call) → AreItems cs → AreItems ds → AreItems (cs ++ ds)
both cs ds a b = (a.0 ++ b.0, ap (λ (x : List Call). x ++ ds) a.1 ∙ ap (λ (x : List Call). feeds a.0 ++ x) b.1 ∙ sym (feeds_more a.0 b.0))

span_items : (h : ℕ → List Item) (span : Span) (spans : List Span) → HaveNoMarks (span ∷ spans) → AreItems (span_calls h span)
span_items h (Linked source from marks) spans bare = both (feeds (stickies (take from (h source)))) (with_marks marks from (drop from (h source))) (_, refl) (_, no_marks marks from (drop from (h source)) bare.0)
span_items h (WasLinked source from to eos marks) spans bare =
    both (feeds (stickies (take from (h source)))) (with_marks marks from (between from to (h source)) ++ (if eos then Feed (Ev Eos) ∷ [] else [])) (_, refl)
    (both (with_marks marks from (between from to (h source))) (if eos then Feed (Ev Eos) ∷ [] else []) (_, no_marks marks from (between from to (h source)) bare.0) (ending eos))
  where
    ending : (eos : Bool) → AreItems (if eos then Feed (Ev Eos) ∷ [] else [])
    ending true = (Ev Eos ∷ [], refl)
    ending false = ([], refl)
span_items h (Flushed number) spans bare = absurd bare
span_items h (Given calls) spans bare = absurd bare

rest_marks : (span : Span) (spans : List Span) → HaveNoMarks (span ∷ spans) → HaveNoMarks spans
rest_marks (Linked source from marks) spans bare = bare.1
rest_marks (WasLinked source from to eos marks) spans bare = bare.1
rest_marks (Flushed number) spans bare = absurd bare
rest_marks (Given calls) spans bare = absurd bare

input_items : (h : ℕ → List Item) (spans : List Span) → HaveNoMarks spans → AreItems (input_of h spans)
input_items h [] bare = ([], refl)
input_items h (span ∷ spans) bare = both (span_calls h span) (input_of h spans) (span_items h span spans bare) (input_items h spans (rest_marks span spans bare))

-- Items alone were taken at a sink pad.
pub record GotAt (css : List (List Call)) (port : ℕ) : Type 0 where
  pub got : List Item
  pub took : TookAt port css got
  pub list : ListAt port css (feeds got)

got_at : (h : ℕ → List Item) (sinks : List (List Span)) (port : ℕ) → ((port : ℕ) (spans : List Span) → slice_get sinks port ≡ Some spans → HaveNoMarks spans) → port < length sinks → GotAt (map (input_of h) sinks) port
got_at h [] port bare within = absurd (omega (arith, within))
got_at h (spans ∷ sinks) zero bare within = let z = input_items h spans (bare 0 spans refl) in record { got = z.0; took = z.1; list = z.1 }
got_at h (spans ∷ sinks) (suc port) bare within =
    let z = got_at h sinks port (λ p ss at. bare (suc p) ss at) (omega (arith, within)) in
    record { got = z.got; took = z.took; list = z.list }

pub none_at : (css : List (List Call)) (port : ℕ) → AreEmpty css → port < length css → ListAt port css []
none_at [] port empty within = absurd (omega (arith, within))
none_at (cs ∷ css) zero empty within = empty.0
none_at (cs ∷ css) (suc port) empty within = none_at css port empty.1 (omega (arith, within))

pub split_size : {ts hs ws : List (List Call)} → AreSplit ts hs ws → length hs ≡ length ws
split_size none = refl
split_size (pad e s) = ap suc (split_size s)

map_size : {A B : Type 0} (f : A → B) (xs : List A) → length (map f xs) ≡ length xs
map_size f [] = refl
map_size f (x ∷ xs) = ap suc (map_size f xs)

-- what was taken at each sink pad of an element in whose inlets nothing stands
pub took_items : (h : ℕ → List Item) (took held : List (List Call)) (sinks : List (List Span)) → AreSplit took held (map (input_of h) sinks) → AreEmpty held → ((port : ℕ) (spans : List Span) → slice_get sinks port ≡ Some spans → HaveNoMarks spans)
    → (port : ℕ) → port < length sinks → GotAt took port
took_items h took held sinks split empty bare port within = subst (λ (css : List (List Call)). GotAt css port) (sym (split_all empty split)) (got_at h sinks port bare within)

pub held_size : (h : ℕ → List Item) (took held : List (List Call)) (sinks : List (List Span)) → AreSplit took held (map (input_of h) sinks) → length held ≡ length sinks
held_size h took held sinks split = split_size split ∙ map_size (input_of h) sinks
