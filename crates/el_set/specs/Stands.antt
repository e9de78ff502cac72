-- For which rule, and for which calls and put-out items, an element between one sink pad and one source pad stands.
use Rattle.std.specs.Prelude.{◌≡◌, ◌≢◌, Bool, false, List, [], ◌∷◌, ◌++◌, Err}
use Rattle.gst_caps.specs.declared.caps.Caps.{Caps}
use Rattle.gst_item.specs.declared.out.Out.{Out}
use Rattle.flow_model.specs.Item.{Item}
use Rattle.flow_model.specs.Prefix.{IsPrefix}
use Rattle.flow_model.specs.Call.{Call}
use Rattle.flow_model.specs.Rule.{Response, Fault, passes}
use Rattle.flow_model.specs.Owed.{owed_at}
use Rattle.flow_model.specs.Puts.{PutsBy}
use Rattle.el_basic.specs.Passed.{Passed, has_ended}
use Rattle.el_basic.specs.Filters.{filters}
use Rattle.el_basic.specs.Filtered.{IsFilteredBy}
use Rattle.el_basic.specs.Valves.{valves}
use Rattle.el_basic.specs.Valved.{Valved}
use Rattle.el_convert.specs.Converts.{converts}
use Rattle.el_convert.specs.Converted.{IsConverted}
use Rattle.el_law.specs.Laws.{recodes}
use Rattle.el_law.specs.Recoded.{Recoded}
use Rattle.el_parse.specs.Parses.{parses as parses_raw}
use Rattle.el_parse.specs.Parsed.{Parsed as RawParsed}
use Rattle.el_parse.specs.Splits.{splits}
use Rattle.el_parse.specs.Regrouped.{Regrouped}
use Rattle.el_wav.specs.WavParse.{parses as parses_wav, Parsed as WavParsed}
use Rattle.el_wavenc.specs.Encodes.{encodes}
use Rattle.el_wavenc.specs.Encoded.{Encoded}
use Rattle.el_set.specs.declared.filter.FilterElement.{FilterElement}
use Rattle.el_set.specs.declared.filter.FilterElement.TheVariants.{Identity, CapsFilter, Valve, Convert, Law, RawParse, Split, WavParse, WavEnc}

-- at none of the calls the rule meets a fault
abbrev pub MeetsNone : Response → List Call → Type 0
MeetsNone respond calls = (front : List Call) (call : Call) (fault : Fault) → IsPrefix (front ++ call ∷ []) calls → owed_at respond front call ≢ Err fault

-- An element has one of these rules, stands by it for the calls and for what was put out, and met no fault.
abbrev pub Follows : {X E : Type 0} → (X → Response) → (X → E → List Call → List Item → Type 0) → Response → E → List Call → List Item → Type 0
Follows {X} rule Told respond element calls put = (x : X) × (respond ≡ rule x) × Told x element calls put × MeetsNone respond calls

-- It has the rule, was given the calls, of which none was a fault, and put out what the rule owes for them.
abbrev pub Stands : Response → FilterElement → List Call → List Item → Type 0
Stands respond (Identity identity) calls put = (respond ≡ passes) × Passed identity calls put
Stands respond (CapsFilter filter) calls put = (first : Caps) × (respond ≡ filters first) × IsFilteredBy first filter calls put
Stands respond (Valve valve) calls put = Follows valves Valved respond valve calls put
Stands respond (Convert convert) calls put = Follows converts IsConverted respond convert calls put
Stands respond (Law law) calls put = Follows recodes Recoded respond law calls put
Stands respond (RawParse parser) calls put = Follows parses_raw RawParsed respond parser calls put
Stands respond (Split split) calls put = Follows splits Regrouped respond split calls put
Stands respond (WavParse parser) calls put = Follows (λ (x : Unit {0}). parses_wav) (λ x e given owed. WavParsed e given owed) respond parser calls put
Stands respond (WavEnc encoder) calls put = Follows (λ (x : Unit {0}). encodes) (λ x e given owed. Encoded e given owed) respond encoder calls put

-- it passes all, and was given EOS since the last FLUSH_STOP; of the others it is not told
abbrev pub has_passed_eos : FilterElement → Bool
has_passed_eos (Identity identity) = has_ended identity
has_passed_eos _ = false

-- one element stands for all that another stands for
abbrev pub StandsAs : FilterElement → FilterElement → Type 0
StandsAs old new = (respond : Response) (calls : List Call) (put : List Item) → Stands respond old calls put → Stands respond new calls put

-- An element put out for a call what each rule owes by which it stands.
abbrev pub PutsOut : FilterElement → FilterElement → Call → List Out → List Out → Type 0
PutsOut old new call out out' = PutsBy (λ (respond : Response). respond) Stands old new call out out'
