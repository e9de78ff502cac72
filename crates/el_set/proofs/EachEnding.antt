-- The rule of all settings, and each rule by which a filter stands, owes EOS for EOS, and neither EOS nor FLUSH_STOP in
-- front of it.
use Rattle.std.proofs.Common.{◌≡◌, ◌⊎◌, List, [], ◌∷◌, inl, inr, Result, Ok, Err}
use Rattle.flow_model.specs.Item.{Item}
use Rattle.flow_model.specs.Section.{counted}
use Rattle.flow_model.specs.Call.{Call, items}
use Rattle.flow_model.specs.Rule.{Response, Fault, passes}
use Rattle.el_set.specs.Denoted.{response_of}
use Rattle.el_set.specs.Stands.{MeetsNone, Stands}
use Rattle.el_set.specs.declared.filter.FilterElement.{FilterElement}
use Rattle.el_set.specs.declared.filter.FilterElement.TheVariants as elements
use Rattle.el_settings.specs.declared.settings.Settings.{Settings}
use Rattle.el_settings.specs.declared.settings.Settings.TheVariants as settings
use Rattle.el_set.proofs.Ends.{IsPassing, passes_is_passing, filters_is_passing}
use Rattle.el_set.proofs.Ending.{OwesEos, IsEnding}
use Rattle.el_set.proofs.Rules.{valves_ending, converts_ending, recodes_ending, raw_ending, splits_ending, wav_ending, encodes_ending, passing as passed_whole}

-- a rule that passes or refuses
passing_ending : (respond : Response) → IsPassing respond → IsEnding respond
passing_ending respond passing fed x h = go (respond fed x) (passing fed x)
  where
    go : (r : Result (List Item) Fault) → (r ≡ Ok (x ∷ [])) ⊎ ((fault : Fault) × (r ≡ Err fault)) → OwesEos x r
    go r (inl e) = rw e (passed_whole x h)
    go r (inr f) = rw f.1 tt

pub response_ending : (s : Settings) → IsEnding (response_of s)
response_ending (settings.CapsFilter s) = passing_ending _ (filters_is_passing s.caps)
response_ending (settings.Valve s) = valves_ending s.drops
response_ending (settings.AudioConvert s) = converts_ending s.allowed
response_ending (settings.Law kind) = recodes_ending kind
response_ending (settings.RawAudioParse info) = raw_ending info
response_ending (settings.AudioBufferSplit s) = splits_ending s.frames
response_ending settings.WavParse = wav_ending
response_ending settings.WavEnc = encodes_ending
response_ending _ = passing_ending passes passes_is_passing

pub is_ending : (respond : Response) (element : FilterElement) (calls : List Call) (put : List Item) → Stands respond element calls put → IsEnding respond
is_ending respond (elements.Identity identity) calls put s = rw s.0 (passing_ending passes passes_is_passing)
is_ending respond (elements.CapsFilter filter) calls put s = rw s.1 (passing_ending _ (filters_is_passing s.0))
is_ending respond (elements.Valve valve) calls put s = rw s.1 (valves_ending s.0)
is_ending respond (elements.Convert convert) calls put s = rw s.1 (converts_ending s.0)
is_ending respond (elements.Law law) calls put s = rw s.1 (recodes_ending s.0)
is_ending respond (elements.RawParse parser) calls put s = rw s.1 (raw_ending s.0)
is_ending respond (elements.Split split) calls put s = rw s.1 (splits_ending s.0)
is_ending respond (elements.WavParse parser) calls put s = rw s.1 wav_ending
is_ending respond (elements.WavEnc encoder) calls put s = rw s.1 encodes_ending

-- a filter puts out what counts of its items, or its rule met no fault
pub counts_or_meets : (respond : Response) (element : FilterElement) (calls : List Call) (put : List Item) → Stands respond element calls put
    → (put ≡ counted (items calls)) ⊎ MeetsNone respond calls
counts_or_meets respond (elements.Identity identity) calls put s = inl s.1.all
counts_or_meets respond (elements.CapsFilter filter) calls put s = inl s.2.all
counts_or_meets respond (elements.Valve valve) calls put s = inr s.3
counts_or_meets respond (elements.Convert convert) calls put s = inr s.3
counts_or_meets respond (elements.Law law) calls put s = inr s.3
counts_or_meets respond (elements.RawParse parser) calls put s = inr s.3
counts_or_meets respond (elements.Split split) calls put s = inr s.3
counts_or_meets respond (elements.WavParse parser) calls put s = inr s.3
counts_or_meets respond (elements.WavEnc encoder) calls put s = inr s.3
