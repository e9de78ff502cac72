-- The elements that follow a rule of their own crate, one kind as the other.
use Rattle.std.proofs.Common.{◌≡◌, ◌≢◌, ℕ, Bool, true, false, if◌then◌else◌, List, [], ◌∷◌, ◌++◌, refl, sym, ap, ◌∙◌, subst, Result, Ok, Err, IsOk, IfOk, IfErr, OnOk, OnErr}
use Rattle.gst_caps.specs.declared.caps.Caps.{Caps}
use Rattle.gst_item.specs.declared.flow.Flow.{Flow}
use Rattle.gst_item.specs.declared.out.Out.{Out}
use Rattle.flow_model.specs.declared.fault.ElementFault.{ElementFault}
use Rattle.flow_model.specs.declared.fault.ElementFault.TheVariants.{NotNegotiated as Refused, BadStream as Broken, TooLong as Passing, OutOfMemory as Wanting}
use Rattle.audio_info.specs.declared.info.Info.{Info}
use Rattle.flow_model.specs.Item.{Item, Ev, FlushStop, Eos}
use Rattle.flow_model.specs.Call.{Call, Feed, Act, Drain}
use Rattle.flow_model.specs.Rule.{Response, Fault, Fed, unfed, all_called}
use Rattle.flow_model.specs.Feeding.{next_owed, flow_behind, IsFaultOf}
use Rattle.el_basic.specs.declared.valve.Valve.{Valve}
use Rattle.el_basic.specs.Valves.{valves}
use Rattle.el_basic.specs.Valved.{Valved}
use Rattle.el_basic.specs.Valved as valve_puts
use Rattle.el_convert.specs.declared.convert.Convert.{Convert}
use Rattle.el_convert.specs.Converts.{converts}
use Rattle.el_convert.specs.Converted.{IsConverted}
use Rattle.el_convert.specs.Puts as convert_puts
use Rattle.el_law.specs.declared.kind.LawKind.{LawKind}
use Rattle.el_law.specs.declared.law.Law.{Law}
use Rattle.el_law.specs.Laws.{recodes}
use Rattle.el_law.specs.Recoded.{Recoded}
use Rattle.el_law.specs.Puts as law_puts
use Rattle.el_parse.specs.Parses.{parses as parses_raw}
use Rattle.el_parse.specs.Parsed.{Parsed as RawParsed}
use Rattle.el_parse.specs.RawParsePuts.{RawParsePuts}
use Rattle.el_parse.specs.Regrouped.{Regrouped}
use Rattle.el_parse.specs.Splits.{splits}
use Rattle.el_parse.specs.SplitPuts.{SplitPuts}
use Rattle.el_parse.specs.declared.raw_parse.RawParse.{RawParse}
use Rattle.el_parse.specs.declared.split.Split.{Split}
use Rattle.el_wav.specs.WavParse.{parses as parses_wav, Parsed as WavParsed}
use Rattle.el_wav.specs.WavParsePuts as wav_puts
use Rattle.el_wav.specs.declared.wav_parse.WavParse.{WavParse}
use Rattle.el_wavenc.specs.Encodes.{encodes}
use Rattle.el_wavenc.specs.Encoded.{Encoded}
use Rattle.el_wavenc.specs.Puts as wavenc_puts
use Rattle.el_wavenc.specs.declared.wav_enc.WavEnc.{WavEnc}
use Rattle.el_set.specs.declared.filter.FilterElement.{FilterElement}
use Rattle.el_set.specs.declared.filter.FilterElement.TheVariants as elements
use Rattle.el_set.specs.Stands.{StandsAs, PutsOut, Follows}
use Rattle.flow_model.specs.Owed.{owed_at, without_eos}
use Rattle.el_set.proofs.Ending.{none_more, none_at_first, ok_no_fault}

-- one more call
more_followed : {X E : Type 0} (rule : X → Response) (Told : X → E → List Call → List Item → Type 0) (old new : E) (call : Call) (more : List Item)
    → ((x : X) (calls : List Call) (put : List Item) → Told x old calls put → owed_at (rule x) calls call ≡ Ok more)
    → ((x : X) (calls : List Call) (put : List Item) → Told x old calls put → Told x new (calls ++ call ∷ []) (put ++ more))
    → (respond : Response) (calls : List Call) (put : List Item) → Follows rule Told respond old calls put
    → (owed_at respond calls call ≡ Ok more) × Follows rule Told respond new (calls ++ call ∷ []) (put ++ more)
more_followed rule Told old new call more owed told respond calls put s =
    let owes : owed_at respond calls call ≡ Ok more = ap (λ (r : Response). owed_at r calls call) s.1 ∙ owed s.0 calls put s.2 in
    (owes, (s.0, s.1, told s.0 calls put s.2, none_more respond calls call s.3 (ok_no_fault more (owed_at respond calls call) owes)))

-- no FLUSH_STOP is a fault
abbrev IsCalm : Response → Type 0
IsCalm respond = (s : Fed) (number : ℕ) → IsOk (respond s (Ev (FlushStop number)))

calm_free : (r : Result (List Item) Fault) (fault : Fault) → IsOk r → r ≢ Err fault
calm_free (Ok ys) fault calm same = cc
calm_free (Err other) fault calm same = absurd (cc)

flush_free : (respond : Response) → IsCalm respond → (calls : List Call) (number : ℕ) (fault : Fault) → owed_at respond calls (Feed (Ev (FlushStop number))) ≢ Err fault
flush_free respond calm calls number fault = go (all_called respond unfed calls) (all_called respond unfed calls).over
  where
    go : (s : Fed) (over : Bool) → (if over then Ok [] else respond s (Ev (FlushStop number))) ≢ Err fault
    go s true same = ok_no_fault [] (Ok []) refl fault same
    go s false same = calm_free (respond s (Ev (FlushStop number))) fault (calm s number) same

pub flush_followed : {X E : Type 0} (rule : X → Response) (Told : X → E → List Call → List Item → Type 0) (old new : E) → ((x : X) → IsCalm (rule x))
    → ((x : X) (calls : List Call) (put : List Item) (number : ℕ) → Told x old calls put → Told x new (calls ++ Feed (Ev (FlushStop number)) ∷ []) (put ++ Ev (FlushStop number) ∷ []))
    → (respond : Response) (calls : List Call) (put : List Item) (number : ℕ) → Follows rule Told respond old calls put
    → Follows rule Told respond new (calls ++ Feed (Ev (FlushStop number)) ∷ []) (put ++ Ev (FlushStop number) ∷ [])
flush_followed rule Told old new calm told respond calls put number s = (
  s.0,
  s.1,
  told s.0 calls put number s.2,
  none_more respond calls (Feed (Ev (FlushStop number))) s.3 (flush_free respond (subst IsCalm (sym s.1) (calm s.0)) calls number),
)

pub valves_calm : (first : Bool) → IsCalm (valves first)
valves_calm first s number = refl

pub converts_calm : (first : Caps) → IsCalm (converts first)
converts_calm first s number = refl

pub recodes_calm : (kind : LawKind) → IsCalm (recodes kind)
recodes_calm kind s number = refl

pub parses_raw_calm : (info : Info) → IsCalm (parses_raw info)
parses_raw_calm info s number = refl

pub splits_calm : (frames : ℕ) → IsCalm (splits frames)
splits_calm frames s number = refl

pub parses_wav_calm : IsCalm parses_wav
parses_wav_calm s number = refl

pub encodes_calm : IsCalm encodes
encodes_calm s number = refl

-- the first calls
pub followed_first : {X E : Type 0} (rule : X → Response) (Told : X → E → List Call → List Item → Type 0) (respond : Response) (x : X) (e : E) → respond ≡ rule x → Told x e [] []
    → Follows rule Told respond e [] []
followed_first rule Told respond x e is told = (x, is, told, none_at_first respond)

-- the same lists
pub followed_as : {X E : Type 0} (rule : X → Response) (Told : X → E → List Call → List Item → Type 0) (old new : E)
    → ((x : X) (calls : List Call) (put : List Item) → Told x old calls put → Told x new calls put)
    → (respond : Response) (calls : List Call) (put : List Item) → Follows rule Told respond old calls put → Follows rule Told respond new calls put
followed_as rule Told old new told respond calls put s = (s.0, s.1, told s.0 calls put s.2, s.3)

pub same_as : {X E : Type 0} (rule : X → Response) (Told : X → E → List Call → List Item → Type 0) (old new : E) → new ≡ old
    → (respond : Response) (calls : List Call) (put : List Item) → Follows rule Told respond old calls put → Follows rule Told respond new calls put
same_as rule Told old new is respond calls put s = (s.0, s.1, subst (λ e. Told s.0 e calls put) (sym is) s.2, s.3)

-- what each puts out for a call
pub valve_put : (element : FilterElement) (old new : Valve) (call : Call) (out out' : List Out) → element ≡ elements.Valve old
    → valve_puts.Puts old new call out out' → PutsOut element (elements.Valve new) call out out'
valve_put element old new call out out' is p =
    let both = more_followed valves Valved old new call p.more p.owed p.stands in
    rw is (record { more = p.more; outs = p.outs; owed = λ respond calls put s. (both respond calls put s).0; stands = λ respond calls put s. (both respond calls put s).1 })

pub convert_put : (element : FilterElement) (old new : Convert) (call : Call) (out out' : List Out) → element ≡ elements.Convert old
    → convert_puts.Puts old new call out out' → PutsOut element (elements.Convert new) call out out'
convert_put element old new call out out' is p =
    let both = more_followed converts IsConverted old new call p.more p.owed p.stands in
    rw is (record { more = p.more; outs = p.outs; owed = λ respond calls put s. (both respond calls put s).0; stands = λ respond calls put s. (both respond calls put s).1 })

pub law_put : (element : FilterElement) (old new : Law) (call : Call) (out out' : List Out) → element ≡ elements.Law old
    → law_puts.Puts old new call out out' → PutsOut element (elements.Law new) call out out'
law_put element old new call out out' is p =
    let both = more_followed recodes Recoded old new call p.more p.owed p.stands in
    rw is (record { more = p.more; outs = p.outs; owed = λ respond calls put s. (both respond calls put s).0; stands = λ respond calls put s. (both respond calls put s).1 })

pub raw_put : (element : FilterElement) (old new : RawParse) (call : Call) (out out' : List Out) → element ≡ elements.RawParse old
    → RawParsePuts old new call out out' → PutsOut element (elements.RawParse new) call out out'
raw_put element old new call out out' is p =
    let both = more_followed parses_raw RawParsed old new call p.more p.owed p.stands in
    rw is (record { more = p.more; outs = p.outs; owed = λ respond calls put s. (both respond calls put s).0; stands = λ respond calls put s. (both respond calls put s).1 })

pub split_put : (element : FilterElement) (old new : Split) (call : Call) (out out' : List Out) → element ≡ elements.Split old
    → SplitPuts old new call out out' → PutsOut element (elements.Split new) call out out'
split_put element old new call out out' is p =
    let both = more_followed splits Regrouped old new call p.more p.owed p.stands in
    rw is (record { more = p.more; outs = p.outs; owed = λ respond calls put s. (both respond calls put s).0; stands = λ respond calls put s. (both respond calls put s).1 })

abbrev pub by_wav : Unit {0} → Response
by_wav x = parses_wav

abbrev pub told_wav : Unit {0} → WavParse → List Call → List Item → Type 0
told_wav x e given owed = WavParsed e given owed

pub wav_put : (element : FilterElement) (old new : WavParse) (call : Call) (out out' : List Out) → element ≡ elements.WavParse old
    → wav_puts.Puts old new call out out' → PutsOut element (elements.WavParse new) call out out'
wav_put element old new call out out' is p =
    let both = more_followed by_wav told_wav old new call p.more p.owed p.stands in
    rw is (record { more = p.more; outs = p.outs; owed = λ respond calls put s. (both respond calls put s).0; stands = λ respond calls put s. (both respond calls put s).1 })

abbrev pub by_enc : Unit {0} → Response
by_enc x = encodes

abbrev pub told_enc : Unit {0} → WavEnc → List Call → List Item → Type 0
told_enc x e given owed = Encoded e given owed

pub wavenc_put : (element : FilterElement) (old new : WavEnc) (call : Call) (out out' : List Out) → element ≡ elements.WavEnc old
    → wavenc_puts.Puts old new call out out' → PutsOut element (elements.WavEnc new) call out out'
wavenc_put element old new call out out' is p =
    let both = more_followed by_enc told_enc old new call p.more p.owed p.stands in
    rw is (record { more = p.more; outs = p.outs; owed = λ respond calls put s. (both respond calls put s).0; stands = λ respond calls put s. (both respond calls put s).1 })

-- by the answer of the call
pub on_taken : {R F : Type 0} (r : Result R F) {P Q : Type 0} → (P → Q) → OnOk r P → OnOk r Q
on_taken (Ok x) f p = f p
on_taken (Err fault) f p = tt

pub if_taken : {R F : Type 0} (r : Result R F) {P Q : Type 0} → (P → Q) → IfOk r (λ x. P) → IfOk r (λ x. Q)
if_taken (Ok x) f p = f p
if_taken (Err fault) f p = tt

-- the answer to an item, and a fault, by each rule that it may have
pub flow_by : {X E : Type 0} (rule : X → Response) (Told : X → E → List Call → List Item → Type 0) (r : Result Flow ElementFault) (old : E)
    → IfOk r (λ flow. (x : X) (calls : List Call) (put : List Item) → Told x old calls put → flow ≡ flow_behind calls)
    → IfOk r (λ flow. (respond : Response) (calls : List Call) (put : List Item) → Follows rule Told respond old calls put → flow ≡ flow_behind calls)
flow_by rule Told (Ok flow) old h = λ respond calls put s. h s.0 calls put s.2
flow_by rule Told (Err fault) old h = tt

pub fault_by : {X E R : Type 0} (rule : X → Response) (Told : X → E → List Call → List Item → Type 0) (r : Result R ElementFault) (old : E) (call : Call)
    → IfErr r (λ fault. (x : X) (calls : List Call) (put : List Item) → Told x old calls put → IsFaultOf (owed_at (rule x) calls call) fault)
    → IfErr r (λ fault. (respond : Response) (calls : List Call) (put : List Item) → Follows rule Told respond old calls put → IsFaultOf (owed_at respond calls call) fault)
fault_by rule Told (Ok x) old call h = tt
fault_by rule Told (Err fault) old call h = λ respond calls put s. subst (λ (q : Response). IsFaultOf (owed_at q calls call) fault) (sym s.1) (h s.0 calls put s.2)

-- and where there is one rule
pub flow_alone : {E : Type 0} (Told : E → List Call → List Item → Type 0) (r : Result Flow ElementFault) (old : E)
    → IfOk r (λ flow. (calls : List Call) (put : List Item) → Told old calls put → flow ≡ flow_behind calls)
    → IfOk r (λ flow. (x : Unit {0}) (calls : List Call) (put : List Item) → Told old calls put → flow ≡ flow_behind calls)
flow_alone Told (Ok flow) old h = λ x calls put s. h calls put s
flow_alone Told (Err fault) old h = tt

pub fault_alone : {E R : Type 0} (respond : Response) (Told : E → List Call → List Item → Type 0) (r : Result R ElementFault) (old : E) (call : Call)
    → IfErr r (λ fault. (calls : List Call) (put : List Item) → Told old calls put → IsFaultOf (owed_at respond calls call) fault)
    → IfErr r (λ fault. (x : Unit {0}) (calls : List Call) (put : List Item) → Told old calls put → IsFaultOf (owed_at respond calls call) fault)
fault_alone respond Told (Ok x) old call h = tt
fault_alone respond Told (Err fault) old call h = λ x calls put s. h calls put s

-- an element that is as before
pub stays_by : {E R : Type 0} (arm : E → FilterElement) (r : Result R ElementFault) (element : FilterElement) (old new : E) (out out' : List Out) → element ≡ arm old
    → OnErr r ((new ≡ old) × (out' ≡ out)) → OnErr r (StandsAs element (arm new))
stays_by arm (Ok x) element old new out out' is h = tt
stays_by arm (Err fault) element old new out out' is h = rw (is, h.0) (λ respond calls put s. s)

pub stays_wav : (r : Result Flow ElementFault) (element : FilterElement) (old new : WavParse) → element ≡ elements.WavParse old
    → OnErr r ((calls : List Call) (put : List Item) → WavParsed old calls put → WavParsed new calls put) → OnErr r (StandsAs element (elements.WavParse new))
stays_wav (Ok flow) element old new is h = tt
stays_wav (Err fault) element old new is h = rw is (followed_as by_wav told_wav old new (λ x calls put s. h calls put s))

-- a drain whose fault is that of EOS
pub drain_fault : (r : Result (List Item) Fault) (fault : ElementFault) → IsFaultOf r fault → IsFaultOf (without_eos r) fault
drain_fault r (Refused offered wanted) h = ap without_eos h
drain_fault r (Broken place kind) h = ap without_eos h
drain_fault r (Passing a b) h = ap without_eos h
drain_fault r Wanting h = tt

pub drain_of_eos : {E R : Type 0} (respond : Response) (Told : E → List Call → List Item → Type 0) (r : Result R ElementFault) (old : E)
    → IfErr r (λ fault. (calls : List Call) (put : List Item) → Told old calls put → IsFaultOf (next_owed respond calls (Ev Eos)) fault)
    → IfErr r (λ fault. (calls : List Call) (put : List Item) → Told old calls put → IsFaultOf (owed_at respond calls (Act Drain)) fault)
drain_of_eos respond Told (Ok x) old h = tt
drain_of_eos respond Told (Err fault) old h = λ calls put s. drain_fault (next_owed respond calls (Ev Eos)) fault (h calls put s)
