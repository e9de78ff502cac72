-- A part with one more item.
use Rattle.std.proofs.Common.{◌≡◌, ◌≤◌, ◌<◌, ◌+◌, ◌-◌, ℕ, Bool, true, false, if◌then◌else◌, List, [], ◌∷◌, ◌++◌, length, Option, Some, None, refl, sym, ap, subst, ◌∙◌, arith, length-append, append-nil, inl, MatchOption, map, Result}
use Rattle.std.specs.Prelude.{nat_le, unwrap_or}
use Rattle.std.proofs.lemmas.Bool.{le-leb, lt-leb}
use Rattle.std.proofs.lemmas.List.{length-drop}
use Rattle.gst_item.specs.declared.out.Out.{Out}
use Rattle.wav_format.specs.declared.head.Head.{Head}
use Rattle.wav_format.specs.Chunks.{BeginsWithHead}
use Rattle.wav_format.specs.Format.{AreBytes}
use Rattle.flow_model.specs.declared.fault.ElementFault.{ElementFault}
use Rattle.flow_model.specs.declared.fault.ElementFault.TheVariants.{NotNegotiated as Refused, BadStream as Broken, TooLong as TooFar, OutOfMemory as Wanting}
use Rattle.flow_model.specs.Rule.{Fault}
use Rattle.flow_model.specs.Item.{Item, Buf, Ev, Event, Buffer, Segment, StreamStart, NewCaps, NewSegment, Tag, Gap, FlushStop, Eos, is_caps, is_segment, is_eos, is_flush_stop}
use Rattle.flow_model.specs.Source.{bytes_segment}
use Rattle.flow_model.specs.Call.{Call, Feed}
use Rattle.flow_model.specs.Feeding.{next_owed, on_pad, IsFaultOf}
use Rattle.el_parse.specs.Parses.{parses as parses_raw}
use Rattle.el_wav.specs.declared.wav_begun.Begun.{Begun}
use Rattle.el_wav.specs.declared.wav_data.KnownHead.{KnownHead}
use Rattle.el_wav.specs.declared.wav_gathered.Gathered.{Gathered}
use Rattle.el_wav.specs.declared.wav_parse.Phase.{Phase}
use Rattle.el_wav.specs.declared.wav_parse.Phase.TheVariants.{Unbegun as Fresh, InHead as Reading, InData as Passing}
use Rattle.el_wav.specs.declared.wav_parse.WavParse.{WavParse}
use Rattle.el_wav.specs.WavParseHeads.{Told, Whole, More, Wrong, ReadsHeads}
use Rattle.el_wav.specs.WavParseParts.{Known, Part, Standing, Unbegun, InHead, InData, Broken, goes_on, read_as, stands_at, stands_from, standing, known_by, known_in, place_at, with_item}
use Rattle.el_wav.specs.WavParseRule.{last_of, last_owed, Reopens, within, left_of, Passed, Nothing, OneMore, First, body_item, pass_first, pass_body, pass_segment, passed, calls_with, owed_with, calls_behind, unless_broken, answer}
use Rattle.el_wav.specs.WavParseData.{IsKnown}
use Rattle.el_wav.specs.WavParseGathered.{HasGathered}
use Rattle.el_wav.proofs.WavParseFits.{head_within}
use Rattle.el_wav.specs.WavParsed.{KnowsHead, StandsAs, IsIn}
use Rattle.el_wav.specs.WavParseSteps.{ReadOn, IsBehind, FedOn, WentOn, IsPlaceIn, Took, data_item, head_owed}
use Rattle.gst_value.proofs.Basics.{plus_none as no_bytes}
use Rattle.wav_format.proofs.Bodies.{bytes-append as bytes_joined}

-- ---- where a reader stands

pub fresh_is : (st : Standing) (bytes : List ℕ) (phase : Phase) → phase ≡ Fresh → StandsAs st bytes phase → (st ≡ Unbegun) × (bytes ≡ [])
fresh_is Unbegun bytes phase e s = (refl, subst (StandsAs Unbegun bytes) e s)
fresh_is InHead bytes phase e s = absurd (subst (StandsAs InHead bytes) e s)
fresh_is (InData k place) bytes phase e s = absurd (subst (StandsAs (InData k place) bytes) e s)
fresh_is (Broken place kind) bytes phase e s = absurd (subst (StandsAs (Broken place kind) bytes) e s)

pub reading_is : (st : Standing) (bytes : List ℕ) (phase : Phase) (has : Gathered) → phase ≡ Reading has → StandsAs st bytes phase → (st ≡ InHead) × HasGathered has bytes
reading_is Unbegun bytes phase has e s = absurd (subst (StandsAs Unbegun bytes) e s)
reading_is InHead bytes phase has e s = (refl, subst (StandsAs InHead bytes) e s)
reading_is (InData k place) bytes phase has e s = absurd (subst (StandsAs (InData k place) bytes) e s)
reading_is (Broken place kind) bytes phase has e s = absurd (subst (StandsAs (Broken place kind) bytes) e s)

-- with a copy of what is gathered
pub reading_again : (st : Standing) (bytes : List ℕ) (phase : Phase) (has made : Gathered) → phase ≡ Reading has → ((given : List ℕ) → HasGathered has given → HasGathered made given) → StandsAs st bytes phase → StandsAs st bytes (Reading made)
reading_again st bytes phase has made e same s =
    let at = reading_is st bytes phase has e s in
    subst (λ t. StandsAs t bytes (Reading made)) (sym at.0) (same bytes at.1)

-- in the data, with the head that is known
pub record InDataOf (st : Standing) (left : Option ℕ) : Type 0 where
  pub known : Known
  pub place : ℕ
  pub stands : st ≡ InData known place
  pub left_is : left ≡ left_of known.head.size place

pub passing_is : (st : Standing) (bytes : List ℕ) (phase : Phase) (left : Option ℕ) → phase ≡ Passing left → StandsAs st bytes phase → InDataOf st left
passing_is Unbegun bytes phase left e s = absurd (subst (StandsAs Unbegun bytes) e s)
passing_is InHead bytes phase left e s = absurd (subst (StandsAs InHead bytes) e s)
passing_is (InData k place) bytes phase left e s = record { known = k; place = place; stands = refl; left_is = subst (StandsAs (InData k place) bytes) e s }
passing_is (Broken place kind) bytes phase left e s = absurd (subst (StandsAs (Broken place kind) bytes) e s)

-- ---- known heads

-- the known head where one is there, and where none is
pub record KnownBy (known : Option Known) (calls : List Call) (has : KnownHead) : Type 0 where
  pub k : Known
  pub known_is : known ≡ Some k
  pub is : IsKnown k calls has

pub knows_some : (known : Option Known) (calls : List Call) (slot : Option KnownHead) (has : KnownHead) → slot ≡ Some has → KnowsHead known calls slot → KnownBy known calls has
knows_some None calls slot has e knows = absurd (subst (KnowsHead None calls) e knows)
knows_some (Some k) calls slot has e knows = record { k = k; known_is = refl; is = subst (KnowsHead (Some k) calls) e knows }

-- a head whose data begins behind a place does not go on there
chosen_none : (b : Bool) (k : Known) → b ≡ false → (if b then Some k else None) ≡ None
chosen_none true k e = absurd (cc)
chosen_none false k e = refl

chosen_some : (b : Bool) (k : Known) → b ≡ true → (if b then Some k else None) ≡ Some k
chosen_some true k e = refl
chosen_some false k e = absurd (cc)

pub behind_place : (k : Known) (place : ℕ) → place < k.head.start → goes_on (Some k) place ≡ None
behind_place k place lt = chosen_none (nat_le k.head.start place) k (lt-leb k.head.start place lt)

pub at_place : (k : Known) (place : ℕ) → k.head.start ≤ place → goes_on (Some k) place ≡ Some k
at_place k place le = chosen_some (nat_le k.head.start place) k (le-leb k.head.start place le)

pub none_at_front : (known : Option Known) (calls : List Call) (slot : Option KnownHead) → KnowsHead known calls slot → goes_on known 0 ≡ None
none_at_front None calls slot knows = refl
none_at_front (Some k) calls None knows = absurd knows
none_at_front (Some k) calls (Some has) knows = behind_place k 0 (let same = ap (λ (h : Head). h.start) knows.0 in let some = has.some in omega (arith, same, some))

-- ---- a body

-- the bytes of a part with one more body
abbrev pub joined : Part → Buffer → List ℕ
joined p b = p.bytes ++ b.body

abbrev pub behind_body : (List ℕ → Told) → Part → Buffer → Standing
behind_body read p b = standing read (with_item read p (Buf b))

-- where a head is read
pub record Heading (read : List ℕ → Told) (p : Part) (b : Buffer) : Type 0 where
  pub after : behind_body read p b ≡ read_as (read (joined p b)) (joined p b)
  pub passes : passed read p (Buf b) ≡ pass_first (read_as (read (joined p b)) (joined p b)) (joined p b)

some_begun : (told : Told) (bytes : List ℕ) → read_as told bytes ≡ Unbegun → ⊥
some_begun (Whole head info) bytes e = absurd (cc)
some_begun More bytes e = absurd (cc)
some_begun (Wrong place kind) bytes e = absurd (cc)

some_start : (read : List ℕ → Told) (on : Option Known) (start : ℕ) (bytes : List ℕ) → stands_at read on start bytes ≡ Unbegun → ⊥
some_start read (Some k) start bytes e = absurd (cc)
some_start read None start bytes e = some_begun (read bytes) bytes e

pub heading_fresh : (read : List ℕ → Told) (p : Part) (b : Buffer) → standing read p ≡ Unbegun → goes_on p.known 0 ≡ None → Heading read p b
heading_fresh read p b at none = go p.start refl
  where
    go : (o : Option ℕ) → p.start ≡ o → Heading read p b
    go None e =
        let after : behind_body read p b ≡ read_as (read (joined p b)) (joined p b) =
        ap (λ (o : Option ℕ). stands_from read p.known (Some (unwrap_or o 0)) (joined p b)) e ∙ ap (λ g. stands_at read g 0 (joined p b)) none in
        record { after = after; passes = ap (λ st. pass_body st (behind_body read p b) (joined p b) b.body) at ∙ ap (λ st. pass_first st (joined p b)) after }
    go (Some s) e = absurd (some_start read (goes_on p.known s) s p.bytes (ap (λ (o : Option ℕ). stands_from read p.known o p.bytes) (sym e) ∙ at))

pub heading_reading : (read : List ℕ → Told) (p : Part) (b : Buffer) → standing read p ≡ InHead → Heading read p b
heading_reading read p b at = go p.start refl
  where
    go : (o : Option ℕ) → p.start ≡ o → Heading read p b
    go None e = let t : Unbegun ≡ InHead = ap (λ (o : Option ℕ). stands_from read p.known o p.bytes) (sym e) ∙ at in absurd (cc)
    go (Some s) e = on (goes_on p.known s) refl
      where
        on : (g : Option Known) → goes_on p.known s ≡ g → Heading read p b
        on (Some k) f =
            let t : InData k (s - k.head.start + length p.bytes) ≡ InHead =
            ap (λ g. stands_at read g s p.bytes) (sym f) ∙ ap (λ (o : Option ℕ). stands_from read p.known o p.bytes) (sym e) ∙ at in
            absurd (cc)
        on None f =
            let after : behind_body read p b ≡ read_as (read (joined p b)) (joined p b) =
            ap (λ (o : Option ℕ). stands_from read p.known (Some (unwrap_or o 0)) (joined p b)) e ∙ ap (λ g. stands_at read g s (joined p b)) f in
            record { after = after; passes = ap (λ st. pass_body st (behind_body read p b) (joined p b) b.body) at ∙ ap (λ st. pass_first st (joined p b)) after }

pub head_answer : (read : List ℕ → Told) (p : Part) (b : Buffer) (calls : List Call) → Heading read p b → answer read p calls (Buf b) ≡ head_owed read calls (joined p b)
head_answer read p b calls h =
    ap (λ st. unless_broken st (owed_with calls (passed read p (Buf b)))) h.after
    ∙ ap (λ q. unless_broken (read_as (read (joined p b)) (joined p b)) (owed_with calls q)) h.passes

-- what is to be in the reader, and where it stands
is_in_by : (read : List ℕ → Told) (p : Part) (b : Buffer) (calls : List Call) (new : WavParse) (st : Standing) (q : Passed) → ReadsHeads read
    → behind_body read p b ≡ st → passed read p (Buf b) ≡ q → KnowsHead (known_by st p.known) (calls_with calls q) new.known → StandsAs st (joined p b) new.phase
    → IsIn read (with_item read p (Buf b)) (calls_behind read p calls (Buf b)) new
is_in_by read p b calls new st q reads s e knows stands = record {
  reads = reads;
  knows = subst (λ t. KnowsHead (known_by t p.known) (calls_with calls (passed read p (Buf b))) new.known) (sym s) (subst (λ r. KnowsHead (known_by st p.known) (calls_with calls r) new.known) (sym e) knows);
  stands = subst (λ t. StandsAs t (joined p b) new.phase) (sym s) stands;
}

took_more : (read : List ℕ → Told) (p : Part) (b : Buffer) (calls : List Call) (new : WavParse) (has : Gathered) (before after : List Out)
    → ReadsHeads read → Heading read p b → KnowsHead p.known calls new.known → new.phase ≡ Reading has
    → ReadOn read (joined p b) has before after None → Took read p calls (Buf b) new before after
took_more read p b calls new has before after reads h knows phase (more, has_gathered, out) =
    let st : behind_body read p b ≡ InHead = h.after ∙ ap (λ t. read_as t (joined p b)) more in
    let q : passed read p (Buf b) ≡ Nothing = h.passes ∙ ap (λ t. pass_first (read_as t (joined p b)) (joined p b)) more in
    record {
      ys = [];
      owed = head_answer read p b calls h ∙ ap (λ t. unless_broken (read_as t (joined p b)) (owed_with calls (pass_first (read_as t (joined p b)) (joined p b)))) more;
      out = out ∙ sym (append-nil before);
      is_in = is_in_by read p b calls new InHead Nothing reads st q knows (subst (StandsAs InHead (joined p b)) (sym phase) has_gathered);
    }

took_whole : (read : List ℕ → Told) (p : Part) (b : Buffer) (calls : List Call) (new : WavParse) (has : Gathered) (begun : Begun) (before after : List Out)
    → ReadsHeads read → Heading read p b → new.known ≡ Some begun.known → new.phase ≡ Passing begun.left
    → ReadOn read (joined p b) has before after (Some begun) → Took read p calls (Buf b) new before after
took_whole read p b calls new has begun before after reads h knows phase (head, begun_data, whole) =
    let k : Known = record { head = head; info = begun_data.info } in
    let st : behind_body read p b ≡ InData k (length (joined p b) - head.start) = h.after ∙ ap (λ t. read_as t (joined p b)) whole in
    let q : passed read p (Buf b) ≡ First begun_data.info (data_item head (joined p b)) = h.passes ∙ ap (λ t. pass_first (read_as t (joined p b)) (joined p b)) whole in
    record {
      ys = begun_data.ys;
      owed = head_answer read p b calls h ∙ ap (λ t. unless_broken (read_as t (joined p b)) (owed_with calls (pass_first (read_as t (joined p b)) (joined p b)))) whole ∙ begun_data.owed;
      out = begun_data.out;
      is_in = is_in_by read p b calls new (InData k (length (joined p b) - head.start)) (First begun_data.info (data_item head (joined p b))) reads st q
          (subst (KnowsHead (Some k) (Feed (data_item head (joined p b)) ∷ [])) (sym knows) begun_data.known)
          (subst (StandsAs (InData k (length (joined p b) - head.start)) (joined p b)) (sym phase) (begun_data.left ∙ ap (left_of head.size) (length-drop head.start (joined p b))));
    }

-- a body while a head is read
pub took_read : (read : List ℕ → Told) (p : Part) (b : Buffer) (calls : List Call) (new : WavParse) (has : Gathered) (old : Option KnownHead) (begun : Option Begun) (before after : List Out)
    → ReadsHeads read → Heading read p b → KnowsHead p.known calls old → IsBehind begun has old new.known new.phase
    → ReadOn read (joined p b) has before after begun → Took read p calls (Buf b) new before after
took_read read p b calls new has old None before after reads h knows (same, phase) on = took_more read p b calls new has before after reads h (subst (KnowsHead p.known calls) (sym same) knows) phase on
took_read read p b calls new has old (Some begun) before after reads h knows (same, phase) on = took_whole read p b calls new has begun before after reads h same phase on

-- ---- a body in the data

abbrev longer : ℕ → Standing → Standing
longer n Unbegun = Unbegun
longer n InHead = InHead
longer n (InData k place) = InData k (place + n)
longer n (Broken place kind) = Broken place kind

add_on : (a b n : ℕ) → a + (b + n) ≡ (a + b) + n
add_on a b n = omega arith

take_on : (a b n : ℕ) → b ≤ a → (a + n) - b ≡ (a - b) + n
take_on a b n le = omega arith

abbrev pub Longer : Type 0
Longer = (bytes more : List ℕ) (head : Head) → BeginsWithHead bytes head → BeginsWithHead (bytes ++ more) head

data_behind : (read : List ℕ → Told) (p : Part) (b : Buffer) (k : Known) (place : ℕ) → ReadsHeads read → Longer → AreBytes b.body → standing read p ≡ InData k place → behind_body read p b ≡ InData k (place + length b.body)
data_behind read p b k place reads stays fine at = go p.start refl
  where
    go : (o : Option ℕ) → p.start ≡ o → behind_body read p b ≡ InData k (place + length b.body)
    go None e = let t : Unbegun ≡ InData k place = ap (λ (o : Option ℕ). stands_from read p.known o p.bytes) (sym e) ∙ at in absurd (cc)
    go (Some s) e = on (goes_on p.known s) refl
      where
        start : behind_body read p b ≡ stands_at read (goes_on p.known s) s (joined p b)
        start = ap (λ (o : Option ℕ). stands_from read p.known (Some (unwrap_or o 0)) (joined p b)) e

        was : stands_at read (goes_on p.known s) s p.bytes ≡ InData k place
        was = ap (λ (o : Option ℕ). stands_from read p.known o p.bytes) (sym e) ∙ at

        on : (g : Option Known) → goes_on p.known s ≡ g → behind_body read p b ≡ InData k (place + length b.body)
        on (Some g) f =
            start ∙ ap (λ g. stands_at read g s (joined p b)) f
            ∙ ap (λ n. InData g n) (ap (λ n. s - g.head.start + n) (length-append p.bytes b.body) ∙ add_on (s - g.head.start) (length p.bytes) (length b.body))
            ∙ ap (longer (length b.body)) (ap (λ g. stands_at read g s p.bytes) (sym f) ∙ was)
        on None f = by (read p.bytes) refl
          where
            by : (told : Told) → read p.bytes ≡ told → behind_body read p b ≡ InData k (place + length b.body)
            by (Whole head info) t =
                let only = reads.only p.bytes head info t in
                let all = reads.whole (joined p b) head info (bytes_joined p.bytes b.body only.0 fine) (stays p.bytes b.body head only.1) only.2 in
                let has = head_within p.bytes head only.1 in
                start ∙ ap (λ g. stands_at read g s (joined p b)) f ∙ ap (λ t. read_as t (joined p b)) all
                ∙ ap (λ n. InData (record { head = head; info = info }) n) (ap (λ n. n - head.start) (length-append p.bytes b.body) ∙ take_on (length p.bytes) head.start (length b.body) has)
                ∙ ap (longer (length b.body)) (ap (λ t. read_as t p.bytes) (sym t) ∙ ap (λ g. stands_at read g s p.bytes) (sym f) ∙ was)
            by More t = let u : InHead ≡ InData k place = ap (λ t. read_as t p.bytes) (sym t) ∙ ap (λ g. stands_at read g s p.bytes) (sym f) ∙ was in absurd (cc)
            by (Wrong at_place kind) t = let u : Broken at_place kind ≡ InData k place = ap (λ t. read_as t p.bytes) (sym t) ∙ ap (λ g. stands_at read g s p.bytes) (sym f) ∙ was in absurd (cc)

data_passes : (read : List ℕ → Told) (p : Part) (b : Buffer) (k : Known) (place : ℕ) → standing read p ≡ InData k place → passed read p (Buf b) ≡ OneMore k.info (body_item (within k.head.size place b.body))
data_passes read p b k place at = ap (λ st. pass_body st (behind_body read p b) (joined p b) b.body) at

pub data_answer : (read : List ℕ → Told) (p : Part) (b : Buffer) (calls : List Call) (k : Known) (place : ℕ) → ReadsHeads read → Longer → AreBytes b.body → standing read p ≡ InData k place
    → answer read p calls (Buf b) ≡ next_owed (parses_raw k.info) calls (body_item (within k.head.size place b.body))
data_answer read p b calls k place reads stays fine at =
    ap (λ st. unless_broken st (owed_with calls (passed read p (Buf b)))) (data_behind read p b k place reads stays fine at)
    ∙ ap (owed_with calls) (data_passes read p b k place at)

pub took_data : (read : List ℕ → Told) (p : Part) (b : Buffer) (calls : List Call) (k : Known) (place : ℕ) (new : WavParse) (before after : List Out)
    → ReadsHeads read → Longer → AreBytes b.body → standing read p ≡ InData k place
    → FedOn k calls (body_item (within k.head.size place b.body)) new.known before after → new.phase ≡ Passing (left_of k.head.size (place + length b.body))
    → Took read p calls (Buf b) new before after
took_data read p b calls k place new before after reads stays fine at (ys, owed, out, knows) phase = record {
  ys = ys;
  owed = data_answer read p b calls k place reads stays fine at ∙ owed;
  out = out;
  is_in = is_in_by read p b calls new (InData k (place + length b.body)) (OneMore k.info (body_item (within k.head.size place b.body))) reads
      (data_behind read p b k place reads stays fine at) (data_passes read p b k place at) knows
      (subst (StandsAs (InData k (place + length b.body)) (joined p b)) (sym phase) refl);
}

-- the known head is that of the data
pub knows_data : (read : List ℕ → Told) (p : Part) (calls : List Call) (slot : Option KnownHead) (k : Known) (place : ℕ) → standing read p ≡ InData k place → KnowsHead (known_in read p) calls slot → KnowsHead (Some k) calls slot
knows_data read p calls slot k place at knows = subst (λ st. KnowsHead (known_by st p.known) calls slot) at knows

pub knows_before : (read : List ℕ → Told) (p : Part) (calls : List Call) (slot : Option KnownHead) (st : Standing) → standing read p ≡ st → known_by st p.known ≡ p.known → KnowsHead (known_in read p) calls slot → KnowsHead p.known calls slot
knows_before read p calls slot st at same knows = subst (λ o. KnowsHead o calls slot) (ap (λ t. known_by t p.known) at ∙ same) knows

-- ---- a SEGMENT

nothing_fine : AreBytes []
nothing_fine i = omega arith

pub nothing_more : (read : List ℕ → Told) → ReadsHeads read → read [] ≡ More
nothing_more read reads = reads.more [] nothing_fine (inl (record { short = omega arith; riff = refl; wave = refl }))

pub took_start : (read : List ℕ → Told) (p : Part) (s : Segment) (calls : List Call) (place : ℕ) (new : WavParse) (has : Gathered) (before : List Out)
    → ReadsHeads read → place ≡ place_at s.start s.format → goes_on (known_in read p) place ≡ None → KnowsHead (known_in read p) calls new.known
    → HasGathered has [] → new.phase ≡ Reading has → Took read p calls (Ev (NewSegment s)) new before before
took_start read p s calls place new has before reads at none knows fresh phase =
    let none_there : goes_on (known_in read p) (place_at s.start s.format) ≡ None = ap (goes_on (known_in read p)) (sym at) ∙ none in
    let st : standing read (with_item read p (Ev (NewSegment s))) ≡ InHead = ap (λ g. stands_at read g (place_at s.start s.format) []) none_there ∙ ap (λ t. read_as t []) (nothing_more read reads) in
    let q : passed read p (Ev (NewSegment s)) ≡ Nothing = ap (λ g. pass_segment g (place_at s.start s.format)) none_there in
    record {
      ys = [];
      owed = ap (owed_with calls) q;
      out = sym (append-nil before);
      is_in = record {
        reads = reads;
        knows = subst (λ t. KnowsHead (known_by t (known_in read p)) (calls_with calls (passed read p (Ev (NewSegment s)))) new.known) (sym st) (subst (λ r. KnowsHead (known_in read p) (calls_with calls r) new.known) (sym q) knows);
        stands = subst (λ t. StandsAs t [] new.phase) (sym st) (subst (StandsAs InHead []) (sym phase) fresh);
      };
    }

-- one in the data
pub record Inside (known : Option Known) (place at : ℕ) (left : Option ℕ) : Type 0 where
  pub k : Known
  pub known_is : known ≡ Some k
  pub goes : goes_on known place ≡ Some k
  pub at_is : at ≡ place - k.head.start
  pub left_is : left ≡ left_of k.head.size at

pub segment_passes : (read : List ℕ → Told) (p : Part) (s : Segment) (place at : ℕ) (left : Option ℕ) → place ≡ place_at s.start s.format → (i : Inside (known_in read p) place at left)
    → passed read p (Ev (NewSegment s)) ≡ Reopens i.k.info (Ev (NewSegment (bytes_segment at)))
segment_passes read p s place at left e i =
    ap (λ n. pass_segment (goes_on (known_in read p) n) n) (sym e) ∙ ap (λ g. pass_segment g place) i.goes ∙ ap (λ n. Reopens i.k.info (Ev (NewSegment (bytes_segment n)))) (sym i.at_is)

pub segment_answer : (read : List ℕ → Told) (p : Part) (s : Segment) (calls : List Call) (place at : ℕ) (left : Option ℕ) → place ≡ place_at s.start s.format → (i : Inside (known_in read p) place at left)
    → answer read p calls (Ev (NewSegment s)) ≡ last_owed (next_owed (parses_raw i.k.info) calls (Ev (NewSegment (bytes_segment at))))
segment_answer read p s calls place at left e i = ap (owed_with calls) (segment_passes read p s place at left e i)

last_push : (xs : List Out) (x : Out) → last_of (xs ++ x ∷ []) ≡ x ∷ []
last_push [] x = refl
last_push (y ∷ []) x = refl
last_push (y ∷ z ∷ zs) x = last_push (z ∷ zs) x

pub last_map : {A B : Type 0} (f : A → B) (xs : List A) → last_of (map f xs) ≡ map f (last_of xs)
last_map f [] = refl
last_map f (x ∷ []) = refl
last_map f (x ∷ y ∷ ys) = last_map f (y ∷ ys)

pub last_taken : (made front : List Out) (x : Out) → made ≡ front ++ x ∷ [] → last_of made ≡ x ∷ []
last_taken made front x e = ap last_of e ∙ last_push front x

pub went_on : (k : Known) (calls : List Call) (x : Item) (known : Option KnownHead) (before after made : List Out) → FedOn k calls x known [] made → after ≡ before ++ last_of made → WentOn k calls x known before after
went_on k calls x known before after made (ys, owed, out, knows) e =
    (ys, owed, e ∙ ap (λ zs. before ++ zs) (ap last_of out ∙ last_map (λ item. record { pad = 0; item = item }) ys), knows)

pub last_fault : (owed : Result (List Item) Fault) (fault : ElementFault) → IsFaultOf owed fault → IsFaultOf (last_owed owed) fault
last_fault owed (Refused offered wanted) e = ap last_owed e
last_fault owed (Broken place kind) e = ap last_owed e
last_fault owed (TooFar a b) e = ap last_owed e
last_fault owed Wanting e = tt

pub took_inside : (read : List ℕ → Told) (p : Part) (s : Segment) (calls : List Call) (place at : ℕ) (left : Option ℕ) (new : WavParse) (before after : List Out)
    → ReadsHeads read → place ≡ place_at s.start s.format → (i : Inside (known_in read p) place at left)
    → WentOn i.k calls (Ev (NewSegment (bytes_segment at))) new.known before after → new.phase ≡ Passing left → Took read p calls (Ev (NewSegment s)) new before after
took_inside read p s calls place at left new before after reads e i (ys, owed, out, knows) phase =
    let st : standing read (with_item read p (Ev (NewSegment s))) ≡ InData i.k (place - i.k.head.start + 0) =
    ap (λ n. stands_at read (goes_on (known_in read p) n) n []) (sym e) ∙ ap (λ g. stands_at read g place []) i.goes in
    let q = segment_passes read p s place at left e i in
    record {
      ys = last_of ys;
      owed = segment_answer read p s calls place at left e i ∙ ap last_owed owed;
      out = out;
      is_in = record {
        reads = reads;
        knows = subst (λ t. KnowsHead (known_by t (known_in read p)) (calls_with calls (passed read p (Ev (NewSegment s)))) new.known) (sym st) (subst (λ r. KnowsHead (Some i.k) (calls_with calls r) new.known) (sym q) knows);
        stands = subst (λ t. StandsAs t [] new.phase) (sym st) (subst (StandsAs (InData i.k (place - i.k.head.start + 0)) []) (sym phase) (i.left_is ∙ ap (left_of i.k.head.size) (i.at_is ∙ sym (no_bytes (place - i.k.head.start)))));
      };
    }

pub inside_of : (known : Option Known) (place : ℕ) (found : ℕ × Option ℕ) → IsPlaceIn known place found → Inside known place found.0 found.1
inside_of known place found (k, is, goes, at, left) = record { k = k; known_is = is; goes = goes; at_is = at; left_is = left }

pub place_in : (known : Option Known) (calls : List Call) (slot : Option KnownHead) (has : KnownHead) (place at : ℕ) (left : Option ℕ) → slot ≡ Some has → KnowsHead known calls slot
    → has.head.start ≤ place → at ≡ place - has.head.start → left ≡ left_of has.head.size at → IsPlaceIn known place (at, left)
place_in known calls slot has place at left e knows le is l =
    let by = knows_some known calls slot has e knows in
    let same = by.is.0 in (
      by.k,
      by.known_is,
      ap (λ o. goes_on o place) by.known_is ∙ at_place by.k place (subst (λ (h : Head). h.start ≤ place) same le),
      is ∙ ap (λ (h : Head). place - h.start) same,
      l ∙ ap (λ (h : Head). left_of h.size at) same,
    )

-- ---- further

pub behind_of : (begun : Option Begun) (old new : WavParse) (has : Gathered) → old.phase ≡ Reading has
    → MatchOption begun (new ≡ old) (λ b. (new.known ≡ Some b.known) × (new.phase ≡ Passing b.left)) → IsBehind begun has old.known new.known new.phase
behind_of None old new has phase same = (ap (λ (w : WavParse). w.known) same, ap (λ (w : WavParse). w.phase) same ∙ phase)
behind_of (Some b) old new has phase is = is

pub took_other : (read : List ℕ → Told) (p : Part) (calls : List Call) (e : Event) (parser : WavParse) (before after : List Out)
    → is_caps (Ev e) ≡ false → is_segment (Ev e) ≡ false → is_eos (Ev e) ≡ false → is_flush_stop (Ev e) ≡ false
    → after ≡ before ++ on_pad 0 (Ev e ∷ []) → IsIn read p calls parser → Took read p calls (Ev e) parser before after
took_other read p calls (StreamStart id) parser before after c s e f out is = record { ys = Ev (StreamStart id) ∷ []; owed = refl; out = out; is_in = is }
took_other read p calls (NewCaps caps) parser before after c s e f out is = absurd (cc)
took_other read p calls (NewSegment segment) parser before after c s e f out is = absurd (cc)
took_other read p calls (Tag title) parser before after c s e f out is = record { ys = Ev (Tag title) ∷ []; owed = refl; out = out; is_in = is }
took_other read p calls (Gap pts duration) parser before after c s e f out is = record { ys = Ev (Gap pts duration) ∷ []; owed = refl; out = out; is_in = is }
took_other read p calls (FlushStop number) parser before after c s e f out is = absurd (cc)
took_other read p calls Eos parser before after c s e f out is = absurd (cc)

pub flushed_knows : (known : Option Known) (calls : List Call) (number : ℕ) (slot : Option KnownHead) (has new : KnownHead) → slot ≡ Some has
    → ((k : Known) (calls : List Call) (number : ℕ) → IsKnown k calls has → IsKnown k (calls ++ Feed (Ev (FlushStop number)) ∷ []) new)
    → KnowsHead known calls slot → KnowsHead known (calls ++ Feed (Ev (FlushStop number)) ∷ []) (Some new)
flushed_knows None calls number slot has new e step knows = absurd (subst (KnowsHead None calls) e knows)
flushed_knows (Some k) calls number slot has new e step knows = step k calls number (subst (KnowsHead (Some k) calls) e knows)
