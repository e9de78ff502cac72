-- Reading on in a head.
use Rattle.std.proofs.Common.{◌≡◌, ◌+◌, ◌-◌, ℕ, inl, inr, List, [], ◌∷◌, ◌++◌, length, drop, Option, refl, sym, ap, subst, ◌∙◌, arith, Ok, Err}
use Rattle.audio_info.specs.declared.info.Info.{Info}
use Rattle.gst_item.specs.declared.out.Out.{Out}
use Rattle.flow_model.specs.declared.fault.ElementFault.{ElementFault}
use Rattle.wav_format.specs.declared.head.Head.{Head}
use Rattle.wav_format.specs.declared.head.HeadAnswer.{HeadAnswer}
use Rattle.wav_format.specs.declared.head.HeadAnswer.TheVariants.{Whole as WholeHead, NeedMore, Bad}
use Rattle.wav_format.specs.declared.head.WavKind.{WavKind}
use Rattle.wav_format.specs.Answers.{AnswerIn, CutsAt}
use Rattle.wav_format.specs.Cuts.{CutIn}
use Rattle.wav_format.specs.Format.{AreBytes}
use Rattle.flow_model.specs.Item.{Item}
use Rattle.flow_model.specs.Call.{Call, Feed}
use Rattle.flow_model.specs.Rule.{BadStream}
use Rattle.flow_model.specs.Feeding.{next_owed, on_pad, IsFaultOf}
use Rattle.el_parse.specs.Parses.{parses as parses_raw}
use Rattle.el_wav.specs.declared.wav_data.KnownHead.{KnownHead}
use Rattle.el_wav.specs.WavParseHeads.{Told, Whole, More, IsFormatOf, ReadsHeads, stream_kind}
use Rattle.el_wav.specs.WavParseRule.{body_item, within, left_of}
use Rattle.el_wav.specs.WavParseData.{IsKnown}
use Rattle.el_wav.specs.WavParseSteps.{BeganData, IsBeginFault, data_item, head_owed}
use Rattle.el_wav.specs.declared.wav_gathered.Gathered.{Gathered}
use Rattle.el_wav.specs.WavParseGathered.{HasGathered}
use Rattle.el_wav.proofs.WavParseAhead.{head_ahead, drop_behind}
use Rattle.el_wav.proofs.WavParseFits.{head_fits}
use Rattle.gst_value.proofs.Basics.{no_more}
use Rattle.wav_format.proofs.Bodies.{bytes-append as bytes_joined}

same_item : (head : Head) (bytes first cut : List ℕ) (item : Item) → first ≡ drop head.start bytes → cut ≡ within head.size 0 first → item ≡ body_item cut → item ≡ data_item head bytes
same_item head bytes first cut item f c i = i ∙ ap body_item (c ∙ ap (within head.size 0) f)

pub began : (head : Head) (info : Info) (bytes first cut : List ℕ) (item : Item) (known : KnownHead) (left : Option ℕ) (before after : List Out)
    → IsFormatOf head info → first ≡ drop head.start bytes → cut ≡ within head.size 0 first → item ≡ body_item cut → left ≡ left_of head.size (0 + length first)
    → (ys : List Item) × (next_owed (parses_raw info) [] item ≡ Ok ys) × (after ≡ before ++ on_pad 0 ys) × IsKnown (record { head = head; info = info }) (Feed item ∷ []) known
    → BeganData head bytes (record { known = known; left = left }) before after
began head info bytes first cut item known left before after format f c i l (ys, owed, out, is) =
    let same = same_item head bytes first cut item f c i in
    record {
      info = info;
      format = format;
      ys = ys;
      owed = subst (λ x. next_owed (parses_raw info) [] x ≡ Ok ys) same owed;
      out = out;
      known = subst (λ x. IsKnown (record { head = head; info = info }) (Feed x ∷ []) known) same is;
      left = l ∙ ap (left_of head.size) (no_more (length first) ∙ ap length f);
    }

pub begin_fault : (head : Head) (info : Info) (bytes first cut : List ℕ) (item : Item) (fault : ElementFault)
    → IsFormatOf head info → first ≡ drop head.start bytes → cut ≡ within head.size 0 first → item ≡ body_item cut
    → IsFaultOf (next_owed (parses_raw info) [] item) fault → IsBeginFault head bytes fault
begin_fault head info bytes first cut item fault format f c i is =
    λ fits. (info, format, subst (λ x. IsFaultOf (next_owed (parses_raw info) [] x) fault) (same_item head bytes first cut item f c i) is)

-- What was read, of a body whose bytes are these.
pub record Read (before body : List ℕ) (answer : HeadAnswer) : Type 0 where
  pub said : AnswerIn (before ++ body) answer
  pub fine : AreBytes (before ++ body)

pub read_of : (has : Gathered) (before more body : List ℕ) (answer : HeadAnswer) → HasGathered has before → more ≡ body → AreBytes more → AnswerIn (before ++ more) answer → Read before body answer
read_of has before more body answer gathered e fine said = record {
  said = subst (λ xs. AnswerIn (before ++ xs) answer) e said;
  fine = subst (λ xs. AreBytes (before ++ xs)) e (bytes_joined before more gathered.fine fine);
}

pub cut_in : (bytes : List ℕ) (n : ℕ) → CutsAt bytes n → CutIn bytes
cut_in bytes n (inl (cut, e)) = inl cut
cut_in bytes n (inr (s, reached, cut, e)) = inr (s, reached, cut)

pub says_more : (read : List ℕ → Told) (before body : List ℕ) (answer : HeadAnswer) (n : ℕ) → ReadsHeads read → Read before body answer → answer ≡ NeedMore n → read (before ++ body) ≡ More
says_more read before body answer n reads r e = reads.more (before ++ body) r.fine (cut_in (before ++ body) n (subst (AnswerIn (before ++ body)) e r.said))

pub says_whole : (read : List ℕ → Told) (before body : List ℕ) (answer : HeadAnswer) (head : Head) (info : Info) → ReadsHeads read → Read before body answer → answer ≡ WholeHead head → IsFormatOf head info → read (before ++ body) ≡ Whole head info
says_whole read before body answer head info reads r e format = reads.whole (before ++ body) head info r.fine (subst (AnswerIn (before ++ body)) e r.said) format

pub says_wrong : (read : List ℕ → Told) (calls : List Call) (before body : List ℕ) (answer : HeadAnswer) (place : ℕ) (kind : WavKind) → ReadsHeads read → Read before body answer → answer ≡ Bad place kind
    → head_owed read calls (before ++ body) ≡ Err (BadStream place (stream_kind kind))
says_wrong read calls before body answer place kind reads r e = rw (reads.wrong (before ++ body) place kind r.fine (subst (AnswerIn (before ++ body)) e r.said)) refl

-- the bytes so far, where they go on in a head
pub cut_now : (before body : List ℕ) (answer : HeadAnswer) (n : ℕ) → Read before body answer → answer ≡ NeedMore n → CutIn (before ++ body)
cut_now before body answer n r e = cut_in (before ++ body) n (subst (AnswerIn (before ++ body)) e r.said)

-- the data behind the head, which begins in the body
pub first_of : (before body first : List ℕ) (answer : HeadAnswer) (head : Head) (count : ℕ) → CutIn before → count ≡ length before → Read before body answer → answer ≡ WholeHead head
    → first ≡ drop (head.start - count) body → first ≡ drop head.start (before ++ body)
first_of before body first answer head count cut c r e f =
    let ahead = head_ahead before body head cut (subst (AnswerIn (before ++ body)) e r.said) in
    f ∙ ap (λ n. drop (head.start - n) body) c ∙ sym (drop_behind before body head.start (omega (arith, ahead)))

pub whole_fault : (read : List ℕ → Told) (calls : List Call) (before body : List ℕ) (answer : HeadAnswer) (head : Head) (fault : ElementFault) → ReadsHeads read → Read before body answer → answer ≡ WholeHead head
    → IsBeginFault head (before ++ body) fault → IsFaultOf (head_owed read calls (before ++ body)) fault
whole_fault read calls before body answer head fault reads r e is =
    let whole = subst (AnswerIn (before ++ body)) e r.said in
    let by = is (head_fits (before ++ body) head whole) in
    rw (says_whole read before body answer head by.0 reads r e by.1) by.2
