-- What was answered lawfully at a moment is lawful at each later one.
use Rattle.std.proofs.Common.{◌≡◌, ℕ, ◌≤◌, true, List, Option, length, take, sym, ap, ◌∙◌, subst, inl, inr, arith}
use Rattle.std.proofs.lemmas.Bool.{false≢true}
use Rattle.flow_model.specs.Item.{Item, buffers}
use Rattle.flow_model.specs.Call.{Call, items}
use Rattle.flow_model.specs.Prefix.{IsPrefix, nothing, next as one_more}
use Rattle.flow_model.proofs.Prefixes.{prefix_length, prefix_of_drop, prefix_refl, prefix_trans, take_prefix}
use Rattle.graph_core.specs.GraphPlan.{owner_of, pad_id}
use Rattle.graph_pads.specs.declared.pad.PadPlace.{PadPlace}
use Rattle.pad_core.specs.Crossing.{has_ended}
use Rattle.script_text.specs.declared.answer.Answer.{Answer}
use Rattle.script_text.specs.declared.answer.Entry.{Entry}
use Rattle.script_text.specs.declared.answer.Reason.{Reason}
use Rattle.script_text.specs.declared.command.Act.{Act}
use Rattle.script_text.specs.declared.command.Command.{Command}
use Rattle.script_text.specs.declared.command.When.{When}
use Rattle.graph_edits.specs.Edited.{Edited, spans_at}
use Rattle.graph_edits.specs.Growing.{GrowsTo, GrowthJoins, IsKept, StaysLawful}
use Rattle.graph_edits.specs.Lawful.{AreAnswered, IsAnswered, IsAtBuffer, IsBeforeEos, IsLinkable, IsRefusedFor, IsUnlinkable, IsUnreached, Makes, Reaches, begins_with_buffer}
use Rattle.graph_edits.specs.Refused.{FeedsTask, HasFeeder, IsAfterEos, IsFedElsewhere}
use Rattle.graph_edits.proofs.Grown.{ended_stays, giver_stays, unlinked_same}
use Rattle.graph_edits.proofs.Keeping.{answered_kept, free_at, not_taken}

-- ---- growth

joins : (h owed h' owed' last due : ℕ → List Item) → GrowsTo h owed h' owed' → GrowsTo h' owed' last due → GrowsTo h owed last due
joins h owed h' owed' last due first then = record {
  crossed = λ p. prefix_trans (first.crossed p) (then.crossed p);
  due = λ p. prefix_trans (first.due p) (then.due p);
  over = λ p ended. then.over p (subst (λ (xs : List Item). has_ended xs ≡ true) (sym (first.over p ended)) ended) ∙ first.over p ended;
  unflushed = then.unflushed;
}

pub growth_joins : GrowthJoins
growth_joins = record {
  none = λ h owed calm. record { crossed = λ p. prefix_refl (h p); due = λ p. prefix_refl (owed p); over = λ p ended i. h p; unflushed = calm };
  both = joins;
}

-- ---- places

-- what begins with a buffer still does with more behind it
begins_on : {xs ys : List Item} → IsPrefix xs ys → begins_with_buffer xs ≡ true → begins_with_buffer ys ≡ true
begins_on nothing e = absurd (false≢true e)
begins_on (one_more p) e = e

module _ (h owed h' owed' : ℕ → List Item) (grows : GrowsTo h owed h' owed') where
  still_crossed : (p place : ℕ) → place ≤ length (h p) → place ≤ length (h' p)
  still_crossed p place within = let more = prefix_length (grows.crossed p) in omega arith

  same_before : (p place : ℕ) → place ≤ length (h p) → take place (h' p) ≡ take place (h p)
  same_before p place within = sym (take_prefix place (grows.crossed p) within)

  at_buffer_on : (p n place : ℕ) → IsAtBuffer h owed p n place → IsAtBuffer h' owed' p n place
  at_buffer_on p n place at = record {
    crossed = still_crossed p place at.crossed;
    counted = ap buffers (same_before p place at.crossed) ∙ at.counted;
    next = begins_on (prefix_of_drop place (grows.due p)) at.next;
  }

  before_eos_on : (p place : ℕ) → IsBeforeEos h p place → IsBeforeEos h' p place
  before_eos_on p place at = record {
    crossed = still_crossed p place at.crossed;
    open_yet = ap has_ended (same_before p place at.crossed) ∙ at.open_yet;
  }

  reaches_on : (g : Edited) (when : When) (p : Option PadPlace) (place : ℕ) → Reaches g h owed when p place → Reaches g h' owed' when p place
  reaches_on g when p place (Reaches.at pad n at source named is) = Reaches.at pad n at source named (at_buffer_on (pad_id source) n at is)
  reaches_on g when p place (Reaches.now_pad pad at source named is) = Reaches.now_pad pad at source named (before_eos_on (pad_id source) at is)
  reaches_on g when p place Reaches.now = Reaches.now

  unreached_on : (g : Edited) (when : When) → IsUnreached g h when → IsUnreached g h' when
  unreached_on g when (IsUnreached.at pad n source named ended few) =
      let same = sym (grows.over (pad_id source) ended) in
      IsUnreached.at pad n source named (subst (λ (xs : List Item). has_ended xs ≡ true) same ended) (subst (λ (xs : List Item). buffers xs ≤ n) same few)
  unreached_on g when (IsUnreached.now_pad pad source named ended) =
      IsUnreached.now_pad pad source named (subst (λ (xs : List Item). has_ended xs ≡ true) (sym (grows.over (pad_id source) ended)) ended)

  -- ---- refusals

  module _ (g : Edited) (kept : IsKept h g) where
    ended_on : (sink : PadPlace) → IsAfterEos g h sink → IsAfterEos g h' sink
    ended_on sink ended = ended_stays h h' grows.crossed grows.unflushed (spans_at g sink) (kept.within sink) ended

    feeder_on : (e feeder : ℕ) → HasFeeder g h e feeder → HasFeeder g h' e feeder
    feeder_on e feeder (HasFeeder.itself at head) = HasFeeder.itself at head
    feeder_on e feeder (HasFeeder.given at giver first plain gave rest) =
        let sink : PadPlace = record { element = at; pad = 0 } in
        HasFeeder.given at giver first plain (giver_stays h h' grows.crossed (spans_at g sink) giver (kept.within sink) gave) (feeder_on (owner_of giver) first rest)

    feeds_on : (e feeder : ℕ) → FeedsTask g h e feeder → FeedsTask g h' e feeder
    feeds_on e feeder (inl head) = inl head
    feeds_on e feeder (inr loose) = inr (loose.0, feeder_on e feeder loose.1)

    fed_on : (source to : PadPlace) → IsFedElsewhere g h source to → IsFedElsewhere g h' source to
    fed_on source to fed = record {
      own = fed.own;
      feeds = feeds_on source.element fed.own fed.feeds;
      element = fed.element;
      reached = fed.reached;
      other = fed.other;
      fed = feeder_on fed.element fed.other fed.fed;
      differs = fed.differs;
    }

    unlinkable_on : (source to : PadPlace) (reason : Reason) → IsUnlinkable g h source to reason → IsUnlinkable g h' source to reason
    unlinkable_on source to reason (IsUnlinkable.ended ended) = IsUnlinkable.ended (ended_on to ended)
    unlinkable_on source to reason (IsUnlinkable.taken taken) = IsUnlinkable.taken taken
    unlinkable_on source to reason (IsUnlinkable.loops free loops) = IsUnlinkable.loops free loops
    unlinkable_on source to reason (IsUnlinkable.fed free forward fed) = IsUnlinkable.fed free forward (fed_on source to fed)
    unlinkable_on source to reason (IsUnlinkable.formless free forward lacks) = IsUnlinkable.formless free forward lacks

    refused_on : (p : Option PadPlace) (act : Act) (reason : Reason) → IsRefusedFor g h p act reason → IsRefusedFor g h' p act reason
    refused_on p act reason (IsRefusedFor.unlinkable sink source to why named is) = IsRefusedFor.unlinkable sink source to why named (unlinkable_on source to why is)
    refused_on p act reason (IsRefusedFor.unmade q kind props fault why unmade told) = IsRefusedFor.unmade q kind props fault why unmade told
    refused_on p act reason (IsRefusedFor.gathering q kind props m made gathers) = IsRefusedFor.gathering q kind props m made gathers
    refused_on p act reason (IsRefusedFor.linked q name e named linked) = IsRefusedFor.linked q name e named linked

    -- ---- what is done

    -- a sink pad that is not taken was given what it is given
    linkable_on : (source to : PadPlace) → IsLinkable g h source to → IsLinkable g h' source to
    linkable_on source to linkable =
        let same = unlinked_same h h' grows.crossed (spans_at g to) (kept.within to) (free_at h g to kept (not_taken g to linkable.free)) in
        record {
          unended = λ ended. linkable.unended (subst (λ (calls : List Call). has_ended (items calls) ≡ true) same ended);
          free = linkable.free;
          forward = linkable.forward;
          common = linkable.common;
        }

    makes_on : (p : Option PadPlace) (place : ℕ) (act : Act) (after : Edited) → Makes g h p place act after → Makes g h' p place act after
    makes_on p place act after (Makes.relinks sink source to at named linkable) = Makes.relinks sink source to at named (linkable_on source to linkable)
    makes_on p place act after (Makes.unlinks eos source to at behind) = Makes.unlinks eos source to at behind
    makes_on p place act after (Makes.adds q at kind props m is plain) = Makes.adds q at kind props m is plain
    makes_on p place act after (Makes.removes q at name e named loose) = Makes.removes q at name e named loose

    answer_on : (c : Command) (a : Answer) (after : Edited) → IsAnswered g h owed c a after → IsAnswered g h' owed' c a after
    answer_on c a after (IsAnswered.done when act p place made reaches makes) = IsAnswered.done when act p place made (reaches_on g when p place reaches) (makes_on p place act made makes)
    answer_on c a after (IsAnswered.unreached command there never) = IsAnswered.unreached command there (unreached_on g command.when never)
    answer_on c a after (IsAnswered.nameless command missing) = IsAnswered.nameless command missing
    answer_on c a after (IsAnswered.refused when act p place reason there reaches why) =
        IsAnswered.refused when act p place reason there (reaches_on g when p place reaches) (refused_on p act reason why)

  entries_on : (g last : Edited) (script : List Command) (entries : List Entry) → IsKept h g → AreAnswered h owed g script entries last → AreAnswered h' owed' g script entries last
  entries_on g last script entries kept (AreAnswered.none same commands) = AreAnswered.none same commands
  entries_on g last script entries kept (AreAnswered.more from next end c commands entry others answered rest) =
      AreAnswered.more from next end c commands entry others (answer_on from kept c entry.answer next answered)
      (entries_on next end commands others (answered_kept h owed from next c entry.answer answered kept) rest)

pub stays_lawful : StaysLawful
stays_lawful = record {
  answer = λ h owed h' owed' g after c a kept grows answered. answer_on h owed h' owed' grows g kept c a after answered;
  entries = λ h owed h' owed' g last script entries kept grows answered. entries_on h owed h' owed' grows g last script entries kept answered;
}
