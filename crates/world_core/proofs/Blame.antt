-- Whom a fault of a run names.
use Rattle.std.proofs.Common.{◌≡◌, ◌≢◌, ◌⊎◌, ◌<◌, ℕ, List, Some, length, refl, sym, ap, ◌∙◌, subst, inl, inr, arith}
use Rattle.std.specs.Prelude.{slice_get}
use Rattle.flow_model.specs.declared.fault.ElementFault.{ElementFault}
use Rattle.flow_model.specs.declared.fault.ElementFault.TheVariants as own_faults
use Rattle.flow_model.specs.declared.refusal.Refusal.TheVariants.{Fault}
use Rattle.flow_model.specs.declared.refusal.Unread.{Unread}
use Rattle.flow_model.specs.declared.refusal.Unread.TheVariants as reads
use Rattle.flow_model.specs.Item.{Item}
use Rattle.graph_core.specs.Elements.{Made}
use Rattle.graph_core.specs.Graph.{made as made_in, links as links_in}
use Rattle.graph_core.specs.declared.graph.Graph.{Graph}
use Rattle.graph_tasks.specs.Blamed.{IsBlamed}
use Rattle.graph_tasks.specs.Owed.{IsAwaited, IsOwedMore, Refuses, WantsLink, went_from}
use Rattle.graph_tasks.specs.Runs.{crossed_in}
use Rattle.graph_tasks.specs.Short.{IsCutShort}
use Rattle.graph_core.specs.Allowed.{first_pad}
use Rattle.graph_core.proofs.NumberedPads.{same_pad}
use Rattle.el_settings.proofs.Padded.{few_sources}
use Rattle.graph_core.specs.GraphPlan.{pad_id, sink_at as place_at}
use Rattle.graph_pads.specs.declared.pad.PadPlace.{PadPlace}
use Rattle.flow_model.specs.Moment.{Moment}
use Rattle.task_parts.specs.Fault.{refusal_fault, unread_fault}
use Rattle.task_parts.specs.declared.fault.TaskFault.{TaskFault}
use Rattle.task_parts.specs.declared.fault.TaskFault.TheVariants as faults

-- an element of this number has this fault at the next item that is owed to it
pub record RefusedAt (contents : ℕ → List ℕ) (graph : Graph) (m : Moment) (n : ℕ) (own : ElementFault) : Type 0 where
  pub element : Made
  pub at : slice_get (made_in graph) n ≡ Some element
  pub refuses : Refuses contents (made_in graph) (links_in graph) (crossed_in graph m) n element.settings own

-- 2^40 items crossed a source pad of it, and another one is owed there
pub record IsFull (contents : ℕ → List ℕ) (graph : Graph) (m : Moment) (n : ℕ) (own : ElementFault) : Type 0 where
  pub own_is : own ≡ own_faults.TooLong 1099511627776 1
  pub pad : ℕ
  pub full : length (went_from (crossed_in graph m) (place_at n pad)) ≡ 1099511627776
  pub more : IsOwedMore contents (made_in graph) (links_in graph) (crossed_in graph m) (place_at n pad)

-- a fault of an element, by its number and its own fault
same_own : (d n : ℕ) (one other : ElementFault) → refusal_fault d (Fault one) ≡ refusal_fault n (Fault other) → other ≢ own_faults.OutOfMemory → (d ≡ n) × (one ≡ other)
same_own d n (own_faults.NotNegotiated a b) (own_faults.NotNegotiated p q) same memory = (cc, cc)
same_own d n (own_faults.BadStream a b) (own_faults.BadStream p q) same memory = (cc, cc)
same_own d n (own_faults.TooLong a b) (own_faults.TooLong p q) same memory = (cc, cc)
same_own d n one own_faults.OutOfMemory same memory = absurd (memory refl)
same_own d n (own_faults.NotNegotiated a b) (own_faults.BadStream p q) same memory = absurd (cc)
same_own d n (own_faults.NotNegotiated a b) (own_faults.TooLong p q) same memory = absurd (cc)
same_own d n (own_faults.BadStream a b) (own_faults.NotNegotiated p q) same memory = absurd (cc)
same_own d n (own_faults.BadStream a b) (own_faults.TooLong p q) same memory = absurd (cc)
same_own d n (own_faults.TooLong a b) (own_faults.NotNegotiated p q) same memory = absurd (cc)
same_own d n (own_faults.TooLong a b) (own_faults.BadStream p q) same memory = absurd (cc)
same_own d n own_faults.OutOfMemory (own_faults.NotNegotiated p q) same memory = absurd (cc)
same_own d n own_faults.OutOfMemory (own_faults.BadStream p q) same memory = absurd (cc)
same_own d n own_faults.OutOfMemory (own_faults.TooLong p q) same memory = absurd (cc)

-- other faults are none of an element's rule
no_write : (d a b n : ℕ) (own : ElementFault) → faults.WriteFault d a b ≡ refusal_fault n (Fault own) → ⊥
no_write d a b n (own_faults.NotNegotiated p q) same = cc
no_write d a b n (own_faults.BadStream p q) same = cc
no_write d a b n (own_faults.TooLong p q) same = cc
no_write d a b n own_faults.OutOfMemory same = cc

no_source : (d a b n : ℕ) (own : ElementFault) → faults.ReadFault d a b ≡ refusal_fault n (Fault own) → ⊥
no_source d a b n (own_faults.NotNegotiated p q) same = cc
no_source d a b n (own_faults.BadStream p q) same = cc
no_source d a b n (own_faults.TooLong p q) same = cc
no_source d a b n own_faults.OutOfMemory same = cc

no_link : (p place n : ℕ) (own : ElementFault) → faults.NotLinked p place ≡ refusal_fault n (Fault own) → ⊥
no_link p place n (own_faults.NotNegotiated a b) same = cc
no_link p place n (own_faults.BadStream a b) same = cc
no_link p place n (own_faults.TooLong a b) same = cc
no_link p place n own_faults.OutOfMemory same = cc

no_memory_own : (n : ℕ) (own : ElementFault) → faults.OutOfMemory ≡ refusal_fault n (Fault own) → own ≡ own_faults.OutOfMemory
no_memory_own n (own_faults.NotNegotiated a b) same = absurd (cc)
no_memory_own n (own_faults.BadStream a b) same = absurd (cc)
no_memory_own n (own_faults.TooLong a b) same = absurd (cc)
no_memory_own n own_faults.OutOfMemory same = refl

no_read : (d : ℕ) (why : Unread) (n : ℕ) (own : ElementFault) → unread_fault d why ≡ refusal_fault n (Fault own) → own ≡ own_faults.OutOfMemory
no_read d (reads.Failed a b) n (own_faults.NotNegotiated p q) same = absurd (cc)
no_read d (reads.Failed a b) n (own_faults.BadStream p q) same = absurd (cc)
no_read d (reads.Failed a b) n (own_faults.TooLong p q) same = absurd (cc)
no_read d (reads.Failed a b) n own_faults.OutOfMemory same = refl
no_read d reads.OutOfMemory n own same = no_memory_own n own same

full_own : (d n : ℕ) (own : ElementFault) → faults.TooLong d 1099511627776 1 ≡ refusal_fault n (Fault own) → (d ≡ n) × (own ≡ own_faults.TooLong 1099511627776 1)
full_own d n (own_faults.TooLong a b) same = (cc, cc)
full_own d n (own_faults.NotNegotiated a b) same = absurd (cc)
full_own d n (own_faults.BadStream a b) same = absurd (cc)
full_own d n own_faults.OutOfMemory same = absurd (cc)

module _ (contents : ℕ → List ℕ) (graph : Graph) (m : Moment) where
  -- the fault of an element's rule was met at its next item, or its pad is full
  pub own_blamed : (fault : TaskFault) → IsBlamed contents graph m fault → (n : ℕ) (own : ElementFault) → fault ≡ refusal_fault n (Fault own) → own ≢ own_faults.OutOfMemory
      → RefusedAt contents graph m n own ⊎ IsFull contents graph m n own
  own_blamed fault (IsBlamed.refused d element one at refuses) n own same memory =
      let both = same_own d n one own same memory in
      inl (subst (λ (x : ℕ). RefusedAt contents graph m x own) both.0
      (subst (λ (f : ElementFault). RefusedAt contents graph m d f) both.1 (record { element = element; at = at; refuses = refuses })))
  own_blamed fault (IsBlamed.unwritten d a b x awaited) n own same memory = absurd (no_write d a b n own same)
  own_blamed fault (IsBlamed.unread d why short) n own same memory = absurd (memory (no_read d why n own same))
  own_blamed fault (IsBlamed.not_linked source place size wants) n own same memory = absurd (no_link (pad_id source) place n own same)
  own_blamed fault (IsBlamed.full source size more) n own same memory =
      let both = full_own source.element n own same in
      inr (record {
        own_is = both.1;
        pad = source.pad;
        full = subst (λ (x : ℕ). length (went_from (crossed_in graph m) (place_at x source.pad)) ≡ 1099511627776) both.0 size;
        more = subst (λ (x : ℕ). IsOwedMore contents (made_in graph) (links_in graph) (crossed_in graph m) (place_at x source.pad)) both.0 more;
      })
  own_blamed fault IsBlamed.no_memory n own same memory = absurd (memory (no_memory_own n own same))

  -- a source could not be read, and what crossed its pad ends short
  pub read_blamed : (fault : TaskFault) → IsBlamed contents graph m fault → (n a b : ℕ) → fault ≡ faults.ReadFault n a b → (one : Made)
      → slice_get (made_in graph) n ≡ Some one → IsCutShort contents (crossed_in graph m) n one.settings
  read_blamed fault (IsBlamed.refused d element own at refuses) n a b same one here = absurd (no_source n a b d own (sym same))
  read_blamed fault (IsBlamed.unwritten d p q x awaited) n a b same one here = absurd (cc)
  read_blamed fault (IsBlamed.unread d (reads.Failed p q) short) n a b same one here =
      subst (λ (e : ℕ). IsCutShort contents (crossed_in graph m) e one.settings) number (short one (ap (slice_get (made_in graph)) number ∙ here))
    where
      number : d ≡ n
      number = cc
  read_blamed fault (IsBlamed.unread d reads.OutOfMemory short) n a b same one here = absurd (cc)
  read_blamed fault (IsBlamed.not_linked e place size wants) n a b same one here = absurd (cc)
  read_blamed fault (IsBlamed.full e size more) n a b same one here = absurd (cc)
  read_blamed fault IsBlamed.no_memory n a b same one here = absurd (cc)

  -- a write failed at the next item that came to its element
  pub write_blamed : (fault : TaskFault) → IsBlamed contents graph m fault → (n a b : ℕ) → fault ≡ faults.WriteFault n a b
      → (x : Item) × IsAwaited contents (made_in graph) (links_in graph) (crossed_in graph m) (first_pad n) x
  write_blamed fault (IsBlamed.refused d element own at refuses) n a b same = absurd (no_write n a b d own (sym same))
  write_blamed fault (IsBlamed.unwritten d p q x awaited) n a b same = (x, subst (λ (y : ℕ). IsAwaited contents (made_in graph) (links_in graph) (crossed_in graph m) (first_pad y) x) number awaited)
    where
      number : d ≡ n
      number = cc
  write_blamed fault (IsBlamed.unread d (reads.Failed p q) short) n a b same = absurd (cc)
  write_blamed fault (IsBlamed.unread d reads.OutOfMemory short) n a b same = absurd (cc)
  write_blamed fault (IsBlamed.not_linked e place size wants) n a b same = absurd (cc)
  write_blamed fault (IsBlamed.full e size more) n a b same = absurd (cc)
  write_blamed fault IsBlamed.no_memory n a b same = absurd (cc)

  -- a buffer is owed to the pad that is not linked
  pub link_blamed : (fault : TaskFault) → IsBlamed contents graph m fault → (source : PadPlace) (place : ℕ) → source.pad < 64 → fault ≡ faults.NotLinked (pad_id source) place
      → (length (went_from (crossed_in graph m) source) ≡ place) × WantsLink contents (made_in graph) (links_in graph) (crossed_in graph m) source
  link_blamed fault (IsBlamed.refused d element own at refuses) source place few same = absurd (no_link (pad_id source) place d own (sym same))
  link_blamed fault (IsBlamed.unwritten d p q x awaited) source place few same = absurd (cc)
  link_blamed fault (IsBlamed.unread d (reads.Failed p q) short) source place few same = absurd (cc)
  link_blamed fault (IsBlamed.unread d reads.OutOfMemory short) source place few same = absurd (cc)
  link_blamed fault (IsBlamed.not_linked own here size wants) source place few same =
      let there = wants.next.there in
      let most = few_sources wants.next.element.settings in
      let one : own ≡ source = same_pad own source (omega (arith, there, most)) few pads in (
        subst (λ (x : PadPlace). length (went_from (crossed_in graph m) x) ≡ place) one (size ∙ places),
        subst (λ (x : PadPlace). WantsLink contents (made_in graph) (links_in graph) (crossed_in graph m) x) one wants,
      )
    where
      pads : pad_id own ≡ pad_id source
      pads = cc

      places : here ≡ place
      places = cc
  link_blamed fault (IsBlamed.full own size more) source place few same = absurd (cc)
  link_blamed fault IsBlamed.no_memory source place few same = absurd (cc)
