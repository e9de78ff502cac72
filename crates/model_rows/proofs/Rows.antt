-- The rows hold: each side is computed.
use Rattle.std.proofs.Common.{refl}
use Rattle.model_rows.specs.Chain.{chain}
use Rattle.flow_model.specs.Sticky.{stickies}
use Rattle.model_rows.specs.Rows.{SourceRows, SinkRows, SectionRows, StickyRows, RuleRows, ChainRows}

pub source_rows : SourceRows
source_rows = record { twos = refl; whole_blocks = refl; one_block = refl; empty = refl; behind = refl; even = refl; items = refl; empty_items = refl; empty_buffers = refl; buffers = refl }

pub sink_rows : SinkRows
sink_rows = record { all = refl; hole = refl; over = refl; past_eos = refl; emptied = refl; kept = refl; no_body = refl }

pub section_rows : SectionRows
section_rows = record { first = refl; second = refl; third = refl; counted = refl }

pub sticky_rows : StickyRows
unfolding stickies
sticky_rows = record { whole = refl; last = refl; flushed = refl; renewed = refl; caps = refl; caps_flushed = refl; nothing = refl }

pub rule_rows : RuleRows
rule_rows = record { all = refl; past_eos = refl; again = refl }

pub chain_rows : ChainRows
unfolding chain stickies
chain_rows = record { source = refl; passed = refl; cut = refl; cut_behind = refl; unread = refl; unread_buffers = refl }
