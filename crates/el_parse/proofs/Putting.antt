-- What the elements of this crate put out for a call.
use Rattle.std.proofs.Common.{◌≡◌, true, false, List, [], ◌++◌, sym, ap, ◌∙◌, append-nil}
use Rattle.std.specs.Prelude.{IsOk}
use Rattle.gst_item.specs.declared.out.Out.{Out}
use Rattle.flow_model.specs.Item.{Item, is_flush_stop, is_eos}
use Rattle.flow_model.specs.Call.{Feed, Act, Drain}
use Rattle.flow_model.specs.Feeding.{on_pad}
use Rattle.el_parse.specs.declared.raw_parse.RawParse.{RawParse}
use Rattle.el_parse.specs.declared.split.Split.{Split}
use Rattle.el_parse.specs.Parses.{parse_answer, progress_behind}
use Rattle.flow_model.specs.Owed.{answered}
use Rattle.el_parse.specs.Parsed.{parsed, come}
use Rattle.el_parse.specs.RawParsePuts.{RawParsePuts}
use Rattle.el_parse.specs.Splits.{split_answer, rest, rested}
use Rattle.el_parse.specs.Splits.{cutting_behind as split_behind_of}
use Rattle.el_parse.specs.Regrouped.{come as split_come}
use Rattle.el_parse.specs.SplitPuts.{SplitPuts}
use Rattle.el_parse.proofs.Parsing.{parsed_item, parsed_behind, parsed_drain}
use Rattle.el_parse.proofs.Grouping.{split_item, split_behind, split_drained, split_drained_behind}
use Rattle.flow_model.proofs.Items.{none_owed}

-- a parser, for an item in a section that is not over
pub parser_puts : (old new : RawParse) (x : Item) (out out' : List Out) → is_flush_stop x ≡ false → old.ended ≡ false
    → IsOk (parse_answer old.info (come old) x) → come new ≡ progress_behind old.info (come old) x → new.info ≡ old.info → new.ended ≡ is_eos x
    → out' ≡ out ++ on_pad 0 (answered (parse_answer old.info (come old) x)) → RawParsePuts old new (Feed x) out out'
parser_puts old new x out out' plain begun ok moved still ends outs =
    record {
      more = answered (parse_answer old.info (come old) x);
      outs = outs;
      owed = λ info calls put p. (parsed_item old new x plain begun ok moved still ends info calls put p).0;
      stands = λ info calls put p. (parsed_item old new x plain begun ok moved still ends info calls put p).1;
    }

-- behind EOS
pub parser_puts_behind : (parser : RawParse) (x : Item) (out : List Out) → is_flush_stop x ≡ false → parser.ended ≡ true
    → RawParsePuts parser parser (Feed x) out out
parser_puts_behind parser x out plain ended =
    record {
      more = [];
      outs = sym (append-nil out);
      owed = λ info calls put p. (parsed_behind parser x plain ended info calls put p).0;
      stands = λ info calls put p. (parsed_behind parser x plain ended info calls put p).1;
    }

pub parser_puts_none : (parser : RawParse) (out : List Out) → RawParsePuts parser parser (Act Drain) out out
parser_puts_none parser out =
    record {
      more = [];
      outs = sym (append-nil out);
      owed = λ info calls put p. none_owed (parsed info calls).over;
      stands = λ info calls put p. rw (append-nil put) (parsed_drain parser info calls put p);
    }

-- an element that cuts, for an item in a section that is not over
pub split_puts : (old new : Split) (x : Item) (out out' : List Out) → is_flush_stop x ≡ false → old.ended ≡ false
    → IsOk (split_answer old.frames (split_come old) x) → split_come new ≡ split_behind_of old.frames (split_come old) x → new.frames ≡ old.frames → new.ended ≡ is_eos x
    → out' ≡ out ++ on_pad 0 (answered (split_answer old.frames (split_come old) x)) → SplitPuts old new (Feed x) out out'
split_puts old new x out out' plain begun ok moved still ends outs =
    record {
      more = answered (split_answer old.frames (split_come old) x);
      outs = outs;
      owed = λ frames calls put p. (split_item old new x plain begun ok moved still ends frames calls put p).0;
      stands = λ frames calls put p. (split_item old new x plain begun ok moved still ends frames calls put p).1;
    }

-- behind EOS
pub split_puts_behind : (split : Split) (x : Item) (out : List Out) → is_flush_stop x ≡ false → split.ended ≡ true
    → SplitPuts split split (Feed x) out out
split_puts_behind split x out plain ended =
    record {
      more = [];
      outs = sym (append-nil out);
      owed = λ frames calls put p. (split_behind split x plain ended frames calls put p).0;
      stands = λ frames calls put p. (split_behind split x plain ended frames calls put p).1;
    }

-- for a drain: what waits
pub split_puts_rest : (old new : Split) (out out' : List Out) → old.ended ≡ false → IsOk (rest (split_come old))
    → split_come new ≡ rested (split_come old) → new.frames ≡ old.frames → new.ended ≡ old.ended
    → out' ≡ out ++ on_pad 0 (answered (rest (split_come old)) ++ []) → SplitPuts old new (Act Drain) out out'
split_puts_rest old new out out' begun ok moved still ends outs =
    record {
      more = answered (rest (split_come old));
      outs = outs ∙ ap (λ ys. out ++ on_pad 0 ys) (append-nil (answered (rest (split_come old))));
      owed = λ frames calls put p. (split_drained old new begun ok moved still ends frames calls put p).0;
      stands = λ frames calls put p. (split_drained old new begun ok moved still ends frames calls put p).1;
    }

-- and behind EOS nothing
pub split_puts_none : (split : Split) (out : List Out) → split.ended ≡ true → SplitPuts split split (Act Drain) out out
split_puts_none split out ended =
    record {
      more = [];
      outs = sym (append-nil out);
      owed = λ frames calls put p. (split_drained_behind split ended frames calls put p).0;
      stands = λ frames calls put p. (split_drained_behind split ended frames calls put p).1;
    }
