use Rattle.std.proofs.Common.{◌∙◌, inl, inr}
use Rattle.graph_core.specs.Graph.{made}
use Rattle.graph_parts.proofs.Locating.{all_opened}
use Rattle.run_files.specs.Ends.{known_ends}
use Rattle.world_core.specs.Ran.{KnownHold}
use Rattle.world_core.specs.World.{FilesHold}
use Rattle.world_core.proofs.Closing.{ends_same, files_hold, inputs_stay, others_stay}
use Rattle.world_core.proofs.ScriptEnds.{script_with}
use Rattle.world_core.proofs.Unopened.{opens_line, unopened_ends, unopened_inputs, unopened_others, unopened_run}
use Rattle.world_core.proofs.scripted.run_script.Goals as goal

-- a location could not be opened

pub returns-in-Err-open_all-clause-ended : goal.returns-in-Err-open_all-clause-ended
returns-in-Err-open_all-clause-ended g c =
    λ found.
    let before = g.F.Files.seen c.args.files.now in
    let after = g.F.Files.seen c.open_all.new.files in
    let same = c.as_slice-in-Err-open_all.ensures.value ∙ c.in-Ok.ensures.reserved.openings_are in
    inl (unopened_run c.args.graph c.as_slice-in-Err-open_all.result.now before after c.not_begun.result same
    (c.not_begun.ensures.ended found before after
    (rw (c.as_slice-in-Err-open_all.ensures.value, ← c.as_slice.ensures.value) c.in-Err-open_all.ensures.unopened)))

pub returns-in-Err-open_all-clause-given_back : goal.returns-in-Err-open_all-clause-given_back
returns-in-Err-open_all-clause-given_back g c =
    λ small.
    let same = c.as_slice.ensures.value ∙ c.in-Ok.ensures.reserved.openings_are in
    unopened_ends c.args.graph c.as_slice.result.now (g.F.Files.seen c.args.files.now) (g.F.Files.seen c.open_all.new.files) same
    c.requires.built.tree c.requires.built.line c.in-Err-open_all.unopened c.in-Err-open_all.ensures.unopened small

pub returns-in-Err-open_all-clause-inputs : goal.returns-in-Err-open_all-clause-inputs
returns-in-Err-open_all-clause-inputs g c =
    λ l.
    let same = c.as_slice.ensures.value ∙ c.in-Ok.ensures.reserved.openings_are in
    unopened_inputs c.args.graph c.as_slice.result.now (g.F.Files.seen c.args.files.now) (g.F.Files.seen c.open_all.new.files) same
    c.in-Err-open_all.unopened c.in-Err-open_all.ensures.unopened l

pub returns-in-Err-open_all-clause-others : goal.returns-in-Err-open_all-clause-others
returns-in-Err-open_all-clause-others g c =
    λ l away.
    let same = c.as_slice.ensures.value ∙ c.in-Ok.ensures.reserved.openings_are in
    unopened_others c.args.graph c.as_slice.result.now (g.F.Files.seen c.args.files.now) (g.F.Files.seen c.open_all.new.files) same
    c.in-Err-open_all.unopened c.in-Err-open_all.ensures.unopened l away

-- all were opened

pub run_script_opened-end-requires-clause-prepared : goal.run_script_opened-end-requires-clause-prepared
run_script_opened-end-requires-clause-prepared g c κs within =
    let before = g.F.Files.seen c.args.files.now in
    let mid = g.F.Files.seen c.open_all.new.files in
    let same = c.as_slice.ensures.value ∙ c.in-Ok.ensures.reserved.openings_are in
    let ends = known_ends g.F.Src.Source g.F.Snk.Sink c.in-Ok-open_all.ends.items in (
      c.args.graph,
      c.args.commands,
      c.requires.built,
      c.in-Ok.ensures.planned,
      c.in-Ok.ensures.reserved,
      c.in-Ok.ensures.control,
      (before, mid, opens_line c.args.graph c.as_slice.result.now before mid same ends c.in-Ok-open_all.ensures.opened),
    )

pub close_all-requires-clause-opened_here : goal.close_all-requires-clause-opened_here
close_all-requires-clause-opened_here g c κs within =
    let before = g.F.Files.seen c.args.files.now in
    let mid = g.F.Files.seen c.open_all.new.files in
    let same = c.as_slice.ensures.value ∙ c.in-Ok.ensures.reserved.openings_are in
    let ends = known_ends g.F.Src.Source g.F.Snk.Sink c.in-Ok-open_all.ends.items in
    let known = known_ends g.F.Src.Source g.F.Snk.Sink c.run_script_opened-end.result.ends.items in
    let opens = opens_line c.args.graph c.as_slice.result.now before mid same ends c.in-Ok-open_all.ensures.opened in
    let located = c.run_script_opened-end.ensures.located c.args.graph c.args.commands c.requires.built c.in-Ok.ensures.planned c.in-Ok.ensures.control before mid opens in
    all_opened (g.F.Files.opened c.open_all.new.files) before (made c.args.graph) known located (rw (← opens.made) c.in-Ok-open_all.ensures.here)

pub returns-clause-ended : goal.returns-clause-ended
returns-clause-ended g c =
    λ found.
    let before = g.F.Files.seen c.args.files.now in
    let mid = g.F.Files.seen c.open_all.new.files in
    let after = g.F.Files.seen c.close_all.new.files in
    let same = c.as_slice.ensures.value ∙ c.in-Ok.ensures.reserved.openings_are in
    let ends = known_ends g.F.Src.Source g.F.Snk.Sink c.in-Ok-open_all.ends.items in
    let known = known_ends g.F.Src.Source g.F.Snk.Sink c.run_script_opened-end.result.ends.items in
    let opens = opens_line c.args.graph c.as_slice.result.now before mid same ends c.in-Ok-open_all.ensures.opened in
    let located = c.run_script_opened-end.ensures.located c.args.graph c.args.commands c.requires.built c.in-Ok.ensures.planned c.in-Ok.ensures.control before mid opens in
    let hold = files_hold c.requires.built.tree c.args.graph c.requires.built.line known located before mid after ends opens c.close_all.ensures.alone in
    inr (script_with c.args.graph c.args.commands before (KnownHold c.args.graph known) (FilesHold c.args.graph after) c.run_script_opened-end.result.end hold
    (c.run_script_opened-end.ensures.ended c.args.graph c.args.commands c.requires.built c.in-Ok.ensures.planned c.in-Ok.ensures.control before mid opens found))

pub returns-clause-given_back : goal.returns-clause-given_back
returns-clause-given_back g c =
    λ small.
    let before = g.F.Files.seen c.args.files.now in
    let mid = g.F.Files.seen c.open_all.new.files in
    let after = g.F.Files.seen c.close_all.new.files in
    let same = c.as_slice.ensures.value ∙ c.in-Ok.ensures.reserved.openings_are in
    let ends = known_ends g.F.Src.Source g.F.Snk.Sink c.in-Ok-open_all.ends.items in
    let known = known_ends g.F.Src.Source g.F.Snk.Sink c.run_script_opened-end.result.ends.items in
    let opens = opens_line c.args.graph c.as_slice.result.now before mid same ends c.in-Ok-open_all.ensures.opened in
    let located = c.run_script_opened-end.ensures.located c.args.graph c.args.commands c.requires.built c.in-Ok.ensures.planned c.in-Ok.ensures.control before mid opens in
    ends_same c.requires.built.tree c.args.graph c.requires.built.line known located before mid after ends opens c.close_all.ensures.closes small

pub returns-clause-inputs : goal.returns-clause-inputs
returns-clause-inputs g c =
    let before = g.F.Files.seen c.args.files.now in
    let mid = g.F.Files.seen c.open_all.new.files in
    let after = g.F.Files.seen c.close_all.new.files in
    let same = c.as_slice.ensures.value ∙ c.in-Ok.ensures.reserved.openings_are in
    let ends = known_ends g.F.Src.Source g.F.Snk.Sink c.in-Ok-open_all.ends.items in
    let known = known_ends g.F.Src.Source g.F.Snk.Sink c.run_script_opened-end.result.ends.items in
    let opens = opens_line c.args.graph c.as_slice.result.now before mid same ends c.in-Ok-open_all.ensures.opened in
    let located = c.run_script_opened-end.ensures.located c.args.graph c.args.commands c.requires.built c.in-Ok.ensures.planned c.in-Ok.ensures.control before mid opens in
    inputs_stay c.requires.built.tree c.args.graph c.requires.built.line known located before mid after ends opens c.close_all.ensures.closes

pub returns-clause-others : goal.returns-clause-others
returns-clause-others g c =
    let before = g.F.Files.seen c.args.files.now in
    let mid = g.F.Files.seen c.open_all.new.files in
    let after = g.F.Files.seen c.close_all.new.files in
    let same = c.as_slice.ensures.value ∙ c.in-Ok.ensures.reserved.openings_are in
    let ends = known_ends g.F.Src.Source g.F.Snk.Sink c.in-Ok-open_all.ends.items in
    let known = known_ends g.F.Src.Source g.F.Snk.Sink c.run_script_opened-end.result.ends.items in
    let opens = opens_line c.args.graph c.as_slice.result.now before mid same ends c.in-Ok-open_all.ensures.opened in
    let located = c.run_script_opened-end.ensures.located c.args.graph c.args.commands c.requires.built c.in-Ok.ensures.planned c.in-Ok.ensures.control before mid opens in
    others_stay c.requires.built.tree c.args.graph c.requires.built.line known located before mid after ends opens c.close_all.ensures.others
