use Rattle.std.proofs.Common.{◌≡◌, ◌∙◌, ℕ, length, refl, subst, sym, arith}
use Rattle.std.proofs.lemmas.Option.{slice_get_read}
use Rattle.world_core.specs.Probes.{StandFor}
use Rattle.world_core.specs.Probing.{IsProbedFor}
use Rattle.world_core.specs.Running.{tells_of}
use Rattle.world_core.proofs.Elements.{kept_elements}
use Rattle.world_core.proofs.running.Running.probe_at.Goals as goal

pub returns-in-Ok-clause-ready : goal.returns-in-Ok-clause-ready
returns-in-Ok-clause-ready g c = c.probe_pad.ensures.ready (tells_of c.args.self.now) c.requires.ready

pub returns-in-Ok-clause-probed : goal.returns-in-Ok-clause-probed
returns-in-Ok-clause-probed g c = (
  refl,
  record {
    next = c.requires.next;
    counted = refl;
    command = c.index-command.result.now;
    at = slice_get_read c.args.self.now.script.items (length c.args.self.now.script.items) c.args.place c.index-command.result.now refl (omega (arith, c.requires.within, c.args.self.now.script.ok.0)) c.index-command.ensures;
    probed = λ edited is.
        let count : c.number_of-answered.result ≡ length c.args.self.now.entries.items = c.number_of-answered.ensures ∙ c.len.ensures ∙ c.args.self.now.entries.ok.0 in
        subst (λ (n : ℕ). IsProbedFor edited c.args.self.now.script.items n c.args.self.now.tasks.items c.probe_pad.new.tasks.items c.index-command.result.now.when) count
        (c.in-Ok.ensures.probed c.args.self.now.script.items
        (subst (λ (n : ℕ). StandFor c.args.self.now.probing.probes c.args.self.now.script.items n) (sym count) c.requires.probes) edited is);
    has = λ edited m has. c.probe_pad.ensures.control c.args.self.now.graph c.args.self.now.feeds edited m (tells_of c.args.self.now) has;
    control = record { graph = refl; feeds = refl; commands = refl; entries = refl };
    lanes = refl;
    watch = refl;
    keeps = record { script = refl; turns = record { taking = refl; removed = refl } };
  },
)

pub returns-in-Ok-clause-elements : goal.returns-in-Ok-clause-elements
returns-in-Ok-clause-elements g c = kept_elements c.args.self.now _ c.probe_pad.ensures.files refl refl
