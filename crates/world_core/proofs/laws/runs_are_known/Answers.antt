use Rattle.world_core.proofs.laws.runs_are_known.Goals as goal

pub returns : goal.returns
returns g c = record {
  runs = c.runs_stand.ensures;
  evaluated = c.histories_are_evaluated.ensures;
  whole = c.ends_are_whole.ensures;
  over = c.runs_tell_over.ensures;
  lines = c.lines_tell_over.ensures;
  stuck = c.tasks_are_stuck.ensures;
  rows = c.lanes_stay.ensures;
  quiet = c.loose_are_quiet.ensures;
  limited = c.pads_are_limited.ensures;
  stand = c.tasks_stand_whole.ensures;
  behind = c.tasks_stand_behind.ensures;
  blamed = c.faults_are_blamed.ensures;
  causes = c.causes_are_told.ensures;
  streams = c.elements_are_streams.ensures;
}
