use Rattle.pv_events.proofs.Answers.{runs_join, takes_are_events, looks_are_events, desk_looks_are_events, settlings_are_events, stages_are_events, extensions_are_events, givings_back_are_events, stops_are_events, announcements_are_events, recalls_are_events, absorptions_are_events}
use Rattle.pv_events.proofs.laws.calls_are_events.Goals as goal

pub returns : goal.returns
returns c = record {
  take = takes_are_events;
  look = looks_are_events;
  desk_look = desk_looks_are_events;
  settle = settlings_are_events;
  settle_stage = stages_are_events;
  extend = extensions_are_events;
  give_back = givings_back_are_events;
  stop = stops_are_events;
  announce = announcements_are_events;
  recall = recalls_are_events;
  absorb = absorptions_are_events;
  join = runs_join;
}
