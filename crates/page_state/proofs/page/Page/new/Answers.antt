-- A page keeps its facts as it opens.
use Rattle.page_state.proofs.Opening.{known_first, no_elements, room_first}
use Rattle.std.proofs.Common.{ap, rules}
use Rattle.page_laws.proofs.Ready.{ready-opening}
use Rattle.page_state.specs.Views.{PageView}
use Rattle.page_state.proofs.Ready.{ready_at}
use Rattle.page_state.proofs.page.Page.new.Goals as goal

pub invariant_of-result : goal.invariant_of-result
invariant_of-result c =
    record {
      version = search rules;
      known = known_first _ _ _ _ _ _ _ c.in_ok-names.ensures.names (search rules) (search rules) (search rules) (search rules) (search rules);
      elements = no_elements _ _ (search rules) (search rules);
      limited = search rules;
      observations = search rules;
      registrations = search rules;
      listeners = search rules;
      frame_callbacks = search rules;
      timers = search rules;
      watched = search rules;
      margins = search rules;
      registered = c.in_ok-names.ensures.registered _ _ (λ serial. search rules);
      room = room_first _ _ _ (search rules) (search rules) c.in_ok-names.ensures.room;
      quiet = search rules;
      asked = search rules;
      sized = search rules;
      noted = search rules;
      time = search rules;
    }

pub returns-clause-opened : goal.returns-clause-opened
returns-clause-opened c = search rules

pub returns-clause-ready : goal.returns-clause-ready
returns-clause-ready c = λ handlers. ready_at handlers (ap (λ (page : PageView). page.world) (returns-clause-opened c)) (ready-opening handlers c.args.version)
