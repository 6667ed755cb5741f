use Rattle.std.proofs.Common.{ap}
use Rattle.std.specs.Prelude.{Result, Ok, Err, OnErr}
use Rattle.page_state.specs.Views.{PageView}
use Rattle.live_page.proofs.engine.update_counted.Goals as goal

-- what is so on an error has a consequence there
on_err : {A E P Q : Type 0} (result : Result A E) → (P → Q) → OnErr result P → OnErr result Q
on_err (Ok value) f p = tt
on_err (Err fault) f p = f p

pub returns-clause-rest : goal.returns-clause-rest
returns-clause-rest g c = on_err c.update_intersections.result (λ rest. (rest.0, ap (λ (v : PageView). v.world) rest.1)) c.update_intersections.ensures.rest
