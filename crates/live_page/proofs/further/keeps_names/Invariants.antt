use Rattle.script_model.specs.Scripts.{handlers_in}
use Rattle.live_page.proofs.Naming.{KeptTo}
use Rattle.live_page.proofs.further.keeps_names.Given as goal

-- the names up to here are the same
abbrev pub invariant-loop-number : goal.invariant-loop-number
invariant-loop-number l = KeptTo (handlers_in l.known.items) (handlers_in l.given.items) l.number
