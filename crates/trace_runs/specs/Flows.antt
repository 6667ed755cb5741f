-- How a run goes on after a step, in the terms of the definitions.
use Rattle.page_model.specs.Runs as runs
use Rattle.trace_runs.specs.declared.faults.Flow.{Flow}
use Rattle.trace_runs.specs.declared.faults.Flow.TheVariants.{Next, Thrown}

abbrev pub flow_of : Flow → runs.Flow
flow_of Next = runs.Next
flow_of Thrown = runs.Thrown

-- the flow after a call that catches what is thrown
abbrev pub goes_on : {A : Type 0} → A → runs.Flow
goes_on value = runs.Next
