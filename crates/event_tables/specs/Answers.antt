-- The result of a call that adds an entry to a table. Memory is refused only if nothing else refuses the call.
use Rattle.std.specs.Prelude.{◌≡◌, Bool, true, false, Result, Ok, Err}
use Rattle.event_tables.specs.declared.answers.TableFault.{TableFault}
use Rattle.event_tables.specs.declared.answers.TableFault.TheVariants.{Taken, Limit, Memory}

-- by whether the key is taken, and then by whether there is room
abbrev pub Enters : Result (Unit {0}) TableFault → (held roomy : Bool) → Type 0
Enters (Ok done) held roomy = (held ≡ false) × (roomy ≡ true)
Enters (Err Taken) held roomy = held ≡ true
Enters (Err Limit) held roomy = (held ≡ false) × (roomy ≡ false)
Enters (Err Memory) held roomy = (held ≡ false) × (roomy ≡ true)

-- by whether the same entry exists already, which is no error, and then by whether there is room
abbrev pub Adds : Result Bool TableFault → (there roomy : Bool) → Type 0
Adds (Ok true) there roomy = (there ≡ false) × (roomy ≡ true)
Adds (Ok false) there roomy = there ≡ true
Adds (Err Taken) there roomy = ⊥
Adds (Err Limit) there roomy = (there ≡ false) × (roomy ≡ false)
Adds (Err Memory) there roomy = (there ≡ false) × (roomy ≡ true)

-- only by whether there is room
abbrev pub Queues : Result (Unit {0}) TableFault → (roomy : Bool) → Type 0
Queues (Ok done) roomy = roomy ≡ true
Queues (Err Taken) roomy = ⊥
Queues (Err Limit) roomy = roomy ≡ false
Queues (Err Memory) roomy = roomy ≡ true
