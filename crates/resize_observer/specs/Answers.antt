-- The result of a call that adds an observer or an observation. Memory is refused only if there is room.
use Rattle.std.specs.Prelude.{◌≡◌, Bool, true, false, Result, Ok, Err}
use Rattle.resize_observer.specs.declared.observers.ObserveFault.{ObserveFault}
use Rattle.resize_observer.specs.declared.observers.ObserveFault.TheVariants.{Limit, Memory}

abbrev pub Enters : {A : Type 0} → Result A ObserveFault → (has_room : Bool) → Type 0
Enters (Ok value) has_room = has_room ≡ true
Enters (Err Limit) has_room = has_room ≡ false
Enters (Err Memory) has_room = has_room ≡ true
