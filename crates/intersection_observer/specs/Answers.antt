-- The results of calls. Memory is refused only if nothing else refuses the call.
use Rattle.std.specs.Prelude.{◌≡◌, ℕ, Bool, true, false, Option, Some, None, Result, Ok, Err}
use Rattle.intersection_observer.specs.declared.watchers.WatchFault.{WatchFault}
use Rattle.intersection_observer.specs.declared.watchers.WatchFault.TheVariants.{Limit, Memory}
use Rattle.intersection_observer.specs.declared.registration.RegistrationId.{RegistrationId}
use Rattle.intersection_observer.specs.declared.registration.Settled.{Settled}
use Rattle.intersection_observer.specs.declared.registration.Settled.TheVariants.{Queued, Kept}

-- by whether there is room
abbrev pub Enters : {A : Type 0} → Result A WatchFault → (has_room : Bool) → Type 0
Enters (Ok value) has_room = has_room ≡ true
Enters (Err Limit) has_room = has_room ≡ false
Enters (Err Memory) has_room = has_room ≡ true

-- observe(): by whether the target is observed already, which is no error, and then by whether there is room; a new registration
-- gets the next serial number
abbrev pub Registers : Result (Option RegistrationId) WatchFault → (there has_room : Bool) → (given : ℕ) → Type 0
Registers (Ok None) there has_room given = there ≡ true
Registers (Ok (Some registration)) there has_room given = (there ≡ false) × (has_room ≡ true) × (registration.0 ≡ given)
Registers (Err Limit) there has_room given = (there ≡ false) × (has_room ≡ false)
Registers (Err Memory) there has_room given = (there ≡ false) × (has_room ≡ true)

-- by whether there is news: only queuing an entry needs memory
abbrev pub Settles : {E : Type 0} → Result Settled E → (news : Bool) → Type 0
Settles (Ok Queued) news = news ≡ true
Settles (Ok Kept) news = news ≡ false
Settles (Err refused) news = news ≡ true
