-- A run leaves a later world, and a tick leaves the clock where it is set.
use Rattle.std.proofs.Common.{◌≡◌, refl, ◌∙◌, subst, sym, arith, ap}
use Rattle.std.specs.Prelude.{ℕ, suc, ◌≤◌, ◌<◌, Bool, true, false, nat_lt, cond, List, [], ◌∷◌, ⊤, Option}
use Rattle.std.specs.List.{AllByRecursion}
use Rattle.text_io.specs.declared.kinds.ThrowKind.TheVariants.{RangeError}
use Rattle.text_io.specs.declared.kinds.LimitKind.TheVariants as limits
use Rattle.script_model.specs.Syntax.{Item, Command}
use Rattle.script_model.specs.Scripts.{handlers_in}
use Rattle.script_model.specs.TraceLines.{ThrowLine}
use Rattle.text_io.specs.Limits.{limit_number}
use Rattle.page_model.specs.World.{World}
use Rattle.page_model.specs.Steps.{Did, Threw, ◌>>◌, met_unless}
use Rattle.page_model.specs.Operands.{Present}
use Rattle.page_model.specs.Commands.{does, begun_in}
use Rattle.page_model.specs.Runs.{Thrown}
use Rattle.page_model.specs.Callbacks.{Script, Entries, handler_names, answered, once_begun, presents, run_command, call}
use Rattle.page_model.specs.Ticks.{time_set, tick}
use Rattle.page_model.specs.Outcome.{run_tick, run_items}
use Rattle.page_laws.specs.Successors.{IsSuccessor}
use Rattle.page_laws.specs.Later.{IsLater}
use Rattle.page_laws.proofs.Steps.{on_did-map}
use Rattle.page_laws.proofs.Commands.{does-next}
use Rattle.page_laws.proofs.Changes.{IsNext}
use Rattle.page_laws.proofs.Keeping.{counted, IsCarried, carried-by, IsKept, command-keeps, called-keeps, tick-keeps}
use Rattle.page_laws.proofs.WholeRuns.{run_tick-keeps, items-keep}

pub all-so : {A : Type 0} (xs : List A) → AllByRecursion (λ (x : A). ⊤) xs
all-so [] = tt
all-so (x ∷ xs) = (tt, all-so xs)

-- what doesn't hang on the entries that callbacks are handed
pub kept-alone : (script : Script) (P : World → Type 0) → ((before now : World) → IsNext before now → P before → P now) →
    IsCarried script P (λ (present : Present). ⊤) → IsKept script (λ (k : ℕ). P) (λ (k : ℕ) (present : Present). ⊤)
kept-alone script P next carried = record {
  next = λ k. next;
  carried = λ k. carried;
  entered = λ k world here. here;
  left = λ k before now here there. there;
  due = λ k world document observer here. all-so _;
  queued = λ k world observer here. all-so _;
}

-- what goes over from a world to each successor of it
successor-carried : (script : Script) (P : World → Type 0) → ((before now : World) → IsSuccessor before now → P before → P now) →
    ((world : World) → P world → P (counted world)) → IsCarried script P (λ (present : Present). ⊤)
successor-carried script P goes_over begun =
    carried-by script P (λ (present : Present). ⊤) (λ world room here. begun world here)
    (λ world present action is here. on_did-map (does (handler_names script) world present action) _ _
    (λ effect next. goes_over world (effect.world) next here) (does-next (handler_names script) world present action)) tt

successor-kept : (script : Script) (P : World → Type 0) → ((before now : World) → IsSuccessor before now → P before → P now) →
    ((world : World) → P world → P (counted world)) → IsKept script (λ (k : ℕ). P) (λ (k : ℕ) (present : Present). ⊤)
successor-kept script P goes_over begun =
    kept-alone script P (λ before now next here. goes_over before now (next.successor) here) (successor-carried script P goes_over begun)

pub self : (world : World) → IsLater world world
self world = record { elements = omega arith; states = λ wanted document come. come; names = λ text thing is. is; clock = omega arith; begun = omega arith; version = refl }

-- what is later than a first world stays so
later-kept : (script : Script) (first : World) → IsKept script (λ (k : ℕ). IsLater first) (λ (k : ℕ) (present : Present). ⊤)
later-kept script first =
    successor-kept script (IsLater first)
    (λ before now next later. record {
      elements = omega (arith, later.elements, next.elements);
      states = λ wanted document come. next.states wanted document (later.states wanted document come);
      names = λ text thing is. next.names text thing (later.names text thing is);
      clock = subst (λ n. first.clock ≤ n) (sym (next.clock)) (later.clock);
      begun = subst (λ n. first.begun ≤ n) (sym (next.begun)) (later.begun);
      version = next.version ∙ later.version;
    })
    (λ world later. let more : first.begun ≤ suc world.begun = omega (arith, later.begun) in assumption)

later-timed : (first : World) (time : ℕ) (world : World) → IsLater first world → nat_lt time world.clock ≡ false → IsLater first (record world { clock = time })
later-timed first time world later is = let so_far : first.clock ≤ time = grind (arith, later.clock, is) in assumption

pub command-later : (script : Script) (entries : List Present) (command : Command) (present : Present) (world : World) →
    IsLater world (run_command script entries command present world).state
command-later script entries command present world =
    command-keeps script _ _ ((later-kept script world).carried 0) entries (all-so entries) command present world tt (self world)

pub call-later : (script : Script) (document : ℕ) (handler : Option ℕ) (handed : Entries) (world : World) →
    IsLater world (call script document handler handed world).state
call-later script document handler handed world =
    called-keeps script _ _ ((later-kept script world).carried 0) document handler handed world (all-so (presents handed)) (self world)

pub tick-later : (script : Script) (line time : ℕ) (world : World) → IsLater world (run_tick script line time world).state
tick-later script line time world = run_tick-keeps script _ _ (later-kept script world) 0 (later-timed world) line time world (self world)

pub items-later : (items : List Item) (world : World) → IsLater world (run_items items world).state
items-later items world = items-keep items _ _ (later-kept (handlers_in items) world) 0 (later-timed world) world (self world)

-- the clock

pub clock-stands : (script : Script) (world : World) → (tick script world).state.clock ≡ world.clock
clock-stands script world =
    tick-keeps script (λ (k : ℕ) (now : World). now.clock ≡ world.clock) (λ (k : ℕ) (present : Present). ⊤)
    (successor-kept script (λ now. now.clock ≡ world.clock) (λ before now next stands. next.clock ∙ stands) (λ now stands. stands))
    0 world refl

begins-by : (has_room : Bool) (begun most : ℕ) (now : World) → nat_lt begun most ≡ has_room → begun < most →
    (met_unless has_room limits.Commands >> Did now) ≡ Did now
unfolding ◌>>◌
begins-by true begun most now is room = refl
begins-by false begun most now is room = absurd (grind (arith, room, is))

begins : (world : World) → world.begun < limit_number (world.version) limits.Commands → begun_in world ≡ Did (record world { begun = suc world.begun })
unfolding begun_in
begins world room =
    let most : ℕ = limit_number (world.version) limits.Commands in
    begins-by (nat_lt world.begun most) (world.begun) most (record world { begun = suc world.begun }) refl room

refused-by : (is_before : Bool) (time : ℕ) (world : World) → nat_lt time world.clock ≡ is_before → time < world.clock →
    cond is_before (Threw RangeError) (Did (record world { clock = time })) ≡ Threw RangeError
refused-by true time world is before = refl
refused-by false time world is before = absurd (grind (arith, before, is))

pub tick-refused : (script : Script) (line time : ℕ) (world : World) → world.begun < limit_number (world.version) limits.Commands → time < world.clock →
    run_tick script line time world ≡ record { lines = ThrowLine line RangeError ∷ []; flow = Thrown; state = record world { begun = suc world.begun } }
unfolding once_begun answered
tick-refused script line time world room before =
    ap (answered line world (λ begun. answered line begun (tick script) (time_set time begun))) (begins world room)
    ∙ ap (answered line (record world { begun = suc world.begun }) (tick script))
    (refused-by (nat_lt time world.clock) time (record world { begun = suc world.begun }) refl before)
