-- The moments of a run are as many as the commands that were begun in it; and where none begins, a callback leaves the world as it was, and
-- a broadcast all but the resize observers.
use Rattle.std.proofs.Common.{◌≡◌, refl, arith, length-append, sym, ap, ◌∙◌}
use Rattle.std.specs.Prelude.{ℕ, suc, ◌+◌, List, length, ⊤, ◌<◌}
use Rattle.script_model.specs.Syntax.{Action}
use Rattle.script_model.specs.TraceLines.{TraceLine}
use Rattle.page_model.specs.World.{World, ResizeObservers}
use Rattle.page_model.specs.Operands.{Present}
use Rattle.page_model.specs.Commands.{does}
use Rattle.page_model.specs.Callbacks.{Script, handler_names}
use Rattle.page_model.specs.Loop.{broadcast, Broadcast, gather, round, round_ended}
use Rattle.page_model.specs.Documents.{is_active}
use Rattle.page_laws.proofs.Steps.{on_did-map}
use Rattle.page_laws.proofs.Commands.{does-next}
use Rattle.page_laws.proofs.Keeping.{counted, then-keeps, only_if-keeps}
use Rattle.page_laws.proofs.Later.{all-so}
use Rattle.loop_laws.specs.Moments.{Moment, broadcast_moments}
use Rattle.loop_laws.specs.Still.{IsStill, IsStillOutside}
use Rattle.loop_laws.proofs.Folds.{IsJoined}
use Rattle.loop_laws.proofs.Walk.{IsAlong, any-call, broadcasts-along}

abbrev pub Counts : World → List TraceLine → List Moment → World → Type 0
Counts before lines moments now = now.begun ≡ before.begun + length moments

all-counted : (a b c xs ys all : ℕ) → b ≡ a + xs → c ≡ b + ys → all ≡ xs + ys → c ≡ a + all
all-counted a b c xs ys all one other sum = omega (arith, one, other, sum)

none-counted : (n : ℕ) → n ≡ n + 0
none-counted n = omega arith

one-counted : (begun now : ℕ) → now ≡ suc begun → now ≡ begun + 1
one-counted begun now is = omega (arith, is)

counts-joined : IsJoined Counts
counts-joined = record {
  none = λ now. none-counted (now.begun);
  both = λ a b c lines more xs ys one other. all-counted (a.begun) (b.begun) (c.begun) (length xs) (length ys) _ one other (length-append xs ys);
}

module _ (script : Script) where
  pub counts-along : IsAlong script (λ (action : Action). ⊤) (λ (present : Present). ⊤) Counts
  counts-along = record {
    joined = counts-joined;
    plain = λ world lines plain. none-counted (world.begun);
    begun = λ world present command fits is room. one-counted (world.begun) _ refl;
    does = λ line action present world fits is room. on_did-map (does (handler_names script) (counted world) present action) _ _
        (λ effect next. one-counted (world.begun) (effect.world.begun) (next.begun)) (does-next (handler_names script) (counted world) present action);
    none = tt;
  }

  pub broadcast-counts : (document : ℕ) (world : World) →
      (broadcast script document world).state.world.begun ≡ world.begun + length (broadcast_moments script document world)
  broadcast-counts document world =
      (broadcasts-along script document (λ (world : World). ⊤) (λ (k : ℕ) (present : Present). ⊤) Counts (record {
        joined = counts-joined;
        due = λ observer now here. all-so _;
        calls = λ observer delivered handed now are here. (tt, any-call script Counts counts-along document _ handed _);
        emptied = λ observer before now lines moments is here there. (tt, there);
      }) world tt).1

-- callbacks ----------------------------------------------------------------------------------------------------------------

-- once a command was counted, more were begun than before
begun-more : (before now : World) → before.begun < now.begun → IsStill before now
begun-more before now more = record { begun = omega (arith, more); same = λ is. absurd (let no : ⊥ = omega (arith, more, is) in no) }

still-first : (world : World) → IsStill world world
still-first world = record { begun = omega arith; same = λ is. refl }

still-then : (a b c : World) → IsStill a b → IsStill b c → IsStill a c
still-then a b c one other = record {
  begun = omega (arith, one.begun, other.begun);
  same = λ is. let fell : c.begun ≡ a.begun = is in
      other.same (omega (arith, fell, one.begun, other.begun)) ∙ one.same (omega (arith, fell, one.begun, other.begun));
}

abbrev pub Stands : World → List TraceLine → List Moment → World → Type 0
Stands before lines moments now = IsStill before now

pub still-along : (script : Script) → IsAlong script (λ (action : Action). ⊤) (λ (present : Present). ⊤) Stands
still-along script = record {
  joined = record { none = still-first; both = λ a b c lines more xs ys one other. still-then a b c one other };
  plain = λ world lines plain. still-first world;
  begun = λ world present command fits is room. begun-more world (counted world) (omega arith);
  does = λ line action present world fits is room. on_did-map (does (handler_names script) (counted world) present action) _ _
      (λ effect next. begun-more world (effect.world) (omega (arith, next.begun))) (does-next (handler_names script) (counted world) present action);
  none = tt;
}

-- resize observers changed, broadcasts and rounds ---------------------------------------------------------------------------

-- a world that differs from another one in its resize observers alone
but-one : (before now : World) (it : ResizeObservers) → now ≡ record before { resize_observers = it } → now ≡ record before { resize_observers = now.resize_observers }
but-one before now it is = is ∙ ap (λ (world : World). record before { resize_observers = world.resize_observers }) (sym is)

outside-first : (world : World) → IsStillOutside world world
outside-first world = record { begun = omega arith; same = λ is. refl }

outside-then : (a b c : World) → IsStillOutside a b → IsStillOutside b c → IsStillOutside a c
outside-then a b c one other = record {
  begun = omega (arith, one.begun, other.begun);
  same = λ is. let fell : c.begun ≡ a.begun = is in
      other.same (omega (arith, fell, one.begun, other.begun))
      ∙ ap (λ (world : World). record world { resize_observers = c.resize_observers }) (one.same (omega (arith, fell, one.begun, other.begun)));
}

outside-with : (before now : World) (it : ResizeObservers) → IsStillOutside before now → IsStillOutside before (record now { resize_observers = it })
outside-with before now it still = record { begun = still.begun; same = λ is. ap (λ (world : World). record world { resize_observers = it }) (still.same is) }

module _ (script : Script) (document : ℕ) where
  pub broadcast-outside : (world : World) → IsStillOutside world (broadcast script document world).state.world
  broadcast-outside world =
      (broadcasts-along script document (λ (world : World). ⊤) (λ (k : ℕ) (present : Present). ⊤)
      (λ (before : World) (lines : List TraceLine) (moments : List Moment) (now : World). IsStillOutside before now) (record {
        joined = record { none = outside-first; both = λ a b c lines more xs ys one other. outside-then a b c one other };
        due = λ observer now here. all-so _;
        calls = λ observer delivered handed now are here.
            let called = any-call script Stands (still-along script) document _ handed _ in
            (tt, record { begun = called.begun; same = λ is. but-one now _ _ (called.same is) });
        emptied = λ observer before now lines moments is here there. (tt, outside-with before now _ there);
      }) world tt).1

  gather-outside : (before now : World) (depth : ℕ) → IsStillOutside before now → IsStillOutside before (gather document depth now)
  unfolding gather
  gather-outside before now depth outside = outside-with before now _ outside

  pub round-outside : (world : World) → IsStillOutside world (round script document world).state
  round-outside world =
      then-keeps (λ (so_far : Broadcast). IsStillOutside world (so_far.world)) (broadcast script document world) _ (broadcast-outside world)
      (λ so_far outside. only_if-keeps (λ (it : Broadcast). IsStillOutside world (it.world)) (round_ended document) so_far
      (is_active (so_far.world.tree) document) (λ it there. gather-outside world (it.world) _ there) outside)
