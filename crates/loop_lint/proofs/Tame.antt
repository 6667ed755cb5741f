-- Each handler of a resize observer is a loop handler, and so holds no command that a script's loop handlers don't hold.
use Rattle.std.proofs.Common.{◌≡◌, refl, sym, subst, get_or}
use Rattle.std.proofs.lemmas.List.Quantifiers.{position-Some}
use Rattle.std.proofs.lemmas.Slice.Eq.{bytes_eq-Decides}
use Rattle.std.specs.Prelude.{ℕ, ℤ, zero, suc, Bool, true, false, List, [], ◌∷◌, ◌++◌, slice_get, position, Option, Some, None, IfSome, unwrap_or, bytes_eq}
use Rattle.std.specs.List.{AllByRecursion}
use Rattle.text_io.specs.declared.kinds.ThrowKind.TheVariants.{ReferenceError}
use Rattle.script_model.specs.Syntax.{Action, MakeResizeObserver, ObserveResize, UnobserveResize, DisconnectResize}
use Rattle.page_model.specs.World.{ResizeObserver, ResizeObservers, Container, World}
use Rattle.page_model.specs.Lookups.{change_at, resize_observer_at, no_resize_observer}
use Rattle.page_model.specs.Gathering.{Sight, gathered_if, is_of, gathering}
use Rattle.page_model.specs.Steps.{Effect}
use Rattle.page_model.specs.Operands.{Present, handler_named, handler_given}
use Rattle.page_model.specs.Scrolling.{scrolled_to, scrolled_by}
use Rattle.page_model.specs.Commands.{does, with_tree, with_intersections, with_listeners, making}
use Rattle.page_model.specs.Callbacks.{Script, handler_names, handler_block}
use Rattle.page_laws.specs.Successors.{OnDid}
use Rattle.page_laws.proofs.Steps.{bind, bind-in, both, did, required-in}
use Rattle.page_laws.proofs.Lists.{all-add, changed, mapped}
use Rattle.loop_laws.proofs.Walk.{BlockHolds}
use Rattle.loop_lint.proofs.Holding.{Fails, Names, IsNamedBy, IsClean}

-- the handler of a name --------------------------------------------------------------------------------------------------------

module _ (test : Action → Bool) (unnamed : List ℕ → Bool) where
  abbrev Tame : Script → ℕ → Type 0
  Tame script n = BlockHolds (Fails test) (handler_block script n)

  clean-at : (script : Script) → AllByRecursion (IsClean test unnamed) script → (n : ℕ) → unnamed (get_or (handler_names script) n []) ≡ false → Tame script n
  unfolding BlockHolds
  clean-at [] clean n is = tt
  clean-at (first ∷ others) clean zero is = (clean.0) is
  clean-at (first ∷ others) clean (suc n) is = clean-at others (clean.1) n is

  named-tame : (script : Script) → AllByRecursion (IsClean test unnamed) script → (name : List ℕ) → unnamed name ≡ false →
      IfSome (position (bytes_eq name) (handler_names script)) (Tame script)
  named-tame script clean name is = by (position (bytes_eq name) (handler_names script)) refl
    where
      by : (found : Option ℕ) → position (bytes_eq name) (handler_names script) ≡ found → IfSome found (Tame script)
      by None at = tt
      by (Some n) at =
          let first = position-Some (bytes_eq name) (handler_names script) n [] at in
          clean-at script clean n (subst (λ (text : List ℕ). unnamed text ≡ false) ((bytes_eq-Decides name (get_or (handler_names script) n [])).0 (first.1)) is)

  -- observers --------------------------------------------------------------------------------------------------------------------

  module _ (script : Script) where
    abbrev pub HasTame : ResizeObserver → Type 0
    HasTame it = IfSome it.handler (Tame script)

    -- each observer's handler is a loop handler
    pub record AreTame (it : ResizeObservers) : Type 0 where
      pub each : AllByRecursion HasTame it.made

    tame-in : (made : List ResizeObserver) (observer : ℕ) → AllByRecursion HasTame made → HasTame (unwrap_or (slice_get made observer) no_resize_observer)
    tame-in [] observer all = tt
    tame-in (x ∷ xs) zero all = all.0
    tame-in (x ∷ xs) (suc observer) all = tame-in xs observer (all.1)

    pub tame-at : (it : ResizeObservers) (observer : ℕ) → AreTame it → IfSome (resize_observer_at it observer).handler (λ h. BlockHolds (Fails test) (handler_block script h))
    tame-at it observer are = tame-in (it.made) observer are.each

    -- changes that leave an observer's handler
    pub changed-tame : (change : ResizeObserver → ResizeObserver) → ((it : ResizeObserver) → (change it).handler ≡ it.handler) →
        (given observer : ℕ) (it : ResizeObservers) → AreTame it → AreTame (record { given = given; made = change_at change observer (it.made) })
    changed-tame change same given observer it are = record {
      each = (changed HasTame change (λ x is. subst (λ (h : Option ℕ). IfSome h (Tame script)) (sym (same x)) is) observer (it.made)).within are.each;
    }

    gathered-tame : (own : Bool) (sight : Sight) (depth : ℕ) (x : ResizeObserver) → HasTame x → HasTame (gathered_if own sight depth x)
    gathered-tame true sight depth x is = is
    gathered-tame false sight depth x is = is

    pub gathering-tame : (sight : Sight) (document depth : ℕ) (it : ResizeObservers) → AreTame it → AreTame (gathering sight document depth it)
    gathering-tame sight document depth it are = record {
      each = (mapped HasTame (λ x. gathered_if (is_of document x) sight depth x) (λ x is. gathered-tame (is_of document x) sight depth x is) (it.made)).within are.each;
    }

    -- commands ---------------------------------------------------------------------------------------------------------------------

    module _ (clean : AllByRecursion (IsClean test unnamed) script) where
      given-tame : (handler : Option (List ℕ)) → IsNamedBy unnamed handler →
          OnDid (handler_given (handler_names script) handler) (λ called. IfSome called (Tame script))
      given-tame None named = did _ _ tt
      given-tame (Some name) named =
          bind-in (handler_named (handler_names script) name) _ (Tame script) _
          (required-in ReferenceError (position (bytes_eq name) (handler_names script)) (Tame script) (named-tame script clean name named))
          (λ called tame. did _ _ tame)

      module _ (world : World) (here : AreTame world.resize_observers) where
        abbrev Done : Effect → Type 0
        Done effect = AreTame (effect.world.resize_observers)

        scrolled-tame : (left top : ℤ) (target : Option Container) → AreTame (scrolled_to left top target world).resize_observers
        scrolled-tame left top None = here
        scrolled-tame left top (Some target) = here

        scrolled-by-tame : (left top : ℤ) (target : Option Container) → AreTame (scrolled_by left top target world).resize_observers
        scrolled-by-tame left top None = here
        scrolled-by-tame left top (Some target) = here

        made-tame : (document : ℕ) (handler : Option ℕ) → IfSome handler (Tame script) →
            AreTame (record {
              given = world.resize_observers.given;
              made = world.resize_observers.made ++ record { document = document; handler = handler; targets = []; active = []; skipped = [] } ∷ [];
            })
        made-tame document handler tame = record { each = all-add HasTame (world.resize_observers.made) _ here.each tame }

        target-tame : (change : ResizeObserver → ResizeObserver) → ((it : ResizeObserver) → (change it).handler ≡ it.handler) → (given observer : ℕ) →
            AreTame (record { given = given; made = change_at change observer (world.resize_observers.made) })
        target-tame change same given observer = changed-tame change same given observer (world.resize_observers) here

        pub does-tame : (present : Present) (action : Action) → Names unnamed action → OnDid (does (handler_names script) world present action) Done
        unfolding does with_tree with_intersections with_listeners making
        does-tame present (MakeResizeObserver name owner handler) named =
            both _ _ Done (bind _ _ Done (λ made_in. bind-in _ _ _ Done (given-tame handler named) (λ called tame.
            both _ _ Done (did _ Done (made-tame made_in called tame)))))
        does-tame present (ObserveResize observer node observed) named = search (both, bind, did, target-tame) depth 9
        does-tame present (UnobserveResize observer node) named = search (bind, did, target-tame) depth 9
        does-tame present (DisconnectResize observer) named = search (bind, did, target-tame) depth 9
        does-tame present action named = search (both, bind, did, here, scrolled-tame, scrolled-by-tame) depth 14
