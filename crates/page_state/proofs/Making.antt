-- Intersection observers that are made, with the scroll margins of each.
use Rattle.std.proofs.Common.{◌≡◌, ℕ, List, [], ◌∷◌, ◌++◌, Result, Ok, Err, Option, length, unwrap_or, refl, ap, sym, subst, ◌∙◌}
use Rattle.std.specs.Global.{Vec}
use Rattle.text_io.specs.declared.kinds.LimitKind.TheVariants as limits
use Rattle.text_io.specs.declared.kinds.ThrowKind.TheVariants.{RangeError, SyntaxError}
use Rattle.script_model.specs.Margins.{Margins}
use Rattle.script_model.specs.MarginText.{margins_of, thresholds_of}
use Rattle.script_model.specs.Syntax.{ObserverMaking, MakeIntersectionObserver}
use Rattle.page_model.specs.World.{Root, World, IntersectionObserverThing}
use Rattle.page_model.specs.Lookups.{no_margins, put_at}
use Rattle.page_model.specs.Names.{with_name}
use Rattle.page_model.specs.Commands.{does}
use Rattle.page_model.specs.IntersectionObserving.{with_intersection_observer}
use Rattle.page_model.specs.Operands.{Handlers, Present, new_name, document_named, handler_given, root_meant}
use Rattle.page_model.specs.Steps.{Step, Did, Threw, Met, ◌>>=◌, ◌>>◌, becomes, required, room, is_did}
use Rattle.intersection_observer.specs.Watchers.{HeldWatchers}
use Rattle.page_state.specs.Answers.{Kept}
use Rattle.page_names.specs.Known.{KnownNames}
use Rattle.page_state.specs.Views.{PageView}
use Rattle.page_state.specs.Watchers.{new_thresholds}
use Rattle.page_state.specs.Worlds.{world_of, view_of}
use Rattle.page_state.specs.declared.answers.Effect.{Effect}
use Rattle.page_state.specs.declared.answers.Effect.TheVariants.{Nothing}
use Rattle.page_state.specs.declared.answers.PageFault.{PageFault}
use Rattle.page_state.specs.declared.answers.PageFault.TheVariants.{Memory}
use Rattle.page_state.specs.declared.page.Page.TheInside.{Inside}

put_last : {A : Type 0} (default value : A) (xs : List A) → put_at default (length xs) value xs ≡ xs ++ value ∷ []
put_last default value [] = refl
put_last default value (x ∷ xs) = ap (λ others. x ∷ others) (put_last default value xs)

pub put_behind : {A : Type 0} (default value : A) (xs : List A) (n : ℕ) → length xs ≡ n → put_at default n value xs ≡ xs ++ value ∷ []
put_behind default value xs n last = ap (λ place. put_at default place value xs) (sym last) ∙ put_last default value xs

-- what comes behind a value and a step that only lets it through
behind_room : {A B : Type 0} (step : Step A) (room : Step (Unit {0})) (next : A → Step B) → (step >>= λ value. room >> next value) ≡ ((step >>= λ value. room >> Did value) >>= next)
unfolding ◌>>=◌ ◌>>◌
behind_room (Did value) (Did done) next = refl
behind_room (Did value) (Threw kind) next = refl
behind_room (Did value) (Met kind) next = refl
behind_room (Threw kind) room next = refl
behind_room (Met kind) room next = refl

module _ (handlers : Handlers) (world : World) (present : Present) (making : ObserverMaking) (owner : ℕ) (called : Option ℕ) (root : Root) (margins moves : Margins) (thresholds : List ℕ)
    (free : new_name world.names making.name ≡ Did tt) (there : document_named world.names making.document ≡ Did owner) (handler : handler_given handlers making.handler ≡ Did called)
    (at : root_meant world.names present making.root ≡ Did root) (read : required SyntaxError (margins_of making.margin) ≡ Did margins)
    (scrolled : required SyntaxError (margins_of (unwrap_or making.scroll [])) ≡ Did moves)
    (given : new_thresholds world.version making.thresholds world.intersection_observers ≡ Did thresholds) where
  abbrev made : ℕ → Option ℕ → Root → Margins → Margins → List ℕ → World
  made made_in names_handler seen_from moved scroll values = record world {
    names = with_name (making.name) (IntersectionObserverThing (length world.intersection_observers.made)) (world.names);
    intersection_observers = with_intersection_observer made_in names_handler seen_from moved values (world.intersection_observers);
    scroll_margins = put_at no_margins (length world.intersection_observers.made) scroll (world.scroll_margins);
  }

  last : (made_in : ℕ) (names_handler : Option ℕ) (seen_from : Root) (moved scroll : Margins) →
      (required RangeError (thresholds_of making.thresholds) >>= λ values. room world.version limits.IntersectionObservers (length world.intersection_observers.made) >> becomes (made made_in names_handler seen_from moved scroll values))
      ≡ becomes (made made_in names_handler seen_from moved scroll thresholds)
  unfolding ◌>>=◌
  last made_in names_handler seen_from moved scroll =
      behind_room (required RangeError (thresholds_of making.thresholds)) (room world.version limits.IntersectionObservers (length world.intersection_observers.made))
      (λ values. becomes (made made_in names_handler seen_from moved scroll values))
      ∙ ap (λ (step : Step (List ℕ)). step >>= λ values. becomes (made made_in names_handler seen_from moved scroll values)) given

  pub makes : length world.scroll_margins ≡ length world.intersection_observers.made → does handlers world present (MakeIntersectionObserver making)
      ≡ becomes (record (made owner called root margins moves thresholds) { scroll_margins = world.scroll_margins ++ moves ∷ [] })
  unfolding does ◌>>=◌ ◌>>◌
  makes many =
      (λ i. free i >> (there i >>= λ (made_in : ℕ). handler i >>= λ (names_handler : Option ℕ). at i >>= λ (seen_from : Root). read i >>= λ (moved : Margins). scrolled i >>= λ (scroll : Margins).
      last made_in names_handler seen_from moved scroll i))
      ∙ ap (λ (all : List Margins). becomes (record (made owner called root margins moves thresholds) { scroll_margins = all }))
      (put_behind no_margins moves (world.scroll_margins) (length world.intersection_observers.made) many)

-- the same of a page
module _ (inside : Inside) (now : PageView) (view_is : view_of inside ≡ now) (many : length inside.scroll_margins.items ≡ length inside.watchers.part.made)
    (making : ObserverMaking) (owner : ℕ) (called : Option ℕ) (root : Root) (margins moves : Margins) (thresholds : List ℕ) (handlers : Handlers) (present : Present)
    (free : new_name inside.names.list making.name ≡ Did tt) (there : document_named now.world.names making.document ≡ Did owner) (handler : handler_given handlers making.handler ≡ Did called)
    (at : root_meant now.world.names present making.root ≡ Did root) (read : required SyntaxError (margins_of making.margin) ≡ Did margins)
    (scrolled : required SyntaxError (margins_of (unwrap_or making.scroll [])) ≡ Did moves)
    (given : new_thresholds now.world.version making.thresholds now.world.intersection_observers ≡ Did thresholds) where
  makes_here : does handlers now.world present (MakeIntersectionObserver making) ≡ becomes (record (now.world) {
    names = with_name (making.name) (IntersectionObserverThing (length now.world.intersection_observers.made)) (now.world.names);
    intersection_observers = with_intersection_observer owner called root margins thresholds (now.world.intersection_observers);
    scroll_margins = now.world.scroll_margins ++ moves ∷ [];
  })
  makes_here =
      makes handlers (now.world) present making owner called root margins moves thresholds (subst (λ (v : PageView). new_name v.world.names making.name ≡ Did tt) view_is free) there handler at read scrolled given
      (subst (λ (v : PageView). length v.world.scroll_margins ≡ length v.world.intersection_observers.made) view_is many)

  pub made_page : (names : KnownNames) (after : HeldWatchers) (scroll : Vec Margins) (n : ℕ) → names.list ≡ inside.names.list ++ record { text = making.name; thing = IntersectionObserverThing n } ∷ []
      → n ≡ length inside.watchers.part.made → after ≡ record (inside.watchers) { part = with_intersection_observer owner called root margins thresholds (inside.watchers.part) }
      → scroll.items ≡ inside.scroll_margins.items ++ moves ∷ []
      → Kept now (view_of (record inside { names = names; watchers = after; scroll_margins = scroll })) (Ok Nothing) (does handlers now.world present (MakeIntersectionObserver making))
  made_page names after scroll n listed number watching put = record {
    applied = makes_here
        ∙ ap (λ (v : PageView). becomes (record (v.world) {
          names = with_name (making.name) (IntersectionObserverThing (length v.world.intersection_observers.made)) (v.world.names);
          intersection_observers = with_intersection_observer owner called root margins thresholds (v.world.intersection_observers);
          scroll_margins = v.world.scroll_margins ++ moves ∷ [];
        })) (sym view_is)
        ∙ (λ i. becomes (record (world_of inside) {
          names = sym (listed ∙ ap (λ (m : ℕ). inside.names.list ++ record { text = making.name; thing = IntersectionObserverThing m } ∷ []) number) i;
          intersection_observers = (sym watching i).part;
          scroll_margins = sym put i;
        }));
    begun = ap (λ (v : PageView). v.begun) view_is;
    handed = tt;
  }

  -- where there is no memory for one more entry
  pub unmade_page : (names : KnownNames) (scroll : Vec Margins) → names.list ≡ inside.names.list → scroll.items ≡ inside.scroll_margins.items → (result : Result Effect PageFault) → result ≡ Err Memory
      → Kept now (view_of (record inside { names = names; scroll_margins = scroll })) result (does handlers now.world present (MakeIntersectionObserver making))
  unmade_page names scroll listed same result is =
      subst (λ (it : Result Effect PageFault). Kept now (view_of (record inside { names = names; scroll_margins = scroll })) it (does handlers now.world present (MakeIntersectionObserver making))) (sym is)
      (record {
        applied = (ap (is_did) makes_here, (λ i. record (world_of inside) { names = listed i; scroll_margins = same i }) ∙ ap (λ (v : PageView). v.world) view_is);
        begun = ap (λ (v : PageView). v.begun) view_is;
        handed = tt;
      })
