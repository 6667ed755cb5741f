-- What observers find by, and one more registration settled.
use Rattle.std.proofs.Common.{◌≡◌, ℕ, zero, suc, ap, refl, subst, sym, take}
use Rattle.std.specs.Prelude.{List, [], ◌∷◌, ◌++◌, slice_get, Some}
use Rattle.std.specs.List.{IsDistinct}
use Rattle.std.proofs.lemmas.Option.{same_Some}
use Rattle.std.proofs.lemmas.List.Elements.{All-nil}
use Rattle.px_units.specs.declared.Rect.{Rect}
use Rattle.script_model.specs.Margins.{Margins}
use Rattle.page_model.specs.Shown.{Shown}
use Rattle.page_model.specs.World.{Root, Finding, Registration, IntersectionObserver, IntersectionObservers}
use Rattle.page_model.specs.Lookups.{no_intersection_observer}
use Rattle.page_model.specs.Findings.{finding, found, relation, root_origin, Relation, Apart, Boxless, Chained}
use Rattle.page_model.specs.Chains.{moved_back, root_rect}
use Rattle.intersection_observer.specs.Serials.{HasSerials, IsFound}
use Rattle.intersection_observer.specs.Settling.{with_settled, each_settled}

-- what is found by observers -----------------------------------------------------------------------------------------------------

-- by an observer with scroll margins, a root, margins and thresholds
pub found_by : Shown → Margins → Root → Margins → List ℕ → ℕ → Finding
found_by shown scroll root margins thresholds target = finding shown scroll (record no_intersection_observer { root = root; margins = margins; thresholds = thresholds }) target

by_relation : (shown : Shown) (scroll : Margins) (x : IntersectionObserver) (target : ℕ) (root : Rect) (it : Relation) →
    found shown scroll x target root it ≡ found shown scroll (record no_intersection_observer { root = x.root; margins = x.margins; thresholds = x.thresholds }) target root it
by_relation shown scroll x target root Apart = refl
by_relation shown scroll x target root Boxless = refl
by_relation shown scroll x target root Chained = refl

-- nothing else of an observer is read
pub by_parts : (shown : Shown) (scroll : Margins) (x : IntersectionObserver) (target : ℕ) → finding shown scroll x target ≡ found_by shown scroll (x.root) (x.margins) (x.thresholds) target
unfolding finding found_by
by_parts shown scroll x target = by_relation shown scroll x target (moved_back (root_origin shown (x.root)) (root_rect shown (x.root) (x.margins))) (relation shown (x.root) target)

-- one more registration ----------------------------------------------------------------------------------------------------------

pub each_more : (time : ℕ) (find : ℕ → Finding) (xs : List Registration) (x : Registration) (it : IntersectionObservers) →
    each_settled time find (xs ++ x ∷ []) it ≡ with_settled (x.serial) time (find (x.target)) (each_settled time find xs it)
each_more time find [] x it = refl
each_more time find (y ∷ ys) x it = each_more time find ys x (with_settled (y.serial) time (find (y.target)) it)

pub take_more : (place : ℕ) (xs : List Registration) (x : Registration) → slice_get xs place ≡ Some x → take (suc place) xs ≡ take place xs ++ x ∷ []
take_more place [] x is = cc
take_more zero (y ∷ ys) x is = ap (λ (it : Registration). it ∷ []) (same_Some y x is)
take_more (suc place) (y ∷ ys) x is = ap (λ others. y ∷ others) (take_more place ys x is)

-- where no observer was made, none has a registration
pub none_have_serials : (it : IntersectionObservers) → it.made ≡ [] → HasSerials it
unfolding IsDistinct
none_have_serials it none =
    subst (λ (made : List IntersectionObserver). HasSerials (record it { made = made })) (sym none)
    (record { found = λ watcher. All-nil (IsFound (record it { made = [] }) watcher); fresh = λ serial given. refl; targets = λ watcher. tt })
