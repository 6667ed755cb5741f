-- The tables by which the observers of each document are found.
use Rattle.std.specs.Prelude.{◌≡◌, ℕ, Bool, ◌&&◌, nat_eq, List, length, slice_get, unwrap_or}
use Rattle.std.specs.HashMap.{get}
use Rattle.page_model.specs.World.{ResizeObserver}
use Rattle.page_model.specs.Gathering.{is_of}
use Rattle.page_model.specs.Intersections.{places_from}
use Rattle.resize_observer.specs.declared.documents.Documents.{Documents}

-- the numbers of a document's observers in this list, in order of creation
abbrev pub numbers_of : ℕ → List ResizeObserver → List ℕ
numbers_of document made = places_from 0 (is_of document) made

-- whether two keys are equal; a key is a document and a place among its observers
abbrev pub same_key : ℕ × ℕ → ℕ × ℕ → Bool
same_key a b = nat_eq a.0 b.0 && nat_eq a.1 b.1

-- the tables hold for each document the number of its observers in this list, and the one at each place among them
pub record Tells (it : Documents) (made : List ResizeObserver) : Type 0 where
  pub counted : (document : ℕ) → unwrap_or (get nat_eq it.counts document) 0 ≡ length (numbers_of document made)
  pub found : (document place : ℕ) → get same_key it.numbers (document, place) ≡ slice_get (numbers_of document made) place
