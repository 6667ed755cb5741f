-- The offset in force after a scroll.
use Rattle.std.proofs.Common.{◌≡◌, ℕ, ℤ, ◌∙◌, Bool, true, false, cond, refl, ap, sym, arith}
use Rattle.std.proofs.lemmas.Bool.{false≢true}
use Rattle.std.specs.Prelude.{pos, negsuc, min, ◌==◌}
use Rattle.page_model.specs.World.{Extent, Container, InElement, InDocument, Scrolls}
use Rattle.page_model.specs.Lookups.{no_extent}
use Rattle.page_model.specs.Edits.{kept_within}
use Rattle.page_model.specs.Scrolls.{within_range, position_of, lesser_extent, offset_of, with_position, with_pending, stays, moved_unless, scrolled}
use Rattle.scrolling.proofs.Puts.{put_read}

extents : (a b c d : ℕ) → a ≡ c → b ≡ d → ◌≡◌ {A = Extent} (record { across = a; down = b }) (record { across = c; down = d })
extents a b c d across down = ap {B = Extent} (λ x. record { across = x; down = b }) across ∙ ap {B = Extent} (λ y. record { across = c; down = y }) down

within_most : (units : ℤ) (most : ℕ) → min (kept_within units most) most ≡ kept_within units most
within_most (pos units) most = omega arith
within_most (negsuc units) most = omega arith

within_lesser : (range : Extent) (left top : ℤ) → lesser_extent (within_range range left top) range ≡ within_range range left top
within_lesser range left top = extents _ _ _ _ (within_most left range.across) (within_most top range.down)

stored_read : (it : Scrolls) (document : ℕ) (target : Container) (position : Extent) → position_of target (with_pending document target (with_position target position it)) ≡ position
stored_read it document (InElement n) position = put_read no_extent position n (it.elements)
stored_read it document (InDocument n) position = put_read no_extent position n (it.documents)

same_down : (a b : Extent) (across : Bool) → (a.across == b.across) ≡ across → cond across (a.down == b.down) false ≡ true → a ≡ b
same_down a b true across down = extents _ _ _ _ (grind (arith, across)) (grind (arith, down))
same_down a b false across down = absurd (false≢true down)

moved_offset : (it : Scrolls) (document : ℕ) (target : Container) (range : Extent) (left top : ℤ) (still : Bool) → stays target (within_range range left top) range it ≡ still → offset_of target range (moved_unless still document target (within_range range left top) it) ≡ within_range range left top
moved_offset it document target range left top true is = sym (same_down (within_range range left top) (offset_of target range it) _ refl is)
moved_offset it document target range left top false is =
    ap (λ position. lesser_extent position range) (stored_read it document target (within_range range left top)) ∙ within_lesser range left top

pub scrolled_offset : (it : Scrolls) (document : ℕ) (target : Container) (range : Extent) (left top : ℤ) → offset_of target range (scrolled document target (within_range range left top) range it) ≡ within_range range left top
scrolled_offset it document target range left top = moved_offset it document target range left top _ refl
