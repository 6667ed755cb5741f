-- What an update finds for a target (Intersection Observer, 3.2: update intersection observations). That it is enough for the
-- rectangles to share an edge, and the order of the cases, are this project's own.
use Rattle.std.specs.Prelude.{ℕ, ◌*◌, Bool, true, false, cond, not, ◌||◌, ◌==◌, nat_le, List, ◌∷◌, count_by, Option, option_map, unwrap_or, is_some}
use Rattle.px_units.specs.declared.Rect.{Rect}
use Rattle.px_units.specs.declared.Point.{Point}
use Rattle.px_units.specs.Rects.{area}
use Rattle.layout_model.specs.Nodes.{held, is_in_path}
use Rattle.script_model.specs.Margins.{Margins}
use Rattle.page_model.specs.World.{Tree, Root, ImplicitRoot, DocumentRoot, ElementRoot, Finding, IntersectionObserver}
use Rattle.page_model.specs.Lookups.{element_at}
use Rattle.page_model.specs.Documents.{nodes_of}
use Rattle.page_model.specs.PageBoxes as boxes
use Rattle.page_model.specs.Shown.{Shown, has_box}
use Rattle.page_model.specs.Chains.{zero_point, zero_rect, moved_back, origin, origin_of_element, border_rect, clips_for, common_part, root_rect}

-- how a target relates to a root: apart from it, without a box, or on a chain of containers that leads to it
pub data Relation : Type 0 where
  Apart : Relation
  Boxless : Relation
  Chained : Relation

-- whether an element is on the chain of elements that hold the target's box; the target itself isn't
abbrev pub is_on_chain : Tree → ℕ → ℕ → Bool
is_on_chain tree element target = cond (element == target) false (is_in_path (held (nodes_of tree)) element target)

-- a target is apart from an explicit root if their node documents differ. It is also apart from a root that is an element if this
-- element isn't on its chain, or if one of the two has no box
abbrev pub is_apart : Shown → Root → ℕ → Bool
is_apart shown ImplicitRoot target = false
is_apart shown (DocumentRoot root) target = not ((element_at (shown.tree) target).document == root)
is_apart shown (ElementRoot root) target =
    not ((element_at (shown.tree) target).document == (element_at (shown.tree) root).document) || not (is_on_chain (shown.tree) root target) || not (has_box shown root) || not (has_box shown target)

abbrev pub relation : Shown → Root → ℕ → Relation
relation shown root target = cond (is_apart shown root target) Apart (cond (has_box shown target) Chained Boxless)

-- the threshold index: the number of thresholds, in ten-thousandths, that aren't greater than the ratio of part to whole
abbrev pub index_of : List ℕ → ℕ → ℕ → ℕ
index_of thresholds part whole = count_by (λ threshold. nat_le (threshold * whole) (part * 10000)) thresholds

-- the intersection ratio of a target, as the intersecting area and the whole one. For a target without area it is 1 or 0
pub record Ratio : Type 0 where
  pub part : ℕ
  pub whole : ℕ

abbrev pub all_or_nothing : Bool → Ratio
all_or_nothing true = record { part = 1; whole = 1 }
all_or_nothing false = record { part = 0; whole = 1 }

unfoldable pub ratio_of : Rect → Option Rect → Ratio
ratio_of bounds cut =
    cond (area bounds == 0) (all_or_nothing (is_some cut))
    (record { part = unwrap_or (option_map area cut) 0; whole = area bounds })

-- the finding for a target that is apart from the root or has no box: it isn't intersecting, and its bounds and intersection are zero
abbrev pub unseen : ℕ → Rect → Finding
unseen index root = record {
  index = index;
  meets = false;
  part = 0;
  whole = 1;
  root = root;
  bounds = zero_rect;
  cut = zero_rect;
}

-- the finding for a target with these bounds and this intersection, both translated by `from`; without an intersection it has the
-- zero rectangle, which isn't translated
abbrev pub seen_at : List ℕ → Point → Rect → Option Rect → Rect → Finding
seen_at thresholds from bounds cut root =
    let ratio = ratio_of bounds cut in
    record {
      index = index_of thresholds (ratio.part) (ratio.whole);
      meets = is_some cut;
      part = ratio.part;
      whole = ratio.whole;
      root = root;
      bounds = moved_back from bounds;
      cut = unwrap_or (option_map (moved_back from) cut) zero_rect;
    }

-- the origin of the root rectangle's coordinates: that of the viewport of the root's document, and the zero point if the root is an
-- element without a box
abbrev pub root_origin : Shown → Root → Point
root_origin shown ImplicitRoot = zero_point
root_origin shown (DocumentRoot document) = origin shown document
root_origin shown (ElementRoot element) = cond (has_box shown element) (origin_of_element shown element) zero_point

abbrev pub found : Shown → Margins → IntersectionObserver → ℕ → Rect → Relation → Finding
found shown scroll_margins observer target root Apart = unseen 0 root
found shown scroll_margins observer target root Boxless = unseen (index_of (observer.thresholds) 0 1) root
found shown scroll_margins observer target root Chained =
    let bounds = border_rect shown target in
    seen_at
    (observer.thresholds)
    (origin_of_element shown target)
    bounds
    (common_part bounds (root_rect shown (observer.root) (observer.margins) ∷ clips_for shown scroll_margins (observer.root) target))
    root

-- what an observer with these scroll margins finds for a target. The rectangles are in the coordinates of the viewport of the target's
-- document, the root rectangle in those of the root's
unfoldable pub finding : Shown → Margins → IntersectionObserver → ℕ → Finding
unfolding root_rect clips_for common_part ratio_of origin border_rect boxes.has_box is_in_path
finding shown scroll_margins observer target =
    found
    shown
    scroll_margins
    observer
    target
    (moved_back (root_origin shown (observer.root)) (root_rect shown (observer.root) (observer.margins)))
    (relation shown (observer.root) target)
