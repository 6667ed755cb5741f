-- A page for tests of chains, given spot by spot. Its elements from 9 on have no box.
use Rattle.std.specs.Prelude.{ℕ, Bool, true, false, cond, ◌==◌, pos, Option, Some, None}
use Rattle.px_units.specs.declared.Rect.{Rect}
use Rattle.page_model.specs.Chains.{zero_rect}
use Rattle.element_tree.specs.declared.container.Container.{Container}
use Rattle.element_tree.specs.declared.container.Container.TheVariants.{Element, Document}
use Rattle.clip_chain.specs.Scenes.{Scene}
use Rattle.clip_chain.specs.Worlds.{view_spot}

abbrev pub sides : ℕ → ℕ → ℕ → ℕ → Rect
sides left top right bottom = record { left = pos left; top = pos top; right = pos right; bottom = pos bottom }

abbrev pub element : ℕ → Container
element number = Element (record { 0 = number })

abbrev pub sample_container : Container → Option Container
sample_container (Document document) = cond (document.0 == 1) (Some (element 2)) None
sample_container (Element node) =
    cond
    (node.0 == 0)
    (Some (view_spot 0))
    (cond
    (node.0 == 1)
    (Some (element 0))
    (cond
    (node.0 == 2)
    (Some (element 1))
    (cond
    (node.0 == 3)
    (Some (view_spot 1))
    (cond
    (node.0 == 4)
    (Some (element 3))
    (cond
    (node.0 == 5)
    (Some (element 4))
    (cond (node.0 == 6) (Some (element 5)) (cond (node.0 == 7) (Some (element 1)) (cond (node.0 == 8) (Some (element 1)) None))))))))

abbrev pub sample_clip : Container → Option Rect
sample_clip (Document document) =
    cond (document.0 == 0) (Some (sides 0 0 800 600)) (cond (document.0 == 1) (Some (sides 100 200 400 500)) None)
sample_clip (Element node) =
    cond
    (node.0 == 1)
    (Some (sides 10 20 410 320))
    (cond (node.0 == 4) (Some (sides 120 160 380 460)) (cond (node.0 == 6) (Some (sides 131 181 140 190)) None))

abbrev pub sample_bounds : Container → Rect
sample_bounds (Document document) = cond (document.0 == 0) (sides 0 0 800 600) (cond (document.0 == 1) (sides 100 200 400 500) zero_rect)
sample_bounds (Element node) =
    cond
    (node.0 == 0)
    (sides 0 0 800 2000)
    (cond
    (node.0 == 1)
    (sides 5 15 415 325)
    (cond
    (node.0 == 2)
    (sides 100 200 400 500)
    (cond
    (node.0 == 3)
    (sides 100 150 400 900)
    (cond
    (node.0 == 4)
    (sides 115 155 385 465)
    (cond
    (node.0 == 5)
    (sides 150 300 900 310)
    (cond
    (node.0 == 6)
    (sides 130 180 600 340)
    (cond (node.0 == 7) (sides 410 50 500 100) (cond (node.0 == 8) (sides 411 50 500 100) zero_rect))))))))

abbrev pub sample_scrolls : Container → Bool
sample_scrolls (Document document) = false
sample_scrolls (Element node) = cond (node.0 == 1) true (cond (node.0 == 4) true (cond (node.0 == 6) true false))

abbrev pub sample : Scene
sample = record {
  container = sample_container;
  clip = sample_clip;
  bounds = sample_bounds;
  scrolls = sample_scrolls;
  moved = λ of. false;
}

-- the rank of each spot, which is greater than that of its container
abbrev pub sample_rank : Container → ℕ
sample_rank (Document document) = cond (document.0 == 1) 4 0
sample_rank (Element node) =
    cond
    (node.0 == 0)
    1
    (cond
    (node.0 == 1)
    2
    (cond (node.0 == 3) 5 (cond (node.0 == 4) 6 (cond (node.0 == 5) 7 (cond (node.0 == 6) 8 3)))))
