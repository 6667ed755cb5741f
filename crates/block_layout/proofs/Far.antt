-- How far boxes reach: one level of it, and what the sum of heights above a child does to it.
use Rattle.std.proofs.Common.{◌≡◌, ◌<◌, ℕ, zero, suc, ◌+◌, List, [], ◌∷◌, Bool, true, false, refl, ap, sym, ◌∙◌, arith}
use Rattle.std.specs.Prelude.{Contains, ⊤}
use Rattle.px_units.specs.Lengths.{cap}
use Rattle.layout_model.specs.Items.{Item}
use Rattle.layout_model.specs.Nodes.{Node, levels, depth_of, IsLinked, IsShallow}
use Rattle.layout_model.specs.Boxes.{Inputs, kids_of, counted, border_size, child_inputs, box_in}
use Rattle.layout_model.specs.Clips.{clips}
use Rattle.layout_model.specs.Points.{plus, larger}
use Rattle.block_layout.specs.Far.{offset_at, far_kids, far_if_shown, far_inside, far_down, open_kids}
use Rattle.layout_model.proofs.Paths.{depth_least}
use Rattle.layout_model.proofs.Trees.{depth_kid, contains_next}
use Rattle.block_layout.specs.Far.{far_in}

pub pair_same : (a b c d : ℕ) → a ≡ b → c ≡ d → ◌≡◌ {A = ℕ × ℕ} (a, c) (b, d)
pair_same a b c d first second = ap {B = ℕ × ℕ} (λ x. (x, c)) first ∙ ap {B = ℕ × ℕ} (λ y. (b, y)) second

pub larger_turn : (far near rest : ℕ × ℕ) → larger (larger far near) rest ≡ larger far (larger near rest)
larger_turn far near rest = pair_same _ _ _ _ (omega arith) (omega arith)

pub larger_nothing : (far : ℕ × ℕ) → larger far (0, 0) ≡ far
larger_nothing far = pair_same _ _ _ _ (omega arith) (omega arith)

pub nothing_larger : (far : ℕ × ℕ) → larger (0, 0) far ≡ far
nothing_larger far = pair_same _ _ _ _ (omega arith) (omega arith)

-- the children matter by how far each reaches
kids_same : (height : ℕ → ℕ) (f g : ℕ → ℕ → ℕ × ℕ) (kids : List ℕ) (above : ℕ) → ((a c : ℕ) → Contains kids c → f a c ≡ g a c) → far_kids height f above kids ≡ far_kids height g above kids
unfolding far_kids
kids_same height f g [] above same = refl
kids_same height f g (c ∷ cs) above same =
    ap (λ far. larger far (far_kids height f (above + height c) cs)) (same above c (0, omega arith, refl))
    ∙ ap (larger (g above c)) (kids_same height f g cs (above + height c) (λ a d among. same a d (contains_next c cs d among)))

-- the height above matters only up to the largest length
pub kids_capped : (height : ℕ → ℕ) (far : ℕ → ℕ → ℕ × ℕ) → ((a b c : ℕ) → cap a ≡ cap b → far a c ≡ far b c) → (kids : List ℕ) (a b : ℕ) → cap a ≡ cap b → far_kids height far a kids ≡ far_kids height far b kids
unfolding far_kids
kids_capped height far level [] a b same = refl
kids_capped height far level (c ∷ cs) a b same =
    ap (λ f. larger f (far_kids height far (a + height c) cs)) (level a b c same)
    ∙ ap (larger (far b c)) (kids_capped height far level cs (a + height c) (b + height c) (omega (arith, same)))

pub far_none : (height : ℕ → ℕ) (far : ℕ → ℕ → ℕ × ℕ) (above : ℕ) (kids : List ℕ) → kids ≡ [] → far_kids height far above kids ≡ (0, 0)
unfolding far_kids
far_none height far above kids none = ap (far_kids height far above) none

pub far_cons : (height : ℕ → ℕ) (far : ℕ → ℕ → ℕ × ℕ) (above c : ℕ) (kids more : List ℕ) → kids ≡ c ∷ more → far_kids height far above kids ≡ larger (far above c) (far_kids height far (above + height c) more)
unfolding far_kids
far_cons height far above c kids more step = ap (far_kids height far above) step

offset_capped : (parent : Item) (inputs : Inputs) (a b : ℕ) (item : Item) → cap a ≡ cap b → offset_at parent inputs a item ≡ offset_at parent inputs b item
unfolding offset_at
offset_capped parent inputs a b item same = pair_same _ _ _ _ refl (omega (arith, same))

if_shown_same : (f g : Inputs → ℕ × ℕ → ℕ → ℕ × ℕ) (inputs : Inputs) (corner : ⊤ → ℕ × ℕ) (c : ℕ) (hidden : Bool) → f inputs (corner tt) c ≡ g inputs (corner tt) c → far_if_shown f inputs corner c hidden ≡ far_if_shown g inputs corner c hidden
if_shown_same f g inputs corner c true same = refl
if_shown_same f g inputs corner c false same = same

if_shown_corner : (far : Inputs → ℕ × ℕ → ℕ → ℕ × ℕ) (inputs : Inputs) (corner other : ⊤ → ℕ × ℕ) (c : ℕ) (hidden : Bool) → corner tt ≡ other tt → far_if_shown far inputs corner c hidden ≡ far_if_shown far inputs other c hidden
if_shown_corner far inputs corner other c true same = refl
if_shown_corner far inputs corner other c false same = ap (λ p. far inputs p c) same

-- how far a child reaches, under so much height
abbrev pub far_kid : (ℕ → Node) → (Inputs → ℕ × ℕ → ℕ → ℕ × ℕ) → Item → Inputs → ℕ × ℕ → Inputs → ℕ → ℕ → ℕ × ℕ
far_kid at far parent inputs corner within above c = far_if_shown far within (λ u. plus corner (offset_at parent inputs above ((at c).item))) c ((at c).item.style.hidden)

pub far_kid_capped : (at : ℕ → Node) (far : Inputs → ℕ × ℕ → ℕ → ℕ × ℕ) (parent : Item) (inputs : Inputs) (corner : ℕ × ℕ) (within : Inputs) (a b c : ℕ) → cap a ≡ cap b → far_kid at far parent inputs corner within a c ≡ far_kid at far parent inputs corner within b c
far_kid_capped at far parent inputs corner within a b c same =
    if_shown_corner far within (λ u. plus corner (offset_at parent inputs a ((at c).item))) (λ u. plus corner (offset_at parent inputs b ((at c).item))) c ((at c).item.style.hidden)
    (ap (plus corner) (offset_capped parent inputs a b ((at c).item) same))

module _ (at : ℕ → Node) (linked : IsLinked at) (shallow : IsShallow at) where
  opened : (closed : Bool) (kids : List ℕ) (c : ℕ) → Contains (open_kids closed kids) c → Contains kids c
  opened true kids c among = absurd (omega (arith, among.1))
  opened false kids c among = among

  inside_same : (f g : Inputs → ℕ × ℕ → ℕ → ℕ × ℕ) (n : ℕ) (inputs : Inputs) (corner : ℕ × ℕ) (closed : Bool)
      → ((c : ℕ) (below : Inputs) (place : ℕ × ℕ) → Contains (kids_of (at n)) c → f below place c ≡ g below place c)
      → far_inside at f ((at n).item) inputs corner (child_inputs ((at n).item) inputs) (open_kids closed (kids_of (at n))) ≡ far_inside at g ((at n).item) inputs corner (child_inputs ((at n).item) inputs) (open_kids closed (kids_of (at n)))
  inside_same f g n inputs corner closed same =
      kids_same
      (counted at (box_in at (child_inputs ((at n).item) inputs)))
      (far_kid at f ((at n).item) inputs corner (child_inputs ((at n).item) inputs))
      (far_kid at g ((at n).item) inputs corner (child_inputs ((at n).item) inputs))
      (open_kids closed (kids_of (at n)))
      0
      (λ a c among. if_shown_same f g (child_inputs ((at n).item) inputs) (λ u. plus corner (offset_at ((at n).item) inputs a ((at c).item))) c ((at c).item.style.hidden) (same c _ _ (opened closed (kids_of (at n)) c among)))

  stable : (deep : ℕ) (inputs : Inputs) (corner : ℕ × ℕ) (n : ℕ) → levels < depth_of at n + deep → far_down deep at inputs corner n ≡ far_down (suc deep) at inputs corner n
  unfolding far_down
  stable zero inputs corner n far = absurd (omega (arith, shallow n))
  stable (suc deep) inputs corner n far =
      ap (larger (plus corner (border_size (box_in at inputs n))))
      (inside_same (far_down deep at) (far_down (suc deep) at) n inputs corner (clips (at n)) (λ c below place kid. stable deep below place c (omega (arith, depth_kid at linked shallow n c kid))))

  -- a box reaches as far as its own edges, and as what is in it and isn't clipped
  pub far_of : (inputs : Inputs) (corner : ℕ × ℕ) (n : ℕ) → larger (plus corner (border_size (box_in at inputs n))) (far_in at n inputs corner (open_kids (clips (at n)) (kids_of (at n)))) ≡ far_down levels at inputs corner n
  unfolding far_down
  far_of inputs corner n =
      ap (larger (plus corner (border_size (box_in at inputs n))))
      (sym (inside_same (far_down 65535 at) (far_down 65536 at) n inputs corner (clips (at n)) (λ c below place kid. stable 65535 below place c (omega (arith, depth_kid at linked shallow n c kid, depth_least at n)))))
