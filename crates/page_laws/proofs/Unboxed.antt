-- What is made has no box, and changes no box of what there was: nothing in the tree of that has changed.
use Rattle.std.proofs.Common.{◌≡◌, refl, sym, ap, ◌∙◌, arith, ◌≤◌, true≢false, inl, inr, tests}
use Rattle.std.specs.Prelude.{ℕ, zero, suc, ◌+◌, ◌<◌, ◌==◌, nat_lt, ◌&&◌, not, Bool, true, false, cond, List, [], ◌∷◌, ◌++◌, find, length, sum_by, ◌⊎◌, option_map, option_and_then, Option, Some, None, IfSome}
use Rattle.std.specs.List.{AllByRecursion}
use Rattle.std.proofs.lemmas.List.Sums.{sum_by-cons}
use Rattle.px_units.specs.Lengths.{cap}
use Rattle.layout_model.specs.Items.{Kind, BlockKind, ImageKind, FrameKind}
use Rattle.layout_model.specs.Styles.{Position, StaticPosition, RelativePosition, AbsolutePosition, FixedPosition}
use Rattle.layout_model.specs.Clips.{is_block}
use Rattle.layout_model.specs.Nodes.{Node, path_above, path_up, path_of, ancestors_of, levels, position_of, is_positioned, is_in_flow, Holder, HeldByElement, HeldByPage, HeldByScreen, held_by, holder_by, holder, element_of}
use Rattle.layout_model.specs.Boxes.{Inputs, Box, computed, child_inputs, inner_children, kids_of, shown_height, is_passed, counted, margin_height, total, box_at, box_down, box_in, content_size, inputs_held, inputs_by_element, inputs_by, inputs_up, inputs_at, has_box_along, has_box_in, inputs_in}
use Rattle.layout_model.specs.Views.{View, view_inputs, inputs_in_view}
use Rattle.page_model.specs.World.{Screen, Element, Document, DocumentState, Fresh, Active, Dead, Tree, World}
use Rattle.page_model.specs.Lookups.{entry_or, element_at, document_at, no_element, no_document}
use Rattle.page_model.specs.Documents.{node_of, nodes_of, is_active_state, frame_levels}
use Rattle.page_model.specs.Edits.{with_element, with_frame, new_document}
use Rattle.page_model.specs.PageBoxes.{framed_size, view_with, view_if_active, view_up, view_of, view_at, no_view, inputs_of, box_of}
use Rattle.page_model.specs.Ranges.{counts_of, IsElementIn, IsDocumentIn, IsInRange}
use Rattle.page_laws.specs.Making.{NamesMade, KeepsBoxes}
use Rattle.page_laws.proofs.Lists.{all-map}

-- lists --------------------------------------------------------------------------------------------------------------------------

same-entry : {A : Type 0} (default : A) (xs ys : List A) (n : ℕ) → n < length xs → entry_or default (xs ++ ys) n ≡ entry_or default xs n
same-entry default [] ys n less = absurd (let no : ⊥ = omega (arith, less) in no)
same-entry default (x ∷ xs) ys zero less = refl
same-entry default (x ∷ xs) ys (suc n) less = same-entry default xs ys n (omega (arith, less))

sums-same : (f g : ℕ → ℕ) (xs : List ℕ) → AllByRecursion (λ x. f x ≡ g x) xs → sum_by f xs ≡ sum_by g xs
sums-same f g [] all = refl
sums-same f g (x ∷ xs) all =
    let first : f x ≡ g x = all.0 in
    let others : sum_by f xs ≡ sum_by g xs = sums-same f g xs (all.1) in
    let one : sum_by f (x ∷ xs) ≡ f x + sum_by f xs = sum_by-cons f x xs in
    let other : sum_by g (x ∷ xs) ≡ g x + sum_by g xs = sum_by-cons g x xs in
    omega (arith, first, others, one, other)

mapped-same : {A B : Type 0} (f g : A → B) → ((x : A) → f x ≡ g x) → (found : Option A) → option_map f found ≡ option_map g found
mapped-same f g each None = refl
mapped-same f g each (Some x) = ap Some (each x)

-- two trees that agree on what there is in the first one -----------------------------------------------------------------------------

abbrev IsIdle : Document → Type 0
IsIdle it = is_active_state (it.state) ≡ false

-- what there is besides stands nowhere, and its documents aren't Active
record IsMore (tree after : Tree) : Type 0 where
  element : (n : ℕ) → n < length tree.elements → element_at after n ≡ element_at tree n
  alone : (n : ℕ) → length tree.elements ≤ n → (element_at after n).parent ≡ None
  document : (d : ℕ) → (document_at after d ≡ document_at tree d) ⊎ (IsIdle (document_at after d) × IsIdle (document_at tree d))

module _ (tree after : Tree) (made : NamesMade tree) (more : IsMore tree after) where
  abbrev IsThere : ℕ → Type 0
  IsThere n = n < length tree.elements

  same-node : (n : ℕ) → IsThere n → nodes_of after n ≡ nodes_of tree n
  same-node n is = ap node_of (more.element n is)

  -- paths

  above-in : (high : ℕ) → ((n : ℕ) → IsThere n → AllByRecursion IsThere (path_up high (nodes_of tree) n)) → (found : Option ℕ) → IfSome found IsThere →
      AllByRecursion IsThere (path_above (path_up high (nodes_of tree)) found)
  above-in high each None is = tt
  above-in high each (Some parent) is = each parent is

  path-in : (high n : ℕ) → IsThere n → AllByRecursion IsThere (path_up high (nodes_of tree) n)
  unfolding path_up
  path-in zero n is = (is, tt)
  path-in (suc high) n is = (is, above-in high (path-in high) (nodes_of tree n).parent (made.parents n))

  above-same : (high : ℕ) → ((n : ℕ) → IsThere n → path_up high (nodes_of after) n ≡ path_up high (nodes_of tree) n) → (found : Option ℕ) →
      IfSome found IsThere → path_above (path_up high (nodes_of after)) found ≡ path_above (path_up high (nodes_of tree)) found
  above-same high each None is = refl
  above-same high each (Some parent) is = each parent is

  path-same : (high n : ℕ) → IsThere n → path_up high (nodes_of after) n ≡ path_up high (nodes_of tree) n
  unfolding path_up
  path-same zero n is = refl
  path-same (suc high) n is =
      ap (λ (rest : List ℕ). n ∷ rest)
      (ap (λ (node : Node). path_above (path_up high (nodes_of after)) (node.parent)) (same-node n is)
      ∙ above-same high (path-same high) (nodes_of tree n).parent (made.parents n))

  -- what holds a box

  ancestors-same : (n : ℕ) → IsThere n → ancestors_of (nodes_of after) n ≡ ancestors_of (nodes_of tree) n
  unfolding ancestors_of path_of
  ancestors-same n is =
      ap (λ (node : Node). path_above (path_up levels (nodes_of after)) (node.parent)) (same-node n is)
      ∙ above-same levels (path-same levels) (nodes_of tree n).parent (made.parents n)

  ancestors-in : (n : ℕ) → IsThere n → AllByRecursion IsThere (ancestors_of (nodes_of tree) n)
  unfolding ancestors_of path_of
  ancestors-in n is = above-in levels (path-in levels) (nodes_of tree n).parent (made.parents n)

  found-same : (path : List ℕ) → AllByRecursion IsThere path →
      find (λ a. is_positioned (nodes_of after a)) path ≡ find (λ a. is_positioned (nodes_of tree a)) path
  found-same [] are = refl
  found-same (a ∷ path) are =
      ap (λ (node : Node). cond (is_positioned node) (Some a) (find (λ a. is_positioned (nodes_of after a)) path)) (same-node a (are.0))
      ∙ ap (cond (is_positioned (nodes_of tree a)) (Some a)) (found-same path (are.1))

  first-in : (a : ℕ) (rest : Option ℕ) (test : Bool) → IsThere a → IfSome rest IsThere → IfSome (cond test (Some a) rest) IsThere
  first-in a rest true is others = is
  first-in a rest false is others = others

  found-in : (test : ℕ → Bool) (path : List ℕ) → AllByRecursion IsThere path → IfSome (find test path) IsThere
  found-in test [] are = tt
  found-in test (a ∷ path) are = first-in a (find test path) (test a) (are.0) (found-in test path (are.1))

  by-position : (n : ℕ) → IsThere n → (position : Position) → holder_by (nodes_of after) n position ≡ holder_by (nodes_of tree) n position
  by-position n is StaticPosition = ap (λ (node : Node). held_by (node.parent)) (same-node n is)
  by-position n is RelativePosition = ap (λ (node : Node). held_by (node.parent)) (same-node n is)
  by-position n is AbsolutePosition =
      ap (λ path. held_by (find (λ a. is_positioned (nodes_of after a)) path)) (ancestors-same n is)
      ∙ ap held_by (found-same (ancestors_of (nodes_of tree) n) (ancestors-in n is))
  by-position n is FixedPosition = refl

  holder-same : (n : ℕ) → IsThere n → holder (nodes_of after) n ≡ holder (nodes_of tree) n
  unfolding holder
  holder-same n is =
      ap (λ (node : Node). holder_by (nodes_of after) n (position_of node)) (same-node n is) ∙ by-position n is (position_of (nodes_of tree n))

  held-in : (found : Option ℕ) → IfSome found IsThere → IfSome (element_of (held_by found)) IsThere
  held-in None is = tt
  held-in (Some element) is = is

  holder-in : (n : ℕ) → IsThere n → IfSome (element_of (holder (nodes_of tree) n)) IsThere
  unfolding holder
  holder-in n is = by (position_of (nodes_of tree n))
    where
      by : (position : Position) → IfSome (element_of (holder_by (nodes_of tree) n position)) IsThere
      by StaticPosition = held-in (nodes_of tree n).parent (made.parents n)
      by RelativePosition = held-in (nodes_of tree n).parent (made.parents n)
      by AbsolutePosition =
          held-in (find (λ a. is_positioned (nodes_of tree a)) (ancestors_of (nodes_of tree) n))
          (found-in (λ a. is_positioned (nodes_of tree a)) (ancestors_of (nodes_of tree) n) (ancestors-in n is))
      by FixedPosition = tt

  -- boxes

  kids-in : (kind : Kind) (children : List ℕ) → AllByRecursion IsThere children → AllByRecursion IsThere (inner_children kind children)
  kids-in BlockKind children all = all
  kids-in (ImageKind width height) children all = tt
  kids-in FrameKind children all = tt

  shown-same : (box box' : ℕ → Box) (c : ℕ) (hidden : Bool) → box' c ≡ box c → shown_height box' c hidden ≡ shown_height box c hidden
  shown-same box box' c true same = refl
  shown-same box box' c false same = ap margin_height same

  counted-same : (box box' : ℕ → Box) (c : ℕ) → IsThere c → box' c ≡ box c → counted (nodes_of after) box' c ≡ counted (nodes_of tree) box c
  unfolding counted
  counted-same box box' c is same =
      ap (λ (node : Node). shown_height box' c (is_passed node)) (same-node c is) ∙ shown-same box box' c (is_passed (nodes_of tree c)) same

  all-counted : (box box' : ℕ → Box) → ((c : ℕ) → IsThere c → box' c ≡ box c) → (kids : List ℕ) → AllByRecursion IsThere kids →
      AllByRecursion (λ c. counted (nodes_of after) box' c ≡ counted (nodes_of tree) box c) kids
  all-counted box box' same [] all = tt
  all-counted box box' same (c ∷ kids) all = (counted-same box box' c (all.0) (same c (all.0)), all-counted box box' same kids (all.1))

  box-same : (deep : ℕ) (inputs : Inputs) (n : ℕ) → IsThere n → box_down deep (nodes_of after) inputs n ≡ box_down deep (nodes_of tree) inputs n
  unfolding box_down box_at total
  box-same zero inputs n is = ap (λ (node : Node). computed (node.item) inputs 0) (same-node n is)
  box-same (suc deep) inputs n is =
      let node = nodes_of tree n in
      let below = child_inputs (node.item) inputs in
      ap (λ (it : Node). box_at (nodes_of after) (box_down deep (nodes_of after)) inputs it) (same-node n is)
      ∙ ap (λ (sum : ℕ). computed (node.item) inputs (cap sum))
      (sums-same (counted (nodes_of after) (box_down deep (nodes_of after) below)) (counted (nodes_of tree) (box_down deep (nodes_of tree) below)) (kids_of node)
      (all-counted (box_down deep (nodes_of tree) below) (box_down deep (nodes_of after) below) (λ c there. box-same deep below c there) (kids_of node)
      (kids-in (node.item.kind) (node.children) (made.children n))))

  whole-same : (inputs : Inputs) (n : ℕ) → IsThere n → box_in (nodes_of after) inputs n ≡ box_in (nodes_of tree) inputs n
  unfolding box_in
  whole-same inputs n is = box-same levels inputs n is

  -- who has a box, and its inputs

  along-same : (root : ℕ) (path : List ℕ) → AllByRecursion IsThere path →
      has_box_along (nodes_of after) root path ≡ has_box_along (nodes_of tree) root path
  unfolding has_box_along
  along-same root [] are = refl
  along-same root (n ∷ []) are = ap (λ (node : Node). not (node.item.style.hidden) && n == root) (same-node n (are.0))
  along-same root (n ∷ (parent ∷ above)) are =
      ap (λ (node : Node). not (node.item.style.hidden) && (is_block (nodes_of after parent).item.kind && has_box_along (nodes_of after) root (parent ∷ above)))
      (same-node n (are.0))
      ∙ ap (λ (node : Node). not ((nodes_of tree n).item.style.hidden) && (is_block (node.item.kind) && has_box_along (nodes_of after) root (parent ∷ above)))
      (same-node parent (are.1.0))
      ∙ ap (λ boxed. not ((nodes_of tree n).item.style.hidden) && (is_block (nodes_of tree parent).item.kind && boxed))
      (along-same root (parent ∷ above) (are.1))

  boxed-same : (root n : ℕ) → IsThere n → has_box_in (nodes_of after) root n ≡ has_box_in (nodes_of tree) root n
  unfolding has_box_in path_of
  boxed-same root n is =
      ap (has_box_along (nodes_of after) root) (path-same levels n is)
      ∙ along-same root (path_up levels (nodes_of tree) n) (path-in levels n is)

  by-element : (h : ℕ) → IsThere h → (inputs : Inputs) (flow : Bool) →
      inputs_by_element (nodes_of after) h inputs flow ≡ inputs_by_element (nodes_of tree) h inputs flow
  by-element h is inputs true = ap (λ (node : Node). child_inputs (node.item) inputs) (same-node h is)
  by-element h is inputs false = ap inputs_held (whole-same inputs h is)

  by-holder : (viewport : Inputs) (above above' : ℕ → Inputs) → ((h : ℕ) → IsThere h → above' h ≡ above h) → (flow : Bool) (by : Holder) →
      IfSome (element_of by) IsThere → inputs_by (nodes_of after) viewport above' flow by ≡ inputs_by (nodes_of tree) viewport above flow by
  by-holder viewport above above' same flow (HeldByElement h) is =
      by-element h is (above' h) flow ∙ ap (λ inputs. inputs_by_element (nodes_of tree) h inputs flow) (same h is)
  by-holder viewport above above' same flow HeldByPage is = refl
  by-holder viewport above above' same flow HeldByScreen is = refl

  up-same : (high : ℕ) (viewport : Inputs) (n : ℕ) → IsThere n → inputs_up high (nodes_of after) viewport n ≡ inputs_up high (nodes_of tree) viewport n
  unfolding inputs_up
  up-same zero viewport n is = refl
  up-same (suc high) viewport n is =
      let above = inputs_up high (nodes_of after) viewport in
      ap (λ (node : Node). inputs_by (nodes_of after) viewport above (is_in_flow node) (holder (nodes_of after) n)) (same-node n is)
      ∙ ap (inputs_by (nodes_of after) viewport above (is_in_flow (nodes_of tree n))) (holder-same n is)
      ∙ by-holder viewport (inputs_up high (nodes_of tree) viewport) above (λ h there. up-same high viewport h there) (is_in_flow (nodes_of tree n))
      (holder (nodes_of tree) n) (holder-in n is)

  inputs-same : (root : ℕ) (viewport : Inputs) (n : ℕ) → IsThere n →
      inputs_in (nodes_of after) root viewport n ≡ inputs_in (nodes_of tree) root viewport n
  unfolding inputs_in inputs_at
  inputs-same root viewport n is =
      ap (λ (boxed : Bool). cond boxed (Some (inputs_at (nodes_of after) viewport n)) None) (boxed-same root n is)
      ∙ ap (λ (inputs : Inputs). cond (has_box_in (nodes_of tree) root n) (Some inputs) None) (up-same levels viewport n is)

  viewed-same : (view : View) (n : ℕ) → IsThere n → inputs_in_view (nodes_of after) view n ≡ inputs_in_view (nodes_of tree) view n
  unfolding inputs_in_view
  viewed-same view n is = by (view.root)
    where
      by : (root : Option ℕ) → option_and_then (λ root. inputs_in (nodes_of after) root (view_inputs view) n) root
          ≡ option_and_then (λ root. inputs_in (nodes_of tree) root (view_inputs view) n) root
      by None = refl
      by (Some root) = inputs-same root (view_inputs view) n is

  -- views

  module _ (screen : Screen) where
    framed-same : (views views' : ℕ → View) → ((d : ℕ) → views' d ≡ views d) → (frame : Option ℕ) → IfSome frame IsThere →
        framed_size after screen views' frame ≡ framed_size tree screen views frame
    framed-same views views' same None is = refl
    framed-same views views' same (Some frame) is =
        mapped-same _ _ (λ inputs. ap content_size (whole-same inputs frame is)) _
        ∙ ap (λ (found : Option Inputs). option_map (λ inputs. content_size (box_in (nodes_of tree) inputs frame)) found)
        (ap (λ (element : Element). inputs_in_view (nodes_of after) (views' (element.document)) frame) (more.element frame is)
        ∙ ap (λ (view : View). inputs_in_view (nodes_of after) view frame) (same (element_at tree frame).document)
        ∙ viewed-same (views (element_at tree frame).document) frame is)

    idle-view : (tree : Tree) (views : ℕ → View) (d : ℕ) (state : DocumentState) → is_active_state state ≡ false →
        view_if_active tree screen views d state ≡ no_view
    idle-view tree views d Active idle = absurd (true≢false idle)
    idle-view tree views d Fresh idle = refl
    idle-view tree views d Dead idle = refl

    state-same : (views views' : ℕ → View) → ((d : ℕ) → views' d ≡ views d) → (d : ℕ) (state : DocumentState) →
        document_at after d ≡ document_at tree d → view_if_active after screen views' d state ≡ view_if_active tree screen views d state
    state-same views views' same d Active one =
        ap (λ (it : Document). view_with (it.root) (framed_size after screen views' (it.frame))) one
        ∙ ap (view_with (document_at tree d).root) (framed-same views views' same (document_at tree d).frame (made.frames d))
    state-same views views' same d Fresh one = refl
    state-same views views' same d Dead one = refl

    by-document : (views views' : ℕ → View) → ((d : ℕ) → views' d ≡ views d) → (d : ℕ) →
        (document_at after d ≡ document_at tree d) ⊎ (IsIdle (document_at after d) × IsIdle (document_at tree d)) →
        view_if_active after screen views' d (document_at after d).state ≡ view_if_active tree screen views d (document_at tree d).state
    by-document views views' same d (inl one) =
        ap (λ (it : Document). view_if_active after screen views' d (it.state)) one ∙ state-same views views' same d (document_at tree d).state one
    by-document views views' same d (inr idle) = idle-view after views' d _ (idle.0) ∙ sym (idle-view tree views d _ (idle.1))

    view-same : (high d : ℕ) → view_up high after screen d ≡ view_up high tree screen d
    unfolding view_up
    view-same zero d = refl
    view-same (suc high) d = by-document (view_up high tree screen) (view_up high after screen) (view-same high) d (more.document d)

    view-of : (d : ℕ) → view_of after screen d ≡ view_of tree screen d
    unfolding view_of
    view-of d = view-same frame_levels d

    there-inputs : (n : ℕ) → IsThere n → inputs_of after screen n ≡ inputs_of tree screen n
    unfolding inputs_of
    there-inputs n is =
        ap (λ (element : Element). inputs_in_view (nodes_of after) (view_of after screen (element.document)) n) (more.element n is)
        ∙ ap (λ (view : View). inputs_in_view (nodes_of after) view n) (view-of (element_at tree n).document)
        ∙ viewed-same (view_at tree screen n) n is

    -- what stands nowhere has no box

    sized-root : (root : Option ℕ) (size : Option (ℕ × ℕ)) → IfSome root IsThere → IfSome (view_with root size).root IsThere
    sized-root root None is = tt
    sized-root root (Some size) is = is

    state-root : (views : ℕ → View) (d : ℕ) (state : DocumentState) → IfSome (view_if_active tree screen views d state).root IsThere
    state-root views d Active = sized-root (document_at tree d).root (framed_size tree screen views (document_at tree d).frame) (made.roots d)
    state-root views d Fresh = tt
    state-root views d Dead = tt

    root-up : (high d : ℕ) → IfSome (view_up high tree screen d).root IsThere
    unfolding view_up
    root-up zero d = tt
    root-up (suc high) d = state-root (view_up high tree screen) d (document_at tree d).state

    root-in : (d : ℕ) → IfSome (view_of tree screen d).root IsThere
    unfolding view_of
    root-in d = root-up frame_levels d

    alone-path : (high n : ℕ) → (nodes_of after n).parent ≡ None → path_up high (nodes_of after) n ≡ n ∷ []
    unfolding path_up
    alone-path zero n none = refl
    alone-path (suc high) n none = ap (λ (parent : Option ℕ). n ∷ path_above (path_up high (nodes_of after)) parent) none

    not-both : (b c : Bool) → c ≡ false → (b && c) ≡ false
    not-both true c none = none
    not-both false c none = refl

    alone-boxed : (root n : ℕ) → IsThere root → length tree.elements ≤ n → has_box_in (nodes_of after) root n ≡ false
    unfolding has_box_in path_of has_box_along
    alone-boxed root n is past =
        ap (has_box_along (nodes_of after) root) (alone-path levels n (more.alone n past))
        ∙ not-both _ (n == root) (grind (arith, is, past))

    alone-viewed : (view : View) (n : ℕ) → IfSome (view.root) IsThere → length tree.elements ≤ n → inputs_in_view (nodes_of after) view n ≡ None
    unfolding inputs_in_view inputs_in
    alone-viewed view n is past = by (view.root) is
      where
        by : (root : Option ℕ) → IfSome root IsThere → option_and_then (λ root. inputs_in (nodes_of after) root (view_inputs view) n) root ≡ None
        by None there = refl
        by (Some root) there = ap (λ (boxed : Bool). cond boxed (Some (inputs_at (nodes_of after) (view_inputs view) n)) None) (alone-boxed root n there past)

    alone-inputs : (n : ℕ) → length tree.elements ≤ n → inputs_of after screen n ≡ None
    unfolding inputs_of
    alone-inputs n past =
        ap (λ (view : View). inputs_in_view (nodes_of after) view n) (view-of (element_at after n).document)
        ∙ alone-viewed (view_of tree screen (element_at after n).document) n (root-in (element_at after n).document) past

-- what is made ------------------------------------------------------------------------------------------------------------------------

no-parent : (xs : List Element) (n : ℕ) → length xs ≤ n → (entry_or no_element xs n).parent ≡ None
no-parent [] n past = refl
no-parent (x ∷ xs) zero past = absurd (let no : ⊥ = omega (arith, past) in no)
no-parent (x ∷ xs) (suc n) past = no-parent xs n (omega (arith, past))

new-alone : (xs : List Element) (y : Element) → y.parent ≡ None → (n : ℕ) → length xs ≤ n → (entry_or no_element (xs ++ y ∷ []) n).parent ≡ None
new-alone [] y none zero past = none
new-alone [] y none (suc n) past = refl
new-alone (x ∷ xs) y none zero past = absurd (let no : ⊥ = omega (arith, past) in no)
new-alone (x ∷ xs) y none (suc n) past = new-alone xs y none n (omega (arith, past))

new-idle : (xs : List Document) (frame d : ℕ) →
    (entry_or no_document (xs ++ new_document frame ∷ []) d ≡ entry_or no_document xs d)
    ⊎ (IsIdle (entry_or no_document (xs ++ new_document frame ∷ []) d) × IsIdle (entry_or no_document xs d))
new-idle [] frame zero = inr (refl, refl)
new-idle [] frame (suc d) = inl refl
new-idle (x ∷ xs) frame zero = inl refl
new-idle (x ∷ xs) frame (suc d) = new-idle xs frame d

same-more : (tree : Tree) → IsMore tree tree
same-more tree = record { element = λ n is. refl; alone = no-parent (tree.elements); document = λ d. inl refl }

element-more : (kind : Kind) (document : ℕ) (framed : Option ℕ) (tree : Tree) → IsMore tree (with_element kind document framed tree)
element-more kind document framed tree = record {
  element = λ n is. same-entry no_element (tree.elements) _ n is;
  alone = new-alone (tree.elements) _ refl;
  document = λ d. inl refl;
}

frame-more : (document : ℕ) (tree : Tree) → IsMore tree (with_frame document tree)
frame-more document tree = record {
  element = λ n is. same-entry no_element (tree.elements) _ n is;
  alone = new-alone (tree.elements) _ refl;
  document = new-idle (tree.documents) (length tree.elements);
}

pub unmade-unboxed : (tree : Tree) → NamesMade tree → (screen : Screen) (n : ℕ) → length tree.elements ≤ n → inputs_of tree screen n ≡ None
unmade-unboxed tree made screen n past = alone-inputs tree tree made (same-more tree) screen n past

by-number : (tree after : Tree) → NamesMade tree → IsMore tree after → (screen : Screen) (n : ℕ) (there : Bool) → nat_lt n (length tree.elements) ≡ there →
    inputs_of after screen n ≡ inputs_of tree screen n
by-number tree after made more screen n true is = there-inputs tree after made more screen n (grind (arith, tests, is))
by-number tree after made more screen n false past =
    alone-inputs tree after made more screen n (grind (arith, tests, past)) ∙ sym (unmade-unboxed tree made screen n (grind (arith, tests, past)))

boxes-same : (tree after : Tree) (made : NamesMade tree) (more : IsMore tree after) (screen : Screen) (n : ℕ) (there : Bool) →
    nat_lt n (length tree.elements) ≡ there → box_of after screen n ≡ box_of tree screen n
unfolding box_of
boxes-same tree after made more screen n true is =
    mapped-same _ _ (λ inputs. whole-same tree after made more inputs n (grind (arith, tests, is))) _
    ∙ ap (option_map (λ inputs. box_in (nodes_of tree) inputs n)) (by-number tree after made more screen n true is)
boxes-same tree after made more screen n false past =
    ap (option_map (λ inputs. box_in (nodes_of after) inputs n)) (alone-inputs tree after made more screen n (grind (arith, tests, past)))
    ∙ sym (ap (option_map (λ inputs. box_in (nodes_of tree) inputs n)) (unmade-unboxed tree made screen n (grind (arith, tests, past))))

more-boxes : (tree after : Tree) → NamesMade tree → IsMore tree after → KeepsBoxes tree after
more-boxes tree after made more = record {
  inputs = λ screen n. by-number tree after made more screen n (nat_lt n (length tree.elements)) refl;
  boxes = λ screen n. boxes-same tree after made more screen n (nat_lt n (length tree.elements)) refl;
}

pub element-boxes : (tree : Tree) → NamesMade tree → (kind : Kind) (document : ℕ) (framed : Option ℕ) → KeepsBoxes tree (with_element kind document framed tree)
element-boxes tree made kind document framed = more-boxes tree _ made (element-more kind document framed tree)

pub frame-boxes : (tree : Tree) → NamesMade tree → (document : ℕ) → KeepsBoxes tree (with_frame document tree)
frame-boxes tree made document = more-boxes tree _ made (frame-more document tree)

-- in a world in range all that is named was made --------------------------------------------------------------------------------------

entry-in : {A : Type 0} (P : A → Type 0) (default : A) → P default → (xs : List A) → AllByRecursion P xs → (n : ℕ) → P (entry_or default xs n)
entry-in P default plain [] all n = plain
entry-in P default plain (x ∷ xs) all zero = all.0
entry-in P default plain (x ∷ xs) all (suc n) = entry-in P default plain xs (all.1) n

abbrev IsElementMade : ℕ → Element → Type 0
IsElementMade count it = IfSome (it.parent) (λ parent. parent < count) × AllByRecursion (λ child. child < count) (it.children)

abbrev IsDocumentMade : ℕ → Document → Type 0
IsDocumentMade count it = IfSome (it.frame) (λ frame. frame < count) × IfSome (it.root) (λ root. root < count)

pub in-range-made : (handlers : ℕ) (world : World) → IsInRange handlers world → NamesMade (world.tree)
in-range-made handlers world within =
    let count = length world.tree.elements in
    let elements : (n : ℕ) → IsElementMade count (element_at (world.tree) n) =
    entry-in (IsElementMade count) no_element (tt, tt) (world.tree.elements)
    (all-map (IsElementIn (counts_of handlers world)) (IsElementMade count) (λ it is. (is.parent, is.children)) (world.tree.elements) (within.tree.elements)) in
    let documents : (d : ℕ) → IsDocumentMade count (document_at (world.tree) d) =
    entry-in (IsDocumentMade count) no_document (tt, tt) (world.tree.documents)
    (all-map (IsDocumentIn (counts_of handlers world)) (IsDocumentMade count) (λ it is. (is.frame, is.root)) (world.tree.documents) (within.tree.documents)) in
    record {
      parents = λ n. (elements n).0;
      children = λ n. (elements n).1;
      frames = λ d. (documents d).0;
      roots = λ d. (documents d).1;
    }
