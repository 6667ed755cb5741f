-- Chains of containers end: each step outwards goes some levels up, or from a document to the frame around it.
use Rattle.std.proofs.Common.{◌≡◌, ◌≤◌, ◌+◌, ◌*◌, ℕ, zero, suc, true, false, cond, List, ◌∷◌, Option, Some, None, option_map, refl, ap, sym, subst, ◌∙◌, eqb-true, arith}
use Rattle.std.specs.Prelude.{◌==◌, ◌&&◌, not, is_some, option_and_then}
use Rattle.std.proofs.lemmas.Bool.{false≢true, and_parts}
use Rattle.layout_model.specs.Clips.{is_block}
use Rattle.layout_model.specs.Nodes.{Node, Holder, HeldByElement, HeldByPage, HeldByScreen, holder}
use Rattle.layout_model.specs.Boxes.{has_box_in, inputs_in}
use Rattle.layout_model.specs.Views.{View, view_inputs, inputs_in_view}
use Rattle.layout_model.proofs.Ancestors.{down_path}
use Rattle.layout_model.proofs.Holders.{holder_above, holder_less}
use Rattle.layout_model.proofs.Inputs.{box_child, box_top, is_some_inputs}
use Rattle.layout_model.proofs.Paths.{depth_least}
use Rattle.page_model.specs.World.{Screen, Tree, Container, InElement, InDocument}
use Rattle.page_model.specs.Lookups.{element_at, document_at}
use Rattle.page_model.specs.Documents.{nodes_of, root_of, is_number, is_root_element, tree_document, is_active, stands_in_active, element_depth}
use Rattle.page_model.specs.PageBoxes.{framed_size, view_with, view_up, view_of, has_box}
use Rattle.page_model.specs.Chains.{container_held, holding, container_beyond, containers_by, containers_from, containers_of}
use Rattle.page_documents.proofs.Lists.{not_some, its_number}
use Rattle.page_documents.proofs.Shape.{depth, IsBelow, root_child, root_top, from_parents, itself_below, child_below}
use Rattle.page_documents.proofs.Standing.{Standing, standing, stands, own_document, document_below}
use Rattle.page_documents.proofs.Ways.{Reaches, no_way}
use Rattle.page_documents.proofs.Framed.{framed_held, frame_stands}
use Rattle.document_laws.specs.Levels.{IsWithinLevels}
use Rattle.document_laws.proofs.Showing.{leads_up, holder_leads, lively, view_whole, boxed_in, boxed_active}

-- what has a box stands in the tree of an Active document -----------------------------------------------------------------------------------

root_shown : (root : Option ℕ) (found : Option (ℕ × ℕ)) (r : ℕ) → (view_with root found).root ≡ Some r → root ≡ Some r
root_shown root None r is = absurd (not_some r is)
root_shown root (Some pair) r is = is

-- the root element of a view in which a node has a box
record Viewed (at : ℕ → Node) (view : View) (n : ℕ) : Type 0 where
  root : ℕ
  is : view.root ≡ Some root
  boxed : has_box_in at root n ≡ true

viewed : (at : ℕ → Node) (view : View) (n : ℕ) → is_some (inputs_in_view at view n) ≡ true → Viewed at view n
unfolding inputs_in_view
viewed at view n some = by_root (view.root) refl some
  where
    by_root : (found : Option ℕ) → view.root ≡ found → is_some (option_and_then (λ root. inputs_in at root (view_inputs view) n) found) ≡ true → Viewed at view n
    by_root None is some = absurd (false≢true some)
    by_root (Some root) is some = record { root = root; is = is; boxed = sym (is_some_inputs at root (view_inputs view) n) ∙ some }

module _ (tree : Tree) (levels : IsWithinLevels tree) where
  abbrev at : ℕ → Node
  at = nodes_of tree

  -- who has a box stands below the root element
  in_tree : (root n : ℕ) → has_box_in at root n ≡ true → root_of tree n ≡ root
  in_tree root n =
      from_parents tree levels.framed.trees (λ k. has_box_in at root k ≡ true → root_of tree k ≡ root)
      (λ k up boxed.
      root_top tree levels.framed.trees k up
      ∙ eqb-true k root ((and_parts (not ((at k).item.style.hidden)) (k == root) (sym (box_top at root k up) ∙ boxed)).1))
      (λ k p up above boxed.
      let inner = and_parts (not ((at k).item.style.hidden)) (is_block ((at p).item.kind) && has_box_in at root p)
      (sym (box_child at root k p up (levels.framed.trees.shallow p)) ∙ boxed) in
      root_child tree levels.framed.trees k p up ∙ above ((and_parts (is_block ((at p).item.kind)) (has_box_in at root p) inner.1).1))
      n

  module _ (screen : Screen) (n : ℕ) (boxed : has_box tree screen n ≡ true) where
    abbrev own : ℕ
    own = (element_at tree n).document

    active : is_active tree own ≡ true
    active = boxed_active tree screen n boxed

    in_view : Viewed at (view_of tree screen own) n
    in_view = viewed at (view_of tree screen own) n (sym (boxed_in tree screen n) ∙ boxed)

    rooted : (document_at tree own).root ≡ Some (in_view.root)
    rooted =
        root_shown ((document_at tree own).root) (framed_size tree screen (view_up 65535 tree screen) (document_at tree own).frame) (in_view.root)
        (sym (ap (λ (view : View). view.root) (view_whole tree screen own ∙ lively tree screen 65535 own active)) ∙ in_view.is)

    below_root : tree_document tree n ≡ Some own
    unfolding tree_document
    below_root =
        ap (λ r. cond (is_root_element tree r) (Some own) None) (in_tree (in_view.root) n (in_view.boxed))
        ∙ ap (λ b. cond b (Some own) None)
        (ap (λ d. is_number (document_at tree d).root (in_view.root)) (levels.framed.owners.roots own (in_view.root) rooted).owner
        ∙ its_number ((document_at tree own).root) (in_view.root) rooted)

    pub boxed_stands : stands_in_active tree n ≡ true
    boxed_stands = stands tree n own below_root active

-- chains ------------------------------------------------------------------------------------------------------------------------------------

by_same : (outwards other : Container → List Container) (found : Option Container) → ((next : Container) → found ≡ Some next → outwards next ≡ other next) →
    containers_by outwards found ≡ containers_by other found
by_same outwards other None same = refl
by_same outwards other (Some next) same = same next refl

module _ (tree : Tree) (levels : IsWithinLevels tree) where
  -- no more than so many containers lie outwards from an element, itself counted, and from a document
  record ElementWithin (left n : ℕ) : Type 0 where
    there : Standing tree n
    high : ℕ
    reach : Reaches tree high (there.document)
    room : 257 * high + depth tree n ≤ left + 256

  record DocumentWithin (left document : ℕ) : Type 0 where
    active : is_active tree document ≡ true
    high : ℕ
    reach : Reaches tree high document
    room : 257 * high ≤ left + 256

  abbrev IsWithin : ℕ → Container → Type 0
  IsWithin left (InElement n) = ElementWithin left n
  IsWithin left (InDocument document) = DocumentWithin left document

  low_at : (n : ℕ) → depth tree n ≤ 256
  unfolding element_depth
  low_at n = levels.low n

  least_at : (n : ℕ) → 1 ≤ depth tree n
  least_at n = depth_least (nodes_of tree) n

  none_on : (high n document : ℕ) → Reaches tree high document → 257 * high + depth tree n ≤ zero + 256 → ⊥
  none_on zero n document reach room = no_way tree document reach
  none_on (suc high) n document reach room = omega (arith, room)

  none_within : (high document : ℕ) → Reaches tree high document → 257 * high ≤ zero + 256 → ⊥
  none_within zero document reach room = no_way tree document reach
  none_within (suc high) document reach room = omega (arith, room)

  ended : (container : Container) → IsWithin zero container → ⊥
  ended (InElement n) it = none_on (it.high) n (it.there.document) (it.reach) (it.room)
  ended (InDocument document) it = none_within (it.high) document (it.reach) (it.room)

  -- an element that holds a box stands above it, in the same tree
  holder_over : (n h : ℕ) → holder (nodes_of tree) n ≡ HeldByElement h → IsBelow tree h n
  holder_over n h is =
      down_path (nodes_of tree) levels.framed.trees.shallow (IsBelow tree h) (λ c p up below. child_below tree levels.framed.trees h c p up below) h n
      (holder_above (nodes_of tree) levels.framed.trees.shallow n h is) (itself_below tree levels.framed.trees h)

  into_holder : (less n h : ℕ) → ElementWithin (suc less) n → holder (nodes_of tree) n ≡ HeldByElement h → ElementWithin less h
  into_holder less n h it is = record {
    there = record {
      document = it.there.document;
      there = sym (document_below tree levels.framed.trees levels.framed.owners h n (holder_over n h is)) ∙ it.there.there;
      active = it.there.active;
    };
    high = it.high;
    reach = it.reach;
    room = omega (arith, holder_less (nodes_of tree) levels.framed.trees.shallow n h is, it.room);
  }

  into_document : (less n : ℕ) (it : ElementWithin (suc less) n) → DocumentWithin less it.there.document
  into_document less n it =
      record { active = it.there.active; high = it.high; reach = it.reach; room = omega (arith, least_at n, it.room) }

  same_container : (a b : Container) → Some a ≡ Some b → a ≡ b
  same_container a b is = cc

  to_viewport : (less n : ℕ) (next : Container) → ElementWithin (suc less) n → option_map InDocument (tree_document tree n) ≡ Some next → IsWithin less next
  to_viewport less n next it is =
      subst (IsWithin less) (same_container (InDocument (it.there.document)) next (sym (ap (option_map InDocument) (it.there.there)) ∙ is))
      (into_document less n it)

  from_element : (less n : ℕ) (next : Container) → ElementWithin (suc less) n → (by : Holder) → holder (nodes_of tree) n ≡ by →
      container_held by (tree_document tree n) ≡ Some next → IsWithin less next
  from_element less n next it (HeldByElement h) held is =
      subst (IsWithin less) (same_container (InElement h) next is) (into_holder less n h it held)
  from_element less n next it HeldByPage held is = to_viewport less n next it is
  from_element less n next it HeldByScreen held is = to_viewport less n next it is

  into_frame : (less document frame high : ℕ) → is_active tree document ≡ true → Reaches tree high document → 257 * high ≤ suc less + 256 →
      (document_at tree document).frame ≡ Some frame → ElementWithin less frame
  into_frame less document frame zero lively_one reach room is = absurd (no_way tree document reach)
  into_frame less document frame (suc high) lively_one reach room is =
      let it = frame_stands tree levels.framed document frame lively_one is in
      let own = own_document tree frame (it.document) (it.there) in
      let held = framed_held tree levels.framed.owners document frame is in
      record {
        there = it;
        high = high;
        reach = subst (λ d. Reaches tree high d) own (holder_leads tree levels high document ((element_at tree frame).document) held reach);
        room = omega (arith, low_at frame, room);
      }

  from_document : (less document : ℕ) (next : Container) → DocumentWithin (suc less) document → (frame : Option ℕ) →
      (document_at tree document).frame ≡ frame → option_map InElement frame ≡ Some next → IsWithin less next
  from_document less document next it None up is = cc
  from_document less document next it (Some frame) up is =
      subst (IsWithin less) (same_container (InElement frame) next is) (into_frame less document frame (it.high) (it.active) (it.reach) (it.room) up)

  beyond : (less : ℕ) (container next : Container) → IsWithin (suc less) container → container_beyond tree container ≡ Some next → IsWithin less next
  beyond less (InElement n) next it is = from_element less n next it (holder (nodes_of tree) n) refl is
  beyond less (InDocument document) next it is = from_document less document next it ((document_at tree document).frame) refl is

  same_containers : (left few more : ℕ) (container : Container) → IsWithin left container → left ≤ few → left ≤ more →
      containers_from few tree container ≡ containers_from more tree container
  unfolding containers_from
  same_containers zero few more container it enough enough' = absurd (ended container it)
  same_containers (suc less) zero more container it enough enough' = absurd (omega (arith, enough))
  same_containers (suc less) (suc few) zero container it enough enough' = absurd (omega (arith, enough'))
  same_containers (suc less) (suc few) (suc more) container it enough enough' =
      ap (λ others. container ∷ others) (by_same (containers_from few tree) (containers_from more tree) (container_beyond tree container)
      (λ next is. same_containers less few more next (beyond less container next it is) (omega (arith, enough)) (omega (arith, enough'))))

  pub containers_whole : (most n : ℕ) → stands_in_active tree n ≡ true → 16448 ≤ most →
      containers_by (containers_from most tree) (holding tree n) ≡ containers_of tree n
  containers_whole most n is enough =
      let it = standing tree n is in
      let first : ElementWithin 16448 n = record {
        there = it;
        high = 64;
        reach = leads_up tree levels 64 (it.document) (omega arith) (it.active);
        room = omega (arith, low_at n);
      } in
      by_same (containers_from most tree) (containers_from 65536 tree) (holding tree n)
      (λ next found. same_containers 16447 most 65536 next (beyond 16447 (InElement n) next first found) (omega (arith, enough)) (omega arith))
