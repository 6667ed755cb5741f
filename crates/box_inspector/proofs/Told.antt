-- The boxes of a page, one by one.
use Rattle.std.proofs.Common.{◌≡◌, ◌∙◌, ℕ, ◌+◌, ◌<◌, ◌≤◌, List, [], ◌∷◌, ◌++◌, Option, true, flat_map, get_or, length, map, take, refl, ap, sym, subst}
use Rattle.std.proofs.lemmas.List.{append_assoc, map_more, take_all}
use Rattle.element_tree.specs.declared.document.DocumentId.{DocumentId}
use Rattle.element_tree.specs.declared.node.NodeId.{NodeId}
use Rattle.element_tree.specs.Documents.{document_numbers}
use Rattle.element_tree.specs.Links.{number}
use Rattle.px_units.specs.declared.Rect.{Rect}
use Rattle.px_units.specs.declared.BoxKind.TheVariants.{Border}
use Rattle.page_model.specs.World.{World}
use Rattle.page_model.specs.Names.{element_text}
use Rattle.page_model.specs.Documents.{active_documents, element_depth}
use Rattle.page_model.specs.Readings.{rect_of}
use Rattle.page_model.specs.Shown.{Shown, shown_of, has_box, place_of, size_of}
use Rattle.page_boxes.proofs.Pages.{made_if_boxed}
use Rattle.box_inspector.specs.declared.lines.BoxLine.{BoxLine}
use Rattle.box_inspector.specs.Boxes.{box_line, box_list, boxed_elements, seen_part}

module _ (world : World) (shown : Shown) (is : shown ≡ shown_of world) (n : ℕ) where
  pub there : has_box shown n ≡ true → n < length world.tree.elements
  there boxed = subst (λ (it : Shown). n < length it.tree.elements) is (made_if_boxed shown.tree shown.screen n boxed)

  pub line_is : (name : List ℕ) (depth : ℕ) (place : Rect) (seen : Option Rect) → name ≡ element_text world.names n → depth ≡ element_depth shown.tree n
      → place ≡ rect_of (place_of shown n) (size_of shown n Border) → seen ≡ seen_part shown n
      → (record { name = name; depth = depth; place = place; seen = seen }) ≡ box_line world n
  unfolding box_line
  line_is name depth place seen named deep placed part =
      let deep_there = deep ∙ ap (λ (it : Shown). element_depth it.tree n) is in
      let placed_there = placed ∙ ap (λ (it : Shown). rect_of (place_of it n) (size_of it n Border)) is in
      let part_there = part ∙ ap (λ (it : Shown). seen_part it n) is in
      λ i. record { name = named i; depth = deep_there i; place = placed_there i; seen = part_there i }

-- lists of boxes, one more at a time

pub one_more : (f : NodeId → BoxLine) (nodes : List NodeId) (i : ℕ) (d : NodeId) (old now new : List BoxLine) (line : BoxLine) → i < length nodes
    → line ≡ f (get_or nodes i d) → now ≡ old ++ map f (take i nodes) → new ≡ now ++ line ∷ [] → new ≡ old ++ map f (take (i + 1) nodes)
one_more f nodes i d old now new line inside is so_far more =
    more
    ∙ ap (λ xs. xs ++ line ∷ []) so_far
    ∙ append_assoc old (map f (take i nodes)) (line ∷ [])
    ∙ ap (λ each. old ++ (map f (take i nodes) ++ each ∷ [])) is
    ∙ ap (λ xs. old ++ xs) (sym (map_more f nodes i d inside))

pub by_number : (g : ℕ → BoxLine) (nodes : List NodeId) → map (λ (node : NodeId). g (node.0)) nodes ≡ map g (map number nodes)
by_number g [] = refl
by_number g (node ∷ nodes) = ap (λ lines. g (node.0) ∷ lines) (by_number g nodes)

by_document : (g : ℕ → List BoxLine) (documents : List DocumentId) → flat_map (λ (document : DocumentId). g document.0) documents ≡ flat_map g (document_numbers documents)
by_document g [] = refl
by_document g (document ∷ documents) = ap (λ lines. g document.0 ++ lines) (by_document g documents)

pub whole_list : (world : World) (items documents : List DocumentId) (i : ℕ) (now : List BoxLine) → length items ≤ i → items ≡ documents
    → document_numbers documents ≡ active_documents (world.tree)
    → now ≡ flat_map (λ (document : DocumentId). map (box_line world) (boxed_elements (shown_of world) document.0)) (take i items) → now ≡ box_list world
unfolding box_list
whole_list world items documents i now past same active so_far =
    so_far ∙ ap (flat_map (λ (document : DocumentId). map (box_line world) (boxed_elements (shown_of world) document.0))) (take_all i items past ∙ same)
    ∙ by_document (λ document. map (box_line world) (boxed_elements (shown_of world) document)) documents
    ∙ ap (flat_map (λ document. map (box_line world) (boxed_elements (shown_of world) document))) active
