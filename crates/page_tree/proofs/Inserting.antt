-- What placing an element comes to: the elements and documents that are left, in the words of the definitions.
use Rattle.std.proofs.Common.{◌≡◌, ℕ, map, Option, Some, None, Bool, false, is_some, ap, sym, ◌∙◌}
use Rattle.page_model.specs.World.{Document, Tree, InElement, InDocument}
use Rattle.page_model.specs.Lookups.{element_at, document_at}
use Rattle.page_model.specs.Documents.{removed, adopted, shown}
use Rattle.page_model.specs.Steps.{Did}
use Rattle.page_model.specs.Commands.{placing, is_no_child}
use Rattle.element_tree.specs.Forest.{Forest, IsForest}
use Rattle.element_tree.specs.Edits.{with_nodes, removed as taken_away, inserted as put_in}
use Rattle.page_documents.specs.Seen.{element_of, seen_tree}
use Rattle.page_documents.specs.Held.{HeldDocuments, changing}
use Rattle.page_tree.specs.Items.{Described, carried_in}
use Rattle.page_tree.specs.Answers.{put_fault, mark_for}
use Rattle.page_tree.proofs.Places.{tree_of, removed_page, linked_page, rooted_page, inserted_in, inserted_top}
use Rattle.page_tree.proofs.Placing.{in_done, meant_in, top_done}

module _ (forest : Forest Described) (documents : HeldDocuments) (trees : IsForest forest.most_depth forest.nodes) (n : ℕ) where
  abbrev first : Tree
  first = seen_tree carried_in forest documents.held

  module _ (left : HeldDocuments) (leaves : left ≡ record documents { held = (removed (seen_tree carried_in forest documents.held) n).documents }) where
    module _ (taken : Forest Described) (takes : taken ≡ with_nodes (taken_away n) forest) where
      pub removed_done : seen_tree carried_in taken left.held ≡ removed (seen_tree carried_in forest documents.held) n
      removed_done =
          ap (λ (it : Forest Described). seen_tree carried_in it left.held) takes
          ∙ ap (λ (it : HeldDocuments). tree_of (map (element_of carried_in) (taken_away n forest.nodes)) it.held) leaves
          ∙ sym (removed_page forest trees documents.held n)

      pub top_put : forest.most_depth ≡ 256 → (document : ℕ) (rooted : HeldDocuments) → rooted ≡ changing (λ (it : Document). record it { root = Some n }) document left
          → (sibling : Option ℕ) (missing : Bool) → missing ≡ is_no_child (seen_tree carried_in forest documents.held) (InDocument document) sibling → missing ≡ false
          → (root : Option ℕ) → root ≡ (document_at (seen_tree carried_in forest documents.held) document).root → is_some root ≡ false
          → (after : Tree) → after ≡ shown (adopted (seen_tree carried_in taken rooted.held) document n) n
          → placing (InDocument document) n sibling (seen_tree carried_in forest documents.held) ≡ Did after
      top_put most document rooted roots sibling missing says found root is free after becomes =
          top_done forest documents.held most trees document n sibling missing says found root is free
          ∙ ap Did (sym (inserted_top first (seen_tree carried_in taken rooted.held) after document n sibling
          (ap (λ (it : Forest Described). seen_tree carried_in it rooted.held) takes
          ∙ ap (λ (it : HeldDocuments). tree_of (map (element_of carried_in) (taken_away n forest.nodes)) it.held)
          (roots ∙ ap (changing (λ (it : Document). record it { root = Some n }) document) leaves)
          ∙ rooted_page forest trees documents.held document n sibling)
          becomes))

    pub put_done : forest.most_depth ≡ 256 → (p : ℕ) (sibling : Option ℕ) → put_fault forest p n sibling ≡ None
        → (put : Forest Described) → put ≡ with_nodes (put_in p n (mark_for n sibling forest.nodes)) forest
        → (document : ℕ) → (element_at (seen_tree carried_in forest documents.held) p).document ≡ document
        → (after : Tree) → after ≡ shown (adopted (seen_tree carried_in put left.held) document n) n
        → placing (InElement p) n sibling (seen_tree carried_in forest documents.held) ≡ Did after
    put_done most p sibling fits put puts document owner after becomes =
        in_done forest documents.held most trees p n sibling fits
        ∙ ap Did (sym (inserted_in first (seen_tree carried_in put left.held) after p n document sibling (mark_for n sibling forest.nodes)
        (meant_in forest documents.held most trees p n sibling fits)
        (ap (λ (it : Forest Described). seen_tree carried_in it left.held) puts
        ∙ ap (λ (it : HeldDocuments). tree_of (map (element_of carried_in) (put_in p n (mark_for n sibling forest.nodes) forest.nodes)) it.held) leaves
        ∙ linked_page forest trees documents.held p n (mark_for n sibling forest.nodes))
        owner becomes))
