-- Styles and kinds of single elements, as the tree carries them and as the page has them.
use Rattle.std.proofs.Common.{◌≡◌, ℕ, List, map, length, Option, Some, None, option_map, slice_get, refl, ap, sym, subst, ◌∙◌}
use Rattle.text_io.specs.declared.kinds.Version.{Version}
use Rattle.layout_model.specs.Items.{Item}
use Rattle.page_model.specs.World.{Element, Tree}
use Rattle.page_model.specs.Edits.{change_item}
use Rattle.element_tree.specs.Forest.{Knot, Forest}
use Rattle.element_tree.specs.Edits.{with_payload, with_nodes, change_at as changed_at}
use Rattle.element_tree.proofs.Nodes.{length-changed}
use Rattle.page_documents.specs.Seen.{element_of, seen_tree}
use Rattle.page_documents.specs.Held.{HeldDocuments}
use Rattle.page_documents.specs.Frames.{AreFramed}
use Rattle.page_documents.proofs.Making.{item_framed}
use Rattle.page_tree.specs.Items.{Described, carried_in, with_item}
use Rattle.page_tree.specs.Views.{PageElements, name_in, seen_page, IsPage}
use Rattle.page_tree.proofs.Changes.{change_shown, change_unseen}
use Rattle.page_tree.proofs.Outcomes.{IsKept, IsPage-kept, kept_rest, kept_count}

-- what the tree carries at a number
abbrev pub carried : List (Knot Described) → ℕ → Option Described
carried nodes n = option_map (λ knot. knot.payload) (slice_get nodes n)

carried_is : (it : Option (Knot Described)) (knot : Knot Described) (had : Described) → it ≡ Some knot → option_map (λ (k : Knot Described). k.payload) it ≡ Some had → knot.payload ≡ had
carried_is None knot had e f = cc
carried_is (Some k) knot had e f = cc

module _ {version : Version} (old : PageElements) (forest : Forest Described) (documents : HeldDocuments) (seen : seen_page version forest documents ≡ old) (is : IsPage version forest documents)
    (n : ℕ) (had now : Described) (there : carried forest.nodes n ≡ Some had) (change : Item → Item) (made : now ≡ with_item change had) where
  abbrev later : Forest Described
  later = with_nodes (changed_at (with_payload now) n) forest

  payload_is : (knot : Knot Described) → slice_get forest.nodes n ≡ Some knot → now ≡ with_item change (knot.payload)
  payload_is knot at = made ∙ ap (with_item change) (sym (carried_is (slice_get forest.nodes n) knot had at there))

  kept : IsKept forest later
  kept = record {
    most_nodes = refl;
    most_depth = refl;
    ready = refl;
    names = change_unseen name_in (with_payload now) n forest.nodes (λ knot at. ap (λ (payload : Described). payload.name) (payload_is knot at));
    count = length-changed (with_payload now) n forest.nodes;
  }

  pub written_done : seen_tree carried_in (with_nodes (changed_at (with_payload now) n) forest) documents.held ≡ change_item change n (old.tree)
  written_done =
      ap (λ (elements : List Element). let it : Tree = record { elements = elements; documents = documents.held } in it)
      (sym (change_shown (element_of carried_in) (with_payload now) (λ (element : Element). record element { item = change (element.item) }) n forest.nodes
      (λ knot at. ap (λ (payload : Described). element_of carried_in (with_payload payload knot)) (sym (payload_is knot at)))))
      ∙ ap (λ page. change_item change n (page.tree)) seen

  framed_written : AreFramed (seen_tree carried_in later documents.held)
  framed_written =
      subst AreFramed (sym written_done) (item_framed old.tree change n (subst (λ (page : PageElements). AreFramed page.tree) seen is.framed))

  pub IsPage-written : IsPage version (with_nodes (changed_at (with_payload now) n) forest) documents
  IsPage-written = IsPage-kept old forest documents seen later documents kept is refl framed_written

  pub written_rest : seen_page version (with_nodes (changed_at (with_payload now) n) forest) documents
      ≡ record old { tree = seen_tree carried_in (with_nodes (changed_at (with_payload now) n) forest) documents.held }
  written_rest = kept_rest old forest documents seen later documents kept

  pub written_count : length (map (element_of carried_in) (changed_at (with_payload now) n forest.nodes)) ≡ length old.tree.elements
  written_count = kept_count old forest documents seen later documents kept
