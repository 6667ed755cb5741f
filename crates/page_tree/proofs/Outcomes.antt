-- What is kept of the page as its tree and its documents change.
use Rattle.std.proofs.Common.{◌≡◌, ◌≤◌, ℕ, ◌<◌, List, [], map, length, Option, Bool, refl, ap, sym, subst, ◌∙◌, arith}
use Rattle.std.proofs.lemmas.List.{length-map}
use Rattle.text_io.specs.declared.kinds.LimitKind.TheVariants as limits
use Rattle.text_io.specs.declared.kinds.Version.{Version}
use Rattle.text_io.specs.Limits.{limit_number}
use Rattle.page_model.specs.Lookups.{change_each}
use Rattle.page_model.specs.Documents.{inclusive_descendants}
use Rattle.element_tree.specs.Forest.{Knot, Forest}
use Rattle.element_tree.specs.Edits.{with_nodes, removed as taken_away, inserted as put_in}
use Rattle.page_documents.specs.Seen.{element_of, seen_tree}
use Rattle.page_documents.specs.Held.{HeldDocuments}
use Rattle.page_documents.specs.Frames.{AreFramed}
use Rattle.page_documents.specs.Adoption.{adopting, adopted_in}
use Rattle.page_documents.proofs.Adopting.{changes_length}
use Rattle.page_tree.specs.Items.{Described, carried_in, owned_by}
use Rattle.page_tree.specs.Views.{PageElements, name_in, seen_page, IsPage}
use Rattle.page_tree.proofs.Kept.{length_removed, length_inserted, names_removed, names_inserted, names_adopted}

-- a tree in which elements stand elsewhere or belong to other documents
pub record IsKept (forest later : Forest Described) : Type 0 where
  pub most_nodes : later.most_nodes ≡ forest.most_nodes
  pub most_depth : later.most_depth ≡ forest.most_depth
  pub ready : later.ready ≡ forest.ready
  pub names : map name_in later.nodes ≡ map name_in forest.nodes
  pub count : length later.nodes ≡ length forest.nodes

kept_edit : (edit : List (Knot Described) → List (Knot Described)) (forest later : Forest Described) → later ≡ with_nodes edit forest
    → map name_in (edit forest.nodes) ≡ map name_in forest.nodes → length (edit forest.nodes) ≡ length forest.nodes → IsKept forest later
kept_edit edit forest later is names count =
    subst (IsKept forest) (sym is) (record { most_nodes = refl; most_depth = refl; ready = refl; names = names; count = count })

pub kept_then : (one other last : Forest Described) → IsKept one other → IsKept other last → IsKept one last
kept_then one other last first next = record {
  most_nodes = next.most_nodes ∙ first.most_nodes;
  most_depth = next.most_depth ∙ first.most_depth;
  ready = next.ready ∙ first.ready;
  names = next.names ∙ first.names;
  count = next.count ∙ first.count;
}

pub kept_removed : (n : ℕ) (forest later : Forest Described) → later ≡ with_nodes (taken_away n) forest → IsKept forest later
kept_removed n forest later is = kept_edit (taken_away n) forest later is (names_removed n forest.nodes) (length_removed n forest.nodes)

pub kept_put : (p n : ℕ) (mark : Option ℕ) (forest later : Forest Described) → later ≡ with_nodes (put_in p n mark) forest → IsKept forest later
kept_put p n mark forest later is = kept_edit (put_in p n mark) forest later is (names_inserted p n mark forest.nodes) (length_inserted p n mark forest.nodes)

pub kept_adopted : (document n : ℕ) (forest later : Forest Described) → later ≡ adopted_in carried_in owned_by document n forest → IsKept forest later
kept_adopted document n forest later is =
    kept_edit (change_each (adopting owned_by document) (inclusive_descendants (seen_tree carried_in forest []) n)) forest later is
    (names_adopted document (inclusive_descendants (seen_tree carried_in forest []) n) forest.nodes)
    (changes_length (adopting owned_by document) (inclusive_descendants (seen_tree carried_in forest []) n) forest.nodes)

module _ {version : Version} (old : PageElements) (forest : Forest Described) (documents : HeldDocuments) (seen : seen_page version forest documents ≡ old) where
  pub within : (n : ℕ) → n < length old.tree.elements → n < length forest.nodes
  within n inside =
      let same : length (map (element_of carried_in) forest.nodes) ≡ length old.tree.elements = ap (λ (page : PageElements). length page.tree.elements) seen in
      omega (arith, length-map forest.nodes (element_of carried_in))

  pub document_within : (document : ℕ) → document < length old.tree.documents → document < length documents.held
  document_within document inside = subst (λ (page : PageElements). document < length page.tree.documents) (sym seen) inside

  -- elements and documents may differ, and nothing else
  pub rest_same : (later : Forest Described) (left : HeldDocuments) → map name_in later.nodes ≡ map name_in forest.nodes → later.ready ≡ forest.ready
      → seen_page version later left ≡ record old { tree = seen_tree carried_in later left.held }
  rest_same later left names ready =
      let made : Version → List (List ℕ) → Bool → PageElements
      = λ of texts ready. record { version = of; tree = seen_tree carried_in later left.held; names = texts; ready = ready } in
      ap (λ of. made of (map name_in later.nodes) later.ready) (ap (λ (page : PageElements). page.version) seen)
      ∙ ap (λ texts. made old.version texts later.ready) (names ∙ ap (λ (page : PageElements). page.names) seen)
      ∙ ap (made old.version old.names) (ready ∙ ap (λ (page : PageElements). page.ready) seen)

  module _ (later : Forest Described) (left : HeldDocuments) (kept : IsKept forest later) where
    pub kept_rest : seen_page version later left ≡ record old { tree = seen_tree carried_in later left.held }
    kept_rest = rest_same later left kept.names kept.ready

    pub kept_count : length (map (element_of carried_in) later.nodes) ≡ length old.tree.elements
    kept_count =
        length-map later.nodes (element_of carried_in) ∙ kept.count ∙ sym (length-map forest.nodes (element_of carried_in))
        ∙ ap (λ (page : PageElements). length page.tree.elements) seen

    pub IsPage-kept : IsPage version forest documents → left.most ≡ documents.most → AreFramed (seen_tree carried_in later left.held) → IsPage version later left
    IsPage-kept is same framed = record {
      most_nodes = kept.most_nodes ∙ is.most_nodes;
      counted = subst (λ k. k ≤ limit_number version limits.Nodes) (sym kept.count) is.counted;
      most_depth = kept.most_depth ∙ is.most_depth;
      most_documents = same ∙ is.most_documents;
      framed = framed;
    }
