-- What commands do to the tree leaves it within its levels.
use Rattle.std.proofs.Common.{◌≡◌, suc, inl, refl, arith}
use Rattle.std.specs.Prelude.{ℕ, ◌<◌, length, Option, None}
use Rattle.text_io.specs.Limits.{common_limit}
use Rattle.text_io.specs.declared.kinds.LimitKind.TheVariants as limits
use Rattle.layout_model.specs.Items.{Item, Kind}
use Rattle.script_model.specs.Syntax.{Action}
use Rattle.page_model.specs.World.{Element, Tree, World, Container, InElement, InDocument}
use Rattle.page_model.specs.Lookups.{no_element, no_document}
use Rattle.page_model.specs.Documents.{removed}
use Rattle.page_model.specs.Edits.{new_document, with_element, with_frame, change_item}
use Rattle.page_model.specs.Steps.{Did, Effect}
use Rattle.page_model.specs.Operands.{Present, Handlers}
use Rattle.page_model.specs.Commands.{does, placing}
use Rattle.page_model.specs.Ranges.{counts_of, IsThingIn, IsInRange, IsPresentIn}
use Rattle.page_laws.specs.Successors.{OnDid}
use Rattle.page_laws.proofs.Trees.{placing-same}
use Rattle.page_laws.specs.Changed.{container_thing, TreeChange, ItemChanged, TakenOut, Placed, Change, TreeChanged, ElementMade, FrameMade}
use Rattle.page_laws.proofs.InRange.{does-known}
use Rattle.page_laws.proofs.Steps.{on_did-map}
use Rattle.page_documents.specs.Places.{IsThere}
use Rattle.page_documents.proofs.Entries.{kept, append_part, append_length}
use Rattle.page_documents.proofs.Making.{item_framed, element_framed, frame_framed}
use Rattle.page_documents.proofs.Removing.{removed_framed, removed_apart}
use Rattle.page_documents.proofs.Placing.{placing_framed}
use Rattle.document_laws.specs.Levels.{IsWithinLevels}
use Rattle.document_laws.proofs.Depths.{cut_low, removed_low, placing_low}

-- changes of a tree -------------------------------------------------------------------------------------------------------------------

module _ (tree : Tree) (levels : IsWithinLevels tree) where
  pub item_levels : (change : Item → Item) (n : ℕ) → IsWithinLevels (change_item change n tree)
  item_levels change n = record {
    framed = item_framed tree change n levels.framed;
    low = cut_low tree (change_item change n tree)
        (λ m. inl (kept no_element (λ (it : Element). record it { item = change (it.item) }) (λ (it : Element). it.parent) (λ it. refl) n m (tree.elements)))
        levels.low;
    few = levels.few;
  }

  pub element_levels : (kind : Kind) (document : ℕ) → IsWithinLevels (with_element kind document None tree)
  element_levels kind document = record {
    framed = element_framed tree kind document levels.framed;
    low = cut_low tree (with_element kind document None tree)
        (λ m. inl (append_part no_element _ (λ (it : Element). it.parent) refl m (tree.elements))) levels.low;
    few = levels.few;
  }

  pub frame_levels_kept : (document : ℕ) → length tree.documents < common_limit limits.Documents → IsWithinLevels (with_frame document tree)
  frame_levels_kept document less = record {
    framed = frame_framed tree document levels.framed (omega arith);
    low = cut_low tree (with_frame document tree)
        (λ m. inl (append_part no_element _ (λ (it : Element). it.parent) refl m (tree.elements))) levels.low;
    few = let more : length (with_frame document tree).documents ≡ suc (length tree.documents) = append_length no_document (new_document (length tree.elements)) (tree.documents) in omega arith;
  }

  pub removed_levels : (n : ℕ) → IsWithinLevels (removed tree n)
  removed_levels n = record {
    framed = removed_framed tree n levels.framed;
    low = removed_low tree n levels.framed levels.low;
    few = rw (removed_apart tree n levels.framed).count levels.few;
  }

  module _ (container : Container) (n : ℕ) (sibling : Option ℕ) (there : IsThere tree container) (known : n < length tree.elements) where
    pub placed : (after : Tree) → placing container n sibling tree ≡ Did after → length after.documents ≡ length tree.documents → IsWithinLevels after
    placed after is count = record {
      framed = placing_framed tree after container n sibling levels.framed there known is;
      low = placing_low tree after container n sibling levels.framed levels.low there known is;
      few = rw count levels.few;
    }

    pub placing_levels : (after : Tree) → placing container n sibling tree ≡ Did after → IsWithinLevels after
    placing_levels after is = placed after is (placing-same tree after container n sibling is)

-- commands ------------------------------------------------------------------------------------------------------------------------------

is_there : (handlers : ℕ) (world : World) (container : Container) → IsThingIn (counts_of handlers world) (container_thing container) →
    IsThere (world.tree) container
is_there handlers world (InElement n) is = is
is_there handlers world (InDocument document) is = is

module _ (handlers : ℕ) (world : World) (levels : IsWithinLevels world.tree) where
  tree_levels : {after : Tree} → TreeChange (IsThingIn (counts_of handlers world)) (world.tree) after → IsWithinLevels after
  tree_levels (ItemChanged change n known) = item_levels (world.tree) levels change n
  tree_levels (TakenOut n known) = removed_levels (world.tree) levels n
  tree_levels (Placed container n sibling after there known is) =
      placing_levels (world.tree) levels container n sibling (is_there handlers world container there) known after is

  change_levels : {after : World} → Change (IsThingIn (counts_of handlers world)) handlers world after → IsWithinLevels after.tree
  change_levels (TreeChanged tree change) = tree_levels change
  change_levels (ElementMade name kind document known) = element_levels (world.tree) levels kind document
  change_levels (FrameMade name inside document known less) = frame_levels_kept (world.tree) levels document less
  change_levels change = levels

pub does_levels : (handlers : Handlers) (world : World) → IsInRange (length handlers) world → IsWithinLevels world.tree → (present : Present) (action : Action) →
    IsPresentIn world present → OnDid (does handlers world present action) (λ (effect : Effect). IsWithinLevels effect.world.tree)
does_levels handlers world within levels present action here =
    on_did-map _ _ _ (λ effect change. change_levels (length handlers) world levels change) (does-known handlers world within present action here)
