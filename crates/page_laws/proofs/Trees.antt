-- What is done to a tree: it has as many elements and documents afterwards, documents don't go back, and numbers stay in range.
use Rattle.std.proofs.Common.{◌≡◌, refl, ◌∙◌, subst, sym}
use Rattle.std.specs.Prelude.{ℕ, zero, suc, ◌<◌, Bool, true, false, cond, not, ◌==◌, IsTrue, length, List, [], ◌∷◌, slice_get, unwrap_or, Option, Some, None, ⊤}
use Rattle.std.specs.List.{AllByRecursion}
use Rattle.page_model.specs.World.{Element, DocumentState, Active, Dead, Document, Thing, ElementThing, Tree, Container, InElement, InDocument}
use Rattle.page_model.specs.Lookups.{no_element, without, change_element, change_document}
use Rattle.page_model.specs.Documents.{is_active_state, is_fresh_state, container_of, stands_in_active, documents_inside, frames_in, inclusive_descendants, with_state, unlinked, removed, placed_before, sibling_meant, linked, document_of_container, adopted, shown, inserted, frame_levels}
use Rattle.page_model.specs.Steps.{Did}
use Rattle.page_model.specs.Commands.{placing}
use Rattle.page_model.specs.Ranges.{Counts, IsElementIn, IsDocumentIn, IsTreeIn, IsThingIn}
use Rattle.page_laws.specs.Successors.{came_to, OnDid}
use Rattle.page_laws.specs.Changed.{container_thing, TreeChange, ItemChanged, TakenOut, Placed}
use Rattle.page_laws.proofs.Steps.{both, did, of_did}
use Rattle.page_laws.proofs.Lists.{all-add, all-filter, changed, changed-each}
use Rattle.page_laws.proofs.Successors.{HasCome, AllAlive, into, changed-entry, dying-each, waking-each, fresh-all-alive, led-pass}

-- in range for the numbers of which `Sound` holds
pub record IsEdited (Sound : Counts → Type 0) (before after : Tree) : Type 0 where
  pub elements : length after.elements ≡ length before.elements
  pub documents : length after.documents ≡ length before.documents
  pub states : (wanted : DocumentState) (document : ℕ) → IsTrue (came_to wanted before document) → IsTrue (came_to wanted after document)
  pub within : (counts : Counts) → Sound counts → IsTreeIn counts before → IsTreeIn counts after

abbrev pub IsContainerIn : Counts → Container → Type 0
IsContainerIn counts container = IsThingIn counts (container_thing container)

all-placed_step : (P : ℕ → Type 0) (n child : ℕ) (children rest : List ℕ) (found : Bool) → P n → P child → AllByRecursion P children → AllByRecursion P rest →
    AllByRecursion P (cond found (n ∷ child ∷ children) (child ∷ rest))
all-placed_step P n child children rest true new old all others = (new, (old, all))
all-placed_step P n child children rest false new old all others = (old, others)

all-placed : (P : ℕ → Type 0) (n : ℕ) (sibling : Option ℕ) (children : List ℕ) → P n → AllByRecursion P children →
    AllByRecursion P (placed_before n sibling children)
all-placed P n None children new all = all-add P children n all new
all-placed P n (Some sibling) [] new all = (new, tt)
all-placed P n (Some sibling) (child ∷ children) new all =
    all-placed_step P n child children (placed_before n (Some sibling) children) (child == sibling) new (all.0) (all.1)
    (all-placed P n (Some sibling) children new (all.1))

pub found-in : (counts : Counts) (elements : List Element) (n : ℕ) → 0 < counts.documents → AllByRecursion (IsElementIn counts) elements →
    IsElementIn counts (unwrap_or (slice_get elements n) no_element)
found-in counts [] n top all = record { parent = tt; children = tt; document = top; framed = tt }
found-in counts (x ∷ xs) zero top all = all.0
found-in counts (x ∷ xs) (suc n) top all = found-in counts xs n top (all.1)

document-in : (counts : Counts) (tree : Tree) (container : Container) → 0 < counts.documents → IsTreeIn counts tree → IsContainerIn counts container →
    document_of_container tree container < counts.documents
document-in counts tree (InElement parent) top within is-in = (found-in counts (tree.elements) parent top within.elements).document
document-in counts tree (InDocument document) top within is-in = is-in

-- edits

module _ {Sound : Counts → Type 0} where
  unchanged : (tree : Tree) → IsEdited Sound tree tree
  unchanged tree = record { elements = refl; documents = refl; states = λ wanted document come. come; within = λ counts sound is. is }

  on : {first second third : Tree} → IsEdited Sound first second → IsEdited Sound second third → IsEdited Sound first third
  on one two = record {
    elements = two.elements ∙ one.elements;
    documents = two.documents ∙ one.documents;
    states = λ wanted document come. two.states wanted document (one.states wanted document come);
    within = λ counts sound is. two.within counts sound (one.within counts sound is);
  }

  element-edited : (change : Element → Element) → ((counts : Counts) → Sound counts → (it : Element) → IsElementIn counts it → IsElementIn counts (change it)) →
      (n : ℕ) (tree : Tree) → IsEdited Sound tree (change_element change n tree)
  element-edited change each n tree = record {
    elements = (changed (λ (it : Element). ⊤) change (λ it is. is) n (tree.elements)).same;
    documents = refl;
    states = λ wanted document come. come;
    within = λ counts sound is. record {
      elements = (changed (IsElementIn counts) change (each counts sound) n (tree.elements)).within is.elements;
      documents = is.documents;
    };
  }

  document-edited : (change : Document → Document) → ((it : Document) → (change it).state ≡ it.state) →
      ((counts : Counts) → Sound counts → (it : Document) → IsDocumentIn counts it → IsDocumentIn counts (change it)) → (place : ℕ) (tree : Tree) →
      IsEdited Sound tree (change_document change place tree)
  document-edited change same each place tree = record {
    elements = refl;
    documents = (changed (λ (it : Document). ⊤) change (λ it is. is) place (tree.documents)).same;
    states = λ wanted document come.
        changed-entry (HasCome wanted) change place document (tree.documents)
        (λ it at was. subst (λ (state : DocumentState). HasCome wanted (Some (record it { state = state }))) (sym (same it)) was) come;
    within = λ counts sound is. record {
      elements = is.elements;
      documents = (changed (IsDocumentIn counts) change (each counts sound) place (tree.documents)).within is.documents;
    };
  }

  states-edited : (state : DocumentState) (places : List ℕ) (tree : Tree) →
      ((wanted : DocumentState) (document : ℕ) → IsTrue (came_to wanted tree document) → IsTrue (came_to wanted (with_state state places tree) document)) →
      IsEdited Sound tree (with_state state places tree)
  states-edited state places tree states = record {
    elements = refl;
    documents = (changed-each (λ (it : Document). ⊤) (into state) (λ it is. is) places (tree.documents)).same;
    states = states;
    within = λ counts sound is. record {
      elements = is.elements;
      documents =
          (changed-each (IsDocumentIn counts) (into state) (λ it given. record { frame = given.frame; root = given.root }) places (tree.documents)).within
          is.documents;
    };
  }

  dying : (places : List ℕ) (tree : Tree) → IsEdited Sound tree (with_state Dead places tree)
  dying places tree = states-edited Dead places tree (λ wanted document come. dying-each wanted document places (tree.documents) come)

  unlinked-edited : (tree : Tree) (n : ℕ) (container : Option Container) → IsEdited Sound tree (unlinked tree n container)
  unlinked-edited tree n None = unchanged tree
  unlinked-edited tree n (Some (InElement parent)) =
      on
      (element-edited (λ it. record it { parent = None })
      (λ counts sound it is. record { parent = tt; children = is.children; document = is.document; framed = is.framed }) n tree)
      (element-edited (λ it. record it { children = without n (it.children) })
      (λ counts sound it is. record {
        parent = is.parent;
        children = all-filter (λ m. m < counts.elements) (λ m. not (m == n)) (it.children) is.children;
        document = is.document;
        framed = is.framed;
      }) parent _)
  unlinked-edited tree n (Some (InDocument document)) =
      document-edited (λ it. record it { root = None }) (λ it. refl) (λ counts sound it is. record { frame = is.frame; root = tt }) document tree

  removed-edited : (tree : Tree) (n : ℕ) → IsEdited Sound tree (removed tree n)
  unfolding removed
  removed-edited tree n =
      on (unlinked-edited tree n (container_of tree n))
      (dying (cond (stands_in_active tree n) (documents_inside is_active_state tree n) []) (unlinked tree n (container_of tree n)))

  shown-edited : (tree : Tree) (n : ℕ) → IsEdited Sound tree (shown tree n)
  unfolding shown documents_inside
  shown-edited tree n = by_standing (stands_in_active tree n)
    where
      waking : (places : List ℕ) → AllAlive (tree.documents) places → IsEdited Sound tree (with_state Active places tree)
      waking places alive = states-edited Active places tree (λ wanted document come. waking-each wanted document places (tree.documents) alive come)

      by_standing : (stands : Bool) → IsEdited Sound tree (with_state Active (cond stands (documents_inside is_fresh_state tree n) []) tree)
      by_standing true =
          waking (documents_inside is_fresh_state tree n)
          (fresh-all-alive tree (documents_inside is_fresh_state tree n) (led-pass frame_levels is_fresh_state tree (frames_in tree n)))
      by_standing false = waking [] tt

  module _ (n : ℕ) (container : Container) (put : (counts : Counts) → Sound counts → n < counts.elements × IsContainerIn counts container) where
    linked-edited : (tree : Tree) (sibling : Option ℕ) → IsEdited Sound tree (linked tree container n sibling)
    linked-edited tree sibling = by_container container put
      where
        by_container : (at : Container) → ((counts : Counts) → Sound counts → n < counts.elements × IsContainerIn counts at) →
            IsEdited Sound tree (linked tree at n sibling)
        by_container (InElement parent) there =
            on
            (element-edited (λ it. record it { parent = Some parent })
            (λ counts sound it is. record { parent = (there counts sound).1; children = is.children; document = is.document; framed = is.framed }) n tree)
            (element-edited (λ it. record it { children = placed_before n sibling (it.children) })
            (λ counts sound it is. record {
              parent = is.parent;
              children = all-placed (λ m. m < counts.elements) n sibling (it.children) (there counts sound).0 is.children;
              document = is.document;
              framed = is.framed;
            }) parent _)
        by_container (InDocument document) there =
            document-edited (λ it. record it { root = Some n }) (λ it. refl)
            (λ counts sound it is. record { frame = is.frame; root = (there counts sound).0 }) document tree

    module _ (tree : Tree) (owner : (counts : Counts) → Sound counts → document_of_container tree container < counts.documents) where
      adopted-edited : (joined : Tree) → IsEdited Sound joined (adopted joined (document_of_container tree container) n)
      unfolding adopted
      adopted-edited joined = record {
        elements = (changed-each (λ (it : Element). ⊤) adopts (λ it is. is) (inclusive_descendants joined n) (joined.elements)).same;
        documents = refl;
        states = λ wanted each come. come;
        within = λ counts sound is. record {
          elements =
              (changed-each (IsElementIn counts) adopts
              (λ it given. record { parent = given.parent; children = given.children; document = owner counts sound; framed = given.framed })
              (inclusive_descendants joined n) (joined.elements)).within is.elements;
          documents = is.documents;
        };
      }
        where
          adopts : Element → Element
          adopts it = record it { document = document_of_container tree container }

      inserted-edited : (sibling : Option ℕ) → IsEdited Sound tree (inserted tree container n sibling)
      unfolding inserted
      inserted-edited sibling =
          on (removed-edited tree n)
          (on (linked-edited (removed tree n) (sibling_meant tree container n sibling)) (on (adopted-edited _) (shown-edited _ n)))

      placing-edited : (sibling : Option ℕ) → OnDid (placing container n sibling tree) (IsEdited Sound tree)
      unfolding placing
      placing-edited sibling = search (both, did, inserted-edited) depth 9

-- what is known is in range, and so is the tree before
abbrev pub IsSound : (Thing → Type 0) → Tree → Counts → Type 0
IsSound Known before counts = ((thing : Thing) → Known thing → IsThingIn counts thing) × 0 < counts.documents × IsTreeIn counts before

pub edited : {Known : Thing → Type 0} (before : Tree) {after : Tree} → TreeChange Known before after → IsEdited (IsSound Known before) before after
edited before (ItemChanged change n known) =
    element-edited _ (λ counts sound it is. record { parent = is.parent; children = is.children; document = is.document; framed = is.framed }) n before
edited before (TakenOut n known) = removed-edited before n
edited {Known = Known} before (Placed container n sibling after there known is) =
    of_did _ after (IsEdited (IsSound Known before) before) is
    (placing-edited n container (λ counts sound. (sound.0 (ElementThing n) known, sound.0 (container_thing container) there)) before
    (λ counts sound. document-in counts before container (sound.1) (sound.2) (sound.0 (container_thing container) there)) sibling)

-- an insertion makes no document
pub placing-same : (before after : Tree) (container : Container) (n : ℕ) (sibling : Option ℕ) → placing container n sibling before ≡ Did after →
    length after.documents ≡ length before.documents
placing-same before after container n sibling is =
    (of_did _ after (IsEdited (λ (counts : Counts). ⊥) before) is
    (placing-edited n container (λ counts none. absurd none) before (λ counts none. absurd none) sibling)).documents
