-- Trees of elements, and the documents in their frames (DOM, 4.2.1 to 4.2.3 and 4.4; HTML, 4.8.5 and 7.3). That a document is Fresh
-- until its frame is in an Active document's tree, and Dead for good once its frame was removed from one, is this project's own.
use Rattle.std.specs.Prelude.{ℕ, zero, suc, max, Bool, true, false, ◌==◌, cond, List, [], ◌∷◌, ◌++◌, map, flat_map, filter, filter_map, fold, Option, Some, None}
use Rattle.layout_model.specs.Nodes.{Node, levels, top_of, is_in_path, depth_of}
use Rattle.page_model.specs.World.{Element, DocumentState, Fresh, Active, Dead, Tree, Container, InElement, InDocument}
use Rattle.page_model.specs.Lookups.{element_at, document_at, change_each, change_element, change_document, without}

-- how many levels of nested frames are searched: more than the number of documents that there can be; a bound of this project
abbrev pub frame_levels : ℕ
frame_levels = 65536

-- an element as layout sees it
abbrev pub node_of : Element → Node
node_of element = record { item = element.item; parent = element.parent; children = element.children }

abbrev pub nodes_of : Tree → ℕ → Node
nodes_of tree n = node_of (element_at tree n)

-- the root of the tree that an element is in
unfoldable pub root_of : Tree → ℕ → ℕ
unfolding top_of
root_of tree n = top_of (nodes_of tree) n

unfoldable pub is_inclusive_ancestor : Tree → ℕ → ℕ → Bool
unfolding is_in_path
is_inclusive_ancestor tree a n = is_in_path (nodes_of tree) a n

unfoldable pub element_depth : Tree → ℕ → ℕ
unfolding depth_of
element_depth tree n = depth_of (nodes_of tree) n

-- an element and its descendants in tree order
unfoldable pub order_down : ℕ → Tree → ℕ → List ℕ
order_down zero tree n = []
order_down (suc deep) tree n = n ∷ flat_map (order_down deep tree) (element_at tree n).children

unfoldable pub inclusive_descendants : Tree → ℕ → List ℕ
unfolding order_down
inclusive_descendants tree n = order_down levels tree n

-- the number of levels of an element's subtree, the element's own included
unfoldable pub levels_down : ℕ → Tree → ℕ → ℕ
levels_down zero tree n = 0
levels_down (suc deep) tree n = suc (fold max 0 (map (levels_down deep tree) (element_at tree n).children))

unfoldable pub levels_of : Tree → ℕ → ℕ
unfolding levels_down
levels_of tree n = levels_down levels tree n

abbrev pub is_number : Option ℕ → ℕ → Bool
is_number None n = false
is_number (Some m) n = m == n

-- whether an element is the root element of a document, which can only be its node document
abbrev pub is_root_element : Tree → ℕ → Bool
is_root_element tree n = is_number (document_at tree (element_at tree n).document).root n

abbrev pub container_by : Option ℕ → Bool → ℕ → Option Container
container_by (Some parent) is_root document = Some (InElement parent)
container_by None true document = Some (InDocument document)
container_by None false document = None

-- the container of an element: its parent, or the document whose root element it is; None if it has neither
abbrev pub container_of : Tree → ℕ → Option Container
container_of tree n = container_by (element_at tree n).parent (is_root_element tree n) (element_at tree n).document

-- the document whose tree an element is in, which can only be its node document
unfoldable pub tree_document : Tree → ℕ → Option ℕ
unfolding root_of
tree_document tree n = cond (is_root_element tree (root_of tree n)) (Some (element_at tree n).document) None

abbrev pub is_active_state : DocumentState → Bool
is_active_state Active = true
is_active_state state = false

abbrev pub is_fresh_state : DocumentState → Bool
is_fresh_state Fresh = true
is_fresh_state state = false

abbrev pub is_active : Tree → ℕ → Bool
is_active tree document = is_active_state (document_at tree document).state

abbrev pub is_active_there : Tree → Option ℕ → Bool
is_active_there tree None = false
is_active_there tree (Some document) = is_active tree document

-- whether an element is in the tree of an Active document
unfoldable pub stands_in_active : Tree → ℕ → Bool
unfolding tree_document
stands_in_active tree n = is_active_there tree (tree_document tree n)

-- the documents of the frames among an element and its descendants, in tree order
unfoldable pub frames_in : Tree → ℕ → List ℕ
unfolding inclusive_descendants
frames_in tree n = filter_map (λ each. (element_at tree each).framed) (inclusive_descendants tree n)

abbrev pub frames_below : Tree → Option ℕ → List ℕ
frames_below tree None = []
frames_below tree (Some root) = frames_in tree root

-- those of these documents that are in a given state, each followed by the ones that the frames in its own tree lead to in turn
unfoldable pub led_to : ℕ → (DocumentState → Bool) → Tree → List ℕ → List ℕ
unfolding frames_in
led_to zero test tree documents = []
led_to (suc deep) test tree documents =
    flat_map
    (λ document. document ∷ led_to deep test tree (frames_below tree (document_at tree document).root))
    (filter (λ document. test (document_at tree document).state) documents)

-- the documents in a given state that the frames among an element and its descendants lead to, in preorder
unfoldable pub documents_inside : (DocumentState → Bool) → Tree → ℕ → List ℕ
unfolding led_to frames_in
documents_inside test tree n = led_to frame_levels test tree (frames_in tree n)

-- the Active documents in preorder of the frame tree, starting with the top document, which has number 0
unfoldable pub active_documents : Tree → List ℕ
unfolding led_to
active_documents tree = led_to frame_levels is_active_state tree (0 ∷ [])

abbrev pub with_state : DocumentState → List ℕ → Tree → Tree
with_state state documents tree =
    record tree { documents = change_each (λ document. record document { state = state }) documents (tree.documents) }

-- the tree with an element taken out of its container
abbrev pub unlinked : Tree → ℕ → Option Container → Tree
unlinked tree n None = tree
unlinked tree n (Some (InElement parent)) =
    change_element (λ element. record element { children = without n (element.children) }) parent
    (change_element (λ element. record element { parent = None }) n tree)
unlinked tree n (Some (InDocument document)) = change_document (λ it. record it { root = None }) document tree

-- remove (DOM, 4.2.3): Active documents in frames of the subtree become Dead, together with those nested in them
unfoldable pub removed : Tree → ℕ → Tree
unfolding stands_in_active documents_inside
removed tree n =
    let dying = cond (stands_in_active tree n) (documents_inside is_active_state tree n) [] in
    with_state Dead dying (unlinked tree n (container_of tree n))

-- the children with a new one inserted before a sibling, or appended
abbrev pub placed_before : ℕ → Option ℕ → List ℕ → List ℕ
placed_before n None children = children ++ n ∷ []
placed_before n (Some sibling) [] = n ∷ []
placed_before n (Some sibling) (child ∷ children) =
    cond (child == sibling) (n ∷ child ∷ children) (child ∷ placed_before n (Some sibling) children)

abbrev pub first_of_list : List ℕ → Option ℕ
first_of_list [] = None
first_of_list (x ∷ xs) = Some x

-- what follows the first occurrence of a number in a list
abbrev pub next_after : ℕ → List ℕ → Option ℕ
next_after n [] = None
next_after n (x ∷ xs) = cond (x == n) (first_of_list xs) (next_after n xs)

-- the sibling that an element is inserted before: if this is the element itself, its next sibling is used instead
abbrev pub sibling_meant : Tree → Container → ℕ → Option ℕ → Option ℕ
sibling_meant tree (InElement parent) n (Some sibling) =
    cond (sibling == n) (next_after n (element_at tree parent).children) (Some sibling)
sibling_meant tree container n sibling = sibling

abbrev pub linked : Tree → Container → ℕ → Option ℕ → Tree
linked tree (InElement parent) n sibling =
    change_element (λ element. record element { children = placed_before n sibling (element.children) }) parent
    (change_element (λ element. record element { parent = Some parent }) n tree)
linked tree (InDocument document) n sibling = change_document (λ it. record it { root = Some n }) document tree

-- the node document of an element, or the document itself
abbrev pub document_of_container : Tree → Container → ℕ
document_of_container tree (InElement n) = (element_at tree n).document
document_of_container tree (InDocument document) = document

-- adopt (DOM, 4.5): sets the node document of an element and its descendants
unfoldable pub adopted : Tree → ℕ → ℕ → Tree
unfolding inclusive_descendants
adopted tree document n =
    record tree { elements = change_each (λ element. record element { document = document }) (inclusive_descendants tree n) (tree.elements) }

-- Fresh documents in frames of a subtree that is in an Active document become Active, together with those nested in them
unfoldable pub shown : Tree → ℕ → Tree
unfolding stands_in_active documents_inside
shown tree n =
    with_state Active (cond (stands_in_active tree n) (documents_inside is_fresh_state tree n) []) tree

-- insert (DOM, 4.2.3): the element is first removed from its container, if it has one, and then inserted
unfoldable pub inserted : Tree → Container → ℕ → Option ℕ → Tree
unfolding removed adopted shown
inserted tree container n sibling =
    let apart = removed tree n in
    let joined = linked apart container n (sibling_meant tree container n sibling) in
    shown (adopted joined (document_of_container tree container) n) n
