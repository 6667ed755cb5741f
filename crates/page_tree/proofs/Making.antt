-- Room that is made, and an element that is made in it and comes last.
use Rattle.std.proofs.Common.{◌≡◌, ◌≢◌, ℕ, ◌<◌, ◌++◌, List, [], ◌∷◌, map, Some, None, length, length-append, Bool, true, false, not, nat_lt, Result, Ok, Err, IfErr, refl, ap, sym, subst, ◌∙◌, arith}
use Rattle.std.proofs.lemmas.List.{length-map}
use Rattle.std.proofs.lemmas.Bool.Decides.{nat_tests}
use Rattle.text_io.specs.declared.kinds.LimitKind.{LimitKind}
use Rattle.text_io.specs.declared.kinds.LimitKind.TheVariants as limits
use Rattle.text_io.specs.declared.kinds.Version.{Version}
use Rattle.text_io.specs.Limits.{limit_number}
use Rattle.layout_model.specs.Items.{Kind, FrameKind}
use Rattle.page_model.specs.World.{Active, Element, Tree}
use Rattle.page_model.specs.Edits.{new_document}
use Rattle.page_model.specs.Steps.{Did, Met, ◌>>◌, room, met_unless}
use Rattle.element_tree.specs.Forest.{Knot, Forest}
use Rattle.element_tree.specs.Edits.{lone}
use Rattle.element_tree.specs.Answers.{IsAddFault}
use Rattle.element_tree.specs.declared.node.NodeId.{NodeId}
use Rattle.element_tree.specs.declared.fault.TreeFault.{TreeFault}
use Rattle.element_tree.specs.declared.fault.TreeFault.TheVariants.{Hierarchy, NotAChild, NodeLimit, DepthLimit, Memory}
use Rattle.page_documents.specs.Seen.{element_of, seen_tree}
use Rattle.page_documents.specs.Held.{HeldDocuments}
use Rattle.page_documents.specs.Frames.{AreFramed}
use Rattle.page_documents.proofs.Making.{element_framed, frame_framed, opening_framed}
use Rattle.page_tree.specs.Items.{Described, carried_in, described}
use Rattle.page_tree.specs.Views.{PageElements, seen_page, IsPage}
use Rattle.page_tree.specs.Faults.{frame_room, element_room, has_element_room}

did_below : (below : Bool) (limit : LimitKind) → met_unless below limit ≡ Did tt → below ≡ true
did_below true limit e = refl
did_below false limit e = cc

below : (count most : ℕ) → nat_lt count most ≡ true → count < most
below count most is = grind (arith, nat_tests)

below_limit : (version : Version) (count : ℕ) → room version limits.Nodes count ≡ Did tt → count < limit_number version limits.Nodes
below_limit version count e = below count (limit_number version limits.Nodes) (did_below (nat_lt count (limit_number version limits.Nodes)) limits.Nodes e)

module _ {version : Version} (forest : Forest Described) (documents : HeldDocuments) (is : IsPage version forest documents) (later : Forest Described) where
  pub IsPage-made : (old middle : PageElements) → seen_page version forest documents ≡ middle → middle ≡ record old { ready = middle.ready } → element_room old ≡ Did tt
      → (payload : Described) → later ≡ record forest { nodes = forest.nodes ++ lone payload ∷ []; ready = later.ready }
      → (left : HeldDocuments) → left.most ≡ documents.most → AreFramed (seen_tree carried_in later left.held) → IsPage version later left
  IsPage-made old middle seen same roomy payload added left most framed =
      let count : length forest.nodes ≡ length old.tree.elements
      = sym (length-map forest.nodes (element_of carried_in)) ∙ ap (λ (page : PageElements). length page.tree.elements) (seen ∙ same) in
      let below : length old.tree.elements < limit_number version limits.Nodes
      = subst (λ of. length old.tree.elements < limit_number of limits.Nodes) (sym (ap (λ (page : PageElements). page.version) (seen ∙ same)))
      (below_limit old.version (length old.tree.elements) roomy) in
      let long = length-append forest.nodes (lone payload ∷ []) in
      subst (λ f. IsPage version f left) (sym added)
      (record {
        most_nodes = is.most_nodes;
        counted = omega arith;
        most_depth = is.most_depth;
        most_documents = most ∙ is.most_documents;
        framed = subst (λ f. AreFramed (seen_tree carried_in f left.held)) added framed;
      })

-- what is made comes last among the elements
pub last_seen : (nodes : List (Knot Described)) (payload : Described)
    → map (element_of carried_in) (nodes ++ lone payload ∷ []) ≡ map (element_of carried_in) nodes ++ element_of carried_in (lone payload) ∷ []
last_seen [] payload = refl
last_seen (knot ∷ nodes) payload = ap (λ elements. element_of carried_in knot ∷ elements) (last_seen nodes payload)

module _ (forest later : Forest Described) (documents : HeldDocuments) (framed : AreFramed (seen_tree carried_in forest documents.held)) (name : List ℕ) where
  pub element_made : (kind : Kind) (document : ℕ) (payload : Described) → payload ≡ described name kind document None
      → later ≡ record forest { nodes = forest.nodes ++ lone payload ∷ []; ready = later.ready } → AreFramed (seen_tree carried_in later documents.held)
  element_made kind document payload is added =
      subst AreFramed
      (sym
      (ap (λ (it : Forest Described). seen_tree carried_in it documents.held) added
      ∙ ap (λ (elements : List Element). let it : Tree = record { elements = elements; documents = documents.held } in it) (last_seen forest.nodes payload)
      ∙ ap (λ (it : Described). let tree : Tree = record {
        elements = map (element_of carried_in) forest.nodes ++ element_of carried_in (lone it) ∷ [];
        documents = documents.held;
      } in tree) is))
      (element_framed (seen_tree carried_in forest documents.held) kind document framed)

  pub frame_made : (document framed : ℕ) (payload : Described) → framed ≡ length documents.held → payload ≡ described name FrameKind document (Some framed)
      → later ≡ record forest { nodes = forest.nodes ++ lone payload ∷ []; ready = later.ready }
      → (number : ℕ) → number ≡ length forest.nodes
      → (left : HeldDocuments) → left ≡ record documents { held = documents.held ++ new_document number ∷ [] } → length documents.held < 65536
      → AreFramed (seen_tree carried_in later left.held)
  frame_made document inside payload next is added number counted left made few =
      subst AreFramed
      (sym
      (ap (λ (it : Forest Described). seen_tree carried_in it left.held) added
      ∙ ap (λ (it : HeldDocuments). seen_tree carried_in (record forest { nodes = forest.nodes ++ lone payload ∷ [] }) it.held) made
      ∙ ap (λ (elements : List Element). let it : Tree = record { elements = elements; documents = documents.held ++ new_document number ∷ [] } in it)
      (last_seen forest.nodes payload ∙ ap (λ (it : Described). map (element_of carried_in) forest.nodes ++ element_of carried_in (lone it) ∷ []) is)
      ∙ ap (λ (d : ℕ). let tree : Tree = record {
        elements = map (element_of carried_in) forest.nodes ++ element_of carried_in (lone (described name FrameKind document (Some d))) ∷ [];
        documents = documents.held ++ new_document number ∷ [];
      } in tree) next
      ∙ ap (λ (n : ℕ). let tree : Tree = record {
        elements = map (element_of carried_in) forest.nodes ++ element_of carried_in (lone (described name FrameKind document (Some (length documents.held)))) ∷ [];
        documents = documents.held ++ new_document n ∷ [];
      } in tree) (counted ∙ sym (length-map forest.nodes (element_of carried_in)))))
      (frame_framed (seen_tree carried_in forest documents.held) document framed few)

-- room for a frame is room for an element, and then for a document
both : (elements documents : Bool) (full : Bool) → full ≡ not elements → full ≡ false → (other : Bool) → other ≡ not documents → other ≡ false
    → met_unless elements limits.Nodes >> met_unless documents limits.Documents ≡ Did tt
unfolding ◌>>◌
both true true full a b other c d = refl
both true false full a b other c d = cc
both false documents full a b other c d = cc

elements_full : (elements documents : Bool) (full : Bool) → full ≡ not elements → full ≡ true
    → met_unless elements limits.Nodes >> met_unless documents limits.Documents ≡ Met limits.Nodes
unfolding ◌>>◌
elements_full true documents full a b = cc
elements_full false documents full a b = refl

documents_full : (elements documents : Bool) (full : Bool) → full ≡ not elements → full ≡ false → (other : Bool) → other ≡ not documents → other ≡ true
    → met_unless elements limits.Nodes >> met_unless documents limits.Documents ≡ Met limits.Documents
unfolding ◌>>◌
documents_full true true full a b other c d = cc
documents_full true false full a b other c d = refl
documents_full false documents full a b other c d = cc

module _ (page : PageElements) (full : Bool) (says : full ≡ not (has_element_room page)) where
  pub frame_met_nodes : full ≡ true → frame_room page ≡ Met limits.Nodes
  frame_met_nodes is = elements_full _ _ full says is

  module _ (is : full ≡ false) (other : Bool) (tells : other ≡ not (nat_lt (length page.tree.documents) 64)) where
    pub frame_met_documents : other ≡ true → frame_room page ≡ Met limits.Documents
    frame_met_documents so = documents_full _ _ full says is other tells so

    pub frame_roomy : other ≡ false → frame_room page ≡ Did tt
    frame_roomy so = both _ _ full says is other tells so

-- an element that isn't added where there is a number for it found no room
unready : (forest : Forest Described) (outcome : Result NodeId (TreeFault × Described)) → IfErr outcome (λ refused. IsAddFault forest (refused.0))
    → ((node : NodeId) → outcome ≡ Ok node → ⊥) → length forest.nodes ≢ forest.most_nodes → forest.ready ≡ false
unready forest (Ok node) why not_added below = absurd (not_added node refl)
unready forest (Err (Hierarchy, it)) why not_added below = absurd why
unready forest (Err (NotAChild, it)) why not_added below = absurd why
unready forest (Err (NodeLimit, it)) why not_added below = absurd (below why)
unready forest (Err (DepthLimit, it)) why not_added below = absurd why
unready forest (Err (Memory, it)) why not_added below = why.1

roomier : (count most : ℕ) (full : Bool) → full ≡ not (nat_lt count most) → full ≡ false → count < most
roomier count most full says is = grind (arith, nat_tests)

pub frame_unready : {version : Version} (old : PageElements) (forest : Forest Described) (documents : HeldDocuments) → seen_page version forest documents ≡ old
    → IsPage version forest documents → (full : Bool) → full ≡ not (has_element_room old) → full ≡ false
    → (outcome : Result NodeId (TreeFault × Described)) → IfErr outcome (λ refused. IsAddFault forest (refused.0)) → ((node : NodeId) → outcome ≡ Ok node → ⊥)
    → old.ready ≡ false
frame_unready {version} old forest documents seen is full says so outcome why not_added =
    let count : length forest.nodes ≡ length old.tree.elements
    = sym (length-map forest.nodes (element_of carried_in)) ∙ ap (λ (page : PageElements). length page.tree.elements) seen in
    let below : length old.tree.elements < limit_number old.version limits.Nodes = roomier (length old.tree.elements) (limit_number old.version limits.Nodes) full says so in
    let most : forest.most_nodes ≡ limit_number old.version limits.Nodes
    = is.most_nodes ∙ ap (λ (page : PageElements). limit_number page.version limits.Nodes) seen in
    sym (ap (λ (page : PageElements). page.ready) seen) ∙ unready forest outcome why not_added (λ same. omega arith)

pub element_roomy : (page : PageElements) (full : Bool) → full ≡ not (has_element_room page) → full ≡ false → element_room page ≡ Did tt
element_roomy page full says is = roomy (has_element_room page) (sym says ∙ is)
  where
    roomy : (below : Bool) → not below ≡ false → met_unless below limits.Nodes ≡ Did tt
    roomy true e = refl
    roomy false e = cc

pub few_documents : (page : PageElements) (full : Bool) → full ≡ not (nat_lt (length page.tree.documents) 64) → full ≡ false → length page.tree.documents < 65536
few_documents page full says is = let below : length page.tree.documents < 64 = grind (arith, nat_tests) in omega arith

-- `top` alone
pub opening_page : (version : Version) (forest : Forest Described) (documents : HeldDocuments) → forest.nodes ≡ [] → forest.most_nodes ≡ limit_number version limits.Nodes → forest.most_depth ≡ 256
    → documents ≡ record { held = record { state = Active; frame = None; root = None } ∷ []; most = 64 } → IsPage version forest documents
opening_page version forest documents empty nodes depth top = record {
  most_nodes = nodes;
  counted = let none : length forest.nodes ≡ 0 = ap length empty in omega arith;
  most_depth = depth;
  most_documents = ap (λ (it : HeldDocuments). it.most) top;
  framed =
      subst AreFramed
      (sym
      (ap (λ (nodes : List (Knot Described)). let tree : Tree = record { elements = map (element_of carried_in) nodes; documents = documents.held } in tree) empty
      ∙ ap (λ (it : HeldDocuments). let tree : Tree = record { elements = []; documents = it.held } in tree) top))
      (opening_framed version);
}
