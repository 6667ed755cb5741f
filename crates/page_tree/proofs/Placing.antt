-- Pre-inserting as the page judges it and as the tree does.
use Rattle.std.proofs.Common.{◌≡◌, ℕ, ◌+◌, List, Option, Some, None, Bool, true, false, not, cond, nat_eq, nat_le, nat_lt, refl, ap, sym, ◌∙◌, arith, is_some, eqb-true}
use Rattle.std.proofs.lemmas.Bool.Decides.{nat_tests}
use Rattle.text_io.specs.declared.kinds.ThrowKind.TheVariants.{HierarchyRequestError, NotFoundError}
use Rattle.text_io.specs.declared.kinds.LimitKind.TheVariants as limits
use Rattle.page_model.specs.World.{Document, Tree, Container, InElement, InDocument}
use Rattle.page_model.specs.Lookups.{element_at, document_at}
use Rattle.page_model.specs.Documents.{container_by, is_root_element, nodes_of, is_inclusive_ancestor, element_depth, levels_of, sibling_meant, next_after, inserted}
use Rattle.page_model.specs.Steps.{Step, Did, Threw, Met, ◌>>◌, throw_if, met_unless}
use Rattle.page_model.specs.Commands.{placing, would_hold_itself, is_container_of, is_no_child, is_full, container_depth}
use Rattle.element_tree.specs.declared.fault.TreeFault.{TreeFault}
use Rattle.element_tree.specs.declared.fault.TreeFault.TheVariants.{Hierarchy, NotAChild, DepthLimit}
use Rattle.element_tree.specs.Forest.{Forest, IsForest, names, parent_of, children_of, children_under, siblings_of, next_of, depth, height, is_ancestor}
use Rattle.element_tree.specs.Edits.{mark_of}
use Rattle.element_tree.specs.Answers.{too_deep}
use Rattle.element_tree.proofs.Levels.{names_some, height_bound}
use Rattle.element_tree.proofs.Depths.{depth_positive}
use Rattle.page_tree.specs.Items.{Described, carried_in}
use Rattle.page_documents.specs.Seen.{seen_tree}
use Rattle.page_documents.proofs.Seen.{parent_seen, children_seen}
use Rattle.page_tree.specs.Faults.{refusal}
use Rattle.page_tree.specs.Answers.{put_fault, mark_for, refusal_of}
use Rattle.page_tree.proofs.Siblings.{next_same}
use Rattle.page_tree.proofs.Paths.{depth_same, ancestor_same, levels_same}
use Rattle.page_tree.proofs.Places.{container_found}

-- what comes of the four questions, in their order
abbrev pub judged : Bool → Bool → Bool → Bool → Tree → Step Tree
judged true missing full fits later = Threw HierarchyRequestError
judged false true full fits later = Threw NotFoundError
judged false false true fits later = Threw HierarchyRequestError
judged false false false true later = Did later
judged false false false false later = Met limits.Depth

tried : (inside missing full fits : Bool) (later : Tree)
    → (throw_if inside HierarchyRequestError >> (throw_if missing NotFoundError >> (throw_if full HierarchyRequestError >> (met_unless fits limits.Depth >> Did later))))
    ≡ judged inside missing full fits later
unfolding ◌>>◌
tried true missing full fits later = refl
tried false true full fits later = refl
tried false false true fits later = refl
tried false false false true later = refl
tried false false false false later = refl

pub placing_judged : (tree : Tree) (container : Container) (n : ℕ) (sibling : Option ℕ) → placing container n sibling tree
    ≡ judged (would_hold_itself tree container n) (is_no_child tree container sibling) (is_full tree container) (nat_le (container_depth tree container + levels_of tree n) 256) (inserted tree container n sibling)
unfolding placing
placing_judged tree container n sibling = tried _ _ _ _ _

-- the tree's refusals
append_done : (inside deep : Bool) (later : Tree) → cond inside (Some Hierarchy) (cond deep (Some DepthLimit) None) ≡ None → judged inside false false (not deep) later ≡ Did later
append_done true deep later e = cc
append_done false true later e = cc
append_done false false later e = refl

append_refused : (inside deep : Bool) (later : Tree) (fault : TreeFault) → cond inside (Some Hierarchy) (cond deep (Some DepthLimit) None) ≡ Some fault → judged inside false false (not deep) later ≡ refusal (refusal_of fault)
append_refused true deep later fault e = let same : Hierarchy ≡ fault = cc in ap (λ it. refusal (refusal_of it)) same
append_refused false true later fault e = let same : DepthLimit ≡ fault = cc in ap (λ it. refusal (refusal_of it)) same
append_refused false false later fault e = cc

insert_done : (inside missing deep : Bool) (later : Tree) → cond inside (Some Hierarchy) (cond missing (Some NotAChild) (cond deep (Some DepthLimit) None)) ≡ None
    → (judged inside missing false (not deep) later ≡ Did later) × (missing ≡ false)
insert_done true missing deep later e = cc
insert_done false true deep later e = cc
insert_done false false true later e = cc
insert_done false false false later e = (refl, refl)

insert_refused : (inside missing deep : Bool) (later : Tree) (fault : TreeFault) → cond inside (Some Hierarchy) (cond missing (Some NotAChild) (cond deep (Some DepthLimit) None)) ≡ Some fault
    → judged inside missing false (not deep) later ≡ refusal (refusal_of fault)
insert_refused true missing deep later fault e = let same : Hierarchy ≡ fault = cc in ap (λ it. refusal (refusal_of it)) same
insert_refused false true deep later fault e = let same : NotAChild ≡ fault = cc in ap (λ it. refusal (refusal_of it)) same
insert_refused false false true later fault e = let same : DepthLimit ≡ fault = cc in ap (λ it. refusal (refusal_of it)) same
insert_refused false false false later fault e = cc

at_most : (a b : ℕ) → nat_le a b ≡ not (nat_lt b a)
at_most a b = grind (arith, nat_tests)

child_of : (p : ℕ) (parent : Option ℕ) (is_root : Bool) (document : ℕ) → is_container_of (InElement p) (container_by parent is_root document) ≡ names parent p
child_of p (Some q) is_root document = refl
child_of p None true document = refl
child_of p None false document = refl

module _ (forest : Forest Described) (documents : List Document) (most : forest.most_depth ≡ 256) (trees : IsForest forest.most_depth forest.nodes) where
  abbrev now : Tree
  now = seen_tree carried_in forest documents

  inside_same : (n p : ℕ) → would_hold_itself now (InElement p) n ≡ is_ancestor forest.nodes n p
  unfolding is_inclusive_ancestor
  inside_same n p = ancestor_same trees (nodes_of now) (parent_seen carried_in forest documents) n p

  pub depth_page : (n : ℕ) → element_depth (seen_tree carried_in forest documents) n ≡ depth forest.nodes n
  unfolding element_depth
  depth_page n = depth_same trees (nodes_of now) (parent_seen carried_in forest documents) n

  levels_page : (n : ℕ) → levels_of now n ≡ height forest.nodes n
  levels_page n = levels_same forest.nodes now (children_seen carried_in forest documents) n

  fits_same : (p n : ℕ) → nat_le (element_depth now p + levels_of now n) 256 ≡ not (too_deep forest p n)
  fits_same p n =
      ap (λ k. nat_le (k + levels_of now n) 256) (depth_page p)
      ∙ ap (λ k. nat_le (depth forest.nodes p + k) 256) (levels_page n)
      ∙ at_most (depth forest.nodes p + height forest.nodes n) 256
      ∙ ap (λ most. not (nat_lt most (depth forest.nodes p + height forest.nodes n))) (sym most)

  missing_same : (p sibling : ℕ) → is_no_child now (InElement p) (Some sibling) ≡ not (names (parent_of forest.nodes sibling) p)
  missing_same p sibling =
      ap (λ held. not (is_container_of (InElement p) held)) (container_found forest documents sibling)
      ∙ ap not (child_of p (parent_of forest.nodes sibling) (is_root_element now sibling) ((element_at now sibling).document))

  next_meant : (p n sibling : ℕ) → parent_of forest.nodes sibling ≡ Some p → (same : Bool) → nat_eq sibling n ≡ same
      → cond same (next_after n (element_at now p).children) (Some sibling) ≡ cond same (next_of n (siblings_of forest.nodes n)) (Some sibling)
  next_meant p n sibling held true is_same =
      ap (next_after n) (children_seen carried_in forest documents p)
      ∙ next_same n (children_of forest.nodes p)
      ∙ ap (λ parent. next_of n (children_under forest.nodes parent)) (sym held ∙ ap (parent_of forest.nodes) (eqb-true sibling n is_same))
  next_meant p n sibling held false is_same = refl

  meant_same : (p n sibling : ℕ) → parent_of forest.nodes sibling ≡ Some p → sibling_meant now (InElement p) n (Some sibling) ≡ mark_of n sibling forest.nodes
  meant_same p n sibling held =
      next_meant p n sibling held (nat_eq sibling n) refl
      ∙ (let turned : nat_eq sibling n ≡ nat_eq n sibling = grind (arith, nat_tests) in ap (λ same. cond same (next_of n (siblings_of forest.nodes n)) (Some sibling)) turned)

  judged_append : (p n : ℕ) → placing (InElement p) n None now ≡ judged (is_ancestor forest.nodes n p) false false (not (too_deep forest p n)) (inserted now (InElement p) n None)
  judged_append p n =
      placing_judged now (InElement p) n None
      ∙ ap (λ inside. judged inside false false (nat_le (element_depth now p + levels_of now n) 256) (inserted now (InElement p) n None)) (inside_same n p)
      ∙ ap (λ fits. judged (is_ancestor forest.nodes n p) false false fits (inserted now (InElement p) n None)) (fits_same p n)

  judged_insert : (p n sibling : ℕ) → placing (InElement p) n (Some sibling) now
      ≡ judged (is_ancestor forest.nodes n p) (not (names (parent_of forest.nodes sibling) p)) false (not (too_deep forest p n)) (inserted now (InElement p) n (Some sibling))
  judged_insert p n sibling =
      let later : Tree = inserted now (InElement p) n (Some sibling) in
      placing_judged now (InElement p) n (Some sibling)
      ∙ ap (λ inside. judged inside (is_no_child now (InElement p) (Some sibling)) false (nat_le (element_depth now p + levels_of now n) 256) later) (inside_same n p)
      ∙ ap (λ missing. judged (is_ancestor forest.nodes n p) missing false (nat_le (element_depth now p + levels_of now n) 256) later) (missing_same p sibling)
      ∙ ap (λ fits. judged (is_ancestor forest.nodes n p) (not (names (parent_of forest.nodes sibling) p)) false fits later) (fits_same p n)

  pub in_refused : (p n : ℕ) (sibling : Option ℕ) (fault : TreeFault) → put_fault forest p n sibling ≡ Some fault → placing (InElement p) n sibling (seen_tree carried_in forest documents) ≡ refusal (refusal_of fault)
  in_refused p n None fault e = judged_append p n ∙ append_refused (is_ancestor forest.nodes n p) (too_deep forest p n) _ fault e
  in_refused p n (Some sibling) fault e =
      judged_insert p n sibling ∙ insert_refused (is_ancestor forest.nodes n p) (not (names (parent_of forest.nodes sibling) p)) (too_deep forest p n) _ fault e

  not_missing : (b : Bool) → not b ≡ false → b ≡ true
  not_missing true e = refl
  not_missing false e = cc

  pub in_done : (p n : ℕ) (sibling : Option ℕ) → put_fault forest p n sibling ≡ None
      → placing (InElement p) n sibling (seen_tree carried_in forest documents) ≡ Did (inserted (seen_tree carried_in forest documents) (InElement p) n sibling)
  in_done p n None e = judged_append p n ∙ append_done (is_ancestor forest.nodes n p) (too_deep forest p n) _ e
  in_done p n (Some sibling) e =
      judged_insert p n sibling
      ∙ (insert_done (is_ancestor forest.nodes n p) (not (names (parent_of forest.nodes sibling) p)) (too_deep forest p n) (inserted now (InElement p) n (Some sibling)) e).0

  -- before which child it goes
  pub meant_in : (p n : ℕ) (sibling : Option ℕ) → put_fault forest p n sibling ≡ None
      → sibling_meant (seen_tree carried_in forest documents) (InElement p) n sibling ≡ mark_for n sibling forest.nodes
  meant_in p n None e = refl
  meant_in p n (Some sibling) e =
      meant_same p n sibling
      (names_some (parent_of forest.nodes sibling) p
      (not_missing _ (insert_done (is_ancestor forest.nodes n p) (not (names (parent_of forest.nodes sibling) p)) (too_deep forest p n) (inserted now (InElement p) n (Some sibling)) e).1))

  judged_top : (document n : ℕ) (sibling : Option ℕ) (missing : Bool) (root : Option ℕ) → missing ≡ is_no_child now (InDocument document) sibling → root ≡ (document_at now document).root
      → placing (InDocument document) n sibling now ≡ judged false missing (is_some root) (nat_le (0 + levels_of now n) 256) (inserted now (InDocument document) n sibling)
  judged_top document n sibling missing root e f =
      let fits : Bool = nat_le (0 + levels_of now n) 256 in
      let later : Tree = inserted now (InDocument document) n sibling in
      placing_judged now (InDocument document) n sibling
      ∙ ap (λ it. judged false it (is_some (document_at now document).root) fits later) (sym e)
      ∙ ap (λ (it : Option ℕ). judged false missing (is_some it) fits later) (sym f)

  module _ (document n : ℕ) (sibling : Option ℕ) (missing : Bool) (is : missing ≡ is_no_child (seen_tree carried_in forest documents) (InDocument document) sibling) where
    pub top_missing : missing ≡ true → placing (InDocument document) n sibling (seen_tree carried_in forest documents) ≡ Threw NotFoundError
    top_missing e =
        judged_top document n sibling missing _ is refl
        ∙ ap (λ it. judged false it (is_some (document_at now document).root) (nat_le (0 + levels_of now n) 256) (inserted now (InDocument document) n sibling)) e

    module _ (found : missing ≡ false) (root : Option ℕ) (rooted : root ≡ (document_at (seen_tree carried_in forest documents) document).root) where
      top_as : (full : Bool) → is_some root ≡ full
          → placing (InDocument document) n sibling now ≡ judged false false full (nat_le (0 + levels_of now n) 256) (inserted now (InDocument document) n sibling)
      top_as full e =
          let fits : Bool = nat_le (0 + levels_of now n) 256 in
          let later : Tree = inserted now (InDocument document) n sibling in
          judged_top document n sibling missing root is rooted
          ∙ ap (λ it. judged false it (is_some root) fits later) found ∙ ap (λ it. judged false false it fits later) e

      pub top_full : is_some root ≡ true → placing (InDocument document) n sibling (seen_tree carried_in forest documents) ≡ Threw HierarchyRequestError
      top_full e = top_as true e

      low : nat_le (0 + levels_of now n) 256 ≡ true
      low =
          let bound = height_bound trees n in
          let positive = depth_positive forest.nodes n in
          let deepest = most in
          let levels : levels_of now n ≡ height forest.nodes n = levels_page n in
          grind (arith, nat_tests)

      pub top_done : is_some root ≡ false
          → placing (InDocument document) n sibling (seen_tree carried_in forest documents) ≡ Did (inserted (seen_tree carried_in forest documents) (InDocument document) n sibling)
      top_done e =
          top_as false e
          ∙ ap (λ fits. judged false false false fits (inserted now (InDocument document) n sibling)) low
